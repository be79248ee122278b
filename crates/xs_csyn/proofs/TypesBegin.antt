-- Where reading a type breaks off, the tokens that were passed begin one.
use Rattle.std.proofs.Common.{◌≡◌, ℕ, zero, suc, ◌+◌, ◌<◌, ◌==◌, Bool, true, false, if◌then◌else◌, List, [], ◌∷◌, ◌++◌, length, Ok, refl, ap, sym, ◌∙◌, arith}
use Rattle.std.proofs.lemmas.Slice.Eq.{bytes_eq-Decides}
use Rattle.std.specs.Prelude.{codes}
use Rattle.std.specs.Str.{bytes_eq}
use Rattle.xs_base.specs.Readers.{◌>>=◌, and_then, pure, tail}
use Rattle.xs_ctok.specs.declared.token.TokKind.TheVariants as kind
use Rattle.xs_ctok.specs.declared.token.Token.{Token}
use Rattle.xs_csyn.proofs.Breaks.{Viable, after_token, alike_viable, breaks_here, by_bool, finished, less_of, onward, read, step}
use Rattle.xs_csyn.proofs.TokenBreaks.{by_eat, by_here, by_type_word}
use Rattle.xs_csyn.proofs.ExpressionsSound.{type_name_yields, type_yields}
use Rattle.xs_csyn.proofs.Frames.{type_name_frame, type_rest_frame}
use Rattle.xs_csyn.proofs.Local.{Are, Meant, any, proper, turned}
use Rattle.xs_csyn.proofs.MoreTurns.{stars_same}
use Rattle.xs_csyn.proofs.TypesLocal.{join_tells, type_after, type_after_local, type_first, type_name_first, type_name_local, type_then}
use Rattle.xs_csyn.proofs.Yields.{Yields, at}
use Rattle.xs_csyn.specs.FaultPlaces.{SameNext}
use Rattle.xs_csyn.specs.TokenTexts.{IsSpelt, is_wordlike}
use Rattle.xs_csyn.specs.Grammar as g
use Rattle.xs_csyn.specs.Grammar.{AType, TypeName}
use Rattle.xs_cinput.specs.TokenInput.{Input, Outcome, Reader, is_type, line, next, refuse, spelling, text_at}
use Rattle.xs_cinput.specs.TypeReader.{a_type, join_table, joined_name, joins, sees_join, stars, stars_from, type_name}
use Rattle.xs_ctok.specs.CWords.{is_type_word}
use Rattle.xs_cinput.specs.declared.tree.CType.{CType}

-- ---- tokens that complete

-- a punctuator, and a word, beside a token
abbrev pub sign : Token → List ℕ → Token
sign x text = record x { kind = kind.Punct; text = text }

abbrev pub word : Token → List ℕ → Token
word x text = record x { kind = kind.Word; text = text }

-- they are spelt as such are
pub sign_spelt : (x : Token) (text : List ℕ) → is_wordlike text ≡ false → IsSpelt (sign x text)
sign_spelt x text e = ((λ h. absurd cc), (λ h. e))

pub word_spelt : (x : Token) (text : List ℕ) → is_wordlike text ≡ true → IsSpelt (word x text)
word_spelt x text e = ((λ h. e), (λ h. absurd cc))

pub with_sign : (s : Meant) (x : Token) (text : List ℕ) → is_wordlike text ≡ false → (us : List Token) → Are s us → Are s (sign x text ∷ us)
with_sign any x text e us a = tt
with_sign proper x text e us a = (sign_spelt x text e, a)

pub with_word : (s : Meant) (x : Token) (text : List ℕ) → is_wordlike text ≡ true → (us : List Token) → Are s us → Are s (word x text ∷ us)
with_word any x text e us a = tt
with_word proper x text e us a = (word_spelt x text e, a)

-- ---- types

pub int_is : (types : List (List ℕ)) (x : Token) → is_type types (word x (codes "int")) ≡ true
unfolding is_type_word
int_is types x = refl

pub char_joins : (x : Token) → joins (codes "signed") (word x (codes "char")) ≡ true
unfolding join_table
char_joins x = refl

abbrev has_blank : List ℕ → Bool
has_blank [] = false
has_blank (c ∷ cs) = if c == 32 then true else has_blank cs

blank_in : (xs ys : List ℕ) → has_blank (xs ++ 32 ∷ ys) ≡ true
blank_in [] ys = refl
blank_in (c ∷ xs) ys = by (c == 32) (blank_in xs ys)
  where
    by : (e : Bool) → has_blank (xs ++ 32 ∷ ys) ≡ true → (if e then true else has_blank (xs ++ 32 ∷ ys)) ≡ true
    by true h = refl
    by false h = h

-- two words are not one
not_signed : (xs ys : List ℕ) → bytes_eq (xs ++ 32 ∷ ys) (codes "signed") ≡ true → ⊥
not_signed xs ys e =
    let same : xs ++ 32 ∷ ys ≡ codes "signed" = (bytes_eq-Decides (xs ++ 32 ∷ ys) (codes "signed")).0 e in
    let wrong : has_blank (codes "signed") ≡ true = ap has_blank (sym same) ∙ blank_in xs ys in
    absurd cc

type_of_name : {types : List (List ℕ)} {name : List ℕ} {ts us : List Token} → TypeName types name ts us → (to : CType) × AType types to ts us
type_of_name (g.type_name (g.one_word i) isnt) = (_, g.a_type (g.type_name (g.one_word i) isnt) g.no_star)
type_of_name (g.type_name (g.two_words i j) isnt) = (_, g.a_type (g.type_name (g.two_words i j) isnt) g.no_star)
type_of_name (g.type_name (g.three_words i j k) isnt) = (_, g.a_type (g.type_name (g.three_words i j k) isnt) g.no_star)

-- `int` is a type
pub int_type : (types : List (List ℕ)) (x : Token) (us : List Token)
    → AType types (record { line = x.span.line; name = codes "int"; stars = 0 }) (word x (codes "int") ∷ us) us
int_type types x us = g.a_type (g.type_name (g.one_word (int_is types x)) refl) g.no_star

-- a word that goes on with the name of a type is taken
by_join : {s : Meant} {A : Type 0} {x : Token} {m : ℕ} {Text : ℕ → List Token → Type 0} {b : Input} {d : List Token → List Token} (name : List ℕ)
    (ts : List Token)
    (go : ℕ → List ℕ → Reader A)
    → ((u : Token) (us : List Token) → joins name u ≡ true → Viable s x (suc m) Text b (λ js. d (u ∷ js)) (λ k. go k (name ++ 32 ∷ u.text)) us)
    → Viable s x (suc m) Text b d (λ k. go k name) ts → Viable s x (suc m) Text b d (λ k i. and_then (joined_name name i) (go k)) ts
unfolding joined_name sees_join next spelling
by_join {s} {A} {x} {m} {Text} {b} {d} name [] go h v = alike_viable v (λ us k n g. at_end us k n)
  where
    at_end : (us : List Token) (k : ℕ) → SameNext [] us → and_then (joined_name name (turned b k us)) (go k) ≡ go k name (turned b k us)
    at_end [] k n = refl
    at_end (t ∷ us) k n = absurd n
by_join {s} {A} {x} {m} {Text} {b} {d} name (u ∷ us) go h v = by (joins name u) refl
  where
    taken : ℕ → Bool → List ℕ → Input → Input → Outcome A
    taken k c more i j = and_then (if c then Ok (more, i) else Ok (name, j)) (go k)

    by : (c : Bool) → joins name u ≡ c → Viable s x (suc m) Text b d (λ k i. and_then (joined_name name i) (go k)) (u ∷ us)
    by true e = after_token u (h u us e) (λ js k n g. ap (λ c. taken k c (name ++ 32 ∷ u.text) (turned b k js) (turned b k (u ∷ js))) e)
    by false e =
        alike_viable v (λ js k n g. ap (λ c. taken k c (name ++ 32 ∷ text_at js) (turned b k (tail js)) (turned b k js))
        (join_tells b name (u ∷ us) js k n ∙ e))

-- the end of a type's name
type_end : {s : Meant} {x : Token} {m : ℕ} {Text : ℕ → List Token → Type 0} {b : Input} {d : List Token → List Token} (name : List ℕ) (us : List Token)
    → (bytes_eq name (codes "signed") ≡ true → (more : List Token) × Text 0 (d more))
    → Viable s x (suc m) Text b d (λ k. if bytes_eq name (codes "signed") then refuse else pure name) us
type_end name us more =
    by_bool (bytes_eq name (codes "signed")) (λ e. let c = more e in breaks_here c.0 c.1 (λ us k n. refl)) (λ isnt. read refl)

-- stars end before their turns do
stars_from_viable : {s : Meant} {x : Token} {m : ℕ} {Text : ℕ → List Token → Type 0} {b : Input} {d : List Token → List Token} (n c : ℕ) (ts : List Token)
    → length ts < n
    → Viable s x (suc m) Text b d (λ k. stars_from k c) ts
unfolding stars_from
stars_from_viable zero c ts few = absurd (omega (arith, few))
stars_from_viable {s} {x} {m} {Text} {b} {d} (suc n) c ts few =
    alike_viable {p = λ k. stars_from (suc k) c}
    (by_eat (codes "*") ts (λ u us less is. stars_from_viable n (c + 1) us (omega (arith, few, less_of less))) (read refl))
    (λ us k e g. stars_same (turned b k us) k (suc k) c us g.0 (omega (arith, g.0)))

pub stars_viable : {s : Meant} {x : Token} {m : ℕ} {Text : ℕ → List Token → Type 0} {b : Input} {d : List Token → List Token} (ts : List Token)
    → Viable s x (suc m) Text b d (λ k. stars) ts
unfolding stars
stars_viable ts = alike_viable {p = λ k. stars_from k 0} (stars_from_viable (suc (length ts)) 0 ts (omega arith)) (λ us k e g. refl)

-- a type on this line
abbrev type_on : ℕ → Reader CType
type_on line = do
  name ← type_name
  n ← stars
  pure (record { line = line; name = name; stars = n })

-- what is read after the first word
pub type_after_yields : (b : Input) (t : Token) → is_type b.types t ≡ true → (ts : List Token)
    → Yields b (type_after t.text (at b ts)) (λ n us. TypeName b.types n (t ∷ ts) us)
type_after_yields b t is ts = record { gives = λ a k e. (type_name_yields b (t ∷ ts)).gives a k (type_name_first b t ts b.turns is ∙ e) }

pub type_then_yields : (b : Input) (t : Token) → is_type b.types t ≡ true → (ts : List Token)
    → Yields b (type_then t.span.line t.text (at b ts)) (λ to us. AType b.types to (t ∷ ts) us)
type_then_yields b t is ts = record { gives = λ a k e. (type_yields b (t ∷ ts)).gives a k (type_first b t ts b.turns is ∙ e) }

module _ {s : Meant} (Text : ℕ → List Token → Type 0) (b : Input) (x : Token) where
  -- after the first word
  pub type_after_begins : {m : ℕ} (t : Token) → is_type b.types t ≡ true → (d : List Token → List Token) (us : List Token)
      → ((name : List ℕ) (ws : List Token) → TypeName b.types name ws us → Text 0 (d ws))
      → (ts : List Token) → Viable s x (suc m) Text b (λ js. d (t ∷ js)) (λ k. type_after t.text) ts
  type_after_begins t is d us fin ts =
      by_join t.text ts _
      (λ u ls j. by_join (t.text ++ 32 ∷ u.text) ls _
      (λ v ms j'. type_end ((t.text ++ 32 ∷ u.text) ++ 32 ∷ v.text) ms (λ e. absurd (not_signed (t.text ++ 32 ∷ u.text) v.text e)))
      (type_end (t.text ++ 32 ∷ u.text) ls (λ e. absurd (not_signed t.text u.text e))))
      (by_join t.text ts _ (λ u ls j. type_end (t.text ++ 32 ∷ u.text) ls (λ e. absurd (not_signed t.text u.text e))) (type_end t.text ts signed))
    where
      signed : bytes_eq t.text (codes "signed") ≡ true → (more : List Token) × Text 0 (d (t ∷ more))
      signed e =
          let same : t.text ≡ codes "signed" = (bytes_eq-Decides t.text (codes "signed")).0 e in
          let joined : joins t.text (word x (codes "char")) ≡ true = rw same (char_joins x) in
          let isnt : bytes_eq (t.text ++ 32 ∷ codes "char") (codes "signed") ≡ false = rw same refl in
          (word x (codes "char") ∷ us, fin _ (t ∷ word x (codes "char") ∷ us) (g.type_name (g.two_words is joined) isnt))

  pub type_name_begins : {m : ℕ} (d : List Token → List Token) (us : List Token)
      → ((name : List ℕ) (ws : List Token) → TypeName b.types name ws us → Text 0 (d ws))
      → (ts : List Token) → Viable s x (suc m) Text b d (λ k. type_name) ts
  unfolding type_name
  type_name_begins d us fin ts =
      by_type_word ts _ (word x (codes "int") ∷ us) (fin _ (word x (codes "int") ∷ us) (g.type_name (g.one_word (int_is b.types x)) refl))
      (λ t ks less is. type_after_begins t is d us fin ks)

  pub type_begins : {m : ℕ} (d : List Token → List Token) (us : List Token) → ((to : CType) (ws : List Token) → AType b.types to ws us → Text 0 (d ws))
      → (ts : List Token) → Viable s x (suc m) Text b d (λ k. a_type) ts
  unfolding a_type
  type_begins d us fin ts =
      by_here (λ k. type_on) (step (type_name_local b ts) (type_name_yields b ts)
      (type_name_begins d us (λ name ws q. let to = type_of_name q in fin to.0 ws to.1) ts)
      (λ name ks q. onward (type_name_frame q) (finished _ (stars_viable ks))))

  -- a type after its first word
  pub type_then_begins : {m : ℕ} (t : Token) → is_type b.types t ≡ true → (d : List Token → List Token) (us : List Token)
      → ((to : CType) (ws : List Token) → AType b.types to ws us → Text 0 (d ws))
      → (ts : List Token) → Viable s x (suc m) Text b (λ js. d (t ∷ js)) (λ k. type_then t.span.line t.text) ts
  type_then_begins t is d us fin ts =
      step (type_after_local b t.text ts) (type_after_yields b t is ts)
      (type_after_begins t is d us (λ name ws q. let to = type_of_name q in fin to.0 ws to.1) ts)
      (λ name ks q. onward (type_rest_frame q) (finished _ (stars_viable ks)))
