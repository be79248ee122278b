-- What is read as a type rests on the tokens that are passed and on the next one.
use Rattle.std.proofs.Common.{◌≡◌, ℕ, zero, suc, ◌+◌, ◌<◌, true, if◌then◌else◌, List, ◌∷◌, ◌++◌, length, refl, arith}
use Rattle.std.specs.Prelude.{codes}
use Rattle.std.specs.Str.{bytes_eq}
use Rattle.xs_base.specs.Readers.{◌>>=◌, head_is, pure}
use Rattle.xs_ctok.specs.declared.token.Token.{Token}
use Rattle.xs_csyn.proofs.Local.{Local, Meant, NextTells, alike, bind, by_bool, by_test, eat_local, eat_yields, gives, here_local, moving, refused, same_first, take_local, taken_local, turned}
use Rattle.xs_csyn.proofs.MoreTurns.{stars_same}
use Rattle.xs_cinput.specs.TokenInput.{Input, Reader, is_type, line, next, refuse, sees_type, spelling}
use Rattle.xs_cinput.specs.TypeReader.{a_type, a_type_word, joined_name, joins, sees_join, stars, stars_from, type_name}
use Rattle.xs_cinput.specs.declared.tree.CType.{CType}

-- the name of a type after its first word
abbrev pub type_after : List ℕ → Reader (List ℕ)
type_after first = do
  second ← joined_name first
  name ← joined_name second
  if bytes_eq name (codes "signed") then refuse else pure name

abbrev pub type_then : ℕ → List ℕ → Reader CType
type_then line first = do
  name ← type_after first
  n ← stars
  pure (record { line = line; name = name; stars = n })

module _ (b : Input) where
  pub join_tells : (name : List ℕ) (ts : List Token) → NextTells b (sees_join name) ts
  unfolding sees_join
  join_tells name ts us k e = same_first (head_is (joins name)) (joins name) (λ t js. refl) ts us e

  joined_local : {s : Meant} (name : List ℕ) (ts : List Token) → Local s b (λ k. joined_name name) ts
  unfolding joined_name
  joined_local name ts =
      by_test (sees_join name) (join_tells name ts) (λ is. bind (take_local b ts) (λ word e. gives b (name ++ 32 ∷ word) _)) (λ isnt. gives b name ts)

  pub type_word_local : {s : Meant} (ts : List Token) → Local s b (λ k. a_type_word) ts
  unfolding sees_type
  type_word_local ts = alike (taken_local b (is_type b.types) ts) (λ us k e g. refl)

  pub type_name_local : {s : Meant} (ts : List Token) → Local s b (λ k. type_name) ts
  unfolding type_name
  type_name_local ts =
      bind (type_word_local ts)
      (λ first e. bind (joined_local first _)
      (λ second f. bind (joined_local second _)
      (λ name h. by_bool (bytes_eq name (codes "signed")) (λ is. refused b _) (λ isnt. gives b name _))))

  -- ---- after the first word, which is known to be a type's

  pub type_after_local : {s : Meant} (first : List ℕ) (ts : List Token) → Local s b (λ k. type_after first) ts
  type_after_local first ts =
      bind (joined_local first ts)
      (λ second f. bind (joined_local second _)
      (λ name h. by_bool (bytes_eq name (codes "signed")) (λ is. refused b _) (λ isnt. gives b name _)))

  pub type_name_first : (t : Token) (us : List Token) (k : ℕ) → is_type b.types t ≡ true
      → type_name (turned b k (t ∷ us)) ≡ type_after t.text (turned b k us)
  unfolding type_name sees_type next spelling
  type_name_first t us k is = rw is refl

  -- ---- stars

  stars_from_local : {s : Meant} (m n : ℕ) (ts : List Token) → length ts < m → Local s b (λ k. stars_from k n) ts
  unfolding stars_from
  stars_from_local zero n ts less = absurd (omega (arith, less))
  stars_from_local (suc m) n ts less =
      alike (bind (eat_local b (codes "*") ts)
      (λ is e. by_bool is (λ yes. moving (λ us c vs. c ≡ true → length vs < length us) (eat_local b (codes "*") ts) is e
      (λ k us. eat_yields (turned b k us) (codes "*") us) (λ us vs x. x yes)
      (λ fewer. stars_from_local m (n + 1) _ (omega (arith, less, fewer)))) (λ isnt. gives b n _)))
      (λ us k e g. stars_same (turned b k us) k (suc k) n us g.0 (omega (arith, g.0)))

  pub stars_local : {s : Meant} (ts : List Token) → Local s b (λ k. stars) ts
  unfolding stars
  stars_local ts = alike (stars_from_local (suc (length ts)) 0 ts (omega arith)) (λ us k e g. refl)

  pub type_local : {s : Meant} (ts : List Token) → Local s b (λ k. a_type) ts
  unfolding a_type
  type_local ts = bind (here_local b ts) (λ line e. bind (type_name_local _) (λ name f. bind (stars_local _) (λ n h.
      let to : CType = record { line = line; name = name; stars = n } in gives b to _)))

  -- ---- a type after its first word

  pub type_first : (t : Token) (us : List Token) (k : ℕ) → is_type b.types t ≡ true
      → a_type (turned b k (t ∷ us)) ≡ type_then t.span.line t.text (turned b k us)
  unfolding a_type line
  type_first t us k is = rw (type_name_first t us k is) refl

  pub type_then_local : {s : Meant} (line : ℕ) (first : List ℕ) (ts : List Token) → Local s b (λ k. type_then line first) ts
  type_then_local line first ts =
      bind (type_after_local first ts)
      (λ name e. bind (stars_local _) (λ n f. let to : CType = record { line = line; name = name; stars = n } in gives b to _))
