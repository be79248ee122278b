-- What stands at the front of a line's rest is spelled as the rules say, and what is spelled so stands there.
use Rattle.std.proofs.Common.{◌≡◌, ℕ, zero, suc, ◌+◌, ◌<◌, ◌==◌, ◌&&◌, ◌||◌, Bool, true, false, not, List, [], ◌∷◌, ◌++◌, length, drop, map, refl, ap, sym, ◌∙◌, subst, arith, append_assoc, append-nil}
use Rattle.std.proofs.lemmas.Bool.{and_from, and_parts, eqb-true, false_from_ne_true, or_left}
use Rattle.std.proofs.lemmas.Bool.Decides.{nat_tests}
use Rattle.std.proofs.lemmas.List.{length-append}
use Rattle.std.specs.List.{list_all}
use Rattle.std.specs.Prelude.{◌-◌, codes, if◌then◌else◌, nat_lt}
use Rattle.xs_base.specs.ByteRuns as runs
use Rattle.xs_base.specs.ByteRuns.{after_run}
use Rattle.xs_base.specs.declared.byte_runs.ByteClass.TheVariants as class
use Rattle.xs_base.specs.declared.fault_codes.TheConstants.{DEFINE_NOT_TAKEN, FLOATING_POINT_IN_C, STRAY_BYTE}
use Rattle.xs_base.specs.Readers.{head_is}
use Rattle.xs_base.specs.Scanning.{begins_word, is_ascii_digit, is_blank, is_identifier, is_word_byte}
use Rattle.xs_base.proofs.FrontRuns.{after_stops, front_after, front_belongs, front_seam}
use Rattle.xs_base.proofs.WordBytes.{digit_not_word, not_this, word_not_blank}
use Rattle.std.specs.Str.{bytes_eq}
use Rattle.xs_ctok.specs.Directives.{after_gap, after_word, define_fault, define_front, defined, directive_front, integer_define, is_no_context, is_over, may_define, named_define, valued_by, valued_define, word_in}
use Rattle.xs_ctok.specs.declared.directives.Gap.TheVariants as gap
use Rattle.xs_ctok.specs.Fronts.{dot_front, front_of, hash_front, integer_front, integer_token, slash_front, token_front, word_front}
use Rattle.xs_ctok.specs.Numerals.{number_front}
use Rattle.xs_ctok.specs.Punctuators.{is_double, is_single, is_triple, punctuator_front, punctuator_len, punctuator_of}
use Rattle.xs_ctok.specs.QuotedTexts.{char_front, closed_front, escape_of, escaped_front, on_escape, text_front}
use Rattle.xs_ctok.specs.TokenSpelling as sp
use Rattle.xs_ctok.specs.TokenSpelling.{IsHead, IsPunctuator, Stands, is_no_punctuator, is_punctuator}
use Rattle.xs_ctok.specs.declared.front.Front.{Front}
use Rattle.xs_ctok.specs.declared.front.Front.TheVariants as front
use Rattle.xs_ctok.specs.declared.numerals.NumberFront.{NumberFront}
use Rattle.xs_ctok.specs.declared.numerals.NumberFront.TheVariants as number
use Rattle.xs_ctok.specs.declared.quoted.Escape.{Escape}
use Rattle.xs_ctok.specs.declared.quoted.Escape.TheVariants as escape
use Rattle.xs_ctok.specs.declared.punctuators.TheConstants.{DOUBLES, SINGLES, TRIPLES}
use Rattle.xs_ctok.specs.declared.token.Literal.{Literal}
use Rattle.xs_ctok.specs.declared.token.TokKind.{TokKind}
use Rattle.xs_ctok.specs.declared.token.TokKind.TheVariants as kind
use Rattle.xs_ctok.proofs.DirectivesSpelled.{define_done, directive_at, directive_sound, include_done, no_context_done}
use Rattle.xs_ctok.proofs.EscapesSpelled.{char_done, char_sound, text_done, text_sound}
use Rattle.xs_ctok.proofs.IntegersSpelled.{integer_begins, integer_done, integer_some, integer_sound}
use Rattle.xs_ctok.proofs.PunctuatorsSpelled.{among_has, punctuator_done, punctuator_sound}
use Rattle.xs_ctok.proofs.Facts.{or_none}

-- ---- bytes that begin a token

front_plain : (fresh : Bool) (b : ℕ) (bs : List ℕ) → is_blank b ≡ false → (b == 47) ≡ false → (b == 35) ≡ false
    → front_of fresh (b ∷ bs) ≡ token_front b (b ∷ bs) bs
unfolding front_of
front_plain fresh b bs blank slash hash = rw (blank, slash, hash) refl

word_plain : (p : ℕ → Bool) (b c : ℕ) → p c ≡ false → p b ≡ true → (b == c) ≡ false
word_plain p b c other h = not_this p c other b h

front_word : (fresh : Bool) (b : ℕ) (bs : List ℕ) → begins_word b ≡ true → front_of fresh (b ∷ bs) ≡ word_front (b ∷ bs)
unfolding token_front
front_word fresh b bs h =
    front_plain fresh b bs (word_not_blank b (or_left (begins_word b) (is_ascii_digit b) h)) (word_plain begins_word b 47 refl h)
    (word_plain begins_word b 35 refl h)
    ∙ rw h refl

digit_plain : (d : ℕ) → is_ascii_digit d ≡ true → is_blank d ≡ false
digit_plain d h = grind (arith, nat_tests)

pub front_digit : (fresh : Bool) (b : ℕ) (bs : List ℕ) → is_ascii_digit b ≡ true → front_of fresh (b ∷ bs) ≡ integer_front (b ∷ bs)
unfolding token_front
front_digit fresh b bs h =
    front_plain fresh b bs (digit_plain b h) (word_plain is_ascii_digit b 47 refl h) (word_plain is_ascii_digit b 35 refl h) ∙ rw (digit_not_word b h, h) refl

pub front_quote : (fresh : Bool) (bs : List ℕ) → front_of fresh (34 ∷ bs) ≡ text_front [] 1 0 bs
unfolding front_of token_front
front_quote fresh bs = refl

front_char : (fresh : Bool) (bs : List ℕ) → front_of fresh (39 ∷ bs) ≡ char_front bs
unfolding front_of token_front
front_char fresh bs = refl

front_hash : (bs : List ℕ) → front_of true (35 ∷ bs) ≡ directive_front (35 ∷ bs) bs
unfolding front_of
front_hash bs = refl

-- ---- punctuators

-- a byte of which a punctuator may begin
abbrev is_sign : ℕ → Bool
is_sign b = not (is_blank b || (b == 35 || (begins_word b || (is_ascii_digit b || (b == 34 || b == 39)))))

abbrev begins_sign : List ℕ → Bool
begins_sign p = head_is is_sign p

sign_first : (p : List ℕ) → is_punctuator p ≡ true → begins_sign p ≡ true
sign_first p h = by (is_triple p) (is_double p) refl refl h
  where
    by : (s t : Bool) → is_triple p ≡ s → is_double p ≡ t → (s || (t || is_single p)) ≡ true → begins_sign p ≡ true
    by true t e f h = among_has begins_sign (map (λ q. q.now) TRIPLES) p refl e
    by false true e f h = among_has begins_sign (map (λ q. q.now) DOUBLES) p refl f
    by false false e f h = among_has begins_sign (map (λ q. q.now) SINGLES) p refl h

record Sign (b : ℕ) : Type 0 where
  blank : is_blank b ≡ false
  hash : (b == 35) ≡ false
  word : begins_word b ≡ false
  digit : is_ascii_digit b ≡ false
  quote : (b == 34) ≡ false
  apostrophe : (b == 39) ≡ false

sign_is : (b : ℕ) → is_sign b ≡ true → Sign b
sign_is b h =
    record {
      blank = grind (arith, nat_tests);
      hash = grind (arith, nat_tests);
      word = grind (arith, nat_tests);
      digit = grind (arith, nat_tests);
      quote = grind (arith, nat_tests);
      apostrophe = grind (arith, nat_tests);
    }

-- what stands at the front where a punctuator does
front_sign : (fresh : Bool) (b : ℕ) (bs : List ℕ) → Sign b → is_no_punctuator (b ∷ bs) ≡ false → front_of fresh (b ∷ bs) ≡ punctuator_front (b ∷ bs)
unfolding front_of token_front
front_sign fresh b bs s other =
    by_slash (b == 47) refl
    (or_none (b == 47 && (head_is (λ c. c == 47) bs || head_is (λ c. c == 42) bs)) (b == 46 && head_is is_ascii_digit bs) other)
  where
    by_dot : (t : Bool) → (b == 46) ≡ t → (t && head_is is_ascii_digit bs) ≡ false
        → (if t then dot_front (b ∷ bs) bs else punctuator_front (b ∷ bs)) ≡ punctuator_front (b ∷ bs)
    by_dot true e h = rw h refl
    by_dot false e h = refl

    by_slash : (t : Bool) → (b == 47) ≡ t
        → ((t && (head_is (λ c. c == 47) bs || head_is (λ c. c == 42) bs)) ≡ false) × ((b == 46 && head_is is_ascii_digit bs) ≡ false)
        → (if is_blank b then front.Blank else (if t then slash_front (b ∷ bs) bs
        else (if b == 35 then hash_front fresh (b ∷ bs) bs else token_front b (b ∷ bs) bs))) ≡ punctuator_front (b ∷ bs)
    by_slash true e h =
        let p = or_none (head_is (λ c. c == 47) bs) (head_is (λ c. c == 42) bs) h.0 in
        rw (s.blank, p.0, p.1) refl
    by_slash false e h = rw (s.blank, s.hash, s.word, s.digit, s.quote, s.apostrophe) (by_dot (b == 46) refl h.1)

size_some : (p : List ℕ) → is_punctuator p ≡ true → 0 < length p
size_some [] h = absurd cc
size_some (b ∷ p) h = omega arith

-- ---- what is spelled stands at the front

pub stands_some : {fresh : Bool} {k : TokKind} {t rest : List ℕ} → Stands fresh k t rest → 0 < length t
stands_some (sp.word {t = []} h stop) = absurd cc
stands_some (sp.word {t = b ∷ bs} h stop) = omega arith
stands_some (sp.integer {literal = l} {t = t} {rest = rest} x) = integer_some l t rest x
stands_some (sp.character x) = omega arith
stands_some (sp.text x) = omega arith
stands_some (sp.punctuator {t = t} x) = size_some t x.listed
stands_some (sp.include before more blank stop) = omega arith
stands_some (sp.no_context {head = head} x stop over) = omega (arith, length-append head (codes "PERL_NO_GET_CONTEXT"))
stands_some (sp.define {head = head} {name = name} {gap = g} {number = t} x named free blank some number over) =
    omega (arith, length-append head (name ++ (g ++ t)), length-append name (g ++ t), length-append g t, some)

word_done : (fresh : Bool) (t rest : List ℕ) → is_identifier t ≡ true → head_is is_word_byte rest ≡ false
    → front_of fresh (t ++ rest) ≡ front.Piece kind.Word (length t)
word_done fresh [] rest h stop = absurd cc
word_done fresh (b ∷ bs) rest h stop =
    let p = and_parts (begins_word b) (list_all is_word_byte bs) h in
    let w : is_word_byte b ≡ true = or_left (begins_word b) (is_ascii_digit b) p.0 in
    front_word fresh b (bs ++ rest) p.0
    ∙ ap (λ (k : List ℕ). front.Piece kind.Word (length k))
    (front_seam class.Word (b ∷ bs) rest (and_from (is_word_byte b) (list_all is_word_byte bs) w p.1) stop)

integer_front_done : (fresh : Bool) (text : List ℕ) (l : Literal) (len : ℕ) → head_is is_ascii_digit text ≡ true → number_front text ≡ number.Integer l len
    → front_of fresh text ≡ front.Piece (kind.Int l) len
integer_front_done fresh [] l len h e = absurd cc
integer_front_done fresh (b ∷ bs) l len h e = front_digit fresh b bs h ∙ rw e refl

not_zero : (n : ℕ) → (suc n == 0) ≡ false
not_zero n = false_from_ne_true (suc n == 0) (λ e. omega (arith, eqb-true (suc n) 0 e))

some_punctuator : (n : ℕ) → 0 < n → punctuator_of n ≡ front.Piece kind.Punct n
some_punctuator zero h = absurd (omega arith)
some_punctuator (suc n) h = rw (not_zero n) refl

punctuator_front_done : (fresh : Bool) (t rest : List ℕ) → IsPunctuator t rest → front_of fresh (t ++ rest) ≡ front.Piece kind.Punct (length t)
punctuator_front_done fresh [] rest x = absurd (omega (arith, size_some [] x.listed))
punctuator_front_done fresh (b ∷ t) rest x =
    let found : punctuator_front (b ∷ (t ++ rest)) ≡ front.Piece kind.Punct (length (b ∷ t)) =
    ap punctuator_of (punctuator_done (b ∷ t) rest x) ∙ some_punctuator (length (b ∷ t)) (omega arith) in
    front_sign fresh b (t ++ rest) (sign_is b (sign_first (b ∷ t) x.listed)) x.no_other ∙ found

directive_done : (text : List ℕ) (k : TokKind) (n : ℕ) → directive_at text ≡ front.Piece k n → head_is (λ c. c == 35) text ≡ true
    → front_of true text ≡ front.Piece k n
directive_done [] k n h e = absurd cc
directive_done (b ∷ bs) k n h e =
    let hash : b ≡ 35 = eqb-true b 35 e in
    let at : directive_front (35 ∷ bs) bs ≡ front.Piece k n = subst (λ c. directive_at (c ∷ bs) ≡ front.Piece k n) hash h in
    subst (λ c. front_of true (c ∷ bs) ≡ front.Piece k n) (sym hash) (front_hash bs ∙ at)

head_hash : (head rest : List ℕ) → IsHead head → head_is (λ c. c == 35) (head ++ rest) ≡ true
head_hash head rest x = ap (λ (k : List ℕ). head_is (λ c. c == 35) (k ++ rest)) x.spelled

pub front_done : {fresh : Bool} {k : TokKind} {t rest : List ℕ} → Stands fresh k t rest → front_of fresh (t ++ rest) ≡ front.Piece k (length t)
front_done {fresh = fresh} (sp.word {t = t} {rest = rest} h stop) = word_done fresh t rest h stop
front_done {fresh = fresh} (sp.integer {literal = l} {t = t} {rest = rest} x) =
    integer_front_done fresh (t ++ rest) l (length t) (integer_begins l t rest x) (integer_done l t rest x)
front_done {fresh = fresh} (sp.character {value = value} {s = s} {rest = rest} x) =
    front_char fresh ((s ++ 39 ∷ []) ++ rest) ∙ ap char_front (append_assoc s (39 ∷ []) rest) ∙ char_done x
    ∙ ap (λ n. front.Piece (kind.Char value) n) (omega (arith, length-append s (39 ∷ [])))
front_done {fresh = fresh} (sp.text {s = s} {bytes = bytes} {rest = rest} x) =
    front_quote fresh ((s ++ 34 ∷ []) ++ rest) ∙ ap (text_front [] 1 0) (append_assoc s (34 ∷ []) rest) ∙ text_done x [] 1
    ∙ ap (λ n. front.Piece (kind.Text bytes) n) (omega (arith, length-append s (34 ∷ [])))
front_done {fresh = fresh} (sp.punctuator {t = t} {rest = rest} x) = punctuator_front_done fresh t rest x
front_done (sp.include before more blank stop) =
    let t = 35 ∷ (before ++ (codes "include" ++ more)) in
    ap (front_of true) (append-nil t) ∙ directive_done t kind.Include (length t) (include_done before more blank stop) refl
front_done (sp.no_context {head = head} {rest = rest} x stop over) =
    let name = codes "PERL_NO_GET_CONTEXT" in
    ap (front_of true) (append_assoc head name rest)
    ∙ directive_done (head ++ (name ++ rest)) kind.Include (length (head ++ name)) (no_context_done head rest x stop over) (head_hash head (name ++ rest) x)
front_done (sp.define {head = head} {name = name} {gap = g} {number = t} {rest = rest} {literal = l} x named free blank some number over) =
    let split : (head ++ (name ++ (g ++ t))) ++ rest ≡ head ++ (name ++ (g ++ (t ++ rest))) =
    append_assoc head (name ++ (g ++ t)) rest ∙ ap (λ (k : List ℕ). head ++ k) (append_assoc name (g ++ t) rest)
    ∙ ap (λ (k : List ℕ). head ++ (name ++ k)) (append_assoc g t rest) in
    ap (front_of true) split
    ∙ directive_done (head ++ (name ++ (g ++ (t ++ rest)))) (kind.Define name l) (length (head ++ (name ++ (g ++ t))))
    (define_done head name g t rest l x named free blank some number over) (head_hash head (name ++ (g ++ (t ++ rest))) x)

-- ---- what stands at the front is spelled

-- a token in front of bytes
abbrev pub FrontEnds : Bool → List ℕ → TokKind → ℕ → Type 0
FrontEnds fresh text k n = (t : List ℕ) × (rest : List ℕ) × (text ≡ t ++ rest) × (n ≡ length t) × Stands fresh k t rest

-- What a front says of a text.
abbrev pub Tells : Bool → List ℕ → Front → Type 0
Tells fresh text front.Blank = head_is is_blank text ≡ true
Tells fresh text front.LineComment = (more : List ℕ) × (text ≡ 47 ∷ 47 ∷ more)
Tells fresh text front.Comment = (more : List ℕ) × (text ≡ 47 ∷ 42 ∷ more)
Tells fresh text (front.Piece k n) = FrontEnds fresh text k n
Tells fresh text (front.Refused code) = Unit {0}

-- what a front that is none of the others tells
tells_piece : (fresh : Bool) (text : List ℕ) (f : Front) → ((k : TokKind) (n : ℕ) → f ≡ front.Piece k n → FrontEnds fresh text k n)
    → (f ≡ front.Blank → ⊥) → (f ≡ front.LineComment → ⊥) → (f ≡ front.Comment → ⊥) → Tells fresh text f
tells_piece fresh text front.Blank piece blank line comment = absurd (blank refl)
tells_piece fresh text front.LineComment piece blank line comment = absurd (line refl)
tells_piece fresh text front.Comment piece blank line comment = absurd (comment refl)
tells_piece fresh text (front.Piece k n) piece blank line comment = piece k n refl
tells_piece fresh text (front.Refused code) piece blank line comment = tt

punctuator_case : (fresh : Bool) (text : List ℕ) → is_no_punctuator text ≡ false → Tells fresh text (punctuator_front text)
punctuator_case fresh text other = by (punctuator_len text) refl
  where
    by : (n : ℕ) → punctuator_len text ≡ n → Tells fresh text (punctuator_of n)
    by zero e = tt
    by (suc n) e =
        let x = punctuator_sound text (suc n) (omega arith) e other in
        subst (λ f. Tells fresh text f) (sym (some_punctuator (suc n) (omega arith))) (x.0, x.1, x.2, x.3, sp.punctuator x.4)

integer_case : (fresh : Bool) (text : List ℕ) → head_is is_ascii_digit text ≡ true → Tells fresh text (integer_front text)
integer_case fresh text digit = by (number_front text) refl
  where
    by : (f : NumberFront) → number_front text ≡ f → Tells fresh text (integer_token f)
    by (number.Integer l len) e =
        let x = integer_sound text l len digit e in
        (x.0, x.1, x.2, x.3, sp.integer x.4)
    by (number.Refused code) e = tt

word_case : (fresh : Bool) (b : ℕ) (bs : List ℕ) → begins_word b ≡ true → Tells fresh (b ∷ bs) (word_front (b ∷ bs))
word_case fresh b bs h =
    let t = runs.front_of class.Word (b ∷ bs) in
    let rest = after_run class.Word (b ∷ bs) in
    let w : is_word_byte b ≡ true = or_left (begins_word b) (is_ascii_digit b) h in
    let is : t ≡ b ∷ runs.front_of class.Word bs = rw w refl in
    let named : is_identifier t ≡ true =
    ap is_identifier is ∙ and_from (begins_word b) (list_all is_word_byte (runs.front_of class.Word bs)) h (front_belongs class.Word bs) in
    (t, rest, sym (front_after class.Word (b ∷ bs)), refl, sp.word named (after_stops class.Word (b ∷ bs)))

-- a text in quotes is never another front
text_never : (bs content : List ℕ) (n skip : ℕ) → (text_front content n skip bs ≡ front.Blank → ⊥) × (text_front content n skip bs ≡ front.LineComment → ⊥)
    × (text_front content n skip bs ≡ front.Comment → ⊥)
text_never [] content n skip = (λ e. absurd cc, λ e. absurd cc, λ e. absurd cc)
text_never (b ∷ bs) content n (suc skip) = text_never bs content (n + 1) skip
text_never (b ∷ bs) content n zero = by (λ v m. text_never bs (content ++ v ∷ []) (n + 1) m) (b == 34) (b == 92) (escape_of bs)
  where
    by : ((v m : ℕ) → (text_front (content ++ v ∷ []) (n + 1) m bs ≡ front.Blank → ⊥) × (text_front (content ++ v ∷ []) (n + 1) m bs ≡ front.LineComment → ⊥)
        × (text_front (content ++ v ∷ []) (n + 1) m bs ≡ front.Comment → ⊥)) → (q s : Bool) (e : Escape)
        → let f = if q then front.Piece (kind.Text content) (n + 1)
        else (if s then on_escape e (λ value size. text_front (content ++ value ∷ []) (n + 1) size bs) else text_front (content ++ b ∷ []) (n + 1) 0 bs) in
        (f ≡ front.Blank → ⊥) × (f ≡ front.LineComment → ⊥) × (f ≡ front.Comment → ⊥)
    by again true s e = (λ h. absurd cc, λ h. absurd cc, λ h. absurd cc)
    by again false true (escape.Stands v m) = again v m
    by again false true escape.Unlisted = (λ h. absurd cc, λ h. absurd cc, λ h. absurd cc)
    by again false true escape.Open = (λ h. absurd cc, λ h. absurd cc, λ h. absurd cc)
    by again false false e = again b 0

quote_case : (fresh : Bool) (bs : List ℕ) → Tells fresh (34 ∷ bs) (text_front [] 1 0 bs)
quote_case fresh bs =
    let never = text_never bs [] 1 0 in
    tells_piece fresh (34 ∷ bs) (text_front [] 1 0 bs) (λ k n e.
    let x = text_sound bs [] 1 0 k n e in (
      34 ∷ (x.0 ++ 34 ∷ []),
      x.2,
      ap (λ (l : List ℕ). 34 ∷ l) (x.3 ∙ sym (append_assoc x.0 (34 ∷ []) x.2)),
      omega (arith, x.6, length-append x.0 (34 ∷ [])),
      subst (λ m. Stands fresh m (34 ∷ (x.0 ++ 34 ∷ [])) x.2) (sym x.5) (sp.text x.4),
    )) never.0 never.1 never.2

-- neither is a character
closed_never : (value n : ℕ) (bs : List ℕ) → (closed_front value n bs ≡ front.Blank → ⊥) × (closed_front value n bs ≡ front.LineComment → ⊥)
    × (closed_front value n bs ≡ front.Comment → ⊥)
closed_never value n [] = (λ e. absurd cc, λ e. absurd cc, λ e. absurd cc)
closed_never value n (b ∷ bs) = by (b == 39)
  where
    by : (t : Bool) → let f = if t then front.Piece (kind.Char value) (n + 1) else front.Refused STRAY_BYTE in
        (f ≡ front.Blank → ⊥) × (f ≡ front.LineComment → ⊥) × (f ≡ front.Comment → ⊥)
    by true = (λ e. absurd cc, λ e. absurd cc, λ e. absurd cc)
    by false = (λ e. absurd cc, λ e. absurd cc, λ e. absurd cc)

escaped_never : (e : Escape) (bs : List ℕ) → (escaped_front e bs ≡ front.Blank → ⊥) × (escaped_front e bs ≡ front.LineComment → ⊥)
    × (escaped_front e bs ≡ front.Comment → ⊥)
escaped_never (escape.Stands v len) bs = closed_never v (2 + len) (drop len bs)
escaped_never escape.Unlisted bs = (λ e. absurd cc, λ e. absurd cc, λ e. absurd cc)
escaped_never escape.Open bs = (λ e. absurd cc, λ e. absurd cc, λ e. absurd cc)

char_never : (bs : List ℕ) → (char_front bs ≡ front.Blank → ⊥) × (char_front bs ≡ front.LineComment → ⊥) × (char_front bs ≡ front.Comment → ⊥)
unfolding char_front
char_never [] = (λ e. absurd cc, λ e. absurd cc, λ e. absurd cc)
char_never (b ∷ bs) = by (b == 39) (b == 92)
  where
    by : (q s : Bool) → let f = if q then front.Refused STRAY_BYTE else (if s then escaped_front (escape_of bs) bs else closed_front b 2 bs) in
        (f ≡ front.Blank → ⊥) × (f ≡ front.LineComment → ⊥) × (f ≡ front.Comment → ⊥)
    by true s = (λ e. absurd cc, λ e. absurd cc, λ e. absurd cc)
    by false true = escaped_never (escape_of bs) bs
    by false false = closed_never b 2 bs

char_case : (fresh : Bool) (bs : List ℕ) → Tells fresh (39 ∷ bs) (char_front bs)
char_case fresh bs =
    let never = char_never bs in
    tells_piece fresh (39 ∷ bs) (char_front bs) (λ k n e.
    let x = char_sound bs k n e in (
      39 ∷ (x.0 ++ 39 ∷ []),
      x.2,
      ap (λ (l : List ℕ). 39 ∷ l) (x.3 ∙ sym (append_assoc x.0 (39 ∷ []) x.2)),
      omega (arith, x.6, length-append x.0 (39 ∷ [])),
      subst (λ m. Stands fresh m (39 ∷ (x.0 ++ 39 ∷ [])) x.2) (sym x.5) (sp.character x.4),
    )) never.0 never.1 never.2

-- a front of these is no other
abbrev Never : Front → Type 0
Never f = (f ≡ front.Blank → ⊥) × (f ≡ front.LineComment → ⊥) × (f ≡ front.Comment → ⊥)

piece_never : (k : TokKind) (n : ℕ) → Never (front.Piece k n)
piece_never k n = (λ e. absurd cc, λ e. absurd cc, λ e. absurd cc)

refused_never : (code : ℕ) → Never (front.Refused code)
refused_never code = (λ e. absurd cc, λ e. absurd cc, λ e. absurd cc)

choice_never : (t : Bool) (f g : Front) → Never f → Never g → Never (if t then f else g)
choice_never true f g x y = x
choice_never false f g x y = y

defined_never : (whole name text : List ℕ) (f : NumberFront) → Never (defined whole name text f)
defined_never whole name text (number.Refused code) = refused_never (define_fault code)
defined_never whole name text (number.Integer l len) =
    choice_never (is_over (drop len text)) (front.Piece (kind.Define name l) (length whole - length text + len)) (front.Refused DEFINE_NOT_TAKEN)
    (piece_never (kind.Define name l) (length whole - length text + len)) (refused_never DEFINE_NOT_TAKEN)

valued_never : (whole name rest text : List ℕ) → Never (valued_by whole name rest text)
valued_never whole name rest text =
    choice_never (nat_lt (length text) (length rest) && head_is is_ascii_digit text) (integer_define whole name text) (front.Refused DEFINE_NOT_TAKEN)
    (defined_never whole name text (number_front text)) (refused_never DEFINE_NOT_TAKEN)

named_never : (whole name rest : List ℕ) → Never (named_define whole name rest)
unfolding named_define
named_never whole name rest =
    choice_never (is_no_context name rest) (front.Piece kind.Include (length whole - length rest))
    (if may_define name then valued_define whole name rest else front.Refused DEFINE_NOT_TAKEN) (piece_never kind.Include (length whole - length rest))
    (choice_never (may_define name) (valued_define whole name rest) (front.Refused DEFINE_NOT_TAKEN)
    (valued_never whole name rest (after_gap gap.Between rest)) (refused_never DEFINE_NOT_TAKEN))

directive_never : (whole text : List ℕ) → Never (directive_front whole text)
unfolding directive_front
directive_never whole text =
    let more = after_word text in
    let define : Never (define_front whole more) =
    choice_never (head_is is_blank more) (named_define whole (word_in more) (after_word more)) (front.Refused DEFINE_NOT_TAKEN)
    (named_never whole (word_in more) (after_word more)) (refused_never DEFINE_NOT_TAKEN) in
    choice_never (bytes_eq (word_in text) (codes "include")) (front.Piece kind.Include (length whole))
    (if bytes_eq (word_in text) (codes "define") then define_front whole more else front.Refused STRAY_BYTE) (piece_never kind.Include (length whole))
    (choice_never (bytes_eq (word_in text) (codes "define")) (define_front whole more) (front.Refused STRAY_BYTE) define (refused_never STRAY_BYTE))

hash_case : (fresh : Bool) (bs : List ℕ) → Tells fresh (35 ∷ bs) (hash_front fresh (35 ∷ bs) bs)
hash_case true bs =
    let never = directive_never (35 ∷ bs) bs in
    tells_piece true (35 ∷ bs) (directive_front (35 ∷ bs) bs) (λ k n e. directive_sound bs k n e) never.0 never.1 never.2
hash_case false bs = tt

slash_case : (fresh : Bool) (bs : List ℕ) → Tells fresh (47 ∷ bs) (slash_front (47 ∷ bs) bs)
slash_case fresh [] = punctuator_case fresh (47 ∷ []) refl
slash_case fresh (c ∷ bs) = by_line (c == 47) refl
  where
    by_star : (c == 47) ≡ false → (t : Bool) → (c == 42) ≡ t
        → Tells fresh (47 ∷ c ∷ bs) (if t then front.Comment else punctuator_front (47 ∷ c ∷ bs))
    by_star f true e = (bs, ap (λ (k : ℕ). 47 ∷ k ∷ bs) (eqb-true c 42 e))
    by_star f false e = punctuator_case fresh (47 ∷ c ∷ bs) (rw (f, e) refl)

    by_line : (t : Bool) → (c == 47) ≡ t
        → Tells fresh (47 ∷ c ∷ bs) (if t then front.LineComment else (if c == 42 then front.Comment else punctuator_front (47 ∷ c ∷ bs)))
    by_line true e = (bs, ap (λ (k : ℕ). 47 ∷ k ∷ bs) (eqb-true c 47 e))
    by_line false e = by_star e (c == 42) refl

dot_case : (fresh : Bool) (bs : List ℕ) → Tells fresh (46 ∷ bs) (dot_front (46 ∷ bs) bs)
dot_case fresh bs = by (head_is is_ascii_digit bs) refl
  where
    by : (t : Bool) → head_is is_ascii_digit bs ≡ t → Tells fresh (46 ∷ bs) (if t then front.Refused FLOATING_POINT_IN_C else punctuator_front (46 ∷ bs))
    by true e = tt
    by false e = punctuator_case fresh (46 ∷ bs) (rw e refl)

token_case : (fresh : Bool) (b : ℕ) (bs : List ℕ) → (b == 47) ≡ false → Tells fresh (b ∷ bs) (token_front b (b ∷ bs) bs)
unfolding token_front
token_case fresh b bs slash = by_word (begins_word b) refl
  where
    by_char : (b == 46) ≡ false → (t : Bool) → (b == 39) ≡ t → Tells fresh (b ∷ bs) (if t then char_front bs else punctuator_front (b ∷ bs))
    by_char dot true e = subst (λ c. Tells fresh (c ∷ bs) (char_front bs)) (sym (eqb-true b 39 e)) (char_case fresh bs)
    by_char dot false e = punctuator_case fresh (b ∷ bs) (rw (slash, dot) refl)

    by_quote : (b == 46) ≡ false → (t : Bool) → (b == 34) ≡ t
        → Tells fresh (b ∷ bs) (if t then text_front [] 1 0 bs else (if b == 39 then char_front bs else punctuator_front (b ∷ bs)))
    by_quote dot true e = subst (λ c. Tells fresh (c ∷ bs) (text_front [] 1 0 bs)) (sym (eqb-true b 34 e)) (quote_case fresh bs)
    by_quote dot false e = by_char dot (b == 39) refl

    by_dot : (t : Bool) → (b == 46) ≡ t → Tells fresh (b ∷ bs) (if t then dot_front (b ∷ bs) bs else (if b == 34 then text_front [] 1 0 bs
        else (if b == 39 then char_front bs else punctuator_front (b ∷ bs))))
    by_dot true e = subst (λ c. Tells fresh (c ∷ bs) (dot_front (c ∷ bs) bs)) (sym (eqb-true b 46 e)) (dot_case fresh bs)
    by_dot false e = by_quote e (b == 34) refl

    by_digit : (t : Bool) → is_ascii_digit b ≡ t → Tells fresh (b ∷ bs) (if t then integer_front (b ∷ bs) else (if b == 46 then dot_front (b ∷ bs) bs
        else (if b == 34 then text_front [] 1 0 bs else (if b == 39 then char_front bs else punctuator_front (b ∷ bs)))))
    by_digit true e = integer_case fresh (b ∷ bs) e
    by_digit false e = by_dot (b == 46) refl

    by_word : (t : Bool) → begins_word b ≡ t → Tells fresh (b ∷ bs) (if t then word_front (b ∷ bs) else (if is_ascii_digit b then integer_front (b ∷ bs)
        else (if b == 46 then dot_front (b ∷ bs) bs else (if b == 34 then text_front [] 1 0 bs else (if b == 39 then char_front bs
        else punctuator_front (b ∷ bs))))))
    by_word true e = word_case fresh b bs e
    by_word false e = by_digit (is_ascii_digit b) refl

pub front_tells : (fresh : Bool) (b : ℕ) (bs : List ℕ) → Tells fresh (b ∷ bs) (front_of fresh (b ∷ bs))
unfolding front_of
front_tells fresh b bs = by_blank (is_blank b) refl
  where
    by_hash : (b == 47) ≡ false → (t : Bool) → (b == 35) ≡ t → Tells fresh (b ∷ bs) (if t then hash_front fresh (b ∷ bs) bs else token_front b (b ∷ bs) bs)
    by_hash slash true e = subst (λ c. Tells fresh (c ∷ bs) (hash_front fresh (c ∷ bs) bs)) (sym (eqb-true b 35 e)) (hash_case fresh bs)
    by_hash slash false e = token_case fresh b bs slash

    by_slash : (t : Bool) → (b == 47) ≡ t
        → Tells fresh (b ∷ bs) (if t then slash_front (b ∷ bs) bs else (if b == 35 then hash_front fresh (b ∷ bs) bs else token_front b (b ∷ bs) bs))
    by_slash true e = subst (λ c. Tells fresh (c ∷ bs) (slash_front (c ∷ bs) bs)) (sym (eqb-true b 47 e)) (slash_case fresh bs)
    by_slash false e = by_hash e (b == 35) refl

    by_blank : (t : Bool) → is_blank b ≡ t → Tells fresh (b ∷ bs) (if t then front.Blank else (if b == 47 then slash_front (b ∷ bs) bs
        else (if b == 35 then hash_front fresh (b ∷ bs) bs else token_front b (b ∷ bs) bs)))
    by_blank true e = e
    by_blank false e = by_slash (b == 47) refl
