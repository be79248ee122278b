-- Integers are spelled as the rules say, and what is spelled so is read.
use Rattle.std.proofs.Common.{◌≡◌, ℕ, ◌+◌, ◌^◌, ◌<◌, ◌==◌, Bool, true, false, ◌&&◌, List, [], ◌∷◌, ◌++◌, length, Option, None, Some, refl, ap, sym, ◌∙◌, subst, arith, append_assoc}
use Rattle.std.proofs.lemmas.Bool.{and_from, and_parts, eqb-true}
use Rattle.std.proofs.lemmas.Bool.Decides.{nat_tests}
use Rattle.std.proofs.lemmas.List.{length-append}
use Rattle.std.specs.List.{list_all}
use Rattle.std.specs.Prelude.{if◌then◌else◌, is_some, nat_lt}
use Rattle.xs_base.specs.Readers.{head_is}
use Rattle.xs_base.specs.Scanning.{is_ascii_digit, strip_prefix}
use Rattle.xs_base.specs.declared.fault_codes.TheConstants.{FLOATING_POINT_IN_C, LITERAL_TOO_WIDE}
use Rattle.xs_base.proofs.FrontRuns.{after_seam, after_stops, front_after, front_belongs, front_seam, front_some, head_belongs, word_in_front}
use Rattle.xs_values.specs.declared.literal.Base.{Base}
use Rattle.xs_values.specs.declared.literal.Base.TheVariants as base
use Rattle.xs_ctok.specs.Numerals.{Suffixed, after_digits, after_hexadecimal_prefix, based_front, digits_in, digits_of, integer_front, is_digit_of, is_floating, is_octal, is_x, literal, number_by, number_front, suffix_among, suffix_of, suffixed, suffixes, value_of}
use Rattle.xs_ctok.specs.TokenSpelling as sp
use Rattle.xs_ctok.specs.TokenSpelling.{IsInteger, IsPrefix}
use Rattle.xs_ctok.specs.declared.numerals.NumberFront.TheVariants as number
use Rattle.xs_ctok.specs.declared.token.Literal.{Literal}
use Rattle.xs_ctok.proofs.Facts.{is_less, less_is}

-- ---- what is spelled is read

pub prefix_done : {b : Base} {before text : List ℕ} → IsPrefix b before text → head_is (is_digit_of b) text ≡ true
    → number_front (before ++ text) ≡ based_front b text (length before)
unfolding number_front
prefix_done (sp.decimal h e) some = rw (e, h) refl
prefix_done (sp.octal h e) some = rw (e, h) refl
prefix_done (sp.hexadecimal h) some = rw (h, some) refl

based_done : (l : Literal) (before : ℕ) (digits written rest : List ℕ) → list_all (is_digit_of l.base) digits ≡ true
    → head_is (is_digit_of l.base) (written ++ rest) ≡ false → is_floating l.base (digits ++ (written ++ rest)) ≡ false
    → suffix_of (written ++ rest) ≡ suffixed written l.suffix → value_of l.base digits ≡ l.value → l.value < 2 ^ 64
    → based_front l.base (digits ++ (written ++ rest)) before ≡ number.Integer l (before + length digits + length written)
based_done l before digits written rest all stop none suffix value fits =
    rw (
      none,
      front_seam (digits_in l.base) digits (written ++ rest) all stop,
      after_seam (digits_in l.base) digits (written ++ rest) all stop,
      suffix,
      value,
      less_is l.value (2 ^ 64) fits,
    ) refl

pub integer_done : (l : Literal) (t rest : List ℕ) → IsInteger l t rest → number_front (t ++ rest) ≡ number.Integer l (length t)
integer_done l t rest x =
    let text = x.digits ++ (x.written ++ rest) in
    let whole : t ++ rest ≡ x.before ++ text =
    ap (λ (k : List ℕ). k ++ rest) x.spelled ∙ append_assoc x.before (x.digits ++ x.written) rest
    ∙ ap (λ (k : List ℕ). x.before ++ k) (append_assoc x.digits x.written rest) in
    let size : length x.before + length x.digits + length x.written ≡ length t =
    omega (arith, ap length x.spelled, length-append x.before (x.digits ++ x.written), length-append x.digits x.written) in
    ap number_front whole ∙ prefix_done x.prefix (head_belongs (digits_in l.base) x.digits (x.written ++ rest) x.are_digits x.some)
    ∙ based_done l (length x.before) x.digits x.written rest x.are_digits x.ends x.no_point x.suffix x.value x.fits
    ∙ ap (λ k. number.Integer l k) size

-- ---- what is read is spelled

suffix_in : (rows : List Suffixed) (text : List ℕ) → (rest : List ℕ) × (text ≡ (suffix_among rows text).written ++ rest)
suffix_in [] text = (text, refl)
suffix_in (row ∷ rows) text = by (strip_prefix row.written text) refl (suffix_in rows text)
  where
    by : (o : Option (List ℕ)) → strip_prefix row.written text ≡ o → ((rest : List ℕ) × (text ≡ (suffix_among rows text).written ++ rest))
        → (rest : List ℕ) × (text ≡ (if is_some o then row else suffix_among rows text).written ++ rest)
    by None e more = more
    by (Some rest) e more = (rest, word_in_front row.written text rest e)

pub suffix_front : (text : List ℕ) → (rest : List ℕ) × (text ≡ (suffix_of text).written ++ rest)
unfolding suffix_of
suffix_front text = suffix_in suffixes text

-- an integer in front of bytes
abbrev pub IntegerEnds : List ℕ → Literal → ℕ → Type 0
IntegerEnds text l len = (t : List ℕ) × (rest : List ℕ) × (text ≡ t ++ rest) × (len ≡ length t) × IsInteger l t rest

same_integer : (k l : Literal) (m n : ℕ) → number.Integer k m ≡ number.Integer l n → (k ≡ l) × (n ≡ m)
same_integer k l m n h = (cc, cc)

based_sound : (b : Base) (before text : List ℕ) (l : Literal) (len : ℕ) → IsPrefix b before text → head_is (is_digit_of b) text ≡ true
    → based_front b text (length before) ≡ number.Integer l len → IntegerEnds (before ++ text) l len
based_sound b before text l len prefix some h = by_point (is_floating b text) refl h
  where
    by_fits : is_floating b text ≡ false → (t : Bool) → nat_lt (value_of b (digits_of b text)) (2 ^ 64) ≡ t
        → (if t then number.Integer (literal b (suffix_of (after_digits b text)).says (value_of b (digits_of b text)))
        (length before + length (digits_of b text) + length (suffix_of (after_digits b text)).written) else number.Refused LITERAL_TOO_WIDE)
        ≡ number.Integer l len → IntegerEnds (before ++ text) l len
    by_fits point true fits h =
        let digits = digits_of b text in
        let s = suffix_of (after_digits b text) in
        let front = suffix_front (after_digits b text) in
        let rest = front.0 in
        let w = same_integer (literal b s.says (value_of b digits)) l (length before + length digits + length s.written) len h in
        let tails : text ≡ digits ++ (s.written ++ rest) = sym (front_after (digits_in b) text) ∙ ap (λ (k : List ℕ). digits ++ k) front.1 in
        let stop : head_is (is_digit_of b) (s.written ++ rest) ≡ false = ap (head_is (is_digit_of b)) (sym front.1) ∙ after_stops (digits_in b) text in
        let again : suffix_of (s.written ++ rest) ≡ suffixed s.written s.says = ap suffix_of (sym front.1) in (
          before ++ (digits ++ s.written),
          rest,
          ap (λ (k : List ℕ). before ++ k) (tails ∙ sym (append_assoc digits s.written rest)) ∙ sym (append_assoc before (digits ++ s.written) rest),
          omega (arith, w.1, length-append before (digits ++ s.written), length-append digits s.written),
          subst (λ k. IsInteger k (before ++ (digits ++ s.written)) rest) w.0 (record {
            before = before;
            digits = digits;
            written = s.written;
            spelled = refl;
            prefix = subst (λ k. IsPrefix b before k) tails prefix;
            are_digits = front_belongs (digits_in b) text;
            some = front_some (digits_in b) text some;
            ends = stop;
            no_point = ap (is_floating b) (sym tails) ∙ point;
            suffix = again;
            value = refl;
            fits = is_less (value_of b digits) (2 ^ 64) fits;
          }),
        )
    by_fits point false fits h = absurd cc

    by_point : (t : Bool) → is_floating b text ≡ t
        → (if t then number.Refused FLOATING_POINT_IN_C else integer_front b text (length before)) ≡ number.Integer l len → IntegerEnds (before ++ text) l len
    by_point true e h = absurd cc
    by_point false e h = by_fits e (nat_lt (value_of b (digits_of b text)) (2 ^ 64)) refl h

-- the digits after `0x`
abbrev HasPrefix : List ℕ → List ℕ → Type 0
HasPrefix text rest = (x : ℕ) × (text ≡ 48 ∷ x ∷ rest) × (is_x x ≡ true) × (head_is (is_digit_of base.Hexadecimal) rest ≡ true)

prefix_sound : (text rest : List ℕ) → after_hexadecimal_prefix text ≡ Some rest → HasPrefix text rest
prefix_sound [] rest h = absurd cc
prefix_sound (z ∷ []) rest h = absurd cc
prefix_sound (z ∷ x ∷ more) rest h = by (z == 48 && (is_x x && head_is (is_digit_of base.Hexadecimal) more)) refl h
  where
    by : (t : Bool) → (z == 48 && (is_x x && head_is (is_digit_of base.Hexadecimal) more)) ≡ t → (if t then Some more else None) ≡ Some rest
        → HasPrefix (z ∷ x ∷ more) rest
    by true e h =
        let p = and_parts (z == 48) (is_x x && head_is (is_digit_of base.Hexadecimal) more) e in
        let q = and_parts (is_x x) (head_is (is_digit_of base.Hexadecimal) more) p.1 in
        let same : more ≡ rest = cc in (
          x,
          ap (λ (k : ℕ). k ∷ x ∷ more) (eqb-true z 48 p.0) ∙ ap (λ (k : List ℕ). 48 ∷ x ∷ k) same,
          q.0,
          ap (head_is (is_digit_of base.Hexadecimal)) (sym same) ∙ q.1,
        )
    by false e h = absurd cc

pub decimal_head : (text : List ℕ) → head_is is_ascii_digit text ≡ true → head_is (is_digit_of base.Decimal) text ≡ true
decimal_head [] h = absurd cc
decimal_head (c ∷ cs) h = digit_is c h
  where
    digit_is : (d : ℕ) → is_ascii_digit d ≡ true → is_digit_of base.Decimal d ≡ true
    digit_is d h = grind (arith, nat_tests)

pub octal_head : (text : List ℕ) → is_octal text ≡ true → head_is (is_digit_of base.Octal) text ≡ true
octal_head [] h = absurd cc
octal_head (c ∷ cs) h =
    subst (λ k. is_digit_of base.Octal k ≡ true) (sym (eqb-true c 48 (and_parts (c == 48) (head_is is_ascii_digit cs) h).0)) refl

pub integer_sound : (text : List ℕ) (l : Literal) (len : ℕ) → head_is is_ascii_digit text ≡ true → number_front text ≡ number.Integer l len
    → IntegerEnds text l len
unfolding number_front
integer_sound text l len digit h = by_prefix (after_hexadecimal_prefix text) refl h
  where
    by_octal : after_hexadecimal_prefix text ≡ None → (t : Bool) → is_octal text ≡ t
        → (if t then based_front base.Octal text 0 else based_front base.Decimal text 0) ≡ number.Integer l len → IntegerEnds text l len
    by_octal none true e h = based_sound base.Octal [] text l len (sp.octal e none) (octal_head text e) h
    by_octal none false e h = based_sound base.Decimal [] text l len (sp.decimal e none) (decimal_head text digit) h

    by_prefix : (o : Option (List ℕ)) → after_hexadecimal_prefix text ≡ o → number_by o text ≡ number.Integer l len → IntegerEnds text l len
    by_prefix (Some rest) e h =
        let p = prefix_sound text rest e in
        subst (λ k. IntegerEnds k l len) (sym p.1) (based_sound base.Hexadecimal (48 ∷ p.0 ∷ []) rest l len (sp.hexadecimal p.2) p.3 h)
    by_prefix None e h = by_octal e (is_octal text) refl h

-- ---- how an integer begins

decimal_digit : (d : ℕ) → is_digit_of base.Decimal d ≡ true → is_ascii_digit d ≡ true
decimal_digit d h = grind (arith, nat_tests)

octal_digit : (d : ℕ) → is_digit_of base.Octal d ≡ true → is_ascii_digit d ≡ true
octal_digit d h = grind (arith, nat_tests)

pub prefix_begins : {b : Base} {before text : List ℕ} → IsPrefix b before text → head_is (is_digit_of b) text ≡ true
    → head_is is_ascii_digit (before ++ text) ≡ true
prefix_begins (sp.decimal {text = []} h e) some = absurd cc
prefix_begins (sp.decimal {text = c ∷ cs} h e) some = decimal_digit c some
prefix_begins (sp.octal {text = []} h e) some = absurd cc
prefix_begins (sp.octal {text = c ∷ cs} h e) some = octal_digit c some
prefix_begins (sp.hexadecimal h) some = refl

pub integer_begins : (l : Literal) (t rest : List ℕ) → IsInteger l t rest → head_is is_ascii_digit (t ++ rest) ≡ true
integer_begins l t rest x =
    let text = x.digits ++ (x.written ++ rest) in
    let whole : t ++ rest ≡ x.before ++ text =
    ap (λ (k : List ℕ). k ++ rest) x.spelled ∙ append_assoc x.before (x.digits ++ x.written) rest
    ∙ ap (λ (k : List ℕ). x.before ++ k) (append_assoc x.digits x.written rest) in
    ap (head_is is_ascii_digit) whole ∙ prefix_begins x.prefix (head_belongs (digits_in l.base) x.digits (x.written ++ rest) x.are_digits x.some)

pub integer_some : (l : Literal) (t rest : List ℕ) → IsInteger l t rest → 0 < length t
integer_some l t rest x =
    omega (arith, x.some, ap length x.spelled, length-append x.before (x.digits ++ x.written), length-append x.digits x.written)
