-- The words, numbers and texts that the glue of a module is made of, as tokens.
use Rattle.std.proofs.Common.{◌≡◌, ℕ, zero, suc, ◌+◌, ◌*◌, ◌-◌, ◌≤◌, ◌<◌, ◌^◌, ◌==◌, Bool, true, false, not, ◌&&◌, List, [], ◌∷◌, ◌++◌, codes, fold, get_or, length, slice_get, refl, sym, ap, ◌∙◌, subst, arith, append-nil}
use Rattle.std.proofs.lemmas.Bool.{and_from, and_parts, both_ways, eqb-true, false_from_ne_true, not-true, or_parts}
use Rattle.std.proofs.lemmas.Bool.Decides.{nat_tests}
use Rattle.std.proofs.lemmas.Fmt.{decimal_digit, decimal_nonempty, first_decimal}
use Rattle.std.specs.Char.{digit_value}
use Rattle.std.specs.Fmt.{decimal}
use Rattle.std.specs.List.{AllByRecursion as All, flat_map, list_all}
use Rattle.std.specs.Prelude.{None}
use Rattle.xs_base.proofs.AllPass.{all-append, all-weaker}
use Rattle.xs_base.proofs.DecimalText.{decimal_digits}
use Rattle.xs_base.proofs.FrontRuns.{after_seam}
use Rattle.xs_base.proofs.Qualified.{first_in_word, qualified_bytes}
use Rattle.xs_base.specs.declared.byte_runs.ByteClass.TheVariants as class
use Rattle.xs_base.specs.ByteRuns.{belongs}
use Rattle.xs_base.specs.Names.{is_among, is_qualified_name}
use Rattle.xs_base.specs.Readers.{head_is}
use Rattle.xs_base.specs.Scanning.{begins_word, is_ascii_digit, is_identifier, is_word_byte}
use Rattle.xs_base.specs.declared.byte_runs.ByteClass.TheVariants.{Name}
use Rattle.xs_ctok.specs.Numerals.{after_hexadecimal_prefix, has_point, is_digit_of, is_octal, suffix_of, suffixed}
use Rattle.xs_ctok.specs.TokenSpelling as sp
use Rattle.xs_ctok.specs.TokenSpelling.{IsInteger, IsPrefix, StandFor}
use Rattle.xs_ctok.specs.declared.token.TokKind.{TokKind}
use Rattle.xs_ctok.specs.declared.token.TokKind.TheVariants as kind
use Rattle.xs_ctok.specs.CWords.{is_dropped_statement, is_dropped_word, is_no_name, is_reserved}
use Rattle.xs_iface.proofs.NameBytes.{underscored_bytes}
use Rattle.xs_iface.specs.Iface.{underscored}
use Rattle.xs_iface.specs.ReservedWords.{glue_words, is_free, is_no_xsub_name}
use Rattle.xs_iface.specs.SumForm.{IsSumXsub, IsTermOf}
use Rattle.xs_iface.specs.declared.xsub.Param.{Param}
use Rattle.xs_iface.specs.declared.xsub.Term.{Term}
use Rattle.xs_iface.specs.declared.xsub.Term.TheVariants.{Literal, Parameter}
use Rattle.xs_iface.specs.declared.xsub.Xsub.{Xsub}
use Rattle.xs_stub.proofs.LinePieces.{IsTok, is_read}
use Rattle.xs_stub.proofs.WrittenLines.{is_line_byte}
use Rattle.xs_stub.specs.Intended.{literal_of, no_suffix}
use Rattle.xs_stub.specs.Stub.{joined_names, name_of, name_or_nothing, term_text}
use Rattle.xs_values.specs.declared.literal.Base.TheVariants as base

-- ---- names

-- a word that may be a name, and that the grammar reads
pub record IsNamed (name : List ℕ) : Type 0 where
  pub identifier : is_identifier name ≡ true
  pub named : is_no_name name ≡ false
  pub read : is_read kind.Word name ≡ true

word_in_line : (b : ℕ) → is_word_byte b ≡ true → is_line_byte b ≡ true
word_in_line b h = grind (arith, nat_tests)

identifier_bytes : (name : List ℕ) → is_identifier name ≡ true → list_all is_word_byte name ≡ true
identifier_bytes [] h = absurd cc
identifier_bytes (b ∷ bs) h =
    let g = and_parts (begins_word b) (list_all is_word_byte bs) h in
    and_from (is_word_byte b) (list_all is_word_byte bs) (first_in_word b g.0) g.1

-- A name is a token where no byte of a word follows it.
pub name_tok : {fresh : Bool} {name rest : List ℕ} → IsNamed name → head_is is_word_byte rest ≡ false → IsTok fresh kind.Word name rest
name_tok {name = name} w stop = record {
  stands = sp.word w.identifier stop;
  in_line = all-weaker is_word_byte is_line_byte word_in_line name (identifier_bytes name w.identifier);
  read = w.read;
}

-- A word that may name a parameter is a name, and no word that is passed over.
pub free_name : (name : List ℕ) → is_free name ≡ true → IsNamed name
free_name name h =
    let g = and_parts (is_identifier name) (not (is_no_xsub_name name)) h in
    let free = (or_parts (is_reserved name) (is_among glue_words name) (not-true (is_no_xsub_name name) g.1)).0 in
    let named = or_parts (is_no_name name) _ free in
    let kept = or_parts (is_dropped_word name) _ named.1 in
    record { identifier = g.0; named = named.0; read = rw (kept.0, (or_parts (is_dropped_statement name) _ kept.1).0) refl }

glue_word : (tail : List ℕ) → list_all is_word_byte tail ≡ true → IsNamed (codes "XS_" ++ tail)
unfolding is_no_name is_dropped_word is_dropped_statement
glue_word tail h = record { identifier = h; named = refl; read = refl }

-- The name of the glue function is a name.
pub glue_named : (x : Xsub) → IsSumXsub x → IsNamed x.glue
glue_named x f = subst IsNamed (sym f.glue) (glue_word f.tail f.tail_bytes)

boot_bytes : (name : List ℕ) → is_qualified_name name ≡ true → list_all is_word_byte (underscored name) ≡ true
boot_bytes [] h = absurd cc
boot_bytes (b ∷ bs) h = underscored_bytes (b ∷ bs) (qualified_bytes (b ∷ bs) h)

boot_word : (tail : List ℕ) → list_all is_word_byte tail ≡ true → IsNamed (codes "boot_" ++ tail)
unfolding is_no_name is_dropped_word is_dropped_statement
boot_word tail h = record { identifier = h; named = refl; read = refl }

pub boot_named : (name : List ℕ) → is_qualified_name name ≡ true → IsNamed (codes "boot_" ++ underscored name)
boot_named name h = boot_word (underscored name) (boot_bytes name h)

-- ---- numbers

-- No digit, point, exponent or suffix is in front, and no letter that makes a `0` hexadecimal.
pub record EndsNumber (rest : List ℕ) : Type 0 where
  pub no_digit : head_is (is_digit_of base.Decimal) rest ≡ false
  pub no_octal : is_octal (48 ∷ rest) ≡ false
  pub no_point : has_point base.Decimal rest ≡ false
  pub plain : suffix_of rest ≡ suffixed [] no_suffix
  pub no_prefix : after_hexadecimal_prefix (48 ∷ rest) ≡ None

-- before `)`, `;` and a blank
pub ends_close : (rest : List ℕ) → EndsNumber (41 ∷ rest)
unfolding suffix_of
ends_close rest = record { no_digit = refl; no_octal = refl; no_point = refl; plain = refl; no_prefix = refl }

pub ends_semicolon : (rest : List ℕ) → EndsNumber (59 ∷ rest)
unfolding suffix_of
ends_semicolon rest = record { no_digit = refl; no_octal = refl; no_point = refl; plain = refl; no_prefix = refl }

pub ends_blank : (rest : List ℕ) → EndsNumber (32 ∷ rest)
unfolding suffix_of
ends_blank rest = record { no_digit = refl; no_octal = refl; no_point = refl; plain = refl; no_prefix = refl }

digit_decimal : (b : ℕ) → is_ascii_digit b ≡ true → is_digit_of base.Decimal b ≡ true
digit_decimal b h = grind (arith, nat_tests)

digit_in_line : (b : ℕ) → is_ascii_digit b ≡ true → is_line_byte b ≡ true
digit_in_line b h = grind (arith, nat_tests)

digit_is : (b : ℕ) → is_ascii_digit b ≡ true → digit_value b ≡ b - 48
digit_is b h = grind (arith, nat_tests)

value_same : (n : ℕ) (ds : List ℕ) → list_all is_ascii_digit ds ≡ true
    → fold (λ m c. 10 * m + digit_value c) n ds ≡ fold (λ m b. 10 * m + (b - 48)) n ds
value_same n [] h = refl
value_same n (d ∷ ds) h =
    let g = and_parts (is_ascii_digit d) (list_all is_ascii_digit ds) h in
    ap (λ k. fold (λ m c. 10 * m + digit_value c) (10 * n + k) ds) (digit_is d g.0) ∙ value_same (10 * n + (d - 48)) ds g.1

not_zero_first : (ds rest : List ℕ) → 0 < length ds → 48 < get_or ds 0 0 → head_is (λ c. c == 48) (ds ++ rest) ≡ false
not_zero_first [] rest some first = absurd (omega (arith, some))
not_zero_first (d ∷ ds) rest some first = false_from_ne_true (d == 48) (λ e. omega (arith, first, eqb-true d 48 e))

-- a number that does not begin with `0`
plain_number : (text : List ℕ) → head_is (λ c. c == 48) text ≡ false → IsPrefix base.Decimal [] text
plain_number [] h = sp.decimal refl refl
plain_number (d ∷ []) h = sp.decimal (rw h refl) refl
plain_number (d ∷ x ∷ rest) h = sp.decimal (rw h refl) (rw h refl)

decimal_number : (value : ℕ) (rest : List ℕ) → value < 2 ^ 64 → IsPrefix base.Decimal [] (decimal value ++ rest) → EndsNumber rest
    → IsInteger (literal_of value) (decimal value) rest
decimal_number value rest fits prefix ends =
    let d = decimal_digits value fits in
    let all = all-weaker is_ascii_digit (is_digit_of base.Decimal) digit_decimal (decimal value) d.all in
    record {
      before = [];
      digits = decimal value;
      written = [];
      spelled = sym (append-nil (decimal value));
      prefix = prefix;
      are_digits = all;
      some = decimal_nonempty value fits;
      ends = ends.no_digit;
      no_point = ap (has_point base.Decimal) (after_seam class.Digit (decimal value) rest all ends.no_digit) ∙ ends.no_point;
      suffix = ends.plain;
      value = value_same 0 (decimal value) d.all ∙ d.value;
      fits = fits;
    }

number_spelled : (value : ℕ) (rest : List ℕ) → value < 2 ^ 64 → EndsNumber rest → IsInteger (literal_of value) (decimal value) rest
number_spelled zero rest fits ends =
    decimal_number 0 rest fits
    (subst (λ (ds : List ℕ). IsPrefix base.Decimal [] (ds ++ rest)) (sym (decimal_digit 0 (omega arith))) (sp.decimal ends.no_octal ends.no_prefix)) ends
number_spelled (suc n) rest fits ends =
    let some : 0 < suc n = omega arith in
    decimal_number (suc n) rest fits
    (plain_number (decimal (suc n) ++ rest)
    (not_zero_first (decimal (suc n)) rest (decimal_nonempty (suc n) fits) (first_decimal (suc n) some fits))) ends

-- A number is a token where nothing follows that goes on with it.
pub number_tok : {fresh : Bool} {rest : List ℕ} (value : ℕ) → value ≤ 2147483647 → EndsNumber rest
    → IsTok fresh (kind.Int (literal_of value)) (decimal value) rest
number_tok {rest = rest} value small ends =
    let fits : value < 2 ^ 64 = omega (arith, small) in
    record {
      stands = sp.integer (number_spelled value rest fits ends);
      in_line = all-weaker is_ascii_digit is_line_byte digit_in_line (decimal value) (decimal_digits value fits).all;
      read = refl;
    }

-- So is one digit.
pub digit_tok : {fresh : Bool} {rest : List ℕ} (value : ℕ) → value < 10 → EndsNumber rest
    → IsTok fresh (kind.Int (literal_of value)) ((48 + value) ∷ []) rest
digit_tok {fresh = fresh} {rest = rest} value small ends =
    subst (λ (t : List ℕ). IsTok fresh (kind.Int (literal_of value)) t rest) (decimal_digit value small) (number_tok value (omega (arith, small)) ends)

-- ---- texts in quotes

-- a byte that stands for itself between quotes
abbrev pub is_bare_byte : ℕ → Bool
is_bare_byte b = is_line_byte b && (not (b == 34) && not (b == 92))

abbrev pub are_bare : List ℕ → Bool
are_bare text = list_all is_bare_byte text

bare_stands : (after text : List ℕ) → are_bare text ≡ true → StandFor after text text
bare_stands after [] h = sp.nothing
bare_stands after (b ∷ bs) h =
    let g = and_parts (is_bare_byte b) (are_bare bs) h in
    let k = and_parts (not (b == 34)) (not (b == 92)) (and_parts (is_line_byte b) (not (b == 34) && not (b == 92)) g.0).1 in
    sp.itself (not-true (b == 34) k.0) (not-true (b == 92) k.1) (bare_stands after bs g.1)

abbrev pub quoted : List ℕ → List ℕ
quoted text = 34 ∷ (text ++ 34 ∷ [])

quoted_in_line : (text : List ℕ) → are_bare text ≡ true → list_all is_line_byte (quoted text) ≡ true
quoted_in_line text h =
    all-append is_line_byte text (34 ∷ [])
    (all-weaker is_bare_byte is_line_byte (λ b g. (and_parts (is_line_byte b) (not (b == 34) && not (b == 92)) g).0) text h) refl

-- Such a text in quotes is a token whatever follows it.
pub text_tok : {fresh : Bool} {rest : List ℕ} (text : List ℕ) → are_bare text ≡ true → IsTok fresh (kind.Text text) (quoted text) rest
text_tok {rest = rest} text h = record { stands = sp.text (bare_stands (34 ∷ rest) text h); in_line = quoted_in_line text h; read = refl }

word_is_bare : (b : ℕ) → is_word_byte b ≡ true → is_bare_byte b ≡ true
word_is_bare b h = grind (arith, nat_tests)

name_is_bare : (b : ℕ) → belongs Name b ≡ true → is_bare_byte b ≡ true
name_is_bare b h = grind (arith, nat_tests)

pub full_is_bare : (x : Xsub) → IsSumXsub x → are_bare x.full ≡ true
full_is_bare x f = all-weaker (belongs Name) is_bare_byte name_is_bare x.full f.full_bytes

free_is_bare : (p : Param) → is_free p.name ≡ true → are_bare p.name ≡ true
free_is_bare p h = all-weaker is_word_byte is_bare_byte word_is_bare p.name (identifier_bytes p.name (free_name p.name h).identifier)

more_are_bare : (ps : List Param) → All (λ p. is_free p.name ≡ true) ps → are_bare (flat_map (λ p. codes ", " ++ name_of p) ps) ≡ true
more_are_bare [] h = refl
more_are_bare (p ∷ ps) h =
    all-append is_bare_byte (codes ", " ++ p.name) (flat_map (λ q. codes ", " ++ name_of q) ps)
    (all-append is_bare_byte (codes ", ") p.name refl (free_is_bare p h.0)) (more_are_bare ps h.1)

-- So is the list of the names of parameters.
pub names_are_bare : (ps : List Param) → All (λ p. is_free p.name ≡ true) ps → are_bare (joined_names ps) ≡ true
names_are_bare [] h = refl
names_are_bare (p ∷ ps) h =
    all-append is_bare_byte p.name (flat_map (λ q. codes ", " ++ name_of q) ps) (free_is_bare p h.0) (more_are_bare ps h.1)

-- ---- terms

-- the kind of a term
abbrev pub kind_of_term : Term → TokKind
kind_of_term (Parameter at) = kind.Word
kind_of_term (Literal value) = kind.Int (literal_of value)

-- A term is one word or one number.
abbrev pub IsSpelled : List Param → Term → Type 0
IsSpelled params (Parameter at) = IsNamed (name_or_nothing (slice_get params at))
IsSpelled params (Literal value) = value ≤ 2147483647

at_index : (params : List Param) → All (λ p. is_free p.name ≡ true) params → (at : ℕ) → at < length params
    → IsNamed (name_or_nothing (slice_get params at))
at_index [] free at h = absurd (omega (arith, h))
at_index (p ∷ ps) free zero h = free_name p.name free.0
at_index (p ∷ ps) free (suc at) h = at_index ps free.1 at (omega (arith, h))

pub term_spelled : (params : List Param) → All (λ p. is_free p.name ≡ true) params → (t : Term) → IsTermOf (length params) t → IsSpelled params t
term_spelled params free (Parameter at) h = at_index params free at h
term_spelled params free (Literal value) h = h

pub term_tok : {fresh : Bool} {rest : List ℕ} (params : List Param) (t : Term) → IsSpelled params t → head_is is_word_byte rest ≡ false → EndsNumber rest
    → IsTok fresh (kind_of_term t) (term_text params t) rest
term_tok params (Parameter at) w stop ends = name_tok w stop
term_tok params (Literal value) w stop ends = number_tok value w ends
