-- The laws of the tables.
use Rattle.std.specs.Prelude.{◌≡◌, ℕ, Bool, true, false, List, [], ◌∷◌, ◌++◌, map, length, ◌&&◌, Option, Some, None, is_some, not, nat_eq, nat_lt, codes}
use Rattle.std.specs.List.{filter, list_all, list_any}
use Rattle.std.specs.Str.{bytes_eq}
use Rattle.xs_base.specs.Scanning.{starts_with}
use Rattle.xs_perlapi.specs.declared.row.ApiType.{ApiType}
use Rattle.xs_perlapi.specs.declared.row.ApiType.TheVariants.{Integer, Number, Scalar, Void}
use Rattle.xs_perlapi.specs.declared.row.Written.{Written}
use Rattle.xs_perlapi.specs.declared.row.Written.TheVariants.{Address, Name}
use Rattle.xs_perlapi.specs.declared.row.CodeForm.{CodeForm}
use Rattle.xs_perlapi.specs.declared.row.CodeForm.TheVariants as form
use Rattle.xs_perlapi.specs.declared.formats.Piece.{Piece}
use Rattle.xs_perlapi.specs.Formats.{ArePieces, SpeltFormat, format_at, format_of, formats, pieces_of}
use Rattle.xs_perlapi.specs.Table.{ApiWord, MeantWord, OperandWord, WordUse, api_words, interface_words, is_api_word, is_entry, is_interface_word, meaning_of, operand_words, use_of, word_number, word_written}

-- ---- the rows that the machine runs

-- a number or a scalar's pointer
abbrev pub is_operand : ApiType → Bool
is_operand (Number kind) = true
is_operand Integer = true
is_operand Scalar = true
is_operand _ = false

abbrev pub is_result : ApiType → Bool
is_result (Number kind) = true
is_result Scalar = true
is_result Void = true
is_result _ = false

abbrev pub is_counted_row : CodeForm → ApiWord → Bool
is_counted_row (form.Row row) e = list_all is_operand e.operands && is_result e.result
is_counted_row _ e = true

-- The rows that are built have numbers and scalars as operands, and give one of these or nothing.
abbrev pub RowsAreCounted : Type 0
RowsAreCounted = list_all (λ e. is_counted_row e.form e) api_words ≡ true

-- ---- the words

-- whether no word stands twice that is written in one way
abbrev pub are_apart : List ApiWord → Bool
are_apart [] = true
are_apart (e ∷ all) = not (list_any (is_entry e.written e.word) all) && are_apart all

-- A word that is written in a way has one entry as such.
abbrev pub WordsDiffer : Type 0
WordsDiffer = are_apart api_words ≡ true

-- whether no word stands twice, and none is a word of the API
abbrev pub are_no_rows : List MeantWord → Bool
are_no_rows [] = true
are_no_rows (w ∷ all) =
    not (list_any (λ v. bytes_eq v.word w.word) all) && not (is_api_word w.word) && are_no_rows all

-- The words that are no row have one entry each.
abbrev pub OtherWordsDiffer : Type 0
OtherWordsDiffer = are_no_rows interface_words ≡ true

-- What is found for a word of the table is its entry.
abbrev pub WordsAreFound : Type 0
WordsAreFound =
    map (λ e. word_written e.written e.word) api_words ≡ map (λ e. Some (use_of e)) api_words

-- What is found for a word is an entry that is written so.
abbrev pub FoundWordsStand : Type 0
FoundWordsStand = (way : Written) (name : List ℕ) (u : WordUse) → word_written way name ≡ Some u
    → (before after : List ApiWord) × (e : ApiWord) × (api_words ≡ before ++ e ∷ after)
    × (is_entry way name e ≡ true) × (use_of e ≡ u)

-- What is found for a word that is no row is its entry.
abbrev pub OtherWordsAreFound : Type 0
OtherWordsAreFound =
    map (λ w. meaning_of w.word) interface_words ≡ map (λ w. Some w.meant) interface_words

abbrev pub is_no_row : CodeForm → Bool
is_no_row (form.Row row) = false
is_no_row (form.Unbuilt row) = false
is_no_row _ = true

-- The words that stand in the code as something else than a row at its operands: texts, types and
-- names of functions stand there too.
abbrev pub words_without_row : List (List ℕ)
words_without_row =
    codes "SvPV" ∷ codes "gv_stashpv" ∷ codes "INT2PTR" ∷ codes "Newxz" ∷ codes "croak"
    ∷ codes "Perl_croak" ∷ codes "Perl_croak_nocontext" ∷ codes "croak_xs_usage"
    ∷ codes "newXS_deffile" ∷ []

abbrev pub WordsWithoutRow : Type 0
WordsWithoutRow =
    map (λ e. e.word) (filter (λ e. is_no_row e.form) api_words) ≡ words_without_row

abbrev pub has_no_operands : Written → List ApiType → Bool
has_no_operands Name operands = nat_eq (length operands) 0
has_no_operands Address operands = nat_eq (length operands) 0
has_no_operands _ operands = true

-- What is written as a name has no operands.
abbrev pub NamesStandAlone : Type 0
NamesStandAlone = list_all (λ e. has_no_operands e.written e.operands) api_words ≡ true

-- whether a word has a meaning here
abbrev pub is_meant : OperandWord → Bool
is_meant w = is_interface_word w.word && nat_lt (word_number w.of_type) 5

-- The words that are operands are words of the API or of the XS interface, and each has a type that
-- such an operand has.
abbrev pub OperandWordsStand : Type 0
OperandWordsStand = list_all is_meant operand_words ≡ true

-- ---- formats

-- whether no format begins with another
abbrev pub are_prefix_free : List SpeltFormat → Bool
are_prefix_free [] = true
are_prefix_free (f ∷ all) =
    not (list_any (λ g. starts_with f.spelling g.spelling) all)
    && not (list_any (λ g. starts_with g.spelling f.spelling) all) && are_prefix_free all

-- At most one format stands in front of a text.
abbrev pub FormatsDiffer : Type 0
FormatsDiffer = are_prefix_free formats ≡ true

-- Each format is found where a text begins with it.
abbrev pub FormatsAreFound : Type 0
FormatsAreFound = (rest : List ℕ) →
    map (λ f. format_at (f.spelling ++ rest)) formats ≡ map (λ f. Some (format_of f)) formats

-- The parts of a text are just those that the rules give.
pub record CroakTextsLaw : Type 0 where
  pub sound : (text : List ℕ) (ps : List Piece) → pieces_of text ≡ Some ps → ArePieces text ps
  pub complete : (text : List ℕ) (ps : List Piece) → ArePieces text ps → pieces_of text ≡ Some ps
