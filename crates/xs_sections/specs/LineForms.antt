-- What a line is by its own text: POD, a comment, a directive, a MODULE line.
use Rattle.std.specs.Prelude.{ℕ, Bool, false, ◌&&◌, ◌||◌, ◌==◌, List, [], ◌∷◌, codes, map}
use Rattle.std.specs.Str.{bytes_eq}
use Rattle.xs_base.specs.Names.{is_among}
use Rattle.xs_base.specs.Readers.{head_is}
use Rattle.xs_base.specs.ByteRuns.{after_run, after_blanks, belongs, front_of}
use Rattle.xs_base.specs.Scanning.{starts_with}
use Rattle.xs_sections.specs.declared.words.TheConstants.{DIRECTIVES, MODULE}
use Rattle.xs_base.specs.declared.byte_runs.ByteClass.TheVariants.{Blank, Digit, Letter, NoBlank, Word}

-- A line that begins with `=` and a letter starts POD.
abbrev pub begins_pod : List ℕ → Bool
begins_pod [] = false
begins_pod (b ∷ bs) = b == 61 && head_is (belongs Letter) bs

-- POD ends after a line that begins with `=cut`.
abbrev pub ends_pod : List ℕ → Bool
ends_pod line = starts_with (codes "=cut") line

-- A line that begins with a byte that is no blank.
abbrev pub is_flush_left : List ℕ → Bool
is_flush_left line = head_is (belongs NoBlank) line

-- the words that alone make a directive
abbrev pub directive_words : List (List ℕ)
directive_words = map (λ word. word.now) DIRECTIVES

-- After `#` of a directive stands one of these words, or `line` with blanks and a digit after it,
-- or `include` with `"` or `<` after it.
abbrev pub is_directive_text : List ℕ → List ℕ → Bool
is_directive_text word more =
    is_among directive_words word
    || ((bytes_eq word (codes "line") && head_is (belongs Blank) more && head_is (belongs Digit)
    (after_blanks more))
    || (bytes_eq word (codes "include")
    && (starts_with (codes "\"") (after_blanks more) || starts_with (codes "<")
    (after_blanks more))))

-- A directive has `#` as its first byte; blanks may stand after it.
abbrev pub is_directive : List ℕ → Bool
is_directive [] = false
is_directive (b ∷ bs) =
    b == 35 && is_directive_text (front_of Word (after_blanks bs))
    (after_run Word (after_blanks bs))

-- A line is a MODULE line where its first word is MODULE.
abbrev pub is_module_line : List ℕ → Bool
is_module_line line = bytes_eq (front_of Word (after_blanks line)) MODULE.now
