-- What the lines of a typemap are, each by its own text.
use Rattle.std.specs.List.{suffix_len}
use Rattle.std.specs.Prelude.{ℕ, not, ◌&&◌, ◌||◌, ◌-◌, Bool, if◌then◌else◌, List, length, take, drop, Option, None, Some, codes}
use Rattle.std.specs.Str.{bytes_eq}
use Rattle.xs_base.specs.Scanning.{is_blank, is_blank_line, is_identifier, starts_with}
use Rattle.xs_typemap.specs.TidiedTypes.{is_type, tidied}
use Rattle.xs_typemap.specs.declared.lines.Section.{Section}
use Rattle.xs_typemap.specs.declared.lines.Section.TheVariants.{Types, Input, Output}
use Rattle.xs_typemap.specs.declared.lines.TypeEntry.{TypeEntry}
use Rattle.xs_typemap.specs.declared.lines.TheConstants.{INPUT, OUTPUT, TYPEMAP}

-- empty lines and comments, which begin with `#`, are passed over
abbrev pub is_passed_over : List ℕ → Bool
is_passed_over text = is_blank_line text || starts_with (codes "#") text

-- a line without the blanks at its end
abbrev pub without_end_blanks : List ℕ → List ℕ
without_end_blanks text = take (length text - suffix_len is_blank text) text

-- the heading that a line is: its word stands alone on the line
abbrev pub heading_named : List ℕ → Option Section
heading_named word =
    if bytes_eq word TYPEMAP.now then Some Types
    else (if bytes_eq word INPUT.now then Some Input
    else (if bytes_eq word OUTPUT.now then Some Output else None))

abbrev pub heading_of : List ℕ → Option Section
heading_of text = heading_named (without_end_blanks text)

-- a byte of a word of a line
abbrev pub is_no_blank : ℕ → Bool
is_no_blank b = not (is_blank b)

-- the last word of a line that ends in a word, and what stands before it
abbrev pub last_word : List ℕ → List ℕ
last_word line = drop (length line - suffix_len is_no_blank line) line

abbrev pub before_last_word : List ℕ → List ℕ
before_last_word line = take (length line - suffix_len is_no_blank line) line

abbrev pub entry_from : List ℕ → List ℕ → Option TypeEntry
entry_from ctype kind =
    if is_type ctype && is_identifier kind then Some (record { ctype = ctype; kind = kind })
    else None

-- The entry of a type: its kind is the last word of the line, and the type is all before it.
unfoldable pub entry_of : List ℕ → Option TypeEntry
entry_of text =
    entry_from (tidied (before_last_word (without_end_blanks text)))
    (last_word (without_end_blanks text))
