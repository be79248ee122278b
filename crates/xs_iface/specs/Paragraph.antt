-- The form of an XSUB that gives a sum: its six lines, and what they say.
use Rattle.std.specs.List.{list_all, position}
use Rattle.std.specs.Option.{option_map, unwrap_or}
use Rattle.std.specs.Prelude.{ℕ, ◌&&◌, ◌||◌, nat_le, Bool, List, ◌∷◌, length, codes, Option, None, Some, is_some, option_and_then, if◌then◌else◌}
use Rattle.std.specs.Str.{bytes_eq}
use Rattle.xs_base.specs.declared.source.Line.{Line}
use Rattle.xs_iface.specs.declared.paragraph.Interface.{Interface}
use Rattle.xs_iface.specs.declared.paragraph.Paragraph.{Paragraph}
use Rattle.xs_iface.specs.declared.paragraph.Sum.{Sum}
use Rattle.xs_base.specs.declared.byte_runs.ByteClass.TheVariants.{Blank, Word}
use Rattle.xs_iface.specs.declared.xsub.Term.{Term}
use Rattle.xs_iface.specs.declared.xsub.Term.TheVariants.{Literal, Parameter}
use Rattle.xs_iface.specs.ReservedWords.{is_free}
use Rattle.xs_base.specs.Names.{is_among}
use Rattle.xs_base.specs.ByteRuns.{after_run, after_blanks, front_of}
use Rattle.xs_base.specs.Readers.{head_is}
use Rattle.xs_base.specs.Scanning.{strip_prefix, is_blank_line, is_decimal, is_ascii_digit, value_of_digits}
use Rattle.xs_iface.specs.Scan.{Chain, chain_of}

-- ---- terms

-- the greatest value of an `int`
abbrev pub greatest_int : ℕ
greatest_int = 2147483647

-- how many terms a sum may have
abbrev pub term_limit : ℕ
term_limit = 32

-- digits, one at least, without a zero in front of others
abbrev pub is_literal : List ℕ → Bool
is_literal word = head_is is_ascii_digit word && is_decimal word

-- the value of a decimal literal, which is at most the greatest `int`
abbrev pub literal_of : List ℕ → Option ℕ
literal_of word = if is_literal word && nat_le (value_of_digits word) greatest_int then Some
    (value_of_digits word) else None

-- A term is the name of a parameter, or a literal.
abbrev pub is_term : List (List ℕ) → List ℕ → Bool
is_term params word = is_among params word || is_some (literal_of word)

-- what a term says that is the parameter at a place, or else a literal
abbrev pub term_at : List ℕ → Option ℕ → Term
term_at word (Some place) = Parameter place
term_at word None = Literal (unwrap_or (literal_of word) 0)

-- what a term says: the first parameter of that name, or else the literal
abbrev pub term_of : List (List ℕ) → List ℕ → Term
term_of params word = term_at word (position (λ name. bytes_eq name word) params)

-- ---- lines

-- a line of blanks, if any, and a word
abbrev pub is_block_line : List ℕ → List ℕ → Bool
is_block_line word text = bytes_eq (after_blanks text) word

-- the names are free, and the line is at its end
abbrev pub interface_with : List ℕ → Chain → Option Interface
interface_with function names =
    if bytes_eq names.1 (codes ")") && is_free function && list_all is_free names.0
    then Some (record { function = function; params = names.0 }) else None

-- `f(int p, int q, ..)`, of one parameter or more
abbrev pub interface_of : List ℕ → Option Interface
interface_of text =
    option_and_then (λ list. interface_with (front_of Word text) (chain_of (codes ", int ") list))
    (strip_prefix (codes "(int ") (after_run Word text))

-- the words are terms, no more than may be, and the line is at its end
abbrev pub sum_with : List (List ℕ) → List ℕ → Chain → Option Sum
sum_with params indent words =
    if bytes_eq words.1 (codes ";") && nat_le (length words.0) term_limit
    && list_all (is_term params) words.0
    then Some (record { indent = indent; words = words.0 }) else None

-- `RETVAL = T + T + ..;` after blanks, if any
abbrev pub sum_of : List (List ℕ) → List ℕ → Option Sum
sum_of params text =
    option_and_then (λ terms. sum_with params (front_of Blank text) (chain_of (codes " + ") terms))
    (strip_prefix (codes "RETVAL = ") (after_blanks text))

-- ---- paragraphs

-- the lines around the names and the terms: the type of the result, the keywords, RETVAL, and empty
-- lines at the end
abbrev pub is_frame : List ℕ → List ℕ → List ℕ → List ℕ → List Line → Bool
is_frame kind code output retval more =
    bytes_eq kind (codes "int") && is_block_line (codes "CODE:") code
    && is_block_line (codes "OUTPUT:") output && is_block_line (codes "RETVAL") retval
    && list_all (λ (line : Line). is_blank_line line.text) more

abbrev pub paragraph_from : Line → Line → ℕ → Interface → Sum → Paragraph
paragraph_from interface sum output_line names terms =
    record {
      line = interface.number;
      function = names.function;
      params = names.params;
      code_line = sum.number;
      indent = terms.indent;
      words = terms.words;
      output_line = output_line;
    }

-- what the interface line and the line of the sum say
abbrev pub paragraph_with : Line → Line → ℕ → Option Paragraph
paragraph_with interface sum output_line =
    option_and_then (λ names. option_map (paragraph_from interface sum output_line names)
    (sum_of names.params sum.text)) (interface_of interface.text)

-- A paragraph of the form is six lines, `int`, the interface, `CODE:`, the sum, `OUTPUT:` and
-- `RETVAL`, and empty lines after them.
abbrev pub paragraph_of : List Line → Option Paragraph
paragraph_of (kind ∷ interface ∷ code ∷ sum ∷ output ∷ retval ∷ more) =
    if is_frame kind.text code.text output.text retval.text more then paragraph_with interface sum
    retval.number else None
paragraph_of _ = None

-- whether lines are a paragraph of the form
abbrev pub is_sum_paragraph : List Line → Bool
is_sum_paragraph lines = is_some (paragraph_of lines)
