-- What a reader of a line reads from, and the steps that the rules of the grammar are made of.
use Rattle.std.specs.Prelude.{ℕ, Bool, true, false, ◌==◌, if◌then◌else◌, max, List, [], ◌∷◌, length, Option, Some, None, Result, Ok, Err}
use Rattle.std.specs.Option.{option_or}
use Rattle.std.specs.Str.{bytes_eq}
use Rattle.xs_base.specs.Readers as readers
use Rattle.xs_base.specs.Readers.{head_is, tail}
use Rattle.xs_script.specs.declared.line_part.Token.{Token}
use Rattle.xs_script.specs.declared.line_part.Token.TheVariants as token
use Rattle.xs_script.specs.declared.line_part.Mark.{Mark}
use Rattle.xs_script.specs.declared.line_part.Mark.TheVariants as mark
use Rattle.xs_script.specs.declared.line_part.Kind.{Kind}
use Rattle.xs_script.specs.declared.line_part.Kind.TheVariants as kind
use Rattle.xs_script.specs.declared.line_part.Stop.{Stop}
use Rattle.xs_script.specs.declared.scope.Scope.{Scope}
use Rattle.xs_script.specs.declared.cursor.Met.{Met}
use Rattle.xs_script.specs.Scope.{first_unknown}
use Rattle.xs_script.specs.LineOutcomes.{NoReading, ReportsBy}

-- The parts that are left of a line, what the lines before have declared, and what was met so far
-- that no reading can mend: the first unknown variable, the first number out of range, and the most
-- brackets that stood open.
pub record Input : Type 0 where
  pub rest : List Token
  pub scope : Scope
  pub unknown : Option (List ℕ)
  pub beyond : Option (List ℕ)
  pub deepest : ℕ

abbrev pub start_of : Scope → List Token → Input
start_of scope parts =
    record { rest = parts; scope = scope; unknown = None; beyond = None; deepest = 0 }

-- ---- the next part

-- the last byte of a mark, by which marks differ
abbrev pub mark_byte : Mark → ℕ
mark_byte mark.Equals = 61
mark_byte mark.Arrow = 62
mark_byte mark.OpenRound = 40
mark_byte mark.CloseRound = 41
mark_byte mark.OpenSquare = 91
mark_byte mark.CloseSquare = 93
mark_byte mark.OpenCurly = 123
mark_byte mark.CloseCurly = 125
mark_byte mark.Comma = 44
mark_byte mark.Semicolon = 59
mark_byte mark.Backslash = 92

abbrev pub is_mark : Mark → Token → Bool
is_mark m (token.Mark n) = mark_byte m == mark_byte n
is_mark m (token.Name name) = false
is_mark m (token.Number text) = false
is_mark m (token.Text content) = false

abbrev pub is_word : List ℕ → Token → Bool
is_word word (token.Name name) = bytes_eq name word
is_word word (token.Number text) = false
is_word word (token.Text content) = false
is_word word (token.Mark n) = false

unfoldable pub sees : Mark → Input → Bool
sees m i = head_is (is_mark m) i.rest

unfoldable pub sees_word : List ℕ → Input → Bool
sees_word word i = head_is (is_word word) i.rest

unfoldable pub next : Input → Input
next i = record i { rest = tail i.rest }

abbrev pub kind_of_token : Token → Kind
kind_of_token (token.Name name) = kind.Name
kind_of_token (token.Number text) = kind.Number
kind_of_token (token.Text content) = kind.Text
kind_of_token (token.Mark n) = kind.Mark

abbrev pub kind_at : List Token → Kind
kind_at [] = kind.End
kind_at (t ∷ ts) = kind_of_token t

unfoldable pub kind_of : Input → Kind
kind_of i = kind_at i.rest

-- how many parts are left
unfoldable pub left : Input → ℕ
left i = length i.rest

-- ---- readers of a line

abbrev pub Outcome : Type 0 → Type 0
Outcome A = readers.Outcome Input NoReading A

abbrev pub Reader : Type 0 → Type 0
Reader A = readers.Reader Input NoReading A

abbrev pub refuse : {A : Type 0} → Reader A
refuse = λ i. Err tt

abbrev pub peek : Reader Kind
peek = λ i. Ok (kind_of i, i)

-- passes over the next part where this is so
abbrev pub past : Bool → Input → Input
past b i = if b then next i else i

unfoldable pub after : Mark → Input → Input
after m i = past (sees m i) i

-- consumes this mark, if it comes next
abbrev pub eat : Mark → Reader Bool
eat m = λ i. Ok (sees m i, after m i)

unfoldable pub expect : Mark → Reader (Unit {0})
expect m = λ i. if sees m i then Ok (tt, next i) else refuse i

-- the line ends here
abbrev pub ended : Kind → Reader (Unit {0})
ended kind.End = λ i. Ok (tt, i)
ended kind.Name = refuse
ended kind.Number = refuse
ended kind.Text = refuse
ended kind.Mark = refuse

unfoldable pub after_word : List ℕ → Input → Input
after_word word i = past (sees_word word i) i

-- consumes this word, if it comes next
abbrev pub eat_word : List ℕ → Reader Bool
eat_word word = λ i. Ok (sees_word word i, after_word word i)

-- the bytes of a part, if it is of this kind
abbrev pub bytes_in : Kind → Token → Option (List ℕ)
bytes_in kind.Name (token.Name name) = Some name
bytes_in kind.Number (token.Number text) = Some text
bytes_in kind.Text (token.Text content) = Some content
bytes_in _ _ = None

abbrev pub bytes_at : Kind → List Token → Option (List ℕ)
bytes_at k [] = None
bytes_at k (t ∷ ts) = bytes_in k t

abbrev pub consumed : Option (List ℕ) → Input → Outcome (List ℕ)
consumed (Some bytes) i = Ok (bytes, next i)
consumed None i = refuse i

-- the bytes of the next part, which is of this kind
unfoldable pub part : Kind → Reader (List ℕ)
part k = λ i. consumed (bytes_at k i.rest) i

abbrev pub names_sub : Kind → Bool
names_sub kind.Name = true
names_sub kind.Number = false
names_sub kind.Text = true
names_sub kind.Mark = false
names_sub kind.End = false

-- the name of a sub: a name, or a text in quotes
unfoldable pub sub_name : Reader (List ℕ)
sub_name = λ i. if names_sub (kind_of i) then part (kind_of i) i else refuse i

-- ---- what no reading can mend

-- a variable is named
unfoldable pub named : List ℕ → Input → Input
named name i = record i { unknown = option_or i.unknown (first_unknown i.scope (name ∷ [])) }

abbrev pub noted : (Input → Input) → Reader (Unit {0})
noted note = λ i. Ok (tt, note i)

-- a number stands that is out of its range
unfoldable pub exceeded : List ℕ → Input → Input
exceeded number i = record i { beyond = option_or i.beyond (Some number) }

-- so many brackets stand open
unfoldable pub opened : ℕ → Input → Input
opened n i = record i { deepest = max i.deepest n }

-- what was met
abbrev pub met : Input → Met
met i = record { unknown = i.unknown; beyond = i.beyond; deepest = i.deepest }

-- ---- what a function that reads ensures

abbrev pub Reads : {X A : Type 0} → (X → A) → Outcome A → Result X Stop → Input → Type 0
Reads view outcome result new = ReportsBy (λ x. (view x, new)) result outcome
