-- The text of a default, as it stands in the source, and what stands after the list.
use Rattle.std.specs.List.{flat_map}
use Rattle.std.specs.Prelude.{ℕ, ◌-◌, ◌==◌, Bool, true, false, ◌&&◌, nat_le, if◌then◌else◌, List, [], ◌∷◌, ◌++◌, drop, take, fold}
use Rattle.xs_base.specs.Scanning.{is_blank}
use Rattle.xs_base.specs.declared.source.Line.{Line}
use Rattle.xs_base.specs.declared.source.Span.{Span}
use Rattle.xs_params.specs.declared.param.Preset.{Preset}
use Rattle.xs_params.specs.declared.param.Preset.TheVariants as preset
use Rattle.xs_params.specs.declared.source_text.Passed.{Passed}
use Rattle.xs_params.specs.declared.source_text.Passed.TheVariants as passed
use Rattle.xs_params.specs.declared.states.Extent.{Extent}

-- ---- texts of defaults

-- a line's bytes up to the end of the default, where it ends there
abbrev pub up_to_end : Extent → Line → List ℕ
up_to_end x line = if line.number == x.to_line then take (x.to_col - 1) line.text else line.text

-- a line's bytes of the default
abbrev pub piece : Extent → Line → List ℕ
piece x line =
    if line.number == x.from.line then drop (x.from.col - 1) (up_to_end x line)
    else up_to_end x line

abbrev pub is_within : Extent → Line → Bool
is_within x line = nat_le x.from.line line.number && nat_le line.number x.to_line

-- byte 10 stands between two lines of the default
abbrev pub line_end : Extent → Line → List ℕ
line_end x line = if line.number == x.to_line then [] else 10 ∷ []

abbrev pub piece_in : Extent → Line → List ℕ
piece_in x line = if is_within x line then piece x line ++ line_end x line else []

-- the bytes from the first of its first token to the last of its last
unfoldable pub text_of : List Line → Extent → List ℕ
text_of src x = flat_map (piece_in x) src

abbrev pub preset_of : List Line → Extent → Preset
preset_of src x = if x.no_init then preset.NoInit else preset.Code (text_of src x)

-- ---- what stands after the list

-- a `/` may begin a comment
abbrev pub after_slash : ℕ → Passed
after_slash b = if b == 47 then passed.LineComment else if b == 42 then passed.Comment
    else passed.Other

abbrev pub after_blank : ℕ → Passed
after_blank b = if is_blank b then passed.Blanks else if b == 47 then passed.Slash
    else passed.Other

abbrev pub after_star : ℕ → Passed
after_star b = if b == 47 then passed.Blanks else if b == 42 then passed.Star else passed.Comment

-- what was passed with one byte more
abbrev pub passed_by : Passed → ℕ → Passed
passed_by passed.Blanks b = after_blank b
passed_by passed.Slash b = after_slash b
passed_by passed.Comment b = if b == 42 then passed.Star else passed.Comment
passed_by passed.Star b = after_star b
passed_by passed.LineComment b = passed.LineComment
passed_by passed.Other b = passed.Other

abbrev pub is_over : Passed → Bool
is_over passed.Blanks = true
is_over passed.LineComment = true
is_over _ = false

-- what was passed of the rest of a line
abbrev pub passed_in : List ℕ → Passed
passed_in text = fold passed_by passed.Blanks text

-- Only blanks and comments stand in the rest of a line, and no comment stays open.
abbrev pub is_clear : List ℕ → Bool
is_clear text = is_over (passed_in text)

-- the bytes after the one at a place
abbrev pub rest_after : List Line → Span → List ℕ
rest_after [] at = []
rest_after (line ∷ lines) at =
    if line.number == at.line then drop at.col line.text else rest_after lines at
