-- What the pieces of a template stand for, and the form of assignments.
use Rattle.std.specs.List.{flat_map, list_all}
use Rattle.std.specs.Prelude.{ℕ, not, ◌==◌, ◌&&◌, ◌||◌, Bool, true, false, if◌then◌else◌, List, [], ◌∷◌, codes, decimal}
use Rattle.xs_base.specs.Scanning.{is_blank, starts_with}
use Rattle.xs_template.specs.declared.template.Names.{Names}
use Rattle.xs_template.specs.declared.template.Piece.{Piece}
use Rattle.xs_template.specs.declared.template.Piece.TheVariants.{Text, Named}
use Rattle.xs_template.specs.declared.variables.Variable.{Variable}
use Rattle.xs_template.specs.declared.variables.Variable.TheVariants.{Var, Arg, CType, Ntype, Package, FuncName, Pname, Argoff}

-- what a variable stands for
abbrev pub value_of : Names → Variable → List ℕ
value_of names Var = names.var
value_of names Arg = names.arg
value_of names CType = names.ctype
value_of names Ntype = names.ntype
value_of names Package = names.package
value_of names FuncName = names.func_name
value_of names Pname = names.pname
value_of names Argoff = decimal names.argoff

abbrev pub piece_text : Names → Piece → List ℕ
piece_text names (Text text) = text
piece_text names (Named variable) = value_of names variable

-- a template with each variable replaced
abbrev pub expanded : Names → List Piece → List ℕ
expanded names pieces = flat_map (piece_text names) pieces

-- ---- assignments

-- a space, a tab or a line end
abbrev pub is_gap : ℕ → Bool
is_gap b = is_blank b || b == 10

-- a text from its first byte on that is none of these
abbrev pub after_gaps : List ℕ → List ℕ
after_gaps [] = []
after_gaps (b ∷ bs) = if is_gap b then after_gaps bs else b ∷ bs

-- a `=` stands in front, with no second `=` after it
abbrev pub begins_equals : List ℕ → Bool
begins_equals text = starts_with (codes "=") text && not (starts_with (codes "==") text)

abbrev pub is_indent : Piece → Bool
is_indent (Text text) = list_all is_gap text
is_indent (Named variable) = false

abbrev pub is_arg : Piece → Bool
is_arg (Named Arg) = true
is_arg _ = false

abbrev pub assigns : Piece → Bool
assigns (Text text) = begins_equals (after_gaps text)
assigns (Named variable) = false

abbrev pub begins_assignment : List Piece → Bool
begins_assignment (first ∷ second ∷ more) = is_arg first && assigns second
begins_assignment _ = false

-- A template is an assignment where, after its indentation, `$arg` and `=` stand in front.
abbrev pub is_assignment : List Piece → Bool
is_assignment [] = false
is_assignment (first ∷ more) =
    if is_indent first then begins_assignment more else begins_assignment (first ∷ more)
