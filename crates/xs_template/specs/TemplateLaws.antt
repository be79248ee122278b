-- What holds of templates.
use Rattle.std.specs.List.{list_all}
use Rattle.std.specs.Prelude.{◌≡◌, ℕ, ◌==◌, true, false, List, ◌∷◌, ◌++◌}
use Rattle.xs_base.specs.Readers.{head_is}
use Rattle.xs_template.specs.TemplatePieces.{is_assignment, is_gap}
use Rattle.xs_template.specs.declared.template.Piece.{Piece}
use Rattle.xs_template.specs.declared.template.Piece.TheVariants.{Text, Named}
use Rattle.xs_template.specs.declared.variables.Variable.TheVariants.{Arg}

-- `$arg`, blanks and line ends, and a `=` with no second `=` right after it
pub data AssignsArg : List Piece → Type 0 where
  assigns : (gap more : List ℕ) (rest : List Piece) → list_all is_gap gap ≡ true
      → head_is (λ b. b == 61) more ≡ false
      → AssignsArg (Named Arg ∷ Text (gap ++ 61 ∷ more) ∷ rest)

-- the same, maybe after blanks and line ends
pub data IsAssignment : List Piece → Type 0 where
  flush : {pieces : List Piece} → AssignsArg pieces → IsAssignment pieces
  indented : (indent : List ℕ) {pieces : List Piece} → list_all is_gap indent ≡ true
      → AssignsArg pieces → IsAssignment (Text indent ∷ pieces)

-- A template is taken for an assignment just where it is one.
pub record AssignmentLaw : Type 0 where
  pub taken : (pieces : List Piece) → is_assignment pieces ≡ true → IsAssignment pieces
  pub told : (pieces : List Piece) → IsAssignment pieces → is_assignment pieces ≡ true
