-- Each row of Perl's API at its operands.
use Rattle.std.specs.Prelude.{ℕ, List, [], ◌∷◌}
use Rattle.xs_values.specs.declared.plain.Plain.TheVariants as plain
use Rattle.xs_values.specs.declared.trap.Trap.TheVariants as trap
use Rattle.xs_perlapi.specs.declared.row.Row.{Row}
use Rattle.xs_perlapi.specs.declared.row.Row.TheVariants.{Entry, StRead, SvIv, SvNewMortal, SvSetIv, StSet, XsReturn, XsReturnYes, XsEnd}
use Rattle.xs_api.specs.declared.api.Frame.{Frame}
use Rattle.xs_api.specs.declared.api.Operand.{Operand}
use Rattle.xs_api.specs.declared.api.Operand.TheVariants.{Num, Scalar}
use Rattle.xs_api.specs.declared.stacks.Depths.{Depths}
use Rattle.xs_api.specs.Effects.{Effect}
use Rattle.xs_api.specs.Rows.{croak_usage, new_mortal, pop_mark, register, return_one, returned_to, st_read, st_set, sv_iv, sv_setiv, trapped, xsreturn, yes}
use Rattle.xs_api.specs.World.{World, Swept, sweep}

-- What a run does to the world that it works on: each row at its operands; the croak for wrong use,
-- with the text of the parameters; the registration of a function under a Perl name; and what cuts
-- the stacks where a croak is caught.
pub record Prims (S : Type 0) : Type 0 where
  pub row : Row → List Operand → Frame → S → Effect S
  pub croak_usage : List ℕ → Frame → S → Effect S
  pub register : List ℕ → ℕ → Frame → S → Effect S
  pub cut : Depths → S → Swept S

-- each row at its operands; operands of another number or type trap Kind
abbrev pub row_at : Row → List Operand → Frame → World → Effect World
row_at Entry [] f w = pop_mark w.marks f w
row_at StRead (Num i ∷ []) f w = st_read i.value f w
row_at SvIv (Scalar s ∷ []) f w = sv_iv s f w
row_at SvNewMortal [] f w = new_mortal plain.Undef f w
row_at SvSetIv (Scalar s ∷ Num v ∷ []) f w = sv_setiv s v f w
row_at StSet (Scalar s ∷ Num i ∷ []) f w = st_set s i.value f w
row_at XsReturn (Num n ∷ []) f w = xsreturn n.value f w
row_at XsReturnYes [] f w = return_one yes f w
row_at XsEnd [] f w = returned_to w.top f w
row_at _ _ f w = trapped trap.Kind f w

-- the rows on counted scalars
abbrev pub counted_rows : Prims World
counted_rows =
    record { row = row_at; croak_usage = croak_usage; register = register; cut = sweep }
