-- What reading an expression meets and how many turns it needs, form by form.
use Rattle.std.proofs.Common.{◌≡◌, ℕ, suc, ◌+◌, List, [], ◌∷◌, Option, Some, None, refl, Ok}
use Rattle.std.specs.Prelude.{unwrap_or}
use Rattle.xs_script.specs.declared.line_part.Token.{Token}
use Rattle.xs_script.specs.Form as f
use Rattle.xs_script.specs.Form.{Form, Forms, Pairs, Deed}
use Rattle.xs_script.specs.PartInput.{Input, named, exceeded, opened}
use Rattle.xs_script.specs.ScriptNumbers.{number_of, argument_of}
use Rattle.xs_script.specs.Value.{ranged}

-- an input with these parts left
abbrev pub at : List Token → Input → Input
at ts i = record i { rest = ts }

abbrev pub out_of_range : {A : Type 0} → Option A → List ℕ → Input → Input
out_of_range (Some a) text i = i
out_of_range None text i = exceeded text i

abbrev mutual
  pub met_form : ℕ → Form → Input → Input
  met_form d f.Undef i = i
  met_form d (f.Number n) i = out_of_range (number_of n) n i
  met_form d (f.Text content) i = i
  met_form d (f.Variable n) i = named n i
  met_form d (f.Reference n) i = named n i
  met_form d (f.ListOf fs) i = met_list (suc d) fs (opened (d + 1) i)
  met_form d (f.HashOf ps) i = met_pairs (suc d) ps (opened (d + 1) i)
  met_form d (f.Argument k) i = out_of_range (argument_of k) k i

  pub met_list : ℕ → Forms → Input → Input
  met_list d f.NoForm i = i
  met_list d (f.MoreForms e fs) i = met_list d fs (met_form d e i)

  pub met_pairs : ℕ → Pairs → Input → Input
  met_pairs d f.NoPair i = i
  met_pairs d (f.MorePairs k e ps) i = met_pairs d ps (met_form d e i)

abbrev pub met_all : {X : Type 0} → (X → Input → Input) → List X → Input → Input
met_all met [] i = i
met_all met (x ∷ xs) i = met_all met xs (met x i)

abbrev pub met_deed : Deed → Input → Input
met_deed (f.Push e) i = met_form 0 e i
met_deed (f.Set k e) i = met_form 0 e (out_of_range (argument_of k) k i)
met_deed (f.Call n es) i = met_list 0 es i
met_deed (f.Die content) i = i

abbrev pub met_deeds : List Deed → Input → Input
met_deeds ds i = met_all met_deed ds i

-- the turns that are needed by what stands in the brackets of an expression
abbrev mutual
  pub inner : Form → ℕ
  inner f.Undef = 0
  inner (f.Number n) = 0
  inner (f.Text content) = 0
  inner (f.Variable n) = 0
  inner (f.Reference n) = 0
  inner (f.ListOf fs) = steps_list fs
  inner (f.HashOf ps) = steps_pairs ps
  inner (f.Argument k) = 0

  pub steps_list : Forms → ℕ
  steps_list f.NoForm = 0
  steps_list (f.MoreForms e fs) = inner e + 2 + steps_list fs

  pub steps_pairs : Pairs → ℕ
  steps_pairs f.NoPair = 0
  steps_pairs (f.MorePairs k e ps) = inner e + 2 + steps_pairs ps

-- the turns that an expression needs
abbrev pub steps : Form → ℕ
steps e = inner e + 1

pub ranged_done : {A : Type 0} (o : Option A) (stand_in : A) (text : List ℕ) (ts : List Token) (i : Input)
    → ranged o stand_in text (at ts i) ≡ Ok (unwrap_or o stand_in, at ts (out_of_range o text i))
unfolding exceeded
ranged_done (Some a) stand_in text ts i = refl
ranged_done None stand_in text ts i = refl
