-- What is cut of a text follows the rules.
use Rattle.std.proofs.Common.{◌≡◌, ℕ, Bool, true, false, if◌then◌else◌, List, [], inl, inr, Result, Ok, Err, refl, sym, subst}
use Rattle.xs_base.specs.Reading.{Gives, fault_in}
use Rattle.xs_base.specs.declared.fault.Refuse.{Refuse}
use Rattle.xs_base.specs.declared.fault.Refuse.TheVariants as refuse
use Rattle.xs_base.specs.declared.fault_codes.TheConstants.{TEMPLATE_NOT_TAKEN}
use Rattle.xs_template.proofs.CutSteps.{outcome}
use Rattle.xs_template.proofs.EachText.{Reads, each_text}
use Rattle.xs_template.proofs.Expanding.{EndsBad, EndsWell, expands_well, stops_bad}
use Rattle.xs_template.specs.TemplatePieces.{expanded}
use Rattle.xs_template.specs.TemplateSteps.{begun, is_refused, template_of, text_of, with_text}
use Rattle.xs_template.specs.TemplateText.{Expands, FollowsRules, IsNoTemplate, IsRefused, IsTemplate, Stops}
use Rattle.xs_template.specs.declared.cutting.Cutting.{Cutting}
use Rattle.xs_template.specs.declared.template.Names.{Names}
use Rattle.xs_template.specs.declared.template.Piece.{Piece}
use Rattle.xs_typemap.specs.declared.typemap.Code.{Code}

no_names : Names
no_names = record { var = []; arg = []; ctype = []; ntype = []; «package» = []; func_name = []; pname = []; argoff = 0 }

module _ (text : List ℕ) where
  end_of : Cutting
  end_of = outcome begun text

  well : (names : Names) (out : List ℕ) → Expands names text out → EndsWell names (outcome begun text) out
  well names out d = expands_well names text out d [] [] []

  stopped : (word : List ℕ) → Stops text word → EndsBad (outcome begun text) word
  stopped word d = stops_bad text word d [] [] []

  -- where the cutting was not refused
  is_template : is_refused (outcome begun text).mode ≡ false → IsTemplate text (with_text (outcome begun text).text (outcome begun text).pieces)
  is_template taken =
      record {
        expands = λ names. by names (each_text names text);
        only = λ names out d. sym (well names out d).is;
        taken = λ word d. (let r = (stopped word d).refused in absurd cc);
      }
    where
      by : (names : Names) → Reads names text → Expands names text (expanded names (with_text (outcome begun text).text (outcome begun text).pieces))
      by names (inl p) = subst (Expands names text) (sym (well names p.0 p.1).is) p.1
      by names (inr p) = let r = (stopped p.0 p.1).refused in absurd cc

  -- where it was
  is_none : is_refused (outcome begun text).mode ≡ true → IsNoTemplate text (outcome begun text).name
  is_none refused =
      record {
        stops = by (each_text no_names text);
        only = λ word d. sym (stopped word d).is;
        refused = λ names out d. (let t = (well names out d).taken in absurd cc);
      }
    where
      by : Reads no_names text → Stops text (outcome begun text).name
      by (inl p) = let t = (well no_names p.0 p.1).taken in absurd cc
      by (inr p) = subst (Stops text) (sym (stopped p.0 p.1).is) p.1

follows_end : (code : Code) (result : Result (List Piece) Refuse) (t : Bool) → is_refused (outcome begun (text_of code.lines)).mode ≡ t
    → Gives result (if t then Err (fault_in code.file code.line TEMPLATE_NOT_TAKEN (outcome begun (text_of code.lines)).name)
    else Ok (with_text (outcome begun (text_of code.lines)).text (outcome begun (text_of code.lines)).pieces)) → FollowsRules code result
follows_end code (Ok pieces) false e h =
    let is : with_text (outcome begun (text_of code.lines)).text (outcome begun (text_of code.lines)).pieces ≡ pieces = cc in
    subst (IsTemplate (text_of code.lines)) is (is_template (text_of code.lines) e)
follows_end code (Ok pieces) true e h = absurd cc
follows_end code (Err refuse.Memory) t e h = tt
follows_end code (Err (refuse.Fault fault)) false e h = absurd cc
follows_end code (Err (refuse.Fault fault)) true e h =
    let is : fault_in code.file code.line TEMPLATE_NOT_TAKEN (outcome begun (text_of code.lines)).name ≡ fault = cc in
    subst (IsRefused code) is (record { is = refl; word = is_none (text_of code.lines) e })

pub follows : (code : Code) (result : Result (List Piece) Refuse) → Gives result (template_of code) → FollowsRules code result
follows code result h = follows_end code result (is_refused (outcome begun (text_of code.lines)).mode) refl h
