use Rattle.std.proofs.Common.{◌≡◌, drop}
use Rattle.xs_cstmt.specs.PerlForms.{leads, slots_of}
use Rattle.xs_cstmt.proofs.forms.leads.Given as goal

abbrev pub invariant-loop-entry : goal.invariant-loop-entry
invariant-loop-entry l = leads l.types (slots_of l.slots) l.fn.tokens ≡ leads l.types (slots_of (drop l.entry-index l.slots)) l.rest
