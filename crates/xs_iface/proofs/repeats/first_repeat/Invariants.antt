use Rattle.std.proofs.Common.{◌≡◌, [], drop, map, take}
use Rattle.xs_base.specs.Faults.{first_fault}
use Rattle.xs_iface.specs.Iface.{name_fault}
use Rattle.xs_iface.specs.Repeats.{names_of}
use Rattle.xs_iface.proofs.repeats.first_repeat.Given as goal

-- the XSUBs so far have no fault, and their names are those of the sets
abbrev pub invariant-loop-xsub : goal.invariant-loop-xsub
invariant-loop-xsub l =
    record {
      none : first_fault name_fault [] l.xsubs ≡ first_fault name_fault (take l.xsub-index l.xsubs) (drop l.xsub-index l.xsubs);
      full_names : names_of l.fulls.keys ≡ map (λ x. x.full) (take l.xsub-index l.xsubs);
      glue_names : names_of l.glues.keys ≡ map (λ x. x.glue) (take l.xsub-index l.xsubs);
    }
