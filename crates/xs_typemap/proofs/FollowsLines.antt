-- What is read of a typemap follows the format.
use Rattle.std.proofs.Common.{◌≡◌, ℕ, List, [], inl, inr, None, Result, Ok, Err, refl, subst}
use Rattle.xs_base.specs.Reading.{Gives, fault_in}
use Rattle.xs_base.specs.declared.fault.Fault.{Fault}
use Rattle.xs_base.specs.declared.fault.Refuse.{Refuse}
use Rattle.xs_base.specs.declared.fault.Refuse.TheVariants as refuse
use Rattle.xs_base.specs.declared.source.FileOf.{FileOf}
use Rattle.xs_base.specs.declared.source.Line.{Line}
use Rattle.xs_typemap.proofs.EachLine.{Reads, each_line}
use Rattle.xs_typemap.proofs.SayingsRead.{breaks_read, says_read}
use Rattle.xs_typemap.specs.TypemapEntries.{Entries, no_entries}
use Rattle.xs_typemap.specs.TypemapSteps.{typemap_of}
use Rattle.xs_typemap.specs.TypemapText.{Breaks, FollowsFormat, Holds, IsBroken, Saying, Says, held_by}
use Rattle.xs_typemap.specs.declared.lines.Section.TheVariants.{Types}

said_read : (file : FileOf) (lines : List Line) (said : List Saying) → Says file Types lines said → typemap_of file lines ≡ Ok (held_by said)
said_read file lines said d = says_read file Types lines said d no_entries None tt

broken_read : (file : FileOf) (lines : List Line) (number fault : ℕ) → Breaks file Types lines number fault
    → typemap_of file lines ≡ Err (fault_in file number fault [])
broken_read file lines number fault d = breaks_read file Types lines number fault d no_entries None tt

same_held : (a b : Entries) (r : Result Entries Fault) → r ≡ Ok a → r ≡ Ok b → a ≡ b
same_held a b r e f = cc

holds : (file : FileOf) (lines : List Line) (held : Entries) → typemap_of file lines ≡ Ok held → Reads file Types lines → Holds file lines held
holds file lines held e (inl p) =
    record {
      said = p.0;
      says = p.1;
      only = λ other d. same_held (held_by other) held (typemap_of file lines) (said_read file lines other d) e;
      whole = λ number fault d. (let b = broken_read file lines number fault d in absurd cc);
    }
holds file lines held e (inr p) = let b = broken_read file lines p.0 p.1.0 p.1.1 in absurd cc

told : (file : FileOf) (lines : List Line) (number code : ℕ) → typemap_of file lines ≡ Err (fault_in file number code [])
    → Breaks file Types lines number code → IsBroken file lines (fault_in file number code [])
told file lines number code e d =
    record {
      is = refl;
      breaks = d;
      nothing = λ said s. (let r = said_read file lines said s in absurd cc);
    }

same_fault : (f g : Fault) (r : Result Entries Fault) → r ≡ Err f → r ≡ Err g → f ≡ g
same_fault f g r e h = cc

broken : (file : FileOf) (lines : List Line) (fault : Fault) → typemap_of file lines ≡ Err fault → Reads file Types lines → IsBroken file lines fault
broken file lines fault e (inl p) = let r = said_read file lines p.0 p.1 in absurd cc
broken file lines fault e (inr p) =
    let b = broken_read file lines p.0 p.1.0 p.1.1 in
    subst (IsBroken file lines) (same_fault (fault_in file p.0 p.1.0 []) fault (typemap_of file lines) b e) (told file lines p.0 p.1.0 b p.1.1)

pub follows : (file : FileOf) (lines : List Line) (result : Result Entries Refuse) → Gives result (typemap_of file lines)
    → FollowsFormat file lines result
follows file lines (Ok held) h = holds file lines held h (each_line file Types lines)
follows file lines (Err refuse.Memory) h = tt
follows file lines (Err (refuse.Fault fault)) h = broken file lines fault h (each_line file Types lines)
