-- The core typemap, read.
use Rattle.std.proofs.Common.{◌≡◌, Result, Ok, Err, IfOk, refl}
use Rattle.xs_typemap.specs.CoreTypes.{CoreLaw, core, core_lines, core_read}
use Rattle.xs_typemap.specs.TypemapEntries.{Entries}
use Rattle.xs_typemap.specs.TypemapLines.{entry_of}
use Rattle.xs_typemap.specs.TypemapSteps.{code_line, step}

pub core_law : CoreLaw
unfolding core core_lines step code_line entry_of
core_law = record { read = refl; types = refl; inputs = refl; outputs = refl; have_input = refl; have_output = refl }

same : (held : Entries) → core_read ≡ Ok held → core_read ≡ Ok core → held ≡ core
same held h e = cc

pub core_given : {E : Type 0} (result : Result Entries E) → IfOk result (λ held. core_read ≡ Ok held) → IfOk result (λ held. held ≡ core)
core_given {E} (Ok held) h = same held h core_law.read
core_given {E} (Err e) h = tt
