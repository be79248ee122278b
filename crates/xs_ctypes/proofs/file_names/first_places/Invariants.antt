use Rattle.std.proofs.Common.{take}
use Rattle.xs_ctypes.specs.FileNames.{FindsFirst, names_in}
use Rattle.xs_ctypes.proofs.file_names.first_places.Given as goal

abbrev pub invariant-loop-at : goal.invariant-loop-at
invariant-loop-at l = FindsFirst (names_in (take l.at l.items)).functions l.first.entries
