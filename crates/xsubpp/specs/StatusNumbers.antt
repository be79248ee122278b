-- The numbers that the process ends with.
use Rattle.std.specs.Prelude.{ℕ}
use Rattle.xsubpp.specs.declared.status.Status.{Status}
use Rattle.xsubpp.specs.declared.status.Status.TheVariants.{Done, Refused, Usage, Missing, ReadFault, WriteFault, Memory}

abbrev pub number_of : Status → ℕ
number_of Done = 0
number_of Refused = 1
number_of Usage = 2
number_of Missing = 3
number_of ReadFault = 4
number_of WriteFault = 5
number_of Memory = 6
