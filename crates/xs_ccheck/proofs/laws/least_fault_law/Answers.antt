-- The four parts of the law on faults.
use Rattle.xs_ccheck.proofs.FaultsTold.{least_fault, no_fault, all_sound, faults_ordered}
use Rattle.xs_ccheck.proofs.laws.least_fault_law.Goals as goal

pub returns-clause-least : goal.returns-clause-least
returns-clause-least c = least_fault

pub returns-clause-faultless : goal.returns-clause-faultless
returns-clause-faultless c = no_fault

pub returns-clause-sound : goal.returns-clause-sound
returns-clause-sound c = all_sound

pub returns-clause-ordered : goal.returns-clause-ordered
returns-clause-ordered c = faults_ordered
