-- What the answer to a command owes to the files of a desk.
use Rattle.std.specs.Option.{ForSome}
use Rattle.std.specs.Prelude.{◌≡◌, ◌≢◌, ℕ, List, [], Option, None, Some, Result, Ok, Err}
use Rattle.xs_base.specs.Causes.{Rose}
use Rattle.xs_base.specs.declared.fault.Refuse.{Refuse}
use Rattle.xs_base.specs.declared.fault.Refuse.TheVariants as refuse
use Rattle.xs_base.specs.Desks.{Files}
use Rattle.xs_base.specs.Sinks.{AppendsPrefix}
use Rattle.xsubpp.specs.Answers.{Given, answer_by, answer_to, done_or_refused, usage}
use Rattle.xsubpp.specs.declared.answer.Answer.{Answer}
use Rattle.xsubpp.specs.declared.status.Status.TheVariants.{Done, ReadFault, WriteFault, Memory, Usage}
use Rattle.xsubpp.specs.CommandLine.{Command, command_of}

-- It is the answer by the files of the desk, or a read failed.
pub record IsAnswerOf (reported : Option Files) (command : Command) (before now : ℕ)
    (a : Answer) : Type 0 where
  pub reported_is : ForSome reported (λ files. a.status ≢ ReadFault
      → a ≡ answer_to (Some command) files)
  pub read_fault : a.status ≡ ReadFault → Rose before now
  pub only_done : a.status ≢ Done → a.out ≡ []
  pub not_write_fault : a.status ≢ WriteFault
  pub not_memory : a.status ≢ Memory
  pub not_usage : a.status ≢ Usage

-- It is the answer by what some reads gave.
abbrev pub IsByReads : Command → Answer → Type 0
IsByReads command a = (given : Given) × (a ≡ answer_by command given)

-- It is the answer by what the job gave, where that is not running out of memory.
abbrev pub Finishes : Command → Result (List ℕ) Refuse → Answer → Type 0
Finishes command (Ok text) a = a ≡ done_or_refused command (Ok text)
Finishes command (Err (refuse.Fault fault)) a = a ≡ done_or_refused command (Err fault)
Finishes command (Err refuse.Memory) a = ⊥

-- It is the answer to such words, by what some reads gave.
abbrev pub IsAnswerByReads : Option Command → Answer → Type 0
IsAnswerByReads None a = a ≡ usage
IsAnswerByReads (Some command) a = IsByReads command a

-- A prefix of such an answer was written on `out`.
pub record PrefixByReads (words : List (List ℕ)) (out out' : Option (List ℕ)) : Type 0 where
  pub a : Answer
  pub is_answer : IsAnswerByReads (command_of words) a
  pub out_is : AppendsPrefix out out' a.out
