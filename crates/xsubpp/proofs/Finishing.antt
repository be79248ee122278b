-- The answer by what the job gave is the answer by what the reads gave.
use Rattle.std.proofs.Common.{◌≡◌, ℕ, List, Result, Ok, Err, sym, ap, ◌∙◌, subst}
use Rattle.xs_base.specs.declared.desk.DeskFault.{DeskFault}
use Rattle.xs_base.specs.declared.fault.Fault.{Fault}
use Rattle.xs_base.specs.declared.fault.Refuse.{Refuse}
use Rattle.xs_base.specs.declared.fault.Refuse.TheVariants as refuse
use Rattle.xs_base.specs.declared.source.FileOf.TheVariants.{Xs, Typemap, Script, Text}
use Rattle.xs_base.specs.Reading.{Gives}
use Rattle.xsubpp.specs.declared.answer.Answer.{Answer}
use Rattle.xsubpp.specs.Answers.{Given, answer_by, done_or_refused, name_of, unread}
use Rattle.xsubpp.specs.Reads.{Finishes, IsByReads}
use Rattle.xsubpp.specs.CommandLine.{Command, Compile, Call, Check}

finishes : (command : Command) (r : Result (List ℕ) Fault) (job : Result (List ℕ) Refuse) (a : Answer) → Gives job r → Finishes command job a
    → a ≡ done_or_refused command r
finishes command r (Ok text) a command_view h = h ∙ ap (done_or_refused command) (sym command_view)
finishes command r (Err (refuse.Fault fault)) a command_view h = h ∙ ap (done_or_refused command) (sym command_view)
finishes command r (Err refuse.Memory) a command_view h = absurd h

-- ---- what two reads gave

abbrev pub both : Result (List ℕ) DeskFault → Result (List ℕ) DeskFault → Given
both first second Xs = first
both first second Typemap = second
both first second Script = second
both first second Text = first

-- ---- by the files

-- a command whose XS file was not read
pub not_read : (command : Command) (fault : DeskFault) (a : Answer) → a ≡ unread (name_of command Xs) Xs fault → IsByReads command a
not_read (Compile file) fault a e = (both (Err fault) (Err fault), e)
not_read (Call file script) fault a e = (both (Err fault) (Err fault), e)
not_read (Check file) fault a e = (both (Err fault) (Err fault), e)

pub by_reads : (command known : Command) (given : Given) (a : Answer) → command ≡ known → a ≡ answer_by known given → IsByReads command a
by_reads command known given a is e = (given, e ∙ sym (ap (λ c. answer_by c given) is))

pub by_job : (command known : Command) (given : Given) (r : Result (List ℕ) Fault) (job : Result (List ℕ) Refuse) (a : Answer) → command ≡ known
    → done_or_refused known r ≡ answer_by known given → Gives job r
    → Finishes command job a → IsByReads command a
by_job command known given r job a is same gives h = by_reads command known given a is (finishes known r job a gives (subst (λ c. Finishes c job a) is h)
    ∙ same)
