-- What was written of an answer, reported of the answer by the desk's files or by some reads.
use Rattle.std.proofs.Common.{◌≡◌, ◌≢◌, ℕ, List, [], Option, None, Some, ◌⊎◌, inl, inr, refl, sym, ap, subst, ◌∙◌, append-nil, arith}
use Rattle.std.proofs.Math.Seq.{take-nil}
use Rattle.xs_base.specs.Causes.{Rose}
use Rattle.xs_base.specs.Desks.{Files}
use Rattle.xs_base.specs.Sinks.{appended, AppendsPrefix}
use Rattle.xsubpp.specs.declared.status.Status.{Status}
use Rattle.xsubpp.specs.declared.status.Status.TheVariants.{Done, Refused, Usage, Missing, ReadFault, WriteFault, Memory}
use Rattle.xsubpp.specs.declared.answer.Answer.{Answer}
use Rattle.xsubpp.specs.Answers.{answer, answer_to, Ends, EndsByReads, IsOut, IsStatus}
use Rattle.xsubpp.specs.Reads.{IsAnswerOf, IsByReads}
use Rattle.xsubpp.specs.CommandLine.{Command, command_of}
use Rattle.xsubpp.proofs.FilesReported.{unlike}

same_answer : (words : List (List ℕ)) (files : Files) (command : Command) (reported : Option Files) (before now : ℕ) (a : Answer)
    → IsAnswerOf reported command before now a → command_of words ≡ Some command → reported ≡ Some files → a.status ≢ ReadFault → a ≡ answer words files
unfolding answer
same_answer words files command reported before now a h command_view reports read =
    h.reported_is files reports read ∙ ap (λ c. answer_to c files) (sym command_view)

its_status : (a : Answer) (result : Status) → (result ≡ a.status) ⊎ (result ≡ WriteFault) → result ≢ WriteFault → result ≡ a.status
its_status a result (inl e) not_write = e
its_status a result (inr e) not_write = absurd (not_write e)

pub is_out : (a : Answer) (out_text err_text : List ℕ) (result : Status) (out out' err err' : Option (List ℕ))
    → IsOut (record { status = a.status; out = out_text; err = err_text }) result out out' err err'
    → out_text ≡ a.out → err_text ≡ a.err → IsOut a result out out' err err'
is_out a out_text err_text result out out' err err' reported out_same err_same =
    record { was = reported.was; out_is = λ e. reported.out_is e ∙ ap (appended out) out_same; err_is = λ e. reported.err_is e ∙ ap (appended err) err_same }

-- a run that ended with an answer that is another
ends_by : (a b : Answer) (s result : Status) (out out' err err' : Option (List ℕ)) → a ≡ b → IsOut a result out out' err err' → s ≢ WriteFault → result ≡ s
    → Ends b s out out' err err'
ends_by a b s result out out' err err' same reported no_write is =
    let not_write : result ≢ WriteFault = λ e. no_write (sym is ∙ e) in
    let P : Answer → Type 0 = λ x. Ends x s out out' err err' in
    subst P same (record {
      status_is = sym (its_status a result reported.was not_write) ∙ is;
      out_is = reported.out_is not_write;
      err_is = reported.err_is not_write;
    })

pub ends_by_reads : (words : List (List ℕ)) (command : Command) (a : Answer) (s result : Status) (out out' err err' : Option (List ℕ))
    → command_of words ≡ Some command → IsByReads command a
    → IsOut a result out out' err err' → s ≢ WriteFault → result ≡ s → EndsByReads words s out out' err err'
ends_by_reads words command a s result out out' err err' command_view reads reported no_write is =
    record { command = command; given = reads.0; is_command = command_view; ends = ends_by a _ s result out out' err err' reads.1 reported no_write is }

pub ends : (words : List (List ℕ)) (files : Files) (command : Command) (reported : Option Files) (before now : ℕ) (a : Answer) (s result : Status)
    (out out' err err' : Option (List ℕ))
    → IsAnswerOf reported command before now a → command_of words ≡ Some command → reported ≡ Some files
    → IsOut a result out out' err err' → s ≢ WriteFault → s ≢ ReadFault → result ≡ s → Ends (answer words files) s out out' err err'
ends words files command reported before now a s result out out' err err' h command_view reports written no_write no_read is =
    let status : a.status ≡ s = sym (its_status a result written.was (λ e. no_write (sym is ∙ e))) ∙ is in
    ends_by a (answer words files) s result out out' err err'
    (same_answer words files command reported before now a h command_view reports (λ e. no_read (sym status ∙ e))) written no_write is

pub appended-nil : (reported : Option (List ℕ)) → appended reported [] ≡ reported
appended-nil None = refl
appended-nil (Some bytes) = ap Some (append-nil bytes)

pub untouched : (reported : Option Files) (command : Command) (before now : ℕ) (a : Answer) (result : Status) (out out' err err' : Option (List ℕ))
    → IsAnswerOf reported command before now a → IsOut a result out out' err err' → result ≢ Done → result ≢ WriteFault → out' ≡ out
untouched reported command before now a result out out' err err' h written no_done no_write =
    let is = its_status a result written.was no_write in
    written.out_is no_write ∙ ap (appended out) (h.only_done (λ e. no_done (is ∙ e))) ∙ appended-nil out

read_fault_or_not : (s : Status) → (s ≡ ReadFault) ⊎ (s ≢ ReadFault)
read_fault_or_not Done = inr (unlike Done ReadFault refl)
read_fault_or_not Refused = inr (unlike Refused ReadFault refl)
read_fault_or_not Usage = inr (unlike Usage ReadFault refl)
read_fault_or_not Missing = inr (unlike Missing ReadFault refl)
read_fault_or_not ReadFault = inl refl
read_fault_or_not WriteFault = inr (unlike WriteFault ReadFault refl)
read_fault_or_not Memory = inr (unlike Memory ReadFault refl)

of_nothing : (out out' : Option (List ℕ)) (bytes : List ℕ) → AppendsPrefix out out' [] → AppendsPrefix out out' bytes
of_nothing out out' bytes p = (0, omega arith, p.2 ∙ ap (appended out) (take-nil p.0))

pub prefix : (words : List (List ℕ)) (files : Files) (command : Command) (reported : Option Files) (before now : ℕ) (a : Answer) (out out' : Option (List ℕ))
    → IsAnswerOf reported command before now a → command_of words ≡ Some command → reported ≡ Some files
    → AppendsPrefix out out' a.out → AppendsPrefix out out' (answer words files).out
prefix words files command reported before now a out out' h command_view reports p =
    elim (read_fault_or_not a.status) [
      | inl e ↦ of_nothing out out' _ (subst (AppendsPrefix out out') (h.only_done (λ d. absurd (unlike ReadFault Done refl (sym e ∙ d)))) p)
      | inr other ↦ subst (λ (b : Answer). AppendsPrefix out out' b.out) (same_answer words files command reported before now a h command_view reports other) p
    ]

pub complete : (words : List (List ℕ)) (files : Files) (command : Command) (reported : Option Files) (before now : ℕ) (a : Answer) (result : Status)
    → IsAnswerOf reported command before now a → command_of words ≡ Some command → reported ≡ Some files
    → (result ≡ a.status) ⊎ (result ≡ WriteFault) → ¬ (Rose before now) → result ≢ WriteFault → result ≡ (answer words files).status
complete words files command reported before now a result h command_view reports was no_rise no_write =
    its_status a result was no_write
    ∙ ap (λ (b : Answer). b.status) (same_answer words files command reported before now a h command_view reports (λ e. no_rise (h.read_fault e)))

-- Where no read failed, the status is that of the answer, if it could be written.
pub decided : (words : List (List ℕ)) (files : Files) (command : Command) (reported : Option Files) (before now : ℕ) (a : Answer) (result : Status)
    → IsAnswerOf reported command before now a → command_of words ≡ Some command → reported ≡ Some files
    → (result ≡ a.status) ⊎ (result ≡ WriteFault) → ¬ (Rose before now) → IsStatus (answer words files).status result
decided words files command reported before now a result h command_view reports (inl is) no_rise =
    inl (is ∙ ap (λ (b : Answer). b.status) (same_answer words files command reported before now a h command_view reports (λ e. no_rise (h.read_fault e))))
decided words files command reported before now a result h command_view reports (inr is) no_rise = inr (inl is)

-- words that are no command
pub no_command : (words : List (List ℕ)) (files : Files) (result : Status) → command_of words ≡ None → result ≡ Usage → result ≡ (answer words files).status
unfolding answer
no_command words files result none is = is ∙ ap (λ c. (answer_to c files).status) (sym none)

pub decided_usage : (words : List (List ℕ)) (files : Files) (result : Status) → command_of words ≡ None → (result ≡ Usage) ⊎ (result ≡ WriteFault)
    → IsStatus (answer words files).status result
decided_usage words files result none (inl is) = inl (no_command words files result none is)
decided_usage words files result none (inr is) = inr (inl is)

-- the status of the answer, named
pub as_status : (status s result : Status) → status ≡ s → IsStatus status result → IsStatus s result
as_status status s result is h = let P : Status → Type 0 = λ t. IsStatus t result in subst P is h
