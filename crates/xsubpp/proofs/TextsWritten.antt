-- What an answer writes, reported of the interface that the XS file declares.
use Rattle.std.proofs.Common.{◌≡◌, ℕ, ◌≤◌, List, [], length, Option, None, Some, Result, Ok, Err, refl, ap, ◌∙◌}
use Rattle.std.specs.Result.{result_unwrap_or}
use Rattle.xs_base.specs.declared.desk.DeskFault.{DeskFault}
use Rattle.xs_base.specs.declared.desk.DeskFault.TheVariants as read
use Rattle.xs_base.specs.declared.fault.Fault.{Fault}
use Rattle.xs_base.specs.declared.source.FileOf.{FileOf}
use Rattle.xs_base.specs.declared.source.FileOf.TheVariants.{Xs, Script}
use Rattle.xs_base.specs.Desks.{Files, reported_read}
use Rattle.xs_base.specs.Reading.{◌>>=◌}
use Rattle.xs_meaning.specs.declared.call_command.CallCommand.{CallCommand}
use Rattle.xs_call.specs.Jobs.{call_of, calls_in, check_of, compile_of, module_in}
use Rattle.xs_call.specs.Laws.{EachTextLeavesNothing, EachTextRunsAsDeclared}
use Rattle.xs_meaning.specs.DeclaredMeaning.{declared_transcript}
use Rattle.xs_iface.specs.declared.xsub.Module.{Module}
use Rattle.xs_stub.specs.Stub.{glue_text}
use Rattle.xsubpp.specs.declared.answer.Answer.{Answer}
use Rattle.xsubpp.specs.declared.status.Status.TheVariants.{Done, Memory, Missing, ReadFault, Refused, Usage}
use Rattle.xsubpp.specs.Answers.{file_limit, Ends, EndsByReads, Given, accepted, answer, answer_by, answer_to, done_or_refused, files_of, read_bytes, reported_by, unread}
use Rattle.xsubpp.specs.CommandLine.{Command, Compile, Call, Check, command_of}
use Rattle.xsubpp.specs.Written.{AreHeld, HasCalls, HasModule, IsAcceptance, IsGlueOf, IsGranted, IsAccepted, IsTranscriptOf, IsWritten, Wrote, WroteByReads}
use Rattle.xsubpp.proofs.FilesReported.{are_held, read_short, unlike}
use Rattle.xsubpp.proofs.Finishing.{both}

unread_is_not_done : (name : List ℕ) (file : FileOf) (fault : DeskFault) → (unread name file fault).status ≡ Done → ⊥
unread_is_not_done name file read.Missing e = unlike Missing Done refl e
unread_is_not_done name file read.Longer e = unlike Refused Done refl e
unread_is_not_done name file read.Failed e = unlike ReadFault Done refl e
unread_is_not_done name file read.Memory e = unlike Memory Done refl e

-- ---- compile

abbrev glue_answer : List ℕ → Result Module Fault → Answer
glue_answer name r = done_or_refused (Compile name) (r >>= λ m. Ok (glue_text m))

glue_written : EachTextRunsAsDeclared → EachTextLeavesNothing → (name xs : List ℕ) (r : Result Module Fault) → module_in xs ≡ r
    → (glue_answer name r).status ≡ Done → IsGlueOf xs (glue_answer name r).out
glue_written runs exact name xs (Ok m) is h =
    record { found = record { m = m; is_module = is }; text_is = refl; runs = λ cs. runs xs m cs is; exact = λ cs. exact xs m cs is }
glue_written runs exact name xs (Err fault) is h = absurd (unlike Refused Done refl h)

compiled : EachTextRunsAsDeclared → EachTextLeavesNothing → (name : List ℕ) (xs : Result (List ℕ) DeskFault) → (answer_by (Compile name) (λ file. xs)).status
    ≡ Done → IsGlueOf (result_unwrap_or xs []) (answer_by (Compile name) (λ file. xs)).out
unfolding compile_of
compiled runs exact name (Ok xs) h = glue_written runs exact name xs (module_in xs) refl h
compiled runs exact name (Err fault) h = absurd (unread_is_not_done name Xs fault h)

-- ---- call

abbrev transcript_of : Command → Result Module Fault → List ℕ → Answer
transcript_of command r script = done_or_refused command (r >>= λ m. calls_in script >>= λ cs. Ok (declared_transcript m cs))

calls_written : EachTextRunsAsDeclared → EachTextLeavesNothing → (command : Command) (xs script : List ℕ) (m : Module) → module_in xs ≡ Ok m
    → (cs : Result (List CallCommand) Fault) → calls_in script ≡ cs → (done_or_refused command (cs >>= λ cs. Ok (declared_transcript m cs))).status ≡ Done
    → IsTranscriptOf xs script (done_or_refused command (cs >>= λ cs. Ok (declared_transcript m cs))).out
calls_written runs exact command xs script m is (Ok cs) are h =
    record {
      found = record { m = m; is_module = is };
      calls = record { cs = cs; are_calls = are };
      text_is = refl;
      runs = runs xs m cs is;
      exact = exact xs m cs is;
    }
calls_written runs exact command xs script m is (Err fault) are h = absurd (unlike Refused Done refl h)

transcript_written : EachTextRunsAsDeclared → EachTextLeavesNothing → (command : Command) (xs script : List ℕ) (r : Result Module Fault) → module_in xs ≡ r
    → (transcript_of command r script).status ≡ Done
    → IsTranscriptOf xs script (transcript_of command r script).out
transcript_written runs exact command xs script (Ok m) is h = calls_written runs exact command xs script m is (calls_in script) refl h
transcript_written runs exact command xs script (Err fault) is h = absurd (unlike Refused Done refl h)

called : EachTextRunsAsDeclared → EachTextLeavesNothing → (name script : List ℕ) (xs commands : Result (List ℕ) DeskFault)
    → (answer_by (Call name script) (both xs commands)).status ≡ Done
    → IsTranscriptOf (result_unwrap_or xs []) (result_unwrap_or commands []) (answer_by (Call name script) (both xs commands)).out
unfolding call_of
called runs exact name script (Ok xs) (Ok commands) h = transcript_written runs exact (Call name script) xs commands (module_in xs) refl h
called runs exact name script (Ok xs) (Err fault) h = absurd (unread_is_not_done script Script fault h)
called runs exact name script (Err fault) commands h = absurd (unread_is_not_done name Xs fault h)

-- ---- check

abbrev only_found : Result Module Fault → Result (Unit {0}) Fault
only_found r = r >>= λ m. Ok tt

abbrev found_answer : List ℕ → Result Module Fault → Answer
found_answer name r = done_or_refused (Check name) (only_found r >>= λ found. Ok accepted)

found_written : (name xs : List ℕ) (r : Result Module Fault) → module_in xs ≡ r → (found_answer name r).status ≡ Done
    → IsAcceptance xs (found_answer name r).out
found_written name xs (Ok m) is h = record { found = record { m = m; is_module = is }; text_is = refl }
found_written name xs (Err fault) is h = absurd (unlike Refused Done refl h)

checked : (name : List ℕ) (xs : Result (List ℕ) DeskFault) → (answer_by (Check name) (λ file. xs)).status ≡ Done
    → IsAcceptance (result_unwrap_or xs []) (answer_by (Check name) (λ file. xs)).out
unfolding check_of
checked name (Ok xs) h = found_written name xs (module_in xs) refl h
checked name (Err fault) h = absurd (unread_is_not_done name Xs fault h)

-- ---- all commands

written : EachTextRunsAsDeclared → EachTextLeavesNothing → (command : Command) (given : Given) → (answer_by command given).status ≡ Done
    → IsWritten command (read_bytes given) (answer_by command given).out
written runs exact (Compile name) given h = compiled runs exact name (given Xs) h
written runs exact (Call name script) given h = called runs exact name script (given Xs) (given Script) h
written runs exact (Check name) given h = checked name (given Xs) h

wrote_for : EachTextRunsAsDeclared → EachTextLeavesNothing → (words : List (List ℕ)) (command : Command) (given : Given) (out out' err err' : Option (List ℕ))
    → command_of words ≡ Some command
    → Ends (answer_by command given) Done out out' err err' → WroteByReads words out out'
wrote_for runs exact words command given out out' err err' is e =
    record {
      command = command;
      bytes = read_bytes given;
      text = (answer_by command given).out;
      is_command = is;
      is_written = written runs exact command given e.status_is;
      out_is = e.out_is;
    }

wrote_asked : EachTextRunsAsDeclared → EachTextLeavesNothing
    → (words : List (List ℕ)) (files : Files) (asked : Option Command) (out out' err err' : Option (List ℕ)) → command_of words ≡ asked
    → Ends (answer_to asked files) Done out out' err err' → Wrote words files out out'
unfolding wrote_for
wrote_asked runs exact words files None out out' err err' is e = absurd (unlike Usage Done refl e.status_is)
wrote_asked runs exact words files (Some command) out out' err err' is e =
    record {
      by_reads = wrote_for runs exact words command (reported_by command files) out out' err err' is e;
      held = are_held files command (files_of command) _ e.status_is;
    }

pub wrote : EachTextRunsAsDeclared → EachTextLeavesNothing → (words : List (List ℕ)) (files : Files) (out out' err err' : Option (List ℕ))
    → Ends (answer words files) Done out out' err err'
    → Wrote words files out out'
unfolding answer
wrote runs exact words files out out' err err' e = wrote_asked runs exact words files (command_of words) out out' err err' refl e

pub wrote_by_reads : EachTextRunsAsDeclared → EachTextLeavesNothing → (words : List (List ℕ)) (out out' err err' : Option (List ℕ))
    → EndsByReads words Done out out' err err' → WroteByReads words out out'
wrote_by_reads runs exact words out out' err err' e = wrote_for runs exact words e.command e.given out out' err err' e.is_command e.ends

-- ---- all that is read is accepted

pub held_read : (held : Option (List ℕ)) (bytes : List ℕ) → held ≡ Some bytes → length bytes ≤ file_limit → reported_read held file_limit ≡ Ok bytes
held_read held bytes is short = ap (λ o. reported_read o file_limit) is ∙ read_short file_limit bytes short

compile_done : (name xs : List ℕ) (given : Given) → given Xs ≡ Ok xs → HasModule xs → (answer_by (Compile name) given).status ≡ Done
unfolding compile_of
compile_done name xs given is h = rw (is, h.is_module) refl

call_done : (name script xs commands : List ℕ) (given : Given) → given Xs ≡ Ok xs → given Script ≡ Ok commands → HasModule xs → HasCalls commands
    → (answer_by (Call name script) given).status ≡ Done
unfolding call_of
call_done name script xs commands given is is_commands h calls = rw (is, is_commands, h.is_module, calls.are_calls) refl

check_done : (name xs : List ℕ) (given : Given) → given Xs ≡ Ok xs → HasModule xs → (answer_by (Check name) given).status ≡ Done
unfolding check_of
check_done name xs given is h = rw (is, h.is_module) refl

found_done : (files : Files) (command : Command) (bytes : FileOf → List ℕ) → AreHeld files command bytes (files_of command) → IsAccepted command bytes
    → (answer_by command (reported_by command files)).status ≡ Done
found_done files (Compile name) bytes held found = compile_done name (bytes Xs) (reported_by (Compile name) files) (held_read _ (bytes Xs) held.0 held.1) found
found_done files (Call name script) bytes held found =
    call_done name script (bytes Xs) (bytes Script) (reported_by (Call name script) files) (held_read _ (bytes Xs) held.0 held.1)
    (held_read _ (bytes Script) held.2.0 held.2.1) found.0 found.1
found_done files (Check name) bytes held found = check_done name (bytes Xs) (reported_by (Check name) files) (held_read _ (bytes Xs) held.0 held.1) found

pub granted : (words : List (List ℕ)) (files : Files) → IsGranted words files → (answer words files).status ≡ Done
unfolding answer
granted words files h = ap (λ asked. (answer_to asked files).status) h.is_command ∙ found_done files h.command h.bytes h.held h.found
