-- Of a desk whose files are known: a run is refused exactly where a file is too long, or what is read has a fault.
use Rattle.std.proofs.Common.{◌≡◌, ◌⊎◌, inl, inr, ℕ, ◌<◌, ◌≤◌, Bool, true, false, List, [], ◌∷◌, length, Option, None, Some, Result, Ok, Err, refl, ap, ◌∙◌, subst, sym}
use Rattle.std.proofs.lemmas.Bool.{lt-ltb, ltb-false, ltb-true}
use Rattle.std.specs.Prelude.{nat_lt, if◌then◌else◌}
use Rattle.std.specs.Result.{result_unwrap_or}
use Rattle.xs_base.specs.declared.desk.DeskFault.{DeskFault}
use Rattle.xs_base.specs.declared.desk.DeskFault.TheVariants.{Longer}
use Rattle.xs_base.specs.declared.fault.Fault.{Fault}
use Rattle.xs_base.specs.declared.source.FileOf.{FileOf}
use Rattle.xs_base.specs.declared.source.FileOf.TheVariants.{Xs, Script}
use Rattle.xs_base.specs.Desks.{Files, reported_read}
use Rattle.xs_base.specs.Reading.{◌>>=◌}
use Rattle.xs_call.specs.Jobs.{call_of, calls_in, check_of, compile_of, module_in}
use Rattle.xs_iface.specs.declared.xsub.Module.{Module}
use Rattle.xs_meaning.specs.declared.call_command.CallCommand.{CallCommand}
use Rattle.xs_meaning.specs.DeclaredMeaning.{declared_transcript}
use Rattle.xs_stub.specs.Stub.{glue_text}
use Rattle.xsubpp.specs.declared.answer.Answer.{Answer}
use Rattle.xsubpp.specs.declared.status.Status.TheVariants.{Done, Refused, Usage, Missing}
use Rattle.xsubpp.specs.Answers.{Ends, Given, accepted, answer, answer_by, answer_to, after_read, after_reads, done_or_refused, file_limit, files_of, job_of, name_of, read_bytes, reported_by}
use Rattle.xsubpp.specs.CommandLine.{Command, Compile, Call, Check, command_of}
use Rattle.xsubpp.specs.FaultyFiles.{HasFaultyFile, HasFirstFault, IsFirstFault, IsTooLong, OneIsTooLong}
use Rattle.xsubpp.specs.Lacking.{IsWithin}
use Rattle.xsubpp.specs.Written.{AreHeld, HasModule}
use Rattle.xsubpp.proofs.FilesReported.{read_short, unlike}
use Rattle.xsubpp.proofs.TextsWritten.{held_read}

-- ---- a run that is refused

-- the file is too long, or it is within the limit and what follows is refused
abbrev LongOrLater : ℕ → List ℕ → Answer → Type 0
LongOrLater limit bytes next = (limit < length bytes) ⊎ ((length bytes ≤ limit) × (next.status ≡ Refused))

by_length : (limit : ℕ) (name : List ℕ) (file : FileOf) (bytes : List ℕ) (next : Answer) (b : Bool) → nat_lt limit (length bytes) ≡ b
    → (after_read name file (if b then Err Longer else Ok bytes) next).status ≡ Refused → LongOrLater limit bytes next
by_length limit name file bytes next true e h = inl (ltb-true limit (length bytes) e)
by_length limit name file bytes next false e h = inr (ltb-false limit (length bytes) e, h)

-- the file is too long, or it is held within the limit and what follows is refused
abbrev LongOrHeld : Option (List ℕ) → Answer → Type 0
LongOrHeld held next = IsTooLong held
    ⊎ (IsWithin held × (held ≡ Some (result_unwrap_or (reported_read held file_limit) []))
    × (length (result_unwrap_or (reported_read held file_limit) []) ≤ file_limit) × (next.status ≡ Refused))

held_by : (bytes : List ℕ) (next : Answer) → LongOrLater file_limit bytes next → LongOrHeld (Some bytes) next
held_by bytes next (inl long) = inl long
held_by bytes next (inr (short, later)) =
    let P : Result (List ℕ) DeskFault → Type 0 = λ r. (length bytes ≤ file_limit) × (Some bytes ≡ Some (result_unwrap_or r []))
    × (length (result_unwrap_or r []) ≤ file_limit) × (next.status ≡ Refused) in
    inr (subst P (sym (read_short file_limit bytes short)) (short, refl, short, later))

refused_here : (name : List ℕ) (file : FileOf) (held : Option (List ℕ)) (next : Answer)
    → (after_read name file (reported_read held file_limit) next).status ≡ Refused → LongOrHeld held next
refused_here name file None next h = absurd (unlike Missing Refused refl h)
refused_here name file (Some bytes) next h =
    held_by bytes next (by_length file_limit name file bytes next (nat_lt file_limit (length bytes)) refl h)

refused_reads : (files : Files) (command : Command) (named : List FileOf) (next : Answer)
    → (after_reads command (reported_by command files) named next).status ≡ Refused
    → OneIsTooLong files command named
    ⊎ (AreHeld files command (read_bytes (reported_by command files)) named × (next.status ≡ Refused))
refused_reads files command [] next h = inr (tt, h)
refused_reads files command (file ∷ more) next h =
    elim (refused_here (name_of command file) file (files (name_of command file)) (after_reads command (reported_by command files) more next) h) [
      | inl long ↦ inl (inl long)
      | inr here ↦ elim (refused_reads files command more next here.3) [
        | inl long ↦ inl (inr (here.0, long))
        | inr rest ↦ inr ((here.1, here.2, rest.0), rest.1)
      ]
    ]

-- ---- the first fault of a job

abbrev FaultOf : Command → (FileOf → List ℕ) → Type 0
FaultOf command bytes = (fault : Fault) × IsFirstFault command bytes fault

module_fault : (command : Command) (xs : List ℕ) (text : Module → List ℕ) (r : Result Module Fault) → module_in xs ≡ r
    → (done_or_refused command (r >>= λ m. Ok (text m))).status ≡ Refused → (fault : Fault) × (module_in xs ≡ Err fault)
module_fault command xs text (Ok m) is h = absurd (unlike Done Refused refl h)
module_fault command xs text (Err fault) is h = (fault, is)

compile_fault : (name xs : List ℕ) → (done_or_refused (Compile name) (compile_of xs)).status ≡ Refused → (fault : Fault) × (module_in xs ≡ Err fault)
unfolding compile_of
compile_fault name xs h = module_fault (Compile name) xs glue_text (module_in xs) refl h

abbrev only_found : Result Module Fault → Result (Unit {0}) Fault
only_found r = r >>= λ m. Ok tt

check_fault_by : (name xs : List ℕ) (r : Result Module Fault) → module_in xs ≡ r
    → (done_or_refused (Check name) (only_found r >>= λ found. Ok accepted)).status ≡ Refused → (fault : Fault) × (module_in xs ≡ Err fault)
check_fault_by name xs (Ok m) is h = absurd (unlike Done Refused refl h)
check_fault_by name xs (Err fault) is h = (fault, is)

check_fault : (name xs : List ℕ) → (done_or_refused (Check name) (check_of xs >>= λ found. Ok accepted)).status ≡ Refused
    → (fault : Fault) × (module_in xs ≡ Err fault)
unfolding check_of
check_fault name xs h = check_fault_by name xs (module_in xs) refl h

abbrev CallFault : List ℕ → List ℕ → Type 0
CallFault xs script = (fault : Fault) × ((module_in xs ≡ Err fault) ⊎ (HasModule xs × (calls_in script ≡ Err fault)))

calls_fault : (command : Command) (xs script : List ℕ) (m : Module) → module_in xs ≡ Ok m → (cs : Result (List CallCommand) Fault) → calls_in script ≡ cs
    → (done_or_refused command (cs >>= λ cs. Ok (declared_transcript m cs))).status ≡ Refused → CallFault xs script
calls_fault command xs script m is (Ok cs) are h = absurd (unlike Done Refused refl h)
calls_fault command xs script m is (Err fault) are h = (fault, inr (record { m = m; is_module = is }, are))

call_fault_by : (command : Command) (xs script : List ℕ) (r : Result Module Fault) → module_in xs ≡ r
    → (done_or_refused command (r >>= λ m. calls_in script >>= λ cs. Ok (declared_transcript m cs))).status ≡ Refused → CallFault xs script
call_fault_by command xs script (Ok m) is h = calls_fault command xs script m is (calls_in script) refl h
call_fault_by command xs script (Err fault) is h = (fault, inl is)

call_fault : (name script_name xs script : List ℕ) → (done_or_refused (Call name script_name) (call_of xs script)).status ≡ Refused → CallFault xs script
unfolding call_of
call_fault name script_name xs script h = call_fault_by (Call name script_name) xs script (module_in xs) refl h

job_fault : (command : Command) (bytes : FileOf → List ℕ) → (done_or_refused command (job_of command bytes)).status ≡ Refused → FaultOf command bytes
job_fault (Compile name) bytes h = compile_fault name (bytes Xs) h
job_fault (Call name script) bytes h = call_fault name script (bytes Xs) (bytes Script) h
job_fault (Check name) bytes h = check_fault name (bytes Xs) h

faulty_file : (asked : Option Command) (files : Files) → (answer_to asked files).status ≡ Refused → HasFaultyFile asked files
faulty_file None files h = absurd (unlike Usage Refused refl h)
faulty_file (Some command) files h =
    elim (refused_reads files command (files_of command) _ h) [
      | inl long ↦ inl long
      | inr held ↦
          let found = job_fault command (read_bytes (reported_by command files)) held.1 in
          inr (record { bytes = read_bytes (reported_by command files); fault = found.0; held = held.0; is_first = found.1 })
    ]

pub faulty_file_where : (words : List (List ℕ)) (files : Files) (out out' err err' : Option (List ℕ)) → Ends (answer words files) Refused out out' err err'
    → HasFaultyFile (command_of words) files
unfolding answer
faulty_file_where words files out out' err err' e = faulty_file (command_of words) files e.status_is

-- ---- a file is too long

read_long : (limit : ℕ) (bytes : List ℕ) → limit < length bytes → reported_read (Some bytes) limit ≡ Err Longer
read_long limit bytes h = rw (lt-ltb limit (length bytes) h) refl

long_here : (name : List ℕ) (file : FileOf) (held : Option (List ℕ)) (next : Answer) → IsTooLong held ⊎ (IsWithin held × (next.status ≡ Refused))
    → (after_read name file (reported_read held file_limit) next).status ≡ Refused
long_here name file None next (inl long) = absurd long
long_here name file None next (inr (short, is)) = absurd short
long_here name file (Some bytes) next (inl long) = ap (λ r. (after_read name file r next).status) (read_long file_limit bytes long)
long_here name file (Some bytes) next (inr (short, is)) = ap (λ r. (after_read name file r next).status) (read_short file_limit bytes short) ∙ is

one_long : (files : Files) (command : Command) (named : List FileOf) (next : Answer) → OneIsTooLong files command named
    → (after_reads command (reported_by command files) named next).status ≡ Refused
one_long files command [] next h = absurd h
one_long files command (file ∷ more) next (inl long) = long_here (name_of command file) file (files (name_of command file)) _ (inl long)
one_long files command (file ∷ more) next (inr (short, h)) =
    long_here (name_of command file) file (files (name_of command file)) _ (inr (short, one_long files command more next h))

-- ---- what is read has a fault

compile_refused : (name xs : List ℕ) (fault : Fault) (given : Given) → given Xs ≡ Ok xs → module_in xs ≡ Err fault
    → (answer_by (Compile name) given).status ≡ Refused
unfolding compile_of
compile_refused name xs fault given is h = rw (is, h) refl

check_refused : (name xs : List ℕ) (fault : Fault) (given : Given) → given Xs ≡ Ok xs → module_in xs ≡ Err fault
    → (answer_by (Check name) given).status ≡ Refused
unfolding check_of
check_refused name xs fault given is h = rw (is, h) refl

call_refused : (name script xs commands : List ℕ) (fault : Fault) (given : Given) → given Xs ≡ Ok xs → given Script ≡ Ok commands
    → (module_in xs ≡ Err fault) ⊎ (HasModule xs × (calls_in commands ≡ Err fault)) → (answer_by (Call name script) given).status ≡ Refused
unfolding call_of
call_refused name script xs commands fault given is is_commands (inl h) = rw (is, is_commands, h) refl
call_refused name script xs commands fault given is is_commands (inr (found, h)) = rw (is, is_commands, found.is_module, h) refl

fault_refused : (files : Files) (command : Command) → HasFirstFault files command → (answer_by command (reported_by command files)).status ≡ Refused
fault_refused files (Compile name) h =
    compile_refused name (h.bytes Xs) h.fault (reported_by (Compile name) files) (held_read _ (h.bytes Xs) h.held.0 h.held.1) h.is_first
fault_refused files (Call name script) h =
    call_refused name script (h.bytes Xs) (h.bytes Script) h.fault (reported_by (Call name script) files)
    (held_read _ (h.bytes Xs) h.held.0 h.held.1) (held_read _ (h.bytes Script) h.held.2.0 h.held.2.1) h.is_first
fault_refused files (Check name) h =
    check_refused name (h.bytes Xs) h.fault (reported_by (Check name) files) (held_read _ (h.bytes Xs) h.held.0 h.held.1) h.is_first

refused_asked : (asked : Option Command) (files : Files) → HasFaultyFile asked files → (answer_to asked files).status ≡ Refused
refused_asked None files h = absurd h
refused_asked (Some command) files (inl long) = one_long files command (files_of command) _ long
refused_asked (Some command) files (inr h) = fault_refused files command h

pub refused : (words : List (List ℕ)) (files : Files) → HasFaultyFile (command_of words) files → (answer words files).status ≡ Refused
unfolding answer
refused words files h = refused_asked (command_of words) files h
