-- The text that is written for an XS file, read and typed, is the code that the law is about.
use Rattle.std.proofs.Common.{◌≡◌, ℕ, true, List, [], sym, ap, ◌∙◌, subst}
use Rattle.std.specs.Prelude.{Result, Ok}
use Rattle.xs_base.proofs.Stages.{bound}
use Rattle.xs_base.specs.Reading.{◌>>=◌, Gives, collect}
use Rattle.xs_base.specs.declared.fault.Refuse.{Refuse}
use Rattle.xs_base.specs.declared.source.Line.{Line}
use Rattle.xs_iface.proofs.ModulesAreSums.{module_gives_sums}
use Rattle.xs_iface.specs.declared.xsub.Module.{Module}
use Rattle.xs_iface.proofs.BuiltForms.{module_is_built}
use Rattle.xs_iface.specs.Iface.{drafts_of, module_from, module_of, module_with, name_fault, xsub_of}
use Rattle.std.specs.List.{AllByRecursion as All}
use Rattle.xs_iface.specs.PassedLines.{is_passed_line}
use Rattle.xs_iface.specs.SumForm.{IsSumModule}
use Rattle.xs_machine.specs.Machine.{loaded}
use Rattle.xs_ccheck.specs.FileTyping.{typed_of}
use Rattle.xs_ctree.specs.TypedTree.{Code, bare}
use Rattle.xs_script.specs.CommandTree.{CommandView}
use Rattle.xs_script.specs.Script.{script_of}
use Rattle.xs_base.proofs.Unless.{faultless}
use Rattle.xs_base.specs.Faults.{first_fault}
use Rattle.xs_sections.specs.Cut.{split_of}
use Rattle.xs_sections.specs.declared.sections.Sections.{Sections}
use Rattle.xs_stub.proofs.ReadBack.{reads_back}
use Rattle.xs_stub.specs.Stub.{glue_text}
use Rattle.xs_meaning.specs.declared.call_command.CallCommand.{CallCommand}
use Rattle.xs_call.specs.BuiltCalls.{calls_of_commands}
use Rattle.xs_call.specs.GlueCode.{glue_code}
use Rattle.xs_call.specs.Jobs.{call_of, calls_in, code_of, module_in, text_transcript}
use Rattle.xs_call.specs.Laws.{EachFileGivesSums, EachTextLeavesNothing, EachTextRunsAsDeclared}
use Rattle.xs_meaning.specs.DeclaredMeaning.{declared_transcript}
use Rattle.xs_call.specs.MachineTranscript.{machine_transcript}
use Rattle.xs_call.proofs.Typed.{text_typed}
use Rattle.xs_call.proofs.HeadlineHolds.{typed_exact, typed_runs}

-- ---- what is known of the module of a file

abbrev AllPassed : List Line → Type 0
AllPassed lines = All (λ (line : Line). is_passed_line line.text ≡ true) lines

-- the C part of the module is that of the sections
same_c_part : (s : Sections) (m : Module) → module_of s ≡ Ok m → s.c_part ≡ m.c_part
unfolding module_of
same_c_part s m h =
    let last = bound (drafts_of s >>= collect xsub_of) (module_with s) m h in
    ap (λ (x : Module). x.c_part) (faultless (first_fault name_fault [] last.at) (module_from s last.at) m last.then_is).same

record IsRead (m : Module) : Type 0 where
  sums : IsSumModule m
  passed : AllPassed m.c_part

is_read : (xs : List ℕ) (m : Module) → module_in xs ≡ Ok m → IsRead m
unfolding module_in
is_read xs m e =
    let cut = bound (split_of xs) module_of m e in
    record {
      sums = module_gives_sums xs cut.at m cut.was cut.then_is;
      passed = subst AllPassed (same_c_part cut.at m cut.then_is) (module_is_built cut.at m cut.then_is).c_part;
    }

pub each_file : EachFileGivesSums
each_file xs m e = (is_read xs m e).sums

-- ---- the text

-- The written text is read as the code that the law is about, but for places.
is_read_as_code : (m : Module) → IsRead m → (c : Code) × ((code_of (glue_text m) ≡ Ok c) × (bare c ≡ glue_code m))
is_read_as_code m r =
    let back = reads_back m r.sums r.passed in
    let there = text_typed m r.sums back.tree back.same in
    (there.0, (ap (λ tree. tree >>= typed_of) back.read ∙ there.1.0, there.1.1))

-- The text that is written for an XS file, read and run, does what the file declares.
pub text_runs : EachTextRunsAsDeclared
unfolding text_transcript
text_runs xs m cs e =
    let r = is_read xs m e in
    let there = is_read_as_code m r in
    ap (λ code. code >>= λ c. Ok (machine_transcript c loaded cs)) there.1.0 ∙ ap Ok (typed_runs m r.sums there.0 there.1.1 cs)

-- and leaves nothing after
pub text_leaves_nothing : EachTextLeavesNothing
text_leaves_nothing xs m cs e =
    let r = is_read xs m e in
    let there = is_read_as_code m r in
    record { code = there.0; read = there.1.0; exact = typed_exact m r.sums there.0 there.1.1 cs }

-- The job of `call`, by what its stages gave.
pub call_gives : (xs script : List ℕ) (m : Module) (command_view : List CommandView) (cs : List CallCommand) (result : Result (List ℕ) Refuse)
    → module_in xs ≡ Ok m → script_of script ≡ Ok command_view → calls_of_commands command_view ≡ Ok cs → Gives result (text_transcript (glue_text m) cs)
    → Gives result (call_of xs script)
unfolding call_of
call_gives xs script m command_view cs result read spoken plain given =
    let whole =
    ap (λ r. r >>= λ m. calls_in script >>= λ cs. Ok (declared_transcript m cs)) read
    ∙ ap (λ r. (r >>= calls_of_commands) >>= λ cs. Ok (declared_transcript m cs)) spoken
    ∙ ap (λ r. r >>= λ cs. Ok (declared_transcript m cs)) plain
    ∙ sym (text_runs xs m cs read) in
    subst (Gives result) (sym whole) given
