-- The jobs of `check`, `compile` and `call`, over the bytes of the files.
use Rattle.std.specs.Prelude.{ℕ, List, Result, Ok}
use Rattle.xs_base.specs.Reading.{◌>>=◌}
use Rattle.xs_base.specs.declared.fault.Fault.{Fault}
use Rattle.xs_meaning.specs.declared.call_command.CallCommand.{CallCommand}
use Rattle.xs_call.specs.BuiltCalls.{calls_of_commands}
use Rattle.xs_meaning.specs.DeclaredMeaning.{declared_transcript}
use Rattle.xs_call.specs.MachineTranscript.{machine_transcript}
use Rattle.xs_iface.specs.declared.xsub.Module.{Module}
use Rattle.xs_iface.specs.Iface.{module_of}
use Rattle.xs_machine.specs.Machine.{loaded}
use Rattle.xs_ctree.specs.TypedTree.{Code}
use Rattle.xs_ccheck.specs.FileTyping.{typed_of}
use Rattle.xs_script.specs.Script.{script_of}
use Rattle.xs_sections.specs.Cut.{split_of}
use Rattle.xs_stub.specs.Intended.{text_tree}
use Rattle.xs_stub.specs.Stub.{glue_text}

-- The code of a C text: it is read, and its names and types are resolved.
abbrev pub code_of : List ℕ → Result Code Fault
code_of text = text_tree text >>= typed_of

-- The transcript of a C text: the machine runs its code.
unfoldable pub text_transcript : List ℕ → List CallCommand → Result (List ℕ) Fault
text_transcript text cs = code_of text >>= λ code. Ok (machine_transcript code loaded cs)

-- The module of an XS file, or the first fault of the file.
unfoldable pub module_in : List ℕ → Result Module Fault
module_in xs = split_of xs >>= module_of

-- The calls of a script, or its first fault.
abbrev pub calls_in : List ℕ → Result (List CallCommand) Fault
calls_in script = script_of script >>= calls_of_commands

-- The job of `check`: the first fault of the XS file, if there is one.
unfoldable pub check_of : List ℕ → Result (Unit {0}) Fault
check_of xs = module_in xs >>= λ m. Ok tt

-- The job of `compile`: the first fault of the XS file, or the glue text.
unfoldable pub compile_of : List ℕ → Result (List ℕ) Fault
compile_of xs = module_in xs >>= λ m. Ok (glue_text m)

-- The job of `call`: the first fault of the XS file, or the first of the script, or the declared
-- transcript.
unfoldable pub call_of : List ℕ → List ℕ → Result (List ℕ) Fault
call_of xs script = module_in xs >>= λ m. calls_in script >>= λ cs. Ok (declared_transcript m cs)
