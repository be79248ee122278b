-- What a run answers: its status, and what is written to each sink.
use Rattle.std.specs.Fmt.{decimal}
use Rattle.std.specs.Prelude.{◌≡◌, ◌≢◌, ◌⊎◌, ℕ, List, [], ◌∷◌, ◌++◌, codes, Option, None, Some, Result, Ok, Err}
use Rattle.std.specs.Result.{result_unwrap_or}
use Rattle.xs_base.specs.declared.desk.DeskFault.{DeskFault}
use Rattle.xs_base.specs.declared.desk.DeskFault.TheVariants as read
use Rattle.xs_base.specs.Reading.{fault_in, ◌>>=◌}
use Rattle.xs_base.specs.declared.fault.Fault.{Fault}
use Rattle.xs_base.specs.declared.fault_codes.TheConstants.{FILE_TOO_LONG}
use Rattle.xs_base.specs.FaultTexts.{text_of}
use Rattle.xs_base.specs.declared.source.FileOf.{FileOf}
use Rattle.xs_base.specs.declared.source.FileOf.TheVariants.{Xs, Typemap, Script, Text}
use Rattle.xs_base.specs.Desks.{Files, reported_read}
use Rattle.xs_base.specs.Sinks.{appended}
use Rattle.xs_call.specs.Jobs.{call_of, check_of, compile_of}
use Rattle.xsubpp.specs.declared.answer.Answer.{Answer}
use Rattle.xsubpp.specs.declared.status.Status.{Status}
use Rattle.xsubpp.specs.declared.status.Status.TheVariants.{Done, Refused, Usage, Missing, ReadFault, WriteFault, Memory}
use Rattle.xsubpp.specs.CommandLine.{Command, Compile, Call, Check, command_of}

-- the most bytes that a file may have
abbrev pub file_limit : ℕ
file_limit = 1048576

-- what is written where the words are no command: a line for each command
abbrev pub usage_text : List ℕ
usage_text =
    codes "usage: xsubpp compile FILE [TYPEMAP]\n"
    ++ codes "       xsubpp call FILE SCRIPT [TYPEMAP]\n"
    ++ codes "       xsubpp run TEXT SCRIPT\n"
    ++ codes "       xsubpp check FILE [TYPEMAP]\n"
    ++ codes "       xsubpp example N\n"

abbrev pub newline : List ℕ
newline = 10 ∷ []

abbrev pub word_text : List ℕ → List ℕ
word_text [] = []
word_text (b ∷ bs) = codes ": " ++ (b ∷ bs)

-- The text of a code stands after a blank. Where there is none, the code stands alone.
abbrev pub after_code : Option (List ℕ) → List ℕ
after_code None = []
after_code (Some text) = codes " " ++ text

-- The line of a fault, with the word that named the file.
unfoldable pub fault_line : List ℕ → Fault → List ℕ
fault_line name fault = name ++ codes ":" ++ decimal fault.line ++ codes ": " ++ decimal fault.code
    ++ after_code (text_of fault.code) ++ word_text fault.word ++ newline

abbrev pub file_line : List ℕ → List ℕ → List ℕ
file_line name what = name ++ what ++ newline

-- what is written of a file that is accepted
abbrev pub accepted : List ℕ
accepted = codes "accepted\n"

-- that, or the first fault of the file
abbrev pub accepted_of : List ℕ → Result (List ℕ) Fault
accepted_of xs = check_of xs >>= λ found. Ok accepted

-- ---- commands

-- the files that a command reads, in the order of its words
abbrev pub files_of : Command → List FileOf
files_of (Compile file) = Xs ∷ []
files_of (Call file script) = Xs ∷ Script ∷ []
files_of (Check file) = Xs ∷ []

-- the word that named a file
abbrev pub name_of : Command → FileOf → List ℕ
name_of (Compile xs) file = xs
name_of (Call xs script) Xs = xs
name_of (Call xs script) Typemap = xs
name_of (Call xs script) Script = script
name_of (Call xs script) Text = xs
name_of (Check xs) file = xs

-- the job of a command over the bytes of its files
abbrev pub job_of : Command → (FileOf → List ℕ) → Result (List ℕ) Fault
job_of (Compile file) bytes = compile_of (bytes Xs)
job_of (Call file script) bytes = call_of (bytes Xs) (bytes Script)
job_of (Check file) bytes = accepted_of (bytes Xs)

-- ---- answers

abbrev pub refused : List ℕ → Fault → Answer
refused name fault = record { status = Refused; out = []; err = fault_line name fault }

-- a file that was not read
abbrev pub unread : List ℕ → FileOf → DeskFault → Answer
unread name file read.Missing =
    record { status = Missing; out = []; err = file_line name (codes ": missing") }
unread name file read.Longer = refused name (fault_in file 0 FILE_TOO_LONG [])
unread name file read.Failed =
    record { status = ReadFault; out = []; err = file_line name (codes ": read fault") }
unread name file read.Memory = record { status = Memory; out = []; err = [] }

abbrev pub done_or_refused : Command → Result (List ℕ) Fault → Answer
done_or_refused command (Ok text) = record { status = Done; out = text; err = [] }
done_or_refused command (Err fault) = refused (name_of command fault.file) fault

-- what the read of each file gave
abbrev pub Given : Type 0
Given = FileOf → Result (List ℕ) DeskFault

-- the bytes that were read
abbrev pub read_bytes : Given → FileOf → List ℕ
read_bytes given file = result_unwrap_or (given file) []

abbrev pub after_read : List ℕ → FileOf → Result (List ℕ) DeskFault → Answer → Answer
after_read name file (Ok bytes) next = next
after_read name file (Err fault) next = unread name file fault

-- the first file that was not read decides, and then what follows
abbrev pub after_reads : Command → Given → List FileOf → Answer → Answer
after_reads command given [] next = next
after_reads command given (file ∷ files) next =
    after_read (name_of command file) file (given file) (after_reads command given files next)

-- The answer to a command, by what the reads of its files gave.
abbrev pub answer_by : Command → Given → Answer
answer_by command given =
    after_reads command given (files_of command)
    (done_or_refused command (job_of command (read_bytes given)))

-- what the reads give where no fault comes and memory does not run out
abbrev pub reported_by : Command → Files → Given
reported_by command files file = reported_read (files (name_of command file)) file_limit

-- the answer to words that are no command
abbrev pub usage : Answer
usage = record { status = Usage; out = []; err = usage_text }

-- the answer to a command, by the files
abbrev pub answer_to : Option Command → Files → Answer
answer_to None files = usage
answer_to (Some command) files = answer_by command (reported_by command files)

-- The answer as a function of the words and the files. Faults of the edges and running out of
-- memory are not reported here.
unfoldable pub answer : List (List ℕ) → Files → Answer
answer words files = answer_to (command_of words) files

-- A run ends with this status, or it could not write, or it found no memory.
abbrev pub IsStatus : Status → Status → Type 0
IsStatus status result = (result ≡ status) ⊎ ((result ≡ WriteFault) ⊎ (result ≡ Memory))

-- A run ended with the status of an answer and wrote its texts, or it could not write.
pub record IsOut (a : Answer) (result : Status) (out out' err err' : Option (List ℕ)) : Type 0 where
  pub was : (result ≡ a.status) ⊎ (result ≡ WriteFault)
  pub out_is : result ≢ WriteFault → out' ≡ appended out a.out
  pub err_is : result ≢ WriteFault → err' ≡ appended err a.err

-- A run ended with this answer, and wrote it.
pub record Ends (a : Answer) (status : Status) (out out' err err' : Option (List ℕ)) : Type 0 where
  pub status_is : a.status ≡ status
  pub out_is : out' ≡ appended out a.out
  pub err_is : err' ≡ appended err a.err

-- A run ended with the answer by what some reads gave, whatever the desk holds.
pub record EndsByReads (words : List (List ℕ)) (status : Status)
    (out out' err err' : Option (List ℕ)) : Type 0 where
  pub command : Command
  pub given : Given
  pub is_command : command_of words ≡ Some command
  pub ends : Ends (answer_by command given) status out out' err err'
