-- The desk and the sink in memory: what they hold, and what each call of them answers.
use Rattle.std.specs.Prelude.{ℕ, ◌-◌, min, Bool, false, ◌==◌, ◌||◌, List, [], ◌∷◌, ◌++◌, length, take, if◌then◌else◌, Option, None, Some, Result, Ok, Err}
use Rattle.std.specs.List.{list_any}
use Rattle.std.specs.Str.{bytes_eq}
use Rattle.xs_base.specs.Causes.{counted}
use Rattle.xs_base.specs.Desks.{reported_read}
use Rattle.xs_base.specs.declared.desk.DeskFault.{DeskFault}
use Rattle.xs_base.specs.declared.desk.DeskFault.TheVariants.{Failed}
use Rattle.xs_base.specs.declared.mem_desk.HeldFile.{HeldFile}
use Rattle.xs_base.specs.declared.sink.SinkFault.{SinkFault}
use Rattle.xs_base.specs.declared.sink.SinkFault.TheVariants as write

-- ---- calls that fail

-- The calls at which an edge in memory fails, and how many calls were made and failed.
pub record Failures : Type 0 where
  pub failing : List ℕ
  pub calls : ℕ
  pub failed : ℕ

-- no call was made, and none is to fail
abbrev pub no_failures : Failures
no_failures = record { failing = []; calls = 0; failed = 0 }

-- a further call is to fail
abbrev pub failing_at : ℕ → Failures → Failures
failing_at call f = record f { failing = f.failing ++ call ∷ [] }

-- whether a call is listed
abbrev pub is_listed : List ℕ → ℕ → Bool
is_listed calls call = list_any (λ c. c == call) calls

-- whether the next call fails: it is listed, or there is no room
abbrev pub call_fails : Failures → Bool → Bool
call_fails f is_full = is_listed f.failing (counted f.calls) || is_full

-- what is counted after that call
abbrev pub after_call : Failures → Bool → Failures
after_call f is_full =
    record f {
      calls = counted f.calls;
      failed = if call_fails f is_full then counted f.failed
          else f.failed;
    }

-- ---- the desk

-- A desk in memory: its files with the newest first, and which reads fail.
pub record MemFiles : Type 0 where
  pub held_files : List HeldFile
  pub failures : Failures

-- the bytes of the file of a name
abbrev pub held : List HeldFile → List ℕ → Option (List ℕ)
held [] name = None
held (file ∷ files) name = if bytes_eq file.name name then Some file.bytes else held files name

-- what a read of at most limit bytes answers, where memory does not run out
abbrev pub mem_read : MemFiles → List ℕ → ℕ → Result (List ℕ) DeskFault
mem_read d name limit = if call_fails d.failures false then Err Failed
    else reported_read (held d.held_files name) limit

-- the desk after a read
abbrev pub after_read : MemFiles → MemFiles
after_read d = record d { failures = after_call d.failures false }

-- ---- the sink

-- A sink in memory: what was written, how many bytes it accepts in a write and in all, and which
-- writes fail.
pub record MemBytes : Type 0 where
  pub written : List ℕ
  pub per_write : ℕ
  pub room : ℕ
  pub failures : Failures

-- whether there is no room
abbrev pub is_full : MemBytes → Bool
is_full s = s.room - length s.written == 0

-- how many bytes of a piece a write accepts
abbrev pub written_of : MemBytes → List ℕ → ℕ
written_of s piece = min (min s.per_write (length piece)) (s.room - length s.written)

abbrev pub mem_write : MemBytes → List ℕ → Result ℕ SinkFault
mem_write s piece = if call_fails s.failures (is_full s) then Err write.Failed
    else Ok (written_of s piece)

abbrev pub after_write : MemBytes → List ℕ → MemBytes
after_write s piece =
    record s {
      failures = after_call s.failures (is_full s);
      written = if call_fails s.failures (is_full s) then s.written else s.written
          ++ take (written_of s piece) piece;
    }
