-- Of a desk whose files are known: where a file is lacking, and where all files are there.
use Rattle.std.proofs.Common.{◌≡◌, ◌⊎◌, inl, inr, ℕ, ◌≤◌, Bool, true, false, List, [], ◌∷◌, length, Option, None, Some, Result, Ok, Err, refl, sym, ap, ◌∙◌, subst}
use Rattle.std.proofs.lemmas.Bool.{eqb-false, le-ltb, ltb-false}
use Rattle.std.proofs.lemmas.Option.{none-some}
use Rattle.std.specs.Prelude.{◌==◌, nat_lt, if◌then◌else◌}
use Rattle.std.specs.Result.{result_unwrap_or}
use Rattle.xs_base.specs.declared.desk.DeskFault.{DeskFault}
use Rattle.xs_base.specs.declared.desk.DeskFault.TheVariants.{Longer}
use Rattle.xs_base.specs.declared.fault.Fault.{Fault}
use Rattle.xs_base.specs.declared.source.FileOf.{FileOf}
use Rattle.xs_base.specs.Desks.{Files, reported_read}
use Rattle.xsubpp.specs.declared.answer.Answer.{Answer}
use Rattle.xsubpp.specs.declared.status.Status.{Status}
use Rattle.xsubpp.specs.declared.status.Status.TheVariants.{Done, Refused, Usage, Missing}
use Rattle.xsubpp.specs.Answers.{file_limit, Ends, answer, answer_to, after_read, after_reads, done_or_refused, files_of, name_of, read_bytes, reported_by}
use Rattle.xsubpp.specs.Lacking.{IsWithin, LacksFile, OneLacks}
use Rattle.xsubpp.specs.StatusNumbers.{number_of}
use Rattle.xsubpp.specs.CommandLine.{Command, command_of}
use Rattle.xsubpp.specs.Written.{AreHeld}

pub read_short : (limit : ℕ) (bytes : List ℕ) → length bytes ≤ limit → reported_read (Some bytes) limit ≡ Ok bytes
read_short limit bytes h = rw (le-ltb limit (length bytes) h) refl

-- statuses with different numbers
pub unlike : (a b : Status) → (number_of a == number_of b) ≡ false → a ≡ b → ⊥
unlike a b differ e = eqb-false (number_of a) (number_of b) differ (ap number_of e)

by_length : (limit : ℕ) (name : List ℕ) (file : FileOf) (bytes : List ℕ) (next : Answer) (s : Status) (b : Bool) → nat_lt limit (length bytes) ≡ b
    → (s ≡ Refused → ⊥)
    → (after_read name file (if b then Err Longer else Ok bytes) next).status ≡ s → (length bytes ≤ limit) × (next.status ≡ s)
by_length limit name file bytes next s true e other h = absurd (other (sym h))
by_length limit name file bytes next s false e other h = (ltb-false limit (length bytes) e, h)

-- A file that is there and is not refused is not longer than the limit, and what follows decides.
short_after : (limit : ℕ) (name : List ℕ) (file : FileOf) (bytes : List ℕ) (next : Answer) (s : Status) → (s ≡ Refused → ⊥)
    → (after_read name file (reported_read (Some bytes) limit) next).status ≡ s
    → (length bytes ≤ limit) × (next.status ≡ s)
short_after limit name file bytes next s other h = by_length limit name file bytes next s (nat_lt limit (length bytes)) refl other h

job_is_not_missing : (command : Command) (r : Result (List ℕ) Fault) → (done_or_refused command r).status ≡ Missing → ⊥
job_is_not_missing command (Ok text) e = unlike Done Missing refl e
job_is_not_missing command (Err fault) e = unlike Refused Missing refl e

-- ---- a file is lacking

missing_after : (limit : ℕ) (name : List ℕ) (file : FileOf) (bytes : List ℕ) (next : Answer) → length bytes ≤ limit → next.status ≡ Missing
    → (after_read name file (reported_read (Some bytes) limit) next).status ≡ Missing
missing_after limit name file bytes next short is = ap (λ r. (after_read name file r next).status) (read_short limit bytes short) ∙ is

missing_here : (name : List ℕ) (file : FileOf) (held : Option (List ℕ)) (next : Answer) → (held ≡ None) ⊎ (IsWithin held × (next.status ≡ Missing))
    → (after_read name file (reported_read held file_limit) next).status ≡ Missing
missing_here name file None next h = refl
missing_here name file (Some bytes) next (inl e) = absurd (none-some bytes (sym e))
missing_here name file (Some bytes) next (inr (short, is)) = missing_after file_limit name file bytes next short is

one_missing : (files : Files) (command : Command) (named : List FileOf) (next : Answer) → OneLacks files command named
    → (after_reads command (reported_by command files) named next).status ≡ Missing
one_missing files command [] next h = absurd h
one_missing files command (file ∷ more) next (inl e) = missing_here (name_of command file) file (files (name_of command file)) _ (inl e)
one_missing files command (file ∷ more) next (inr (short, h)) =
    missing_here (name_of command file) file (files (name_of command file)) _ (inr (short, one_missing files command more next h))

lacks_here : (name : List ℕ) (file : FileOf) (held : Option (List ℕ)) (next : Answer) → (after_read name file (reported_read held file_limit) next).status
    ≡ Missing
    → (held ≡ None) ⊎ (IsWithin held × (next.status ≡ Missing))
lacks_here name file None next h = inl refl
lacks_here name file (Some bytes) next h = inr (short_after file_limit name file bytes next Missing (unlike Missing Refused refl) h)

one_lacks : (files : Files) (command : Command) (named : List FileOf) (next : Answer) → (next.status ≡ Missing → ⊥)
    → (after_reads command (reported_by command files) named next).status ≡ Missing
    → OneLacks files command named
one_lacks files command [] next other h = absurd (other h)
one_lacks files command (file ∷ more) next other h =
    elim (lacks_here (name_of command file) file (files (name_of command file)) _ h) [
      | inl e ↦ inl e
      | inr rest ↦ inr (rest.0, one_lacks files command more next other rest.1)
    ]

lacks_file : (asked : Option Command) (files : Files) → (answer_to asked files).status ≡ Missing → LacksFile asked files
lacks_file None files h = absurd (unlike Usage Missing refl h)
lacks_file (Some command) files h = one_lacks files command (files_of command) _ (job_is_not_missing command _) h

pub lacks_file_where : (words : List (List ℕ)) (files : Files) (out out' err err' : Option (List ℕ)) → Ends (answer words files) Missing out out' err err'
    → LacksFile (command_of words) files
unfolding answer
lacks_file_where words files out out' err err' e = lacks_file (command_of words) files e.status_is

missing_file : (asked : Option Command) (files : Files) → LacksFile asked files → (answer_to asked files).status ≡ Missing
missing_file None files h = absurd h
missing_file (Some command) files h = one_missing files command (files_of command) _ h

pub missing : (words : List (List ℕ)) (files : Files) → LacksFile (command_of words) files → (answer words files).status ≡ Missing
unfolding answer
missing words files h = missing_file (command_of words) files h

-- ---- all files are there

held_here : (limit : ℕ) (name : List ℕ) (file : FileOf) (held : Option (List ℕ)) (next : Answer) → (after_read name file (reported_read held limit) next).status
    ≡ Done
    → (held ≡ Some (result_unwrap_or (reported_read held limit) [])) × (length (result_unwrap_or (reported_read held limit) []) ≤ limit) × (next.status ≡ Done)
held_here limit name file None next h = absurd (unlike Missing Done refl h)
held_here limit name file (Some bytes) next h =
    let here = short_after limit name file bytes next Done (unlike Done Refused refl) h in
    let P : Result (List ℕ) DeskFault → Type 0 = λ r. (Some bytes ≡ Some (result_unwrap_or r [])) × (length (result_unwrap_or r []) ≤ limit)
    × (next.status ≡ Done) in
    subst P (sym (read_short limit bytes here.0)) (refl, here.0, here.1)

pub are_held : (files : Files) (command : Command) (named : List FileOf) (next : Answer) → (after_reads command (reported_by command files) named next).status
    ≡ Done
    → AreHeld files command (read_bytes (reported_by command files)) named
are_held files command [] next h = tt
are_held files command (file ∷ more) next h =
    let here = held_here file_limit (name_of command file) file (files (name_of command file)) (after_reads command (reported_by command files) more next) h in
    (here.0, here.1, are_held files command more next here.2)
