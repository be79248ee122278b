-- What the laws say of the sections of a file, of what a call gives.
use Rattle.std.proofs.Common.{true, ◌≡◌, ℕ, false, List, [], ◌++◌, All, Option, None, Some, Result, Ok, Err, IfOk, refl, sym, subst}
use Rattle.xs_base.specs.Faults.{first_of, unless_fault}
use Rattle.xs_base.specs.declared.fault.Fault.{Fault}
use Rattle.xs_base.specs.declared.fault.Refuse.{Refuse}
use Rattle.xs_base.specs.declared.fault.Refuse.TheVariants as refuse
use Rattle.xs_base.specs.declared.source.Line.{Line}
use Rattle.xs_base.specs.Lines.{lines_of}
use Rattle.xs_base.specs.Reading.{Gives}
use Rattle.xs_sections.specs.Classes.{Tag, tags_of, heads_of}
use Rattle.xs_sections.specs.Cut.{no_names, sections_of, last_module_line, split_of}
use Rattle.xs_sections.specs.SectionFaults.{faults_of, line_faults, paragraph_limit, module_fault, pod_fault, map_fault, is_module, some_line}
use Rattle.xs_sections.specs.Laws.{HoldsEachLine, IsLast, IsLastModule, IsPart, ReportsFirst, XsPart, IsSplit, IsOnlySplit, StandsIn}
use Rattle.xs_sections.specs.Laws as law
use Rattle.xs_sections.specs.declared.sections.ModuleNames.{ModuleNames}
use Rattle.xs_sections.specs.declared.class.Region.TheVariants as region
use Rattle.xs_sections.specs.declared.sections.Part.{Part}
use Rattle.xs_sections.specs.declared.sections.Sections.{Sections}
use Rattle.xs_sections.proofs.Parts.{each_line, each_read, parts_hold, parts_are}
use Rattle.xs_sections.proofs.LastModule.{last_of, last_is_set}
use Rattle.xs_sections.proofs.CPart.{no_fault_after, kept, c_part_is, without_pod, no_faults}
use Rattle.xs_sections.proofs.XsParts.{held_of, xs_part, few_heads}
use Rattle.xs_sections.proofs.Bare.{bare_is}
use Rattle.xs_sections.proofs.SplitUnique.{only_split}
use Rattle.xs_sections.proofs.LinesStand.{stands_in}
use Rattle.xs_sections.proofs.Firsts.{first_is, none_first}
use Rattle.xs_base.proofs.Unless.{faultless}

refused : (first : Option Fault) (sections : Sections) (f : Fault) → unless_fault first sections ≡ Err f → first ≡ Some f
refused None sections f e = absurd cc
refused (Some g) sections f e = cc

-- the faults of a file without a fault
record IsClean (ts : List Tag) : Type 0 where
  lines : line_faults paragraph_limit ts ≡ []
  some_module : module_fault ts ≡ []
  pods : pod_fault ts ≡ []
  blocks : map_fault ts ≡ []

is_clean : (ts : List Tag) → first_of (faults_of ts) ≡ None → IsClean ts
is_clean ts e =
    let none : faults_of ts ≡ [] = none_first (faults_of ts) e in
    let a = no_faults (line_faults paragraph_limit ts ++ module_fault ts ++ pod_fault ts) (map_fault ts) none in
    let b = no_faults (line_faults paragraph_limit ts ++ module_fault ts) (pod_fault ts) a.0 in
    let c = no_faults (line_faults paragraph_limit ts) (module_fault ts) b.0 in
    record { lines = c.0; some_module = c.1; pods = b.1; blocks = a.1 }

last_module : (ts : List Tag) → IsClean ts → IsLastModule ts (sections_of ts)
last_module ts c =
    let some : some_line is_module ts ≡ true = no_fault_after (some_line is_module ts) _ c.some_module in
    let P : ModuleNames → Type 0 = λ names. IsLast ts names (last_module_line 0 ts) in
    subst P (sym (last_is_set ts)) (last_of ts no_names 0 paragraph_limit c.lines some)

each : (lines : List Line) → first_of (faults_of (tags_of lines)) ≡ None → HoldsEachLine lines (sections_of (tags_of lines))
each lines e =
    record {
      each = each_line lines false region.CPart;
      read = each_read lines false region.CPart;
      c_part = refl;
      parts = parts_hold lines 0;
      last_module = last_module (tags_of lines) (is_clean (tags_of lines) e);
    }

split_is : (lines : List Line) → first_of (faults_of (tags_of lines)) ≡ None → IsSplit lines (sections_of (tags_of lines))
split_is lines e =
    let ts : List Tag = tags_of lines in
    let c : IsClean ts = is_clean ts e in
    let P : List Line → Type 0 = λ ls. XsPart 0 law.nothing ls (held_of 0 ts) in
    record {
      rest = kept ts;
      without_pod = without_pod lines c.pods;
      c_part = c_part_is lines false;
      heads = heads_of ts;
      xs_part = subst P (bare_is lines) (xs_part lines paragraph_limit (record { lines = c.lines; blocks = c.blocks }));
      few = few_heads ts paragraph_limit c.lines;
      counted = refl;
    }

pub holds_each : (r : Result Sections Refuse) (bytes : List ℕ) → Gives r (split_of bytes) → IfOk r (λ s. HoldsEachLine (lines_of bytes) s)
holds_each (Ok s) bytes e =
    let a = faultless (first_of (faults_of (tags_of (lines_of bytes)))) (sections_of (tags_of (lines_of bytes))) s e in
    let P : Sections → Type 0 = λ t. HoldsEachLine (lines_of bytes) t in subst P a.same (each (lines_of bytes) a.none)
holds_each (Err f) bytes e = tt

pub is_only_split : (r : Result Sections Refuse) (bytes : List ℕ) → Gives r (split_of bytes) → IfOk r (λ s. IsOnlySplit (lines_of bytes) s)
is_only_split (Ok s) bytes e =
    let a = faultless (first_of (faults_of (tags_of (lines_of bytes)))) (sections_of (tags_of (lines_of bytes))) s e in
    let P : Sections → Type 0 = λ t. IsOnlySplit (lines_of bytes) t in
    subst P a.same (only_split (lines_of bytes) (sections_of (tags_of (lines_of bytes))) (split_is (lines_of bytes) a.none))
is_only_split (Err f) bytes e = tt

pub lines_stand : (r : Result Sections Refuse) (bytes : List ℕ) → Gives r (split_of bytes) → IfOk r (λ s. StandsIn (lines_of bytes) s)
lines_stand (Ok s) bytes e =
    let o : IsOnlySplit (lines_of bytes) s = is_only_split (Ok s) bytes e in stands_in (lines_of bytes) s o.split
lines_stand (Err f) bytes e = tt

pub has_parts : (r : Result Sections Refuse) (bytes : List ℕ) → Gives r (split_of bytes) → IfOk r (λ s. All IsPart s.parts)
has_parts (Ok s) bytes e =
    let a = faultless (first_of (faults_of (tags_of (lines_of bytes)))) (sections_of (tags_of (lines_of bytes))) s e in
    let P : Sections → Type 0 = λ t. All IsPart t.parts in subst P a.same (parts_are (lines_of bytes) false region.CPart 0)
has_parts (Err f) bytes e = tt

pub reports_first : (r : Result Sections Refuse) (bytes : List ℕ) → Gives r (split_of bytes) → ReportsFirst (faults_of (tags_of (lines_of bytes))) r
reports_first (Ok s) bytes e = tt
reports_first (Err refuse.Memory) bytes e = tt
reports_first (Err (refuse.Fault f)) bytes e =
    first_is (faults_of (tags_of (lines_of bytes))) f (refused (first_of (faults_of (tags_of (lines_of bytes)))) (sections_of (tags_of (lines_of bytes))) f e)
