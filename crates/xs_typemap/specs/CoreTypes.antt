-- The core typemap.
use Rattle.std.specs.List.{list_all}
use Rattle.std.specs.Prelude.{◌≡◌, ℕ, ◌||◌, Bool, true, false, List, codes, is_some, length, map, Result, Ok, Err}
use Rattle.std.specs.Str.{bytes_eq}
use Rattle.xs_base.specs.declared.fault.Fault.{Fault}
use Rattle.xs_base.specs.declared.source.FileOf.TheVariants.{Xs}
use Rattle.xs_base.specs.declared.source.Line.{Line}
use Rattle.xs_typemap.specs.TypemapEntries.{Entries, code_of, no_entries}
use Rattle.xs_typemap.specs.TypemapSteps.{typemap_of}
use Rattle.xs_typemap.specs.declared.core_table.TheConstants.{CORE_TYPEMAP}

-- its lines, which stand in no file
abbrev pub core_line : List ℕ → Line
core_line text = record { number = 0; text = text }

unfoldable pub core_lines : List Line
core_lines = map (λ text. core_line text.now) CORE_TYPEMAP

-- what its lines say
abbrev pub core_read : Result Entries Fault
core_read = typemap_of Xs core_lines

abbrev pub entries_in : Result Entries Fault → Entries
entries_in (Ok held) = held
entries_in (Err fault) = no_entries

unfoldable pub core : Entries
core = entries_in core_read

-- the name of the one kind that has no input code
abbrev pub is_sys_ret : List ℕ → Bool
is_sys_ret kind = bytes_eq kind (codes "T_SYSRET")

-- Its lines say something: 30 types have a kind, 20 kinds have input code, and 21 have output code.
-- The kinds of its types have code of both directions, but for T_SYSRET, which has no input code.
pub record CoreLaw : Type 0 where
  pub read : core_read ≡ Ok core
  pub types : length core.types ≡ 30
  pub inputs : length core.inputs ≡ 20
  pub outputs : length core.outputs ≡ 21
  pub have_input : list_all (λ (entry : List ℕ × List ℕ). is_sys_ret entry.1
      || is_some (code_of core entry.1 true)) core.types ≡ true
  pub have_output : list_all (λ (entry : List ℕ × List ℕ). is_some (code_of core entry.1 false))
      core.types ≡ true
