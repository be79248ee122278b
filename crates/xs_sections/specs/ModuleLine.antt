-- A MODULE line is `MODULE = NAME`, then maybe `PACKAGE = NAME`, then maybe `PREFIX = WORD`. Blanks
-- are free around the words and `=`, and at the end; a name or word ends before a blank.
use Rattle.std.specs.Prelude.{ℕ, Bool, if◌then◌else◌, List, [], Option, None, Some, codes, option_and_then}
use denote.Ref.{Bor}
use Rattle.xs_base.specs.Names.{is_qualified_name}
use Rattle.xs_base.specs.ByteRuns.{after_run, after_blanks, front_of}
use Rattle.xs_base.specs.Scanning.{strip_prefix, is_blank_line, is_identifier}
use Rattle.xs_sections.specs.declared.words.TheConstants.{MODULE, PACKAGE, PREFIX}
use Rattle.xs_base.specs.declared.byte_runs.ByteClass.TheVariants.{NoBlank}
use Rattle.xs_sections.specs.declared.sections.ModuleNames.{ModuleNames}
use Rattle.xs_sections.specs.declared.class.LineClass.{LineClass}
use Rattle.xs_sections.specs.declared.class.LineClass.TheVariants.{Module, BadModule}

-- a value and what stands after it
abbrev pub Valued : Type 0
Valued = List ℕ × List ℕ

abbrev pub shown : Bor (List ℕ) × Bor (List ℕ) → Valued
shown (value, more) = (value.now, more.now)

-- the bytes up to the first blank, and what stands after them
abbrev pub valued : List ℕ → Valued
valued text = (front_of NoBlank text, after_run NoBlank text)

-- `= VALUE` at the front
abbrev pub assigned : List ℕ → Option Valued
assigned text =
    option_and_then (λ value. Some (valued (after_blanks value)))
    (strip_prefix (codes "=") (after_blanks text))

-- `WORD = VALUE` at the front
abbrev pub assignment : List ℕ → List ℕ → Option Valued
assignment word text = option_and_then assigned (strip_prefix word (after_blanks text))

abbrev pub good_value : (List ℕ → Bool) → Valued → Option Valued
good_value is_good found = if is_good found.0 then Some found else None

-- the value has to stand there, and to be good
abbrev pub required : (List ℕ → Bool) → Option Valued → Option Valued
required is_good found = option_and_then (good_value is_good) found

-- Where the word does not stand there, the value is empty; where it does, the value has to be good.
abbrev pub optional : (List ℕ → Bool) → Option Valued → List ℕ → Option Valued
optional is_good None text = Some ([], text)
optional is_good (Some found) text = good_value is_good found

-- After the prefix the line is at its end.
abbrev pub names_to_end : Valued → Valued → Valued → Option ModuleNames
names_to_end named packaged prefixed =
    if is_blank_line prefixed.1 then Some
    (record { «module» = named.0; «package» = packaged.0; prefix = prefixed.0 }) else None

-- After the package there may be a prefix.
abbrev pub names_after_package : Valued → Valued → Option ModuleNames
names_after_package named packaged =
    option_and_then (names_to_end named packaged)
    (optional is_identifier (assignment PREFIX.now packaged.1) packaged.1)

-- After the name there may be a package.
abbrev pub names_after_module : Valued → Option ModuleNames
names_after_module named =
    option_and_then (names_after_package named)
    (optional is_qualified_name (assignment PACKAGE.now named.1) named.1)

-- the names that a MODULE line sets, where it has that form
unfoldable pub module_names : List ℕ → Option ModuleNames
module_names line =
    option_and_then names_after_module
    (required is_qualified_name (assignment MODULE.now line))

abbrev pub class_by_names : Option ModuleNames → LineClass
class_by_names None = BadModule
class_by_names (Some names) = Module names

abbrev pub module_class : List ℕ → LineClass
module_class line = class_by_names (module_names line)
