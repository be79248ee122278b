-- The faults of an XS file's sections, and which of them is the first.
use Rattle.std.specs.Prelude.{ℕ, ◌-◌, Bool, true, false, ◌&&◌, ◌==◌, if◌then◌else◌, List, [], ◌∷◌, ◌++◌}
use Rattle.std.specs.List.{list_any}
use Rattle.xs_base.specs.Reading.{fault_in}
use Rattle.xs_base.specs.declared.fault.Fault.{Fault}
use Rattle.xs_base.specs.declared.fault_codes.TheConstants.{BAD_KEYWORD_VALUE, BAD_MODULE_LINE, KEYWORD_LEFT_OUT, NO_MODULE_LINE, OPEN_POD, OPEN_TYPEMAP, PREPROCESSOR_LINE, TOO_MANY_PARAGRAPHS}
use Rattle.xs_base.specs.declared.source.FileOf.TheVariants.{Xs}
use Rattle.xs_sections.specs.Classes.{Tag}
use Rattle.xs_sections.specs.declared.class.LineClass.{LineClass}
use Rattle.xs_sections.specs.declared.class.LineClass.TheVariants as class

-- a fault of the XS file
abbrev pub fault_at : ℕ → ℕ → List ℕ → Fault
fault_at = fault_in Xs

-- the number of paragraphs that a file may have
abbrev pub paragraph_limit : ℕ
paragraph_limit = 4096

-- what is wrong with a line of this class, by itself
abbrev pub line_fault : ℕ → LineClass → List Fault
line_fault line class.BadModule = fault_at line BAD_MODULE_LINE [] ∷ []
line_fault line class.Directive = fault_at line PREPROCESSOR_LINE [] ∷ []
line_fault line (class.LeftOut word) = fault_at line KEYWORD_LEFT_OUT word ∷ []
line_fault line class.BadValue = fault_at line BAD_KEYWORD_VALUE [] ∷ []
line_fault line _ = []

-- A paragraph begins for which there is no room.
abbrev pub room_fault : ℕ → Bool → ℕ → List Fault
room_fault line starts room =
    if starts && room == 0 then fault_at line TOO_MANY_PARAGRAPHS [] ∷ [] else []

abbrev pub room_after : Bool → ℕ → ℕ
room_after starts room = if starts then room - 1 else room

-- the faults of single lines, with room for so many paragraphs more
unfoldable pub line_faults : ℕ → List Tag → List Fault
line_faults room [] = []
line_faults room (t ∷ ts) =
    room_fault t.line.number t.starts room ++ line_fault t.line.number t.class
    ++ line_faults (room_after t.starts room) ts

abbrev pub is_module : LineClass → Bool
is_module (class.Module names) = true
is_module class.BadModule = true
is_module _ = false

abbrev pub is_pod_begin : LineClass → Bool
is_pod_begin class.PodBegin = true
is_pod_begin _ = false

abbrev pub is_pod_end : LineClass → Bool
is_pod_end class.PodEnd = true
is_pod_end _ = false

abbrev pub is_map_begin : LineClass → Bool
is_map_begin (class.MapBegin end) = true
is_map_begin _ = false

abbrev pub is_map_end : LineClass → Bool
is_map_end class.MapEnd = true
is_map_end _ = false

-- some line is of such a class
abbrev pub some_line : (LineClass → Bool) → List Tag → Bool
some_line is ts = list_any (λ (t : Tag). is t.class) ts

-- a fault where no such line stands after
abbrev pub unless_after : (LineClass → Bool) → ℕ → ℕ → List Tag → List Fault
unless_after is line code ts = if some_line is ts then [] else fault_at line code [] ∷ []

-- A MODULE line is missing.
abbrev pub module_fault : List Tag → List Fault
module_fault ts = unless_after is_module 1 NO_MODULE_LINE ts

-- What such a line opens and no later line closes is a fault at the line that opens it.
abbrev pub still_open : (LineClass → Bool) → (LineClass → Bool) → ℕ → List Tag → List Fault
still_open opens closes code [] = []
still_open opens closes code (t ∷ ts) =
    (if opens t.class then unless_after closes t.line.number code ts else [])
    ++ still_open opens closes code ts

-- POD open at the end of the file
abbrev pub pod_fault : List Tag → List Fault
pod_fault ts = still_open is_pod_begin is_pod_end OPEN_POD ts

-- a typemap block open at the end of the file
abbrev pub map_fault : List Tag → List Fault
map_fault ts = still_open is_map_begin is_map_end OPEN_TYPEMAP ts

abbrev pub faults_of : List Tag → List Fault
faults_of ts = line_faults paragraph_limit ts ++ module_fault ts ++ pod_fault ts ++ map_fault ts
