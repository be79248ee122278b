-- The laws of the types stage.
use Rattle.std.specs.Prelude.{◌≡◌, ◌↔◌, ℕ, List, Some, Ok, Err, slice_get}
use Rattle.xs_base.specs.declared.fault.Fault.{Fault}
use Rattle.xs_csyn.specs.FileTree.{FileTree, XsFunTree, XsFunItem, unlined}
use Rattle.xs_ctree.specs.TypedTree.{Code, Function, bare}
use Rattle.xs_ccheck.specs.CodeTypes.{IsTyped, result_of}
use Rattle.xs_ccheck.specs.FaultSet.{Node, AFile, IsFault, IsSound, IsLeast, HasNoFault, AreOrdered}
use Rattle.xs_ccheck.specs.FileTyping.{typed_of}
use Rattle.xs_ccheck.specs.SlotUses.{HasItsSlots}

-- Names and types do not depend on lines: a file that is equal to another but for lines has the
-- other's code but for places.
abbrev pub TypesWithoutLines : Type 0
TypesWithoutLines = (t u : FileTree) (c : Code) → typed_of t ≡ Ok c → unlined t ≡ unlined u
    → (d : Code) × ((typed_of u ≡ Ok d) × (bare c ≡ bare d))

-- The fault that is told of a file is the least of its faults, and each least fault is told.
abbrev pub FaultsAreLeastLaw : Type 0
FaultsAreLeastLaw = (t : FileTree) (f : Fault) → (typed_of t ≡ Err f) ↔ IsLeast (AFile t) f

-- A file has code exactly where it has no fault.
abbrev pub FaultlessLaw : Type 0
FaultlessLaw = (t : FileTree) → ((c : Code) × (typed_of t ≡ Ok c)) ↔ HasNoFault (AFile t)

-- A file has no fault exactly where each node of it is sound.
abbrev pub SoundLaw : Type 0
SoundLaw = (t : FileTree) → HasNoFault (AFile t) ↔ IsSound (AFile t)

-- Two faults of a node are one, or one of them stands before the other.
abbrev pub OrderedLaw : Type 0
OrderedLaw = (n : Node) (p q : List ℕ) (f g : Fault) → IsFault n p f → IsFault n q g
    → AreOrdered f p g q

-- Each function of a file's code is an XS function of the file, and its slots are those that the
-- text means.
abbrev pub SlotsOnceLaw : Type 0
SlotsOnceLaw = (t : FileTree) (c : Code) (i : ℕ) (f : Function) → typed_of t ≡ Ok c
    → slice_get c.functions i ≡ Some f
    → (x : XsFunTree) × ((slice_get t.items i ≡ Some (XsFunItem x)) × HasItsSlots x.body f)

-- Each expression in the code of a function has the type that the rule of its form gives.
abbrev pub TypesOfFormsLaw : Type 0
TypesOfFormsLaw = (t : FileTree) (c : Code) (i : ℕ) (f : Function) → typed_of t ≡ Ok c
    → slice_get c.functions i ≡ Some f → IsTyped f.slots (result_of f.sort) f.body
