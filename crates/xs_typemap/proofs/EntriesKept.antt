-- What is given later replaces what was given before.
use Rattle.std.proofs.Common.{◌≡◌, ℕ, not, Bool, true, false, fold, List, [], ◌∷◌, Some, Result, Ok, Err, IfOk, refl, subst}
use Rattle.std.specs.Option.{option_or}
use Rattle.std.specs.Str.{bytes_eq}
use Rattle.xs_typemap.proofs.WordsSet.{set_in_order, value_given, value_kept, value_later, word_distinct, words_distinct}
use Rattle.xs_base.specs.Reading.{Gives}
use Rattle.xs_base.specs.declared.fault.Refuse.{Refuse}
use Rattle.xs_typemap.proofs.FollowsLines.{follows}
use Rattle.xs_typemap.specs.TypemapEntries.{Entries, code_of, merged, no_entries, with_code}
use Rattle.xs_typemap.specs.TypemapSteps.{typemap_of}
use Rattle.xs_typemap.specs.declared.typemap.Code.{Code}
use Rattle.xs_typemap.specs.TypemapLaws.{IsDistinct, LaterHolds, LaterReplaces}
use Rattle.xs_typemap.specs.TypemapText.{Holds, Saying, has_kind, has_code, with_saying}
use Rattle.xs_base.specs.declared.source.FileOf.{FileOf}
use Rattle.xs_base.specs.declared.source.Line.{Line}

code_given : (held : Entries) (input : Bool) (kind : List ℕ) (code : Code) → code_of (with_code input kind code held) kind input ≡ Some code
code_given held true kind code = value_given held.inputs kind code
code_given held false kind code = value_given held.outputs kind code

code_kept : (held : Entries) (input : Bool) (kind other : List ℕ) (code : Code) → bytes_eq other kind ≡ false
    → code_of (with_code input kind code held) other input ≡ code_of held other input
code_kept held true kind other code apart = value_kept held.inputs kind other code apart
code_kept held false kind other code apart = value_kept held.outputs kind other code apart

direction_kept : (held : Entries) (input : Bool) (kind other : List ℕ) (code : Code)
    → code_of (with_code input kind code held) other (not input) ≡ code_of held other (not input)
direction_kept held true kind other code = refl
direction_kept held false kind other code = refl

pub later_replaces : LaterReplaces
later_replaces = record {
  kind_given = λ held ctype kind. value_given held.types ctype kind;
  kind_kept = λ held ctype kind other apart. value_kept held.types ctype other kind apart;
  code_given = code_given;
  code_kept = code_kept;
  direction_kept = direction_kept;
  types_in_order = λ held ctype kind. set_in_order held.types ctype kind;
}

later_codes : (held later : Entries) → IsDistinct later → (kind : List ℕ) (input : Bool)
    → code_of (merged held later) kind input ≡ option_or (code_of later kind input) (code_of held kind input)
later_codes held later apart kind true = value_later held.inputs later.inputs kind apart.inputs
later_codes held later apart kind false = value_later held.outputs later.outputs kind apart.outputs

merged_distinct : (held later : Entries) → IsDistinct held → IsDistinct (merged held later)
merged_distinct held later d = record {
  types = words_distinct held.types later.types d.types;
  inputs = words_distinct held.inputs later.inputs d.inputs;
  outputs = words_distinct held.outputs later.outputs d.outputs;
}

pub later_holds : LaterHolds
later_holds = record {
  distinct = merged_distinct;
  kinds = λ held later apart ctype. value_later held.types later.types ctype apart.types;
  codes = later_codes;
}

saying_distinct : (held : Entries) (one : Saying) → IsDistinct held → IsDistinct (with_saying held one)
saying_distinct held (has_kind entry) d = record { types = word_distinct held.types entry.ctype entry.kind d.types; inputs = d.inputs; outputs = d.outputs }
saying_distinct held (has_code true kind code) d = record { types = d.types; inputs = word_distinct held.inputs kind code d.inputs; outputs = d.outputs }
saying_distinct held (has_code false kind code) d = record { types = d.types; inputs = d.inputs; outputs = word_distinct held.outputs kind code d.outputs }

said_distinct : (said : List Saying) (held : Entries) → IsDistinct held → IsDistinct (fold with_saying held said)
said_distinct [] held d = d
said_distinct (one ∷ said) held d = said_distinct said (with_saying held one) (saying_distinct held one d)

read_distinct : (file : FileOf) (lines : List Line) (held : Entries) → Holds file lines held → IsDistinct held
read_distinct file lines held h =
    subst IsDistinct (h.only h.said h.says) (said_distinct h.said no_entries (record { types = refl; inputs = refl; outputs = refl }))

pub given_distinct : (file : FileOf) (lines : List Line) (result : Result Entries Refuse) → Gives result (typemap_of file lines)
    → IfOk result (λ held. IsDistinct held)
given_distinct file lines (Ok held) h = read_distinct file lines held (follows file lines (Ok held) h)
given_distinct file lines (Err e) h = tt
