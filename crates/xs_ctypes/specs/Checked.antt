-- What is said of a part of a file: it is good, or it has a first fault. The faults of all parts
-- are collected, and a node is judged only where its parts are good. Of all faults the one is told
-- that stands on the lowest line, has the least code and comes first in the text.
use Rattle.std.specs.Prelude.{ℕ, Bool, ◌&&◌, ◌||◌, not, if◌then◌else◌, nat_eq, nat_lt, List, [], ◌∷◌, Result, Ok, Err}
use Rattle.xs_base.specs.declared.fault.Fault.{Fault}
use Rattle.xs_base.specs.declared.fault_codes.TheConstants.{NOT_BUILT, WORD_NOT_ALLOWED}
use Rattle.xs_base.specs.declared.source.FileOf.TheVariants as file
use Rattle.xs_base.specs.Reading.{fault_in}
use Rattle.xs_perlapi.specs.Table.{is_interface_word}

pub data Checked (A : Type 0) : Type 0 where
  Good : A → Checked A
  Bad : Fault → Checked A

-- ---- the first of two faults

-- whether a line stands before another; line 0, which is no line of a text, stands behind all
abbrev pub is_line_before : ℕ → ℕ → Bool
is_line_before m n = not (nat_eq m 0) && (nat_eq n 0 || nat_lt m n)

abbrev pub is_before : Fault → Fault → Bool
is_before f g =
    is_line_before f.line g.line || (nat_eq f.line g.line && nat_lt f.code g.code)

-- of two faults, which stand in the order of the text
abbrev pub lesser : Fault → Fault → Fault
lesser f g = if is_before g f then g else f

-- ---- nodes of parts

-- a node of one part
abbrev pub behind : {A B : Type 0} → Checked A → (A → Checked B) → Checked B
behind (Good a) node = node a
behind (Bad f) node = Bad f

-- a node of two parts, both of which are looked at
abbrev pub both : {A B C : Type 0} → Checked A → Checked B → (A → B → Checked C) → Checked C
both (Good a) (Good b) node = node a b
both (Good a) (Bad g) node = Bad g
both (Bad f) (Good b) node = Bad f
both (Bad f) (Bad g) node = Bad (lesser f g)

-- a node of three parts
abbrev pub three : {A B C D : Type 0} → Checked A → Checked B → Checked C
    → (A → B → C → Checked D) → Checked D
three {A} {B} {C} r s t node =
    both r (both {C = B × C} s t (λ b c. Good (b, c))) (λ a p. node a p.0 p.1)

-- a node of four parts
abbrev pub four : {A B C D E : Type 0} → Checked A → Checked B → Checked C → Checked D
    → (A → B → C → D → Checked E) → Checked E
four {A} {B} {C} {D} r s t u node =
    both r (three {D = B × (C × D)} s t u (λ b c d. Good (b, (c, d))))
    (λ a p. node a p.0 p.1.0 p.1.1)

-- a list with one part more at its front
abbrev pub more : {A : Type 0} → Checked A → Checked (List A) → Checked (List A)
more first rest = both first rest (λ x xs. Good (x ∷ xs))

-- ---- the rule of a node

-- What a rule says of a node whose parts are good: what it is, or the code and word of its fault.
pub data Judged (A : Type 0) : Type 0 where
  Fine : A → Judged A
  Wrong : ℕ → List ℕ → Judged A

-- a fault of the text
abbrev pub fault : ℕ → ℕ → List ℕ → Fault
fault line code word = fault_in file.Text line code word

-- a node at a line, as it is judged
abbrev pub judged : {A : Type 0} → ℕ → Judged A → Checked A
judged line (Fine a) = Good a
judged line (Wrong code word) = Bad (fault line code word)

-- what is fine where a test holds
abbrev pub when : {A : Type 0} → Bool → A → ℕ → List ℕ → Judged A
when test a code word = if test then Fine a else Wrong code word

-- what is said of a form that is not built yet; its parts are not looked at
abbrev pub unbuilt : {A : Type 0} → Judged A
unbuilt = Wrong NOT_BUILT []

-- ---- names without a meaning

-- a name that means nothing where it stands: the code is that of a word without meaning anywhere
abbrev pub unknown_code : ℕ → List ℕ → ℕ
unknown_code code name = if is_interface_word name then WORD_NOT_ALLOWED else code

abbrev pub unknown : {A : Type 0} → ℕ → List ℕ → Judged A
unknown code name = Wrong (unknown_code code name) name

-- ---- a file

abbrev pub answer : {A : Type 0} → Checked A → Result A Fault
answer (Good a) = Ok a
answer (Bad f) = Err f
