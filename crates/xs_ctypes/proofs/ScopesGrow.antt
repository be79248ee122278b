-- How a scope grows along the statements of a function, sound or not: what is known stays known to
-- the end of its block, and slots stay where they are.
use Rattle.std.proofs.Common.{◌≡◌, ◌⊎◌, inl, inr, ℕ, zero, suc, Bool, true, false, cond, List, [], ◌∷◌, ◌++◌, length, take, Option, None, Some, slice_get, refl, sym, ap, ◌∙◌, subst, append_assoc, append-nil}
use Rattle.std.specs.Option.{is_some}
use Rattle.std.specs.Str.{bytes_eq}
use Rattle.std.proofs.Math.Seq.{take-append_seam}
use Rattle.std.proofs.lemmas.Option.{same_Some}
use Rattle.xs_cstmt.specs.StatementTree as statement
use Rattle.xs_cstmt.specs.StatementTree.{DeclaratorTree, FirstTree, StmtTree, StmtTrees, GroupTrees}
use Rattle.xs_ctree.specs.declared.value_type.Slot.{Slot}
use Rattle.xs_ctree.specs.declared.value_type.ValueType.{ValueType}
use Rattle.xs_ctypes.specs.Scopes.{Local, Scope, declarators_behind, first_behind, groups_behind, is_in_use, name_behind, new_variable, next_slot, outside, scope_behind, scopes_behind, variable_of, with_variable}
use Rattle.xs_ctypes.specs.TypeNames.{declared_type}

-- ---- a variable more

last_of : (b : Bool) (s : Slot) (o p q : Option Slot) → p ≡ cond (is_some o) o q → cond b (Some s) p ≡ cond (is_some (cond b (Some s) o)) (cond b (Some s) o) q
last_of true s o p q e = refl
last_of false s o p q e = e

-- a name that is known stays known, and else it may be that of the last variable
pub found_last : (vs : List Local) (v : Local) (name : List ℕ)
    → variable_of (vs ++ v ∷ []) name ≡ cond (is_some (variable_of vs name)) (variable_of vs name) (cond (bytes_eq v.name name) (Some v.slot) None)
unfolding variable_of
found_last [] v name = refl
found_last (w ∷ vs) v name =
    last_of (bytes_eq w.name name) w.slot (variable_of vs name) (variable_of (vs ++ v ∷ []) name) (cond (bytes_eq v.name name) (Some v.slot) None)
    (found_last vs v name)

pub is_none_of : (o : Option Slot) → is_some o ≡ false → o ≡ None
is_none_of None e = refl
is_none_of (Some s) e = absurd cc

-- ---- slots

pub slot_kept : (xs : List Slot) (x : Slot) (i : ℕ) (s : Slot) → slice_get xs i ≡ Some s → slice_get (xs ++ x ∷ []) i ≡ Some s
slot_kept [] x i s e = absurd cc
slot_kept (y ∷ ys) x zero s e = e
slot_kept (y ∷ ys) x (suc i) s e = slot_kept ys x i s e

pub slot_last : (xs : List Slot) (x : Slot) → slice_get (xs ++ x ∷ []) (length xs) ≡ Some x
slot_last [] x = refl
slot_last (y ∷ ys) x = slot_last ys x

-- each variable has its slot among these
abbrev pub Held : List Slot → List Local → Type 0
Held slots vs = (name : List ℕ) (z : Slot) → variable_of vs name ≡ Some z → slice_get slots z.number ≡ Some z

held_by : (slots : List Slot) (slot : Slot) (o : Option Slot) (b : Bool) (z : Slot) → ((y : Slot) → o ≡ Some y → slice_get slots y.number ≡ Some y)
    → slot.number ≡ length slots → cond (is_some o) o (cond b (Some slot) None) ≡ Some z → slice_get (slots ++ slot ∷ []) z.number ≡ Some z
held_by slots slot (Some y) b z h n e =
    subst (λ x. slice_get (slots ++ slot ∷ []) x.number ≡ Some x) (same_Some y z e) (slot_kept slots slot y.number y (h y refl))
held_by slots slot None true z h n e =
    subst (λ x. slice_get (slots ++ slot ∷ []) x.number ≡ Some x) (same_Some slot z e)
    (subst (λ i. slice_get (slots ++ slot ∷ []) i ≡ Some slot) (sym n) (slot_last slots slot))
held_by slots slot None false z h n e = absurd cc

held_more : (slots : List Slot) (vs : List Local) (v : Local) → v.slot.number ≡ length slots → Held slots vs → Held (slots ++ v.slot ∷ []) (vs ++ v ∷ [])
held_more slots vs v n h name z e =
    held_by slots v.slot (variable_of vs name) (bytes_eq v.name name) z (h name) n (sym (found_last vs v name) ∙ e)

-- ---- what a scope keeps

abbrev pub Numbered : List Slot → Type 0
Numbered slots = (i : ℕ) (s : Slot) → slice_get slots i ≡ Some s → s.number ≡ i

-- A later scope of a function: the variables of an earlier one stand at its front, and slots are
-- numbered still, and stay.
pub record Grown (s t : Scope) : Type 0 where
  pub more : List Local
  pub variables : t.variables ≡ s.variables ++ more
  pub numbered : Numbered s.slots → Numbered t.slots
  pub kept : (i : ℕ) (z : Slot) → slice_get s.slots i ≡ Some z → slice_get t.slots i ≡ Some z
  pub held : Held s.slots s.variables → Held t.slots t.variables

grown_same : (s : Scope) → Grown s s
grown_same s = record { more = []; variables = sym (append-nil s.variables); numbered = λ n. n; kept = λ i z e. e; held = λ h. h }

pub grown_trans : (s t u : Scope) → Grown s t → Grown t u → Grown s u
grown_trans s t u a b = record {
  more = a.more ++ b.more;
  variables = b.variables ∙ ap (λ vs. vs ++ b.more) a.variables ∙ append_assoc s.variables a.more b.more;
  numbered = λ n. b.numbered (a.numbered n);
  kept = λ i z e. b.kept i z (a.kept i z e);
  held = λ h. b.held (a.held h);
}

last_slot : (xs : List Slot) (x : Slot) (i : ℕ) (s : Slot) → slice_get (xs ++ x ∷ []) i ≡ Some s → (slice_get xs i ≡ Some s) ⊎ ((i ≡ length xs) × (x ≡ s))
last_slot [] x zero s e = inr (refl, same_Some x s e)
last_slot [] x (suc i) s e = absurd cc
last_slot (y ∷ ys) x zero s e = inl e
last_slot (y ∷ ys) x (suc i) s e = on (last_slot ys x i s e)
  where
    on : (slice_get ys i ≡ Some s) ⊎ ((i ≡ length ys) × (x ≡ s)) → (slice_get ys i ≡ Some s) ⊎ ((suc i ≡ suc (length ys)) × (x ≡ s))
    on (inl a) = inl a
    on (inr (d, a)) = inr (ap suc d, a)

numbered_more : (xs : List Slot) (x : Slot) → x.number ≡ length xs → Numbered xs → Numbered (xs ++ x ∷ [])
numbered_more xs x e n i s h = by (last_slot xs x i s h)
  where
    by : (slice_get xs i ≡ Some s) ⊎ ((i ≡ length xs) × (x ≡ s)) → s.number ≡ i
    by (inl a) = n i s a
    by (inr (d, a)) = ap (λ (z : Slot). z.number) (sym a) ∙ e ∙ sym d

variable_grown : (s : Scope) (line : ℕ) (name : List ℕ) (t : ValueType) → Grown s (with_variable s line name t)
variable_grown s line name t = by (is_in_use s.variables name)
  where
    by : (b : Bool) → Grown s (cond b s (new_variable s name (next_slot s line t)))
    by true = grown_same s
    by false = record {
      more = record { name = name; slot = next_slot s line t } ∷ [];
      variables = refl;
      numbered = numbered_more s.slots (next_slot s line t) refl;
      kept = slot_kept s.slots (next_slot s line t);
      held = held_more s.slots s.variables (record { name = name; slot = next_slot s line t }) refl;
    }

pub name_grown : (base : List ℕ) (s : Scope) (d : DeclaratorTree) → Grown s (name_behind base s d)
name_grown base s d = variable_grown s d.line d.name (declared_type base d.stars)

pub names_grown : (base : List ℕ) (s : Scope) (ds : List DeclaratorTree) → Grown s (declarators_behind base s ds)
names_grown base s [] = grown_same s
names_grown base s (d ∷ ds) =
    let t : Scope = name_behind base s d in
    grown_trans s t (declarators_behind base t ds) (name_grown base s d) (names_grown base t ds)

-- a block ends with the variables before it
pub block_end : (s t : Scope) → Grown s t → take (length s.variables) t.variables ≡ s.variables
block_end s t g = ap (take (length s.variables)) g.variables ∙ take-append_seam s.variables g.more

pub outside_grown : (s inner : Scope) → Grown s inner → Grown s (outside s inner)
outside_grown s inner g = record {
  more = [];
  variables = block_end s inner g ∙ sym (append-nil s.variables);
  numbered = g.numbered;
  kept = g.kept;
  held = λ h. subst (Held inner.slots) (sym (block_end s inner g)) (λ name z e. g.kept z.number z (h name z e));
}

pub first_grown : (s : Scope) (first : FirstTree) → Grown s (first_behind s first)
first_grown s statement.NoFirst = grown_same s
first_grown s (statement.FirstDeclare d) = names_grown d.base s d.names
first_grown s (statement.FirstEffect e) = grown_same s

mutual
  unfolding scope_behind

  pub scope_grown : (s : Scope) (t : StmtTree) → Grown s (scope_behind s t)
  scope_grown s (statement.Block line body) = outside_grown s (scopes_behind s body) (scopes_grown s body)
  scope_grown s (statement.Declare d) = names_grown d.base s d.names
  scope_grown s (statement.If line test t) = scope_grown s t
  scope_grown s (statement.IfElse line test t other) =
      grown_trans s (scope_behind s t) (scope_behind (scope_behind s t) other) (scope_grown s t) (scope_grown (scope_behind s t) other)
  scope_grown s (statement.While line test t) = scope_grown s t
  scope_grown s (statement.DoWhile line t test) = scope_grown s t
  scope_grown s (statement.For line head t) =
      let inner : Scope = first_behind s head.first in
      outside_grown s (scope_behind inner t) (grown_trans s inner (scope_behind inner t) (first_grown s head.first) (scope_grown inner t))
  scope_grown s (statement.Switch line e all) = groups_grown s all
  scope_grown s _ = grown_same s

  pub scopes_grown : (s : Scope) (all : StmtTrees) → Grown s (scopes_behind s all)
  scopes_grown s statement.NoStmts = grown_same s
  scopes_grown s (statement.MoreStmts t rest) =
      grown_trans s (scope_behind s t) (scopes_behind (scope_behind s t) rest) (scope_grown s t) (scopes_grown (scope_behind s t) rest)

  pub groups_grown : (s : Scope) (all : GroupTrees) → Grown s (groups_behind s all)
  groups_grown s statement.NoGroups = grown_same s
  groups_grown s (statement.MoreGroups line labels body rest) =
      grown_trans s (scopes_behind s body) (groups_behind (scopes_behind s body) rest) (scopes_grown s body) (groups_grown (scopes_behind s body) rest)
