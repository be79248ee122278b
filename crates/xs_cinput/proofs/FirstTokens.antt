-- What stands first in a list of which the first element is known.
use Rattle.std.proofs.Common.{◌≡◌, ℕ, ◌<◌, ◌≤◌, Bool, List, [], ◌∷◌, Option, Some, None, refl, ap}
use Rattle.std.proofs.lemmas.Bool.{le-leb, lt-leb}
use Rattle.std.specs.Prelude.{slice_get}
use Rattle.xs_base.specs.Readers.{head_is}
use Rattle.xs_cinput.specs.Operators.{at_least, first_in, sign_in}
use Rattle.xs_cinput.specs.declared.tree.BinaryOp.{BinaryOp}
use Rattle.xs_ctok.specs.declared.token.Token.{Token}

pub head_by : {A : Type 0} (p : A → Bool) (xs : List A) (x : A) → Some x ≡ slice_get xs 0 → head_is p xs ≡ p x
head_by p [] x e = absurd cc
head_by p (y ∷ ys) x e = let h : y ≡ x = cc in ap p h

pub first_in_by : {V : Type 0} (table : List (List ℕ × V)) (ts : List Token) (t : Token) → Some t ≡ slice_get ts 0 → first_in table ts ≡ sign_in table t
first_in_by table [] t e = absurd cc
first_in_by table (u ∷ ts) t e = let h : u ≡ t = cc in ap (sign_in table) h

pub tight_enough : (n : ℕ) (o : Option (BinaryOp × ℕ)) (op : BinaryOp) (m : ℕ) → o ≡ Some (op, m) → n ≤ m
    → ◌≡◌ {A = Option (BinaryOp × ℕ)} (Some (op, m)) (at_least n o)
tight_enough n o op m e le = rw (e, le-leb n m le) refl

pub loose : (n : ℕ) (o : Option (BinaryOp × ℕ)) (op : BinaryOp) (m : ℕ) → o ≡ Some (op, m) → m < n
    → ◌≡◌ {A = Option (BinaryOp × ℕ)} None (at_least n o)
loose n o op m e lt = rw (e, lt-leb n m lt) refl
