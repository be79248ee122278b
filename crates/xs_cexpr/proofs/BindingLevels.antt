-- How tightly an operator binds is a small number.
use Rattle.std.proofs.Common.{◌≡◌, ℕ, ◌≤◌, Bool, true, false, if◌then◌else◌, nat_le, List, [], ◌∷◌, Option, Some, None, refl}
use Rattle.std.proofs.lemmas.Bool.{leb-true}
use Rattle.xs_cinput.proofs.Tables.{EachRow, sign_found}
use Rattle.xs_cinput.specs.Operators.{at_least, binary_ops, first_in, operator}
use Rattle.xs_cinput.specs.TokenInput.{Input}
use Rattle.xs_cinput.specs.declared.tree.BinaryOp.{BinaryOp}
use Rattle.xs_ctok.specs.declared.token.Token.{Token}

abbrev BindsFew : List ℕ → BinaryOp × ℕ → Type 0
BindsFew word op = nat_le op.1 10 ≡ true

rows_bind : EachRow BindsFew binary_ops
unfolding binary_ops
rows_bind = (refl, (refl, (refl, (refl, (refl, (refl, (refl, (refl, (refl, (refl, (refl, (refl, (refl, (refl, (refl, (refl, (refl, (refl, tt))))))))))))))))))

passed_on : (n : ℕ) (o : Option (BinaryOp × ℕ)) (op : BinaryOp × ℕ) → at_least n o ≡ Some op → o ≡ Some op
passed_on n None op e = absurd cc
passed_on n (Some v) op e = by (nat_le n v.1) refl e
  where
    by : (c : Bool) → nat_le n v.1 ≡ c → ◌≡◌ {A = Option (BinaryOp × ℕ)} (if c then Some v else None) (Some op)
        → ◌≡◌ {A = Option (BinaryOp × ℕ)} (Some v) (Some op)
    by true k e = e
    by false k e = absurd cc

first_binds : (ts : List Token) (op : BinaryOp × ℕ) → first_in binary_ops ts ≡ Some op → nat_le op.1 10 ≡ true
first_binds [] op e = absurd cc
first_binds (t ∷ ts) op e = (sign_found BindsFew binary_ops t op rows_bind e).0

pub binds_few : (tight : ℕ) (i : Input) (op : BinaryOp × ℕ) → operator tight i ≡ Some op → op.1 ≤ 10
unfolding operator
binds_few tight i op e = leb-true op.1 10 (first_binds i.rest op (passed_on tight (first_in binary_ops i.rest) op e))
