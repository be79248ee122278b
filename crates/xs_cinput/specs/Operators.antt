-- The operators of C, by their signs.
use Rattle.std.specs.List.{find}
use Rattle.std.specs.Prelude.{ℕ, if◌then◌else◌, nat_le, List, [], ◌∷◌, Option, Some, None, map, option_map}
use Rattle.std.specs.Str.{bytes_eq}
use Rattle.xs_ctok.specs.declared.token.Token.{Token}
use Rattle.xs_cinput.specs.TokenInput.{Input, is_punct_kind}
use Rattle.xs_cinput.specs.declared.operators.TheConstants.{ASSIGNMENTS, BINARY_OPS, PREFIX_OPS, STEPS}
use Rattle.xs_cinput.specs.declared.tree.BinaryOp.{BinaryOp}
use Rattle.xs_cinput.specs.declared.tree.Step.{Step}
use Rattle.xs_values.specs.declared.operator.Op.{Op}
use Rattle.xs_values.specs.declared.unary_operator.UnOp.{UnOp}

-- what stands beside a word in a table, where it stands first
abbrev pub listed : {V : Type 0} → List (List ℕ × V) → List ℕ → Option V
listed table word = option_map (λ row. row.1) (find (λ row. bytes_eq row.0 word) table)

-- the operators between two operands, each with how tightly it binds
unfoldable pub binary_ops : List (List ℕ × (BinaryOp × ℕ))
binary_ops = map (λ row. (row.0.now, row.1)) BINARY_OPS

unfoldable pub assignments : List (List ℕ × Option Op)
assignments = map (λ row. (row.0.now, row.1)) ASSIGNMENTS

unfoldable pub prefix_ops : List (List ℕ × UnOp)
prefix_ops = map (λ row. (row.0.now, row.1)) PREFIX_OPS

unfoldable pub steps : List (List ℕ × Step)
steps = map (λ row. (row.0.now, row.1)) STEPS

-- what the token stands for in a table of signs
abbrev pub sign_in : {V : Type 0} → List (List ℕ × V) → Token → Option V
sign_in table t = if is_punct_kind t.kind then listed table t.text else None

abbrev pub first_in : {V : Type 0} → List (List ℕ × V) → List Token → Option V
first_in table [] = None
first_in table (t ∷ ts) = sign_in table t

-- an operator that binds at least so tightly
abbrev pub at_least : ℕ → Option (BinaryOp × ℕ) → Option (BinaryOp × ℕ)
at_least n None = None
at_least n (Some op) = if nat_le n op.1 then Some op else None

-- the operator that comes next, if it stands between operands that bind at least so tightly
unfoldable pub operator : ℕ → Input → Option (BinaryOp × ℕ)
operator n i = at_least n (first_in binary_ops i.rest)

unfoldable pub assignment : Input → Option (Option Op)
assignment i = first_in assignments i.rest

unfoldable pub prefix_op : Input → Option UnOp
prefix_op i = first_in prefix_ops i.rest

unfoldable pub a_step : Input → Option Step
a_step i = first_in steps i.rest
