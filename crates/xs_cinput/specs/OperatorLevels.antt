-- How tightly the operators between two operands bind, held against the grammar of C.
use Rattle.std.specs.Prelude.{◌≡◌, ℕ, ◌+◌, List, [], ◌∷◌, ◌++◌, codes, map}
use Rattle.xs_cinput.specs.Operators.{binary_ops}

-- The signs of each level, the loosest first (C11 6.5.14 back to 6.5.5): an operand of one level is
-- made of operands of the next.
abbrev pub levels : List (List (List ℕ))
levels =
    (codes "||" ∷ [])
    ∷ (codes "&&" ∷ [])
    ∷ (codes "|" ∷ [])
    ∷ (codes "^" ∷ [])
    ∷ (codes "&" ∷ [])
    ∷ (codes "==" ∷ codes "!=" ∷ [])
    ∷ (codes "<" ∷ codes ">" ∷ codes "<=" ∷ codes ">=" ∷ [])
    ∷ (codes "<<" ∷ codes ">>" ∷ [])
    ∷ (codes "+" ∷ codes "-" ∷ [])
    ∷ (codes "*" ∷ codes "/" ∷ codes "%" ∷ [])
    ∷ []

-- the signs of some levels, each with the number of its level
abbrev pub numbered : ℕ → List (List (List ℕ)) → List (List ℕ × ℕ)
numbered n [] = []
numbered n (signs ∷ more) = map (λ sign. (sign, n)) signs ++ numbered (n + 1) more

-- The table has each sign once, with the number of its level.
abbrev pub OperatorsHaveTheirLevels : Type 0
OperatorsHaveTheirLevels = map (λ row. (row.0, row.1.1)) binary_ops ≡ numbered 1 levels
