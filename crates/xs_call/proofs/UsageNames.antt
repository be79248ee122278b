-- The names in the usage are those that the glue hands to croak_xs_usage.
use Rattle.std.proofs.Common.{◌≡◌, List, [], ◌∷◌, ◌++◌, refl, ap}
use Rattle.std.specs.List.{flat_map}
use Rattle.std.specs.Prelude.{codes}
use Rattle.xs_iface.specs.declared.xsub.Param.{Param}
use Rattle.xs_meaning.specs.DeclaredMeaning.{further_names, usage_names}
use Rattle.xs_stub.specs.Stub.{joined_names, name_of}

further_same : (ps : List Param) → further_names ps ≡ flat_map (λ p. codes ", " ++ name_of p) ps
further_same [] = refl
further_same (p ∷ ps) = ap (λ t. codes ", " ++ (p.name ++ t)) (further_same ps)

pub usage_names_same : (ps : List Param) → usage_names ps ≡ joined_names ps
usage_names_same [] = refl
usage_names_same (p ∷ ps) = ap (λ t. p.name ++ t) (further_same ps)
