-- What the commands so far have declared.
use Rattle.std.specs.Prelude.{ℕ, Bool, not, ◌&&◌, List, Option}
use Rattle.std.specs.List.{find}
use Rattle.xs_base.specs.Names.{is_among}
use Rattle.xs_script.specs.declared.scope.Scope.{Scope}

-- a variable that was declared and not dropped
abbrev pub is_alive : Scope → List ℕ → Bool
is_alive scope name = is_among scope.variables name && not (is_among scope.dropped name)

-- the first that is not declared, or was dropped
abbrev pub first_unknown : Scope → List (List ℕ) → Option (List ℕ)
first_unknown scope names = find (λ n. not (is_alive scope n)) names
