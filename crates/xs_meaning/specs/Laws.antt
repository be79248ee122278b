-- Laws of the declared meaning, for every interface.
use Rattle.std.specs.Prelude.{◌≡◌, ℕ, List, ◌++◌}
use Rattle.xs_iface.specs.declared.xsub.Module.{Module}
use Rattle.xs_meaning.specs.DeclaredMeaning.{Store, called}

-- a store with those scalars and none, or some, after them
pub record IsGrown (store grown : Store) : Type 0 where
  pub more : Store
  pub is : grown ≡ store ++ more

-- A call changes no scalar that was made before it, and removes none.
abbrev pub CallsOnlyAdd : Type 0
CallsOnlyAdd = (m : Module) (name : List ℕ) (store : Store) (args : List ℕ)
    → IsGrown store (called m name store args).store
