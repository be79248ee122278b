-- Functions by their numbers.
use Rattle.std.proofs.Common.{◌≡◌, ℕ, Option, Some, ap, sym, ◌∙◌}
use Rattle.std.specs.Option.{option_map}
use Rattle.std.specs.Prelude.{slice_get}
use Rattle.std.proofs.lemmas.Option.{slice_get-map}
use Rattle.xs_ctree.specs.declared.node.FunctionNode.{FunctionNode}
use Rattle.xs_ctree.specs.declared.typed.Typed.{Typed}
use Rattle.xs_ctree.specs.Arena.{function_of}
use Rattle.xs_ctree.specs.Functions.{arena_of, code_of, function_at}

pub callee_is : (t : Typed) (f : ℕ) (o : Option FunctionNode) → o ≡ slice_get t.functions.items f
    → function_at (code_of t) (Some f) ≡ option_map (function_of (arena_of t)) o
callee_is t f o e = slice_get-map (function_of (arena_of t)) t.functions.items f ∙ ap (option_map (function_of (arena_of t))) (sym e)
