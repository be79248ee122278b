use Rattle.indexmap.specs.IndexMap.{insert_entry}
use Rattle.std.proofs.Common.{List, ℕ, map, ap, ◌∙◌}
use Rattle.std.specs.Str.{bytes_eq}
use Rattle.xs_typemap.proofs.WordsHeld.{one_set, shown}
use Rattle.xs_typemap.proofs.maps.set.Goals as goal

pub returns-clause-ok : goal.returns-clause-ok
returns-clause-ok g c =
    ap (map shown) c.in_ok-insert.ensures.entries
    ∙ one_set c.args.words.now.entries c.in_ok-key.key c.args.value
    ∙ ap (λ (word : List ℕ). insert_entry bytes_eq (map shown c.args.words.now.entries) word c.args.value) c.in_ok-key.ensures.items
