use Rattle.std.proofs.Common.{map, ap, ◌∙◌}
use Rattle.xs_typemap.proofs.WordsHeld.{all_set, shown}
use Rattle.xs_typemap.proofs.maps.set_all.Goals as goal

pub returns : goal.returns
returns g c =
    let entries = rw c.unwrap.ensures at c.append.ensures.entries in
    ap (map shown) entries ∙ all_set c.args.words.now.entries c.args.more.entries
