use Rattle.std.proofs.Common.{ℕ, List, ◌∙◌, ap}
use Rattle.xs_base.specs.Names.{is_among}
use Rattle.xs_cinput.proofs.NamesHeld.{set_has}
use Rattle.xs_cinput.proofs.type_names.TypeNames.has.Goals as goal

pub returns : goal.returns
returns c =
    c.contains.ensures
    ∙ set_has c.self.inside.names.keys c.args.word.now
    ∙ ap (λ (names : List (List ℕ)). is_among names c.args.word.now) c.self.view_is
