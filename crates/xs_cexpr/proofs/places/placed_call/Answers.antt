use Rattle.std.proofs.Common.{◌∙◌, not, map, ap, sym, refl, arith}
use Rattle.std.specs.Prelude.{codes}
use Rattle.std.specs.Str.{bytes_eq}
use Rattle.xs_cexpr.specs.ExpressionReader.{list_place}
use Rattle.xs_cexpr.specs.ExpressionTree.{exprs_of}
use Rattle.xs_cexpr.specs.ExpressionViews.{expr_tree}
use Rattle.xs_cexpr.proofs.PlaceViews.{call_is_expression, named_other, neither, not_one}
use Rattle.xs_cexpr.proofs.places.placed_call.Goals as goal
use Rattle.xs_cexpr.proofs.places.placed_call.Goals.{then-ne-via-then-ne, then-ne-via-else-ne+then-len-ne1}

pub returns-then-ne : goal.returns-then-ne
returns-then-ne c = call_is_expression c.args.line c.args.height c.args.name c.args.args
    (elim c.then-ne.branch [
      | then-ne-via-then-ne w ↦ named_other _ (list_place c.args.line (exprs_of (map expr_tree c.args.args.items)))
          (sym (w.if-ne.ensures ∙ ap not (rw (c.as_slice.ensures, c.as_slice-2.ensures) refl)))
      | then-ne-via-else-ne+then-len-ne1 w ↦ neither (bytes_eq c.args.name (codes "ST")) _
          (not_one c.args.line expr_tree c.args.args.items (λ e. absurd (w.if-len-ne1.true (omega (arith, w.len.ensures, c.args.args.ok.0, e)))))
    ])
