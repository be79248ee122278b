use Rattle.std.proofs.Common.{◌∙◌, arith, length, ap, sym}
use Rattle.xs_base.specs.declared.source.FileOf.TheVariants as file
use Rattle.xs_ctok.proofs.FewTokens.{few_in_text}
use Rattle.xs_ctok.specs.Tokens.{tokens_of}
use Rattle.xs_call.proofs.job.text_tree.Goals as goal

-- a text has no more tokens than bytes
pub read_file-requires : goal.read_file-requires
read_file-requires c =
    let read = ap (tokens_of file.Text) (sym (c.as_slice.ensures ∙ c.in_ok-lines.ensures.exact)) ∙ c.in_ok-tokens.ensures in
    omega (arith, few_in_text file.Text c.args.text.now c.in_ok-tokens.tokens read, c.requires, ap length c.as_slice-2.ensures)
