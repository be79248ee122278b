-- The written text, read, is the intended tree but for lines.
use Rattle.std.proofs.Common.{◌≡◌, ℕ, List, [], ◌∷◌, ◌++◌, codes, map, None, Ok, Err, Result, append-nil, refl, sym, ap, ◌∙◌, subst, subst₂}
use Rattle.std.specs.List.{AllByRecursion as All, flat_map}
use Rattle.std.specs.Prelude.{true}
use Rattle.xs_base.specs.Lines.{early_end, lines_of}
use Rattle.xs_base.specs.Reading.{◌>>=◌, with_front}
use Rattle.xs_base.specs.declared.fault.Fault.{Fault}
use Rattle.xs_base.specs.declared.source.FileOf.TheVariants as file
use Rattle.xs_ctok.proofs.TokenSteps.{cut}
use Rattle.xs_ctok.specs.Fronts.{front_of}
use Rattle.xs_ctok.specs.Tokens.{cut_of, line_from, tokens_from, tokens_of}
use Rattle.xs_ctok.specs.declared.token.Token.{Token}
use Rattle.xs_csyn.proofs.FilesComplete.{file_complete}
use Rattle.xs_csyn.specs.FileGrammar.{File, IsFile}
use Rattle.xs_csyn.specs.FileReader.{defines_of, file_of}
use Rattle.xs_csyn.specs.Laws.{FileCompleteLaw}
use Rattle.xs_csyn.specs.FileTree.{FileTree, ItemTree}
use Rattle.xs_cinput.specs.TokenInput.{kept}
use Rattle.xs_iface.specs.PassedLines.{is_passed_line}
use Rattle.xs_iface.specs.SumForm.{IsSumModule}
use Rattle.xs_iface.specs.declared.xsub.Module.{Module}
use Rattle.xs_stub.proofs.GlueFunctions.{boot_stands, xsubs_stand}
use Rattle.xs_stub.proofs.GlueLines.{glue_lines}
use Rattle.xs_stub.proofs.GlueTexts.{glue_spelled}
use Rattle.xs_stub.proofs.KeptTokens.{lines_read, tokens_passed}
use Rattle.xs_stub.proofs.LinePieces.{AreLines, line_tokens, lines_done}
use Rattle.xs_stub.proofs.PassedPart.{PassedAt, lines_passed}
use Rattle.xs_stub.proofs.Standing.{Functions, Items, no_items, then_trees}
use Rattle.xs_stub.proofs.WrittenLines.{line_at, line_first, tokens_at}
use Rattle.xs_stub.specs.Intended.{ReadsBack, boot_tree, glue_tree, xsub_tree}
use Rattle.xs_stub.specs.Stub.{boot_text, c_line_text, glue_text, xsub_text}
use Rattle.xs_values.specs.declared.model.DataModel.TheVariants as model

-- ---- the tokens of the whole text

abbrev comment : List ℕ
comment = codes "/* xsubpp glue, data model LP64 */"

comment_alone : cut_of file.Text None (line_at 1 comment) ≡ Ok (cut [] None)
unfolding line_from front_of
comment_alone = refl

nothing_first : (r : Result (List Token) Fault) → with_front [] r ≡ r
nothing_first (Ok ts) = refl
nothing_first (Err f) = refl

comment_first : (rest : List ℕ) → tokens_at 1 (codes "/* xsubpp glue, data model LP64 */\n" ++ rest) ≡ tokens_at 2 rest
comment_first rest = line_first 1 comment rest [] refl comment_alone ∙ nothing_first (tokens_at 2 rest)

-- the text after the comment
abbrev after_comment : Module → List ℕ
after_comment m = flat_map c_line_text m.c_part ++ (flat_map xsub_text m.xsubs ++ (boot_text m ++ []))

lines_last : (n : ℕ) (m : Module) → AreLines (glue_lines m)
    → tokens_at n (flat_map xsub_text m.xsubs ++ (boot_text m ++ [])) ≡ Ok (line_tokens n (glue_lines m))
unfolding tokens_from
lines_last n m fine =
    ap (tokens_at n) (glue_spelled m) ∙ lines_done n (glue_lines m) [] fine
    ∙ ap (λ (ts : List Token). let r : Result (List Token) Fault = Ok ts in r) (append-nil (line_tokens n (glue_lines m)))

tokens_are : (m : Module) (to : ℕ) (c : PassedAt (flat_map c_line_text m.c_part) 2 to) → AreLines (glue_lines m)
    → tokens_of file.Text (lines_of (glue_text m)) ≡ Ok (c.tokens ++ line_tokens to (glue_lines m))
unfolding glue_text
tokens_are m to c fine =
    comment_first (after_comment m) ∙ c.first (flat_map xsub_text m.xsubs ++ (boot_text m ++ [])) ∙ ap (with_front c.tokens) (lines_last to m fine)

-- ---- the tree

all_items : {all : List ItemTree} {ts : List Token} → Items (all ++ []) (ts ++ []) → Items all ts
all_items {all = all} {ts = ts} i = subst₂ Items (append-nil all) (append-nil ts) i

of_items : FileCompleteLaw → (m : Module) (to : ℕ) (c : PassedAt (flat_map c_line_text m.c_part) 2 to) → AreLines (glue_lines m)
    → Items (map xsub_tree m.xsubs ++ boot_tree m ∷ []) (line_tokens to (glue_lines m)) → ReadsBack m
unfolding glue_tree
of_items complete m to c fine i =
    let ts = line_tokens to (glue_lines m) in
    let over = tokens_passed c.tokens c.passed in
    let read = lines_read to (glue_lines m) fine in
    let kept_is : kept true (c.tokens ++ ts) ≡ ts =
    over.keeps ts ∙ ap (kept true) (sym (append-nil ts)) ∙ read.keeps [] ∙ append-nil ts in
    let stands : File [] i.trees (kept true (c.tokens ++ ts)) = subst (λ (l : List Token). File [] i.trees l) (sym kept_is) i.stands in
    let none : defines_of (c.tokens ++ ts) ≡ [] = over.defines ts ∙ ap defines_of (sym (append-nil ts)) ∙ read.defines [] in
    let tree : FileTree = record { model = model.Lp64; defines = []; items = i.trees } in
    let is : IsFile tree (c.tokens ++ ts) = record { stands = stands; defines = sym none; of_model = refl } in
    let last : ℕ = early_end (glue_text m) in
    record {
      tree = tree;
      read = ap (λ tokens. tokens >>= file_of file.Text last) (tokens_are m to c fine) ∙ complete file.Text last (c.tokens ++ ts) tree is i.fit;
      same = ap (λ items. record { model = model.Lp64; defines = []; items = items }) i.same;
    }

of_functions : FileCompleteLaw → (m : Module) → Functions (glue_lines m) (map xsub_tree m.xsubs ++ boot_tree m ∷ [])
    → (c : (to : ℕ) × PassedAt (flat_map c_line_text m.c_part) 2 to) → ReadsBack m
of_functions complete m f c = of_items complete m c.0 c.1 f.fine (all_items (f.onto c.0 tt [] [] no_items))

-- Where what is in the grammar is read, the written text of each module of sums reads back.
reads_back_by : FileCompleteLaw → (m : Module) → IsSumModule m → All (λ line. is_passed_line line.text ≡ true) m.c_part → ReadsBack m
reads_back_by complete m f passed =
    of_functions complete m (then_trees (xsubs_stand m.xsubs f.xsubs) (boot_stands m f)) (lines_passed 2 m.c_part passed)

pub reads_back : (m : Module) → IsSumModule m → All (λ line. is_passed_line line.text ≡ true) m.c_part → ReadsBack m
reads_back = reads_back_by file_complete
