-- What stands in a list of tokens by the grammar, and is a tree but for lines.
use Rattle.std.proofs.Common.{◌≡◌, ℕ, ◌+◌, ◌≤◌, List, [], ◌∷◌, ◌++◌, codes, length, map, append_assoc, refl, sym, ap, ap₂, subst₂, arith, ◌∙◌}
use Rattle.std.proofs.Math.Nat.{max-le}
use Rattle.std.specs.List.{AllByRecursion as All, flat_map}
use Rattle.xs_ctok.specs.declared.token.Token.{Token}
use Rattle.xs_csyn.specs.FileGrammar.{File, file_over}
use Rattle.xs_csyn.specs.Grammar.{Is}
use Rattle.xs_cstmt.specs.StatementHeights.{depth, depths, tallest, tallest_of}
use Rattle.xs_csyn.specs.FileHeights.{FitItems}
use Rattle.xs_csyn.specs.StatementGrammar as g
use Rattle.xs_csyn.specs.StatementGrammar.{Part, Parts}
use Rattle.xs_cstmt.specs.StatementTree.{MoreStmts, NoStmts, StmtTree, StmtTrees, stmts_of, unlined_stmt, unlined_stmts}
use Rattle.xs_csyn.specs.FileTree.{ItemTree, unlined_item}
use Rattle.xs_stub.proofs.LinePieces.{AreLines, Piece, are_both, line_tokens, line_tokens-append}

-- ---- statements

-- Up to after the closing brace stand statements, which are these but for lines. They hold at most
-- so many blocks and conditions in each other.
pub record Body (deep : ℕ) (all : List StmtTree) (ts us : List Token) : Type 0 where
  pub body : StmtTrees
  pub parts : Parts [] body ts us
  pub same : unlined_stmts body ≡ unlined_stmts (stmts_of all)
  pub flat : depths body ≤ deep
  pub low : tallest_of body ≤ 64

pub with_part : {deep : ℕ} {rest : List StmtTree} {ts us vs : List Token} (s meant : StmtTree) → Part [] s ts us → unlined_stmt s ≡ unlined_stmt meant
    → depth s ≤ deep → tallest s ≤ 64
    → Body deep rest us vs → Body deep (meant ∷ rest) ts vs
with_part s meant stands same flat low more = record {
  body = MoreStmts s more.body;
  parts = g.part stands more.parts;
  same = ap₂ MoreStmts same more.same;
  flat = max-le flat more.flat;
  low = max-le low more.low;
}

pub no_stmt : {deep : ℕ} (brace : Token) (ts : List Token) → Is (codes "}") brace → Body deep [] (brace ∷ ts) ts
no_stmt brace ts is = record { body = NoStmts; parts = g.over is; same = refl; flat = omega arith; low = omega arith }

pub regrouped : {deep : ℕ} {all meant : List StmtTree} {ts vs us : List Token} → all ≡ meant → ts ≡ vs → Body deep all ts us → Body deep meant vs us
regrouped {deep = deep} {us = us} e f b = subst₂ (λ all ts. Body deep all ts us) e f b

-- ---- lines that are trees

-- The lines, begun with any number, are these trees: whatever holds of others by a family `B` holds of these in front of them.
pub record AreTrees (K X : Type 0) (B : K → List X → List Token → Type 0) (lines : List (List Piece)) (all : List X) : Type 0 where
  pub fine : AreLines lines
  pub onto : (n : ℕ) (k : K) (rest : List X) (ts : List Token) → B k rest ts → B k (all ++ rest) (line_tokens n lines ++ ts)

pub no_trees : {K X : Type 0} {B : K → List X → List Token → Type 0} → AreTrees K X B [] []
no_trees = record { fine = tt; onto = λ n k rest ts h. h }

pub then_trees : {K X : Type 0} {B : K → List X → List Token → Type 0} {ps qs : List (List Piece)} {xs ys : List X} → AreTrees K X B ps xs
    → AreTrees K X B qs ys → AreTrees K X B (ps ++ qs) (xs ++ ys)
then_trees {K = K} {X = X} {B = B} {ps = ps} {qs = qs} {xs = xs} {ys = ys} x y = record {
  fine = are_both ps qs x.fine y.fine;
  onto = λ n k rest ts h.
      let m : ℕ = n + length ps in
      let tokens : line_tokens n ps ++ (line_tokens m qs ++ ts) ≡ line_tokens n (ps ++ qs) ++ ts =
      sym (append_assoc (line_tokens n ps) (line_tokens m qs) ts) ∙ ap (λ (l : List Token). l ++ ts) (sym (line_tokens-append n ps qs)) in
      subst₂ (B k) (sym (append_assoc xs ys rest)) tokens (x.onto n k (ys ++ rest) (line_tokens m qs ++ ts) (y.onto m k rest ts h));
}

-- the lines of a list, a tree for each of its elements
pub each_tree : {K X A : Type 0} {B : K → List X → List Token → Type 0} (P : A → Type 0) (lines : A → List (List Piece)) (tree : A → X)
    → ((a : A) → P a → AreTrees K X B (lines a) (tree a ∷ []))
    → (items : List A) → All P items → AreTrees K X B (flat_map lines items) (map tree items)
each_tree P lines tree one [] h = no_trees
each_tree P lines tree one (a ∷ items) h = then_trees (one a h.0) (each_tree P lines tree one items h.1)

-- ---- lines that are statements

-- by how deep they may be, and by what stands after them
abbrev InBody : ℕ × List Token → List StmtTree → List Token → Type 0
InBody k all ts = Body k.0 all ts k.1

abbrev pub Stand : List (List Piece) → List StmtTree → Type 0
Stand lines all = AreTrees (ℕ × List Token) StmtTree InBody lines all

-- one statement, in which no other stands, on a line with this number
pub record StandsOn (lines : List (List Piece)) (meant : StmtTree) (n : ℕ) : Type 0 where
  pub tree : StmtTree
  pub stands : (ts : List Token) → Part [] tree (line_tokens n lines ++ ts) ts
  pub same : unlined_stmt tree ≡ unlined_stmt meant
  pub flat : depth tree ≡ 0
  pub low : tallest tree ≤ 64

pub one_statement : {lines : List (List Piece)} {meant : StmtTree} → AreLines lines → ((n : ℕ) → StandsOn lines meant n) → Stand lines (meant ∷ [])
one_statement {meant = meant} fine on = record {
  fine = fine;
  onto = λ n k rest ts h. let s = on n in with_part s.tree meant (s.stands ts) s.same (omega (arith, s.flat)) s.low h;
}

-- ---- lines that are functions

-- There stand functions up to the end, which are these but for lines.
pub record Items (all : List ItemTree) (ts : List Token) : Type 0 where
  pub trees : List ItemTree
  pub stands : File [] trees ts
  pub fit : FitItems trees
  pub same : map unlined_item trees ≡ map unlined_item all

pub no_items : Items [] []
no_items = record { trees = []; stands = file_over; fit = tt; same = refl }

-- by nothing else
abbrev InFile : Unit {0} → List ItemTree → List Token → Type 0
InFile k all ts = Items all ts

abbrev pub Functions : List (List Piece) → List ItemTree → Type 0
Functions lines all = AreTrees (Unit {0}) ItemTree InFile lines all
