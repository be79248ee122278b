-- What holds of each function whose statements are good holds of each function of a file's code.
use Rattle.std.proofs.Common.{◌≡◌, ℕ, zero, suc, ◌+◌, Bool, true, false, cond, List, [], ◌∷◌, Some, Ok, slice_get, refl, sym, ap, ◌∙◌, subst}
use Rattle.std.proofs.lemmas.Option.{same_Some}
use Rattle.xs_cstmt.specs.StatementTree.{StmtTrees}
use Rattle.xs_csyn.specs.FileTree.{XsFunTree, ItemTree, XsFunItem, FileTree}
use Rattle.xs_ctree.specs.TypedTree.{Code, Function, Stmt}
use Rattle.xs_ctypes.specs.Checked.{Checked, Good, Bad, answer, behind, both, more, Fine, Wrong, judged}
use Rattle.xs_ccheck.specs.FileTyping.{behind_entry, code_meant, defines, entry_of, function, function_done, function_judged, functions, item, typed_of, where_in, with_entry}
use Rattle.xs_ctypes.specs.FileNames.{FileNames, index_of, is_boot_name, is_earlier, names_of}
use Rattle.xs_ctypes.specs.Scopes.{beginning, scopes_behind}
use Rattle.xs_ccheck.specs.StmtTyping.{stmts}

-- the statements of a function behind its entry
abbrev pub statements_of : XsFunTree → StmtTrees
statements_of x = behind_entry (entry_of x.body) x.body

-- the function that they are
abbrev pub function_of : XsFunTree → List Stmt → Function
function_of x ts =
    function_done x.name (is_boot_name x.name) (scopes_behind beginning (statements_of x)) (with_entry (entry_of x.body) ts)

-- a function is that of an item, and something holds of both
abbrev pub OfItem : (XsFunTree → Function → Type 0) → List ItemTree → ℕ → Function → Type 0
OfItem P items i f = (x : XsFunTree) × ((slice_get items i ≡ Some (XsFunItem x)) × P x f)

good_one : {A : Type 0} (a b : A) → Good a ≡ Good b → a ≡ b
good_one a b e = cc

good_function : (b : Bool) (line : ℕ) (code : ℕ) (word : List ℕ) (f g : Function) → judged line (cond b (Wrong code word) (Fine f)) ≡ Good g → f ≡ g
good_function true line code word f g e = absurd cc
good_function false line code word f g e = good_one f g e

record BothGood {A : Type 0} (r : Checked A) (s : Checked (List A)) (all : List A) : Type 0 where
  first : A
  rest : List A
  first_good : r ≡ Good first
  rest_good : s ≡ Good rest
  are : first ∷ rest ≡ all

more_good : {A : Type 0} (r : Checked A) (s : Checked (List A)) (all : List A) → more r s ≡ Good all → BothGood r s all
more_good (Good a) (Good b) all e = record { first = a; rest = b; first_good = refl; rest_good = refl; are = good_one (a ∷ b) all e }
more_good (Good a) (Bad g) all e = absurd cc
more_good (Bad f) (Good b) all e = absurd cc
more_good (Bad f) (Bad g) all e = absurd cc

code_good : {A : Type 0} (r : Checked A) (s : Checked (List Function)) (c : Code)
    → answer (both r s (λ ds fs. Good (record { records = []; functions = fs }))) ≡ Ok c
    → s ≡ Good c.functions
code_good (Good a) (Good b) c e = ap Good (functions_of (record { records = []; functions = b }) c e)
  where
    functions_of : (d c : Code) → answer (Good d) ≡ Ok c → d.functions ≡ c.functions
    functions_of d c e = let same : d ≡ c = cc in ap (λ (z : Code). z.functions) same
code_good (Good a) (Bad g) c e = absurd cc
code_good (Bad f) (Good b) c e = absurd cc
code_good (Bad f) (Bad g) c e = absurd cc

nothing_there : (fs : List Function) (i : ℕ) (f : Function) → [] ≡ fs → slice_get fs i ≡ Some f → ⊥
nothing_there [] i f e g = cc
nothing_there (h ∷ fs) i f e g = cc

-- it holds of each function whose statements are good
abbrev pub OfEach : (XsFunTree → Function → Type 0) → Type 0
OfEach P = (names : FileNames) (x : XsFunTree) (ts : List Stmt) → stmts names (where_in x.name) beginning (statements_of x) ≡ Good ts → P x (function_of x ts)

module _ (P : XsFunTree → Function → Type 0) (each : OfEach P) where
  from_stmts : (names : FileNames) (at : ℕ) (x : XsFunTree) (f : Function) (r : Checked (List Stmt)) → ((ts : List Stmt) → r ≡ Good ts → P x (function_of x ts))
      → behind r (λ ts. judged x.line (function_judged names at x.name (function_of x ts))) ≡ Good f → P x f
  from_stmts names at x f (Bad e) is good = absurd cc
  from_stmts names at x f (Good ts) is good =
      subst (P x) (good_function (is_earlier (index_of names.functions x.name) at) x.line _ _ (function_of x ts) f good) (is ts refl)

  of_item : (names : FileNames) (at : ℕ) (y : ItemTree) (rest : List ItemTree) (f : Function) → item names at y ≡ Good f → OfItem P (y ∷ rest) 0 f
  unfolding function
  of_item names at (XsFunItem x) rest f good =
      (x, (refl, from_stmts names at x f (stmts names (where_in x.name) beginning (statements_of x)) (each names x) good))
  of_item names at _ rest f good = absurd cc

  of_items : (names : FileNames) (at : ℕ) (items : List ItemTree) (fs : List Function) → functions names at items ≡ Good fs → (i : ℕ) (f : Function)
      → slice_get fs i ≡ Some f → OfItem P items i f
  of_items names at [] fs good i f g = absurd (nothing_there fs i f (good_one [] fs good) g)
  of_items names at (y ∷ items) fs good i f g =
      let b : BothGood (item names at y) (functions names (at + 1) items) fs = more_good (item names at y) (functions names (at + 1) items) fs good in
      by b i (subst (λ zs. slice_get zs i ≡ Some f) (sym b.are) g) (λ j g1. of_items names (at + 1) items b.rest b.rest_good j f g1)
    where
      by : (b : BothGood (item names at y) (functions names (at + 1) items) fs) (i : ℕ) → slice_get (b.first ∷ b.rest) i ≡ Some f
          → ((j : ℕ) → slice_get b.rest j ≡ Some f → OfItem P items j f) → OfItem P (y ∷ items) i f
      by b zero g further = of_item names at y items f (b.first_good ∙ ap Good (same_Some b.first f g))
      by b (suc j) g further = further j g

  pub each_function : (t : FileTree) (c : Code) (i : ℕ) (f : Function) → typed_of t ≡ Ok c → slice_get c.functions i ≡ Some f → OfItem P t.items i f
  unfolding typed_of code_meant
  each_function t c i f good g =
      of_items (names_of t.items) 0 t.items c.functions (code_good (defines t.defines) (functions (names_of t.items) 0 t.items) c good) i f g
