-- The statements of the laws of this crate.
use Rattle.std.specs.Prelude.{◌≡◌, ◌⊎◌, ◌<◌, ◌≤◌, ◌-◌, ℕ, suc, Bool, false, List, [], length, Result, Ok, Err}
use Rattle.xs_base.specs.declared.fault.Fault.{Fault}
use Rattle.xs_base.specs.declared.fault_codes.TheConstants.{NESTED_TOO_DEEP, NO_READING_HERE}
use Rattle.xs_base.specs.declared.source.FileOf.{FileOf}
use Rattle.xs_ctok.specs.declared.token.Token.{Token}
use Rattle.xs_cexpr.specs.ExpressionReader.{FoundAll, expr, list_from}
use Rattle.xs_csyn.specs.FileGrammar.{AreNames, IsFile}
use Rattle.xs_csyn.specs.FileReader.{args_of, block_of, expr_of, fields_from, file_of, items_from, parameters_from, rest_from}
use Rattle.xs_csyn.specs.Grammar.{Whole}
use Rattle.xs_cexpr.specs.ExpressionHeights.{height, heights}
use Rattle.xs_csyn.specs.FileHeights.{Fit, FitItems}
use Rattle.xs_csyn.specs.StatementGrammar.{AllArguments, Rest}
use Rattle.xs_cstmt.specs.StatementReader.{body_from, declarators_from, groups_from, labels_from, max_nesting, parts_from, stmt}
use Rattle.xs_cexpr.specs.ExpressionTree.{ExprTree, exprs_of}
use Rattle.xs_cstmt.specs.StatementTree.{DeclaratorTree, GroupTree, StmtTree, stmts_of}
use Rattle.xs_csyn.specs.FileTree.{FileTree, ItemTree}
use Rattle.xs_cinput.specs.TokenInput.{Input, kept}
use Rattle.xs_cinput.specs.TypeReader.{stars_from}
use Rattle.xs_cstmt.specs.declared.tree.Label.{Label}
use Rattle.xs_csyn.specs.declared.tree.Par.{Par}

-- ---- what is read is in the grammar, and not too deep

abbrev pub FileSoundLaw : Type 0
FileSoundLaw = (file : FileOf) (last : ℕ) (ts : List Token) (f : FileTree)
    → file_of file last ts ≡ Ok f → IsFile f ts × FitItems f.items

-- what stands in a block
abbrev pub BlockSoundLaw : Type 0
BlockSoundLaw = (file : FileOf) (last : ℕ) (types : List (List ℕ)) (around : ℕ) (ts : List Token)
    (all : List StmtTree) → block_of file last types around ts ≡ Ok all
    → Rest types (stmts_of all) (kept false ts) × Fit (max_nesting - around) (stmts_of all)

abbrev pub ExprSoundLaw : Type 0
ExprSoundLaw = (file : FileOf) (last : ℕ) (types : List (List ℕ)) (around : ℕ) (ts : List Token)
    (a : ExprTree) → expr_of file last types around ts ≡ Ok a
    → Whole types a (kept false ts) [] × (height a ≤ max_nesting - around)

-- the arguments of a call, without its parentheses
abbrev pub ArgumentsSoundLaw : Type 0
ArgumentsSoundLaw = (file : FileOf) (last : ℕ) (types : List (List ℕ)) (around : ℕ)
    (ts : List Token) (all : List ExprTree) → args_of file last types around ts ≡ Ok all
    → AllArguments types all (kept false ts) × (heights (exprs_of all) ≤ max_nesting - around)

-- ---- what is in the grammar, and not too deep, is read

abbrev pub FileCompleteLaw : Type 0
FileCompleteLaw = (file : FileOf) (last : ℕ) (ts : List Token) (f : FileTree)
    → IsFile f ts → FitItems f.items → file_of file last ts ≡ Ok f

abbrev pub BlockCompleteLaw : Type 0
BlockCompleteLaw = (file : FileOf) (last : ℕ) (types : List (List ℕ)) (around : ℕ)
    (ts : List Token) (all : List StmtTree) → AreNames types
    → Rest types (stmts_of all) (kept false ts) → Fit (max_nesting - around) (stmts_of all)
    → block_of file last types around ts ≡ Ok all

abbrev pub ExprCompleteLaw : Type 0
ExprCompleteLaw = (file : FileOf) (last : ℕ) (types : List (List ℕ)) (around : ℕ)
    (ts : List Token) (a : ExprTree) → AreNames types → Whole types a (kept false ts) []
    → height a ≤ max_nesting - around → expr_of file last types around ts ≡ Ok a

abbrev pub ArgumentsCompleteLaw : Type 0
ArgumentsCompleteLaw = (file : FileOf) (last : ℕ) (types : List (List ℕ)) (around : ℕ)
    (ts : List Token) (all : List ExprTree) → AreNames types
    → AllArguments types all (kept false ts) → heights (exprs_of all) ≤ max_nesting - around
    → args_of file last types around ts ≡ Ok all

-- ---- what is in the grammar, however deep, is read or refused as nested too deep

-- The answer is a fault of nesting.
pub record TooDeep {A : Type 0} (answer : Result A Fault) : Type 0 where
  pub refusal : Fault
  pub is : answer ≡ Err refusal
  pub code : refusal.code ≡ NESTED_TOO_DEEP

abbrev pub FileDeepLaw : Type 0
FileDeepLaw = (file : FileOf) (last : ℕ) (ts : List Token) (f : FileTree) → IsFile f ts
    → (file_of file last ts ≡ Ok f) ⊎ TooDeep (file_of file last ts)

-- So tokens that have no reading somewhere are no file, however deep.
abbrev pub FileUnreadLaw : Type 0
FileUnreadLaw = (file : FileOf) (last : ℕ) (ts : List Token) (e : Fault)
    → file_of file last ts ≡ Err e → e.code ≡ NO_READING_HERE → (f : FileTree) → IsFile f ts → ⊥

abbrev pub BlockDeepLaw : Type 0
BlockDeepLaw = (file : FileOf) (last : ℕ) (types : List (List ℕ)) (around : ℕ) (ts : List Token)
    (all : List StmtTree) → AreNames types → Rest types (stmts_of all) (kept false ts)
    → (block_of file last types around ts ≡ Ok all) ⊎ TooDeep (block_of file last types around ts)

abbrev pub ExprDeepLaw : Type 0
ExprDeepLaw = (file : FileOf) (last : ℕ) (types : List (List ℕ)) (around : ℕ) (ts : List Token)
    (a : ExprTree) → AreNames types → Whole types a (kept false ts) []
    → (expr_of file last types around ts ≡ Ok a) ⊎ TooDeep (expr_of file last types around ts)

abbrev pub ArgumentsDeepLaw : Type 0
ArgumentsDeepLaw = (file : FileOf) (last : ℕ) (types : List (List ℕ)) (around : ℕ)
    (ts : List Token) (all : List ExprTree) → AreNames types
    → AllArguments types all (kept false ts)
    → (args_of file last types around ts ≡ Ok all) ⊎ TooDeep (args_of file last types around ts)

-- ---- there is no other reading

abbrev pub FileUniqueLaw : Type 0
FileUniqueLaw = (ts : List Token) (f h : FileTree) → IsFile f ts → FitItems f.items → IsFile h ts
    → FitItems h.items → f ≡ h

abbrev pub BlockUniqueLaw : Type 0
BlockUniqueLaw = (types : List (List ℕ)) (around : ℕ) (ts : List Token) (all more : List StmtTree)
    → AreNames types → Rest types (stmts_of all) (kept false ts)
    → Fit (max_nesting - around) (stmts_of all) → Rest types (stmts_of more) (kept false ts)
    → Fit (max_nesting - around) (stmts_of more) → all ≡ more

abbrev pub ExprUniqueLaw : Type 0
ExprUniqueLaw = (types : List (List ℕ)) (ts : List Token) (a b : ExprTree) → AreNames types
    → Whole types a ts [] → Whole types b ts [] → a ≡ b

-- ---- turns

-- Each loop of the reader consumes a token in each turn: beyond one turn more than there are
-- tokens, further turns change nothing. So a fault at the last turn is never the answer.
pub record TurnsLaw : Type 0 where
  pub stars : (turns n : ℕ) (i : Input) → length i.rest < turns
      → stars_from turns n i ≡ stars_from (suc (length i.rest)) n i
  pub arguments : (room turns : ℕ) (all : FoundAll) (i : Input) → length i.rest < turns
      → list_from (expr room) turns all i ≡ list_from (expr room) (suc (length i.rest)) all i
  pub names : (turns : ℕ) (done : List DeclaratorTree) (i : Input) → length i.rest < turns
      → declarators_from turns done i ≡ declarators_from (suc (length i.rest)) done i
  pub labels : (turns : ℕ) (done : List Label) (i : Input) → length i.rest < turns
      → labels_from turns done i ≡ labels_from (suc (length i.rest)) done i
  pub parts : (room turns : ℕ) (done : List StmtTree) (i : Input) → length i.rest < turns
      → parts_from (stmt room) turns done i ≡ parts_from (stmt room) (suc (length i.rest)) done i
  pub bodies : (room turns : ℕ) (done : List StmtTree) (i : Input) → length i.rest < turns
      → body_from (stmt room) turns done i ≡ body_from (stmt room) (suc (length i.rest)) done i
  pub groups : (room turns : ℕ) (may : Bool) (done : List GroupTree) (i : Input)
      → length i.rest < turns → groups_from (stmt room) turns may done i
      ≡ groups_from (stmt room) (suc (length i.rest)) may done i
  pub fields : (turns : ℕ) (done : List Par) (i : Input) → length i.rest < turns
      → fields_from turns done i ≡ fields_from (suc (length i.rest)) done i
  pub parameters : (turns : ℕ) (done : List Par) (i : Input) → length i.rest < turns
      → parameters_from turns done i ≡ parameters_from (suc (length i.rest)) done i
  pub pieces : (room turns : ℕ) (done : List StmtTree) (i : Input) → length i.rest < turns
      → rest_from (stmt room) turns done i ≡ rest_from (stmt room) (suc (length i.rest)) done i
  pub items : (turns : ℕ) (done : List ItemTree) (i : Input) → length i.rest < turns
      → items_from turns done i ≡ items_from (suc (length i.rest)) done i
