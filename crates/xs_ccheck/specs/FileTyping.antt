-- The code that a file means: its functions in the order of the text.
use Rattle.std.specs.Prelude.{ℕ, ◌+◌, Bool, false, if◌then◌else◌, List, [], ◌∷◌, Option, Some, None, Result}
use Rattle.xs_base.specs.declared.fault.Fault.{Fault}
use Rattle.xs_base.specs.declared.fault_codes.TheConstants.{DECLARED_TWICE}
use Rattle.xs_cstmt.specs.StatementTree as syntax
use Rattle.xs_cstmt.specs.StatementTree.{StmtTree, StmtTrees}
use Rattle.xs_cstmt.specs.declared.tree.PerlForm.{PerlForm}
use Rattle.xs_cstmt.specs.declared.tree.PerlForm.TheVariants as form
use Rattle.xs_cstmt.specs.declared.tree.PerlWord.{PerlWord}
use Rattle.xs_cstmt.specs.declared.tree.PerlWord.TheVariants as word
use Rattle.xs_csyn.specs.declared.tree.Define.{Define}
use Rattle.xs_csyn.specs.FileTree.{XsFunTree, ItemTree, TypedefItem, RecordItem, PrototypeItem, FunctionItem, XsFunItem, FileTree}
use Rattle.xs_perlapi.specs.declared.row.Row.TheVariants.{Entry}
use Rattle.xs_ctree.specs.declared.node.Sort.{Sort}
use Rattle.xs_ctree.specs.declared.node.Sort.TheVariants.{XsFunction, Boot}
use Rattle.xs_ctree.specs.declared.value_type.ValueType.TheVariants as type_of
use Rattle.xs_ctree.specs.TypedTree.{Api, NoExprs, Stmt, Block, Effect, Function, Code, stmts_of}
use Rattle.xs_ccheck.specs.declared.enclosing.Where.{Where}
use Rattle.xs_ctypes.specs.Checked.{Checked, Good, answer, behind, both, more, Judged, Fine, Wrong, judged, unbuilt}
use Rattle.xs_ctypes.specs.Scopes.{Scope, beginning, declared_in, scopes_behind}
use Rattle.xs_ccheck.specs.StmtTyping.{stmts}
use Rattle.xs_ctypes.specs.FileNames.{FileNames, index_of, is_boot_name, is_earlier, names_of}

-- ---- the front of a function

-- the line of a statement `dXSARGS;`
abbrev pub entry_word : ℕ → PerlWord → Option ℕ
entry_word line word.DXsArgs = Some line
entry_word line _ = None

abbrev pub entry_form : ℕ → PerlForm → Option ℕ
entry_form line (form.Word word) = entry_word line word
entry_form line _ = None

abbrev pub entry_line : StmtTree → Option ℕ
entry_line (syntax.Perl line form) = entry_form line form
entry_line _ = None

-- the line of the entry of an XS function
abbrev pub entry_of : StmtTrees → Option ℕ
entry_of syntax.NoStmts = None
entry_of (syntax.MoreStmts s rest) = entry_line s

-- what stands behind the entry
abbrev pub behind_entry : Option ℕ → StmtTrees → StmtTrees
behind_entry None body = body
behind_entry (Some line) syntax.NoStmts = syntax.NoStmts
behind_entry (Some line) (syntax.MoreStmts s rest) = rest

-- the entry, before the statements behind it
abbrev pub with_entry : Option ℕ → List Stmt → List Stmt
with_entry None ts = ts
with_entry (Some line) ts = Effect (Api line Entry NoExprs) ∷ ts

-- ---- functions

abbrev pub sort_of : Bool → Sort
sort_of is_boot = if is_boot then Boot else XsFunction

-- where the statements of an XS function stand
abbrev pub outermost : Bool → Where
outermost in_boot = record {
  in_boot = in_boot;
  result = type_of.Void;
  in_loop = false;
  in_switch = false;
}

abbrev pub where_in : List ℕ → Where
where_in name = outermost (is_boot_name name)

-- the function of these statements, where this scope stands behind them
abbrev pub function_done : List ℕ → Bool → Scope → List Stmt → Function
function_done name is_boot inner ts = record {
  name = name;
  sort = sort_of is_boot;
  slots = inner.slots;
  body = Block (declared_in beginning inner) (stmts_of ts);
}

module _ (names : FileNames) where
  -- no function before the one at an index has its name
  abbrev pub function_judged : ℕ → List ℕ → Function → Judged Function
  function_judged at name f =
      if is_earlier (index_of names.functions name) at then Wrong DECLARED_TWICE name else Fine f

  -- the statements of a function, and the function that they are
  abbrev pub function_from : ℕ → ℕ → List ℕ → Option ℕ → StmtTrees → Checked Function
  function_from at line name entry body =
      behind (stmts names (where_in name) beginning (behind_entry entry body))
      (λ ts. judged line (function_judged at name
      (function_done name (is_boot_name name) (scopes_behind beginning (behind_entry entry body))
      (with_entry entry ts))))

  -- The function at an index among the file's items.
  unfoldable pub function : ℕ → XsFunTree → Checked Function
  function at f = function_from at f.line f.name (entry_of f.body) f.body

  abbrev pub item : ℕ → ItemTree → Checked Function
  item at (XsFunItem f) = function at f
  -- not built yet
  item at (TypedefItem t) = judged t.line unbuilt
  item at (RecordItem r) = judged r.line unbuilt
  item at (PrototypeItem h) = judged h.line unbuilt
  item at (FunctionItem f) = judged f.head.line unbuilt

  -- the functions from an index on
  abbrev pub functions : ℕ → List ItemTree → Checked (List Function)
  functions at [] = Good []
  functions at (i ∷ rest) = more (item at i) (functions (at + 1) rest)

-- names that are defined as integers are not built yet
abbrev pub defines : List Define → Checked (List (Unit {0}))
defines [] = Good []
defines (d ∷ rest) = more (judged d.line unbuilt) (defines rest)

-- ---- files

-- the code that a file means, or its first fault
unfoldable pub code_meant : FileTree → Checked Code
code_meant f =
    both (defines f.defines) (functions (names_of f.items) 0 f.items)
    (λ ds fs. Good (record { records = []; functions = fs }))

unfoldable pub typed_of : FileTree → Result Code Fault
typed_of f = answer (code_meant f)
