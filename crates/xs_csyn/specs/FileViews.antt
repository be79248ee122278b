-- The trees of files as plain data.
use Rattle.std.specs.Prelude.{ℕ, List, Option, map}
use Rattle.xs_csyn.specs.FileReader.{type_of_item}
use Rattle.xs_cstmt.specs.StatementTree.{stmts_of}
use Rattle.xs_csyn.specs.FileTree.{FunctionTree, XsFunTree, ItemTree, TypedefItem, RecordItem, PrototypeItem, FunctionItem, XsFunItem, FileTree}
use Rattle.xs_csyn.specs.declared.tree.CFile.{CFile}
use Rattle.xs_csyn.specs.declared.tree.FileItem.{FileItem}
use Rattle.xs_csyn.specs.declared.tree.FileItem.TheVariants as item
use Rattle.xs_csyn.specs.declared.tree.Function.{Function}
use Rattle.xs_csyn.specs.declared.tree.XsFun.{XsFun}
use Rattle.xs_cstmt.specs.StatementViews.{stmt_trees}

abbrev pub function_tree : Function → FunctionTree
function_tree f = record { head = f.head; body = stmts_of (stmt_trees f.body) }

abbrev pub xs_fun_tree : XsFun → XsFunTree
xs_fun_tree f = record { line = f.line; name = f.name; body = stmts_of (stmt_trees f.body) }

abbrev pub item_tree : FileItem → ItemTree
item_tree (item.Typedef t) = TypedefItem t
item_tree (item.Record r) = RecordItem r
item_tree (item.Prototype h) = PrototypeItem h
item_tree (item.Function f) = FunctionItem (function_tree f)
item_tree (item.XsFun f) = XsFunItem (xs_fun_tree f)

abbrev pub item_trees : List FileItem → List ItemTree
item_trees all = map item_tree all

-- the type that an item names
abbrev pub type_of : FileItem → Option (List ℕ)
type_of one = type_of_item (item_tree one)

abbrev pub file_tree : CFile → FileTree
file_tree file =
    record { model = file.model; defines = file.defines; items = item_trees file.items }
