-- The trees of files as plain data. The first number of a node is the line of its first
-- token.
use Rattle.std.specs.Prelude.{ℕ, List, map}
use Rattle.xs_values.specs.declared.model.DataModel.{DataModel}
use Rattle.xs_csyn.specs.declared.tree.Define.{Define}
use Rattle.xs_csyn.specs.declared.tree.Head.{Head}
use Rattle.xs_csyn.specs.declared.tree.Par.{Par}
use Rattle.xs_csyn.specs.declared.tree.Record.{Record}
use Rattle.xs_csyn.specs.declared.tree.Typedef.{Typedef}
use Rattle.xs_cexpr.specs.ExpressionTree.{unlined_type}
use Rattle.xs_cstmt.specs.StatementTree.{StmtTrees, unlined_stmts}

-- a function with its body
pub record FunctionTree : Type 0 where
  pub head : Head
  pub body : StmtTrees

-- an XS function
pub record XsFunTree : Type 0 where
  pub line : ℕ
  pub name : List ℕ
  pub body : StmtTrees

-- what stands at the outer level of a file
pub data ItemTree : Type 0 where
  TypedefItem : Typedef → ItemTree
  RecordItem : Record → ItemTree
  PrototypeItem : Head → ItemTree
  FunctionItem : FunctionTree → ItemTree
  XsFunItem : XsFunTree → ItemTree

pub record FileTree : Type 0 where
  pub model : DataModel
  pub defines : List Define
  pub items : List ItemTree

-- ---- a tree with 0 in the place of each line

abbrev pub unlined_par : Par → Par
unlined_par p = record { line = 0; of_type = unlined_type p.of_type; name = p.name }

abbrev pub unlined_head : Head → Head
unlined_head h = record {
  line = 0;
  result = unlined_type h.result;
  name = h.name;
  pars = map unlined_par h.pars;
}

abbrev pub unlined_typedef : Typedef → Typedef
unlined_typedef t =
    record { line = 0; of_type = unlined_type t.of_type; name = t.name; name_line = 0 }

abbrev pub unlined_record : Record → Record
unlined_record r =
    record { line = 0; fields = map unlined_par r.fields; name = r.name; name_line = 0 }

abbrev pub unlined_item : ItemTree → ItemTree
unlined_item (TypedefItem t) = TypedefItem (unlined_typedef t)
unlined_item (RecordItem r) = RecordItem (unlined_record r)
unlined_item (PrototypeItem h) = PrototypeItem (unlined_head h)
unlined_item (FunctionItem f) =
    FunctionItem (record { head = unlined_head f.head; body = unlined_stmts f.body })
unlined_item (XsFunItem f) =
    XsFunItem (record { line = 0; name = f.name; body = unlined_stmts f.body })

abbrev pub unlined_define : Define → Define
unlined_define d = record d { line = 0 }

-- A file without its lines: two trees are equal but for lines where these are equal.
abbrev pub unlined : FileTree → FileTree
unlined file = record {
  model = file.model;
  defines = map unlined_define file.defines;
  items = map unlined_item file.items;
}
