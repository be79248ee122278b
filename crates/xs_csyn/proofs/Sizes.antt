-- Each rule of the grammar has a token, but for those that say that nothing comes.
use Rattle.std.proofs.Common.{ℕ, ◌<◌, ◌≤◌, Bool, List, length, Option, arith}
use Rattle.xs_ctok.specs.declared.token.Token.{Token}
use Rattle.xs_csyn.specs.FileGrammar as f
use Rattle.xs_csyn.specs.FileGrammar.{AHead, Fields, Item, Parameter, Parameters, SomeParameters}
use Rattle.xs_csyn.specs.Grammar as g
use Rattle.xs_csyn.specs.Grammar.{AType, Arguments, Binary, Choice, Listed, NamedPlace, Operand, Place, Primary, Stars, TypeName, Unary, Whole, Words}
use Rattle.xs_csyn.specs.StatementGrammar as s
use Rattle.xs_csyn.specs.StatementGrammar.{ALabel, Condition, Declarator, Declarators, Declared, First, ForHead, Form, Groups, Labels, Part, Parts, Statement, Stmts, Until, Value}
use Rattle.xs_cexpr.specs.ExpressionTree.{ExprTree, ExprTrees, PlaceTree}
use Rattle.xs_cstmt.specs.StatementTree.{DeclaratorTree, DeclaredTree, FirstTree, ForTree, StmtTree, StmtTrees, GroupTrees}
use Rattle.xs_csyn.specs.FileTree.{ItemTree}
use Rattle.xs_cinput.specs.declared.tree.CType.{CType}
use Rattle.xs_csyn.specs.declared.tree.Head.{Head}
use Rattle.xs_cstmt.specs.declared.tree.Label.{Label}
use Rattle.xs_csyn.specs.declared.tree.Par.{Par}
use Rattle.xs_cstmt.specs.declared.tree.PerlForm.{PerlForm}

-- ---- expressions

pub words_shrink : {types : List (List ℕ)} {name : List ℕ} {ts us : List Token} → Words types name ts us → length us < length ts
words_shrink (g.one_word i) = omega arith
words_shrink (g.two_words i j) = omega arith
words_shrink (g.three_words i j k) = omega arith

pub type_name_shrinks : {types : List (List ℕ)} {name : List ℕ} {ts us : List Token} → TypeName types name ts us → length us < length ts
type_name_shrinks (g.type_name x isnt) = words_shrink x

pub stars_shrink : {n : ℕ} {ts us : List Token} → Stars n ts us → length us ≤ length ts
stars_shrink g.no_star = omega arith
stars_shrink (g.star is more) = omega (arith, stars_shrink more)

pub type_shrinks : {types : List (List ℕ)} {to : CType} {ts us : List Token} → AType types to ts us → length us < length ts
type_shrinks (g.a_type x more) = omega (arith, type_name_shrinks x, stars_shrink more)

-- each tree has a token
mutual
  pub whole_shrinks : {types : List (List ℕ)} {a : ExprTree} {ts us : List Token} → Whole types a ts us → length us < length ts
  whole_shrinks (g.set p o x) = omega (arith, place_shrinks p, whole_shrinks x)
  whole_shrinks (g.is_choice x) = choice_shrinks x

  pub choice_shrinks : {types : List (List ℕ)} {a : ExprTree} {ts us : List Token} → Choice types a ts us → length us < length ts
  choice_shrinks (g.choose x o y c z) = omega (arith, binary_shrinks x, whole_shrinks y, choice_shrinks z)
  choice_shrinks (g.is_binary x) = binary_shrinks x

  pub binary_shrinks : {types : List (List ℕ)} {n : ℕ} {a : ExprTree} {ts us : List Token} → Binary types n a ts us → length us < length ts
  binary_shrinks (g.two x o le y) = omega (arith, binary_shrinks x, binary_shrinks y)
  binary_shrinks (g.is_unary x) = unary_shrinks x

  pub unary_shrinks : {types : List (List ℕ)} {a : ExprTree} {ts us : List Token} → Unary types a ts us → length us < length ts
  unary_shrinks (g.prefixed o x) = omega (arith, unary_shrinks x)
  unary_shrinks (g.cast o ty c x) = omega (arith, type_shrinks ty, unary_shrinks x)
  unary_shrinks (g.dereferenced o x) = omega (arith, unary_shrinks x)
  unary_shrinks (g.address o v) = omega arith
  unary_shrinks (g.before o p) = omega (arith, place_shrinks p)
  unary_shrinks (g.is_operand x) = operand_shrinks x

  pub operand_shrinks : {types : List (List ℕ)} {a : ExprTree} {ts us : List Token} → Operand types a ts us → length us < length ts
  operand_shrinks (g.index x o y c) = omega (arith, operand_shrinks x, whole_shrinks y)
  operand_shrinks (g.after p o) = omega (arith, named_shrinks p)
  operand_shrinks (g.is_primary x) = primary_shrinks x

  pub primary_shrinks : {types : List (List ℕ)} {a : ExprTree} {ts us : List Token} → Primary types a ts us → length us < length ts
  primary_shrinks (g.name v) = omega arith
  primary_shrinks (g.int k) = omega arith
  primary_shrinks (g.char k) = omega arith
  primary_shrinks (g.text k) = omega arith
  primary_shrinks (g.call v o x) = omega (arith, arguments_shrink x)
  primary_shrinks (g.arrow v o n) = omega arith
  primary_shrinks (g.paren o x c) = omega (arith, whole_shrinks x)
  primary_shrinks (g.int2ptr w o ty m x c) = omega (arith, type_shrinks ty, whole_shrinks x)

  pub place_shrinks : {types : List (List ℕ)} {p : PlaceTree} {ts us : List Token} → Place types p ts us → length us < length ts
  place_shrinks (g.target o v) = omega arith
  place_shrinks (g.is_named x) = named_shrinks x

  pub named_shrinks : {types : List (List ℕ)} {p : PlaceTree} {ts us : List Token} → NamedPlace types p ts us → length us < length ts
  named_shrinks (g.variable v) = omega arith
  named_shrinks (g.field v o n) = omega arith
  named_shrinks (g.st v w o x c) = omega (arith, whole_shrinks x)

  pub arguments_shrink : {types : List (List ℕ)} {all : ExprTrees} {ts us : List Token} → Arguments types all ts us → length us < length ts
  arguments_shrink (g.none c) = omega arith
  arguments_shrink (g.some x) = listed_shrinks x

  pub listed_shrinks : {types : List (List ℕ)} {all : ExprTrees} {ts us : List Token} → Listed types all ts us → length us < length ts
  listed_shrinks (g.last x c) = omega (arith, whole_shrinks x)
  listed_shrinks (g.more x c y) = omega (arith, whole_shrinks x, listed_shrinks y)

-- ---- statements

pub until_shrinks : {types : List (List ℕ)} {sign : List ℕ} {v : Option ExprTree} {ts us : List Token} → Until types sign v ts us → length us < length ts
until_shrinks (s.nothing is) = omega arith
until_shrinks (s.something x is) = omega (arith, whole_shrinks x)

pub value_shrinks : {types : List (List ℕ)} {v : Option ExprTree} {ts us : List Token} → Value types v ts us → length us ≤ length ts
value_shrinks s.no_value = omega arith
value_shrinks (s.value is x) = omega (arith, whole_shrinks x)

pub declarator_shrinks : {types : List (List ℕ)} {d : DeclaratorTree} {ts us : List Token} → Declarator types d ts us → length us < length ts
declarator_shrinks (s.declarator k v x) = omega (arith, stars_shrink k, value_shrinks x)

pub declarators_shrink : {types : List (List ℕ)} {all : List DeclaratorTree} {ts us : List Token} → Declarators types all ts us → length us < length ts
declarators_shrink (s.last_name x) = declarator_shrinks x
declarators_shrink (s.more_names x c y) = omega (arith, declarator_shrinks x, declarators_shrink y)

pub declared_shrinks : {types : List (List ℕ)} {d : DeclaredTree} {ts us : List Token} → Declared types d ts us → length us < length ts
declared_shrinks (s.names_declared ty x is) = omega (arith, type_name_shrinks ty, declarators_shrink x)

pub condition_shrinks : {types : List (List ℕ)} {a : ExprTree} {ts us : List Token} → Condition types a ts us → length us < length ts
condition_shrinks (s.condition o x c) = omega (arith, whole_shrinks x)

pub first_shrinks : {types : List (List ℕ)} {one : FirstTree} {ts us : List Token} → First types one ts us → length us < length ts
first_shrinks (s.no_first is) = omega arith
first_shrinks (s.first_declared x) = declared_shrinks x
first_shrinks (s.first_effect x is) = omega (arith, whole_shrinks x)

pub for_head_shrinks : {types : List (List ℕ)} {h : ForTree} {ts us : List Token} → ForHead types h ts us → length us < length ts
for_head_shrinks (s.for_head o x y z) = omega (arith, first_shrinks x, until_shrinks y, until_shrinks z)

pub label_shrinks : {types : List (List ℕ)} {l : Label} {ts us : List Token} → ALabel types l ts us → length us < length ts
label_shrinks (s.int_label w k c) = omega arith
label_shrinks (s.name_label w v c) = omega arith
label_shrinks (s.default_label w c) = omega arith

pub labels_shrink : {types : List (List ℕ)} {all : List Label} {ts us : List Token} → Labels types all ts us → length us < length ts
labels_shrink (s.last_label x) = label_shrinks x
labels_shrink (s.more_labels x y) = omega (arith, label_shrinks x, labels_shrink y)

pub form_shrinks : {types : List (List ℕ)} {p : PerlForm} {ts us : List Token} → Form types p ts us → length us < length ts
form_shrinks (s.word r is) = omega arith
form_shrinks (s.reset_stack w x y z) = omega arith
form_shrinks (s.set_index w x y z k q) = omega arith
form_shrinks (s.new_xs x y k z v p q) = omega arith
form_shrinks (s.kept_new_xs w o x y k z v p q) = omega arith
form_shrinks (s.new_record w x v y o z k p q) = omega arith
form_shrinks (s.unused w x v p q) = omega arith

mutual
  pub stmt_shrinks : {types : List (List ℕ)} {one : StmtTree} {ts us : List Token} → Statement types one ts us → length us < length ts
  stmt_shrinks (s.block o x) = omega (arith, parts_shrink x)
  stmt_shrinks (s.empty is) = omega arith
  stmt_shrinks (s.effect n x is) = omega (arith, whole_shrinks x)
  stmt_shrinks (s.an_if w c x isnt) = omega (arith, condition_shrinks c, stmt_shrinks x)
  stmt_shrinks (s.if_else w c x e y) = omega (arith, condition_shrinks c, stmt_shrinks x, stmt_shrinks y)
  stmt_shrinks (s.a_while w c x) = omega (arith, condition_shrinks c, stmt_shrinks x)
  stmt_shrinks (s.a_do w x e c is) = omega (arith, condition_shrinks c, stmt_shrinks x)
  stmt_shrinks (s.a_for w h x) = omega (arith, for_head_shrinks h, stmt_shrinks x)
  stmt_shrinks (s.a_switch w c o x) = omega (arith, condition_shrinks c, groups_shrink x)
  stmt_shrinks (s.a_break w is) = omega arith
  stmt_shrinks (s.a_continue w is) = omega arith
  stmt_shrinks (s.a_return w x) = omega (arith, until_shrinks x)
  stmt_shrinks (s.perl x) = form_shrinks x

  pub part_shrinks : {types : List (List ℕ)} {one : StmtTree} {ts us : List Token} → Part types one ts us → length us < length ts
  part_shrinks (s.declared isnt x) = declared_shrinks x
  part_shrinks (s.stated x) = stmt_shrinks x

  pub parts_shrink : {types : List (List ℕ)} {all : StmtTrees} {ts us : List Token} → Parts types all ts us → length us < length ts
  parts_shrink (s.over is) = omega arith
  parts_shrink (s.part x y) = omega (arith, part_shrinks x, parts_shrink y)

  pub groups_shrink : {types : List (List ℕ)} {may : Bool} {all : GroupTrees} {ts us : List Token} → Groups types may all ts us → length us < length ts
  groups_shrink (s.groups_over is) = omega arith
  groups_shrink (s.group l x y) = omega (arith, labels_shrink l, body_shrinks x, groups_shrink y)

  pub body_shrinks : {types : List (List ℕ)} {all : StmtTrees} {ts us : List Token} → Stmts types all ts us → length us ≤ length ts
  body_shrinks s.no_stmts = omega arith
  body_shrinks (s.stmt x y) = omega (arith, stmt_shrinks x, body_shrinks y)

-- ---- files

pub fields_shrink : {types : List (List ℕ)} {all : List Par} {ts us : List Token} → Fields types all ts us → length us < length ts
fields_shrink (f.fields_over is) = omega arith
fields_shrink (f.field ty n is x) = omega (arith, type_shrinks ty, fields_shrink x)

pub parameter_shrinks : {types : List (List ℕ)} {p : Par} {ts us : List Token} → Parameter types p ts us → length us < length ts
parameter_shrinks (f.parameter ty v) = omega (arith, type_shrinks ty)

pub some_shrink : {types : List (List ℕ)} {all : List Par} {ts us : List Token} → SomeParameters types all ts us → length us < length ts
some_shrink (f.last_parameter x c) = omega (arith, parameter_shrinks x)
some_shrink (f.more_parameters x c y) = omega (arith, parameter_shrinks x, some_shrink y)

pub parameters_shrink : {types : List (List ℕ)} {all : List Par} {ts us : List Token} → Parameters types all ts us → length us < length ts
parameters_shrink (f.no_parameters c) = omega arith
parameters_shrink (f.void_parameters w c) = omega arith
parameters_shrink (f.some_parameters x) = some_shrink x

pub head_shrinks : {types : List (List ℕ)} {h : Head} {ts us : List Token} → AHead types h ts us → length us < length ts
head_shrinks (f.a_head ty n o x) = omega (arith, type_shrinks ty, parameters_shrink x)

pub item_shrinks : {types : List (List ℕ)} {one : ItemTree} {ts us : List Token} → Item types one ts us → length us < length ts
item_shrinks (f.a_typedef w ty n is) = omega (arith, type_shrinks ty)
item_shrinks (f.a_record w v o x n is) = omega (arith, fields_shrink x)
item_shrinks (f.prototype x is) = omega (arith, head_shrinks x)
item_shrinks (f.function x o y) = omega (arith, head_shrinks x, parts_shrink y)
item_shrinks (f.xs_function w o n c v d x) = omega (arith, parts_shrink x)
