-- Statements and declarations. Each rule has, as `inner`, the statements that stand one level
-- down.
use Rattle.std.specs.Option.{option_map_or}
use Rattle.std.specs.Prelude.{ℕ, zero, suc, Bool, true, false, not, ◌&&◌, ◌||◌, if◌then◌else◌, List, [], ◌∷◌, ◌++◌, Option, Some, None, codes, map}
use Rattle.xs_base.specs.Names.{is_among}
use Rattle.xs_base.specs.Readers.{◌>>=◌, ◌>>◌, ◌<$>◌, pure}
use Rattle.xs_ctok.specs.declared.token.Literal.{Literal}
use Rattle.xs_ctok.specs.declared.token.Token.{Token}
use Rattle.xs_cexpr.specs.ExpressionReader.{expr}
use Rattle.xs_cinput.specs.Operators.{listed}
use Rattle.xs_cstmt.specs.PerlForms.{begins_form, form_ahead, int_ahead, perl_form}
use Rattle.xs_cexpr.specs.ExpressionTree.{ExprTree, Call}
use Rattle.xs_cstmt.specs.StatementTree.{DeclaratorTree, DeclaredTree, FirstTree, NoFirst, FirstDeclare, FirstEffect, ForTree, StmtTree, Block, Empty, Declare, Effect, If, IfElse, While, DoWhile, For, Switch, Break, Continue, Return, Perl, StmtTrees, NoStmts, MoreStmts, GroupTree, stmts_of, groups_of}
use Rattle.xs_cinput.specs.TokenInput.{Input, Reader, a_variable, eat, expect, expect_word, here, is_word_kind, refuse, sees, sees_type, sees_word, skip, too_deep}
use Rattle.xs_cinput.specs.TypeReader.{stars, type_name}
use Rattle.xs_cexpr.specs.declared.node.Level.TheVariants as level
use Rattle.xs_cstmt.specs.declared.openers.Opener.{Opener}
use Rattle.xs_cstmt.specs.declared.openers.Opener.TheVariants as opens
use Rattle.xs_cstmt.specs.declared.openers.TheConstants.{LEAVING_CALLS, OPENERS}
use Rattle.xs_cstmt.specs.declared.tree.Label.{Label}
use Rattle.xs_cstmt.specs.declared.tree.Label.TheVariants as label
use Rattle.xs_cstmt.specs.declared.tree.PerlForm.{PerlForm}
use Rattle.xs_cstmt.specs.declared.tree.PerlForm.TheVariants as form
use Rattle.xs_cstmt.specs.declared.tree.PerlWord.{PerlWord}
use Rattle.xs_cstmt.specs.declared.tree.PerlWord.TheVariants as word

abbrev pub max_nesting : ℕ
max_nesting = 64

unfoldable pub an_expr : Reader ExprTree
an_expr = do
  found ← expr max_nesting level.Whole
  pure found.tree

-- an expression up to after this sign, or the sign alone
unfoldable pub until : List ℕ → Reader (Option ExprTree)
until sign = do
  is_none ← eat sign
  if is_none then pure None else (do
    a ← an_expr
    expect sign
    pure (Some a))

-- ---- declarations

-- the value after `=`, if that comes next
unfoldable pub first_value : Reader (Option ExprTree)
first_value = do
  has_value ← eat (codes "=")
  if has_value then (do
    a ← an_expr
    pure (Some a))
      else pure None

unfoldable pub declarator : Reader DeclaratorTree
declarator = do
  n ← stars
  line ← here
  name ← a_variable
  value ← first_value
  pure (record { line = line; stars = n; name = name; value = value })

-- each turn consumes a token, so that further turns change nothing
unfoldable pub declarators_from : ℕ → List DeclaratorTree → Reader (List DeclaratorTree)
declarators_from zero done = refuse
declarators_from (suc n) done = do
  one ← declarator
  more ← eat (codes ",")
  if more then declarators_from n (done ++ one ∷ []) else pure (done ++ one ∷ [])

unfoldable pub declarators : Reader (List DeclaratorTree)
declarators = λ i. declarators_from i.turns [] i

unfoldable pub declaration : Reader DeclaredTree
declaration = do
  line ← here
  base ← type_name
  names ← declarators
  expect (codes ";")
  pure (record { line = line; base = base; names = names })

-- ---- statements in which no other stands

unfoldable pub effect : Reader StmtTree
effect = do
  line ← here
  a ← an_expr
  expect (codes ";")
  pure (Effect line a)

unfoldable pub empty : Reader StmtTree
empty = do
  line ← here
  skip
  pure (Empty line)

-- `break` or `continue`
unfoldable pub jump : Bool → Reader StmtTree
jump is_break = do
  line ← here
  skip
  expect (codes ";")
  if is_break then pure (Break line) else pure (Continue line)

unfoldable pub returned : Reader StmtTree
returned = do
  line ← here
  skip
  value ← until (codes ";")
  pure (Return line value)

unfoldable pub plain : Reader StmtTree
plain = λ i. if sees (codes ";") i then empty i
    else (if sees_word (codes "return") i then returned i
    else (if sees_word (codes "break") i then jump true i
    else (if sees_word (codes "continue") i then jump false i else effect i)))

unfoldable pub simple : Reader StmtTree
simple = λ i. option_map_or {U = Reader StmtTree} perl_form (form_ahead i) plain i

-- ---- heads

-- an expression in parentheses
unfoldable pub condition : Reader ExprTree
condition = do
  expect (codes "(")
  a ← an_expr
  expect (codes ")")
  pure a

abbrev pub first_of : Option ExprTree → FirstTree
first_of None = NoFirst
first_of (Some a) = FirstEffect a

unfoldable pub first_part : Reader FirstTree
first_part = λ i. if sees_type i then (FirstDeclare <$> declaration) i
    else (first_of <$> until (codes ";")) i

unfoldable pub for_head : Reader ForTree
for_head = do
  expect (codes "(")
  first ← first_part
  test ← until (codes ";")
  step ← until (codes ")")
  pure (record { first = first; test = test; step = step })

-- ---- labels

unfoldable pub sees_label : Input → Bool
sees_label i = sees_word (codes "case") i || sees_word (codes "default") i

-- what ends the statements of a group: the next label, or the closing brace
abbrev pub ends_body : Input → Bool
ends_body i = sees (codes "}") i || sees_label i

-- after the word `default`
unfoldable pub default_label : ℕ → Reader Label
default_label line = do
  expect (codes ":")
  pure (label.Default line)

-- after the word `case`
unfoldable pub name_label : ℕ → Reader Label
name_label line = do
  name ← a_variable
  expect (codes ":")
  pure (label.Name line name)

unfoldable pub int_label : ℕ → Literal → Reader Label
int_label line literal = do
  skip
  expect (codes ":")
  pure (label.Int line literal)

unfoldable pub case_label : ℕ → Reader Label
case_label line = λ i.
    option_map_or {U = Reader Label} (int_label line) (int_ahead i) (name_label line) i

unfoldable pub a_label : Reader Label
a_label = do
  line ← here
  λ i. if sees_word (codes "default") i then (skip >> default_label line) i
      else (expect_word (codes "case") >> case_label line) i

unfoldable pub labels_from : ℕ → List Label → Reader (List Label)
labels_from zero done = refuse
labels_from (suc n) done = do
  one ← a_label
  λ i. if sees_label i then labels_from n (done ++ one ∷ []) i else pure (done ++ one ∷ []) i

unfoldable pub labels : Reader (List Label)
labels = λ i. labels_from i.turns [] i

-- ---- whether the statements of a group leave it

abbrev pub returns : PerlWord → Bool
returns word.XsReturnEmpty = true
returns word.XsReturnUndef = true
returns word.XsReturnYes = true
returns word.XsReturnNo = true
returns _ = false

-- a statement of the XS interface ends the function
abbrev pub form_returns : PerlForm → Bool
form_returns (form.Word w) = returns w
form_returns _ = false

abbrev pub leaving_calls : List (List ℕ)
leaving_calls = map (λ name. name.now) LEAVING_CALLS

-- a call that does not come back
abbrev pub is_leaving_call : ExprTree → Bool
is_leaving_call (Call line name args) = is_among leaving_calls name
is_leaving_call _ = false

abbrev mutual
  -- the statement leaves the group in which it stands last
  pub leaves : StmtTree → Bool
  leaves (Block line body) = last_leaves false body
  leaves (Break line) = true
  leaves (Return line value) = true
  leaves (Effect line a) = is_leaving_call a
  leaves (Perl line read) = form_returns read
  leaves _ = false

  -- so does the last of these statements, or what is said of the one before them
  pub last_leaves : Bool → StmtTrees → Bool
  last_leaves before NoStmts = before
  last_leaves before (MoreStmts s all) = last_leaves (leaves s) all

-- ---- statements in which others stand

-- after the body of a `do`
abbrev pub do_end : ℕ → StmtTree → Reader StmtTree
do_end line body = do
  expect_word (codes "while")
  test ← condition
  expect (codes ";")
  pure (DoWhile line body test)

module _ (inner : Reader StmtTree) where
  -- what stands directly in a block
  unfoldable pub part : Reader StmtTree
  part = λ i. if sees_type i && not (begins_form i) then (Declare <$> declaration) i else inner i

  -- After the opening brace. Each turn consumes a token, so that further turns change nothing.
  unfoldable pub parts_from : ℕ → List StmtTree → Reader (List StmtTree)
  parts_from zero done = refuse
  parts_from (suc n) done = do
    is_over ← eat (codes "}")
    if is_over then pure done else (do
      one ← part
      parts_from n (done ++ one ∷ []))

  unfoldable pub parts : Reader (List StmtTree)
  parts = λ i. parts_from i.turns [] i

  unfoldable pub block : Reader StmtTree
  block = do
    line ← here
    skip
    body ← parts
    pure (Block line (stmts_of body))

  -- the branch after `else`, which comes next
  abbrev pub with_else : ℕ → ExprTree → StmtTree → Reader StmtTree
  with_else line test then_do = do
    skip
    else_do ← inner
    pure (IfElse line test then_do else_do)

  -- after the branch of an `if`
  unfoldable pub else_branch : ℕ → ExprTree → StmtTree → Reader StmtTree
  else_branch line test then_do = λ i.
      if sees_word (codes "else") i then with_else line test then_do i
      else pure (If line test then_do) i

  unfoldable pub an_if : Reader StmtTree
  an_if = do
    line ← here
    skip
    test ← condition
    then_do ← inner
    else_branch line test then_do

  unfoldable pub a_while : Reader StmtTree
  a_while = do
    line ← here
    skip
    test ← condition
    body ← inner
    pure (While line test body)

  unfoldable pub a_do : Reader StmtTree
  a_do = do
    line ← here
    skip
    body ← inner
    do_end line body

  unfoldable pub a_for : Reader StmtTree
  a_for = do
    line ← here
    skip
    head ← for_head
    body ← inner
    pure (For line head body)

  -- the statements of a group, up to the next label or the closing brace
  unfoldable pub body_from : ℕ → List StmtTree → Reader (List StmtTree)
  body_from zero done = refuse
  body_from (suc n) done = λ i. if ends_body i then pure done i else (do
    one ← inner
    body_from n (done ++ one ∷ [])) i

  unfoldable pub group_body : Reader (List StmtTree)
  group_body = λ i. body_from i.turns [] i

  unfoldable pub group : Reader GroupTree
  group = do
    line ← here
    all ← labels
    body ← group_body
    pure (record { line = line; labels = all; body = stmts_of body })

  -- After the opening brace. A group may come where the one before it is left at its end.
  unfoldable pub groups_from : ℕ → Bool → List GroupTree → Reader (List GroupTree)
  groups_from zero may done = refuse
  groups_from (suc n) may done = do
    is_over ← eat (codes "}")
    if is_over then pure done else (if may then (do
      one ← group
      groups_from n (last_leaves false one.body) (done ++ one ∷ []))
        else refuse)

  unfoldable pub groups : Reader (List GroupTree)
  groups = λ i. groups_from i.turns true [] i

  unfoldable pub a_switch : Reader StmtTree
  a_switch = do
    line ← here
    skip
    on ← condition
    expect (codes "{")
    all ← groups
    pure (Switch line on (groups_of all))

  abbrev pub opened_by : Opener → Reader StmtTree
  opened_by opens.If = an_if
  opened_by opens.While = a_while
  opened_by opens.Do = a_do
  opened_by opens.For = a_for
  opened_by opens.Switch = a_switch

unfoldable pub openers : List (List ℕ × Opener)
openers = map (λ row. (row.0.now, row.1)) OPENERS

abbrev pub first_opener : List Token → Option Opener
first_opener [] = None
first_opener (t ∷ ts) = if is_word_kind t.kind then listed openers t.text else None

-- the word that comes next, if a statement begins with it in which others stand
unfoldable pub opener : Input → Option Opener
opener i = first_opener i.rest

-- a statement that has at most this many levels
unfoldable pub stmt : ℕ → Reader StmtTree
stmt zero = λ i. if sees (codes "{") i then too_deep i
    else option_map_or {U = Reader StmtTree} (λ o. too_deep) (opener i) simple i
stmt (suc below) = λ i. if sees (codes "{") i then block (stmt below) i
    else option_map_or {U = Reader StmtTree} (opened_by (stmt below)) (opener i) simple i
