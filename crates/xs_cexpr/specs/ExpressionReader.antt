-- Expressions. Each rule has, as `inner`, the expressions that stand one level down.
use Rattle.std.specs.Option.{option_map_or}
use Rattle.std.specs.Prelude.{ℕ, zero, suc, ◌+◌, ◌&&◌, if◌then◌else◌, nat_lt, max, List, [], ◌∷◌, ◌++◌, Option, Some, None, Result, Ok, Err, codes}
use Rattle.std.specs.Str.{bytes_eq}
use Rattle.xs_base.specs.Readers.{◌>>=◌, ◌>>◌, ◌<$>◌, pure}
use Rattle.xs_ctok.specs.declared.token.TokKind.{TokKind}
use Rattle.xs_ctok.specs.declared.token.TokKind.TheVariants as kind
use Rattle.xs_ctok.specs.declared.token.Token.{Token}
use Rattle.xs_cinput.specs.Operators.{a_step, assignment, operator, prefix_op}
use Rattle.xs_cexpr.specs.ExpressionTree.{ExprTree, Var, Num, Chr, Str, Call, Paren, Int2Ptr, Index, Arrow, One, Cast, Deref, Address, Before, After, Two, Choice, Set, ExprTrees, NoExprs, MoreExprs, PlaceTree, VarPlace, TargetPlace, FieldPlace, StPlace, exprs_of}
use Rattle.xs_cinput.specs.TokenInput.{Input, Reader, refuse, too_deep, here, skip, eat, expect, sees, sees_type, sees_word, a_name, a_variable}
use Rattle.xs_cinput.specs.TypeReader.{a_type}
use Rattle.xs_cexpr.specs.declared.node.Level.{Level}
use Rattle.xs_cexpr.specs.declared.node.Level.TheVariants as level
use Rattle.xs_cinput.specs.declared.tree.BinaryOp.{BinaryOp}
use Rattle.xs_cinput.specs.declared.tree.Step.{Step}
use Rattle.xs_values.specs.declared.operator.Op.{Op}
use Rattle.xs_values.specs.declared.unary_operator.UnOp.{UnOp}

-- a tree, and how many nodes its longest way down has
pub record Found : Type 0 where
  pub tree : ExprTree
  pub height : ℕ

-- trees in order, and the height of the tallest
pub record FoundAll : Type 0 where
  pub trees : List ExprTree
  pub height : ℕ

-- a place, and its height
pub record FoundPlace : Type 0 where
  pub place : PlaceTree
  pub height : ℕ

abbrev pub leaf : ExprTree → Found
leaf tree = record { tree = tree; height = 1 }

abbrev pub above : (ExprTree → ExprTree) → Found → Found
above f n = record { tree = f n.tree; height = n.height + 1 }

abbrev pub above_place : (PlaceTree → ExprTree) → FoundPlace → Found
above_place f p = record { tree = f p.place; height = p.height + 1 }

abbrev pub joined : (ExprTree → ExprTree → ExprTree) → Found → Found → Found
joined f a b = record { tree = f a.tree b.tree; height = max a.height b.height + 1 }

abbrev pub chosen : ℕ → Found → Found → Found → Found
chosen line test a b = record {
  tree = Choice line test.tree a.tree b.tree;
  height = max (max test.height a.height) b.height + 1;
}

-- a value for a place
abbrev pub assigned : ℕ → FoundPlace → Option Op → Found → Found
assigned line p op n =
    record { tree = Set line p.place op n.tree; height = max p.height n.height + 1 }

abbrev pub with_node : FoundAll → Found → FoundAll
with_node all n = record { trees = all.trees ++ n.tree ∷ []; height = max all.height n.height }

abbrev pub no_nodes : FoundAll
no_nodes = record { trees = []; height = 0 }

abbrev pub called : ℕ → List ℕ → FoundAll → Found
called line name all =
    record { tree = Call line name (exprs_of all.trees); height = all.height + 1 }

abbrev pub flat : PlaceTree → FoundPlace
flat place = record { place = place; height = 1 }

abbrev pub st_place : ℕ → Found → FoundPlace
st_place line n = record { place = StPlace line n.tree; height = n.height + 1 }

-- ---- places

-- ST of arguments as a place, if there is one argument
abbrev pub list_place : ℕ → ExprTrees → Option PlaceTree
list_place line (MoreExprs at NoExprs) = Some (StPlace line at)
list_place line _ = None

-- what a variable points to
abbrev pub target_of : ℕ → ExprTree → Option PlaceTree
target_of line (Var name_line name) = Some (TargetPlace line name)
target_of line _ = None

-- the place that an expression is, if it is one: a name, `*` of a name, a field, ST of one
-- expression
abbrev pub place_tree_of : ExprTree → Option PlaceTree
place_tree_of (Var line name) = Some (VarPlace line name)
place_tree_of (Deref line a) = target_of line a
place_tree_of (Arrow line name field) = Some (FieldPlace line name field)
place_tree_of (Call line name args) =
    if bytes_eq name (codes "ST") then list_place line args else None
place_tree_of _ = None

-- A place is one node, and ST has its argument below it.
abbrev pub place_height : PlaceTree → ℕ → ℕ
place_height (StPlace line at) height = height
place_height _ height = 1

abbrev pub placed_as : Found → Option PlaceTree → Result FoundPlace Found
placed_as n None = Err n
placed_as n (Some place) =
    Ok (record { place = place; height = place_height place n.height })

-- the place that an expression is, or else the expression
abbrev pub placed : Found → Result FoundPlace Found
placed n = placed_as n (place_tree_of n.tree)

-- goes on with the place that an expression is, if it is one
abbrev pub by_place : (FoundPlace → Reader Found) → Result FoundPlace Found → Reader Found
by_place f (Ok p) = f p
by_place f (Err n) = pure n

-- ---- literals

-- the integer, the character or the text that a token is
abbrev pub literal_of : ℕ → TokKind → Option ExprTree
literal_of line (kind.Int literal) = Some (Num line literal)
literal_of line (kind.Char byte) = Some (Chr line byte)
literal_of line (kind.Text text) = Some (Str line text)
literal_of line _ = None

abbrev pub first_literal : ℕ → List Token → Option ExprTree
first_literal line [] = None
first_literal line (t ∷ ts) = literal_of line t.kind

unfoldable pub literal : ℕ → Input → Option ExprTree
literal line i = first_literal line i.rest

-- ---- expressions

-- after an operand that stands as deep as one may: nothing may follow it
unfoldable pub last_suffix : Found → Reader Found
last_suffix left = λ i. if sees (codes "[") i then too_deep i
    else option_map_or {U = Reader Found} (λ step. by_place (λ p. too_deep) (placed left))
    (a_step i) (pure left) i

-- the address of a name; `&` in front is not passed yet
unfoldable pub address : Reader Found
address = do
  line ← here
  skip
  name ← a_variable
  pure (leaf (Address line name))

module _ (inner : Level → Reader Found) where
  -- After the opening parenthesis. Each turn consumes a token, so that further turns change
  -- nothing.
  unfoldable pub list_from : ℕ → FoundAll → Reader FoundAll
  list_from zero all = refuse
  list_from (suc n) all = do
    one ← inner level.Whole
    more ← eat (codes ",")
    if more then list_from n (with_node all one)
        else (expect (codes ")") >> pure (with_node all one))

  unfoldable pub list : Reader FoundAll
  list = λ i. list_from i.turns no_nodes i

  unfoldable pub arguments : Reader FoundAll
  arguments = do
    is_empty ← eat (codes ")")
    if is_empty then pure no_nodes else list

  -- after the name
  unfoldable pub after_name : ℕ → List ℕ → Reader Found
  after_name line name = do
    is_call ← eat (codes "(")
    if is_call then called line name <$> arguments else (do
      is_arrow ← eat (codes "->")
      if is_arrow then (do
        field ← a_name
        pure (leaf (Arrow line name field)))
          else pure (leaf (Var line name)))

  unfoldable pub named : ℕ → Reader Found
  named line = do
    name ← a_variable
    after_name line name

  -- after the word
  unfoldable pub int2ptr : ℕ → Reader Found
  int2ptr line = do
    expect (codes "(")
    to ← a_type
    expect (codes ",")
    a ← inner level.Whole
    expect (codes ")")
    pure (above (Int2Ptr line to) a)

  unfoldable pub worded : ℕ → Reader Found
  worded line = λ i. if sees_word (codes "INT2PTR") i then (skip >> int2ptr line) i else named line i

  unfoldable pub primary : ℕ → Reader Found
  primary line = λ i. option_map_or {U = Reader Found} (λ tree. skip >> pure (leaf tree))
      (literal line i) (worded line) i

  -- after the name
  unfoldable pub named_place : ℕ → List ℕ → Reader FoundPlace
  named_place line name = do
    is_arrow ← eat (codes "->")
    if is_arrow then (do
      field ← a_name
      pure (flat (FieldPlace line name field)))
        else (λ i. if bytes_eq name (codes "ST") && sees (codes "(") i then (do
          skip
          at ← inner level.Whole
          expect (codes ")")
          pure (st_place line at)) i
        else pure (flat (VarPlace line name)) i)

  -- `++` or `--` in front is passed, and a place has to come
  unfoldable pub place : Reader FoundPlace
  place = do
    line ← here
    is_target ← eat (codes "*")
    if is_target then (do
      name ← a_variable
      pure (flat (TargetPlace line name)))
        else (do
          name ← a_variable
          named_place line name)

  -- after the first of the two that a test chooses from
  unfoldable pub other_choice : ℕ → Found → Found → Reader Found
  other_choice line test a = do
    expect (codes ":")
    b ← inner level.Choice
    pure (chosen line test a b)

module _ (inner : Level → Reader Found) (inner_place : Reader FoundPlace) (below : ℕ) where
  -- goes one level down with what stands in front, which has this height
  abbrev pub if_room : {A : Type 0} → ℕ → Reader A → Reader A
  if_room height go = if nat_lt below height then too_deep else go

  -- `[` in front is not passed yet
  unfoldable pub index : ℕ → Found → Reader Found
  index line left = if_room left.height (do
    skip
    at ← inner level.Whole
    expect (codes "]")
    pure (joined (Index line) left at))

  -- What follows an operand, at most `n` times. Each puts it one level down, so there can be no
  -- more than `below`.
  unfoldable pub suffixes : ℕ → ℕ → Found → Reader Found
  suffixes line zero left = last_suffix left
  suffixes line (suc n) left = λ i. if sees (codes "[") i then (do
    one ← index line left
    suffixes line n one) i
      else option_map_or {U = Reader Found} (λ step. by_place (λ p. if_room p.height (do
        skip
        suffixes line n (above_place (λ place. After line place step) p))) (placed left)) (a_step i)
      (pure left) i

  -- after the opening parenthesis
  unfoldable pub cast : ℕ → Reader Found
  cast line = do
    to ← a_type
    expect (codes ")")
    above (Cast line to) <$> inner level.Unary

  unfoldable pub opened : ℕ → Reader Found
  opened line = λ i. if sees_type i then cast line i else (do
    a ← inner level.Whole
    expect (codes ")")
    suffixes line below (above (Paren line) a)) i

  unfoldable pub operand : Reader Found
  operand = do
    line ← here
    is_open ← eat (codes "(")
    if is_open then opened line else (do
      first ← primary inner line
      suffixes line below first)

  unfoldable pub prefixed : UnOp → Reader Found
  prefixed op = do
    line ← here
    skip
    above (One line op) <$> inner level.Unary

  unfoldable pub dereferenced : Reader Found
  dereferenced = do
    line ← here
    skip
    above (Deref line) <$> inner level.Unary

  unfoldable pub stepped : Step → Reader Found
  stepped step = do
    line ← here
    skip
    above_place (Before line step) <$> inner_place

  -- where no operator of the table of these stands
  unfoldable pub pointed : Reader Found
  pointed = λ i. if sees (codes "*") i then dereferenced i
      else (if sees (codes "&") i then address i else operand i)

  unfoldable pub unary : Reader Found
  unary = λ i. option_map_or {U = Reader Found} prefixed (prefix_op i)
      (λ j. option_map_or {U = Reader Found} stepped (a_step j) pointed j) i

  -- Operators that follow `left` and bind at least so tightly, at most `n`. Each puts `left` one
  -- level down, so there can be no more than `below`.
  unfoldable pub climb : ℕ → ℕ → ℕ → Found → Reader Found
  climb tight line zero left =
      λ i. option_map_or {U = Reader Found} (λ op. too_deep) (operator tight i) (pure left) i
  climb tight line (suc n) left = λ i. option_map_or {U = Reader Found} (λ op.
      if_room left.height (do
        skip
        right ← inner (level.Binary (op.1 + 1))
        climb tight line n (joined (Two line op.0) left right))) (operator tight i) (pure left) i

  unfoldable pub binary : ℕ → Reader Found
  binary tight = do
    line ← here
    first ← unary
    climb tight line below first

  -- `?` in front is not passed yet
  unfoldable pub choose : ℕ → Found → Reader Found
  choose line test = if_room test.height (do
    skip
    a ← inner level.Whole
    other_choice inner line test a)

  unfoldable pub choice : Reader Found
  choice = do
    line ← here
    test ← binary 1
    λ i. if sees (codes "?") i then choose line test i else pure test i

  -- the sign of an assignment in front is not passed yet
  unfoldable pub assign : ℕ → Option Op → FoundPlace → Reader Found
  assign line op p = if_room p.height (do
    skip
    value ← inner level.Whole
    pure (assigned line p op value))

  unfoldable pub whole : Reader Found
  whole = do
    line ← here
    left ← choice
    λ i. option_map_or {U = Reader Found} (λ op. by_place (assign line op) (placed left))
        (assignment i) (pure left) i

  abbrev pub at_level : Level → Reader Found
  at_level level.Whole = whole
  at_level level.Choice = choice
  at_level (level.Binary tight) = binary tight
  at_level level.Unary = unary

unfoldable mutual
  -- an expression with at most this many levels
  pub expr : ℕ → Level → Reader Found
  expr zero level = too_deep
  expr (suc below) level = at_level (expr below) (place_of below) below level

  -- a place with at most this many levels
  pub place_of : ℕ → Reader FoundPlace
  place_of zero = too_deep
  place_of (suc below) = place (expr below)
