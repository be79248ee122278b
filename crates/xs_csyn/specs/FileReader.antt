-- Files of the C grammar, and pieces of them.
use Rattle.std.specs.Prelude.{ℕ, zero, suc, Bool, true, false, ◌&&◌, ◌-◌, if◌then◌else◌, List, [], ◌∷◌, ◌++◌, Option, Some, None, codes, flat_map, length, Result, Ok, Err}
use Rattle.xs_base.specs.Reading as reading
use Rattle.xs_base.specs.Readers.{◌>>=◌, ◌>>◌, ◌<$>◌, pure}
use Rattle.xs_base.specs.declared.fault.Fault.{Fault}
use Rattle.xs_base.specs.declared.fault_codes.TheConstants.{NO_READING_HERE}
use Rattle.xs_base.specs.declared.source.FileOf.{FileOf}
use Rattle.xs_ctok.specs.declared.token.TokKind.{TokKind}
use Rattle.xs_ctok.specs.declared.token.TokKind.TheVariants as kind
use Rattle.xs_ctok.specs.declared.token.Token.{Token}
use Rattle.xs_cexpr.specs.ExpressionReader.{expr}
use Rattle.xs_cstmt.specs.StatementReader.{max_nesting, part, parts, stmt}
use Rattle.xs_cinput.specs.TypeReader.{with_name}
use Rattle.xs_cexpr.specs.ExpressionTree.{ExprTree}
use Rattle.xs_cstmt.specs.StatementTree.{StmtTree, stmts_of}
use Rattle.xs_csyn.specs.FileTree.{ItemTree, TypedefItem, RecordItem, PrototypeItem, FunctionItem, XsFunItem, FileTree}
use Rattle.xs_cinput.specs.TokenInput.{Input, Outcome, Reader, a_name, a_variable, at_end, eat, expect, expect_word, fault, here, kept, next, refuse, sees, sees_word, skip}
use Rattle.xs_cinput.specs.TypeReader.{a_type}
use Rattle.xs_cexpr.specs.declared.node.Level.TheVariants as level
use Rattle.xs_csyn.specs.declared.tree.Define.{Define}
use Rattle.xs_csyn.specs.declared.tree.Head.{Head}
use Rattle.xs_csyn.specs.declared.tree.Par.{Par}
use Rattle.xs_csyn.specs.declared.tree.Record.{Record}
use Rattle.xs_csyn.specs.declared.tree.Typedef.{Typedef}
use Rattle.xs_values.specs.declared.model.DataModel.TheVariants as model

-- ---- types that are declared

unfoldable pub field : Reader Par
field = do
  of_type ← a_type
  line ← here
  name ← a_name
  expect (codes ";")
  pure (record { line = line; of_type = of_type; name = name })

-- After the opening brace. Each turn consumes a token, so that further turns change nothing.
unfoldable pub fields_from : ℕ → List Par → Reader (List Par)
fields_from zero done = refuse
fields_from (suc n) done = do
  is_over ← eat (codes "}")
  if is_over then pure done else (do
    one ← field
    fields_from n (done ++ one ∷ []))

unfoldable pub fields : Reader (List Par)
fields = λ i. fields_from i.turns [] i

-- after `typedef struct`
unfoldable pub a_record : ℕ → Reader Record
a_record line = do
  expect (codes "{")
  all ← fields
  name_line ← here
  name ← a_name
  expect (codes ";")
  pure (record { line = line; fields = all; name = name; name_line = name_line })

-- after `typedef`
unfoldable pub a_typedef : ℕ → Reader Typedef
a_typedef line = do
  of_type ← a_type
  name_line ← here
  name ← a_name
  expect (codes ";")
  pure (record { line = line; of_type = of_type; name = name; name_line = name_line })

unfoldable pub named_type : ℕ → Reader ItemTree
named_type line = λ i. if sees_word (codes "struct") i
    then (skip >> (RecordItem <$> a_record line)) i
    else (TypedefItem <$> a_typedef line) i

-- ---- functions

-- The statement `dXSARGS;` has to come next, and is left there: it begins the body of each XS
-- function.
unfoldable pub body_begins : Reader (Unit {0})
body_begins = λ i. (do
  expect_word (codes "dXSARGS")
  expect (codes ";")
  λ _. Ok (tt, i)) i

-- after the opening brace; the body of a function is a level of its own
unfoldable pub body : Reader (List StmtTree)
body = parts (stmt (max_nesting - 1))

-- after `XS`
unfoldable pub xs_function : ℕ → Reader ItemTree
xs_function line = do
  expect (codes "(")
  name ← a_name
  expect (codes ")")
  expect (codes "{")
  body_begins
  all ← body
  pure (XsFunItem (record { line = line; name = name; body = stmts_of all }))

unfoldable pub parameter : Reader Par
parameter = do
  of_type ← a_type
  line ← here
  name ← a_variable
  pure (record { line = line; of_type = of_type; name = name })

unfoldable pub parameters_from : ℕ → List Par → Reader (List Par)
parameters_from zero done = refuse
parameters_from (suc n) done = do
  one ← parameter
  more ← eat (codes ",")
  if more then parameters_from n (done ++ one ∷ [])
      else (expect (codes ")") >> pure (done ++ one ∷ []))

unfoldable pub some_parameters : Reader (List Par)
some_parameters = λ i. parameters_from i.turns [] i

-- `void` and the closing parenthesis come next
unfoldable pub sees_none : Input → Bool
sees_none i = sees_word (codes "void") i && sees (codes ")") (next i)

-- after the opening parenthesis, up to after the closing one
unfoldable pub parameters : Reader (List Par)
parameters = λ i. if sees_none i then (skip >> (skip >> pure [])) i else (do
  is_none ← eat (codes ")")
  if is_none then pure [] else some_parameters) i

unfoldable pub head : ℕ → Reader Head
head line = do
  result ← a_type
  name ← a_name
  expect (codes "(")
  pars ← parameters
  pure (record { line = line; result = result; name = name; pars = pars })

unfoldable pub function : ℕ → Reader ItemTree
function line = do
  front ← head line
  is_prototype ← eat (codes ";")
  if is_prototype then pure (PrototypeItem front) else (do
    expect (codes "{")
    all ← body
    pure (FunctionItem (record { head = front; body = stmts_of all })))

-- ---- files

unfoldable pub item : Reader ItemTree
item = do
  line ← here
  λ i. if sees_word (codes "typedef") i then (skip >> named_type line) i
      else (if sees_word (codes "XS") i then (skip >> xs_function line) i else function line i)

-- the type that an item names
abbrev pub type_of_item : ItemTree → Option (List ℕ)
type_of_item (TypedefItem t) = Some t.name
type_of_item (RecordItem r) = Some r.name
type_of_item _ = None

-- the types that are declared, and those of these items after them
abbrev pub types_after : List (List ℕ) → List ItemTree → List (List ℕ)
types_after names [] = names
types_after names (one ∷ all) = types_after (with_name names (type_of_item one)) all

-- an item is the scope of the types after it
abbrev pub with_types_of : ItemTree → Input → Input
with_types_of one i = record i { types = with_name i.types (type_of_item one) }

-- each turn consumes a token, so that further turns change nothing
unfoldable pub items_from : ℕ → List ItemTree → Reader (List ItemTree)
items_from zero done = refuse
items_from (suc n) done = λ i. if at_end i then Ok (done, i) else (do
  one ← item
  λ j. items_from n (done ++ one ∷ []) (with_types_of one j)) i

abbrev pub first_of_pair : {A : Type 0} → A × Input → Result A Fault
first_of_pair read = Ok read.0

-- all that is left, as the items of a file
abbrev pub items_of : Input → Result (List ItemTree) Fault
items_of i = reading.◌>>=◌ (items_from i.turns [] i) first_of_pair

-- a line that defines a name as an integer
abbrev pub define_of : Token → TokKind → List Define
define_of t (kind.Define name literal) =
    record { line = t.span.line; name = name; literal = literal } ∷ []
define_of t _ = []

abbrev pub defines_of : List Token → List Define
defines_of ts = flat_map (λ t. define_of t t.kind) ts

abbrev pub file_with : List Define → List ItemTree → Result FileTree Fault
file_with defines all = Ok (record { model = model.Lp64; defines = defines; items = all })

-- where the grammar begins to read
abbrev pub start : Bool → List Token → List (List ℕ) → FileOf → ℕ → Input
start whole ts types file last = record {
  rest = kept whole ts;
  types = types;
  file = file;
  last = last;
  turns = suc (length ts);
}

-- the tokens as a file
unfoldable pub file_of : FileOf → ℕ → List Token → Result FileTree Fault
file_of file last ts =
    reading.◌>>=◌ (items_of (start true ts [] file last)) (file_with (defines_of ts))

-- ---- pieces, which stand so deep in the file

-- what was read, where nothing is left
abbrev pub whole_of : {A : Type 0} → Outcome A → Result A Fault
whole_of outcome = reading.◌>>=◌ outcome
    (λ read. if at_end read.1 then Ok read.0 else Err (fault NO_READING_HERE read.1))

unfoldable pub rest_from : Reader StmtTree → ℕ → List StmtTree → Reader (List StmtTree)
rest_from inner zero done = refuse
rest_from inner (suc n) done = λ i. if at_end i then Ok (done, i) else (do
  one ← part inner
  rest_from inner n (done ++ one ∷ [])) i

abbrev pub rest_of : ℕ → Reader (List StmtTree)
rest_of room = λ i. rest_from (stmt room) i.turns [] i

-- the tokens as what stands in a block
unfoldable pub block_of : FileOf → ℕ → List (List ℕ) → ℕ → List Token → Result (List StmtTree) Fault
block_of file last types around ts = reading.◌>>=◌
    (rest_of (max_nesting - around) (start false ts types file last))
    first_of_pair

-- the tokens as one expression
unfoldable pub expr_of : FileOf → ℕ → List (List ℕ) → ℕ → List Token → Result ExprTree Fault
expr_of file last types around ts = reading.◌>>=◌
    (whole_of (expr (max_nesting - around) level.Whole (start false ts types file last)))
    (λ found. Ok found.tree)

-- expressions with a comma between two, to the end of the tokens
unfoldable pub args_from : ℕ → ℕ → List ExprTree → Reader (List ExprTree)
args_from room zero done = refuse
args_from room (suc n) done = do
  one ← expr room level.Whole
  more ← eat (codes ",")
  if more then args_from room n (done ++ one.tree ∷ []) else pure (done ++ one.tree ∷ [])

unfoldable pub some_args : ℕ → Reader (List ExprTree)
some_args room = λ i. args_from room i.turns [] i

-- the tokens as the arguments of a call, without its parentheses
unfoldable pub args_of : FileOf → ℕ → List (List ℕ) → ℕ → List Token → Result (List ExprTree) Fault
args_of file last types around ts = let i = start false ts types file last in
    if at_end i then Ok [] else whole_of (some_args (max_nesting - around) i)
