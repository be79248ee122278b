-- The tree that the glue of a module is meant to be, with the lines of the XS file. Each node of a
-- statement has the line of that statement: what belongs to the boot function has the line of
-- MODULE, an input that of its parameter, the author's code its own, what makes the returned value
-- of RETVAL the line that names RETVAL in OUTPUT, and all else the line of the interface.
use Rattle.std.specs.Prelude.{◌≡◌, ℕ, ◌==◌, false, if◌then◌else◌, List, [], ◌∷◌, ◌++◌, map, fold, length, codes, slice_get, None, Result, Ok}
use Rattle.std.specs.List.{enumerate_from}
use Rattle.xs_base.specs.declared.source.FileOf.TheVariants as file
use Rattle.xs_base.specs.Lines.{early_end, lines_of}
use Rattle.xs_base.specs.Reading.{◌>>=◌}
use Rattle.xs_base.specs.declared.fault.Fault.{Fault}
use Rattle.xs_ctok.specs.Tokens.{tokens_of}
use Rattle.xs_ctok.specs.declared.token.Literal.{Literal}
use Rattle.xs_cinput.specs.declared.tree.BinaryOp.TheVariants as binary
use Rattle.xs_cinput.specs.declared.tree.CType.{CType}
use Rattle.xs_cstmt.specs.declared.tree.PerlForm.{PerlForm}
use Rattle.xs_cstmt.specs.declared.tree.PerlForm.TheVariants as form
use Rattle.xs_cstmt.specs.declared.tree.PerlWord.TheVariants as word
use Rattle.xs_csyn.specs.FileReader.{file_of}
use Rattle.xs_cexpr.specs.ExpressionTree.{ExprTree, Var, Num, Str, Call, Set, Two, Cast, VarPlace, StPlace, exprs_of}
use Rattle.xs_cstmt.specs.StatementTree.{DeclaratorTree, StmtTree, Block, Declare, Effect, If, Perl, stmts_of}
use Rattle.xs_csyn.specs.FileTree.{ItemTree, XsFunItem, FileTree, unlined}
use Rattle.xs_values.specs.declared.literal.Base.{Base}
use Rattle.xs_values.specs.declared.literal.Base.TheVariants as base
use Rattle.xs_values.specs.declared.literal.Length.TheVariants as size
use Rattle.xs_values.specs.declared.literal.Suffix.{Suffix}
use Rattle.xs_values.specs.declared.model.DataModel.TheVariants as model
use Rattle.xs_values.specs.declared.operator.Op.TheVariants as op
use Rattle.xs_iface.specs.declared.xsub.Module.{Module}
use Rattle.xs_iface.specs.declared.xsub.Param.{Param}
use Rattle.xs_iface.specs.declared.xsub.Term.{Term}
use Rattle.xs_iface.specs.declared.xsub.Term.TheVariants as the
use Rattle.xs_iface.specs.declared.xsub.Xsub.{Xsub}
use Rattle.xs_iface.specs.Iface.{underscored}
use Rattle.xs_stub.specs.Stub.{glue_text, joined_names, name_or_nothing}

-- ---- numbers and types

-- no letter after the digits
abbrev pub no_suffix : Suffix
no_suffix = record { unsigned = false; length = size.Int }

-- a number that is written in decimal digits
abbrev pub literal_of : ℕ → Literal
literal_of value = record { value = value; base = base.Decimal; suffix = no_suffix }

abbrev pub number : ℕ → ℕ → ExprTree
number line value = Num line (literal_of value)

-- `int` and `IV` as the type of a cast
abbrev pub type_of : ℕ → List ℕ → CType
type_of line name = record { line = line; name = name; stars = 0 }

abbrev pub int_type : ℕ → CType
int_type line = type_of line (codes "int")

abbrev pub iv_type : ℕ → CType
iv_type line = type_of line (codes "IV")

-- a name that is declared, with so many `*` before it and without a value
abbrev pub declarator : ℕ → ℕ → List ℕ → DeclaratorTree
declarator line stars name = record { line = line; stars = stars; name = name; value = None }

-- a variable of a type
abbrev pub declared : ℕ → List ℕ → ℕ → List ℕ → StmtTree
declared line type_name stars name =
    Declare
    (record { line = line; base = type_name; names = declarator line stars name ∷ [] })

abbrev pub declared_int : ℕ → List ℕ → StmtTree
declared_int line name = declared line (codes "int") 0 name

-- ---- statements

-- a call of a function by its name
abbrev pub call_of : ℕ → List ℕ → List ExprTree → ExprTree
call_of line name args = Call line name (exprs_of args)

-- the variable gets a value
abbrev pub assign : ℕ → List ℕ → ExprTree → StmtTree
assign line name value = Effect line (Set line (VarPlace line name) None value)

-- the first place of the argument list gets a value
abbrev pub put_first : ℕ → ExprTree → StmtTree
put_first line value = Effect line (Set line (StPlace line (number line 0)) None value)

-- a word of the XS interface
abbrev pub dxsargs : PerlForm
dxsargs = form.Word word.DXsArgs

abbrev pub return_yes : PerlForm
return_yes = form.Word word.XsReturnYes

-- the `int` that the argument of this index is read as
abbrev pub int_argument : ℕ → ℕ → ExprTree
int_argument line index =
    Cast line (int_type line) (call_of line (codes "SvIV")
    (call_of line (codes "ST") (number line index ∷ []) ∷ []))

-- any other number of arguments croaks, with the names of the parameters
abbrev pub usage_test : ℕ → List Param → StmtTree
usage_test line params =
    If line
    (Two line (binary.On op.NotEqual) (Var line (codes "items")) (number line (length params)))
    (Effect line (call_of line (codes "croak_xs_usage")
    (Var line (codes "cv") ∷ Str line (joined_names params) ∷ [])))

abbrev pub declared_param : ℕ → Param → StmtTree
declared_param line p = declared_int line p.name

-- The parameter's variable gets the argument of this index.
abbrev pub input : ℕ → Param → StmtTree
input index p = assign p.line p.name (int_argument p.line index)

-- So it is for each parameter, in the order of the list.
abbrev pub inputs_from : ℕ → List Param → List StmtTree
inputs_from index ps = map (λ q. input q.0 q.1) (enumerate_from index ps)

abbrev pub term_tree : List Param → ℕ → Term → ExprTree
term_tree params line (the.Parameter at) = Var line (name_or_nothing (slice_get params at))
term_tree params line (the.Literal value) = number line value

-- RETVAL gets the sum of the terms, which are grouped to the left.
abbrev pub sum_of : List Param → ℕ → List Term → List StmtTree
sum_of params line [] = []
sum_of params line (t ∷ ts) =
    assign line (codes "RETVAL")
    (fold (λ sum term. Two line (binary.On op.Add) sum (term_tree params line term))
    (term_tree params line t) ts) ∷ []

-- RETVAL becomes the value of a new mortal.
abbrev pub returned_value : ℕ → List StmtTree
returned_value line =
    assign line (codes "RETVALSV") (call_of line (codes "sv_newmortal") [])
    ∷ Effect line
    (call_of line (codes "sv_setiv") (Var line (codes "RETVALSV")
    ∷ Cast line (iv_type line) (Var line (codes "RETVAL")) ∷ []))
    ∷ []

-- That mortal is the one item on the stack.
abbrev pub return_one : ℕ → List StmtTree
return_one line =
    put_first line (Var line (codes "RETVALSV"))
    ∷ Effect line (call_of line (codes "XSRETURN") (number line 1 ∷ []))
    ∷ []

-- the variables of the returned value
abbrev pub declared_result : ℕ → List StmtTree
declared_result line =
    declared_int line (codes "RETVAL") ∷ declared line (codes "SV") 1 (codes "RETVALSV") ∷ []

-- what an XSUB does once its arguments are as many as its parameters
abbrev pub work_of : Xsub → List StmtTree
work_of x =
    map (declared_param x.line) x.params ++ declared_result x.line
    ++ inputs_from 0 x.params ++ sum_of x.params x.code_line x.sum ++ returned_value x.output_line
    ++ return_one x.line

-- ---- functions

-- the glue function of an XSUB
abbrev pub xsub_tree : Xsub → ItemTree
xsub_tree x =
    XsFunItem (record {
      line = x.line;
      name = x.glue;
      body = stmts_of (Perl x.line dxsargs ∷ usage_test x.line x.params
          ∷ Block x.line (stmts_of (work_of x)) ∷ []);
    })

abbrev pub registration : ℕ → Xsub → StmtTree
registration line x = Perl line (form.NewXs false x.full x.glue)

-- The boot function registers each glue function under its full name.
abbrev pub boot_tree : Module → ItemTree
boot_tree m =
    XsFunItem (record {
      line = m.boot_line;
      name = codes "boot_" ++ underscored m.boot;
      body = stmts_of (Perl m.boot_line dxsargs ∷ map (registration m.boot_line) m.xsubs
          ++ Perl m.boot_line return_yes ∷ []);
    })

-- the intended tree
unfoldable pub glue_tree : Module → FileTree
glue_tree m =
    record { model = model.Lp64; defines = []; items = map xsub_tree m.xsubs ++ boot_tree m ∷ [] }

-- The tree of a C text, or its first fault: its lines have tokens, and these are read as a file.
abbrev pub text_tree : List ℕ → Result FileTree Fault
text_tree text = tokens_of file.Text (lines_of text) >>= file_of file.Text (early_end text)

-- The written text, read again, is the intended tree but for lines.
pub record ReadsBack (m : Module) : Type 0 where
  pub tree : FileTree
  pub read : text_tree (glue_text m) ≡ Ok tree
  pub same : unlined tree ≡ unlined (glue_tree m)
