-- Where a fault of the grammar stands: at a token after which, whatever follows it, no text goes
-- on, and before which all begins a text.
use Rattle.std.specs.Prelude.{◌≡◌, ◌⊎◌, ◌≤◌, ◌-◌, ℕ, Bool, true, false, List, [], ◌∷◌, ◌++◌, None, Result, Err}
use Rattle.xs_base.specs.Reading.{fault_in}
use Rattle.xs_base.specs.declared.fault.Fault.{Fault}
use Rattle.xs_base.specs.declared.fault_codes.TheConstants.{NESTED_TOO_DEEP, NO_READING_HERE}
use Rattle.xs_base.specs.declared.source.FileOf.{FileOf}
use Rattle.xs_ctok.specs.declared.token.Token.{Token}
use Rattle.xs_csyn.specs.FileGrammar.{AreNames, File}
use Rattle.xs_csyn.specs.FileReader.{args_of, block_of, expr_of, file_of}
use Rattle.xs_csyn.specs.Grammar.{IsVariable, Whole}
use Rattle.xs_cexpr.specs.ExpressionHeights.{height, heights}
use Rattle.xs_csyn.specs.FileHeights.{Fit, FitItems}
use Rattle.xs_csyn.specs.Prefixes.{FitItemsBut, IsFresh, height_but, heights_but, tallest_of_but}
use Rattle.xs_cstmt.specs.StatementHeights.{depths}
use Rattle.xs_cstmt.specs.PerlForms.{form_row}
use Rattle.xs_csyn.specs.TokenTexts.{AreSpelt, IsSpelt}
use Rattle.xs_csyn.specs.StatementGrammar.{AllArguments, Rest}
use Rattle.xs_cexpr.specs.ExpressionTree.{ExprTree, exprs_of}
use Rattle.xs_cstmt.specs.StatementReader.{max_nesting}
use Rattle.xs_cstmt.specs.StatementTree.{StmtTrees}
use Rattle.xs_csyn.specs.FileTree.{ItemTree}
use Rattle.xs_cinput.specs.TokenInput.{kept, line_at}

-- both are at the end, or the next token is the same
abbrev pub SameNext : List Token → List Token → Type 0
SameNext [] [] = Unit {0}
SameNext [] (u ∷ us) = ⊥
SameNext (t ∷ ts) [] = ⊥
SameNext (t ∷ ts) (u ∷ us) = t ≡ u

-- what a fault is called: nested too deep, or no reading here
abbrev pub code_of : Bool → ℕ
code_of true = NESTED_TOO_DEEP
code_of false = NO_READING_HERE

-- What is read with these tokens kept is refused as too deep, on this line.
abbrev pub RefusedOn : {T : Type 0} → (List Token → Result T Fault) → Bool → FileOf → ℕ
    → List Token → Type 0
RefusedOn read whole file line ts = (others : List Token) → kept whole others ≡ ts
    → read others ≡ Err (fault_in file line (code_of true) [])

-- Why what stands next would be too deep. `Begun` are the texts within the bounds where this name
-- counts as nothing, `Within` those within the bounds, `Text` those of any depth, and `Refused`
-- those that are refused as too deep at this name.
pub data TooDeepThere (Are Within Begun Text Refused : List Token → Type 0) (x : Token)
    (before rest : List Token) : Type 0 where
  -- This name may stand there as an operand, but too deep: a text goes on with it where it counts
  -- as nothing, and none does where it counts. Whatever follows, the name is refused.
  name_too_deep : (more : List Token) → Are (before ++ x ∷ more) → Begun (before ++ x ∷ more)
      → ((us : List Token) → Are (before ++ x ∷ us) → Within (before ++ x ∷ us) → ⊥)
      → ((us : List Token) → Are (before ++ x ∷ us) → Refused (before ++ x ∷ us))
      → TooDeepThere Are Within Begun Text Refused x before rest
  -- A text goes on with the token that stands there, but none within the bounds.
  token_too_deep : (t : Token) (us more : List Token) → rest ≡ t ∷ us → Are (before ++ t ∷ more)
      → Text (before ++ t ∷ more) → TooDeepThere Are Within Begun Text Refused x before rest

-- The fault of tokens that are refused stands at the first of those that are left, or at the end.
-- They are compared with others that are so. What is read of a whole file is without directives.
-- `Within Any` are the texts within the bounds, and where `Any` holds those that are deeper too.
-- `Names` says that no word of the grammar names a type.
pub record StandsAt {T : Type 0} (read : List Token → Result T Fault) (whole : Bool)
    (Names : Type 0) (Are : List Token → Type 0) (Within : Type 0 → List Token → Type 0)
    (Begun Text : List Token → Type 0) (x : Token) (file : FileOf) (last : ℕ) (ts : List Token)
    (f : Fault) : Type 0 where
  pub before : List Token
  pub rest : List Token
  pub deep : Bool
  pub is : ts ≡ before ++ rest
  pub fault : f ≡ fault_in file (line_at last rest) (code_of deep) []
  -- It stands there whatever comes after that token.
  pub same : (more us : List Token) → SameNext rest us → kept whole more ≡ before ++ us
      → Are (before ++ us) → read more ≡ Err (fault_in file (line_at last us) (code_of deep) [])
  -- No text within the bounds has these tokens and that one in front, and where the fault is that
  -- there is no reading here none has, however deep.
  pub no_text : (us : List Token) → SameNext rest us → Are (before ++ us)
      → Within (deep ≡ false) (before ++ us) → ⊥
  -- The tokens before it begin a text.
  pub more : List Token
  pub text : Begun (before ++ more)
  -- Where the fault is one of nesting, what stands next would be too deep.
  pub cause : deep ≡ true → TooDeepThere Are (Within ⊥) Begun Text
      (RefusedOn read whole file x.span.line) x before rest
  -- Whether a node would be too deep is tested first: where the name in the place of what stands
  -- there, with nothing after it, is refused as too deep on its own line, so is what stands there.
  -- The early end is on another line.
  pub named : Names → (others : List Token) → kept whole others ≡ before ++ x ∷ []
      → (x.span.line ≡ last → ⊥) → read others ≡ Err (fault_in file x.span.line (code_of true) [])
      → deep ≡ true

-- A name that a text can be completed with: it names no type, and begins no form.
pub record IsFiller (types : List (List ℕ)) (x : Token) : Type 0 where
  pub is_variable : IsVariable types x
  pub is_spelt : IsSpelt x
  pub no_form : form_row x ≡ None

-- For each text there is such a name that stands nowhere in it.
abbrev pub FillerLaw : Type 0
FillerLaw = (types : List (List ℕ)) (ts : List Token)
    → (x : Token) × IsFiller types x × IsFresh x ts

-- ---- expressions

-- these tokens are an expression
abbrev pub IsExpr : List (List ℕ) → List Token → Type 0
IsExpr types ts = (a : ExprTree) × Whole types a ts []

-- These tokens are an expression, no deeper than it may be where this name counts as nothing.
abbrev pub IsExprBut : List ℕ → List (List ℕ) → ℕ → List Token → Type 0
IsExprBut hole types room ts =
    (a : ExprTree) × Whole types a ts [] × (height_but hole a ≤ room)

-- They are one that is no deeper than it may be, or of any depth, where no word of the grammar
-- names a type.
abbrev pub IsExprWithin : List (List ℕ) → ℕ → Type 0 → List Token → Type 0
IsExprWithin types room Any ts =
    (a : ExprTree) × AreNames types × Whole types a ts [] × ((height a ≤ room) ⊎ Any)

-- Tokens that are not read as an expression have a fault at a token such that the tokens before it
-- begin an expression, and none that is read begins with them and with it.
abbrev pub ExprFaultLaw : Type 0
ExprFaultLaw = (file : FileOf) (last : ℕ) (types : List (List ℕ)) (around : ℕ) (ts : List Token)
    (f : Fault) (x : Token) → IsVariable types x
    → expr_of file last types around ts ≡ Err f
    → StandsAt (expr_of file last types around) false (AreNames types) (λ js. Unit {0})
    (IsExprWithin types (max_nesting - around)) (IsExprBut x.text types (max_nesting - around))
    (IsExpr types) x file last (kept false ts) f

-- these tokens are arguments of a call
abbrev pub AreArguments : List (List ℕ) → List Token → Type 0
AreArguments types ts = (all : List ExprTree) × AllArguments types all ts

-- They are some that are no deeper than they may be, where this name counts as nothing.
abbrev pub AreArgumentsBut : List ℕ → List (List ℕ) → ℕ → List Token → Type 0
AreArgumentsBut hole types room ts = (all : List ExprTree) × AllArguments types all ts
    × (heights_but hole (exprs_of all) ≤ room)

-- They are some that are no deeper than they may be, or of any depth, where no word of the grammar
-- names a type.
abbrev pub AreArgumentsWithin : List (List ℕ) → ℕ → Type 0 → List Token → Type 0
AreArgumentsWithin types room Any ts = (all : List ExprTree) × AreNames types
    × AllArguments types all ts × ((heights (exprs_of all) ≤ room) ⊎ Any)

-- The same of tokens that are not read as the arguments of a call, without its parentheses.
abbrev pub ArgumentsFaultLaw : Type 0
ArgumentsFaultLaw = (file : FileOf) (last : ℕ) (types : List (List ℕ)) (around : ℕ)
    (ts : List Token) (f : Fault) (x : Token) → IsVariable types x
    → args_of file last types around ts ≡ Err f
    → StandsAt (args_of file last types around) false (AreNames types) (λ js. Unit {0})
    (AreArgumentsWithin types (max_nesting - around))
    (AreArgumentsBut x.text types (max_nesting - around)) (AreArguments types) x file last
    (kept false ts) f

-- ---- what stands in a block

-- these tokens are what stands in a block
abbrev pub IsBlock : List (List ℕ) → List Token → Type 0
IsBlock types ts = (all : StmtTrees) × Rest types all ts

-- These tokens are what stands in a block, no deeper than they may be where this name counts as
-- nothing.
abbrev pub IsBlockBut : List ℕ → List (List ℕ) → ℕ → List Token → Type 0
IsBlockBut hole types room ts = (all : StmtTrees) × Rest types all ts × (depths all ≤ room)
    × (tallest_of_but hole all ≤ max_nesting)

-- They are so, and no deeper than they may be, or of any depth.
abbrev pub IsBlockWithin : List (List ℕ) → ℕ → Type 0 → List Token → Type 0
IsBlockWithin types room Any ts =
    (all : StmtTrees) × Rest types all ts × (Fit room all ⊎ Any)

-- The same of tokens that are not read as what stands in a block.
abbrev pub BlockFaultLaw : Type 0
BlockFaultLaw = (file : FileOf) (last : ℕ) (types : List (List ℕ)) (around : ℕ) (ts : List Token)
    (f : Fault) (x : Token) → AreNames types → AreSpelt (kept false ts) → IsFiller types x
    → block_of file last types around ts ≡ Err f
    → StandsAt (block_of file last types around) false (Unit {0}) AreSpelt
    (IsBlockWithin types (max_nesting - around)) (IsBlockBut x.text types (max_nesting - around))
    (IsBlock types) x file last (kept false ts) f

-- ---- files

-- these tokens are a file, no matter how deep
abbrev pub IsFileText : List Token → Type 0
IsFileText ts = (all : List ItemTree) × File [] all ts

-- These tokens are a file, no deeper than it may be where this name counts as nothing.
abbrev pub IsFileBut : List ℕ → List Token → Type 0
IsFileBut hole ts = (all : List ItemTree) × File [] all ts × FitItemsBut hole all

-- They are one that is no deeper than it may be, or of any depth.
abbrev pub IsFileWithin : Type 0 → List Token → Type 0
IsFileWithin Any ts = (all : List ItemTree) × File [] all ts × (FitItems all ⊎ Any)

-- The same of a file that is not read.
abbrev pub FileFaultLaw : Type 0
FileFaultLaw = (file : FileOf) (last : ℕ) (ts : List Token) (f : Fault) (x : Token)
    → AreSpelt (kept true ts) → IsFiller [] x → IsFresh x (kept true ts)
    → file_of file last ts ≡ Err f
    → StandsAt (file_of file last) true (Unit {0}) AreSpelt IsFileWithin (IsFileBut x.text)
    IsFileText x file last (kept true ts) f
