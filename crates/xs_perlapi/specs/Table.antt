-- The tables of the words of Perl's API and of the XS interface, which are the program's own, and
-- what is looked up in them.
use Rattle.std.specs.Prelude.{ℕ, Bool, true, false, ◌&&◌, ◌||◌, List, [], ◌∷◌, map, Option, Some, None, if◌then◌else◌, nat_eq, is_some, option_and_then}
use Rattle.std.specs.Borrow.{Bor}
use Rattle.std.specs.Str.{bytes_eq}
use Rattle.xs_perlapi.specs.declared.row.ApiType.{ApiType}
use Rattle.xs_perlapi.specs.declared.row.ApiType.TheVariants as api
use Rattle.xs_perlapi.specs.declared.row.Mark.{Mark}
use Rattle.xs_perlapi.specs.declared.row.ResultState.{ResultState}
use Rattle.xs_perlapi.specs.declared.row.Stands.{Stands}
use Rattle.xs_perlapi.specs.declared.row.Written.{Written}
use Rattle.xs_perlapi.specs.declared.row.Written.TheVariants as written
use Rattle.xs_perlapi.specs.declared.interface_words.InterfaceWord.{InterfaceWord}
use Rattle.xs_perlapi.specs.declared.interface_words.Meaning.{Meaning}
use Rattle.xs_perlapi.specs.declared.interface_words.TheConstants.{INTERFACE_WORDS}
use Rattle.xs_perlapi.specs.declared.row.CodeForm.{CodeForm}
use Rattle.xs_perlapi.specs.declared.row.CodeForm.TheVariants as form
use Rattle.xs_perlapi.specs.declared.row.Row.{Row}
use Rattle.xs_perlapi.specs.declared.table.Signature.{Signature}
use Rattle.xs_perlapi.specs.declared.table.WordSignature.{WordSignature}
use Rattle.xs_perlapi.specs.declared.table.TheConstants.{OPERAND_WORDS, ROWS}

-- An entry: a word of the API; what stands in the code for it; how the word is written; where it
-- may stand; the types of its operands and of its result; its marks; and the state of its result.
pub record ApiWord : Type 0 where
  pub word : List ℕ
  pub form : CodeForm
  pub written : Written
  pub stands : Stands
  pub operands : List ApiType
  pub result : ApiType
  pub marks : List Mark
  pub state : ResultState

-- an entry of the program
abbrev pub Entry : Type 0
Entry = Bor (List ℕ) × CodeForm × Written × Stands × Bor (List ApiType) × ApiType × Bor (List Mark)
    × ResultState

abbrev pub api_word : List ℕ → CodeForm → Written → Stands → List ApiType → ApiType → List Mark
    → ResultState → ApiWord
api_word word form written stands operands result marks state =
    record {
      word = word;
      form = form;
      written = written;
      stands = stands;
      operands = operands;
      result = result;
      marks = marks;
      state = state;
    }

abbrev pub entry_view : Entry → ApiWord
entry_view e = api_word e.0.now e.1 e.2 e.3 e.4.now e.5 e.6.now e.7

-- all words of the API, in the order of the program's table
unfoldable pub api_words : List ApiWord
api_words = map (λ e. api_word e.0.now e.1 e.2 e.3 e.4.now e.5 e.6.now e.7) ROWS

-- A word as it is written: what stands in the code for it, where it may stand, and the types of its
-- operands and of its result.
pub record WordUse : Type 0 where
  pub form : CodeForm
  pub stands : Stands
  pub operands : List ApiType
  pub result : ApiType

abbrev pub use_of : ApiWord → WordUse
use_of e = record { form = e.form; stands = e.stands; operands = e.operands; result = e.result }

abbrev pub word_view : WordSignature → WordUse
word_view s =
    record { form = s.form; stands = s.stands; operands = s.operands.now; result = s.result }

-- a row that is called as a function, with the types of its operands and of its result
pub record RowCall : Type 0 where
  pub row : Row
  pub operands : List ApiType
  pub result : ApiType

abbrev pub signature_view : Signature → RowCall
signature_view s = record { row = s.row; operands = s.operands.now; result = s.result }

-- a number for each way to write a word
abbrev pub way_number : Written → ℕ
way_number written.Call = 0
way_number written.Operand = 1
way_number written.Statement = 2
way_number written.Assignment = 3
way_number written.Name = 4
way_number written.Address = 5

-- whether an entry has this word, written in this way
abbrev pub is_entry : Written → List ℕ → ApiWord → Bool
is_entry way name e = bytes_eq e.word name && nat_eq (way_number e.written) (way_number way)

-- the first entry of a word that is written in a way
abbrev pub found : Written → List ℕ → List ApiWord → Option WordUse
found way name [] = None
found way name (e ∷ all) = if is_entry way name e then Some (use_of e) else found way name all

-- what a word is where it is written in this way
unfoldable pub word_written : Written → List ℕ → Option WordUse
word_written way name = found way name api_words

-- whether an entry has this word
abbrev pub has_word : List ApiWord → List ℕ → Bool
has_word [] name = false
has_word (e ∷ all) name = if bytes_eq e.word name then true else has_word all name

-- whether a word is one of the API
unfoldable pub is_api_word : List ℕ → Bool
is_api_word name = has_word api_words name

abbrev pub run_as : CodeForm → WordUse → Option RowCall
run_as (form.Row row) u = Some (record { row = row; operands = u.operands; result = u.result })
run_as (form.Unbuilt row) u = None
run_as form.TextWithLength u = None
run_as form.RecordOf u = None
run_as form.NewRecord u = None
run_as form.Croak u = None
run_as form.Usage u = None
run_as form.Register u = None
run_as form.Operand u = None

-- a row of a word, where the machine runs it
abbrev pub row_of : WordUse → Option RowCall
row_of u = run_as u.form u

-- the row that is called as a function of this name, where the machine runs it
unfoldable pub row_named : List ℕ → Option RowCall
row_named name = option_and_then row_of (found written.Call name api_words)

-- ---- words that are operands

-- a word that stands as it is where an operand is of a type
pub record OperandWord : Type 0 where
  pub word : List ℕ
  pub of_type : ApiType

abbrev pub word_entry : Bor (List ℕ) × ApiType → OperandWord
word_entry w = record { word = w.0.now; of_type = w.1 }

abbrev pub operand_words : List OperandWord
operand_words = map (λ w. record { word = w.0.now; of_type = w.1 }) OPERAND_WORDS

-- a number for each type whose operand is a word, and 5 for another type
abbrev pub word_number : ApiType → ℕ
word_number api.StackPointer = 0
word_number api.Cv = 1
word_number api.ItemCount = 2
word_number api.Discard = 3
word_number api.AddGlob = 4
word_number _ = 5

-- whether an entry says that a word is an operand of a type
abbrev pub says : ApiType → List ℕ → OperandWord → Bool
says wanted name w = bytes_eq w.word name && nat_eq (word_number w.of_type) (word_number wanted)

abbrev pub one_says : ApiType → List ℕ → List OperandWord → Bool
one_says wanted name [] = false
one_says wanted name (w ∷ all) = if says wanted name w then true else one_says wanted name all

-- whether a word is just what an operand of a type has to be
unfoldable pub is_operand_word : ApiType → List ℕ → Bool
is_operand_word wanted name = one_says wanted name operand_words

-- ---- words that are no row

-- a word with what it means alone and where it may stand
pub record MeantWord : Type 0 where
  pub word : List ℕ
  pub meant : InterfaceWord

abbrev pub meant_word : List ℕ → Meaning → Stands → MeantWord
meant_word word meaning stands =
    record { word = word; meant = record { meaning = meaning; stands = stands } }

abbrev pub meant_view : Bor (List ℕ) × Meaning × Stands → MeantWord
meant_view w = meant_word w.0.now w.1 w.2

-- the words of the XS interface and of perl.h that are no row, in the order of the program's table
abbrev pub interface_words : List MeantWord
interface_words = map (λ w. meant_word w.0.now w.1 w.2) INTERFACE_WORDS

-- the first of these words that is a name
abbrev pub first_meant : List MeantWord → List ℕ → Option InterfaceWord
first_meant [] name = None
first_meant (w ∷ all) name = if bytes_eq w.word name then Some w.meant else first_meant all name

-- what a word means that is no row
unfoldable pub meaning_of : List ℕ → Option InterfaceWord
meaning_of name = first_meant interface_words name

-- whether the XS interface or the API gives a meaning to a word
unfoldable pub is_interface_word : List ℕ → Bool
is_interface_word word = is_api_word word || is_some (first_meant interface_words word)
