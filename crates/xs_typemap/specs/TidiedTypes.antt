-- Types as a typemap has them: tidied, and which texts are types.
use Rattle.std.specs.Prelude.{ℕ, ◌==◌, Bool, true, false, fold, if◌then◌else◌, List, [], ◌∷◌, ◌++◌}
use Rattle.xs_base.specs.Scanning.{begins_word, is_blank, is_word_byte}
use Rattle.xs_typemap.specs.declared.tidying.Tidying.{Tidying}
use Rattle.xs_typemap.specs.declared.tidying.Last.{Last}
use Rattle.xs_typemap.specs.declared.tidying.Last.TheVariants.{Nothing, Word, Gap, Stars}
use Rattle.xs_typemap.specs.declared.tidying.TypeByte.{TypeByte}
use Rattle.xs_typemap.specs.declared.tidying.TypeByte.TheVariants as due

-- blanks after a word are a gap; other blanks count for nothing
abbrev pub after_blank : Last → Last
after_blank Word = Gap
after_blank last = last

-- one space between a word and what stands after it
abbrev pub before_star : Last → List ℕ
before_star Nothing = []
before_star Word = 32 ∷ []
before_star Gap = 32 ∷ []
before_star Stars = []

abbrev pub before_letter : Last → List ℕ
before_letter Nothing = []
before_letter Word = []
before_letter Gap = 32 ∷ []
before_letter Stars = 32 ∷ []

-- a byte more of a type
abbrev pub tidy_step : Tidying → ℕ → Tidying
tidy_step s b =
    if is_blank b then record { text = s.text; last = after_blank s.last }
    else (if b == 42 then record { text = s.text ++ before_star s.last ++ b ∷ []; last = Stars }
    else record { text = s.text ++ before_letter s.last ++ b ∷ []; last = Word })

abbrev pub untidied : Tidying
untidied = record { text = []; last = Nothing }

-- A type, tidied: blanks become one space, a run of stars stands after one space, and no blank
-- stands at the ends. Stars with blanks alone between them are one run.
abbrev pub tidied : List ℕ → List ℕ
tidied text = (fold tidy_step untidied text).text

-- whether bytes are the rest of a tidied type, by the byte that has to come
abbrev pub is_rest_of_type : TypeByte → List ℕ → Bool
is_rest_of_type due.First [] = false
is_rest_of_type due.Further [] = true
is_rest_of_type due.Next [] = false
is_rest_of_type due.Star [] = true
is_rest_of_type due.First (b ∷ bs) = if begins_word b then is_rest_of_type due.Further bs else false
is_rest_of_type due.Further (b ∷ bs) = if is_word_byte b then is_rest_of_type due.Further bs
    else (if b == 32 then is_rest_of_type due.Next bs else false)
is_rest_of_type due.Next (b ∷ bs) = if begins_word b then is_rest_of_type due.Further bs
    else (if b == 42 then is_rest_of_type due.Star bs else false)
is_rest_of_type due.Star (b ∷ bs) = if b == 42 then is_rest_of_type due.Star bs else false

-- a tidied type is one or more identifiers, and maybe stars after them
abbrev pub is_type : List ℕ → Bool
is_type text = is_rest_of_type due.First text
