-- How a parameter list is read, token by token (perlxs).
use Rattle.std.specs.Prelude.{ℕ, ◌+◌, Bool, true, false, ◌&&◌, ◌||◌, not, if◌then◌else◌, List, [], ◌∷◌, ◌++◌, codes, length, Option, Some, None, is_some}
use Rattle.xs_base.specs.declared.source.Line.{Line}
use Rattle.xs_ctok.specs.declared.token.Token.{Token}
use Rattle.xs_params.specs.ListTokens.{closed_by, direction_of, is_directive, is_no_init, is_same, is_sign, is_word, opened_by}
use Rattle.xs_params.specs.DefaultTexts.{preset_of}
use Rattle.xs_params.specs.declared.opens.Bracket.{Bracket}
use Rattle.xs_params.specs.declared.opens.Bracket.TheVariants as bracket
use Rattle.xs_params.specs.declared.param.Dir.{Dir}
use Rattle.xs_params.specs.declared.param.Dir.TheVariants as dir
use Rattle.xs_params.specs.declared.param.Param.{Param}
use Rattle.xs_params.specs.declared.param.Preset.{Preset}
use Rattle.xs_params.specs.declared.param.Preset.TheVariants as preset
use Rattle.xs_params.specs.declared.states.Due.{Due}
use Rattle.xs_params.specs.declared.states.Due.TheVariants as due
use Rattle.xs_params.specs.declared.states.Extent.{Extent}
use Rattle.xs_params.specs.declared.states.Head.{Head}
use Rattle.xs_params.specs.declared.states.Named.{Named}
use Rattle.xs_params.specs.declared.states.Pending.{Pending}
use Rattle.xs_params.specs.declared.states.Step.{Step}
use Rattle.xs_params.specs.declared.states.Step.TheVariants as step
use Rattle.xs_params.specs.declared.states.Typed.{Typed}

-- ---- what stands before a name

-- nothing but a direction, if one, with the first word after it on this line
abbrev pub bare_head : Option Dir → ℕ → Head
bare_head direction line = record { dir = direction; ctype = None; type_line = line }

abbrev pub named : Head → Bool → Token → Named
named head by_address t =
    record { head = head; name = t.text; line = t.span.line; by_address = by_address }

-- a word of a type, with one space before it where others stand before it
abbrev pub with_word : Option (List ℕ) → List ℕ → List ℕ
with_word None word = word
with_word (Some words) word = words ++ 32 ∷ word

-- the name was a word of the type
abbrev pub typed_of : Named → Typed
typed_of n =
    record {
      dir = n.head.dir;
      ctype = with_word n.head.ctype n.name;
      type_line = n.head.type_line;
    }

abbrev pub with_stars : List ℕ → Typed → Typed
with_stars stars typed = record typed { ctype = typed.ctype ++ stars }

abbrev pub head_of : Typed → Head
head_of typed =
    record { dir = typed.dir; ctype = Some typed.ctype; type_line = typed.type_line }

-- ---- parameters

-- the direction of a parameter, which is IN without a word
abbrev pub dir_or_in : Option Dir → Dir
dir_or_in None = dir.In
dir_or_in (Some direction) = direction

abbrev pub param_with : Option Preset → Bool → Named → Param
param_with default is_length n =
    record {
      name = n.name;
      ctype = n.head.ctype;
      dir = dir_or_in n.head.dir;
      default = default;
      is_length = is_length;
      by_address = n.by_address;
      line = n.line;
      type_line = n.head.type_line;
    }

-- a parameter without a default
abbrev pub param_of : Named → Param
param_of n = param_with None false n

-- `length(NAME)`
abbrev pub length_of : Named → Param
length_of n = param_with None true n

-- a parameter with a default, which stands as NO_INIT until it is read
abbrev pub defaulted : Named → Param
defaulted n = param_with (Some preset.NoInit) false n

-- A default belongs to IN and IN_OUT.
abbrev pub may_have_default : Dir → Bool
may_have_default dir.In = true
may_have_default dir.InOut = true
may_have_default _ = false

-- the word before a `(` is that of `length(NAME)`, which has no direction
abbrev pub is_length_word : Named → Bool
is_length_word n =
    is_same n.name (codes "length") && not n.by_address && not (is_some n.head.dir)

-- ---- the ends of a parameter

unfoldable pub after_param : Param → Token → Step
after_param p t =
    if is_sign (codes ",") t then step.Ended p
    else if is_sign (codes ")") t then step.Closed (Some p) false
    else step.Stray (Some p)

abbrev pub begun_default : Param → Step
begun_default p =
    if may_have_default p.dir
    then step.On (due.Default (record { param = p; opens = []; extent = None }))
    else step.Stray (Some p)

abbrev pub begun_length : Named → Step
begun_length n = if is_length_word n then step.On (due.LengthOpen n.head) else step.Stray None

-- after what is the name of a parameter
unfoldable pub after_name : Named → Token → Step
after_name n t =
    if is_sign (codes ",") t then step.Ended (param_of n)
    else if is_sign (codes ")") t then step.Closed (Some (param_of n)) false
    else if is_sign (codes "=") t then begun_default (defaulted n)
    else if is_sign (codes "(") t then begun_length n
    else step.Stray None

-- ---- the begin of a parameter

abbrev pub begun_by : Option Dir → Token → Due
begun_by None t = due.Words (named (bare_head None t.span.line) false t)
begun_by (Some direction) t =
    due.Direction direction (named (bare_head None t.span.line) false t)

unfoldable pub begun : Token → Step
begun t =
    if is_word t then step.On (begun_by (direction_of t.text) t)
    else if is_sign (codes "...") t then step.On due.Ellipsis
    else step.Stray None

unfoldable pub begun_first : Token → Step
begun_first t = if is_sign (codes ")") t then step.Closed None false else begun t

-- after a direction, which has this name where it is one
unfoldable pub after_direction : Dir → Named → Token → Step
after_direction direction n t =
    if is_word t then step.On (due.Words (named (bare_head (Some direction) t.span.line) false t))
    else after_name n t

abbrev pub one_more_word : Named → Token → Step
one_more_word n t = step.On (due.Words (named (head_of (typed_of n)) false t))

abbrev pub first_star : Named → Step
first_star n = step.On (due.Stars (with_stars (codes " *") (typed_of n)))

unfoldable pub after_words : Named → Token → Step
after_words n t =
    if is_word t then one_more_word n t
    else if is_sign (codes "*") t then first_star n
    else if is_sign (codes "&") t then step.On (due.Address (typed_of n))
    else after_name n t

unfoldable pub after_stars : Typed → Token → Step
after_stars typed t =
    if is_sign (codes "*") t then step.On (due.Stars (with_stars (codes "*") typed))
    else if is_sign (codes "&") t then step.On (due.Address typed)
    else if is_word t then step.On (due.Name (named (head_of typed) false t))
    else step.Stray None

unfoldable pub after_address : Typed → Token → Step
after_address typed t =
    if is_word t then step.On (due.Name (named (head_of typed) true t)) else step.Stray None

unfoldable pub in_length : Head → Token → Step
in_length head t =
    if is_word t then step.On (due.LengthName (named head false t)) else step.Stray None

unfoldable pub after_length_name : Named → Token → Step
after_length_name n t =
    if is_sign (codes ")") t then step.On (due.Length (length_of n)) else step.Stray None

-- ---- defaults

abbrev pub are_none : List Bracket → Bool
are_none [] = true
are_none (b ∷ bs) = false

-- one token more
abbrev pub extended : Option Extent → Token → Extent
extended None t =
    record {
      from = t.span;
      to_line = t.span.line;
      to_col = t.span.col + length t.text;
      no_init = is_no_init t;
    }
extended (Some x) t =
    record {
      from = x.from;
      to_line = t.span.line;
      to_col = t.span.col + length t.text;
      no_init = false;
    }

-- a token of the default, after which these brackets are open
abbrev pub default_on : Pending → List Bracket → Token → Step
default_on d opens t =
    step.On (due.Default (record {
      param = d.param;
      opens = opens;
      extent = Some (extended d.extent t);
    }))

abbrev pub same_bracket : Bracket → Bracket → Bool
same_bracket bracket.Round bracket.Round = true
same_bracket bracket.Square bracket.Square = true
same_bracket bracket.Curly bracket.Curly = true
same_bracket _ _ = false

abbrev pub closed_in : Pending → List Bracket → Bracket → Token → Step
closed_in d [] b t = step.Stray (Some d.param)
closed_in d (inner ∷ outer) b t =
    if same_bracket inner b then default_on d outer t else step.Stray (Some d.param)

abbrev pub by_brackets : Pending → Option Bracket → Option Bracket → Token → Step
by_brackets d (Some b) _ t = default_on d (b ∷ d.opens) t
by_brackets d None (Some b) t = closed_in d d.opens b t
by_brackets d None None t = default_on d d.opens t

-- a token of the default, or one that has no reading there
unfoldable pub default_token : Pending → Token → Step
default_token d t =
    if is_directive t then step.Stray (Some d.param)
    else by_brackets d (opened_by t) (closed_by t) t

abbrev pub with_default : List Line → Param → Extent → Param
with_default src p x = record p { default = Some (preset_of src x) }

-- The default ends, and may not be empty.
abbrev pub default_ended : List Line → Pending → Option Extent → Token → Step
default_ended src d None t = step.Stray (Some d.param)
default_ended src d (Some x) t =
    after_param (with_default src d.param x) t

abbrev pub ends_default : Pending → Token → Bool
ends_default d t = are_none d.opens && (is_sign (codes ",") t || is_sign (codes ")") t)

unfoldable pub in_default : List Line → Pending → Token → Step
in_default src d t =
    if ends_default d t then default_ended src d d.extent t else default_token d t

-- ---- a step

unfoldable pub after_ellipsis : Token → Step
after_ellipsis t = if is_sign (codes ")") t then step.Closed None true else step.Stray None

-- What the next token does.
unfoldable pub step_of : List Line → Due → Token → Step
step_of src due.First t = begun_first t
step_of src due.Next t = begun t
step_of src (due.Direction direction n) t = after_direction direction n t
step_of src (due.Words n) t = after_words n t
step_of src (due.Stars typed) t = after_stars typed t
step_of src (due.Address typed) t = after_address typed t
step_of src (due.Name n) t = after_name n t
step_of src (due.LengthOpen head) t = in_length head t
step_of src (due.LengthName n) t = after_length_name n t
step_of src (due.Length p) t = after_param p t
step_of src (due.Default d) t = in_default src d t
step_of src due.Ellipsis t = after_ellipsis t
