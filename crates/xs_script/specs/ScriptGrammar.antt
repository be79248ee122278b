-- The grammar of a line, by its rules, over the parts that the line is cut into.
use Rattle.std.specs.Prelude.{◌≡◌, ℕ, Bool, true, false, List, [], ◌∷◌}
use Rattle.std.specs.Str.{bytes_eq}
use Rattle.xs_script.specs.declared.line_part.Token.{Token}
use Rattle.xs_script.specs.declared.line_part.Token.TheVariants as token
use Rattle.xs_script.specs.declared.line_part.Mark.{Mark}
use Rattle.xs_script.specs.declared.line_part.Mark.TheVariants as mark
use Rattle.xs_script.specs.Form as f
use Rattle.xs_script.specs.Form.{Form, Forms, Pairs, Deed, Written}
use Rattle.xs_script.specs.declared.command_words.TheConstants.{ARG, CALL, DIE, DROP, ISA, MY, PUSH, RO, SET, SHOW, SUB, UNDEF}

-- From the first list of parts up to the second, which is a rest of it, the expression stands
-- there. The Bool is true where it stands in a sub.
mutual
  pub data Stands : Bool → Form → List Token → List Token → Type 0 where
    undef : {s : Bool} {ts : List Token} → Stands s f.Undef (token.Name UNDEF.now ∷ ts) ts
    number : {s : Bool} {n : List ℕ} {ts : List Token}
        → Stands s (f.Number n) (token.Number n ∷ ts) ts
    text : {s : Bool} {content : List ℕ} {ts : List Token}
        → Stands s (f.Text content) (token.Text content ∷ ts) ts
    variable : {n : List ℕ} {ts : List Token} → bytes_eq n UNDEF.now ≡ false
        → Stands false (f.Variable n) (token.Name n ∷ ts) ts
    reference : {n : List ℕ} {ts : List Token}
        → Stands false (f.Reference n) (token.Mark mark.Backslash ∷ token.Name n ∷ ts) ts
    argument : {k : List ℕ} {ts : List Token}
        → Stands true (f.Argument k) (token.Name ARG.now ∷ token.Number k ∷ ts) ts
    array : {s : Bool} {fs : Forms} {ts us : List Token}
        → Enclosed mark.OpenSquare mark.CloseSquare s fs ts us → Stands s (f.ListOf fs) ts us
    no_pairs : {s : Bool} {ts : List Token}
        → Stands s (f.HashOf f.NoPair) (token.Mark mark.OpenCurly ∷ token.Mark mark.CloseCurly
        ∷ ts) ts
    pairs : {s : Bool} {ps : Pairs} {ts us : List Token} → Entries s ps ts us
        → Stands s (f.HashOf ps) (token.Mark mark.OpenCurly ∷ ts) us

  -- expressions with commas between them, if there are any, with the marks around them
  pub data Enclosed : Mark → Mark → Bool → Forms → List Token → List Token → Type 0 where
    nothing_in : {opening closing : Mark} {s : Bool} {ts : List Token}
        → Enclosed opening closing s f.NoForm (token.Mark opening ∷ token.Mark closing ∷ ts) ts
    elements_in : {opening closing : Mark} {s : Bool} {fs : Forms} {ts us : List Token}
        → Elements closing s fs ts us → Enclosed opening closing s fs (token.Mark opening ∷ ts) us

  -- these expressions after the opening mark, up to after the closing one
  pub data Elements : Mark → Bool → Forms → List Token → List Token → Type 0 where
    last_element : {closing : Mark} {s : Bool} {e : Form} {ts us : List Token}
        → Stands s e ts (token.Mark closing ∷ us)
        → Elements closing s (f.MoreForms e f.NoForm) ts us
    more_elements : {closing : Mark} {s : Bool} {e : Form} {fs : Forms} {ts us vs : List Token}
        → Stands s e ts (token.Mark mark.Comma ∷ us) → Elements closing s fs us vs
        → Elements closing s (f.MoreForms e fs) ts vs

  -- the pairs of a hash after its opening bracket, up to after the closing one
  pub data Entries : Bool → Pairs → List Token → List Token → Type 0 where
    last_pair : {s : Bool} {k : List ℕ} {e : Form} {ts us : List Token}
        → Stands s e ts (token.Mark mark.CloseCurly ∷ us)
        → Entries s (f.MorePairs k e f.NoPair) (token.Text k ∷ token.Mark mark.Arrow ∷ ts) us
    more_pairs : {s : Bool} {k : List ℕ} {e : Form} {ps : Pairs} {ts us vs : List Token}
        → Stands s e ts (token.Mark mark.Comma ∷ us) → Entries s ps us vs
        → Entries s (f.MorePairs k e ps) (token.Text k ∷ token.Mark mark.Arrow ∷ ts) vs

-- the name of a sub, bare or in quotes
pub data NamesSub : List ℕ → Token → Type 0 where
  bare : {n : List ℕ} → NamesSub n (token.Name n)
  in_quotes : {n : List ℕ} → NamesSub n (token.Text n)

-- the arguments of a call, with their parentheses
abbrev pub Arguments : Bool → Forms → List Token → List Token → Type 0
Arguments s = Enclosed mark.OpenRound mark.CloseRound s

pub data Does : Deed → List Token → List Token → Type 0 where
  push : {e : Form} {ts us : List Token} → Stands true e ts us
      → Does (f.Push e) (token.Name PUSH.now ∷ ts) us
  set : {k : List ℕ} {e : Form} {ts us : List Token} → Stands true e ts us
      → Does (f.Set k e) (token.Name SET.now ∷ token.Name ARG.now ∷ token.Number k
      ∷ token.Mark mark.Equals ∷ ts) us
  call : {n : List ℕ} {t : Token} {es : Forms} {ts us : List Token} → NamesSub n t
      → Arguments true es ts us → Does (f.Call n es) (token.Name CALL.now ∷ t ∷ ts) us
  die : {content : List ℕ} {ts : List Token}
      → Does (f.Die content) (token.Name DIE.now ∷ token.Text content ∷ ts) ts

-- the actions of a sub, up to the end of the line
pub data AllDo : List Deed → List Token → Type 0 where
  last_deed : {d : Deed} {ts : List Token} → Does d ts [] → AllDo (d ∷ []) ts
  more_deeds : {d : Deed} {ds : List Deed} {ts us : List Token}
      → Does d ts (token.Mark mark.Semicolon ∷ us) → AllDo ds us → AllDo (d ∷ ds) ts

-- a command, as all of a line
pub data Command : Written → List Token → Type 0 where
  my : {n : List ℕ} {e : Form} {ts : List Token} → Stands false e ts []
      → Command (f.My n e) (token.Name MY.now ∷ token.Name n ∷ token.Mark mark.Equals ∷ ts)
  my_call : {n m : List ℕ} {t : Token} {es : Forms} {ts : List Token} → NamesSub m t
      → Arguments false es ts []
      → Command (f.MyCall n m es) (token.Name MY.now ∷ token.Name n ∷ token.Mark mark.Equals
      ∷ token.Name CALL.now ∷ t ∷ ts)
  ro : {n : List ℕ} → Command (f.Ro n) (token.Name RO.now ∷ token.Name n ∷ [])
  call_sub : {n : List ℕ} {t : Token} {es : Forms} {ts : List Token} → NamesSub n t
      → Arguments false es ts [] → Command (f.CallSub n es) (token.Name CALL.now ∷ t ∷ ts)
  show : {n : List ℕ} → Command (f.Show n) (token.Name SHOW.now ∷ token.Name n ∷ [])
  drop : {n : List ℕ} → Command (f.Drop n) (token.Name DROP.now ∷ token.Name n ∷ [])
  isa : {n m : List ℕ}
      → Command (f.Isa n m) (token.Name ISA.now ∷ token.Name n ∷ token.Name m ∷ [])
  sub : {n : List ℕ} {t : Token} {ds : List Deed} {ts : List Token} → NamesSub n t → AllDo ds ts
      → Command (f.Sub n ds) (token.Name SUB.now ∷ t ∷ token.Mark mark.Equals ∷ ts)
