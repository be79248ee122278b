-- What is read as a command stands there by the grammar.
use Rattle.std.proofs.Common.{◌≡◌, ℕ, zero, suc, Bool, true, false, List, [], ◌∷◌, ◌++◌, refl, ap, sym, ◌∙◌, subst, if◌then◌else◌, Ok}
use Rattle.std.specs.Prelude.{codes}
use Rattle.std.proofs.lemmas.Bool.{and_parts}
use Rattle.xs_script.specs.declared.line_part.Token.{Token}
use Rattle.xs_script.specs.declared.line_part.Token.TheVariants as token
use Rattle.xs_script.specs.declared.line_part.Mark.{Mark}
use Rattle.xs_script.specs.declared.line_part.Mark.TheVariants as mark
use Rattle.xs_script.specs.declared.line_part.Kind.TheVariants as kind
use Rattle.xs_script.specs.CommandTree as p
use Rattle.xs_script.specs.CommandTree.{Expr, Act, CommandView}
use Rattle.xs_script.specs.Form as f
use Rattle.xs_script.specs.Form.{Form, Forms, Deed, Written}
use Rattle.xs_script.specs.ScriptGrammar as g
use Rattle.xs_script.specs.ScriptGrammar.{Stands, Elements, NamesSub, Arguments, Does, AllDo, Command}
use Rattle.xs_base.proofs.ReaderSteps.{same_outcome, bind_ok, map_ok}
use Rattle.xs_base.specs.Readers.{tail, pure, ◌>>=◌, ◌>>◌, ◌<$>◌}
use Rattle.xs_script.specs.PartInput.{Input, Reader, kind_at, sees, sees_word, next, kind_of, left, after, after_word, expect, sub_name, ended, eat, eat_word, part, names_sub}
use Rattle.xs_script.specs.Rules.{listed, arguments_from, some_arguments, arguments, called, call, set_action, action, actions_from, actions, sees_call, my_command, isa_command, sub_command, variable_command, by_word, at_end, command}
use Rattle.xs_script.specs.Value.{value, variable, argument}
use Rattle.xs_script.proofs.PartsSound.{sees_sound, word_sound, expect_sound, name_sound, text_sound, sub_sound, argument_sound, variable_sound, rest_of, same_parts, scope_after}
use Rattle.xs_script.proofs.ValuesSound.{value_sound}
use Rattle.xs_script.specs.declared.command_words.TheConstants.{ARG, CALL, DIE, DROP, ISA, MY, PUSH, RO, SET, SHOW, SUB}

abbrev word : List ℕ → Token
word w = token.Name w

-- a choice by the word that comes next
by_next : {A : Type 0} (w : List ℕ) (here other : Reader A) (i : Input) (r : A × Input) (P : Type 0)
    → (i.rest ≡ word w ∷ tail i.rest → here (next i) ≡ Ok r → P) → (other i ≡ Ok r → P)
    → (eat_word w >>= λ found. if found then here else other) i ≡ Ok r → P
unfolding after_word
by_next w here other i r P first more h = by_test (sees_word w i) refl h
  where
    by_test : (b : Bool) → sees_word w i ≡ b → (if b then here else other) (if b then next i else i) ≡ Ok r → P
    by_test true e h = first (word_sound w i e) h
    by_test false e h = more h

-- ---- arguments

-- What is read as a list stands there, where each of its parts does.
listed_sound : {A : Type 0} (one : Reader A) (between : Mark) (end : Reader (Unit {0})) (One All : List Token → List Token → Type 0)
    → ((i j : Input) (a : A) → one i ≡ Ok (a, j) → One i.rest j.rest)
    → ((ts us vs : List Token) → One ts (token.Mark between ∷ us) → All us vs → All ts vs)
    → ((ts : List Token) (k j : Input) (u : Unit {0}) → One ts k.rest → end k ≡ Ok (u, j) → All ts j.rest)
    → (n : ℕ) (all read : List A) (i j : Input) → listed one between end n all i ≡ Ok (read, j) → All i.rest j.rest
unfolding listed after next
listed_sound one between end One All stands more last zero all read i j h = absurd cc
listed_sound {A} one between end One All stands more last (suc n) all read i j h =
    let q = bind_ok (one i) (λ a. eat between >>= λ is_more. if is_more then listed one between end n (all ++ a ∷ []) else (end >> pure (all ++ a ∷ [])))
    (read, j) h in
    by_more q.0 q.1 (stands i q.1 q.0 q.2) (listed_sound one between end One All stands more last n (all ++ q.0 ∷ []) read (next q.1) j)
    (sees between q.1) refl q.3
  where
    by_more : (a : A) (k : Input) → One i.rest k.rest → (listed one between end n (all ++ a ∷ []) (next k) ≡ Ok (read, j) → All (next k).rest j.rest)
        → (b : Bool) → sees between k ≡ b → (if b then listed one between end n (all ++ a ∷ []) else (end >> pure (all ++ a ∷ []))) (if b then next k else k)
        ≡ Ok (read, j) → All i.rest j.rest
    by_more a k x again true c h = more i.rest (next k).rest j.rest (subst (λ (l : List Token). One i.rest l) (sees_sound between k c) x) (again h)
    by_more a k x again false c h =
        let u = bind_ok (end k) (λ _. pure (all ++ a ∷ [])) (read, j) h in
        let o = same_outcome (all ++ a ∷ []) read u.1 j u.3 in
        subst (λ (l : Input). All i.rest l.rest) o.1 (last i.rest k u.1 u.0 x u.2)

some_sound : (s : Bool) (n : ℕ) (all es' : List Expr) (i j : Input) → arguments_from s n all i ≡ Ok (es', j)
    → (es : Forms) × Elements mark.CloseRound s es i.rest j.rest
some_sound s = listed_sound (value s) mark.Comma (expect mark.CloseRound) (λ ts us. (e : Form) × Stands s e ts us) (λ ts us. (es : Forms)
    × Elements mark.CloseRound s es ts us)
    (λ i j v h. value_sound s i j v h)
    (λ ts us vs x w. (f.MoreForms x.0 w.0, g.more_elements x.1 w.1))
    (λ ts k j u x h. (f.MoreForms x.0 f.NoForm, g.last_element (subst (λ (l : List Token). Stands s x.0 ts l) (expect_sound mark.CloseRound k j u h) x.1)))

arguments_sound : (s : Bool) (i j : Input) (es' : List Expr) → arguments s i ≡ Ok (es', j) → (es : Forms) × Arguments s es i.rest j.rest
unfolding arguments some_arguments after next
arguments_sound s i j es' h =
    let q = bind_ok (expect mark.OpenRound i) (λ _. eat mark.CloseRound >>= λ is_empty. if is_empty then pure [] else some_arguments s) (es', j) h in
    by_empty q.1 (expect_sound mark.OpenRound i q.1 q.0 q.2) (sees mark.CloseRound q.1) refl q.3
  where
    by_empty : (k : Input) → i.rest ≡ token.Mark mark.OpenRound ∷ k.rest → (b : Bool) → sees mark.CloseRound k ≡ b
        → (if b then pure [] else some_arguments s) (if b then next k else k) ≡ Ok (es', j)
        → (es : Forms) × Arguments s es i.rest j.rest
    by_empty k first true c h =
        let o = same_outcome [] es' (next k) j h in
        let two = first
        ∙ ap (λ (l : List Token). token.Mark mark.OpenRound ∷ l) (scope_after (token.Mark mark.CloseRound) k.rest j.rest (sees_sound mark.CloseRound k c)
        (rest_of (next k) j o.1)) in (
          f.NoForm,
          same_parts (λ (l : List Token). Arguments s f.NoForm l j.rest) i.rest (token.Mark mark.OpenRound ∷ token.Mark mark.CloseRound
              ∷ j.rest) two g.nothing_in,
        )
    by_empty k first false c h =
        let w = some_sound s (left k) [] es' k j h in
        (w.0, same_parts (λ (l : List Token). Arguments s w.0 l j.rest) i.rest (token.Mark mark.OpenRound ∷ k.rest) first (g.elements_in w.1))

-- the name of a sub stands at the front, and its arguments after it
abbrev Calling : Bool → List ℕ → Input → Input → Type 0
Calling s n i j = (t : Token) × (k : Input) × (es : Forms) × NamesSub n t × (i.rest ≡ t ∷ k.rest) × Arguments s es k.rest j.rest

call_sound : (s : Bool) (i j : Input) (c : List ℕ × List Expr) → call s i ≡ Ok (c, j) → Calling s c.0 i j
unfolding call
call_sound s i j c h =
    let q = bind_ok (sub_name i) (λ sub. called sub <$> arguments s) (c, j) h in
    let v = map_ok (called q.0) (arguments s q.1) c j q.3 in
    let t = sub_sound i q.1 q.0 q.2 in
    let x = arguments_sound s q.1 j v.0 v.1 in
    (t.0, q.1, x.0, subst (λ (d : List ℕ × List Expr). NamesSub d.0 t.0) (sym v.2) t.1, t.2, x.1)

-- ---- actions

abbrev Doing : Input → Input → Type 0
Doing i j = (d : Deed) × Does d i.rest j.rest

set_sound : (i j : Input) (a : Act) → i.rest ≡ word SET.now ∷ tail i.rest → set_action (next i) ≡ Ok (a, j) → Doing i j
unfolding set_action next
set_sound i j a first h =
    let q = bind_ok (argument (next i)) (λ k. expect mark.Equals >> (p.Set k <$> value true)) (a, j) h in
    let u = bind_ok (expect mark.Equals q.1) (λ _. p.Set q.0 <$> value true) (a, j) q.3 in
    let v = map_ok (p.Set q.0) (value true u.1) a j u.3 in
    let k = argument_sound (next i) q.1 q.0 q.2 in
    let x = value_sound true u.1 j v.0 v.1 in
    let whole = first
    ∙ ap (λ (l : List Token). word SET.now ∷ l) (k.1
    ∙ ap (λ (l : List Token). word ARG.now ∷ token.Number k.0 ∷ l) (expect_sound mark.Equals q.1 u.1 u.0 u.2)) in (
      f.Set k.0 x.0,
      same_parts (λ (l : List Token). Does (f.Set k.0 x.0) l j.rest) i.rest (word SET.now ∷ word ARG.now ∷ token.Number k.0
          ∷ token.Mark mark.Equals ∷ u.1.rest) whole (g.set {k = k.0} {e = x.0} x.1),
    )

push_sound : (i j : Input) (a : Act) → i.rest ≡ word PUSH.now ∷ tail i.rest → (p.Push <$> value true) (next i) ≡ Ok (a, j) → Doing i j
unfolding next
push_sound i j a first h =
    let v = map_ok p.Push (value true (next i)) a j h in
    let x = value_sound true (next i) j v.0 v.1 in
    (f.Push x.0, same_parts (λ (l : List Token). Does (f.Push x.0) l j.rest) i.rest (word PUSH.now ∷ tail i.rest) first (g.push x.1))

call_action_sound : (i j : Input) (a : Act) → i.rest ≡ word CALL.now ∷ tail i.rest → ((λ (d : List ℕ × List Expr). p.Call d.0 d.1) <$> call true) (next i)
    ≡ Ok (a, j) → Doing i j
unfolding next
call_action_sound i j a first h =
    let v = map_ok (λ (d : List ℕ × List Expr). p.Call d.0 d.1) (call true (next i)) a j h in
    let x = call_sound true (next i) j v.0 v.1 in
    let whole = first ∙ ap (λ (l : List Token). word CALL.now ∷ l) x.4 in (
      f.Call v.0.0 x.2,
      same_parts (λ (l : List Token). Does (f.Call v.0.0 x.2) l j.rest) i.rest (word CALL.now ∷ x.0 ∷ x.1.rest) whole
          (g.call {n = v.0.0} {es = x.2} x.3 x.5),
    )

die_sound : (i j : Input) (a : Act) → i.rest ≡ word DIE.now ∷ tail i.rest → (p.Die <$> part kind.Text) (next i) ≡ Ok (a, j) → Doing i j
unfolding next
die_sound i j a first h =
    let v = map_ok p.Die (part kind.Text (next i)) a j h in
    let whole = first ∙ ap (λ (l : List Token). word DIE.now ∷ l) (text_sound (next i) j v.0 v.1) in
    (f.Die v.0, same_parts (λ (l : List Token). Does (f.Die v.0) l j.rest) i.rest (word DIE.now ∷ token.Text v.0 ∷ j.rest) whole g.die)

action_sound : (i j : Input) (a : Act) → action i ≡ Ok (a, j) → Doing i j
unfolding action
action_sound i j a h =
    by_next PUSH.now _ _ i (a, j) (Doing i j) (λ first h. push_sound i j a first h) (
    by_next SET.now _ _ i (a, j) (Doing i j) (λ first h. set_sound i j a first h) (
    by_next CALL.now _ _ i (a, j) (Doing i j) (λ first h. call_action_sound i j a first h) (
    by_next DIE.now _ _ i (a, j) (Doing i j) (λ first h. die_sound i j a first h) (λ h. absurd cc)))) h

actions_sound : (n : ℕ) (all as' : List Act) (i j : Input) → actions_from n all i ≡ Ok (as', j) → j.rest ≡ [] → (ds : List Deed) × AllDo ds i.rest
actions_sound = listed_sound action mark.Semicolon (pure tt) (λ ts us. (d : Deed) × Does d ts us) (λ ts us. us ≡ [] → (ds : List Deed) × AllDo ds ts)
    (λ i j a h. action_sound i j a h)
    (λ ts us vs x w end. let all = w end in (x.0 ∷ all.0, g.more_deeds x.1 all.1))
    (λ ts k j u x h end. (x.0 ∷ [], g.last_deed (subst (λ (l : List Token). Does x.0 ts l) (rest_of k j (same_outcome tt u k j h).1 ∙ end) x.1)))

-- ---- commands

abbrev Commanding : Input → Type 0
Commanding i = (c : Written) × Command c i.rest

my_sound : (line : ℕ) (i j : Input) (c : CommandView) → i.rest ≡ word MY.now ∷ tail i.rest → my_command line (next i) ≡ Ok (c, j) → j.rest ≡ []
    → Commanding i
unfolding my_command next sees_call after_word
my_sound line i j c first h end =
    let q = bind_ok (part kind.Name (next i))
    (λ n. expect mark.Equals >>
    ((λ input. pure (sees_call input) input)
    >>= λ is_call. if is_call then (eat_word CALL.now >> ((λ (d : List ℕ × List Expr). p.MyCall line n d.0 d.1) <$> call false))
    else p.My line n <$> value false)) (c, j) h in
    let u = bind_ok (expect mark.Equals q.1) (λ _. (λ input. pure (sees_call input) input)
    >>= λ is_call. if is_call then (eat_word CALL.now >> ((λ (d : List ℕ × List Expr). p.MyCall line q.0 d.0 d.1) <$> call false))
    else p.My line q.0 <$> value false) (c, j) q.3 in
    let three = first ∙ ap (λ (l : List Token). word MY.now ∷ l) (name_sound (next i) q.1 q.0 q.2
    ∙ ap (λ (l : List Token). word q.0 ∷ l) (expect_sound mark.Equals q.1 u.1 u.0 u.2)) in
    by_call q.0 u.1 three (sees_call u.1) refl u.3
  where
    by_call : (n : List ℕ) (k : Input) → i.rest ≡ word MY.now ∷ word n ∷ token.Mark mark.Equals ∷ k.rest → (b : Bool) → sees_call k ≡ b
        → (if b then (eat_word CALL.now >> ((λ (d : List ℕ × List Expr). p.MyCall line n d.0 d.1) <$> call false)) else p.My line n <$> value false) k
        ≡ Ok (c, j) → Commanding i
    by_call n k three true e h =
        let seen = (and_parts (sees_word CALL.now k) (names_sub (kind_of (next k))) e).0 in
        let w = word_sound CALL.now k seen in
        let h' : ((λ (d : List ℕ × List Expr). p.MyCall line n d.0 d.1) <$> call false) (next k) ≡ Ok (c, j) = rw seen at h in
        let v = map_ok (λ (d : List ℕ × List Expr). p.MyCall line n d.0 d.1) (call false (next k)) c j h' in
        let x = call_sound false (next k) j v.0 v.1 in
        let five = three ∙ ap (λ (l : List Token). word MY.now ∷ word n ∷ token.Mark mark.Equals ∷ l) (w
        ∙ ap (λ (l : List Token). word CALL.now ∷ l) x.4) in (
          f.MyCall n v.0.0 x.2,
          same_parts (Command (f.MyCall n v.0.0 x.2)) i.rest (word MY.now ∷ word n ∷ token.Mark mark.Equals ∷ word CALL.now
              ∷ x.0 ∷ x.1.rest) five (g.my_call {n = n} {m = v.0.0} {es = x.2} x.3 (subst (λ (l : List Token). Arguments false x.2 x.1.rest l) end x.5)),
        )
    by_call n k three false e h =
        let v = map_ok (p.My line n) (value false k) c j h in
        let x = value_sound false k j v.0 v.1 in (
          f.My n x.0,
          same_parts (Command (f.My n x.0)) i.rest (word MY.now ∷ word n ∷ token.Mark mark.Equals ∷ k.rest) three
              (g.my (subst (λ (l : List Token). Stands false x.0 k.rest l) end x.1)),
        )

call_command_sound : (line : ℕ) (i j : Input) (c : CommandView) → i.rest ≡ word CALL.now ∷ tail i.rest
    → ((λ (d : List ℕ × List Expr). p.CallSub line d.0 d.1) <$> call false) (next i) ≡ Ok (c, j) → j.rest ≡ [] → Commanding i
unfolding next
call_command_sound line i j c first h end =
    let v = map_ok (λ (d : List ℕ × List Expr). p.CallSub line d.0 d.1) (call false (next i)) c j h in
    let x = call_sound false (next i) j v.0 v.1 in (
      f.CallSub v.0.0 x.2,
      same_parts (Command (f.CallSub v.0.0 x.2)) i.rest (word CALL.now ∷ x.0 ∷ x.1.rest) (first
          ∙ ap (λ (l : List Token). word CALL.now ∷ l) x.4)
          (g.call_sub {n = v.0.0} {es = x.2} x.3 (subst (λ (l : List Token). Arguments false x.2 x.1.rest l) end x.5)),
    )

isa_sound : (line : ℕ) (i j : Input) (c : CommandView) → i.rest ≡ word ISA.now ∷ tail i.rest → isa_command line (next i) ≡ Ok (c, j) → j.rest ≡ []
    → Commanding i
unfolding isa_command next
isa_sound line i j c first h end =
    let q = bind_ok (part kind.Name (next i)) (λ class. part kind.Name >>= λ parent. pure (p.Isa line class parent)) (c, j) h in
    let u = bind_ok (part kind.Name q.1) (λ parent. pure (p.Isa line q.0 parent)) (c, j) q.3 in
    let o = same_outcome (p.Isa line q.0 u.0) c u.1 j u.3 in
    let whole = first ∙ ap (λ (l : List Token). word ISA.now ∷ l) (name_sound (next i) q.1 q.0 q.2
    ∙ ap (λ (l : List Token). word q.0 ∷ l) (name_sound q.1 u.1 u.0 u.2 ∙ ap (λ (l : List Token). word u.0 ∷ l) (rest_of u.1 j o.1 ∙ end))) in
    (f.Isa q.0 u.0, same_parts (Command (f.Isa q.0 u.0)) i.rest (word ISA.now ∷ word q.0 ∷ word u.0 ∷ []) whole g.isa)

sub_command_sound : (line : ℕ) (i j : Input) (c : CommandView) → i.rest ≡ word SUB.now ∷ tail i.rest → sub_command line (next i) ≡ Ok (c, j) → j.rest ≡ []
    → Commanding i
unfolding sub_command actions next
sub_command_sound line i j c first h end =
    let q = bind_ok (sub_name (next i)) (λ sub. expect mark.Equals >> (p.Sub line sub <$> actions)) (c, j) h in
    let u = bind_ok (expect mark.Equals q.1) (λ _. p.Sub line q.0 <$> actions) (c, j) q.3 in
    let v = map_ok (p.Sub line q.0) (actions u.1) c j u.3 in
    let t = sub_sound (next i) q.1 q.0 q.2 in
    let x = actions_sound (left u.1) [] v.0 u.1 j v.1 end in
    let whole = first ∙ ap (λ (l : List Token). word SUB.now ∷ l) (t.2 ∙ ap (λ (l : List Token). t.0 ∷ l) (expect_sound mark.Equals q.1 u.1 u.0 u.2)) in (
      f.Sub q.0 x.0,
      same_parts (Command (f.Sub q.0 x.0)) i.rest (word SUB.now ∷ t.0 ∷ token.Mark mark.Equals ∷ u.1.rest) whole
          (g.sub {n = q.0} {ds = x.0} t.1 x.1),
    )

-- a word and a variable are all of the line
two_parts : (w n : List ℕ) (i j : Input) → i.rest ≡ word w ∷ tail i.rest → variable (next i) ≡ Ok (n, j) → j.rest ≡ [] → i.rest ≡ word w ∷ word n ∷ []
unfolding next
two_parts w n i j first h end = first ∙ ap (λ (l : List Token). word w ∷ l) (variable_sound (next i) j n h ∙ ap (λ (l : List Token). word n ∷ l) end)

-- a command of this word and a variable
one_variable : (w : List ℕ) (command_view : List ℕ → CommandView) (written : List ℕ → Written) → ((n : List ℕ) → Command (written n) (word w ∷ word n ∷ []))
    → (i j : Input) (c : CommandView)
    → i.rest ≡ word w ∷ tail i.rest → (command_view <$> variable) (next i) ≡ Ok (c, j) → j.rest ≡ [] → Commanding i
one_variable w command_view written stands i j c first h end =
    let v = map_ok command_view (variable (next i)) c j h in
    (written v.0, same_parts (Command (written v.0)) i.rest (word w ∷ word v.0 ∷ []) (two_parts w v.0 i j first v.1 end) (stands v.0))

variable_command_sound : (line : ℕ) (i j : Input) (c : CommandView) → variable_command line i ≡ Ok (c, j) → j.rest ≡ [] → Commanding i
unfolding variable_command
variable_command_sound line i j c h end =
    by_next RO.now _ _ i (c, j) (Commanding i) (λ first h. one_variable RO.now (p.Ro line) f.Ro (λ n. g.ro) i j c first h end) (
    by_next SHOW.now _ _ i (c, j) (Commanding i) (λ first h. one_variable SHOW.now (p.Show line) f.Show (λ n. g.show) i j c first h end) (
    by_next DROP.now _ _ i (c, j) (Commanding i) (λ first h. one_variable DROP.now (p.Drop line) f.Drop (λ n. g.drop) i j c first h end)
    (λ h. absurd cc))) h

by_word_sound : (line : ℕ) (i j : Input) (c : CommandView) → by_word line i ≡ Ok (c, j) → j.rest ≡ [] → Commanding i
unfolding by_word
by_word_sound line i j c h end =
    by_next MY.now _ _ i (c, j) (Commanding i) (λ first h. my_sound line i j c first h end) (
    by_next CALL.now _ _ i (c, j) (Commanding i) (λ first h. call_command_sound line i j c first h end) (
    by_next ISA.now _ _ i (c, j) (Commanding i) (λ first h. isa_sound line i j c first h end) (
    by_next SUB.now _ _ i (c, j) (Commanding i) (λ first h. sub_command_sound line i j c first h end) (λ h. variable_command_sound line i j c h end)))) h

ended_sound : (i : Input) (u : Unit {0}) (j : Input) (ts : List Token) → ended (kind_at ts) i ≡ Ok (u, j) → (ts ≡ []) × (i ≡ j)
ended_sound i u j [] h = (refl, (same_outcome tt u i j h).1)
ended_sound i u j (token.Name n ∷ ts) h = absurd cc
ended_sound i u j (token.Number n ∷ ts) h = absurd cc
ended_sound i u j (token.Text n ∷ ts) h = absurd cc
ended_sound i u j (token.Mark n ∷ ts) h = absurd cc

-- a command that is read stands there, as all of the line
pub command_sound : (line : ℕ) (i j : Input) (c : CommandView) → command line i ≡ Ok (c, j) → Commanding i
unfolding command at_end kind_of
command_sound line i j c h =
    let q = bind_ok (by_word line i) (λ command_view. at_end >> pure command_view) (c, j) h in
    let u = bind_ok (at_end q.1) (λ _. pure q.0) (c, j) q.3 in
    let e = ended_sound q.1 u.0 u.1 q.1.rest u.2 in
    by_word_sound line i q.1 q.0 q.2 e.0
