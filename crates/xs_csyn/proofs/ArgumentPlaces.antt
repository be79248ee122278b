-- Where tokens are not read as the arguments of a call, the fault is at one token: those before it begin some, and none that are read go on with it.
use Rattle.xs_csyn.proofs.AnyDepth.{IsRead, carry, is_read}
use Rattle.std.proofs.Common.{◌≡◌, inr, ℕ, zero, suc, ◌-◌, ◌<◌, ◌≤◌, Bool, true, false, if◌then◌else◌, List, [], ◌∷◌, ◌++◌, length, Result, Ok, Err, refl, ap, sym, ◌∙◌, arith, ◌⊎◌, ◌+◌}
use Rattle.std.specs.Prelude.{codes}
use Rattle.xs_base.specs.Readers.{◌>>=◌, and_then, pure}
use Rattle.xs_base.specs.declared.fault.Fault.{Fault}
use Rattle.xs_base.specs.declared.fault_codes.TheConstants.{NO_READING_HERE}
use Rattle.xs_ctok.specs.declared.token.Token.{Token}
use Rattle.xs_csyn.proofs.Breaks.{Viable, alike_all, less_of, onward, same_fault, step_below}
use Rattle.xs_csyn.proofs.TokenBreaks.{by_eat_then}
use Rattle.xs_csyn.proofs.ExpressionPlaces.{NamedRun, ended, ends, stands_from}
use Rattle.xs_csyn.proofs.ExpressionsBegin.{expr_begins}
use Rattle.xs_csyn.proofs.ExpressionsLocal.{expr_local}
use Rattle.xs_csyn.proofs.ExpressionsSound.{expr_yields}
use Rattle.xs_csyn.proofs.FilesComplete.{arguments_done, kept_shrinks}
use Rattle.xs_csyn.proofs.Frames.{whole_frame}
use Rattle.xs_csyn.proofs.HoleHeights.{stood_low}
use Rattle.xs_csyn.proofs.Local.{Good, any, turned}
use Rattle.xs_csyn.proofs.Marks.{variable_name}
use Rattle.xs_csyn.proofs.MoreTurns.{args_same}
use Rattle.xs_csyn.proofs.Sizes.{whole_shrinks}
use Rattle.xs_csyn.proofs.Starts.{the_end}
use Rattle.xs_cexpr.specs.ExpressionReader.{Found, expr}
use Rattle.xs_cexpr.specs.ExpressionTree.{ExprTree, exprs_of}
use Rattle.xs_csyn.specs.FaultPlaces.{AreArguments, AreArgumentsBut, AreArgumentsWithin, ArgumentsFaultLaw, SameNext}
use Rattle.xs_csyn.specs.FileReader.{args_from, args_of, some_args, start, whole_of}
use Rattle.xs_csyn.specs.Grammar.{IsVariable}
use Rattle.xs_csyn.specs.Prefixes.{heights_but}
use Rattle.xs_cexpr.specs.ExpressionHeights.{heights}
use Rattle.xs_csyn.specs.StatementGrammar as g
use Rattle.xs_csyn.specs.StatementGrammar.{AllArguments, ArgumentList}
use Rattle.xs_cstmt.specs.StatementReader.{max_nesting}
use Rattle.xs_cinput.specs.TokenInput.{Input, Outcome, Reader, after, at_end, eat, fault, is_empty, kept, refuse, sees}
use Rattle.xs_cexpr.specs.declared.node.Level.TheVariants as level

-- all that is left as arguments
abbrev all_args : ℕ → List ExprTree → ℕ → Reader (List ExprTree)
all_args room sofar k = λ i. and_then (args_from room k sofar i) ended

-- one argument and those after it
abbrev args_then : ℕ → List ExprTree → ℕ → Reader (List ExprTree)
args_then room sofar k = expr room level.Whole >>= λ one. eat (codes ",") >>= λ more.
    if more then all_args room (sofar ++ one.tree ∷ []) k else ended (sofar ++ one.tree ∷ [])

args_step : (room k : ℕ) (sofar : List ExprTree) (i : Input) → all_args room sofar (suc k) i ≡ args_then room sofar k i
unfolding args_from
args_step room k sofar i = by (expr room level.Whole i)
  where
    ways : (one : Found) (c : Bool) (j : Input)
        → and_then ((if c then args_from room k (sofar ++ one.tree ∷ []) else pure (sofar ++ one.tree ∷ [])) j) ended
        ≡ (if c then all_args room (sofar ++ one.tree ∷ []) k else ended (sofar ++ one.tree ∷ [])) j
    ways one true j = refl
    ways one false j = refl

    by : (r : Outcome Found)
        → and_then (and_then r (λ one. eat (codes ",") >>= λ more. if more then args_from room k (sofar ++ one.tree ∷ []) else pure
        (sofar ++ one.tree ∷ []))) ended
        ≡ and_then r (λ one. eat (codes ",") >>= λ more. if more then all_args room (sofar ++ one.tree ∷ []) k else ended (sofar ++ one.tree ∷ []))
    by (Ok p) = ways p.0 (sees (codes ",") p.1) (after (codes ",") p.1)
    by (Err e) = refl

module _ (Text : ℕ → List Token → Type 0) (b : Input) (x : Token) (v : IsVariable b.types x) (room : ℕ) where
  args_begin : (n : ℕ) (sofar : List ExprTree) (d : List Token → List Token)
      → ((over : ℕ) (all : List ExprTree) (ws : List Token) → ArgumentList b.types all ws [] → heights_but x.text (exprs_of all) ≤ room + over
      → Text over (d ws))
      → (ts : List Token) → length ts < n → Viable any x room Text b d (λ k. all_args room sofar k) ts
  args_begin zero sofar d fin ts len = absurd (omega (arith, len))
  args_begin (suc n) sofar d fin ts len =
      alike_all {p = λ k. args_then room sofar k} (step_below (expr_local b room level.Whole ts) (expr_yields b room level.Whole ts)
      (expr_begins Text b x v tt room level.Whole d [] tt (λ over a ws q low. fin over (a ∷ []) ws (g.last_argument q) (omega (arith, low))) ts)
      (λ one ks y. let w = whole_frame y.stands in onward w (by_eat_then (codes ",") ks
      (λ u ls less is. args_begin n (sofar ++ one.tree ∷ []) (λ js. d (w.w (u ∷ js)))
      (λ over all ws q low. fin over (one.tree ∷ all) (w.w (u ∷ ws)) (g.more_arguments (w.moves (u ∷ ws)) is q) (omega (arith, low, stood_low x.text y))) ls
      (omega (arith, len, less_of less, whole_shrinks y.stands)))
      (ends b (sofar ++ one.tree ∷ []) ks (fin 0 (one.tree ∷ []) (w.w []) (g.last_argument (w.moves [])) (omega (arith, stood_low x.text y)))))))
      (λ us k good. ap (λ r. and_then r ended) (args_same (turned b k us) room k (suc k) sofar us good.0 (omega (arith, good.0)))
      ∙ args_step room k sofar (turned b k us))

-- ---- the two ways of saying that nothing is left

given_fault : (r : Outcome (List ExprTree)) (c : Bool) (f : Fault) → c ≡ false → and_then r ended ≡ Err f → (if c then Ok [] else whole_of r) ≡ Err f
given_fault r true f some e = absurd cc
given_fault (Err h) false f some e = ap (λ (m : Fault). let q : Result (List ExprTree) Fault = Err m in q) (sym (same_fault {A = List ExprTree} h f e))
given_fault (Ok p) false f some e = by (at_end p.1) e
  where
    by : (c : Bool) → (if c then Ok (p.0, p.1) else refuse p.1) ≡ Err f
        → ◌≡◌ {A = Result (List ExprTree) Fault} (if c then Ok p.0 else Err (fault NO_READING_HERE p.1)) (Err f)
    by true e = absurd cc
    by false e =
        ap (λ (m : Fault). let q : Result (List ExprTree) Fault = Err m in q) (sym (same_fault {A = List ExprTree} (fault NO_READING_HERE p.1) f e))

err_result : (f h : Fault) → ◌≡◌ {A = Result (List ExprTree) Fault} (Err f) (Err h) → h ≡ f
err_result f h e = cc

read_fault : (r : Outcome (List ExprTree)) (c : Bool) (f : Fault) → (if c then Ok [] else whole_of r) ≡ Err f → (c ≡ false) × (and_then r ended ≡ Err f)
read_fault r true f e = absurd (let wrong : ◌≡◌ {A = Result (List ExprTree) Fault} (Ok []) (Err f) = e in cc)
read_fault (Err h) false f e = (refl, ap (λ (m : Fault). let q : Outcome (List ExprTree) = Err m in q) (sym (err_result h f e)))
read_fault (Ok p) false f e = (refl, by (at_end p.1) e)
  where
    by : (c : Bool) → ◌≡◌ {A = Result (List ExprTree) Fault} (if c then Ok p.0 else Err (fault NO_READING_HERE p.1)) (Err f)
        → ◌≡◌ {A = Outcome (List ExprTree)} (if c then Ok (p.0, p.1) else refuse p.1) (Err f)
    by true e = absurd cc
    by false e = ap (λ (m : Fault). let q : Outcome (List ExprTree) = Err m in q) (sym (err_result (fault NO_READING_HERE p.1) f e))

-- ---- arguments within the bounds are read

-- there are tokens
abbrev AreSome : List Token → Type 0
AreSome ts = is_empty ts ≡ false

some_next : (ts us : List Token) → AreSome ts → SameNext ts us → AreSome us
some_next [] us some n = absurd cc
some_next (t ∷ ts) [] some n = absurd n
some_next (t ∷ ts) (u ∷ us) some n = refl

some_token : (p us : List Token) (t : Token) → AreSome (p ++ t ∷ us)
some_token [] us t = refl
some_token (u ∷ p) us t = refl

all_args_done : (b : Input) (room : ℕ) (Any : Type 0) (us : List Token) (k : ℕ) → AreSome us → length us < k → AreArgumentsWithin b.types room Any us
    → (p : List ExprTree × Input) × IsRead Any (all_args room [] k (turned b k us)) p
unfolding at_end
all_args_done b room Any us k some few w = by us w.0 w.2 w.3 some few
  where
    by : (us : List Token) (all : List ExprTree) → AllArguments b.types all us → (heights (exprs_of all) ≤ room) ⊎ Any → AreSome us → length us < k
        → (p : List ExprTree × Input) × IsRead Any (all_args room [] k (turned b k us)) p
    by us all g.no_arguments h some few = absurd cc
    by us all (g.arguments x) h some few = (
      ([] ++ all, turned b k []),
      carry (arguments_done Any (turned b k us) w.1 room x h the_end refl few k (omega (arith, few)) []) (λ e r. rw r refl) (λ r. is_read (rw r refl)),
    )

pub arguments_fault_law : ArgumentsFaultLaw
unfolding args_of some_args at_end
arguments_fault_law file last types around ts f x v h =
    let b : Input = start false ts types file last in
    let good : Good any b.turns (kept false ts) = (omega (arith, kept_shrinks false false ts), tt) in
    let e = read_fault (args_from room b.turns [] b) (at_end b) f h in
    stands_from {Any = AreArguments types} {Texts = λ y over. AreArgumentsBut y.text types (room + over)} {r = λ k. all_args room [] k}
    AreSome (λ us n. some_next (kept false ts) us e.0 n) some_token tt (variable_name types x v) (λ us t. (t.0, t.1, omega (arith, t.2)))
    (λ y over us t. (t.0, t.1))
    (λ more m some e'. let i : Input = start false more types file last in given_fault (args_from room i.turns [] i) (at_end i) m some e')
    (λ Deep us k some. all_args_done b room Deep us k some)
    (λ Deep us names d t. (t.0, names, t.1, inr d)) (λ more m some are e'. run more m e')
    ((begins b v (kept false ts)).breaks good f e.1) good e.1
  where
    room : ℕ
    room = max_nesting - around

    begins : (b : Input) → IsVariable b.types x → (ts : List Token)
        → Viable any x room (λ over. AreArgumentsBut x.text b.types (room + over)) b (λ js. js) (λ k. all_args room [] k) ts
    begins b v ts = args_begin (λ over. AreArgumentsBut x.text b.types (room + over)) b x v room (suc (length ts)) [] (λ js. js)
        (λ over all ws q low. (all, g.arguments q, low)) ts (omega arith)

    run : (more : List Token) (m : Fault) → args_of file last types around more ≡ Err m
        → NamedRun any room (λ y over. AreArgumentsBut y.text types (room + over)) (start false more types file last) (λ k. all_args room [] k)
        (kept false more) m
    run more m e' =
        let b : Input = start false more types file last in
        let good : Good any b.turns (kept false more) = (omega (arith, kept_shrinks false false more), tt) in
        let e = read_fault (args_from room b.turns [] b) (at_end b) m e' in
        record { filler = x; run = (begins b v (kept false more)).breaks good m e.1; good = good; fails = e.1 }
