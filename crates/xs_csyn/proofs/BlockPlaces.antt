-- Where tokens are not read as what stands in a block, the fault is at one token: those before it begin such a text, and none that is read goes on with it.
use Rattle.std.proofs.Common.{◌≡◌, inr, ℕ, zero, suc, ◌+◌, ◌-◌, ◌<◌, ◌≤◌, false, List, [], ◌∷◌, ◌++◌, length, Result, Ok, Err, refl, ap, arith}
use Rattle.xs_base.specs.Reading as reading
use Rattle.xs_base.specs.declared.fault.Fault.{Fault}
use Rattle.xs_base.specs.declared.source.FileOf.{FileOf}
use Rattle.xs_ctok.specs.declared.token.Token.{Token}
use Rattle.xs_csyn.proofs.AnyDepth.{IsRead, under}
use Rattle.xs_csyn.proofs.BlocksBegin.{InnerStmt, onward_by, part_begins, stmt_begins}
use Rattle.xs_csyn.proofs.Breaks.{Viable, alike_viable, by_test, read, step}
use Rattle.xs_csyn.proofs.ExpressionPlaces.{NamedRun, stands_from}
use Rattle.xs_csyn.proofs.FilesComplete.{kept_shrinks, rest_done}
use Rattle.xs_csyn.proofs.FormsBegin.{NoElse, far}
use Rattle.xs_csyn.proofs.HoleHeights.{stmt_low}
use Rattle.xs_csyn.proofs.Local.{Good, end_tells, proper, turned}
use Rattle.xs_csyn.proofs.Marks.{variable_name}
use Rattle.xs_csyn.proofs.MoreTurns.{rest_same}
use Rattle.xs_csyn.proofs.Sizes.{part_shrinks}
use Rattle.xs_csyn.proofs.StatementFrames.{part_standing}
use Rattle.xs_csyn.proofs.StatementsBegin.{fine_with, part_no_else}
use Rattle.xs_csyn.proofs.StatementsLocal.{part_local, stmt_local}
use Rattle.xs_csyn.proofs.StatementsSound.{part_yields, stmt_yields}
use Rattle.xs_csyn.specs.FaultPlaces.{BlockFaultLaw, IsBlock, IsBlockWithin, IsFiller}
use Rattle.xs_csyn.specs.FileGrammar.{AreNames}
use Rattle.xs_csyn.specs.FileReader.{block_of, first_of_pair, rest_from, rest_of, start}
use Rattle.xs_csyn.specs.Prefixes.{tallest_of_but}
use Rattle.xs_cstmt.specs.StatementHeights.{depths}
use Rattle.xs_csyn.specs.TokenTexts.{AreSpelt}
use Rattle.xs_csyn.specs.StatementGrammar as g
use Rattle.xs_csyn.specs.StatementGrammar.{Rest}
use Rattle.xs_cstmt.specs.StatementReader.{max_nesting, stmt}
use Rattle.xs_cstmt.specs.StatementTree as tree
use Rattle.xs_cstmt.specs.StatementTree.{StmtTree, StmtTrees}
use Rattle.xs_cinput.specs.TokenInput.{Input, Outcome, at_end, kept}

rest_no_else : {types : List (List ℕ)} → AreNames types → {all : StmtTrees} {ts : List Token} → Rest types all ts → NoElse ts
rest_no_else names g.rest_over = refl
rest_no_else names (g.rest_part x y) = part_no_else names x

module _ (Text : ℕ → List Token → Type 0) (b : Input) (x : Token) (fill : IsFiller b.types x) (names : AreNames b.types) (room : ℕ) where
  rest_begins : (n : ℕ) (sofar : List StmtTree) (d : List Token → List Token)
      → ((over : ℕ) (all : StmtTrees) (ws : List Token) → Rest b.types all ws → depths all ≤ room + over → tallest_of_but x.text all ≤ max_nesting + over
      → Text over (d ws))
      → (ts : List Token) → length ts < n → Viable proper x (suc far) Text b d (λ k. rest_from (stmt room) k sofar) ts
  unfolding rest_from at_end
  rest_begins zero sofar d fin ts len = absurd (omega (arith, len))
  rest_begins (suc n) sofar d fin [] len =
      alike_viable {p = λ k. rest_from (stmt room) (suc k) sofar} (read refl)
      (λ us k e g. rest_same (turned b k us) room k (suc k) sofar us g.0 (omega (arith, g.0)))
  rest_begins (suc n) sofar d fin (t ∷ ts) len =
      let H : InnerStmt Text b x room = stmt_begins Text b x fill.is_variable fill.is_spelt fill.no_form names room in
      alike_viable {p = λ k. rest_from (stmt room) (suc k) sofar} (by_test at_end (end_tells b (t ∷ ts)) (λ is. absurd cc)
      (λ isnt. step (part_local b room (λ js. stmt_local b names room js) (t ∷ ts)) (part_yields b (stmt room) room (stmt_yields b room) (t ∷ ts))
      (part_begins Text b x fill.is_variable fill.is_spelt fill.no_form names room H d [] tt refl
      (λ over s ws q a low. fin over (tree.MoreStmts s tree.NoStmts) ws (g.rest_part q g.rest_over) (omega (arith, a)) (omega (arith, low))) (t ∷ ts))
      (λ one ks y. let h = part_standing y.0 in
      onward_by h.w h.front h.here (rest_begins n (sofar ++ one ∷ []) (λ js. d (h.w js))
      (λ over all ws q a low. fin over (tree.MoreStmts one all) (h.w ws) (g.rest_part (h.moves ws (fine_with ks ws (rest_no_else names q))) q)
      (omega (arith, a, y.1)) (omega (arith, low, stmt_low x.text one, y.2))) ks
      (omega (arith, len, part_shrinks y.0))))))
      (λ us k e g. rest_same (turned b k us) room k (suc k) sofar us g.0 (omega (arith, g.0)))

read_fault : (r : Outcome (List StmtTree)) (f : Fault) → reading.◌>>=◌ r first_of_pair ≡ Err f → r ≡ Err f
read_fault (Ok p) f h = absurd (let e : ◌≡◌ {A = Result (List StmtTree) Fault} (Ok p.0) (Err f) = h in cc)
read_fault (Err e) f h = ap (λ (k : Fault). let r : Outcome (List StmtTree) = Err k in r) (same e f h)
  where
    same : (e f : Fault) → ◌≡◌ {A = Result (List StmtTree) Fault} (Err e) (Err f) → e ≡ f
    same e f h = cc

given_fault : (file : FileOf) (last : ℕ) (types : List (List ℕ)) (around : ℕ) (ts : List Token) (f : Fault)
    → rest_from (stmt (max_nesting - around)) (suc (length ts)) [] (start false ts types file last) ≡ Err f → block_of file last types around ts ≡ Err f
unfolding block_of
given_fault file last types around ts f h = rw h refl

block_read : (b : Input) → AreNames b.types → (room : ℕ) (Any : Type 0) (us : List Token) (k : ℕ) → length us < k → IsBlockWithin b.types room Any us
    → (p : List StmtTree × Input) × IsRead Any (rest_from (stmt room) k [] (turned b k us)) p
block_read b names room Any us k few w =
    (_, rest_done Any (turned b k us) names room w.1 (under w.2 (λ fit. fit.0)) (under w.2 (λ fit. fit.1)) few k few [])

-- What stands in a block so many levels over the bounds, where a name counts as nothing.
abbrev Begun : List (List ℕ) → ℕ → Token → ℕ → List Token → Type 0
Begun types room x over us = (all : StmtTrees) × Rest types all us × (depths all ≤ room + over) × (tallest_of_but x.text all ≤ max_nesting + over)

pub block_fault_law : BlockFaultLaw
unfolding block_of
block_fault_law file last types around ts f x names spelt fill h =
    let b : Input = start false ts types file last in
    let good : Good proper b.turns (kept false ts) = (omega (arith, kept_shrinks false false ts), spelt) in
    let e : rest_from (stmt room) b.turns [] b ≡ Err f = read_fault (rest_of room b) f h in
    stands_from {Any = IsBlock types} {Texts = Begun types room} {r = λ k. rest_from (stmt room) k []} (λ us. Unit {0}) (λ us n. tt) (λ p us t. tt)
    (fill.is_spelt, tt) (variable_name types x fill.is_variable) (λ us t. (t.0, t.1, omega (arith, t.2), omega (arith, t.3)))
    (λ y over us t. (t.0, t.1)) (λ more m some. given_fault file last types around more m) (λ Deep us k some. block_read b names room Deep us k)
    (λ Deep us none d t. (t.0, t.1, inr d)) (λ more m some are e'. run more m are e')
    ((begins b fill names (kept false ts)).breaks good f e) good e
  where
    room : ℕ
    room = max_nesting - around

    begins : (b : Input) → IsFiller b.types x → AreNames b.types → (ts : List Token)
        → Viable proper x (suc far) (Begun b.types room x) b (λ js. js) (λ k. rest_from (stmt room) k []) ts
    begins b fill names ts =
        rest_begins (Begun b.types room x) b x fill names room (suc (length ts)) [] (λ js. js) (λ over all ws q a low. (all, q, a, low)) ts (omega arith)

    run : (more : List Token) (m : Fault) → AreSpelt (kept false more) → block_of file last types around more ≡ Err m
        → NamedRun proper (suc far) (Begun types room) (start false more types file last) (λ k. rest_from (stmt room) k []) (kept false more) m
    run more m are e' =
        let b : Input = start false more types file last in
        let good : Good proper b.turns (kept false more) = (omega (arith, kept_shrinks false false more), are) in
        let e : rest_from (stmt room) b.turns [] b ≡ Err m = read_fault (rest_of room b) m e' in
        record { filler = x; run = (begins b fill names (kept false more)).breaks good m e; good = good; fails = e }
