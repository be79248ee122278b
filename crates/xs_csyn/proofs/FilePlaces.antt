-- Where tokens are not read as a file, the fault is at one token: those before it begin a file, and none that is read goes on with it.
use Rattle.std.proofs.Common.{◌≡◌, inr, ℕ, zero, suc, ◌<◌, not, Bool, true, false, if◌then◌else◌, List, [], ◌∷◌, ◌++◌, length, map, Some, Result, Ok, Err, refl, ap, sym, subst, ◌∙◌, arith}
use Rattle.std.proofs.lemmas.Bool.{and_from, and_parts, not-true, or_from, or_parts}
use Rattle.std.specs.Prelude.{codes}
use Rattle.std.specs.Str.{bytes_eq}
use Rattle.xs_base.specs.Names.{is_among}
use Rattle.xs_base.specs.Reading as reading
use Rattle.xs_base.specs.Readers.{head_is}
use Rattle.xs_base.specs.declared.fault.Fault.{Fault}
use Rattle.xs_base.specs.declared.source.FileOf.{FileOf}
use Rattle.xs_ctok.specs.declared.token.Token.{Token}
use Rattle.xs_csyn.proofs.AnyDepth.{IsRead}
use Rattle.xs_csyn.proofs.Breaks.{Viable, alike_viable, by_test, read, step}
use Rattle.xs_csyn.proofs.BlocksBegin.{onward_by}
use Rattle.xs_csyn.proofs.ExpressionPlaces.{NamedRun, stands_from}
use Rattle.xs_csyn.proofs.ExpressionsComplete.{type_first}
use Rattle.xs_csyn.proofs.FileFrames.{fields_frame, item_standing}
use Rattle.xs_csyn.proofs.FilesBegin.{item_begins}
use Rattle.xs_csyn.proofs.FilesComplete.{items_done, kept_shrinks, names_after}
use Rattle.xs_csyn.proofs.FilesLocal.{item_local}
use Rattle.xs_csyn.proofs.FilesSound.{item_yields}
use Rattle.xs_csyn.proofs.Fillers.{filler_law}
use Rattle.xs_csyn.proofs.FormsBegin.{NoElse, far}
use Rattle.xs_csyn.proofs.Frames.{IsFront, type_frame}
use Rattle.xs_csyn.proofs.HoleHeights.{item_low}
use Rattle.xs_csyn.proofs.Local.{Good, end_tells, proper, turned}
use Rattle.xs_csyn.proofs.Marks.{variable_name, words}
use Rattle.xs_csyn.proofs.MoreTurns.{items_same}
use Rattle.xs_csyn.proofs.Sizes.{item_shrinks}
use Rattle.xs_csyn.proofs.StatementsBegin.{fine_with, typed_no_else}
use Rattle.xs_csyn.specs.FaultPlaces.{FileFaultLaw, IsFileText, IsFileWithin, IsFiller}
use Rattle.xs_csyn.specs.Prefixes.{FitItemsBut, IsFresh}
use Rattle.xs_csyn.specs.TokenTexts.{AreSpelt}
use Rattle.xs_csyn.specs.FileGrammar as g
use Rattle.xs_csyn.specs.FileGrammar.{AHead, AreNames, File, Item}
use Rattle.xs_cinput.specs.TypeReader.{with_name}
use Rattle.xs_csyn.specs.FileReader.{defines_of, file_of, file_with, first_of_pair, items_from, start, type_of_item, with_types_of}
use Rattle.xs_csyn.specs.FileTree.{FileTree, ItemTree}
use Rattle.xs_cinput.specs.TokenInput.{Input, Outcome, at_end, fault, is_name, is_type, kept, line}
use Rattle.xs_csyn.specs.declared.tree.Head.{Head}

-- ---- names that are fresh

texts : List Token → List (List ℕ)
texts ts = map (λ (t : Token). t.text) ts

fresh_after : (x : Token) (before rest : List Token) → IsFresh x (before ++ rest) → IsFresh x rest
fresh_after x [] rest e = e
fresh_after x (t ∷ before) rest e =
    fresh_after x before rest (or_parts (bytes_eq t.text x.text) (is_among (map (λ (t : Token). t.text) (before ++ rest)) x.text) e).1

fresh_rest : (x : Token) {w : List Token → List Token} {ts us : List Token} → IsFront w → w us ≡ ts → IsFresh x ts → IsFresh x us
fresh_rest x {w} {ts} {us} f e fresh = fresh_after x f.before us (subst (λ (l : List Token). IsFresh x l) (sym e ∙ f.is us) fresh)

fresh_first : (x u : Token) (us : List Token) → IsFresh x (u ∷ us) → bytes_eq u.text x.text ≡ false
fresh_first x u us e = (or_parts (bytes_eq u.text x.text) (is_among (map (λ (t : Token). t.text) us) x.text) e).0

fresh_tail : (x u : Token) (us : List Token) → IsFresh x (u ∷ us) → IsFresh x us
fresh_tail x u us e = (or_parts (bytes_eq u.text x.text) (is_among (map (λ (t : Token). t.text) us) x.text) e).1

among_last : (types : List (List ℕ)) (name text : List ℕ) → is_among types text ≡ false → bytes_eq name text ≡ false → is_among
    (types ++ name ∷ []) text ≡ false
among_last [] name text e n = or_from (bytes_eq name text) false n refl
among_last (first ∷ types) name text e n =
    let p = or_parts (bytes_eq first text) (is_among types text) e in
    or_from (bytes_eq first text) (is_among (types ++ name ∷ []) text) p.0 (among_last types name text p.1 n)

with_more : (types : List (List ℕ)) (name text : List ℕ) → is_among types text ≡ false → bytes_eq name text ≡ false
    → is_among (with_name types (Some name)) text ≡ false
with_more types name text e n = by (is_among types name)
  where
    by : (c : Bool) → is_among (if c then types else types ++ name ∷ []) text ≡ false
    by true = e
    by false = among_last types name text e n

-- the name that an item declares is one of its tokens
declared_name : {types : List (List ℕ)} {one : ItemTree} {ts us : List Token} (x : Token) → Item types one ts us → IsFresh x ts → is_among types x.text ≡ false
    → is_among (with_name types (type_of_item one)) x.text ≡ false
declared_name {types} x (g.a_typedef {t = t} {u = u} {v = v} {ts = ts} {us = us} w ty n is) fresh e =
    let f = type_frame ty in
    with_more types u.text x.text e (fresh_first x u (v ∷ us) (fresh_rest x f.front f.here (fresh_tail x t ts fresh)))
declared_name {types} x (g.a_record {t = t} {u = u} {v = v} {w = w} {x = z} {ts = ts} {us = us} k l o q n is) fresh e =
    let f = fields_frame q in
    with_more types w.text x.text e
    (fresh_first x w (z ∷ us) (fresh_rest x f.front f.here (fresh_tail x v ts (fresh_tail x u (v ∷ ts) (fresh_tail x t (u ∷ v ∷ ts) fresh)))))
declared_name x (g.prototype h is) fresh e = e
declared_name x (g.function h o y) fresh e = e
declared_name x (g.xs_function k o n c d begins y) fresh e = e

filler_after : {types : List (List ℕ)} {one : ItemTree} {ts us : List Token} (x : Token) → Item types one ts us → IsFresh x ts → IsFiller types x
    → IsFiller (with_name types (type_of_item one)) x
filler_after {types} {one} x y fresh fill =
    let p = and_parts (is_name x) (not (is_among types x.text)) fill.is_variable in
    let others = declared_name x y fresh (not-true (is_among types x.text) p.1) in
    record {
      is_variable = and_from (is_name x) (not (is_among (with_name types (type_of_item one)) x.text)) p.0 (ap not others);
      is_spelt = fill.is_spelt;
      no_form = fill.no_form;
    }

-- ---- items

typed_head : {types : List (List ℕ)} {h : Head} {ts us : List Token} → AHead types h ts us → head_is (is_type types) ts ≡ true
typed_head (g.a_head ty n o p) = type_first ty

file_no_else : {types : List (List ℕ)} → AreNames types → {all : List ItemTree} {ts : List Token} → File types all ts → NoElse ts
file_no_else names g.file_over = refl
file_no_else names (g.item (g.a_typedef {t = t} w ty n is) y) = words (codes "typedef") (codes "else") t w
file_no_else names (g.item (g.a_record {t = t} k l o q n is) y) = words (codes "typedef") (codes "else") t k
file_no_else {types} names (g.item (g.prototype {ts = ts} h is) y) = typed_no_else types names ts (typed_head h)
file_no_else {types} names (g.item (g.function {ts = ts} h o p) y) = typed_no_else types names ts (typed_head h)
file_no_else names (g.item (g.xs_function {t = t} k o n c d begins p) y) = words (codes "XS") (codes "else") t k

-- the items after one, in whose scope they are
in_scope : {x : Token} {Text : ℕ → List Token → Type 0} {b : Input} {d : List Token → List Token} {us : List Token} (one : ItemTree) (sofar : List ItemTree)
    → Viable proper x (suc far) Text (with_types_of one b) d (λ k. items_from k sofar) us
    → Viable proper x (suc far) Text b d (λ k j. items_from k sofar (with_types_of one j)) us
unfolding fault line
in_scope one sofar v = record {
  breaks = λ good f e.
      let y = v.breaks good f e in
      record {
        rest = y.rest;
        w = y.w;
        front = y.front;
        here = y.here;
        deep = y.deep;
        opens = y.opens;
        stays = y.stays;
        long = y.long;
        same = λ js k n g. y.same js k n g;
        staying = y.staying;
        more = y.more;
        text = y.text;
        cause = y.cause;
      };
}

items_begin : (Text : ℕ → List Token → Type 0) (x : Token) (n : ℕ) (b : Input) → IsFiller b.types x → AreNames b.types → (sofar : List ItemTree)
    (d : List Token → List Token)
    → ((over : ℕ) (all : List ItemTree) (ws : List Token) → File b.types all ws → (over ≡ 0 → FitItemsBut x.text all) → Text over (d ws))
    → (ts : List Token) → length ts < n → IsFresh x ts → Viable proper x (suc far) Text b d (λ k. items_from k sofar) ts
unfolding items_from at_end
items_begin Text x zero b fill names sofar d fin ts len fresh = absurd (omega (arith, len))
items_begin Text x (suc n) b fill names sofar d fin [] len fresh =
    alike_viable {p = λ k. items_from (suc k) sofar} (read refl)
    (λ us k e g. items_same k (suc k) (turned b k us) sofar us g.0 (omega (arith, g.0)))
items_begin Text x (suc n) b fill names sofar d fin (t ∷ ts) len fresh =
    alike_viable {p = λ k. items_from (suc k) sofar} (by_test at_end (end_tells b (t ∷ ts)) (λ is. absurd cc)
    (λ isnt. step (item_local b names (t ∷ ts)) (item_yields b (t ∷ ts))
    (item_begins Text b x fill names t d [] tt (λ over one ws q low. fin over (one ∷ []) ws (g.item q g.file_over) (λ e. (low e, tt))) ts)
    (λ one ks y. let j = item_standing y.0 in
    onward_by j.w j.front j.here (in_scope one (sofar ++ one ∷ []) (items_begin Text x n (with_types_of one b) (filler_after x y.0 fresh fill)
    (names_after y.0 names) (sofar ++ one ∷ []) (λ js. d (j.w js))
    (λ over all ws q low. fin over (one ∷ all) (j.w ws) (g.item (j.moves ws (fine_with ks ws (file_no_else (names_after y.0 names) q))) q)
    (λ e. (item_low x.text one y.1, low e))) ks
    (omega (arith, len, item_shrinks y.0)) (fresh_rest x j.front j.here fresh))))))
    (λ us k e g. items_same k (suc k) (turned b k us) sofar us g.0 (omega (arith, g.0)))

-- ---- files

read_fault : (r : Outcome (List ItemTree)) (make : List ItemTree → Result FileTree Fault) → ((all : List ItemTree) → (f : Fault) → make all ≡ Err f → ⊥)
    → (f : Fault) → reading.◌>>=◌ (reading.◌>>=◌ r first_of_pair) make ≡ Err f → r ≡ Err f
read_fault (Ok p) make ok f h = absurd (ok p.0 f h)
read_fault (Err e) make ok f h = ap (λ (k : Fault). let r : Outcome (List ItemTree) = Err k in r) (same e f h)
  where
    same : (e f : Fault) → ◌≡◌ {A = Result FileTree Fault} (Err e) (Err f) → e ≡ f
    same e f h = cc

made_ok : (ts : List Token) (all : List ItemTree) (f : Fault) → file_with (defines_of ts) all ≡ Err f → ⊥
made_ok ts all f e = absurd cc

given_fault : (file : FileOf) (last : ℕ) (ts : List Token) (f : Fault)
    → items_from (suc (length ts)) [] (start true ts [] file last) ≡ Err f → file_of file last ts ≡ Err f
unfolding file_of
given_fault file last ts f h = rw h refl

items_read : (b : Input) (Any : Type 0) (k : ℕ) (us : List Token) → b.types ≡ [] → length us < k → IsFileWithin Any us
    → (p : List ItemTree × Input) × IsRead Any (items_from k [] (turned b k us)) p
items_read b Any k us e few w = let m = items_done Any w.1 (turned b k us) e tt w.2 few k few [] in (([] ++ w.0, m.ends), m.is)

-- a file within the bounds where a name counts as nothing, or over them
abbrev Begun : Token → ℕ → List Token → Type 0
Begun x over us = (all : List ItemTree) × File [] all us × (over ≡ 0 → FitItemsBut x.text all)

begins : (file : FileOf) (last : ℕ) (ts : List Token) (x : Token) → IsFiller [] x → IsFresh x (kept true ts)
    → Viable proper x (suc far) (Begun x) (start true ts [] file last) (λ js. js) (λ k. items_from k []) (kept true ts)
begins file last ts x fill fresh =
    items_begin (Begun x) x (suc (length (kept true ts))) (start true ts [] file last) fill tt [] (λ js. js) (λ over all ws q low. (all, q, low)) (kept true ts)
    (omega arith) fresh

pub file_fault_law : FileFaultLaw
unfolding file_of
file_fault_law file last ts f x spelt fill fresh h =
    let b : Input = start true ts [] file last in
    let good : Good proper b.turns (kept true ts) = (omega (arith, kept_shrinks true false ts), spelt) in
    let e : items_from b.turns [] b ≡ Err f = read_fault (items_from b.turns [] b) (file_with (defines_of ts)) (made_ok ts) f h in
    stands_from {Any = IsFileText} {Texts = Begun} {r = λ k. items_from k []} (λ us. Unit {0}) (λ us n. tt) (λ p us t. tt) (fill.is_spelt, tt)
    (variable_name [] x fill.is_variable) (λ us t. (t.0, t.1, t.2 refl)) (λ y over us t. (t.0, t.1)) (λ more m some. given_fault file last more m)
    (λ Deep us k some few w. items_read b Deep k us refl few w) (λ Deep us none d t. (t.0, t.1, inr d)) (λ more m some are e'. run more m are e')
    ((begins file last ts x fill fresh).breaks good f e) good e
  where
    -- the run is completed with a name that stands nowhere in it
    run : (more : List Token) (m : Fault) → AreSpelt (kept true more) → file_of file last more ≡ Err m
        → NamedRun proper (suc far) Begun (start true more [] file last) (λ k. items_from k []) (kept true more) m
    run more m are e' =
        let b : Input = start true more [] file last in
        let good : Good proper b.turns (kept true more) = (omega (arith, kept_shrinks true false more), are) in
        let e : items_from b.turns [] b ≡ Err m = read_fault (items_from b.turns [] b) (file_with (defines_of more)) (made_ok more) m e' in
        let z = filler_law [] (kept true more) in
        record { filler = z.0; run = (begins file last more z.0 z.1 z.2).breaks good m e; good = good; fails = e }
