-- The text of a default stands in the source.
use Rattle.std.proofs.Common.{◌≡◌, ℕ, ◌-◌, ◌<◌, ◌==◌, ◌&&◌, Bool, true, false, List, [], ◌∷◌, ◌++◌, drop, take, refl, ap, sym, ◌∙◌, subst, arith, append_assoc, append-nil}
use Rattle.std.proofs.lemmas.Bool.{and_parts, le-leb, lt-leb, ltb-true}
use Rattle.std.proofs.lemmas.Bool.Decides.{nat_tests}
use Rattle.std.proofs.lemmas.Grind.{flat_map-append}
use Rattle.std.specs.List.{flat_map}
use Rattle.std.specs.Prelude.{nat_le, nat_lt}
use Rattle.xs_base.specs.declared.source.Line.{Line}
use Rattle.xs_params.specs.DefaultTexts.{piece_in, text_of}
use Rattle.xs_params.specs.Laws.{TextLaw, rises, whole_lines}
use Rattle.xs_params.specs.declared.states.Extent.{Extent}

-- ---- numbers of lines

-- each number is less than this
abbrev Below : ℕ → List Line → Type 0
Below n [] = Unit {0}
Below n (l ∷ ls) = (l.number < n) × Below n ls

-- each number is greater than this
abbrev Above : ℕ → List Line → Type 0
Above n [] = Unit {0}
Above n (l ∷ ls) = (n < l.number) × Above n ls

above_less : (m n : ℕ) (ls : List Line) → m < n → Above n ls → Above m ls
above_less m n [] h above = tt
above_less m n (l ∷ ls) h above = (omega (arith, h, above.0), above_less m n ls h above.1)

rises_above : (m : Line) (ls : List Line) → rises (m ∷ ls) ≡ true → Above m.number ls
rises_above m [] h = tt
rises_above m (l ∷ ls) h =
    let p = and_parts (nat_lt m.number l.number) (rises (l ∷ ls)) h in
    let less = ltb-true m.number l.number p.0 in
    (less, above_less m.number l.number ls less (rises_above l ls p.1))

rises_after : (before : List Line) (m : Line) (ls : List Line) → rises (before ++ m ∷ ls) ≡ true → rises (m ∷ ls) ≡ true
rises_after [] m ls h = h
rises_after (l ∷ []) m ls h = (and_parts (nat_lt l.number m.number) (rises (m ∷ ls)) h).1
rises_after (l ∷ k ∷ ks) m ls h = rises_after (k ∷ ks) m ls (and_parts (nat_lt l.number k.number) (rises (k ∷ (ks ++ m ∷ ls))) h).1

rises_below : (before : List Line) (m : Line) (ls : List Line) → rises (before ++ m ∷ ls) ≡ true → Below m.number before
rises_below [] m ls h = tt
rises_below (l ∷ []) m ls h = (ltb-true l.number m.number (and_parts (nat_lt l.number m.number) (rises (m ∷ ls)) h).0, tt)
rises_below (l ∷ k ∷ ks) m ls h =
    let p = and_parts (nat_lt l.number k.number) (rises (k ∷ (ks ++ m ∷ ls))) h in
    let less = ltb-true l.number k.number p.0 in
    let more = rises_below (k ∷ ks) m ls p.1 in
    (omega (arith, less, more.0), more)

-- ---- the part of the text that a line has

not_same : (a b : ℕ) → a < b → (a == b) ≡ false
not_same a b h = grind (arith, nat_tests)

not_same_above : (a b : ℕ) → b < a → (a == b) ≡ false
not_same_above a b h = grind (arith, nat_tests)

same_number : (a b : ℕ) → b ≡ a → (a == b) ≡ true
same_number a b h = grind (arith, nat_tests)

none_below : (x : Extent) (ls : List Line) → Below x.from.line ls → flat_map (piece_in x) ls ≡ []
none_below x [] below = refl
none_below x (l ∷ ls) below = rw (lt-leb x.from.line l.number below.0) (none_below x ls below.1)

no_both : (a b : Bool) → b ≡ false → (a && b) ≡ false
no_both true b h = h
no_both false b h = refl

none_above : (x : Extent) (ls : List Line) → Above x.to_line ls → flat_map (piece_in x) ls ≡ []
none_above x [] above = refl
none_above x (l ∷ ls) above =
    rw (no_both (nat_le x.from.line l.number) (nat_le l.number x.to_line) (lt-leb l.number x.to_line above.0)) (none_above x ls above.1)

all_between : (x : Extent) (ls : List Line) → Above x.from.line ls → Below x.to_line ls → flat_map (piece_in x) ls ≡ whole_lines ls
all_between x [] above below = refl
all_between x (l ∷ ls) above below =
    let later : nat_le x.from.line l.number ≡ true = le-leb x.from.line l.number (omega (arith, above.0)) in
    let sooner : nat_le l.number x.to_line ≡ true = le-leb l.number x.to_line (omega (arith, below.0)) in
    rw (later, sooner, not_same_above l.number x.from.line above.0, not_same l.number x.to_line below.0)
    (ap (λ text. (l.text ++ 10 ∷ []) ++ text) (all_between x ls above.1 below.1))

one_piece : (x : Extent) (l : Line) → x.from.line ≡ l.number → x.to_line ≡ l.number → piece_in x l ≡ drop (x.from.col - 1) (take (x.to_col - 1) l.text)
one_piece x l from to =
    let later : nat_le x.from.line l.number ≡ true = le-leb x.from.line l.number (omega (arith, from)) in
    let sooner : nat_le l.number x.to_line ≡ true = le-leb l.number x.to_line (omega (arith, to)) in
    rw (later, sooner, same_number l.number x.from.line from, same_number l.number x.to_line to)
    (append-nil (drop (x.from.col - 1) (take (x.to_col - 1) l.text)))

first_piece : (x : Extent) (l : Line) → x.from.line ≡ l.number → l.number < x.to_line → piece_in x l ≡ drop (x.from.col - 1) l.text ++ 10 ∷ []
first_piece x l from less =
    let later : nat_le x.from.line l.number ≡ true = le-leb x.from.line l.number (omega (arith, from)) in
    let sooner : nat_le l.number x.to_line ≡ true = le-leb l.number x.to_line (omega (arith, less)) in
    rw (later, sooner, same_number l.number x.from.line from, not_same l.number x.to_line less) refl

last_piece : (x : Extent) (l : Line) → x.from.line < l.number → x.to_line ≡ l.number → piece_in x l ≡ take (x.to_col - 1) l.text
last_piece x l more to =
    let later : nat_le x.from.line l.number ≡ true = le-leb x.from.line l.number (omega (arith, more)) in
    let sooner : nat_le l.number x.to_line ≡ true = le-leb l.number x.to_line (omega (arith, to)) in
    rw (later, sooner, not_same_above l.number x.from.line more, same_number l.number x.to_line to) (append-nil (take (x.to_col - 1) l.text))

-- ---- the text

-- the lines before and after have none of it
around : (x : Extent) (before inner more : List Line) → Below x.from.line before → Above x.to_line more → flat_map (piece_in x) (before ++ (inner ++ more))
    ≡ flat_map (piece_in x) inner
around x before inner more below above =
    flat_map-append (piece_in x) before (inner ++ more)
    ∙ (ap (λ text. text ++ flat_map (piece_in x) (inner ++ more)) (none_below x before below)
    ∙ (flat_map-append (piece_in x) inner more
    ∙ (ap (λ text. flat_map (piece_in x) inner ++ text) (none_above x more above) ∙ append-nil (flat_map (piece_in x) inner))))

one_line : (before more : List Line) (line : Line) (x : Extent) → rises (before ++ line ∷ more) ≡ true → x.from.line ≡ line.number → x.to_line ≡ line.number
    → text_of (before ++ line ∷ more) x ≡ drop (x.from.col - 1) (take (x.to_col - 1) line.text)
unfolding text_of
one_line before more line x h from to =
    let below = subst (λ n. Below n before) (sym from) (rises_below before line more h) in
    let above = subst (λ n. Above n more) (sym to) (rises_above line more (rises_after before line more h)) in
    around x before (line ∷ []) more below above ∙ (append-nil (piece_in x line) ∙ one_piece x line from to)

several_lines : (before between more : List Line) (first last : Line) (x : Extent) → rises (before ++ first ∷ (between ++ last ∷ more)) ≡ true
    → x.from.line ≡ first.number → x.to_line ≡ last.number
    → text_of (before ++ first ∷ (between ++ last ∷ more)) x ≡ drop (x.from.col - 1) first.text ++ (10 ∷ (whole_lines between ++ take (x.to_col - 1) last.text))
unfolding text_of
several_lines before between more first last x h from to =
    let inner = first ∷ (between ++ last ∷ []) in
    let after = rises_after before first (between ++ last ∷ more) h in
    let all : before ++ first ∷ (between ++ last ∷ more) ≡ before ++ (inner ++ more) =
    ap (λ ls. before ++ first ∷ ls) (sym (append_assoc between (last ∷ []) more)) in
    let below = subst (λ n. Below n before) (sym from) (rises_below before first (between ++ last ∷ more) h) in
    let rising = rises_after (first ∷ between) last more after in
    let above = subst (λ n. Above n more) (sym to) (rises_above last more rising) in
    let bounded = rises_below (first ∷ between) last more after in
    let less : first.number < x.to_line = subst (λ n. first.number < n) (sym to) bounded.0 in
    let sooner = subst (λ n. Below n between) (sym to) bounded.1 in
    let later = subst (λ n. Above n between) (sym from) (above_front first.number between (last ∷ more) (rises_above first (between ++ last ∷ more) after)) in
    let pieces : flat_map (piece_in x) inner ≡ (drop (x.from.col - 1) first.text ++ 10 ∷ []) ++ (whole_lines between ++ take (x.to_col - 1) last.text) =
    ap (λ text. text ++ flat_map (piece_in x) (between ++ last ∷ [])) (first_piece x first from less)
    ∙ ap (λ text. (drop (x.from.col - 1) first.text ++ 10 ∷ []) ++ text)
    (flat_map-append (piece_in x) between (last ∷ [])
    ∙ (ap (λ text. text ++ flat_map (piece_in x) (last ∷ [])) (all_between x between later sooner)
    ∙ ap (λ text. whole_lines between ++ text) (append-nil (piece_in x last) ∙ last_piece x last (omega (arith, from, to, less)) to))) in
    ap (flat_map (piece_in x)) all
    ∙ (around x before inner more below above ∙ (pieces ∙ append_assoc (drop (x.from.col - 1) first.text) (10 ∷ [])
    (whole_lines between ++ take (x.to_col - 1) last.text)))
  where
    above_front : (n : ℕ) (ls ms : List Line) → Above n (ls ++ ms) → Above n ls
    above_front n [] ms h = tt
    above_front n (l ∷ ls) ms h = (h.0, above_front n ls ms h.1)

pub text_law : TextLaw
text_law = record { one = one_line; several = several_lines }
