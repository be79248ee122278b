-- Lines with the same texts have the same tokens but for the numbers of the lines.
use Rattle.std.proofs.Common.{◌≡◌, ℕ, zero, suc, ◌+◌, ◌-◌, Bool, true, false, List, [], ◌∷◌, ◌++◌, map, Option, None, Some, Result, Ok, Err, refl, subst}
use Rattle.std.specs.Option.{option_to_list}
use Rattle.std.specs.Prelude.{codes, if◌then◌else◌}
use Rattle.std.proofs.lemmas.List.{map-append}
use Rattle.xs_base.specs.Reading.{◌>>=◌, with_front}
use Rattle.xs_base.specs.Scanning.{starts_with}
use Rattle.xs_base.specs.declared.fault.Fault.{Fault}
use Rattle.xs_base.specs.declared.source.FileOf.{FileOf}
use Rattle.xs_base.specs.declared.source.Line.{Line}
use Rattle.xs_base.specs.declared.source.Span.{Span}
use Rattle.xs_ctok.specs.Fronts.{front_of}
use Rattle.xs_ctok.specs.Laws.{AreSame, RelinedLaw, unlined}
use Rattle.xs_ctok.specs.Tokens.{Cut, begun, by_front, closed, cut_of, line_from, open_in, step, step_inside, then_cut, tokens_from, with_tokens}
use Rattle.xs_ctok.specs.declared.front.Front.{Front}
use Rattle.xs_ctok.specs.declared.front.Front.TheVariants as front
use Rattle.xs_ctok.specs.declared.lexing.Mode.{Mode}
use Rattle.xs_ctok.specs.declared.lexing.Mode.TheVariants as mode
use Rattle.xs_ctok.specs.declared.lexing.Moved.{Moved}
use Rattle.xs_ctok.specs.declared.token.Token.{Token}

-- ---- one step

-- the same is open, but for the line at which it was opened
abbrev SameMode : Mode → Mode → Type 0
SameMode mode.Fresh mode.Fresh = Unit {0}
SameMode mode.Between mode.Between = Unit {0}
SameMode (mode.Inside m) (mode.Inside n) = Unit {0}
SameMode mode.Fresh mode.Between = ⊥
SameMode mode.Fresh (mode.Inside n) = ⊥
SameMode mode.Between mode.Fresh = ⊥
SameMode mode.Between (mode.Inside n) = ⊥
SameMode (mode.Inside m) mode.Fresh = ⊥
SameMode (mode.Inside m) mode.Between = ⊥

record SameMove (a b : Moved) : Type 0 where
  tokens : map unlined (option_to_list a.token) ≡ map unlined (option_to_list b.token)
  modes : SameMode a.mode b.mode
  sizes : a.len ≡ b.len

abbrev SameMoves : Result Moved Fault → Result Moved Fault → Type 0
SameMoves (Ok a) (Ok b) = SameMove a b
SameMoves (Err e) (Err f) = e.code ≡ f.code
SameMoves (Ok a) (Err f) = ⊥
SameMoves (Err e) (Ok b) = ⊥

abbrev span : ℕ → ℕ → Span
span line col = record { line = line; col = col }

front_same : (f g : FileOf) (i j col : ℕ) (m n : Mode) (text : List ℕ) (fr : Front) → SameMode m n
    → SameMoves (by_front f (span i col) m text fr) (by_front g (span j col) n text fr)
front_same f g i j col m n text front.Blank same = record { tokens = refl; modes = same; sizes = refl }
front_same f g i j col m n text front.LineComment same = record { tokens = refl; modes = tt; sizes = refl }
front_same f g i j col m n text front.Comment same = record { tokens = refl; modes = tt; sizes = refl }
front_same f g i j col m n text (front.Piece kind len) same = record { tokens = refl; modes = tt; sizes = refl }
front_same f g i j col m n text (front.Refused code) same = refl

inside_same : (p q : ℕ) (text : List ℕ) → SameMove (step_inside p text) (step_inside q text)
inside_same p q text = by (starts_with (codes "*/") text)
  where
    by : (t : Bool) → SameMove (if t then record { token = None; mode = mode.Between; len = 2 } else record { token = None; mode = mode.Inside p; len = 1 })
        (if t then record { token = None; mode = mode.Between; len = 2 } else record { token = None; mode = mode.Inside q; len = 1 })
    by true = record { tokens = refl; modes = tt; sizes = refl }
    by false = record { tokens = refl; modes = tt; sizes = refl }

step_same : (f g : FileOf) (i j col : ℕ) (m n : Mode) (text : List ℕ) → SameMode m n → SameMoves (step f (span i col) m text) (step g (span j col) n text)
step_same f g i j col mode.Fresh mode.Fresh text same = front_same f g i j col mode.Fresh mode.Fresh text (front_of true text) same
step_same f g i j col mode.Between mode.Between text same = front_same f g i j col mode.Between mode.Between text (front_of false text) same
step_same f g i j col (mode.Inside p) (mode.Inside q) text same = inside_same p q text
step_same f g i j col mode.Fresh mode.Between text same = absurd same
step_same f g i j col mode.Fresh (mode.Inside n) text same = absurd same
step_same f g i j col mode.Between mode.Fresh text same = absurd same
step_same f g i j col mode.Between (mode.Inside n) text same = absurd same
step_same f g i j col (mode.Inside m) mode.Fresh text same = absurd same
step_same f g i j col (mode.Inside m) mode.Between text same = absurd same

-- ---- a line

-- a comment is open, or none
abbrev SameOpen : Option ℕ → Option ℕ → Type 0
SameOpen None None = Unit {0}
SameOpen (Some p) (Some q) = Unit {0}
SameOpen None (Some q) = ⊥
SameOpen (Some p) None = ⊥

record SameCut (a b : Cut) : Type 0 where
  tokens : map unlined a.tokens ≡ map unlined b.tokens
  opens : SameOpen a.open_at b.open_at

abbrev SameCuts : Result Cut Fault → Result Cut Fault → Type 0
SameCuts (Ok a) (Ok b) = SameCut a b
SameCuts (Err e) (Err f) = e.code ≡ f.code
SameCuts (Ok a) (Err f) = ⊥
SameCuts (Err e) (Ok b) = ⊥

both_append : (a b c d : List Token) → map unlined a ≡ map unlined b → map unlined c ≡ map unlined d → map unlined (a ++ c) ≡ map unlined (b ++ d)
both_append a b c d h k = rw (map-append unlined a c, map-append unlined b d, h, k) refl

after_same : (a b : List Token) (r s : Result Cut Fault) → map unlined a ≡ map unlined b → SameCuts r s → SameCuts (with_tokens a r) (with_tokens b s)
after_same a b (Ok c) (Ok d) h same = record { tokens = both_append a b c.tokens d.tokens h same.tokens; opens = same.opens }
after_same a b (Err e) (Err f) h same = same
after_same a b (Ok c) (Err f) h same = absurd same
after_same a b (Err e) (Ok d) h same = absurd same

then_same : (r s : Result Moved Fault) (go to : Moved → Result Cut Fault) → SameMoves r s → ((a b : Moved) → SameMove a b → SameCuts (go a) (to b))
    → SameCuts (then_cut r go) (then_cut s to)
then_same (Ok a) (Ok b) go to same each = after_same (option_to_list a.token) (option_to_list b.token) (go a) (to b) same.tokens (each a b same)
then_same (Err e) (Err f) go to same each = same
then_same (Ok a) (Err f) go to same each = absurd same
then_same (Err e) (Ok b) go to same each = absurd same

end_same : (m n : Mode) → SameMode m n → SameCut (record { tokens = []; open_at = open_in m }) (record { tokens = []; open_at = open_in n })
end_same mode.Fresh mode.Fresh same = record { tokens = refl; opens = tt }
end_same mode.Between mode.Between same = record { tokens = refl; opens = tt }
end_same (mode.Inside p) (mode.Inside q) same = record { tokens = refl; opens = tt }
end_same mode.Fresh mode.Between same = absurd same
end_same mode.Fresh (mode.Inside n) same = absurd same
end_same mode.Between mode.Fresh same = absurd same
end_same mode.Between (mode.Inside n) same = absurd same
end_same (mode.Inside m) mode.Fresh same = absurd same
end_same (mode.Inside m) mode.Between same = absurd same

line_same : (f g : FileOf) (i j : ℕ) (m n : Mode) (skip col : ℕ) (bytes : List ℕ) → SameMode m n
    → SameCuts (line_from f i m skip col bytes) (line_from g j n skip col bytes)
unfolding line_from
line_same f g i j m n skip col [] same = end_same m n same
line_same f g i j m n (suc skip) col (b ∷ bs) same = line_same f g i j m n skip (col + 1) bs same
line_same f g i j m n zero col (b ∷ bs) same =
    then_same (step f (span i col) m (b ∷ bs)) (step g (span j col) n (b ∷ bs)) _ _ (step_same f g i j col m n (b ∷ bs) same)
    (λ a d move. by a d move (line_same f g i j a.mode d.mode (a.len - 1) (col + 1) bs move.modes))
  where
    by : (a d : Moved) → SameMove a d → SameCuts (line_from f i a.mode (a.len - 1) (col + 1) bs) (line_from g j d.mode (a.len - 1) (col + 1) bs)
        → SameCuts (line_from f i a.mode (a.len - 1) (col + 1) bs) (line_from g j d.mode (d.len - 1) (col + 1) bs)
    by a d move h = subst (λ k. SameCuts (line_from f i a.mode (a.len - 1) (col + 1) bs) (line_from g j d.mode (k - 1) (col + 1) bs)) move.sizes h

begun_same : (p q : Option ℕ) → SameOpen p q → SameMode (begun p) (begun q)
begun_same None None same = tt
begun_same (Some p) (Some q) same = tt
begun_same None (Some q) same = absurd same
begun_same (Some p) None same = absurd same

-- ---- all lines

front_both : (a b : List Token) (r s : Result (List Token) Fault) → map unlined a ≡ map unlined b → AreSame r s → AreSame (with_front a r) (with_front b s)
front_both a b (Ok c) (Ok d) h same = both_append a b c d h same
front_both a b (Err e) (Err f) h same = same
front_both a b (Ok c) (Err f) h same = absurd same
front_both a b (Err e) (Ok d) h same = absurd same

cuts_both : (r s : Result Cut Fault) (go to : Option ℕ → Result (List Token) Fault) → SameCuts r s → ((p q : Option ℕ) → SameOpen p q → AreSame (go p) (to q))
    → AreSame (r >>= (λ c. with_front c.tokens (go c.open_at))) (s >>= (λ c. with_front c.tokens (to c.open_at)))
cuts_both (Ok a) (Ok b) go to same each = front_both a.tokens b.tokens (go a.open_at) (to b.open_at) same.tokens (each a.open_at b.open_at same.opens)
cuts_both (Err e) (Err f) go to same each = same
cuts_both (Ok a) (Err f) go to same each = absurd same
cuts_both (Err e) (Ok b) go to same each = absurd same

closed_same : (f g : FileOf) (p q : Option ℕ) → SameOpen p q → AreSame (closed f p) (closed g q)
closed_same f g None None same = refl
closed_same f g (Some p) (Some q) same = refl
closed_same f g None (Some q) same = absurd same
closed_same f g (Some p) None same = absurd same

lines_same : (f g : FileOf) (p q : Option ℕ) (xs ys : List Line) → SameOpen p q → map (λ (l : Line). l.text) xs ≡ map (λ (l : Line). l.text) ys
    → AreSame (tokens_from f p xs) (tokens_from g q ys)
unfolding tokens_from
lines_same f g p q [] [] same h = closed_same f g p q same
lines_same f g p q [] (y ∷ ys) same h = absurd cc
lines_same f g p q (x ∷ xs) [] same h = absurd cc
lines_same f g p q (x ∷ xs) (y ∷ ys) same h =
    let text : x.text ≡ y.text = cc in
    let more : map (λ (l : Line). l.text) xs ≡ map (λ (l : Line). l.text) ys = cc in
    cuts_both (cut_of f p x) (cut_of g q y) (λ o. tokens_from f o xs) (λ o. tokens_from g o ys)
    (subst (λ t. SameCuts (cut_of f p x) (line_from g y.number (begun q) 0 1 t)) text
    (line_same f g x.number y.number (begun p) (begun q) 0 1 x.text (begun_same p q same)))
    (λ a b opens. lines_same f g a b xs ys opens more)

pub relined : RelinedLaw
relined f g xs ys h = lines_same f g None None xs ys tt h
