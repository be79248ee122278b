-- Lines that have tokens add them to the tokens of the lines after them.
use Rattle.std.proofs.Common.{◌≡◌, ℕ, List, [], ◌∷◌, ◌++◌, Option, None, Some, Result, Ok, Err, refl, ap, sym, ◌∙◌}
use Rattle.xs_base.specs.Reading.{◌>>=◌, with_front}
use Rattle.xs_base.specs.declared.fault.Fault.{Fault}
use Rattle.xs_base.specs.declared.source.FileOf.{FileOf}
use Rattle.xs_base.specs.declared.source.Line.{Line}
use Rattle.xs_base.proofs.Collecting.{with_front-with_front}
use Rattle.xs_ctok.specs.Laws.{AreAlone, JoinedLaw}
use Rattle.xs_ctok.specs.Tokens.{Cut, cut_of, tokens_from, tokens_of}
use Rattle.xs_ctok.specs.declared.token.Token.{Token}
use Rattle.xs_ctok.proofs.Facts.{front_ok}

no_front : (r : Result (List Token) Fault) → with_front [] r ≡ r
no_front (Ok ts) = refl
no_front (Err f) = refl

pub joined_from : (file : FileOf) (opened : Option ℕ) (xs ys : List Line) (ts : List Token) → tokens_from file opened xs ≡ Ok ts
    → tokens_from file opened (xs ++ ys) ≡ with_front ts (tokens_from file None ys)
unfolding tokens_from
joined_from file None [] ys ts h =
    let e : [] ≡ ts = cc in
    sym (no_front (tokens_from file None ys)) ∙ ap (λ (l : List Token). with_front l (tokens_from file None ys)) e
joined_from file (Some n) [] ys ts h = absurd cc
joined_from file opened (x ∷ xs) ys ts h = by (cut_of file opened x) (λ o. joined_from file o xs ys) h
  where
    by : (r : Result Cut Fault)
        → ((o : Option ℕ) (us : List Token) → tokens_from file o xs ≡ Ok us → tokens_from file o (xs ++ ys) ≡ with_front us (tokens_from file None ys))
        → (r >>= (λ c. with_front c.tokens (tokens_from file c.open_at xs))) ≡ Ok ts
        → (r >>= (λ c. with_front c.tokens (tokens_from file c.open_at (xs ++ ys)))) ≡ with_front ts (tokens_from file None ys)
    by (Ok c) ih h =
        let p = front_ok c.tokens (tokens_from file c.open_at xs) ts h in
        ap (with_front c.tokens) (ih c.open_at p.0 p.1) ∙ with_front-with_front c.tokens p.0 (tokens_from file None ys)
        ∙ ap (λ (l : List Token). with_front l (tokens_from file None ys)) (sym p.2)
    by (Err f) ih h = absurd cc

pub alone_together : (file : FileOf) (lines : List Line) (ts : List Token) → AreAlone file lines ts → tokens_of file lines ≡ Ok ts
unfolding tokens_from
alone_together file [] ts h = ap (λ (l : List Token). let q : Result (List Token) Fault = Ok l in q) (sym h)
alone_together file (line ∷ lines) ts h =
    rw (h.2, alone_together file lines h.1 h.3) (ap (λ (l : List Token). let q : Result (List Token) Fault = Ok l in q) (sym h.4))

pub joined_law : JoinedLaw
joined_law = record { joined = λ file xs ys ts h. joined_from file None xs ys ts h; alone = alone_together }
