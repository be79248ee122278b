-- What is read as an expression with brackets stands there by the grammar.
use Rattle.std.proofs.Common.{◌≡◌, ℕ, zero, suc, ◌+◌, ◌<◌, ◌≤◌, Bool, true, false, List, [], ◌∷◌, ◌++◌, length, refl, ap, ◌∙◌, subst, arith, if◌then◌else◌, Ok}
use Rattle.xs_script.specs.declared.line_part.Token.{Token}
use Rattle.xs_script.specs.declared.line_part.Token.TheVariants as token
use Rattle.xs_script.specs.declared.line_part.Mark.{Mark}
use Rattle.xs_script.specs.declared.line_part.Mark.TheVariants as mark
use Rattle.xs_script.specs.declared.line_part.Kind.TheVariants as kind
use Rattle.xs_script.specs.CommandTree as p
use Rattle.xs_script.specs.CommandTree.{Expr, exprs_of, entries_of}
use Rattle.xs_script.specs.Form as f
use Rattle.xs_script.specs.Form.{Form, Forms, Pairs}
use Rattle.xs_script.specs.ScriptGrammar as g
use Rattle.xs_script.specs.ScriptGrammar.{Stands, Elements, Entries}
use Rattle.xs_base.proofs.ReaderSteps.{same_outcome, bind_ok}
use Rattle.xs_base.specs.Readers.{and_then, tail, pure, ◌<$>◌, ◌>>◌}
use Rattle.xs_script.specs.PartInput.{Input, Reader, sees, next, left, after, expect, opened, part}
use Rattle.xs_script.specs.Value.{Bracket, InList, InHash, Partial, begins, ends, kept, inside, finished, turns, value, begin, begin_other, in_bracket, in_square, in_curly, goes_on, follow, follow_list, follow_hash, key, keyed, simple}
use Rattle.xs_script.proofs.PartsSound.{sees_sound, expect_sound, text_sound, Standing, same_parts, simple_sound, rest_of}

-- ---- what the turns come to

-- From an input on something stands by a rule, and after it fewer turns come to the same end.
abbrev GoesBy : {X : Type 0} → Bool → (X → List Token → List Token → Type 0) → List Bracket → Input → Expr × Input → ℕ → Type 0
GoesBy {X} s stands around i r n = (x : X) × (j : Input) × (v : Expr) × (m : ℕ) × stands x i.rest j.rest × (m < n) × (turns s m (ends around v) j ≡ Ok r)

abbrev Goes : Bool → List Bracket → Input → Expr × Input → ℕ → Type 0
Goes s = GoesBy s (Stands s)

abbrev GoesList : Bool → List Bracket → Input → Expr × Input → ℕ → Type 0
GoesList s = GoesBy s (Elements mark.CloseSquare s)

abbrev GoesPairs : Bool → List Bracket → Input → Expr × Input → ℕ → Type 0
GoesPairs s = GoesBy s (Entries s)

abbrev FormSound : Bool → ℕ → Type 0
FormSound s b = (n : ℕ) → n ≤ b → (around : List Bracket) (i : Input) (r : Expr × Input) → turns s n (begins around) i ≡ Ok r → Goes s around i r n

no_turns : (s : Bool) (partial : Partial) (i : Input) (r : Expr × Input) → turns s 0 partial i ≡ Ok r → ⊥
unfolding turns
no_turns s partial i r h = cc

moved : (s : Bool) (n : ℕ) (p q : Partial) (i j : Input) (r : Expr × Input) → p ≡ q → i ≡ j → turns s n q j ≡ Ok r → turns s n p i ≡ Ok r
moved s n p q i j r e e' h = rw (e, e') h

-- in this bracket an expression has ended, and the bracket goes on
ended_in : (s : Bool) (inner : Bracket) (around : List Bracket) (v : Expr) (j : Input) (r : Expr × Input) (m : ℕ) → turns s m (ends (inner ∷ around) v) j ≡ Ok r
    → (k : ℕ) × (k < m) × (and_then (follow inner v around j) (turns s k) ≡ Ok r)
unfolding turns
ended_in s inner around v j r zero h = absurd (no_turns s (ends (inner ∷ around) v) j r h)
ended_in s inner around v j r (suc k) h = (k, omega arith, h)

-- ---- what stands in brackets

-- One more stands up to here, and the bracket goes on.
abbrev Ended : {A : Type 0} → Bool → Mark → (List A → List Bracket → Reader Partial) → (List A → Expr) → (List Token → List Token → Type 0) → List A
    → List Bracket → Input → Expr × Input → ℕ → Type 0
Ended {A} s closing at_one whole One items around i r n =
    (a : A) × (j : Input) × (m : ℕ) × (m < n) × One i.rest j.rest
    × (and_then (goes_on closing (at_one (items ++ a ∷ []) around) (whole (items ++ a ∷ [])) around j) (turns s m) ≡ Ok r)

-- A kind of bracket: where one more of what stands in it begins, and what all of them make. The rules are those of the grammar.
module _ (s : Bool) {A X : Type 0} (closing : Mark) (at_one : List A → List Bracket → Reader Partial) (whole : List A → Expr) (One : List Token → List Token
    → Type 0) (stands : X → List Token → List Token → Type 0)
    (more : (ts us vs : List Token) (x : X) → One ts (token.Mark mark.Comma ∷ us) → stands x us vs → (y : X) × stands y ts vs) (last : (ts us : List Token)
    → One ts (token.Mark closing ∷ us) → (y : X) × stands y ts us) where
  after_one : (again : Reader Partial) (made : Expr) (around : List Bracket) (i j : Input) (r : Expr × Input) (m n : ℕ) → m < n → One i.rest j.rest
      → and_then (goes_on closing again made around j) (turns s m) ≡ Ok r
      → (and_then (again (next j)) (turns s m) ≡ Ok r → GoesBy s stands around (next j) r m) → GoesBy s stands around i r n
  unfolding after next
  after_one again made around i j r m n less x h rest =
      let q = bind_ok (goes_on closing again made around j) (turns s m) r h in
      by_comma q.0 q.1 q.3 (sees mark.Comma j) refl q.2
    where
      by_comma : (q : Partial) (k : Input) → turns s m q k ≡ Ok r → (b : Bool) → sees mark.Comma j ≡ b
          → (if b then again else (expect closing >> pure (finished around made))) (if b then next j else j) ≡ Ok (q, k) → GoesBy s stands around i r n
      by_comma q k t true c h =
          let begun : and_then (again (next j)) (turns s m) ≡ Ok r = rw h t in
          let w = rest begun in
          let y = more i.rest (next j).rest w.1.rest w.0 (subst (λ (l : List Token). One i.rest l) (sees_sound mark.Comma j c) x) w.4 in
          (y.0, w.1, w.2, w.3, y.1, omega (arith, less, w.5), w.6)
      by_comma q k t false c h =
          let u = bind_ok (expect closing j) (λ _. pure (finished around made)) (q, k) h in
          let o = same_outcome (finished around made) q u.1 k u.3 in
          let y = last i.rest u.1.rest (subst (λ (l : List Token). One i.rest l) (expect_sound closing j u.1 u.0 u.2) x) in
          (y.0, u.1, kept around made, m, y.1, less, moved s m (finished around made) q u.1 k r o.0 o.1 t)

  each_sound : (b : ℕ) → ((n : ℕ) → n ≤ b → (items : List A) (around : List Bracket) (i : Input) (r : Expr × Input)
      → and_then (at_one items around i) (turns s n) ≡ Ok r → Ended s closing at_one whole One items around i r n)
      → (c n : ℕ) → n ≤ c → n ≤ b → (items : List A) (around : List Bracket) (i : Input) (r : Expr × Input) → and_then (at_one items around i) (turns s n)
      ≡ Ok r → GoesBy s stands around i r n
  each_sound b one zero n few some items around i r h = let q = one n some items around i r h in absurd (omega (arith, q.3))
  each_sound b one (suc c) n few some items around i r h =
      let q = one n some items around i r h in
      after_one (at_one (items ++ q.0 ∷ []) around) (whole (items ++ q.0 ∷ [])) around i q.1 r q.2 n q.3 q.4 q.5
      (λ h'. each_sound b one c q.2 (omega (arith, q.3)) (omega (arith, q.3)) (items ++ q.0 ∷ []) around (next q.1) r h')

module _ (s : Bool) where
  -- ---- arrays

  one_element : (b : ℕ) → FormSound s b → (n : ℕ) → n ≤ b → (items : List Expr) (around : List Bracket) (i : Input) (r : Expr × Input)
      → turns s n (inside (InList items) around) i ≡ Ok r
      → Ended s mark.CloseSquare (λ items around. pure (inside (InList items) around)) (λ items. p.ListOf (exprs_of items)) (λ ts us. (e : Form)
      × Stands s e ts us) items around i r n
  unfolding follow_list
  one_element b H n some items around i r h =
      let w = H n some (InList items ∷ around) i r h in
      let z = ended_in s (InList items) around w.2 w.1 r w.3 w.6 in
      (w.2, w.1, z.0, omega (arith, z.1, w.5), (w.0, w.4), z.2)

  elements_sound : (b : ℕ) → FormSound s b → (n : ℕ) → n ≤ b → (around : List Bracket) (i : Input) (r : Expr × Input)
      → turns s n (inside (InList []) around) i ≡ Ok r → GoesList s around i r n
  elements_sound b H n some around i r h =
      each_sound s mark.CloseSquare (λ items around. pure (inside (InList items) around)) (λ items. p.ListOf (exprs_of items)) (λ ts us. (e : Form)
      × Stands s e ts us) (Elements mark.CloseSquare s)
      (λ ts us vs fs x y. (f.MoreForms x.0 fs, g.more_elements x.1 y)) (λ ts us x. (f.MoreForms x.0 f.NoForm, g.last_element x.1))
      b (one_element b H) n n (omega arith) some [] around i r h

  -- ---- hashes

  key_sound : (i j : Input) (k : List ℕ) → key i ≡ Ok (k, j) → i.rest ≡ token.Text k ∷ token.Mark mark.Arrow ∷ j.rest
  unfolding key
  key_sound i j k h =
      let q = bind_ok (part kind.Text i) (λ name. expect mark.Arrow >> pure name) (k, j) h in
      let u = bind_ok (expect mark.Arrow q.1) (λ _. pure q.0) (k, j) q.3 in
      let o = same_outcome q.0 k u.1 j u.3 in
      text_sound i q.1 q.0 q.2 ∙ ap (λ (l : List Token). token.Text q.0 ∷ l) (expect_sound mark.Arrow q.1 u.1 u.0 u.2)
      ∙ ap (λ (c : List ℕ). token.Text c ∷ token.Mark mark.Arrow ∷ u.1.rest) o.0
      ∙ ap (λ (l : List Token). token.Text k ∷ token.Mark mark.Arrow ∷ l) (rest_of u.1 j o.1)

  -- a key, its arrow and its value
  abbrev Pair : List Token → List Token → Type 0
  Pair ts us = (k : List ℕ) × (e : Form) × (vs : List Token) × (ts ≡ token.Text k ∷ token.Mark mark.Arrow ∷ vs) × Stands s e vs us

  one_pair : (b : ℕ) → FormSound s b → (n : ℕ) → n ≤ b → (entries : List (List ℕ × Expr)) (around : List Bracket) (i : Input) (r : Expr × Input)
      → and_then (keyed entries around i) (turns s n) ≡ Ok r
      → Ended s mark.CloseCurly keyed (λ entries. p.HashOf (entries_of entries)) Pair entries around i r n
  unfolding follow_hash
  one_pair b H n some entries around i r h =
      let q = bind_ok (keyed entries around i) (turns s n) r h in
      let u = bind_ok (key i) (λ name. pure (inside (InHash entries name) around)) (q.0, q.1) q.2 in
      let o = same_outcome (inside (InHash entries u.0) around) q.0 u.1 q.1 u.3 in
      let w = H n some (InHash entries u.0 ∷ around) u.1 r (moved s n (inside (InHash entries u.0) around) q.0 u.1 q.1 r o.0 o.1 q.3) in
      let z = ended_in s (InHash entries u.0) around w.2 w.1 r w.3 w.6 in
      ((u.0, w.2), w.1, z.0, omega (arith, z.1, w.5), (u.0, w.0, u.1.rest, key_sound i u.1 u.0 u.2, w.4), z.2)

  entries_sound : (b : ℕ) → FormSound s b → (n : ℕ) → n ≤ b → (around : List Bracket) (i : Input) (r : Expr × Input)
      → and_then (keyed [] around i) (turns s n) ≡ Ok r → GoesPairs s around i r n
  entries_sound b H n some around i r h =
      each_sound s mark.CloseCurly keyed (λ entries. p.HashOf (entries_of entries)) Pair (Entries s)
      (λ ts us vs ps x y. (
        f.MorePairs x.0 x.1 ps,
        same_parts (λ (l : List Token). Entries s (f.MorePairs x.0 x.1 ps) l vs) ts
            (token.Text x.0 ∷ token.Mark mark.Arrow ∷ x.2) x.3 (g.more_pairs x.4 y),
      ))
      (λ ts us x. (
        f.MorePairs x.0 x.1 f.NoPair,
        same_parts (λ (l : List Token). Entries s (f.MorePairs x.0 x.1 f.NoPair) l us) ts
            (token.Text x.0 ∷ token.Mark mark.Arrow ∷ x.2) x.3 (g.last_pair x.4),
      ))
      b (one_pair b H) n n (omega arith) some [] around i r h

  -- ---- where an expression begins

  abbrev after_first : List Bracket → Input → Input
  after_first around i = opened (length around + 1) (next i)

  -- a bracket of either kind, and what stands in it, if something does
  bracket_sound : {X : Type 0} (opening closing : Mark) (empty : Form) (v : Expr) (made_of : X → Form) (stands : X → List Token → List Token
      → Type 0) (first : Reader Partial)
      → ((ts : List Token) → Stands s empty (token.Mark opening ∷ token.Mark closing ∷ ts) ts)
      → ((x : X) (ts us : List Token) → stands x ts us → Stands s (made_of x) (token.Mark opening ∷ ts) us)
      → (m : ℕ) (around : List Bracket) (i k : Input) (q : Partial) (r : Expr × Input)
      → (and_then (first (after_first around i)) (turns s m) ≡ Ok r → GoesBy s stands around (after_first around i) r m)
      → i.rest ≡ token.Mark opening ∷ tail i.rest → in_bracket closing v first around (next i) ≡ Ok (q, k) → turns s m q k ≡ Ok r → Goes s around i r (suc m)
  unfolding opened next after sees
  bracket_sound opening closing empty v made_of stands first nothing some m around i k q r go at h t = by_empty (sees closing (after_first around i)) refl h
    where
      by_empty : (c : Bool) → sees closing (after_first around i) ≡ c
          → (if c then pure (finished around v) else first) (if c then next (after_first around i) else after_first around i) ≡ Ok (q, k)
          → Goes s around i r (suc m)
      by_empty true c h =
          let o = same_outcome (finished around v) q (next (after_first around i)) k h in
          let two = at ∙ ap (λ (l : List Token). token.Mark opening ∷ l) (sees_sound closing (after_first around i) c) in (
            empty,
            next (after_first around i),
            kept around v,
            m,
            same_parts (λ (l : List Token). Stands s empty l (tail (tail i.rest))) i.rest
                (token.Mark opening ∷ token.Mark closing ∷ tail (tail i.rest)) two (nothing (tail (tail i.rest))),
            omega arith,
            moved s m (finished around v) q (next (after_first around i)) k r o.0 o.1 t,
          )
      by_empty false c h =
          let begun : and_then (first (after_first around i)) (turns s m) ≡ Ok r = rw h t in
          let w = go begun in (
            made_of w.0,
            w.1,
            w.2,
            w.3,
            same_parts (λ (l : List Token). Stands s (made_of w.0) l w.1.rest) i.rest (token.Mark opening ∷ tail i.rest) at
                (some w.0 (tail i.rest) w.1.rest w.4),
            omega (arith, w.5),
            w.6,
          )

  square_sound : (b : ℕ) → FormSound s b → (m : ℕ) → m ≤ b → (around : List Bracket) (i k : Input) (q : Partial) (r : Expr × Input)
      → i.rest ≡ token.Mark mark.OpenSquare ∷ tail i.rest
      → in_square around (next i) ≡ Ok (q, k) → turns s m q k ≡ Ok r → Goes s around i r (suc m)
  unfolding in_square
  square_sound b H m few around i k q r at h t =
      bracket_sound mark.OpenSquare mark.CloseSquare (f.ListOf f.NoForm) (p.ListOf p.NoMore) f.ListOf (Elements mark.CloseSquare s)
      (pure (inside (InList []) around))
      (λ ts. g.array g.nothing_in) (λ fs ts us x. g.array (g.elements_in x)) m around i k q r
      (λ h'. elements_sound b H m few around (after_first around i) r h') at h t

  curly_sound : (b : ℕ) → FormSound s b → (m : ℕ) → m ≤ b → (around : List Bracket) (i k : Input) (q : Partial) (r : Expr × Input)
      → i.rest ≡ token.Mark mark.OpenCurly ∷ tail i.rest
      → in_curly around (next i) ≡ Ok (q, k) → turns s m q k ≡ Ok r → Goes s around i r (suc m)
  unfolding in_curly
  curly_sound b H m few around i k q r at h t =
      bracket_sound mark.OpenCurly mark.CloseCurly (f.HashOf f.NoPair) (p.HashOf p.NoEntry) f.HashOf (Entries s) (keyed [] around)
      (λ ts. g.no_pairs) (λ ps ts us x. g.pairs x) m around i k q r (λ h'. entries_sound b H m few around (after_first around i) r h') at h t

  begin_sound : (b : ℕ) → FormSound s b → (m : ℕ) → m ≤ b → (around : List Bracket) (i : Input) (r : Expr × Input) → turns s (suc m) (begins around) i ≡ Ok r
      → Goes s around i r (suc m)
  unfolding turns begin after
  begin_sound b H m few around i r h =
      let q = bind_ok (begin s around i) (turns s m) r h in
      by_list q.0 q.1 q.3 (sees mark.OpenSquare i) refl q.2
    where
      by_hash : (q : Partial) (k : Input) → turns s m q k ≡ Ok r → (c : Bool) → sees mark.OpenCurly i ≡ c
          → (if c then in_curly around else (ends around <$> simple s)) (if c then next i else i) ≡ Ok (q, k) → Goes s around i r (suc m)
      by_hash q k t true c h = curly_sound b H m few around i k q r (sees_sound mark.OpenCurly i c) h t
      by_hash q k t false c h =
          let u = bind_ok (simple s i) (λ e. pure (ends around e)) (q, k) h in
          let o = same_outcome (ends around u.0) q u.1 k u.3 in
          let x = simple_sound s i u.1 u.0 u.2 in
          (x.0, u.1, u.0, m, x.1, omega arith, moved s m (ends around u.0) q u.1 k r o.0 o.1 t)

      by_list : (q : Partial) (k : Input) → turns s m q k ≡ Ok r → (c : Bool) → sees mark.OpenSquare i ≡ c
          → (if c then in_square around else begin_other s around) (if c then next i else i) ≡ Ok (q, k) → Goes s around i r (suc m)
      by_list q k t true c h = square_sound b H m few around i k q r (sees_sound mark.OpenSquare i c) h t
      by_list q k t false c h = by_hash q k t (sees mark.OpenCurly i) refl h

  form_sound : (b : ℕ) → FormSound s b
  form_sound b zero few around i r h = absurd (no_turns s (begins around) i r h)
  form_sound zero (suc n) few around i r h = absurd (omega arith)
  form_sound (suc b) (suc n) few around i r h = begin_sound b (form_sound b) n (omega arith) around i r h

  ended_sound : (m : ℕ) (v w : Expr) (j k : Input) → turns s m (ends [] v) j ≡ Ok (w, k) → j ≡ k
  unfolding turns
  ended_sound zero v w j k h = absurd cc
  ended_sound (suc m) v w j k h = (same_outcome v w j k h).1

  -- an expression that is read stands there
  pub value_sound : (i j : Input) (v : Expr) → value s i ≡ Ok (v, j) → Standing s i j
  unfolding value
  value_sound i j v h =
      let w = form_sound (left i + 1) (left i + 1) (omega arith) [] i (v, j) h in
      (w.0, subst (λ (l : Input). Stands s w.0 i.rest l.rest) (ended_sound w.3 w.2 v w.1 j w.6) w.4)
