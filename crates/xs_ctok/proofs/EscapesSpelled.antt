-- Escapes, characters and texts in quotes are spelled as the rules say, and what is spelled so is read.
use Rattle.std.proofs.Common.{◌≡◌, ℕ, zero, suc, ◌+◌, ◌*◌, ◌==◌, Bool, true, false, ◌&&◌, List, [], ◌∷◌, ◌++◌, length, drop, Option, None, Some, refl, ap, sym, ◌∙◌, subst, arith, append_assoc, append-nil}
use Rattle.std.proofs.lemmas.List.{length-append}
use Rattle.xs_base.specs.declared.fault_codes.TheConstants.{STRAY_BYTE}
use Rattle.std.proofs.lemmas.Bool.{eqb-true}
use Rattle.std.proofs.Math.Seq.{drop-append_seam}
use Rattle.std.specs.Bool.{then_some}
use Rattle.std.specs.Char.{digit_value}
use Rattle.std.specs.Prelude.{if◌then◌else◌, nat_lt, option_and_then}
use Rattle.xs_base.proofs.WordBytes.{not_this}
use Rattle.xs_values.specs.declared.literal.Base.TheVariants as base
use Rattle.xs_ctok.specs.Numerals.{is_digit_of, value_in}
use Rattle.xs_ctok.specs.QuotedTexts.{char_front, closed_front, escape_of, escaped_front, hexadecimal_escape, hexadecimal_of, long_escape, octal_escape, octal_or_zero, octal_value, on_escape, simple_escape, text_front, zero_escape}
use Rattle.xs_ctok.specs.TokenSpelling as sp
use Rattle.xs_ctok.specs.TokenSpelling.{EscapeStands, IsCharacter, StandFor, are_octal}
use Rattle.xs_ctok.specs.declared.front.Front.TheVariants as front
use Rattle.xs_ctok.specs.declared.quoted.Escape.{Escape}
use Rattle.xs_ctok.specs.declared.quoted.Escape.TheVariants as escape
use Rattle.xs_ctok.specs.declared.token.TokKind.{TokKind}
use Rattle.xs_ctok.specs.declared.token.TokKind.TheVariants as kind
use Rattle.xs_ctok.proofs.TokenSteps.{text_front-skip}
use Rattle.xs_ctok.proofs.Facts.{same_piece}

-- ---- escapes that are spelled are read

value_some : (b x : ℕ) → value_in base.Octal b ≡ Some x → is_digit_of base.Octal b ≡ true
value_some b x h = by (is_digit_of base.Octal b) h
  where
    by : (t : Bool) → then_some t (digit_value b) ≡ Some x → t ≡ true
    by true h = refl
    by false h = absurd cc

octal_head : (h m l v : ℕ) → octal_value h m l ≡ Some v → is_digit_of base.Octal h ≡ true
octal_head h m l v e = by (value_in base.Octal h) refl e
  where
    by : (o : Option ℕ) → value_in base.Octal h ≡ o
        → option_and_then (λ high. option_and_then (λ middle. option_and_then (λ low.
        if nat_lt high 4 then Some (64 * high + 8 * middle + low) else None) (value_in base.Octal l)) (value_in base.Octal m)) o ≡ Some v
        → is_digit_of base.Octal h ≡ true
    by None q e = absurd cc
    by (Some x) q e = value_some h x q

octal_plain : (h : ℕ) → is_digit_of base.Octal h ≡ true → simple_escape h ≡ None
octal_plain h d =
    let not : (c : ℕ) → is_digit_of base.Octal c ≡ false → (h == c) ≡ false = λ c other. not_this (is_digit_of base.Octal) c other h d in
    rw (not 110 refl, not 116 refl, not 114 refl, not 92 refl, not 39 refl, not 34 refl) refl

-- no two octal digits make no byte with a digit before them
no_octal : (m l : ℕ) → (is_digit_of base.Octal m && is_digit_of base.Octal l) ≡ false → octal_value 48 m l ≡ None
no_octal m l h = by (is_digit_of base.Octal m) (is_digit_of base.Octal l) h
  where
    by : (p q : Bool) → (p && q) ≡ false
        → option_and_then (λ middle. option_and_then (λ low. if nat_lt 0 4 then Some (64 * 0 + 8 * middle + low) else None) (then_some q (digit_value l)))
        (then_some p (digit_value m)) ≡ None
    by true true h = absurd cc
    by true false h = refl
    by false q h = refl

zero_done : (after : List ℕ) → are_octal after ≡ false → octal_escape 48 after ≡ escape.Stands 0 1
zero_done [] h = refl
zero_done (m ∷ []) h = refl
zero_done (m ∷ l ∷ rest) h = rw (no_octal m l h) refl

pub escape_done : {e after : List ℕ} {v : ℕ} → EscapeStands e v after → escape_of (e ++ after) ≡ escape.Stands v (length e)
unfolding escape_of
escape_done (sp.simple h) = rw h refl
escape_done (sp.hexadecimal p q) = rw (p, q) refl
escape_done (sp.octal {h = h} {m = m} {l = l} {v = v} e) =
    let d = octal_head h m l v e in
    rw (octal_plain h d, not_this (is_digit_of base.Octal) 120 refl h d, e) refl
escape_done (sp.zero_byte {after = after} h) = zero_done after h

-- ---- escapes that are read are spelled

-- an escape in front of bytes
abbrev pub Escaped : List ℕ → ℕ → ℕ → Type 0
Escaped bs v len = (e : List ℕ) × (after : List ℕ) × (bs ≡ e ++ after) × (len ≡ length e) × EscapeStands e v after

same_stands : (u v m n : ℕ) → escape.Stands u m ≡ escape.Stands v n → (v ≡ u) × (n ≡ m)
same_stands u v m n h = (cc, cc)

hexadecimal_sound : (rest : List ℕ) (v len : ℕ) → hexadecimal_escape rest ≡ escape.Stands v len → Escaped (120 ∷ rest) v len
hexadecimal_sound [] v len h = absurd cc
hexadecimal_sound (x ∷ []) v len h = by (is_digit_of base.Hexadecimal x) h
  where
    by : (t : Bool) → (if t then escape.Open else escape.Unlisted) ≡ escape.Stands v len → Escaped (120 ∷ x ∷ []) v len
    by true h = absurd cc
    by false h = absurd cc
hexadecimal_sound (x ∷ y ∷ rest) v len h = by (value_in base.Hexadecimal x) (value_in base.Hexadecimal y) refl refl h
  where
    by : (p q : Option ℕ) → value_in base.Hexadecimal x ≡ p → value_in base.Hexadecimal y ≡ q → hexadecimal_of p q ≡ escape.Stands v len
        → Escaped (120 ∷ x ∷ y ∷ rest) v len
    by (Some a) (Some b) e f h =
        let w = same_stands (16 * a + b) v 3 len h in
        (120 ∷ x ∷ y ∷ [], rest, refl, w.1, subst (λ k. EscapeStands (120 ∷ x ∷ y ∷ []) k rest) (sym w.0) (sp.hexadecimal e f))
    by (Some a) None e f h = absurd cc
    by None q e f h = absurd cc

zero_sound : (b : ℕ) (rest : List ℕ) (v len : ℕ) → are_octal rest ≡ false → zero_escape b ≡ escape.Stands v len → Escaped (b ∷ rest) v len
zero_sound b rest v len none h = by (b == 48) refl h
  where
    by : (t : Bool) → (b == 48) ≡ t → (if t then escape.Stands 0 1 else escape.Unlisted) ≡ escape.Stands v len → Escaped (b ∷ rest) v len
    by true e h =
        let w = same_stands 0 v 1 len h in (
          48 ∷ [],
          rest,
          ap (λ (k : ℕ). k ∷ rest) (eqb-true b 48 e),
          w.1,
          subst (λ k. EscapeStands (48 ∷ []) k rest) (sym w.0) (sp.zero_byte none),
        )
    by false e h = absurd cc

-- two octal digits after a `0` make a byte
octal_byte : (m l : ℕ) → octal_value 48 m l ≡ None → (is_digit_of base.Octal m && is_digit_of base.Octal l) ≡ false
octal_byte m l h = by (is_digit_of base.Octal m) (is_digit_of base.Octal l) h
  where
    by : (p q : Bool) → option_and_then (λ middle. option_and_then (λ low. if nat_lt 0 4 then Some (64 * 0 + 8 * middle + low) else None)
        (then_some q (digit_value l))) (then_some p (digit_value m)) ≡ None → (p && q) ≡ false
    by true true h = absurd cc
    by true false h = refl
    by false q h = refl

zero_after : (b m l : ℕ) (rest : List ℕ) (v len : ℕ) → octal_value b m l ≡ None → zero_escape b ≡ escape.Stands v len → Escaped (b ∷ m ∷ l ∷ rest) v len
zero_after b m l rest v len none h = by (b == 48) refl h
  where
    by : (t : Bool) → (b == 48) ≡ t → (if t then escape.Stands 0 1 else escape.Unlisted) ≡ escape.Stands v len → Escaped (b ∷ m ∷ l ∷ rest) v len
    by true e h =
        let zero : b ≡ 48 = eqb-true b 48 e in
        let apart : are_octal (m ∷ l ∷ rest) ≡ false = octal_byte m l (ap (λ k. octal_value k m l) (sym zero) ∙ none) in
        let w = same_stands 0 v 1 len h in (
          48 ∷ [],
          m ∷ l ∷ rest,
          ap (λ (k : ℕ). k ∷ m ∷ l ∷ rest) zero,
          w.1,
          subst (λ k. EscapeStands (48 ∷ []) k (m ∷ l ∷ rest)) (sym w.0) (sp.zero_byte apart),
        )
    by false e h = absurd cc

octal_sound : (b : ℕ) (rest : List ℕ) (v len : ℕ) → octal_escape b rest ≡ escape.Stands v len → Escaped (b ∷ rest) v len
octal_sound b [] v len h = zero_sound b [] v len refl h
octal_sound b (m ∷ []) v len h = zero_sound b (m ∷ []) v len refl h
octal_sound b (m ∷ l ∷ rest) v len h = by (octal_value b m l) refl h
  where
    by : (o : Option ℕ) → octal_value b m l ≡ o → octal_or_zero o b ≡ escape.Stands v len → Escaped (b ∷ m ∷ l ∷ rest) v len
    by (Some u) e h =
        let w = same_stands u v 3 len h in
        (b ∷ m ∷ l ∷ [], rest, refl, w.1, subst (λ k. EscapeStands (b ∷ m ∷ l ∷ []) k rest) (sym w.0) (sp.octal e))
    by None e h = zero_after b m l rest v len e h

pub escape_sound : (bs : List ℕ) (v len : ℕ) → escape_of bs ≡ escape.Stands v len → Escaped bs v len
unfolding escape_of
escape_sound [] v len h = absurd cc
escape_sound (b ∷ rest) v len h = by (simple_escape b) refl h
  where
    by_x : (t : Bool) → (b == 120) ≡ t → (if t then hexadecimal_escape rest else octal_escape b rest) ≡ escape.Stands v len → Escaped (b ∷ rest) v len
    by_x true e h = subst (λ k. Escaped (k ∷ rest) v len) (sym (eqb-true b 120 e)) (hexadecimal_sound rest v len h)
    by_x false e h = octal_sound b rest v len h

    by : (o : Option ℕ) → simple_escape b ≡ o → long_escape o b rest ≡ escape.Stands v len → Escaped (b ∷ rest) v len
    by (Some u) e h =
        let w = same_stands u v 1 len h in
        (b ∷ [], rest, refl, w.1, subst (λ k. EscapeStands (b ∷ []) k rest) (sym w.0) (sp.simple e))
    by None e h = by_x (b == 120) refl h

-- ---- texts

-- what stands for bytes is read as these
pub text_passes : {after s cs : List ℕ} → StandFor after s cs → (content : List ℕ) (n : ℕ)
    → text_front content n 0 (s ++ after) ≡ text_front (content ++ cs) (n + length s) 0 after
text_passes {after = after} sp.nothing content n = rw (append-nil content) (ap (λ k. text_front content k 0 after) (omega arith))
text_passes {after = after} (sp.itself {b = b} {s = s} {cs = cs} q r x) content n =
    rw (q, r) (text_passes x (content ++ b ∷ []) (n + 1)
    ∙ rw (append_assoc content (b ∷ []) cs) (ap (λ k. text_front (content ++ b ∷ cs) k 0 after) (omega arith)))
text_passes {after = after} (sp.escaped {v = v} {e = e} {s = s} {cs = cs} x y) content n =
    let split : (e ++ s) ++ after ≡ e ++ (s ++ after) = append_assoc e s after in
    rw (split, escape_done x, text_front-skip (content ++ v ∷ []) (n + 1) (length e) (e ++ (s ++ after)), drop-append_seam e (s ++ after))
    (text_passes y (content ++ v ∷ []) (n + 1 + length e)
    ∙ rw (append_assoc content (v ∷ []) cs) (ap (λ k. text_front (content ++ v ∷ cs) k 0 after) (omega (arith, length-append e s))))

pub text_done : {after s cs : List ℕ} → StandFor (34 ∷ after) s cs → (content : List ℕ) (n : ℕ)
    → text_front content n 0 (s ++ 34 ∷ after) ≡ front.Piece (kind.Text (content ++ cs)) (n + length s + 1)
text_done x content n = text_passes x content n

-- From a place in a text on it goes on by s up to its quote.
abbrev pub TextEnds : List ℕ → ℕ → List ℕ → TokKind → ℕ → Type 0
TextEnds content n bs t len =
    (s : List ℕ) × (cs : List ℕ) × (after : List ℕ) × (bs ≡ s ++ 34 ∷ after) × StandFor (34 ∷ after) s cs × (t ≡ kind.Text (content ++ cs))
    × (len ≡ n + length s + 1)

text_more : (content cs : List ℕ) (v : ℕ) (t : TokKind) → t ≡ kind.Text ((content ++ v ∷ []) ++ cs) → t ≡ kind.Text (content ++ v ∷ cs)
text_more content cs v t e = e ∙ ap (λ l. kind.Text l) (append_assoc content (v ∷ []) cs)

-- the rest of a text, read after this byte and a further so many bytes
abbrev Goes : List ℕ → List ℕ → ℕ → TokKind → ℕ → Type 0
Goes bs content n t len =
    (v m : ℕ) → text_front (content ++ v ∷ []) (n + 1) m bs ≡ front.Piece t len → TextEnds (content ++ v ∷ []) (n + 1 + m) (drop m bs) t len

by_escape : (bs content : List ℕ) (n : ℕ) (t : TokKind) (len : ℕ) → Goes bs content n t len → (x : Escape) → escape_of bs ≡ x
    → on_escape x (λ value size. text_front (content ++ value ∷ []) (n + 1) size bs) ≡ front.Piece t len → TextEnds content n (92 ∷ bs) t len
by_escape bs content n t len goes (escape.Stands v size) is h =
    let x = escape_sound bs v size is in
    let back : drop size bs ≡ x.1 = ap (drop size) x.2 ∙ ap (λ k. drop k (x.0 ++ x.1)) x.3 ∙ drop-append_seam x.0 x.1 in
    let w = goes v size h in
    let tails : x.1 ≡ w.0 ++ 34 ∷ w.2 = sym back ∙ w.3 in (
      92 ∷ (x.0 ++ w.0),
      v ∷ w.1,
      w.2,
      ap (λ (l : List ℕ). 92 ∷ l) (x.2 ∙ ap (λ (l : List ℕ). x.0 ++ l) tails ∙ sym (append_assoc x.0 w.0 (34 ∷ w.2))),
      sp.escaped (subst (λ l. EscapeStands x.0 v l) tails x.4) w.4,
      text_more content w.1 v t w.5,
      omega (arith, w.6, x.3, length-append x.0 w.0),
    )
by_escape bs content n t len goes escape.Unlisted is h = absurd cc
by_escape bs content n t len goes escape.Open is h = absurd cc

pub text_sound : (bs content : List ℕ) (n skip : ℕ) (t : TokKind) (len : ℕ) → text_front content n skip bs ≡ front.Piece t len
    → TextEnds content (n + skip) (drop skip bs) t len
text_sound [] content n skip t len h = absurd cc
text_sound (b ∷ bs) content n (suc skip) t len h =
    let place : n + 1 + skip ≡ n + suc skip = omega arith in
    subst (λ k. TextEnds content k (drop skip bs) t len) place (text_sound bs content (n + 1) skip t len h)
text_sound (b ∷ bs) content n zero t len h =
    let here : n ≡ n + 0 = omega arith in
    subst (λ k. TextEnds content k (b ∷ bs) t len) here (by_quote (λ v m. text_sound bs (content ++ v ∷ []) (n + 1) m t len) (b == 34) refl h)
  where
    by_slash : Goes bs content n t len → (b == 34) ≡ false → (c : Bool) → (b == 92) ≡ c
        → (if c then on_escape (escape_of bs) (λ value size. text_front (content ++ value ∷ []) (n + 1) size bs)
        else text_front (content ++ b ∷ []) (n + 1) 0 bs) ≡ front.Piece t len → TextEnds content n (b ∷ bs) t len
    by_slash goes q true e h =
        subst (λ k. TextEnds content n (k ∷ bs) t len) (sym (eqb-true b 92 e)) (by_escape bs content n t len goes (escape_of bs) refl h)
    by_slash goes q false e h =
        let w = goes b 0 h in
        (b ∷ w.0, b ∷ w.1, w.2, ap (λ (l : List ℕ). b ∷ l) w.3, sp.itself q e w.4, text_more content w.1 b t w.5, omega (arith, w.6))

    by_quote : Goes bs content n t len → (c : Bool) → (b == 34) ≡ c
        → (if c then front.Piece (kind.Text content) (n + 1) else (if b == 92 then on_escape (escape_of bs)
        (λ value size. text_front (content ++ value ∷ []) (n + 1) size bs) else text_front (content ++ b ∷ []) (n + 1) 0 bs)) ≡ front.Piece t len
        → TextEnds content n (b ∷ bs) t len
    by_quote goes true e h =
        let w = same_piece (kind.Text content) t (n + 1) len h in
        ([], [], bs, ap (λ (k : ℕ). k ∷ bs) (eqb-true b 34 e), sp.nothing, sym w.0 ∙ ap (λ l. kind.Text l) (sym (append-nil content)), omega (arith, w.1))
    by_quote goes false e h = by_slash goes e (b == 92) refl h

-- ---- characters

pub char_done : {rest s : List ℕ} {value : ℕ} → IsCharacter (39 ∷ rest) s value
    → char_front (s ++ 39 ∷ rest) ≡ front.Piece (kind.Char value) (1 + length s + 1)
unfolding char_front
char_done (sp.plain {b = b} p q) = rw (p, q) refl
char_done {rest = rest} (sp.escaped {v = v} {e = e} x) =
    rw (escape_done x, drop-append_seam e (39 ∷ rest)) (ap (λ k. front.Piece (kind.Char v) k) (omega arith))

-- a character literal ends
abbrev pub CharEnds : List ℕ → TokKind → ℕ → Type 0
CharEnds bs t len =
    (s : List ℕ) × (value : ℕ) × (rest : List ℕ) × (bs ≡ s ++ 39 ∷ rest) × IsCharacter (39 ∷ rest) s value × (t ≡ kind.Char value) × (len ≡ 1 + length s + 1)

closed_sound : (value n : ℕ) (bs : List ℕ) (t : TokKind) (len : ℕ) → closed_front value n bs ≡ front.Piece t len
    → (rest : List ℕ) × (bs ≡ 39 ∷ rest) × (t ≡ kind.Char value) × (len ≡ n + 1)
closed_sound value n [] t len h = absurd cc
closed_sound value n (b ∷ bs) t len h = by (b == 39) refl h
  where
    by : (c : Bool) → (b == 39) ≡ c → (if c then front.Piece (kind.Char value) (n + 1) else front.Refused STRAY_BYTE) ≡ front.Piece t len
        → (rest : List ℕ) × (b ∷ bs ≡ 39 ∷ rest) × (t ≡ kind.Char value) × (len ≡ n + 1)
    by true e h =
        let w = same_piece (kind.Char value) t (n + 1) len h in
        (bs, ap (λ (k : ℕ). k ∷ bs) (eqb-true b 39 e), sym w.0, w.1)
    by false e h = absurd cc

escaped_sound : (bs : List ℕ) (t : TokKind) (len : ℕ) (x : Escape) → escape_of bs ≡ x → escaped_front x bs ≡ front.Piece t len → CharEnds (92 ∷ bs) t len
escaped_sound bs t len (escape.Stands v size) is h =
    let x = escape_sound bs v size is in
    let back : drop size bs ≡ x.1 = ap (drop size) x.2 ∙ ap (λ k. drop k (x.0 ++ x.1)) x.3 ∙ drop-append_seam x.0 x.1 in
    let w = closed_sound v (2 + size) (drop size bs) t len h in
    let tails : x.1 ≡ 39 ∷ w.0 = sym back ∙ w.1 in (
      92 ∷ x.0,
      v,
      w.0,
      ap (λ (l : List ℕ). 92 ∷ l) (x.2 ∙ ap (λ (l : List ℕ). x.0 ++ l) tails),
      sp.escaped (subst (λ l. EscapeStands x.0 v l) tails x.4),
      w.2,
      omega (arith, w.3, x.3),
    )
escaped_sound bs t len escape.Unlisted is h = absurd cc
escaped_sound bs t len escape.Open is h = absurd cc

pub char_sound : (bs : List ℕ) (t : TokKind) (len : ℕ) → char_front bs ≡ front.Piece t len → CharEnds bs t len
unfolding char_front
char_sound [] t len h = absurd cc
char_sound (b ∷ bs) t len h = by_quote (b == 39) refl h
  where
    by_slash : (b == 39) ≡ false → (c : Bool) → (b == 92) ≡ c → (if c then escaped_front (escape_of bs) bs else closed_front b 2 bs) ≡ front.Piece t len
        → CharEnds (b ∷ bs) t len
    by_slash q true e h = subst (λ k. CharEnds (k ∷ bs) t len) (sym (eqb-true b 92 e)) (escaped_sound bs t len (escape_of bs) refl h)
    by_slash q false e h =
        let w = closed_sound b 2 bs t len h in
        (b ∷ [], b, w.0, ap (λ (l : List ℕ). b ∷ l) w.1, sp.plain q e, w.2, omega (arith, w.3))

    by_quote : (c : Bool) → (b == 39) ≡ c
        → (if c then front.Refused STRAY_BYTE else (if b == 92 then escaped_front (escape_of bs) bs else closed_front b 2 bs)) ≡ front.Piece t len
        → CharEnds (b ∷ bs) t len
    by_quote true e h = absurd cc
    by_quote false e h = by_slash e (b == 92) refl h
