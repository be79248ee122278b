-- What bytes are cut into is spelled by them.
use Rattle.std.proofs.Common.{◌≡◌, ℕ, zero, suc, ◌+◌, ◌-◌, ◌*◌, ◌≤◌, ◌==◌, Bool, true, false, ◌&&◌, not, List, [], ◌∷◌, ◌++◌, length, length-drop, drop, Option, Some, None, Result, Ok, Err, refl, ap, sym, ◌∙◌, subst, arith, append_assoc, if◌then◌else◌}
use Rattle.std.proofs.lemmas.Bool.{and_parts, eqb-true}
use Rattle.std.proofs.lemmas.List.{append-nil, length-append}
use Rattle.std.proofs.Math.Seq.{drop-append_seam}
use Rattle.std.specs.List.{list_all}
use Rattle.std.specs.Option.{option_map, option_to_list}
use Rattle.std.specs.Prelude.{codes, is_some}
use Rattle.xs_script.specs.declared.line_parts.TextState.{TextState}
use Rattle.xs_script.specs.declared.line_parts.TextState.TheVariants as text_state
use Rattle.xs_script.specs.declared.line_part.Front.{Front}
use Rattle.xs_script.specs.declared.line_part.Front.TheVariants as front
use Rattle.xs_script.specs.declared.line_part.Mark.{Mark}
use Rattle.xs_script.specs.declared.line_part.Mark.TheVariants as mark
use Rattle.xs_script.specs.declared.line_part.Token.{Token}
use Rattle.xs_script.specs.declared.line_part.Token.TheVariants as token
use Rattle.xs_base.specs.Names.{is_qualified_name}
use Rattle.xs_base.specs.Readers.{head_is}
use Rattle.xs_base.specs.ByteRuns.{after_run, belongs, front_of}
use Rattle.xs_base.specs.Scanning.{strip_prefix, starts_with, begins_word, is_blank, is_ascii_digit}
use Rattle.xs_base.specs.declared.byte_runs.ByteClass.TheVariants.{Digit, Name}
use Rattle.xs_base.proofs.FrontRuns.{front_after, front_belongs, after_stops, word_in_front}
use Rattle.xs_base.proofs.Qualified.{qualified_joined}
use Rattle.xs_base.specs.Reading.{with_front}
use Rattle.xs_script.specs.PartInput.{mark_byte}
use Rattle.xs_script.specs.LineOutcomes.{NoReading}
use Rattle.xs_script.specs.Lex.{hex_value, escape_value, name_before, name_front, number_front, signed_number, text_front, mark_front, single, alone, first_part, by_front, tokens_from, tokens_of, on_step, text_step, to_plain, high_digit, low_digit, closes}
use Rattle.xs_script.specs.Spelling as sp
use Rattle.xs_script.specs.Spelling.{StandFor, Spelled, mark_text}
use Rattle.xs_script.proofs.LexSteps.{tokens_from-skip}

-- ---- one part

front_ok : (t : Token) (r : Result (List Token) NoReading) (ts : List Token) → with_front (t ∷ []) r ≡ Ok ts → (us : List Token) × (r ≡ Ok us) × (ts ≡ t ∷ us)
front_ok t (Ok us) ts h = (us, refl, let e : t ∷ us ≡ ts = cc in sym e)
front_ok t (Err e) ts h = absurd cc

-- the parts after the front are spelled by the bytes after it
abbrev Again : List ℕ → Type 0
Again bs = (len : ℕ) (ts : List Token) → tokens_from len bs ≡ Ok ts → Spelled ts (drop len bs)

abbrev parts_after : List ℕ → ℕ → Result (List Token) NoReading
parts_after bs skip = tokens_from skip bs

-- a part in front of bytes, and parts that are spelled by the bytes after it
part_sound : (c : ℕ) (k rest : List ℕ) (b : ℕ) (bs : List ℕ) (t : Token) (ts : List Token) → Again bs → c ∷ k ++ rest ≡ b ∷ bs
    → by_front (front.Piece t (suc (length k))) (parts_after bs) ≡ Ok ts
    → ((us : List Token) → Spelled us rest → Spelled (t ∷ us) (c ∷ k ++ rest)) → Spelled ts (b ∷ bs)
part_sound c k rest b bs t ts again e h spelled =
    let less : suc (length k) - 1 ≡ length k = omega arith in
    let q = front_ok t (tokens_from (suc (length k) - 1) bs) ts h in
    let x = again (length k) q.0 (ap (λ n. tokens_from n bs) (sym less) ∙ q.1) in
    let tails : k ++ rest ≡ bs = cc in
    let after_k : drop (length k) bs ≡ rest = ap (drop (length k)) (sym tails) ∙ drop-append_seam k rest in
    subst (λ l. Spelled ts l) e (subst (λ l. Spelled l (c ∷ k ++ rest)) (sym q.2) (spelled q.0 (subst (λ l. Spelled q.0 l) after_k x)))

name_sound : (n rest : List ℕ) (b : ℕ) (bs : List ℕ) (ts : List Token) → Again bs → n ++ rest ≡ b ∷ bs → head_is (belongs Name) rest ≡ false
    → by_front (name_before n rest) (parts_after bs) ≡ Ok ts → Spelled ts (b ∷ bs)
name_sound [] rest b bs ts again e stop h = absurd cc
name_sound (c ∷ k) rest b bs ts again e stop h = by_tests (is_qualified_name (c ∷ k)) (starts_with (codes "-") rest) refl refl h
  where
    by_tests : (q d : Bool) → is_qualified_name (c ∷ k) ≡ q → starts_with (codes "-") rest ≡ d
        → by_front (if q && not d then front.Piece (token.Name (c ∷ k)) (suc (length k)) else front.Nothing) (parts_after bs) ≡ Ok ts → Spelled ts (b ∷ bs)
    by_tests false d is sign h = absurd cc
    by_tests true true is sign h = absurd cc
    by_tests true false is sign h = part_sound c k rest b bs (token.Name (c ∷ k)) ts again e h (λ us x. sp.name (qualified_joined (c ∷ k) is) stop sign x)

number_sound : (ds rest : List ℕ) (b : ℕ) (bs : List ℕ) (ts : List Token) → Again bs → ds ++ rest ≡ b ∷ bs → list_all is_ascii_digit ds ≡ true
    → head_is is_ascii_digit rest ≡ false → by_front (signed_number [] ds) (parts_after bs) ≡ Ok ts → Spelled ts (b ∷ bs)
number_sound [] rest b bs ts again e all stop h = absurd cc
number_sound (d ∷ ds) rest b bs ts again e all stop h =
    part_sound d ds rest b bs (token.Number (d ∷ ds)) ts again e h (λ us x. sp.number {ds = d ∷ ds} all stop x)

negative_sound : (ds rest bs : List ℕ) (ts : List Token) → Again bs → ds ++ rest ≡ bs → list_all is_ascii_digit ds ≡ true → head_is is_ascii_digit rest ≡ false
    → by_front (signed_number (45 ∷ []) ds) (parts_after bs) ≡ Ok ts → Spelled ts (45 ∷ bs)
negative_sound [] rest bs ts again e all stop h = absurd cc
negative_sound (d ∷ ds) rest bs ts again e all stop h =
    part_sound 45 (d ∷ ds) rest 45 bs (token.Number (45 ∷ d ∷ ds)) ts again (ap (λ (l : List ℕ). 45 ∷ l) e) h (λ us x. sp.negative {ds = d ∷ ds} all stop x)

-- ---- texts

same_piece : (t u : Token) (m n : ℕ) → front.Piece t m ≡ front.Piece u n → (t ≡ u) × (m ≡ n)
same_piece t u m n h = (cc, cc)

-- From a place in a text on the source goes on by s up to its quote; what stands after a text is bs'.
abbrev Ends : (List ℕ → List ℕ → Type 0) → List ℕ → ℕ → List ℕ → Token → ℕ → Type 0
Ends stand content n bs t len = (s cs bs' : List ℕ) × (bs ≡ s ++ 34 ∷ bs') × stand s cs × (t ≡ token.Text (content ++ cs)) × (len ≡ n + length s + 1)

one_more : (b : ℕ) (s bs bs' : List ℕ) → bs ≡ s ++ 34 ∷ bs' → b ∷ bs ≡ b ∷ s ++ 34 ∷ bs'
one_more b s bs bs' e = ap (λ (l : List ℕ). b ∷ l) e

text_more : (content cs : List ℕ) (v : ℕ) (t : Token) → t ≡ token.Text ((content ++ v ∷ []) ++ cs) → t ≡ token.Text (content ++ v ∷ cs)
text_more content cs v t e = e ∙ ap (λ l. token.Text l) (append_assoc content (v ∷ []) cs)

text_same : (content cs : List ℕ) (t : Token) → t ≡ token.Text ((content ++ []) ++ cs) → t ≡ token.Text (content ++ cs)
text_same content cs t e = e ∙ ap (λ l. token.Text (l ++ cs)) (append-nil content)

len_more : (b : ℕ) (s : List ℕ) (n len : ℕ) → len ≡ n + 1 + length s + 1 → len ≡ n + length (b ∷ s) + 1
len_more b s n len e = omega arith

mutual
  plain_sound : (bs content : List ℕ) (n : ℕ) (t : Token) (len : ℕ) → text_front text_state.Plain content n bs ≡ front.Piece t len
      → Ends StandFor content n bs t len
  plain_sound [] content n t len h = absurd cc
  plain_sound (b ∷ bs) content n t len h =
      by_quote (plain_sound bs (content ++ b ∷ []) (n + 1) t len) (escape_sound bs (content ++ []) (n + 1) t len) (b == 34) refl h
    where
      by_slash : (text_front text_state.Plain (content ++ b ∷ []) (n + 1) bs ≡ front.Piece t len → Ends StandFor (content ++ b ∷ []) (n + 1) bs t len)
          → (text_front text_state.Escape (content ++ []) (n + 1) bs ≡ front.Piece t len → Ends (λ s cs. StandFor (92 ∷ s) cs) (content ++ []) (n + 1) bs t len)
          → (b == 34) ≡ false → (c : Bool) → (b == 92) ≡ c
          → on_step (if c then Some (text_state.Escape, None) else Some (text_state.Plain, Some b)) (λ next more. text_front next (content ++ more) (n + 1) bs)
          ≡ front.Piece t len → Ends StandFor content n (b ∷ bs) t len
      by_slash expr_view escape q false e h =
          let w = expr_view h in
          (b ∷ w.0, b ∷ w.1, w.2, one_more b w.0 bs w.2 w.3, sp.itself q e w.4, text_more content w.1 b t w.5, len_more b w.0 n len w.6)
      by_slash expr_view escape q true e h =
          let w = escape h in (
            92 ∷ w.0,
            w.1,
            w.2,
            ap (λ (k : ℕ). k ∷ bs) (eqb-true b 92 e) ∙ one_more 92 w.0 bs w.2 w.3,
            w.4,
            text_same content w.1 t w.5,
            len_more 92 w.0 n len w.6,
          )

      by_quote : (text_front text_state.Plain (content ++ b ∷ []) (n + 1) bs ≡ front.Piece t len → Ends StandFor (content ++ b ∷ []) (n + 1) bs t len)
          → (text_front text_state.Escape (content ++ []) (n + 1) bs ≡ front.Piece t len → Ends (λ s cs. StandFor (92 ∷ s) cs) (content ++ []) (n + 1) bs t len)
          → (c : Bool) → (b == 34) ≡ c
          → (if c then front.Piece (token.Text content) (n + 1) else on_step (text_step text_state.Plain b)
          (λ next more. text_front next (content ++ more) (n + 1) bs)) ≡ front.Piece t len → Ends StandFor content n (b ∷ bs) t len
      by_quote expr_view escape true e h =
          let w = same_piece (token.Text content) t (n + 1) len h in
          ([], [], bs, ap (λ (k : ℕ). k ∷ bs) (eqb-true b 34 e), sp.nothing, sym w.0 ∙ ap (λ l. token.Text l) (sym (append-nil content)), omega (arith, w.1))
      by_quote expr_view escape false e h = by_slash expr_view escape e (b == 92) refl h

  escape_sound : (bs content : List ℕ) (n : ℕ) (t : Token) (len : ℕ) → text_front text_state.Escape content n bs ≡ front.Piece t len
      → Ends (λ s cs. StandFor (92 ∷ s) cs) content n bs t len
  escape_sound [] content n t len h = absurd cc
  escape_sound (b ∷ bs) content n t len h =
      by_x (λ v. plain_sound bs (content ++ v ∷ []) (n + 1) t len) (high_sound bs (content ++ []) (n + 1) t len) (b == 120) refl h
    where
      by_value : ((v : ℕ) → text_front text_state.Plain (content ++ v ∷ []) (n + 1) bs ≡ front.Piece t len → Ends StandFor (content ++ v ∷ []) (n + 1) bs t len)
          → (o : Option ℕ) → escape_value b ≡ o → on_step (option_map to_plain o) (λ next more. text_front next (content ++ more) (n + 1) bs)
          ≡ front.Piece t len → Ends (λ s cs. StandFor (92 ∷ s) cs) content n (b ∷ bs) t len
      by_value expr_view None e h = absurd cc
      by_value expr_view (Some v) e h =
          let w = expr_view v h in
          (b ∷ w.0, v ∷ w.1, w.2, one_more b w.0 bs w.2 w.3, sp.escaped e w.4, text_more content w.1 v t w.5, len_more b w.0 n len w.6)

      by_x : ((v : ℕ) → text_front text_state.Plain (content ++ v ∷ []) (n + 1) bs ≡ front.Piece t len → Ends StandFor (content ++ v ∷ []) (n + 1) bs t len)
          → (text_front text_state.High (content ++ []) (n + 1) bs ≡ front.Piece t len
          → Ends (λ s cs. StandFor (92 ∷ 120 ∷ s) cs) (content ++ []) (n + 1) bs t len)
          → (c : Bool) → (b == 120) ≡ c
          → on_step (if c then Some (text_state.High, None) else option_map to_plain (escape_value b))
          (λ next more. text_front next (content ++ more) (n + 1) bs) ≡ front.Piece t len → Ends (λ s cs. StandFor (92 ∷ s) cs) content n (b ∷ bs) t len
      by_x expr_view high true e h =
          let w = high h in (
            120 ∷ w.0,
            w.1,
            w.2,
            ap (λ (k : ℕ). k ∷ bs) (eqb-true b 120 e) ∙ one_more 120 w.0 bs w.2 w.3,
            w.4,
            text_same content w.1 t w.5,
            len_more 120 w.0 n len w.6,
          )
      by_x expr_view high false e h = by_value expr_view (escape_value b) refl h

  high_sound : (bs content : List ℕ) (n : ℕ) (t : Token) (len : ℕ) → text_front text_state.High content n bs ≡ front.Piece t len
      → Ends (λ s cs. StandFor (92 ∷ 120 ∷ s) cs) content n bs t len
  high_sound [] content n t len h = absurd cc
  high_sound (b ∷ bs) content n t len h = by_value (λ x e. low_sound b x e bs (content ++ []) (n + 1) t len) (hex_value b) refl h
    where
      by_value : ((x : ℕ) → hex_value b ≡ Some x → text_front (text_state.Low x) (content ++ []) (n + 1) bs ≡ front.Piece t len
          → Ends (λ s cs. StandFor (92 ∷ 120 ∷ b ∷ s) cs) (content ++ []) (n + 1) bs t len)
          → (o : Option ℕ) → hex_value b ≡ o → on_step (option_map high_digit o) (λ next more. text_front next (content ++ more) (n + 1) bs) ≡ front.Piece t len
          → Ends (λ s cs. StandFor (92 ∷ 120 ∷ s) cs) content n (b ∷ bs) t len
      by_value low None e h = absurd cc
      by_value low (Some x) e h =
          let w = low x e h in
          (b ∷ w.0, w.1, w.2, one_more b w.0 bs w.2 w.3, w.4, text_same content w.1 t w.5, len_more b w.0 n len w.6)

  low_sound : (high x : ℕ) → hex_value high ≡ Some x → (bs content : List ℕ) (n : ℕ) (t : Token) (len : ℕ) → text_front (text_state.Low x) content n bs
      ≡ front.Piece t len → Ends (λ s cs. StandFor (92 ∷ 120 ∷ high ∷ s) cs) content n bs t len
  low_sound high x first [] content n t len h = absurd cc
  low_sound high x first (b ∷ bs) content n t len h = by_value (λ v. plain_sound bs (content ++ v ∷ []) (n + 1) t len) (hex_value b) refl h
    where
      by_value : ((v : ℕ) → text_front text_state.Plain (content ++ v ∷ []) (n + 1) bs ≡ front.Piece t len → Ends StandFor (content ++ v ∷ []) (n + 1) bs t len)
          → (o : Option ℕ) → hex_value b ≡ o → on_step (option_map (low_digit x) o) (λ next more. text_front next (content ++ more) (n + 1) bs)
          ≡ front.Piece t len → Ends (λ s cs. StandFor (92 ∷ 120 ∷ high ∷ s) cs) content n (b ∷ bs) t len
      by_value expr_view None e h = absurd cc
      by_value expr_view (Some y) e h =
          let w = expr_view (16 * x + y) h in (
            b ∷ w.0,
            (16 * x + y) ∷ w.1,
            w.2,
            one_more b w.0 bs w.2 w.3,
            sp.hexadecimal first e w.4,
            text_more content w.1 (16 * x + y) t w.5,
            len_more b w.0 n len w.6,
          )

no_blank : (bs content : List ℕ) (n : ℕ) (p : TextState) → text_front p content n bs ≡ front.Blank → ⊥
no_blank [] content n p h = cc
no_blank (b ∷ bs) content n p h = by_close (λ q more. no_blank bs (content ++ more) (n + 1) q) (closes p b) (text_step p b) h
  where
    by_close : ((q : TextState) (more : List ℕ) → text_front q (content ++ more) (n + 1) bs ≡ front.Blank → ⊥) → (c : Bool) (o : Option (TextState × Option ℕ))
        → (if c then front.Piece (token.Text content) (n + 1) else on_step o (λ next more. text_front next (content ++ more) (n + 1) bs)) ≡ front.Blank → ⊥
    by_close again true o h = cc
    by_close again false None h = cc
    by_close again false (Some next) h = again next.0 (option_to_list next.1) h

text_sound : (bs : List ℕ) (ts : List Token) → Again bs → (fr : Front) → text_front text_state.Plain [] 1 bs ≡ fr → by_front fr (parts_after bs) ≡ Ok ts
    → Spelled ts (34 ∷ bs)
text_sound bs ts again front.Nothing e h = absurd cc
text_sound bs ts again front.Blank e h = absurd (no_blank bs [] 1 text_state.Plain e)
text_sound bs ts again (front.Piece t len) e h =
    let w = plain_sound bs [] 1 t len e in
    let size : len ≡ suc (length (w.0 ++ 34 ∷ [])) = omega (arith, w.6, length-append w.0 (34 ∷ [])) in
    let split = append_assoc w.0 (34 ∷ []) w.2 in
    part_sound 34 (w.0 ++ 34 ∷ []) w.2 34 bs t ts again (ap (λ (l : List ℕ). 34 ∷ l) (split ∙ sym w.3))
    (subst (λ n. by_front (front.Piece t n) (parts_after bs) ≡ Ok ts) size h)
    (λ us x. subst (λ (k : Token). Spelled (k ∷ us) (34 ∷ (w.0 ++ 34 ∷ []) ++ w.2)) (sym w.5)
    (subst (λ (l : List ℕ). Spelled (token.Text w.1 ∷ us) (34 ∷ l)) (sym split) (sp.text w.4 x)))

-- ---- marks

if_some : (c : Bool) (m m' : Mark) (rest : Option Mark) (P : Mark → Type 0) → (c ≡ true → P m) → (rest ≡ Some m' → P m')
    → (if c then Some m else rest) ≡ Some m' → P m'
if_some true m m' rest P here there h = let e : m ≡ m' = cc in subst P e (here refl)
if_some false m m' rest P here there h = there h

-- a mark of this byte alone
abbrev Alone : ℕ → Mark → Type 0
Alone b m = (mark_text m ≡ b ∷ []) × (mark_byte m ≡ b)

single_text : (b : ℕ) (m : Mark) → single b ≡ Some m → Alone b m
single_text b m h =
    let P : Mark → Type 0 = Alone b in
    let is : (k : ℕ) → (b == k) ≡ true → (k ∷ [] ≡ b ∷ []) × (k ≡ b) = λ k e. (ap (λ (x : ℕ). x ∷ []) (sym (eqb-true b k e)), sym (eqb-true b k e)) in
    if_some (b == 61) mark.Equals m _ P (is 61) (
    if_some (b == 40) mark.OpenRound m _ P (is 40) (
    if_some (b == 41) mark.CloseRound m _ P (is 41) (
    if_some (b == 91) mark.OpenSquare m _ P (is 91) (
    if_some (b == 93) mark.CloseSquare m _ P (is 93) (
    if_some (b == 123) mark.OpenCurly m _ P (is 123) (
    if_some (b == 125) mark.CloseCurly m _ P (is 125) (
    if_some (b == 44) mark.Comma m _ P (is 44) (
    if_some (b == 59) mark.Semicolon m _ P (is 59) (
    if_some (b == 92) mark.Backslash m None P (is 92) (λ h. absurd cc)))))))))) h

arrow_sound : (b : ℕ) (bs : List ℕ) (ts : List Token) → Again bs → (b == 61 && starts_with (codes ">") bs) ≡ true
    → by_front (front.Piece (token.Mark mark.Arrow) 2) (parts_after bs) ≡ Ok ts → Spelled ts (b ∷ bs)
arrow_sound b bs ts again e h = by_rest (strip_prefix (codes ">") bs) refl (and_parts (b == 61) (starts_with (codes ">") bs) e).1
  where
    by_rest : (o : Option (List ℕ)) → strip_prefix (codes ">") bs ≡ o → is_some o ≡ true → Spelled ts (b ∷ bs)
    by_rest None q some = absurd cc
    by_rest (Some rest) q some =
        let equals : b ≡ 61 = eqb-true b 61 (and_parts (b == 61) (starts_with (codes ">") bs) e).0 in
        let two : 61 ∷ 62 ∷ rest ≡ b ∷ bs = ap (λ (k : ℕ). k ∷ 62 ∷ rest) (sym equals)
        ∙ ap (λ (l : List ℕ). b ∷ l) (sym (word_in_front (codes ">") bs rest q)) in
        part_sound 61 (62 ∷ []) rest b bs (token.Mark mark.Arrow) ts again two h (λ us x. sp.mark_stands mark.Arrow refl x)

mark_sound : (b : ℕ) (bs : List ℕ) (ts : List Token) → Again bs → by_front (mark_front b bs) (parts_after bs) ≡ Ok ts → Spelled ts (b ∷ bs)
mark_sound b bs ts again h = by_arrow (b == 61 && starts_with (codes ">") bs) refl h
  where
    by_single : (b == 61 && starts_with (codes ">") bs) ≡ false → (o : Option Mark) → single b ≡ o → by_front (alone o) (parts_after bs) ≡ Ok ts
        → Spelled ts (b ∷ bs)
    by_single e None s h = absurd cc
    by_single e (Some m) s h =
        let one = single_text b m s in
        let ends = subst (λ k. (k == 61 && starts_with (codes ">") bs) ≡ false) (sym one.1) e in
        part_sound b [] bs b bs (token.Mark m) ts again refl h
        (λ us x. subst (λ (l : List ℕ). Spelled (token.Mark m ∷ us) (l ++ bs)) one.0 (sp.mark_stands m ends x))

    by_arrow : (c : Bool) → (b == 61 && starts_with (codes ">") bs) ≡ c
        → by_front (if c then front.Piece (token.Mark mark.Arrow) 2 else alone (single b)) (parts_after bs) ≡ Ok ts → Spelled ts (b ∷ bs)
    by_arrow true e h = arrow_sound b bs ts again e h
    by_arrow false e h = by_single e (single b) refl h

-- ---- lines

byte_sound : (b : ℕ) (bs : List ℕ) (ts : List Token) → Again bs → by_front (first_part (b ∷ bs)) (parts_after bs) ≡ Ok ts → Spelled ts (b ∷ bs)
unfolding first_part
byte_sound b bs ts again h = by_blank (is_blank b) refl h
  where
    by_quote : (c : Bool) → (b == 34) ≡ c → by_front (if c then text_front text_state.Plain [] 1 bs else mark_front b bs) (parts_after bs) ≡ Ok ts
        → Spelled ts (b ∷ bs)
    by_quote true e h = subst (λ k. Spelled ts (k ∷ bs)) (sym (eqb-true b 34 e)) (text_sound bs ts again (text_front text_state.Plain [] 1 bs) refl h)
    by_quote false e h = mark_sound b bs ts again h

    by_sign : (c : Bool) → (b == 45) ≡ c
        → by_front (if c then number_front (45 ∷ []) bs else (if b == 34 then text_front text_state.Plain [] 1 bs else mark_front b bs)) (parts_after bs)
        ≡ Ok ts → Spelled ts (b ∷ bs)
    by_sign true e h =
        subst (λ k. Spelled ts (k ∷ bs)) (sym (eqb-true b 45 e)) (negative_sound (front_of Digit bs) (after_run Digit bs) bs ts again (front_after Digit bs)
        (front_belongs Digit bs) (after_stops Digit bs) h)
    by_sign false e h = by_quote (b == 34) refl h

    by_digit : (c : Bool) → is_ascii_digit b ≡ c
        → by_front (if c then number_front [] (b ∷ bs)
        else (if b == 45 then number_front (45 ∷ []) bs else (if b == 34 then text_front text_state.Plain [] 1 bs else mark_front b bs))) (parts_after bs)
        ≡ Ok ts → Spelled ts (b ∷ bs)
    by_digit true e h = number_sound (front_of Digit (b ∷ bs)) (after_run Digit (b ∷ bs)) b bs ts again (front_after Digit (b ∷ bs))
        (front_belongs Digit (b ∷ bs)) (after_stops Digit (b ∷ bs)) h
    by_digit false e h = by_sign (b == 45) refl h

    by_word : (c : Bool) → begins_word b ≡ c
        → by_front (if c then name_front (b ∷ bs)
        else (if is_ascii_digit b then number_front [] (b ∷ bs)
        else (if b == 45 then number_front (45 ∷ []) bs else (if b == 34 then text_front text_state.Plain [] 1 bs else mark_front b bs)))) (parts_after bs)
        ≡ Ok ts → Spelled ts (b ∷ bs)
    by_word true e h = name_sound (front_of Name (b ∷ bs)) (after_run Name (b ∷ bs)) b bs ts again (front_after Name (b ∷ bs)) (after_stops Name (b ∷ bs)) h
    by_word false e h = by_digit (is_ascii_digit b) refl h

    by_blank : (c : Bool) → is_blank b ≡ c
        → by_front (if c then front.Blank
        else (if begins_word b then name_front (b ∷ bs)
        else (if is_ascii_digit b then number_front [] (b ∷ bs)
        else (if b == 45 then number_front (45 ∷ []) bs else (if b == 34 then text_front text_state.Plain [] 1 bs else mark_front b bs))))) (parts_after bs)
        ≡ Ok ts → Spelled ts (b ∷ bs)
    by_blank true e h = sp.blank e (again 0 ts h)
    by_blank false e h = by_word (begins_word b) refl h

lex_sound : (n : ℕ) (bs : List ℕ) (ts : List Token) → length bs ≤ n → tokens_from 0 bs ≡ Ok ts → Spelled ts bs
unfolding tokens_from
lex_sound n [] ts few h = let e : [] ≡ ts = cc in subst (λ (l : List Token). Spelled l []) e sp.line_end
lex_sound zero (b ∷ bs) ts few h = absurd (omega arith)
lex_sound (suc n) (b ∷ bs) ts few h =
    byte_sound b bs ts (λ len us e. lex_sound n (drop len bs) us (omega (arith, length-drop len bs)) (sym (tokens_from-skip len bs) ∙ e)) h

-- parts that are read are spelled
pub spelled_sound : (bs : List ℕ) (ts : List Token) → tokens_of bs ≡ Ok ts → Spelled ts bs
spelled_sound bs ts h = lex_sound (length bs) bs ts (omega arith) h
