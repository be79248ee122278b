-- Parts that are spelled by bytes are what the bytes are cut into.
use Rattle.std.proofs.Common.{◌≡◌, ℕ, suc, ◌+◌, ◌-◌, ◌*◌, ◌==◌, Bool, true, false, List, [], ◌∷◌, ◌++◌, length, drop, Some, Ok, refl, ap, ◌∙◌, subst, arith, append_assoc, if◌then◌else◌}
use Rattle.std.proofs.lemmas.Bool.{and_parts, cond-false, cond-true, eqb-true, or_right}
use Rattle.std.proofs.lemmas.List.{append-nil}
use Rattle.std.proofs.Math.Seq.{drop-append_seam}
use Rattle.std.specs.List.{list_all}
use Rattle.std.specs.Prelude.{codes, ◌||◌}
use Rattle.xs_script.specs.declared.line_parts.TextState.TheVariants as text_state
use Rattle.xs_script.specs.declared.line_part.Front.TheVariants as front
use Rattle.xs_script.specs.declared.line_part.Mark.{Mark}
use Rattle.xs_script.specs.declared.line_part.Mark.TheVariants as mark
use Rattle.xs_script.specs.declared.line_part.Token.{Token}
use Rattle.xs_script.specs.declared.line_part.Token.TheVariants as token
use Rattle.xs_base.specs.Names.{IsJoined, is_qualified_name, is_rest_of_name}
use Rattle.xs_base.specs.Readers.{head_is}
use Rattle.xs_base.specs.ByteRuns.{belongs}
use Rattle.xs_base.specs.Scanning.{starts_with, begins_word, is_blank, is_ascii_digit}
use Rattle.xs_base.specs.declared.names.NameByte.TheVariants.{Further}
use Rattle.xs_base.specs.declared.byte_runs.ByteClass.TheVariants.{Digit, Name}
use Rattle.xs_base.proofs.FrontRuns.{front_seam, after_seam}
use Rattle.xs_base.proofs.Qualified.{joined_qualified, qualified_bytes}
use Rattle.xs_base.proofs.WordBytes.{digit_not_word, word_not_blank}
use Rattle.xs_script.specs.Lex.{escape_value, name_front, number_front, signed_number, text_front, first_part, tokens_from, tokens_of}
use Rattle.xs_script.specs.Spelling as sp
use Rattle.xs_script.specs.Spelling.{IsDigits, StandFor, Spelled, mark_text, goes_on}
use Rattle.xs_script.proofs.LexSteps.{tokens_from-skip}

-- ---- bytes

-- the first byte of a qualified name
name_begins : (b : ℕ) (bs : List ℕ) → is_qualified_name (b ∷ bs) ≡ true → begins_word b ≡ true
name_begins b bs h = by (begins_word b) h
  where
    by : (t : Bool) → (if t then is_rest_of_name Further bs else false) ≡ true → t ≡ true
    by true h = refl
    by false h = absurd cc

-- ---- one part

front_word : (b : ℕ) (bs : List ℕ) → begins_word b ≡ true → first_part (b ∷ bs) ≡ name_front (b ∷ bs)
unfolding first_part
front_word b bs h = cond-false (is_blank b) _ _ (word_not_blank b (ap (λ t. t || is_ascii_digit b) h)) ∙ cond-true (begins_word b) _ _ h

front_digit : (b : ℕ) (bs : List ℕ) → is_ascii_digit b ≡ true → first_part (b ∷ bs) ≡ number_front [] (b ∷ bs)
unfolding first_part
front_digit b bs h = cond-false (is_blank b) _ _ (word_not_blank b (or_right (begins_word b) (is_ascii_digit b) h))
    ∙ cond-false (begins_word b) _ _ (digit_not_word b h) ∙ cond-true (is_ascii_digit b) _ _ h

piece_done : (b : ℕ) (bs : List ℕ) (t : Token) (len : ℕ) (ts : List Token) → first_part (b ∷ bs) ≡ front.Piece t (suc len) → tokens_from 0 (drop len bs) ≡ Ok ts
    → tokens_from 0 (b ∷ bs) ≡ Ok (t ∷ ts)
unfolding tokens_from
piece_done b bs t len ts e h =
    let less : suc len - 1 ≡ len = omega arith in
    rw (e, less, tokens_from-skip len bs, h) refl

name_front_done : (n bs : List ℕ) → IsJoined n → head_is (belongs Name) bs ≡ false → starts_with (codes "-") bs ≡ false
    → name_front (n ++ bs) ≡ front.Piece (token.Name n) (length n)
name_front_done n bs x stop sign =
    let q = joined_qualified x in
    let all = qualified_bytes n q in
    rw (front_seam Name n bs all stop, after_seam Name n bs all stop, q, sign) refl

name_done : (n bs : List ℕ) (ts : List Token) → IsJoined n → head_is (belongs Name) bs ≡ false → starts_with (codes "-") bs ≡ false → tokens_from 0 bs ≡ Ok ts
    → tokens_from 0 (n ++ bs) ≡ Ok (token.Name n ∷ ts)
name_done [] bs ts x stop sign h = let no : false ≡ true = joined_qualified x in absurd cc
name_done (c ∷ n) bs ts x stop sign h =
    piece_done c (n ++ bs) (token.Name (c ∷ n)) (length n) ts (front_word c (n ++ bs) (name_begins c n (joined_qualified x))
    ∙ name_front_done (c ∷ n) bs x stop sign) (rw (drop-append_seam n bs) h)

digits_front_done : (sign ds bs : List ℕ) → IsDigits ds → head_is is_ascii_digit bs ≡ false
    → number_front sign (ds ++ bs) ≡ front.Piece (token.Number (sign ++ ds)) (length (sign ++ ds))
digits_front_done sign [] bs x stop = absurd x
digits_front_done sign (d ∷ ds) bs x stop = ap (signed_number sign) (front_seam Digit (d ∷ ds) bs x stop)

number_done : (ds bs : List ℕ) (ts : List Token) → IsDigits ds → head_is is_ascii_digit bs ≡ false → tokens_from 0 bs ≡ Ok ts
    → tokens_from 0 (ds ++ bs) ≡ Ok (token.Number ds ∷ ts)
number_done [] bs ts x stop h = absurd x
number_done (d ∷ ds) bs ts x stop h =
    let first = (and_parts (is_ascii_digit d) (list_all is_ascii_digit ds) x).0 in
    piece_done d (ds ++ bs) (token.Number (d ∷ ds)) (length ds) ts (front_digit d (ds ++ bs) first ∙ digits_front_done [] (d ∷ ds) bs x stop)
    (rw (drop-append_seam ds bs) h)

negative_done : (ds bs : List ℕ) (ts : List Token) → IsDigits ds → head_is is_ascii_digit bs ≡ false → tokens_from 0 bs ≡ Ok ts
    → tokens_from 0 (45 ∷ ds ++ bs) ≡ Ok (token.Number (45 ∷ ds) ∷ ts)
unfolding first_part
negative_done ds bs ts x stop h =
    piece_done 45 (ds ++ bs) (token.Number (45 ∷ ds)) (length ds) ts (digits_front_done (45 ∷ []) ds bs x stop) (rw (drop-append_seam ds bs) h)

-- ---- texts

not_x : (e v : ℕ) → escape_value e ≡ Some v → (e == 120) ≡ false
not_x e v h = by_x (e == 120) refl
  where
    by_x : (b : Bool) → (e == 120) ≡ b → (e == 120) ≡ false
    by_x false is = is
    by_x true is = let no : escape_value 120 ≡ Some v = subst (λ k. escape_value k ≡ Some v) (eqb-true e 120 is) h in absurd cc

text_done : {s cs : List ℕ} → StandFor s cs → (bs content : List ℕ) (n : ℕ) → text_front text_state.Plain content n (s ++ 34 ∷ bs)
    ≡ front.Piece (token.Text (content ++ cs)) (n + length s + 1)
text_done sp.nothing bs content n = rw (append-nil content) (ap (λ k. front.Piece (token.Text content) k) (omega arith))
text_done (sp.itself {b = b} {s = s} {cs = cs} q r x) bs content n =
    rw (q, r) (text_done x bs (content ++ b ∷ []) (n + 1)
    ∙ rw (append_assoc content (b ∷ []) cs) (ap (λ k. front.Piece (token.Text (content ++ b ∷ cs)) k) (omega arith)))
text_done (sp.escaped {e = e} {v = v} {s = s} {cs = cs} h x) bs content n =
    rw (not_x e v h, h, append-nil content) (text_done x bs (content ++ v ∷ []) (n + 1 + 1)
    ∙ rw (append_assoc content (v ∷ []) cs) (ap (λ k. front.Piece (token.Text (content ++ v ∷ cs)) k) (omega arith)))
text_done (sp.hexadecimal {h = h} {l = l} {x = x} {y = y} {s = s} {cs = cs} p q w) bs content n =
    rw (p, q, append-nil content, append-nil content, append-nil content) (text_done w bs (content ++ (16 * x + y) ∷ []) (n + 1 + 1 + 1 + 1)
    ∙ rw (append_assoc content ((16 * x + y) ∷ []) cs) (ap (λ k. front.Piece (token.Text (content ++ (16 * x + y) ∷ cs)) k) (omega arith)))

drop_text : (s bs : List ℕ) → drop (length s + 1) (s ++ 34 ∷ bs) ≡ bs
drop_text [] bs = refl
drop_text (x ∷ s) bs = let more : length (x ∷ s) + 1 ≡ suc (length s + 1) = omega arith in rw more (drop_text s bs)

text_part_done : (s cs bs : List ℕ) (ts : List Token) → StandFor s cs → tokens_from 0 bs ≡ Ok ts → tokens_from 0 (34 ∷ s ++ 34 ∷ bs) ≡ Ok (token.Text cs ∷ ts)
unfolding first_part
text_part_done s cs bs ts x h =
    let len : 1 + length s + 1 ≡ suc (length s + 1) = omega arith in
    piece_done 34 (s ++ 34 ∷ bs) (token.Text cs) (length s + 1) ts (text_done x bs [] 1 ∙ ap (λ k. front.Piece (token.Text cs) k) len) (rw (drop_text s bs) h)

-- ---- marks

mark_done : (m : Mark) (bs : List ℕ) (ts : List Token) → goes_on m bs ≡ false → tokens_from 0 bs ≡ Ok ts
    → tokens_from 0 (mark_text m ++ bs) ≡ Ok (token.Mark m ∷ ts)
unfolding first_part
mark_done mark.Equals bs ts g h = piece_done 61 bs (token.Mark mark.Equals) 0 ts (rw g refl) h
mark_done mark.Arrow bs ts g h = piece_done 61 (62 ∷ bs) (token.Mark mark.Arrow) 1 ts refl h
mark_done mark.OpenRound bs ts g h = piece_done 40 bs (token.Mark mark.OpenRound) 0 ts refl h
mark_done mark.CloseRound bs ts g h = piece_done 41 bs (token.Mark mark.CloseRound) 0 ts refl h
mark_done mark.OpenSquare bs ts g h = piece_done 91 bs (token.Mark mark.OpenSquare) 0 ts refl h
mark_done mark.CloseSquare bs ts g h = piece_done 93 bs (token.Mark mark.CloseSquare) 0 ts refl h
mark_done mark.OpenCurly bs ts g h = piece_done 123 bs (token.Mark mark.OpenCurly) 0 ts refl h
mark_done mark.CloseCurly bs ts g h = piece_done 125 bs (token.Mark mark.CloseCurly) 0 ts refl h
mark_done mark.Comma bs ts g h = piece_done 44 bs (token.Mark mark.Comma) 0 ts refl h
mark_done mark.Semicolon bs ts g h = piece_done 59 bs (token.Mark mark.Semicolon) 0 ts refl h
mark_done mark.Backslash bs ts g h = piece_done 92 bs (token.Mark mark.Backslash) 0 ts refl h

blank_done : (b : ℕ) (bs : List ℕ) → is_blank b ≡ true → tokens_from 0 (b ∷ bs) ≡ tokens_from 0 bs
unfolding tokens_from first_part
blank_done b bs h = rw h refl

no_parts : tokens_from 0 [] ≡ Ok []
unfolding tokens_from
no_parts = refl

-- parts that are spelled are read
pub spelled_done : {ts : List Token} {bs : List ℕ} → Spelled ts bs → tokens_of bs ≡ Ok ts
spelled_done sp.line_end = no_parts
spelled_done (sp.blank {b = b} {bs = bs} h x) = blank_done b bs h ∙ spelled_done x
spelled_done (sp.name {ts = ts} {n = n} {bs = bs} p stop sign x) = name_done n bs ts p stop sign (spelled_done x)
spelled_done (sp.number {ts = ts} {ds = ds} {bs = bs} d stop x) = number_done ds bs ts d stop (spelled_done x)
spelled_done (sp.negative {ts = ts} {ds = ds} {bs = bs} d stop x) = negative_done ds bs ts d stop (spelled_done x)
spelled_done (sp.text {ts = ts} {s = s} {cs = cs} {bs = bs} q x) = text_part_done s cs bs ts q (spelled_done x)
spelled_done (sp.mark_stands {ts = ts} {bs = bs} m g x) = mark_done m bs ts g (spelled_done x)
