-- The parts of a croak's text.
use Rattle.std.proofs.Common.{◌≡◌, ℕ, zero, suc, ◌+◌, ◌-◌, ◌<◌, ◌≤◌, ◌==◌, Bool, true, false, List, [], ◌∷◌, ◌++◌, length, take, drop, Option, Some, None, refl, ap, sym, subst, ◌∙◌, arith, append_assoc, length-drop}
use Rattle.std.proofs.Math.Seq.{drop-append_seam}
use Rattle.std.proofs.lemmas.Bool.{and_parts}
use Rattle.std.proofs.lemmas.Bool.Decides.{nat_tests}
use Rattle.std.proofs.lemmas.List.{length-append, length-take-le, take-append-drop}
use Rattle.std.specs.List.{list_all}
use Rattle.std.specs.Prelude.{if◌then◌else◌, is_some, nat_lt, option_map}
use Rattle.xs_base.specs.Scanning.{strip_prefix}
use Rattle.xs_base.proofs.FrontRuns.{word_in_front}
use Rattle.xs_perlapi.specs.declared.formats.Format.{Format}
use Rattle.xs_perlapi.specs.declared.formats.Piece.{Piece}
use Rattle.xs_perlapi.specs.declared.formats.Piece.TheVariants as piece
use Rattle.xs_perlapi.specs.declared.formats.PieceFront.{PieceFront}
use Rattle.xs_perlapi.specs.Formats as are
use Rattle.xs_perlapi.specs.Formats.{ArePieces, SpeltFormat, bytes_after, first_format, format_at, format_of, formats, front_or_byte, piece_at, piece_of, pieces_from, pieces_of, with_piece}
use Rattle.xs_perlapi.specs.Laws.{CroakTextsLaw}

-- ---- the size of a format

some_is : (n : ℕ) → nat_lt 0 n ≡ true → 0 < n
some_is n h = grind (arith, nat_tests)

format_sized : (all : List SpeltFormat) (text : List ℕ) (f : Format) → list_all (λ (g : SpeltFormat). nat_lt 0 (length g.spelling)) all ≡ true
    → first_format all text ≡ Some f → (0 < f.size) × (f.size ≤ length text)
format_sized [] text f some h = absurd cc
format_sized (g ∷ all) text f some h =
    let parts = and_parts (nat_lt 0 (length g.spelling)) (list_all (λ (g : SpeltFormat). nat_lt 0 (length g.spelling)) all) some in
    by (strip_prefix g.spelling text) refl parts.0 (format_sized all text f parts.1) h
  where
    by : (o : Option (List ℕ)) → strip_prefix g.spelling text ≡ o → nat_lt 0 (length g.spelling) ≡ true
        → (first_format all text ≡ Some f → (0 < f.size) × (f.size ≤ length text))
        → (if is_some o then Some (format_of g) else first_format all text) ≡ Some f → (0 < f.size) × (f.size ≤ length text)
    by None e some more h = more h
    by (Some rest) e some more h =
        let same : format_of g ≡ f = cc in
        let size : length g.spelling ≡ f.size = ap (λ (k : Format). k.size) same in
        let whole = ap length (word_in_front g.spelling text rest e) in
        let first = some_is (length g.spelling) some in
        let sum = length-append g.spelling rest in
        (omega (arith, size, first), omega (arith, size, whole, sum))

pub format_within : (text : List ℕ) (f : Format) → format_at text ≡ Some f → (0 < f.size) × (f.size ≤ length text)
unfolding format_at formats
format_within text f h = format_sized formats text f refl h

-- ---- one part after another

skipped : (n : ℕ) (bs : List ℕ) → pieces_from n bs ≡ pieces_from 0 (drop n bs)
skipped zero [] = refl
skipped zero (b ∷ bs) = refl
skipped (suc n) [] = refl
skipped (suc n) (b ∷ bs) = skipped n bs

pub one_piece : (f : PieceFront) (text : List ℕ) → piece_at text ≡ Some f → 0 < f.size
    → pieces_from 0 text ≡ option_map (λ (ps : List Piece). f.piece ∷ ps) (pieces_from 0 (drop f.size text))
one_piece f [] h some = absurd cc
one_piece f (b ∷ bs) h some =
    let e : f.size ≡ suc (f.size - 1) = omega (arith, some) in
    let cut : drop f.size (b ∷ bs) ≡ drop (f.size - 1) bs = ap (λ (k : ℕ). drop k (b ∷ bs)) e in
    ap (λ (o : Option PieceFront). with_piece o (pieces_from (bytes_after o) bs)) h
    ∙ ap (λ (o : Option (List Piece)). option_map (λ (ps : List Piece). f.piece ∷ ps) o)
    (skipped (f.size - 1) bs ∙ ap (λ (t : List ℕ). pieces_from 0 t) (sym cut))

pub no_piece : (text : List ℕ) → 0 < length text → piece_at text ≡ None → pieces_from 0 text ≡ None
no_piece [] some h = absurd (omega (arith, some))
no_piece (b ∷ bs) some h = ap (λ (o : Option PieceFront). with_piece o (pieces_from (bytes_after o) bs)) h

-- parts that are read, with one more
pub turn : (all : List Piece) (p : Piece) (o : Option (List Piece))
    → option_map (λ (more : List Piece). all ++ more) (option_map (λ (ps : List Piece). p ∷ ps) o)
    ≡ option_map (λ (more : List Piece). (all ++ p ∷ []) ++ more) o
turn all p None = refl
turn all p (Some more) = ap Some (sym (append_assoc all (p ∷ []) more))

-- ---- what is read is spelled so

inverted : (p : Piece) (o : Option (List Piece)) (ps : List Piece) → option_map (λ (qs : List Piece). p ∷ qs) o ≡ Some ps
    → (qs : List Piece) × (o ≡ Some qs) × (p ∷ qs ≡ ps)
inverted p None ps h = absurd cc
inverted p (Some qs) ps h = (qs, refl, cc)

abbrev Read : ℕ → Type 0
Read n = (text : List ℕ) (ps : List Piece) → length text ≤ n → pieces_from 0 text ≡ Some ps → ArePieces text ps

step : (n b : ℕ) (bs : List ℕ) (ps : List Piece) → length (b ∷ bs) ≤ suc n → pieces_from 0 (b ∷ bs) ≡ Some ps → Read n → ArePieces (b ∷ bs) ps
step n b bs ps small h rec = by (format_at (b ∷ bs)) refl
  where
    by_byte : format_at (b ∷ bs) ≡ None → (t : Bool) → (b == 37) ≡ t → ArePieces (b ∷ bs) ps
    by_byte e true at =
        let none : piece_at (b ∷ bs) ≡ None = ap (λ (o : Option Format). front_or_byte o b) e ∙ rw at refl in
        let never : None ≡ Some ps = sym (no_piece (b ∷ bs) (omega arith) none) ∙ h in absurd cc
    by_byte e false at =
        let one : PieceFront = record { piece = piece.Byte b; size = 1 } in
        let found : piece_at (b ∷ bs) ≡ Some one = ap (λ (o : Option Format). front_or_byte o b) e ∙ rw at refl in
        let i = inverted (piece.Byte b) (pieces_from 0 bs) ps (sym (one_piece one (b ∷ bs) found (omega arith)) ∙ h) in
        subst (λ (qs : List Piece). ArePieces (b ∷ bs) qs) i.2 (are.byte at (rec bs i.0 (omega (arith, small)) i.1))

    by : (o : Option Format) → format_at (b ∷ bs) ≡ o → ArePieces (b ∷ bs) ps
    by None e = by_byte e (b == 37) refl
    by (Some f) e =
        let one : PieceFront = record { piece = piece_of f.operand; size = f.size } in
        let sizes = format_within (b ∷ bs) f e in
        let found : piece_at (b ∷ bs) ≡ Some one = ap (λ (o : Option Format). front_or_byte o b) e in
        let i = inverted (piece_of f.operand) (pieces_from 0 (drop f.size (b ∷ bs))) ps (sym (one_piece one (b ∷ bs) found sizes.0) ∙ h) in
        let less = length-drop f.size (b ∷ bs) in
        let rest = rec (drop f.size (b ∷ bs)) i.0 (omega (arith, less, sizes.0, small)) i.1 in
        let whole = take-append-drop f.size (b ∷ bs) in
        subst (λ (t : List ℕ). ArePieces t ps) whole
        (subst (λ (qs : List Piece). ArePieces (take f.size (b ∷ bs) ++ drop f.size (b ∷ bs)) qs) i.2
        (are.format f (take f.size (b ∷ bs)) (ap format_at whole ∙ e) (length-take-le f.size (b ∷ bs) sizes.1) rest))

sound_within : (n : ℕ) → Read n
sound_within n [] ps small h = let same : [] ≡ ps = cc in subst (λ (qs : List Piece). ArePieces [] qs) same are.nothing
sound_within zero (b ∷ bs) ps small h = absurd (omega (arith, small))
sound_within (suc n) (b ∷ bs) ps small h = step n b bs ps small h (sound_within n)

-- ---- what is spelled so is read

no_format : (b : ℕ) (text : List ℕ) → (b == 37) ≡ false → format_at (b ∷ text) ≡ None
unfolding format_at formats
no_format b text e = rw e refl

byte_found : (b : ℕ) (text : List ℕ) → (b == 37) ≡ false → piece_at (b ∷ text) ≡ Some (record { piece = piece.Byte b; size = 1 })
byte_found b text e = ap (λ (o : Option Format). front_or_byte o b) (no_format b text e) ∙ rw e refl

format_found : (text : List ℕ) (f : Format) → format_at text ≡ Some f → piece_at text ≡ Some (record { piece = piece_of f.operand; size = f.size })
format_found [] f e = let w = format_within [] f e in absurd (omega (arith, w.0, w.1))
format_found (b ∷ bs) f e = ap (λ (o : Option Format). front_or_byte o b) e

complete : {text : List ℕ} {ps : List Piece} → ArePieces text ps → pieces_from 0 text ≡ Some ps
complete are.nothing = refl
complete (are.byte {b = b} {text = text} e d) =
    one_piece (record { piece = piece.Byte b; size = 1 }) (b ∷ text) (byte_found b text e) (omega arith)
    ∙ ap (λ (o : Option (List Piece)). option_map (λ (qs : List Piece). piece.Byte b ∷ qs) o) (complete d)
complete (are.format f spelling {text = text} e s d) =
    let cut : drop f.size (spelling ++ text) ≡ text = ap (λ (k : ℕ). drop k (spelling ++ text)) (sym s) ∙ drop-append_seam spelling text in
    one_piece (record { piece = piece_of f.operand; size = f.size }) (spelling ++ text) (format_found (spelling ++ text) f e)
    (format_within (spelling ++ text) f e).0
    ∙ ap (λ (o : Option (List Piece)). option_map (λ (qs : List Piece). piece_of f.operand ∷ qs) o) (ap (λ (t : List ℕ). pieces_from 0 t) cut ∙ complete d)

pub croak_texts_law : CroakTextsLaw
unfolding pieces_of
croak_texts_law = record { sound = λ text ps h. sound_within (length text) text ps (omega arith) h; complete = λ text ps d. complete d }
