-- The lines that show arguments and items are the same where the cells and the store hold the same values.
use Rattle.std.proofs.Common.{◌≡◌, ℕ, ℤ, ◌+◌, List, [], ◌∷◌, ◌++◌, map, length, None, refl, sym, ap, ◌∙◌, append_assoc, append-nil}
use Rattle.xs_api.specs.World.{Cells}
use Rattle.xs_values.specs.declared.plain.Plain.TheVariants.{Undef, Int}
use Rattle.xs_meaning.specs.DeclaredMeaning.{Store, names_from, show_in}
use Rattle.xs_call.specs.MachineTranscript.{cell_text, show_cell}
use Rattle.xs_meaning.specs.Transcript.{arg_line, arg_lines, item_line}
use Rattle.xs_script.specs.ValueText.{value_text_of}
use Rattle.xs_sim.specs.RunnerStates.{holds, made}
use Rattle.xs_sim.proofs.ListPositions.{get_at, one_longer}

arg_line-same : (f g : ℕ → List ℕ) (place name : ℕ) → f name ≡ g name → arg_line f place name ≡ arg_line g place name
unfolding arg_line
arg_line-same f g place name e = rw e refl

pub item_line-same : (f g : ℕ → List ℕ) (args : List ℕ) (place name : ℕ) → f name ≡ g name → item_line f args place name ≡ item_line g args place name
unfolding item_line
item_line-same f g args place name e = rw e refl

-- a scalar that holds a number on both sides
pub shown_same : (h t : Cells) (s u : Store) (z : ℤ) (n : ℕ) → length h ≡ n → length s ≡ n → show_cell (h ++ holds z ∷ t) n ≡ show_in (s ++ Int z ∷ u) n
shown_same h t s u z n e g = ap cell_text (get_at h t (holds z) None n e) ∙ sym (ap value_text_of (get_at s u (Int z) Undef n g))

pub arg_lines-same : (zs : List ℤ) (h t : Cells) (s u : Store) (n place : ℕ) → length h ≡ n → length s ≡ n
    → arg_lines (show_cell (h ++ (made zs ++ t))) place (names_from n zs) ≡ arg_lines (show_in (s ++ (map Int zs ++ u))) place (names_from n zs)
arg_lines-same [] h t s u n place e g = refl
arg_lines-same (z ∷ zs) h t s u n place e g =
    let cells : h ++ (holds z ∷ (made zs ++ t)) ≡ (h ++ holds z ∷ []) ++ (made zs ++ t) = sym (append_assoc h (holds z ∷ []) (made zs ++ t)) in
    let store : s ++ (Int z ∷ (map Int zs ++ u)) ≡ (s ++ Int z ∷ []) ++ (map Int zs ++ u) = sym (append_assoc s (Int z ∷ []) (map Int zs ++ u)) in
    let first = arg_line-same (show_cell (h ++ (holds z ∷ (made zs ++ t)))) (show_in (s ++ (Int z ∷ (map Int zs ++ u)))) place n
    (shown_same h (made zs ++ t) s (map Int zs ++ u) z n e g) in
    let rest = arg_lines-same zs (h ++ holds z ∷ []) t (s ++ Int z ∷ []) u (n + 1) (place + 1) (one_longer h (holds z) n e) (one_longer s (Int z) n g) in
    let others : arg_lines (show_cell (h ++ (holds z ∷ (made zs ++ t)))) (place + 1) (names_from (n + 1) zs)
    ≡ arg_lines (show_in (s ++ (Int z ∷ (map Int zs ++ u)))) (place + 1) (names_from (n + 1) zs) =
    ap (λ c. arg_lines (show_cell c) (place + 1) (names_from (n + 1) zs)) cells ∙ rest
    ∙ sym (ap (λ c. arg_lines (show_in c) (place + 1) (names_from (n + 1) zs)) store) in
    ap (λ l. l ++ arg_lines (show_cell (h ++ (holds z ∷ (made zs ++ t)))) (place + 1) (names_from (n + 1) zs)) first
    ∙ ap (λ l. arg_line (show_in (s ++ (Int z ∷ (map Int zs ++ u)))) place n ++ l) others

-- the same where nothing stands after the arguments
pub arg_lines-all : (zs : List ℤ) (h : Cells) (s : Store) (n : ℕ) → length h ≡ n → length s ≡ n → arg_lines (show_cell (h ++ made zs)) 0 (names_from n zs)
    ≡ arg_lines (show_in (s ++ map Int zs)) 0 (names_from n zs)
arg_lines-all zs h s n e g =
    ap (λ c. arg_lines (show_cell (h ++ c)) 0 (names_from n zs)) (sym (append-nil (made zs)))
    ∙ arg_lines-same zs h [] s [] n 0 e g
    ∙ ap (λ c. arg_lines (show_in (s ++ c)) 0 (names_from n zs)) (append-nil (map Int zs))
