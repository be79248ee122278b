-- The suffix that is found is the longest.
use Rattle.std.proofs.Common.{◌≡◌, ℕ, ◌≤◌, ◌&&◌, ◌||◌, Bool, true, false, List, [], ◌∷◌, length, map, refl, ap, sym, ◌∙◌, arith}
use Rattle.std.proofs.lemmas.Bool.{and_parts}
use Rattle.std.proofs.lemmas.Bool.Decides.{nat_tests}
use Rattle.std.proofs.lemmas.Slice.Eq.{bytes_eq-Decides}
use Rattle.std.specs.List.{list_all}
use Rattle.std.specs.Prelude.{if◌then◌else◌, nat_le}
use Rattle.std.specs.Str.{bytes_eq}
use Rattle.xs_base.specs.Names.{is_among}
use Rattle.xs_base.specs.Scanning.{starts_with}
use Rattle.xs_ctok.specs.Laws.{SuffixLaw}
use Rattle.xs_ctok.specs.Numerals.{Suffixed, suffix_among, suffix_of, suffixes}
use Rattle.xs_ctok.proofs.IntegersSpelled.{suffix_front}
use Rattle.xs_ctok.proofs.PunctuatorsSpelled.{among_has, starts_front}

abbrev texts : List Suffixed → List (List ℕ)
texts rows = map (λ (s : Suffixed). s.written) rows

abbrev no_longer_than : ℕ → List ℕ → Bool
no_longer_than n written = nat_le (length written) n

-- no row is longer than one before it
abbrev falls : List Suffixed → Bool
falls [] = true
falls (row ∷ rows) = list_all (no_longer_than (length row.written)) (texts rows) && falls rows

is_at_most : (m n : ℕ) → nat_le m n ≡ true → m ≤ n
is_at_most m n h = grind (arith, nat_tests)

longest_among : (rows : List Suffixed) (text written : List ℕ) → falls rows ≡ true → is_among (texts rows) written ≡ true → starts_with written text ≡ true
    → length written ≤ length (suffix_among rows text).written
longest_among [] text written order listed stands = absurd cc
longest_among (row ∷ rows) text written order listed stands =
    let p = and_parts (list_all (no_longer_than (length row.written)) (texts rows)) (falls rows) order in
    by_found (starts_with row.written text) refl (bytes_eq row.written written) refl p.0 (longest_among rows text written p.1) listed
  where
    by_found : (t : Bool) → starts_with row.written text ≡ t → (e : Bool) → bytes_eq row.written written ≡ e
        → list_all (no_longer_than (length row.written)) (texts rows) ≡ true
        → (is_among (texts rows) written ≡ true → starts_with written text ≡ true → length written ≤ length (suffix_among rows text).written)
        → (e || is_among (texts rows) written) ≡ true → length written ≤ length (if t then row else suffix_among rows text).written
    by_found true f true e all ih h = omega (arith, ap length ((bytes_eq-Decides row.written written).0 e))
    by_found true f false e all ih h =
        is_at_most (length written) (length row.written) (among_has (no_longer_than (length row.written)) (texts rows) written all h)
    by_found false f true e all ih h =
        let same : starts_with row.written text ≡ true = ap (λ k. starts_with k text) ((bytes_eq-Decides row.written written).0 e) ∙ stands in
        let no : true ≡ false = sym same ∙ f in
        absurd cc
    by_found false f false e all ih h = ih h stands

pub suffix_law : SuffixLaw
unfolding suffix_of
suffix_law =
    record {
      stands = λ text.
          let x = suffix_front text in
          ap (starts_with (suffix_of text).written) x.1 ∙ starts_front (suffix_of text).written x.0;
      longest = λ text written listed stands. longest_among suffixes text written refl listed stands;
    }
