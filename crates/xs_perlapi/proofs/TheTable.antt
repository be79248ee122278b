-- The tables, entry by entry.
use Rattle.std.proofs.Common.{◌≡◌, ℕ, Bool, true, false, List, [], ◌∷◌, ◌++◌, Option, Some, None, refl, ap}
use Rattle.std.specs.Prelude.{if◌then◌else◌}
use Rattle.xs_perlapi.specs.declared.row.Written.{Written}
use Rattle.xs_perlapi.specs.Formats.{format_at, formats}
use Rattle.xs_perlapi.specs.Laws.{FormatsAreFound, FormatsDiffer, FoundWordsStand, NamesStandAlone, OperandWordsStand, OtherWordsAreFound, OtherWordsDiffer, RowsAreCounted, WordsAreFound, WordsDiffer, WordsWithoutRow}
use Rattle.xs_perlapi.specs.Table.{ApiWord, WordUse, api_words, found, is_api_word, is_entry, is_interface_word, meaning_of, use_of, word_written}

pub rows_are_counted : RowsAreCounted
unfolding api_words
rows_are_counted = refl

pub words_differ : WordsDiffer
unfolding api_words
words_differ = refl

pub other_words_differ : OtherWordsDiffer
unfolding api_words is_api_word
other_words_differ = refl

pub words_are_found : WordsAreFound
unfolding api_words word_written
words_are_found = refl

pub other_words_are_found : OtherWordsAreFound
unfolding meaning_of
other_words_are_found = refl

pub words_without_row : WordsWithoutRow
unfolding api_words
words_without_row = refl

pub names_stand_alone : NamesStandAlone
unfolding api_words
names_stand_alone = refl

pub operand_words_stand : OperandWordsStand
unfolding is_interface_word is_api_word api_words
operand_words_stand = refl

pub formats_differ : FormatsDiffer
unfolding formats
formats_differ = refl

pub formats_are_found : FormatsAreFound
unfolding formats format_at
formats_are_found rest = refl

-- where an entry stands among others
abbrev pub StandsIn : List ApiWord → Written → List ℕ → WordUse → Type 0
StandsIn all way name u = (before after : List ApiWord) × (e : ApiWord) × (all ≡ before ++ e ∷ after)
    × (is_entry way name e ≡ true) × (use_of e ≡ u)

found_stands : (way : Written) (name : List ℕ) (u : WordUse) (all : List ApiWord) → found way name all ≡ Some u → StandsIn all way name u
found_stands way name u [] h = absurd cc
found_stands way name u (e ∷ all) h = by (is_entry way name e) refl h (found_stands way name u all)
  where
    by : (t : Bool) → is_entry way name e ≡ t → (if t then Some (use_of e) else found way name all) ≡ Some u
        → (found way name all ≡ Some u → StandsIn all way name u) → StandsIn (e ∷ all) way name u
    by true is h more = ([], all, e, refl, is, cc)
    by false is h more = let s = more h in (e ∷ s.0, s.1, s.2, ap (λ (es : List ApiWord). e ∷ es) s.3, s.4, s.5)

pub found_words_stand : FoundWordsStand
unfolding word_written
found_words_stand way name u h = found_stands way name u api_words h
