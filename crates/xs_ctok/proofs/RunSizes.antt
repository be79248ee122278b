-- How long words, and what stands after them, are.
use Rattle.std.proofs.Common.{◌≡◌, ℕ, ◌<◌, ◌≤◌, Bool, true, false, List, [], ◌∷◌, length, Option, Some, None, refl, ap, arith}
use Rattle.std.proofs.lemmas.List.{length-append}
use Rattle.std.specs.Prelude.{◌||◌, codes, if◌then◌else◌, is_some}
use Rattle.xs_base.specs.ByteRuns.{after_run, front_of}
use Rattle.xs_base.specs.Readers.{head_is}
use Rattle.xs_base.specs.Scanning.{begins_word, is_ascii_digit, starts_with, strip_prefix}
use Rattle.xs_base.specs.declared.byte_runs.ByteClass.{ByteClass}
use Rattle.xs_base.specs.declared.byte_runs.ByteClass.TheVariants as class
use Rattle.xs_base.proofs.FrontRuns.{front_after, word_in_front}

pub after_within : (class : ByteClass) (xs : List ℕ) → length (after_run class xs) ≤ length xs
after_within class xs = omega (arith, ap length (front_after class xs), length-append (front_of class xs) (after_run class xs))

pub front_within : (class : ByteClass) (xs : List ℕ) → length (front_of class xs) ≤ length xs
front_within class xs = omega (arith, ap length (front_after class xs), length-append (front_of class xs) (after_run class xs))

-- a word has a byte, and lies within the text
pub record WordSize (text : List ℕ) : Type 0 where
  pub some : 0 < length (front_of class.Word text)
  pub within : length (front_of class.Word text) ≤ length text

pub word_size : (text : List ℕ) → head_is begins_word text ≡ true → WordSize text
word_size [] h = absurd cc
word_size (b ∷ bs) h = record { some = by (begins_word b) h; within = front_within class.Word (b ∷ bs) }
  where
    by : (t : Bool) → t ≡ true → 0 < length (if t || is_ascii_digit b then b ∷ front_of class.Word bs else [])
    by true e = omega arith
    by false e = absurd cc

-- what a text begins with lies within it
pub prefix_size : (word text : List ℕ) → starts_with word text ≡ true → length word ≤ length text
prefix_size word text h = by (strip_prefix word text) refl h
  where
    by : (o : Option (List ℕ)) → strip_prefix word text ≡ o → is_some o ≡ true → length word ≤ length text
    by None e some = absurd cc
    by (Some rest) e some = omega (arith, ap length (word_in_front word text rest e), length-append word rest)

-- the end of a comment has two bytes
pub close_size : (text : List ℕ) → starts_with (codes "*/") text ≡ true → 2 ≤ length text
close_size text h = prefix_size (codes "*/") text h
