-- How the parts of a line go on.
use Rattle.std.proofs.Common.{◌≡◌, ℕ, zero, suc, ◌+◌, ◌-◌, ◌<◌, ◌≤◌, true, List, [], ◌∷◌, ◌++◌, length, drop, Result, Ok, Err, refl, ap, arith}
use Rattle.std.proofs.lemmas.List.{append-nil, length-append}
use Rattle.xs_base.specs.Names.{is_qualified_name}
use Rattle.xs_base.specs.ByteRuns.{after_run, front_of}
use Rattle.xs_base.specs.declared.byte_runs.ByteClass.{ByteClass}
use Rattle.xs_base.specs.declared.byte_runs.ByteClass.TheVariants.{Digit}
use Rattle.xs_base.proofs.FrontRuns.{front_after}
use Rattle.xs_script.specs.declared.line_part.Token.{Token}
use Rattle.xs_script.specs.declared.line_part.Front.TheVariants as front
use Rattle.xs_script.specs.Lex.{first_part, tokens_from}
use Rattle.xs_base.specs.Reading.{with_front}
use Rattle.xs_script.specs.LineOutcomes.{NoReading}
use Rattle.xs_base.proofs.Collecting.{with_front-with_front}

-- bytes that belong to the part before
pub tokens_from-skip : (skip : ℕ) (bytes : List ℕ) → tokens_from skip bytes ≡ tokens_from 0 (drop skip bytes)
unfolding tokens_from
tokens_from-skip zero bytes = refl
tokens_from-skip (suc skip) [] = refl
tokens_from-skip (suc skip) (b ∷ bytes) = tokens_from-skip skip bytes

pub at_blank : (out : List Token) (bytes : List ℕ) → 0 < length bytes → first_part bytes ≡ front.Blank
    → with_front out (tokens_from 0 bytes) ≡ with_front out (tokens_from 0 (drop 1 bytes))
unfolding tokens_from
at_blank out [] some e = absurd (omega arith)
at_blank out (b ∷ bs) some e = rw e refl

pub at_nothing : (out : List Token) (bytes : List ℕ) → 0 < length bytes → first_part bytes ≡ front.Nothing → with_front out (tokens_from 0 bytes) ≡ Err tt
unfolding tokens_from
at_nothing out [] some e = absurd (omega arith)
at_nothing out (b ∷ bs) some e = rw e refl

pub at_piece : (out : List Token) (bytes : List ℕ) (token : Token) (len : ℕ) → 0 < length bytes → 0 < len → first_part bytes ≡ front.Piece token len
    → with_front out (tokens_from 0 bytes) ≡ with_front (out ++ token ∷ []) (tokens_from 0 (drop len bytes))
unfolding tokens_from
at_piece out [] token len some pos e = absurd (omega arith)
at_piece out (b ∷ bs) token zero some pos e = absurd (omega arith)
at_piece out (b ∷ bs) token (suc len) some pos e =
    let less : suc len - 1 ≡ len = omega arith in
    rw (e, less, tokens_from-skip len bs) (with_front-with_front out (token ∷ []) (tokens_from 0 (drop len bs)))

pub at_end : (out : List Token) (bytes : List ℕ) → length bytes ≡ 0 → with_front out (tokens_from 0 bytes) ≡ Ok out
unfolding tokens_from
at_end out [] h = ap (λ (l : List Token). let r : Result (List Token) NoReading = Ok l in r) (append-nil out)
at_end out (b ∷ bs) h = absurd (omega arith)

-- ---- how long a name and a number are

pub front_within : (class : ByteClass) (xs : List ℕ) → length (front_of class xs) ≤ length xs
front_within class xs = omega (arith, ap length (front_after class xs), length-append (front_of class xs) (after_run class xs))

pub name_some : (name : List ℕ) → is_qualified_name name ≡ true → 0 < length name
name_some [] h = absurd cc
name_some (b ∷ bs) h = omega arith

pub number_within : (sign digits after : List ℕ) → digits ≡ front_of Digit after → length (sign ++ digits) ≤ length sign + length after
number_within sign digits after e = omega (arith, length-append sign digits, ap length e, front_within Digit after)
