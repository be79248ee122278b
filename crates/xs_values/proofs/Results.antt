-- What operators give: division, and the ranges of results.
use Rattle.std.proofs.Common.{◌≡◌, ℕ, ℤ, pos, negsuc, neg_ℤ, ◌+ℤ◌, ◌-ℤ◌, ◌*ℤ◌, ◌^◌, Bool, true, false, not, if◌then◌else◌, Result, Ok, Err, bit_and, bit_or, refl, sym, ap, subst, ◌∙◌, arith}
use Rattle.std.proofs.Math.Nat.{div-le_self}
use Rattle.std.proofs.lemmas.Bool.{cond_both}
use Rattle.std.proofs.lemmas.Int.{ints, quot-rem}
use Rattle.std.specs.Int.{int_div_euclid}
use Rattle.std.specs.Int.RustNames.{int_div, int_le, int_rem, unsigned_abs}
use Rattle.std.specs.Prelude.{bit_xor, int_lt}
use Rattle.xs_values.specs.declared.kind.Kind.{Kind}
use Rattle.xs_values.specs.declared.kind.Kind.TheVariants.{I32}
use Rattle.xs_values.specs.declared.operator.Op.{Op}
use Rattle.xs_values.specs.declared.operator.Op.TheVariants.{Add, Subtract, Multiply, Divide, Remainder, ShiftLeft, ShiftRight, BitAnd, BitXor, BitOr, Equal, NotEqual, Less, LessEqual, Greater, GreaterEqual}
use Rattle.xs_values.specs.declared.trap.Trap.{Trap}
use Rattle.xs_values.specs.declared.trap.Trap.TheVariants.{Overflow, Shift, Zero}
use Rattle.xs_values.specs.declared.unary_operator.UnOp.{UnOp}
use Rattle.xs_values.specs.declared.unary_operator.UnOp.TheVariants.{Plus, Minus, Complement, Not}
use Rattle.xs_values.specs.Kinds.{common_kind, is_signed, promoted}
use Rattle.xs_values.specs.Laws.{DivisionIsWhole, IsNumberOf, RemaindersTrapAsQuotients, ResultsAreNumbers, UnaryResultsAreNumbers}
use Rattle.xs_values.specs.Numbers.{IsInRange, Number, bits_in, calculated, calculated_unary, divided, divided_as, is_comparison, is_count, is_held, is_same}
use Rattle.xs_values.specs.Numbers.{operated, result_kind_of, right_operand, settled, shifted_left, shifted_right, truth_number, unary_kind_of}
use Rattle.xs_values.specs.Numbers.{working_kind, wrapped, wrapped_value}
use Rattle.xs_values.proofs.Ranges.{held_in_range, high_nonnegative, low_nonpositive, promotion_keeps, rest_in_range}
use Rattle.xs_values.proofs.Wrapping.{wrapped_in_range}

-- what a division gives, by its two tests
abbrev division : Kind → ℤ → Bool → Bool → Result Number Trap
division k z by_zero held = if by_zero then Err Zero else (if held then Ok (record { kind = k; value = z }) else Err Overflow)

value_of : Result Number Trap → ℤ
value_of (Ok n) = n.value
value_of (Err t) = pos 0

division_value : (k : Kind) (z : ℤ) (b c : Bool) (n : Number) → division k z b c ≡ Ok n → n.value ≡ z
unfolding value_of
division_value k z true c n e = absurd cc
division_value k z false true n e = sym (ap value_of e)
division_value k z false false n e = absurd cc

division_traps : (k : Kind) (z w : ℤ) (b c : Bool) (t : Trap) → division k z b c ≡ Err t → division k w b c ≡ Err t
division_traps k z w true c t e = e
division_traps k z w false true t e = absurd cc
division_traps k z w false false t e = e

whole : (k : Kind) (x y : ℤ) (q r : Number) → divided k x y (int_div x y) ≡ Ok q → divided k x y (int_rem x y) ≡ Ok r → q.value *ℤ y +ℤ r.value ≡ x
whole k x y q r e g =
    ap (λ z. z *ℤ y +ℤ r.value) (division_value k (int_div x y) (is_same y (pos 0)) (is_held k (int_div x y)) q e)
    ∙ ap (λ z. int_div x y *ℤ y +ℤ z) (division_value k (int_rem x y) (is_same y (pos 0)) (is_held k (int_div x y)) r g)
    ∙ quot-rem x y

pub division_is_whole : DivisionIsWhole
division_is_whole a b q r e g =
    whole (common_kind a.kind b.kind) (wrapped_value (common_kind a.kind b.kind) a.value) (wrapped_value (common_kind a.kind b.kind) b.value) q r e g

traps : (k : Kind) (x y : ℤ) (t : Trap) → divided k x y (int_div x y) ≡ Err t → divided k x y (int_rem x y) ≡ Err t
traps k x y t e = division_traps k (int_div x y) (int_rem x y) (is_same y (pos 0)) (is_held k (int_div x y)) t e

pub remainders_trap : RemaindersTrapAsQuotients
remainders_trap a b t e =
    traps (common_kind a.kind b.kind) (wrapped_value (common_kind a.kind b.kind) a.value) (wrapped_value (common_kind a.kind b.kind) b.value) t e

-- what is given is a number of a kind, or a trap
abbrev Gives : Kind → Result Number Trap → Type 0
Gives k (Ok n) = IsNumberOf k n
Gives k (Err t) = Unit {0}

given_number : (k : Kind) (r : Result Number Trap) (n : Number) → Gives k r → r ≡ Ok n → IsNumberOf k n
given_number k r n g e = subst (Gives k) e g

wrapped_gives : (k : Kind) (z : ℤ) → Gives k (Ok (wrapped k z))
wrapped_gives k z = record { of_kind = refl; held = wrapped_in_range k z }

settled_gives : (k : Kind) (z : ℤ) → Gives k (settled k z)
settled_gives k z =
    cond_both (is_held k z) (Ok (record { kind = k; value = z })) (if is_signed k then Err Overflow else Ok (wrapped k z)) (Gives k)
    (λ e. record { of_kind = refl; held = held_in_range k z e })
    (λ _. cond_both (is_signed k) (Err Overflow) (Ok (wrapped k z)) (Gives k) (λ _. tt) (λ _. wrapped_gives k z))

divided_gives : (k : Kind) (x y z : ℤ) → (is_held k (int_div x y) ≡ true → IsInRange k z) → Gives k (divided k x y z)
divided_gives k x y z h =
    cond_both (is_same y (pos 0)) (Err Zero) (divided_as k (int_div x y) z) (Gives k) (λ _. tt)
    (λ _. cond_both (is_held k (int_div x y)) (Ok (record { kind = k; value = z })) (Err Overflow) (Gives k)
    (λ e. record { of_kind = refl; held = h e }) (λ _. tt))

left_gives : (k : Kind) (x y : ℤ) → Gives k (shifted_left k x y)
left_gives k x y =
    cond_both (is_count k y) (if int_lt x (pos 0) then Err Overflow else settled k (x *ℤ pos (2 ^ unsigned_abs y))) (Err Shift) (Gives k)
    (λ _. cond_both (int_lt x (pos 0)) (Err Overflow) (settled k (x *ℤ pos (2 ^ unsigned_abs y))) (Gives k) (λ _. tt)
    (λ _. settled_gives k (x *ℤ pos (2 ^ unsigned_abs y))))
    (λ _. tt)

floor_in_range : (k : Kind) (x : ℤ) (p : ℕ) → IsInRange k x → IsInRange k (int_div_euclid x (pos p))
floor_in_range k (pos a) p r = record { low = omega (arith, ints, low_nonpositive k); high = omega (arith, ints, r.high, div-le_self a p) }
floor_in_range k (negsuc a) p r = record { low = omega (arith, ints, r.low, div-le_self a p); high = omega (arith, ints, high_nonnegative k) }

right_gives : (k : Kind) (x y : ℤ) → IsInRange k x → Gives k (shifted_right k x y)
right_gives k x y r =
    cond_both (is_count k y) (Ok (record { kind = k; value = int_div_euclid x (pos (2 ^ unsigned_abs y)) })) (Err Shift) (Gives k)
    (λ _. record { of_kind = refl; held = floor_in_range k x (2 ^ unsigned_abs y) r }) (λ _. tt)

truth_gives : (b : Bool) → Gives I32 (Ok (truth_number b))
truth_gives true = record { of_kind = refl; held = record { low = record { le = tt }; high = record { le = tt } } }
truth_gives false = record { of_kind = refl; held = record { low = record { le = tt }; high = record { le = tt } } }

operated_gives : (op : Op) (k : Kind) (x y : ℤ) → IsInRange k x → Gives (if is_comparison op then I32 else k) (operated op k x y)
operated_gives Add k x y r = settled_gives k (x +ℤ y)
operated_gives Subtract k x y r = settled_gives k (x -ℤ y)
operated_gives Multiply k x y r = settled_gives k (x *ℤ y)
operated_gives Divide k x y r = divided_gives k x y (int_div x y) (held_in_range k (int_div x y))
operated_gives Remainder k x y r = divided_gives k x y (int_rem x y) (λ _. rest_in_range k x y r)
operated_gives ShiftLeft k x y r = left_gives k x y
operated_gives ShiftRight k x y r = right_gives k x y r
operated_gives BitAnd k x y r = wrapped_gives k (pos (bit_and (bits_in k x) (bits_in k y)))
operated_gives BitXor k x y r = wrapped_gives k (pos (bit_xor (bits_in k x) (bits_in k y)))
operated_gives BitOr k x y r = wrapped_gives k (pos (bit_or (bits_in k x) (bits_in k y)))
operated_gives Equal k x y r = truth_gives (is_same x y)
operated_gives NotEqual k x y r = truth_gives (not (is_same x y))
operated_gives Less k x y r = truth_gives (int_lt x y)
operated_gives LessEqual k x y r = truth_gives (int_le x y)
operated_gives Greater k x y r = truth_gives (int_lt y x)
operated_gives GreaterEqual k x y r = truth_gives (int_le y x)

pub results_are_numbers : ResultsAreNumbers
results_are_numbers op a b n e =
    given_number (result_kind_of op a.kind b.kind) (calculated op a b) n
    (operated_gives op (working_kind op a.kind b.kind) (wrapped_value (working_kind op a.kind b.kind) a.value)
    (right_operand op (working_kind op a.kind b.kind) b.value) (wrapped_in_range (working_kind op a.kind b.kind) a.value)) e

unary_gives : (op : UnOp) (a : Number) → IsInRange a.kind a.value → Gives (unary_kind_of op a.kind) (calculated_unary op a)
unary_gives Plus a r = record { of_kind = refl; held = promotion_keeps a.kind a.value r }
unary_gives Minus a r = settled_gives (promoted a.kind) (neg_ℤ a.value)
unary_gives Complement a r = wrapped_gives (promoted a.kind) (negsuc 0 -ℤ a.value)
unary_gives Not a r = truth_gives (is_same a.value (pos 0))

pub unary_results_are_numbers : UnaryResultsAreNumbers
unary_results_are_numbers op a n r e = given_number (unary_kind_of op a.kind) (calculated_unary op a) n (unary_gives op a r) e
