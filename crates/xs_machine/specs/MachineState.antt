-- What a run works on, and how it goes on or stops.
use Rattle.std.specs.Prelude.{ℕ, zero, suc, pos, negsuc, ℤ, Bool, true, false, List, Option, Some, None, slice_index_or, slice_set}
use Rattle.xs_values.specs.declared.kind.Kind.TheVariants.{I32}
use Rattle.xs_values.specs.declared.operator.Op.{Op}
use Rattle.xs_values.specs.declared.trap.Trap.{Trap}
use Rattle.xs_values.specs.declared.trap.Trap.TheVariants as trap
use Rattle.xs_values.specs.declared.unary_operator.UnOp.{UnOp}
use Rattle.xs_values.specs.Numbers.{Number, calculated, calculated_unary, wrapped}
use Rattle.std.specs.Prelude.{Result, Ok, Err}
use Rattle.std.specs.Result.{result_map_both}
use Rattle.xs_api.specs.declared.api.Abrupt.{Abrupt}
use Rattle.xs_api.specs.declared.api.Abrupt.TheVariants.{Traps}
use Rattle.xs_api.specs.declared.api.Frame.{Frame}
use Rattle.xs_api.specs.declared.api.Operand.{Operand}
use Rattle.xs_api.specs.declared.api.Operand.TheVariants.{Unset, Num, Scalar, Void}
use Rattle.xs_ctree.specs.declared.value_type.ValueType.{ValueType}
use Rattle.xs_ctree.specs.declared.value_type.ValueType.TheVariants as type_of
use Rattle.xs_api.specs.Effects.{Effect, Gives, Ends}
use Rattle.xs_machine.specs.declared.machine.Alone.{Alone}
use Rattle.xs_machine.specs.declared.machine.Alone.TheVariants as alone_of

-- the variables of the present function by their slots, what it knows of its call, what the rows
-- work on, and the turns that are left
pub record State (S : Type 0) : Type 0 where
  pub vars : List Operand
  pub frame : Frame
  pub store : S
  pub turns : ℕ

-- A run goes on with a value, or leaves in another way.
pub data Out (S A : Type 0) : Type 0 where
  Done : A → State S → Out S A
  Stop : Abrupt → State S → Out S A

-- one turn, where one is left
abbrev pub tick : {X : Type 0} → ℕ → X → (ℕ → X) → X
tick zero spent go = spent
tick (suc t) spent go = go t

-- whether a condition holds; only a number and a pointer are conditions
abbrev pub holds_number : ℤ → Bool
holds_number (pos zero) = false
holds_number (pos (suc n)) = true
holds_number (negsuc n) = true

abbrev pub truth_of : Operand → Option Bool
truth_of (Num n) = Some (holds_number n.value)
truth_of (Scalar None) = Some false
truth_of (Scalar (Some n)) = Some true
truth_of Unset = None
truth_of Void = None

-- a value as one of a type; as void it is dropped (C11 6.3.2.2)
abbrev pub assigned : ValueType → Operand → Option Operand
assigned (type_of.Number k) (Num n) = Some (Num (wrapped k n.value))
assigned type_of.Scalar (Scalar p) = Some (Scalar p)
assigned (type_of.Number k) (Scalar p) = None
assigned (type_of.Number k) Unset = None
assigned (type_of.Number k) Void = None
assigned type_of.Scalar (Num n) = None
assigned type_of.Scalar Unset = None
assigned type_of.Scalar Void = None
assigned type_of.Void v = Some Void
assigned _ v = None

-- 1 or 0 of kind I32
abbrev pub truth_number : Bool → Operand
truth_number true = Num (wrapped I32 (pos 1))
truth_number false = Num (wrapped I32 (pos 0))

-- what `!` gives (C11 6.5.3.3p5)
abbrev pub negated : Option Bool → Result Operand Trap
negated None = Err trap.Kind
negated (Some true) = Ok (truth_number false)
negated (Some false) = Ok (truth_number true)

-- what `&&` and `||` give of an operand (C11 6.5.13p3, 6.5.14p3)
abbrev pub truth_value : Option Bool → Result Operand Trap
truth_value None = Err trap.Kind
truth_value (Some holds) = Ok (truth_number holds)

-- what an operator gives before its operand
abbrev pub signed : UnOp → Operand → Result Operand Trap
signed op (Num a) = result_map_both Num (λ t. t) (calculated_unary op a)
signed op Unset = Err trap.Kind
signed op (Scalar p) = Err trap.Kind
signed op Void = Err trap.Kind

-- what a function gave is read: one that fell off its end gave nothing (C11 6.9.1p12)
abbrev pub result_read : Operand → Result Operand Trap
result_read Unset = Err trap.Unset
result_read (Num n) = Ok (Num n)
result_read (Scalar p) = Ok (Scalar p)
result_read Void = Ok Void

-- what an operation on one value gives
abbrev pub alone_value : Alone → Operand → Result Operand Trap
alone_value alone_of.Read v = result_read v
alone_value alone_of.Not v = negated (truth_of v)
alone_value (alone_of.Sign op) v = signed op v
alone_value alone_of.Truth v = truth_value (truth_of v)

module _ {S : Type 0} where
  infixl 10 ◌>>=◌
  -- goes on from where a run is done
  abbrev pub ◌>>=◌ : {A B : Type 0} → Out S A → (A → State S → Out S B) → Out S B
  (Done a σ) >>= go = go a σ
  (Stop a σ) >>= go = Stop a σ

  -- a form of code whose meaning is not built yet; the code of glue has none
  abbrev pub unbuilt : {A : Type 0} → State S → Out S A
  unbuilt σ = Stop (Traps trap.Kind) σ

  abbrev pub with_vars : List Operand → State S → State S
  with_vars vars σ = record σ { vars = vars }

  abbrev pub with_store : S → State S → State S
  with_store store σ = record σ { store = store }

  -- the state after a row
  abbrev pub lift : Effect S → State S → Out S Operand
  lift (Gives v f s) σ = Done v (record σ { frame = f; store = s })
  lift (Ends a f s) σ = Stop a (record σ { frame = f; store = s })

  -- a value, or the trap for one of a wrong type
  abbrev pub given : Option Operand → State S → Out S Operand
  given None σ = Stop (Traps trap.Kind) σ
  given (Some v) σ = Done v σ

  abbrev pub read_value : Operand → State S → Out S Operand
  read_value Unset σ = Stop (Traps trap.Unset) σ
  read_value (Num n) σ = Done (Num n) σ
  read_value (Scalar p) σ = Done (Scalar p) σ
  read_value Void σ = Done Void σ

  abbrev pub read_var : ℕ → State S → Out S Operand
  read_var x σ = read_value (slice_index_or σ.vars x Unset) σ

  abbrev pub write_var : ℕ → Operand → State S → State S
  write_var x v σ = with_vars (slice_set σ.vars x v) σ

  -- an assignment of an operand, which is the value that the variable then has
  abbrev pub assign_as : Option Operand → ℕ → State S → Out S Operand
  assign_as None x σ = Stop (Traps trap.Kind) σ
  assign_as (Some v) x σ = Done v (write_var x v σ)

  -- items, a number of kind I32
  abbrev pub item_count : State S → Operand
  item_count σ = Num (wrapped I32 (pos σ.frame.items))

  -- a value or a trap
  abbrev pub given_or : {A : Type 0} → Result A Trap → State S → Out S A
  given_or (Ok v) σ = Done v σ
  given_or (Err t) σ = Stop (Traps t) σ

  abbrev pub calculate : Result Number Trap → State S → Out S Operand
  calculate r σ = given_or (result_map_both Num (λ t. t) r) σ

  -- an operator on two operands
  abbrev pub operate : Op → Operand → Operand → State S → Out S Operand
  operate op (Num a) (Num b) σ = calculate (calculated op a b) σ
  operate op (Num a) Unset σ = Stop (Traps trap.Kind) σ
  operate op (Num a) (Scalar p) σ = Stop (Traps trap.Kind) σ
  operate op (Num a) Void σ = Stop (Traps trap.Kind) σ
  operate op Unset v σ = Stop (Traps trap.Kind) σ
  operate op (Scalar p) v σ = Stop (Traps trap.Kind) σ
  operate op Void v σ = Stop (Traps trap.Kind) σ

  -- an operation on one value
  abbrev pub alone : Alone → Operand → State S → Out S Operand
  alone op v σ = given_or (alone_value op v) σ

  -- a cast to a type
  abbrev pub convert : ValueType → Operand → State S → Out S Operand
  convert t v σ = given (assigned t v) σ
