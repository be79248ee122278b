-- What the body of a glue function means, by the ways out.
use Rattle.std.proofs.Common.{◌≡◌, ℕ, zero, suc, ℤ, pos, ◌+◌, ◌-◌, ◌≤◌, arith, true, false, List, [], ◌∷◌, ◌++◌, map, length, replicate, Option, Some, None, refl, sym, ap, ◌∙◌, append_assoc}
use Rattle.std.proofs.lemmas.Bool.Decides.{nat_tests}
use Rattle.std.proofs.lemmas.Int.{ints}
use Rattle.std.specs.Prelude.{◌==◌, slice_get, slice_index_or, slice_set, Ok, Err}
use Rattle.xs_api.specs.declared.api.Abrupt.{Abrupt}
use Rattle.xs_api.specs.declared.api.Abrupt.TheVariants.{Traps, Croaks, Returns}
use Rattle.xs_api.specs.declared.api.Frame.{Frame}
use Rattle.xs_api.specs.declared.api.Operand.{Operand}
use Rattle.xs_api.specs.declared.api.Operand.TheVariants.{Unset, Num, Scalar}
use Rattle.xs_api.specs.declared.api.Registered.{Registered}
use Rattle.xs_api.specs.declared.heap.Cell.{Cell}
use Rattle.xs_machine.specs.Cmean.{eval, exec, exec_all}
use Rattle.xs_api.specs.Rows.{usage_text}
use Rattle.xs_machine.specs.Dispatch.{counted_rows}
use Rattle.xs_machine.specs.MachineState.{State, Out, Stop, Done, calculate}
use Rattle.xs_perlapi.specs.declared.row.Row.TheVariants.{SvNewMortal, SvSetIv, XsReturn}
use Rattle.xs_ctree.specs.TypedTree.{Stmt, Variable, Cast, Declare, stmts_of}
use Rattle.xs_ctree.specs.declared.value_type.Slot.{Slot}
use Rattle.xs_ctree.specs.declared.value_type.ValueType.TheVariants as type_of
use Rattle.xs_api.specs.World.{Cells, World, cell_at, is_read_only, may_make}
use Rattle.xs_values.specs.declared.kind.Kind.TheVariants.{I32, I64}
use Rattle.xs_values.specs.declared.plain.Plain.TheVariants.{Undef, Int}
use Rattle.xs_values.specs.declared.trap.Trap.{Trap}
use Rattle.xs_values.specs.declared.trap.Trap.TheVariants.{Large}
use Rattle.xs_values.specs.Numbers.{Number, is_same, wrapped, wrapped_value}
use Rattle.xs_values.proofs.Wrapping.{wrapped_value-held}
use Rattle.xs_iface.specs.declared.xsub.Param.{Param}
use Rattle.xs_iface.specs.declared.xsub.Xsub.{Xsub}
use Rattle.std.specs.List.{AllByRecursion as All}
use Rattle.xs_iface.specs.SumForm.{IsTermOf}
use Rattle.xs_stub.specs.Stub.{joined_names}
use Rattle.xs_call.specs.GlueCode.{declarations, input, inputs, param_slots, retval, retval_scalar, slots_of, sum_tree, end, work, xsub_body}
use Rattle.xs_sim.specs.TreeBuilders.{row_of, row_done, row_quits, int_literal, assign_int, assign_item, assign_scalar, slot_of}
use Rattle.xs_meaning.specs.DeclaredMeaning.{sum_of}
use Rattle.xs_sim.proofs.ListPositions.{get_at, get_next, set_at, set_next, find_at, one_longer}
use Rattle.xs_sim.proofs.IntNumbers.{in_range}
use Rattle.xs_sim.proofs.StatementMeanings.{then_on, then_out, input_done, int_done, int_trapped, mortal_done, mortal_large, setiv_done, item_done, item_returned, with_first}
use Rattle.xs_sim.specs.RunnerStates.{state, world, frame, holds}
use Rattle.xs_call.proofs.SumMeanings.{sum_means}

-- ---- the argument test

small_held : (n : ℕ) → n ≤ 1000000 → wrapped_value I32 (pos n) ≡ pos n
small_held n h = wrapped_value-held I32 (pos n) (in_range n (omega (arith, h)))

differs : (n k : ℕ) → (n == k) ≡ false → is_same (pos n) (pos k) ≡ false
differs n k e = grind (arith, ints, nat_tests)

agrees : (n k : ℕ) → (n == k) ≡ true → is_same (pos n) (pos k) ≡ true
agrees n k e = grind (arith, ints, nat_tests)

-- the numbers that are compared are the counts themselves
counts : (n m k : ℕ) → m ≡ n → n ≤ 1000000 → k ≤ 1000000 → is_same (wrapped_value I32 (wrapped_value I32 (pos m))) (wrapped_value I32 (pos k))
    ≡ is_same (pos n) (pos k)
counts n m k e h few =
    ap (λ i. is_same (wrapped_value I32 (wrapped_value I32 (pos i))) (wrapped_value I32 (pos k))) e
    ∙ ap (λ z. is_same (wrapped_value I32 z) (wrapped_value I32 (pos k))) (small_held n h)
    ∙ ap (λ z. is_same z (wrapped_value I32 (pos k))) (small_held n h)
    ∙ ap (is_same (pos n)) (small_held k few)

module _ (x : Xsub) (vars : List Operand) (called args temps : List ℕ) (cells : Cells) (names : List Registered) (top turns : ℕ) (whole : top
    ≡ length args) (held : length args ≤ 1000000) (few : length x.params ≤ 1000000) where
  -- another number of arguments
  pub usage_means : (length args == length x.params) ≡ false →
      exec counted_rows (xsub_body x) (state vars (frame called 0) (world cells args top (0 ∷ []) temps names) turns)
      ≡ Stop (Croaks (usage_text called (joined_names x.params))) (state vars (frame called (top - 0)) (world cells args top [] temps names) turns)
  usage_means d = rw (counts (length args) (top - 0) (length x.params) (omega (arith, whole)) held few, differs (length args) (length x.params) d) refl

  -- the work, after the argument test
  pub work_means : (length args == length x.params) ≡ true → (way : Abrupt) (σ : State World)
      → exec_all counted_rows (stmts_of (work x)) (state vars (frame called (top - 0)) (world cells args top [] temps names) turns) ≡ Stop way σ
      → exec counted_rows (xsub_body x) (state vars (frame called 0) (world cells args top (0 ∷ []) temps names) turns) ≡ Stop way σ
  work_means d way σ e = rw (counts (length args) (top - 0) (length x.params) (omega (arith, whole)) held few, agrees (length args) (length x.params) d, e) refl

-- ---- declarations

-- the variables at the entry: the parameters, RETVAL and RETVALSV, all unset
abbrev unset_for : List Param → List Operand
unset_for [] = Unset ∷ Unset ∷ []
unset_for (p ∷ ps) = Unset ∷ unset_for ps

all_unset : (slot : ℕ) (ps : List Param) (one two : Slot) → replicate (length (param_slots slot ps ++ one ∷ two ∷ [])) Unset ≡ unset_for ps
all_unset slot [] one two = refl
all_unset slot (p ∷ ps) one two = ap (λ vars. Unset ∷ vars) (all_unset (slot + 1) ps one two)

still_unset : (ps : List Param) (slot : ℕ) → slice_set (unset_for ps) slot Unset ≡ unset_for ps
still_unset [] zero = refl
still_unset [] (suc zero) = refl
still_unset [] (suc (suc slot)) = refl
still_unset (p ∷ ps) zero = refl
still_unset (p ∷ ps) (suc slot) = ap (λ vars. Unset ∷ vars) (still_unset ps slot)

module _ (f : Frame) (w : World) (turns : ℕ) where
  declared_one : (all : List Param) (slot : ℕ) (rest : List Stmt) → exec_all counted_rows (stmts_of (Declare 0 slot ∷ rest)) (state (unset_for all) f w turns)
      ≡ exec_all counted_rows (stmts_of rest) (state (unset_for all) f w turns)
  declared_one all slot rest = ap (λ vars. exec_all counted_rows (stmts_of rest) (state vars f w turns)) (still_unset all slot)

  declared_all : (all ps : List Param) (slot : ℕ) (rest : List Stmt)
      → exec_all counted_rows (stmts_of (declarations slot ps ++ rest)) (state (unset_for all) f w turns)
      ≡ exec_all counted_rows (stmts_of rest) (state (unset_for all) f w turns)
  declared_all all [] slot rest = refl
  declared_all all (p ∷ ps) slot rest = declared_one all slot (declarations (slot + 1) ps ++ rest) ∙ declared_all all ps (slot + 1) rest

  -- the declarations of a glue function
  head_done : (x : Xsub) → exec_all counted_rows (stmts_of (work x)) (state (unset_for x.params) f w turns)
      ≡ exec_all counted_rows (stmts_of (inputs 0 x.params ++ (assign_int (retval x) (sum_tree x.sum) ∷ end x))) (state (unset_for x.params) f w turns)
  head_done x =
      let after : List Stmt = inputs 0 x.params ++ (assign_int (retval x) (sum_tree x.sum) ∷ end x) in
      ap (λ ts. exec_all counted_rows (stmts_of ts) (state (unset_for x.params) f w turns))
      (append_assoc (declarations 0 x.params) (Declare 0 (retval x) ∷ Declare 0 (retval_scalar x) ∷ inputs 0 x.params)
      (assign_int (retval x) (sum_tree x.sum) ∷ end x))
      ∙ declared_all x.params x.params 0 (Declare 0 (retval x) ∷ Declare 0 (retval_scalar x) ∷ after)
      ∙ declared_one x.params (retval x) (Declare 0 (retval_scalar x) ∷ after)
      ∙ declared_one x.params (retval_scalar x) after

-- ---- inputs

-- each argument's cell holds its number, and there are as many as parameters
abbrev pub HoldAll : Cells → List Param → List ℕ → List ℤ → Type 0
HoldAll cells [] [] [] = Unit {0}
HoldAll cells [] [] (z ∷ zs) = ⊥
HoldAll cells [] (n ∷ ns) zs = ⊥
HoldAll cells (p ∷ ps) [] zs = ⊥
HoldAll cells (p ∷ ps) (n ∷ ns) [] = ⊥
HoldAll cells (p ∷ ps) (n ∷ ns) (z ∷ zs) = (cell_at n cells ≡ holds z) × HoldAll cells ps ns zs

-- what the variables of the parameters get
abbrev pub inputs_from : List ℤ → List Number
inputs_from zs = map (wrapped I32) zs

module _ (cells : Cells) (args : List ℕ) (called : List ℕ) (items top : ℕ) (marks temps : List ℕ) (names : List Registered) (turns : ℕ) where
  abbrev over : List Operand → State World
  over vars = state vars (frame called items) (world cells args top marks temps names) turns

  inputs_done : (ps : List Param) (ns : List ℕ) (zs : List ℤ) (front : List ℕ) (done : List Operand) (place : ℕ) (rest : List Stmt)
      → HoldAll cells ps ns zs → args ≡ front ++ ns → length front ≡ place → length done ≡ place
      → exec_all counted_rows (stmts_of (inputs place ps ++ rest)) (over (done ++ unset_for ps))
      ≡ exec_all counted_rows (stmts_of rest) (over (done ++ (map Num (inputs_from zs) ++ Unset ∷ Unset ∷ [])))
  inputs_done [] [] [] front done place rest h a e g = refl
  inputs_done [] [] (z ∷ zs) front done place rest h a e g = absurd h
  inputs_done [] (n ∷ ns) zs front done place rest h a e g = absurd h
  inputs_done (p ∷ ps) [] zs front done place rest h a e g = absurd h
  inputs_done (p ∷ ps) (n ∷ ns) [] front done place rest h a e g = absurd h
  inputs_done (p ∷ ps) (n ∷ ns) (z ∷ zs) front done place rest h a e g =
      let number : Operand = Num (wrapped I32 z) in
      let base : 0 + place ≡ place = omega arith in
      let found : slice_get args (0 + place) ≡ Some n = ap (slice_get args) base ∙ ap (λ l. slice_get l place) a ∙ find_at front ns n place e in
      let later : List Stmt = inputs (place + 1) ps ++ rest in
      then_on (input place) (stmts_of later) (over (done ++ Unset ∷ unset_for ps)) (over (slice_set (done ++ Unset ∷ unset_for ps) place number))
      (input_done place n 1 z (done ++ Unset ∷ unset_for ps) (frame called items) (world cells args top marks temps names) turns found h.0)
      ∙ ap (λ vars. exec_all counted_rows (stmts_of later) (over vars)) (set_at done (unset_for ps) Unset number place g
      ∙ sym (append_assoc done (number ∷ []) (unset_for ps)))
      ∙ inputs_done ps ns zs (front ++ n ∷ []) (done ++ number ∷ []) (place + 1) rest h.1 (a ∙ sym (append_assoc front (n ∷ []) ns))
      (one_longer front n place e) (one_longer done number place g)
      ∙ ap (λ vars. exec_all counted_rows (stmts_of rest) (over vars)) (append_assoc done (number ∷ []) (map Num (inputs_from zs) ++ Unset ∷ Unset ∷ []))

-- ---- as many arguments as parameters

length_numbers : (ps : List Param) (ns : List ℕ) (zs : List ℤ) (cells : Cells) → HoldAll cells ps ns zs → length (map Num (inputs_from zs)) ≡ length ps
length_numbers [] [] [] cells h = refl
length_numbers [] [] (z ∷ zs) cells h = absurd h
length_numbers [] (n ∷ ns) zs cells h = absurd h
length_numbers (p ∷ ps) [] zs cells h = absurd h
length_numbers (p ∷ ps) (n ∷ ns) [] cells h = absurd h
length_numbers (p ∷ ps) (n ∷ ns) (z ∷ zs) cells h = ap suc (length_numbers ps ns zs cells h.1)

module _ (x : Xsub) (zs : List ℤ) (called args temps : List ℕ) (cells : Cells) (names : List Registered) (items top turns : ℕ)
    (h : HoldAll cells x.params args zs) (terms : All (IsTermOf (length (inputs_from zs))) x.sum) where
  abbrev numbers : List Operand
  numbers = map Num (inputs_from zs)

  abbrev entered : List Operand → State World
  entered vars = state vars (frame called items) (world cells args top [] temps names) turns

  as_many : length numbers ≡ length x.params
  as_many = length_numbers x.params args zs cells h

  abbrev begun : Out World (Unit {0})
  begun = exec_all counted_rows (stmts_of (work x)) (entered (replicate (length (slots_of x)) Unset))

  abbrev summing : Out World (Unit {0})
  summing = exec_all counted_rows (stmts_of (assign_int (retval x) (sum_tree x.sum) ∷ end x)) (entered (numbers ++ Unset ∷ Unset ∷ []))

  -- what comes in front of the sum
  to_sum : begun ≡ summing
  to_sum =
      ap (λ vars. exec_all counted_rows (stmts_of (work x)) (entered vars)) (all_unset 0 x.params _ _)
      ∙ head_done (frame called items) (world cells args top [] temps names) turns x
      ∙ inputs_done cells args called items top [] temps names turns x.params args zs [] [] 0 (assign_int (retval x) (sum_tree x.sum) ∷ end x) h refl refl refl

  pub trapped_means : (trap : Trap) → sum_of (inputs_from zs) x.sum ≡ Err trap → begun ≡ Stop (Traps trap) (entered (numbers ++ Unset ∷ Unset ∷ []))
  trapped_means trap e =
      let sum : eval counted_rows (sum_tree x.sum) (entered (numbers ++ Unset ∷ Unset ∷ [])) ≡ Stop (Traps trap) (entered (numbers ++ Unset ∷ Unset ∷ [])) =
      sum_means (inputs_from zs) (Unset ∷ Unset ∷ []) (frame called items) (world cells args top [] temps names) turns x.sum terms
      ∙ ap (λ r. calculate r (entered (numbers ++ Unset ∷ Unset ∷ []))) e in
      to_sum ∙ then_out (assign_int (retval x) (sum_tree x.sum)) (stmts_of (end x)) (entered (numbers ++ Unset ∷ Unset ∷ []))
      (entered (numbers ++ Unset ∷ Unset ∷ [])) (Traps trap)
      (int_trapped (retval x) (sum_tree x.sum) trap (numbers ++ Unset ∷ Unset ∷ []) (frame called items) (world cells args top [] temps names) turns sum)

  module _ (n : Number) (summed : sum_of (inputs_from zs) x.sum ≡ Ok n) where
    abbrev result : Operand
    result = Num (wrapped I32 n.value)

    sum_done : begun ≡ exec_all counted_rows (stmts_of (end x)) (entered (numbers ++ result ∷ Unset ∷ []))
    sum_done =
        let sum : eval counted_rows (sum_tree x.sum) (entered (numbers ++ Unset ∷ Unset ∷ [])) ≡ Done (Num n) (entered (numbers ++ Unset ∷ Unset ∷ [])) =
        sum_means (inputs_from zs) (Unset ∷ Unset ∷ []) (frame called items) (world cells args top [] temps names) turns x.sum terms
        ∙ ap (λ r. calculate r (entered (numbers ++ Unset ∷ Unset ∷ []))) summed in
        to_sum
        ∙ then_on (assign_int (retval x) (sum_tree x.sum)) (stmts_of (end x)) (entered (numbers ++ Unset ∷ Unset ∷ []))
        (entered (slice_set (numbers ++ Unset ∷ Unset ∷ []) (retval x) result))
        (int_done (retval x) (sum_tree x.sum) n (numbers ++ Unset ∷ Unset ∷ []) (frame called items) (world cells args top [] temps names) turns sum)
        ∙ ap (λ vars. exec_all counted_rows (stmts_of (end x)) (entered vars)) (set_at numbers (Unset ∷ []) Unset result (length x.params) as_many)

    pub large_means : may_make cells ≡ false → begun ≡ Stop (Traps Large) (entered (numbers ++ result ∷ Unset ∷ []))
    large_means full = sum_done
        ∙ rw (mortal_large (retval_scalar x) (numbers ++ result ∷ Unset ∷ []) (frame called items) (world cells args top [] temps names) turns full) refl

    -- the number that the result scalar gets
    abbrev stored : ℤ
    stored = wrapped_value I64 (wrapped_value I64 (wrapped_value I32 n.value))

    abbrev with_result : List Operand
    with_result = numbers ++ result ∷ Scalar (Some (length cells)) ∷ []

    -- the result scalar, as it is made
    abbrev fresh : Cell
    fresh = record { value = Undef; count = 1 }

    -- the state after its making, with its cell
    abbrev after : Option Cell → State World
    after c = state with_result (frame called items) (world (cells ++ c ∷ []) args top [] (length cells ∷ temps) names) turns

    -- the state at the end
    abbrev ended : State World
    ended = state with_result (frame called items) (world (cells ++ holds stored ∷ []) (length cells ∷ []) 1 [] (length cells ∷ temps) names) turns

    scalar_read : slice_index_or with_result (retval_scalar x) Unset ≡ Scalar (Some (length cells))
    scalar_read = get_next numbers [] result (Scalar (Some (length cells))) Unset (length x.params) as_many

    number_read : slice_index_or with_result (retval x) Unset ≡ result
    number_read = get_at numbers (Scalar (Some (length cells)) ∷ []) result Unset (length x.params) as_many

    -- the result scalar becomes the item, and is returned
    abbrev item_trees : List Stmt
    item_trees = assign_item (int_literal 0) (Variable (retval_scalar x)) ∷ row_quits XsReturn (int_literal 1 ∷ []) ∷ []

    abbrev setiv : Stmt
    setiv = row_done SvSetIv (Variable (retval_scalar x) ∷ Cast (type_of.Number I64) (Variable (retval x)) ∷ [])

    scalar_made : may_make cells ≡ true → begun ≡ exec_all counted_rows (stmts_of (setiv ∷ item_trees)) (after (Some fresh))
    scalar_made room =
        let made = mortal_done (retval_scalar x) (numbers ++ result ∷ Unset ∷ []) (frame called items) (world cells args top [] temps names) turns room in
        sum_done
        ∙ then_on (assign_scalar (retval_scalar x) (row_of SvNewMortal [])) (stmts_of (setiv ∷ item_trees))
        (entered (numbers ++ result ∷ Unset ∷ [])) _ made
        ∙ ap (λ vars. exec_all counted_rows (stmts_of (setiv ∷ item_trees))
        (state vars (frame called items) (world (cells ++ Some fresh ∷ []) args top [] (length cells ∷ temps) names) turns))
        (set_next numbers [] result Unset (Scalar (Some (length cells))) (length x.params) as_many)

    scalar_set : may_make cells ≡ true → is_read_only (length cells) ≡ false → begun ≡ exec_all counted_rows (stmts_of item_trees) (after (holds stored))
    scalar_set room writable =
        let found : cell_at (length cells) (cells ++ Some fresh ∷ []) ≡ Some fresh = get_at cells [] (Some fresh) None (length cells) refl in
        let sets = setiv_done (retval_scalar x) (retval x) with_result (wrapped I32 n.value) (length cells) fresh (frame called items)
        (world (cells ++ Some fresh ∷ []) args top [] (length cells ∷ temps) names) turns scalar_read number_read found writable in
        scalar_made room
        ∙ then_on setiv (stmts_of item_trees) (after (Some fresh)) _ sets
        ∙ ap (λ cs. exec_all counted_rows (stmts_of item_trees)
        (state with_result (frame called items) (world cs args top [] (length cells ∷ temps) names) turns))
        (set_at cells [] (Some fresh) (holds stored) (length cells) refl)

    pub returned_means : may_make cells ≡ true → is_read_only (length cells) ≡ false → begun ≡ Stop (Returns (length cells ∷ [])) ended
    returned_means room writable =
        let last : List Stmt = row_quits XsReturn (int_literal 1 ∷ []) ∷ [] in
        let returns : State World =
        state with_result (frame called items) (world (cells ++ holds stored ∷ []) (with_first (length cells) args) top [] (length cells ∷ temps) names)
        turns in
        let found : cell_at (length cells) (cells ++ holds stored ∷ []) ≡ holds stored = get_at cells [] (holds stored) None (length cells) refl in
        let item = item_done args (retval_scalar x) with_result (length cells) (record { value = Int stored; count = 1 }) called items
        (cells ++ holds stored ∷ []) top [] (length cells ∷ temps) names turns scalar_read found in
        scalar_set room writable
        ∙ then_on (assign_item (int_literal 0) (Variable (retval_scalar x))) (stmts_of last) (after (holds stored)) returns item
        ∙ then_out (row_quits XsReturn (int_literal 1 ∷ [])) (stmts_of []) returns ended (Returns (length cells ∷ []))
        (item_returned args with_result (length cells) called items (cells ++ holds stored ∷ []) top [] (length cells ∷ temps) names turns)
