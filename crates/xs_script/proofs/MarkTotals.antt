-- What was met is what is at fault in the command that was read.
use Rattle.std.proofs.Common.{◌≡◌, ℕ, suc, ◌+◌, max, List, [], ◌∷◌, ◌++◌, Option, Some, None, refl, ap, sym, ◌∙◌}
use Rattle.std.specs.List.{slice_get}
use Rattle.std.specs.Option.{option_or}
use Rattle.std.specs.Prelude.{not}
use Rattle.std.proofs.Math.Nat.{max-zero}
use Rattle.std.proofs.lemmas.List.Folds.{find-append}
use Rattle.xs_base.proofs.Greatest.{max_assoc}
use Rattle.xs_script.specs.Form as f
use Rattle.xs_script.specs.Form.{Form, Forms, Pairs, Deed, Written}
use Rattle.xs_script.specs.PartInput.{Input, named, exceeded, opened}
use Rattle.xs_script.specs.GrammarMeaning.{Contents, nothing, one_variable, one_number, brackets, both, in_all, contents, contents_list, contents_pairs, contents_deed, contents_of}
use Rattle.xs_script.specs.ScriptNumbers.{number_of, argument_of}
use Rattle.xs_script.specs.Scope.{first_unknown, is_alive}
use Rattle.xs_script.proofs.Forms.{out_of_range, met_form, met_list, met_pairs, met_all, met_deed, met_deeds}

-- an input after parts with these contents
abbrev pub marked : Contents → Input → Input
marked c i = record i {
  unknown = option_or i.unknown (first_unknown i.scope c.variables);
  beyond = option_or i.beyond (slice_get c.excess 0);
  deepest = max i.deepest c.reach;
}

or_none : (a : Option (List ℕ)) → option_or a None ≡ a
or_none (Some x) = refl
or_none None = refl

or_assoc : (a b c : Option (List ℕ)) → option_or (option_or a b) c ≡ option_or a (option_or b c)
or_assoc (Some x) b c = refl
or_assoc None b c = refl

first-append : (xs ys : List (List ℕ)) → slice_get (xs ++ ys) 0 ≡ option_or (slice_get xs 0) (slice_get ys 0)
first-append [] ys = refl
first-append (x ∷ xs) ys = refl

marked-none : (i : Input) → marked nothing i ≡ i
marked-none i = rw (or_none i.unknown, or_none i.beyond, max-zero i.deepest) refl

marked-marked : (a b : Contents) (i : Input) → marked b (marked a i) ≡ marked (both a b) i
marked-marked a b i =
    rw (
      find-append (λ n. not (is_alive i.scope n)) a.variables b.variables,
      first-append a.excess b.excess,
      or_assoc i.unknown (first_unknown i.scope a.variables) (first_unknown i.scope b.variables),
      or_assoc i.beyond (slice_get a.excess 0) (slice_get b.excess 0),
      max_assoc i.deepest a.reach b.reach,
    ) refl

scope_after : (a b : Contents) (i : Input) {j k : Input} → j ≡ marked a i → k ≡ marked b j → k ≡ marked (both a b) i
scope_after a b i e e' = e' ∙ ap (marked b) e ∙ marked-marked a b i

named_marks : (n : List ℕ) (i : Input) → named n i ≡ marked (one_variable n) i
unfolding named
named_marks n i = rw (or_none i.beyond, max-zero i.deepest) refl

range_marks : {A : Type 0} (o : Option A) (text : List ℕ) (i : Input) → out_of_range o text i ≡ marked (one_number o text) i
unfolding exceeded
range_marks (Some a) text i = sym (marked-none i)
range_marks None text i = rw (or_none i.unknown, max-zero i.deepest) refl

opened_marks : (d : ℕ) (i : Input) → opened d i ≡ marked (brackets d) i
unfolding opened
opened_marks d i = rw (or_none i.unknown, or_none i.beyond) refl

mutual
  form_marks : (d : ℕ) (e : Form) (i : Input) → met_form d e i ≡ marked (contents d e) i
  form_marks d f.Undef i = sym (marked-none i)
  form_marks d (f.Number n) i = range_marks (number_of n) n i
  form_marks d (f.Text content) i = sym (marked-none i)
  form_marks d (f.Variable n) i = named_marks n i
  form_marks d (f.Reference n) i = named_marks n i
  form_marks d (f.ListOf fs) i = scope_after (brackets (d + 1)) (contents_list (suc d) fs) i (opened_marks (d + 1) i) (list_marks (suc d) fs (opened (d + 1) i))
  form_marks d (f.HashOf ps) i =
      scope_after (brackets (d + 1)) (contents_pairs (suc d) ps) i (opened_marks (d + 1) i) (pairs_marks (suc d) ps (opened (d + 1) i))
  form_marks d (f.Argument k) i = range_marks (argument_of k) k i

  list_marks : (d : ℕ) (fs : Forms) (i : Input) → met_list d fs i ≡ marked (contents_list d fs) i
  list_marks d f.NoForm i = sym (marked-none i)
  list_marks d (f.MoreForms e fs) i = scope_after (contents d e) (contents_list d fs) i (form_marks d e i) (list_marks d fs (met_form d e i))

  pairs_marks : (d : ℕ) (ps : Pairs) (i : Input) → met_pairs d ps i ≡ marked (contents_pairs d ps) i
  pairs_marks d f.NoPair i = sym (marked-none i)
  pairs_marks d (f.MorePairs k e ps) i = scope_after (contents d e) (contents_pairs d ps) i (form_marks d e i) (pairs_marks d ps (met_form d e i))

all_marks : {X : Type 0} (met : X → Input → Input) (has : X → Contents) → ((x : X) (i : Input) → met x i ≡ marked (has x) i) → (xs : List X) (i : Input)
    → met_all met xs i ≡ marked (in_all has xs) i
all_marks met has one [] i = sym (marked-none i)
all_marks met has one (x ∷ xs) i = scope_after (has x) (in_all has xs) i (one x i) (all_marks met has one xs (met x i))

deed_marks : (d : Deed) (i : Input) → met_deed d i ≡ marked (contents_deed d) i
deed_marks (f.Push e) i = form_marks 0 e i
deed_marks (f.Set k e) i =
    scope_after (one_number (argument_of k) k) (contents 0 e) i (range_marks (argument_of k) k i) (form_marks 0 e (out_of_range (argument_of k) k i))
deed_marks (f.Call n es) i = list_marks 0 es i
deed_marks (f.Die content) i = sym (marked-none i)

abbrev pub met_written : Written → Input → Input
met_written (f.My n e) i = met_form 0 e i
met_written (f.MyCall n m es) i = met_list 0 es i
met_written (f.Ro n) i = named n i
met_written (f.CallSub n es) i = met_list 0 es i
met_written (f.Show n) i = named n i
met_written (f.Drop n) i = named n i
met_written (f.Isa n m) i = i
met_written (f.Sub n ds) i = met_deeds ds i

pub written_marks : (c : Written) (i : Input) → met_written c i ≡ marked (contents_of c) i
written_marks (f.My n e) i = form_marks 0 e i
written_marks (f.MyCall n m es) i = list_marks 0 es i
written_marks (f.Ro n) i = named_marks n i
written_marks (f.CallSub n es) i = list_marks 0 es i
written_marks (f.Show n) i = named_marks n i
written_marks (f.Drop n) i = named_marks n i
written_marks (f.Isa n m) i = sym (marked-none i)
written_marks (f.Sub n ds) i = all_marks met_deed contents_deed deed_marks ds i
