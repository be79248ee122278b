-- The first of faults is one of them, and none is reported before it.
use Rattle.std.proofs.Common.{◌≡◌, ℕ, Bool, true, false, ◌&&◌, ◌||◌, ◌==◌, nat_lt, if◌then◌else◌, List, [], ◌∷◌, ◌⊎◌, inl, inr, All, Contains, Option, None, Some, fold, refl, sym, subst, ◌∙◌, arith}
use Rattle.std.proofs.lemmas.Bool.Decides.{nat_tests}
use Rattle.std.proofs.lemmas.Option.{same_Some}
use Rattle.std.proofs.lemmas.List.Elements.{All-nil, All-cons, Contains-append_left, Contains-append_right, Contains-push}
use Rattle.xs_base.specs.declared.fault.Fault.{Fault}
use Rattle.xs_base.specs.Faults.{is_before, earlier, first_of}
use Rattle.xs_sections.specs.Laws.{IsFirst}

abbrev before : ℕ → ℕ → ℕ → ℕ → Bool
before line code other_line other_code = nat_lt line other_line || (line == other_line && nat_lt code other_code)

before_self : (line code : ℕ) → before line code line code ≡ false
before_self line code = grind (arith, nat_tests)

before_turned : (a b c d : ℕ) → before a b c d ≡ true → before c d a b ≡ false
before_turned a b c d h = grind (arith, nat_tests)

before_joined : (a b c d e f : ℕ) → before a b c d ≡ false → before c d e f ≡ false → before a b e f ≡ false
before_joined a b c d e f h k = grind (arith, nat_tests)

abbrev NotBefore : Fault → Fault → Type 0
NotBefore f g = is_before g f ≡ false

-- what the first fault of a list is, after an older one
record IsEarliest (old : Option Fault) (fs : List Fault) (f : Fault) : Type 0 where
  among : (old ≡ Some f) ⊎ Contains fs f
  not_old : (g : Fault) → old ≡ Some g → NotBefore f g
  not_new : All (NotBefore f) fs

self_not_before : (f : Fault) → NotBefore f f
self_not_before f = before_self f.line f.code

joined : (a b c : Fault) → is_before a b ≡ false → is_before b c ≡ false → is_before a c ≡ false
joined a b c h k = before_joined a.line a.code b.line b.code c.line c.code h k

turned : (a b : Fault) → is_before a b ≡ true → is_before b a ≡ false
turned a b h = before_turned a.line a.code b.line b.code h

in_front : (x f : Fault) (xs : List Fault) → ((let o : Option Fault = Some x in o) ≡ Some f) ⊎ Contains xs f → Contains (x ∷ xs) f
in_front x f xs (inl e) =
    let P : Fault → Type 0 = λ g. Contains (x ∷ xs) g in
    subst P (same_Some x f e) (Contains-append_left (x ∷ []) xs x (Contains-push [] x))
in_front x f xs (inr h) = Contains-append_right (x ∷ []) xs f h

earliest : (fs : List Fault) (old : Option Fault) (f : Fault) → fold earlier old fs ≡ Some f → IsEarliest old fs f
earliest [] old f e =
    record {
      among = inl e;
      not_old = λ g h. subst (λ (k : Fault). NotBefore f k) (same_Some f g (sym e ∙ h)) (self_not_before f);
      not_new = All-nil (NotBefore f);
    }
earliest (x ∷ xs) None f e =
    let more : IsEarliest (Some x) xs f = earliest xs (Some x) f e in
    record {
      among = inr (in_front x f xs more.among);
      not_old = λ g h. absurd cc;
      not_new = All-cons (NotBefore f) x xs (more.not_old x refl) more.not_new;
    }
earliest (x ∷ xs) (Some g) f e = by_test (λ o h. earliest xs o f h) (is_before x g) refl e
  where
    by_test : ((o : Option Fault) → fold earlier o xs ≡ Some f → IsEarliest o xs f) → (b : Bool) → is_before x g ≡ b
        → fold earlier (if b then Some x else Some g) xs ≡ Some f → IsEarliest (Some g) (x ∷ xs) f
    by_test ih true t h =
        let more : IsEarliest (Some x) xs f = ih (Some x) h in
        record {
          among = inr (in_front x f xs more.among);
          not_old = λ k s. subst (λ (k : Fault). NotBefore f k) (same_Some g k s) (joined g x f (turned x g t) (more.not_old x refl));
          not_new = All-cons (NotBefore f) x xs (more.not_old x refl) more.not_new;
        }
    by_test ih false t h =
        let more : IsEarliest (Some g) xs f = ih (Some g) h in
        record {
          among = by_old more.among;
          not_old = more.not_old;
          not_new = All-cons (NotBefore f) x xs (joined x g f t (more.not_old g refl)) more.not_new;
        }
      where
        by_old : ((let o : Option Fault = Some g in o) ≡ Some f) ⊎ Contains xs f → ((let o : Option Fault = Some g in o) ≡ Some f) ⊎ Contains (x ∷ xs) f
        by_old (inl s) = inl s
        by_old (inr s) = inr (Contains-append_right (x ∷ []) xs f s)

pub first_is : (fs : List Fault) (f : Fault) → first_of fs ≡ Some f → IsFirst fs f
first_is fs f e =
    let all : IsEarliest None fs f = earliest fs None f e in
    record { one = by_among all.among; first = all.not_new }
  where
    by_among : ((let o : Option Fault = None in o) ≡ Some f) ⊎ Contains fs f → Contains fs f
    by_among (inl s) = absurd cc
    by_among (inr s) = s

-- ---- no first fault is no fault

some_stays : (xs : List Fault) (g : Fault) → fold earlier (Some g) xs ≡ None → ⊥
some_stays [] g e = cc
some_stays (x ∷ xs) g e = by_test (λ k h. some_stays xs k h) (is_before x g) e
  where
    by_test : ((k : Fault) → fold earlier (Some k) xs ≡ None → ⊥) → (b : Bool) → fold earlier (if b then Some x else Some g) xs ≡ None → ⊥
    by_test ih true h = ih x h
    by_test ih false h = ih g h

pub none_first : (fs : List Fault) → first_of fs ≡ None → fs ≡ []
none_first [] e = refl
none_first (x ∷ xs) e = absurd (some_stays xs x e)
