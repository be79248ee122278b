-- Parts that are checked one after the other, and what is said of the whole.
use Rattle.std.proofs.Common.{◌≡◌, ℕ, Bool, true, false, cond, List, [], ◌∷◌, ◌++◌, map, Option, Some, None, Result, Ok, Err, refl, sym, ap, ap₂, ◌∙◌, subst, append_assoc, append-nil, arith}
use Rattle.std.specs.Prelude.{◌&&◌, ◌||◌, not, nat_eq, nat_lt}
use Rattle.std.proofs.lemmas.Bool.Decides.{nat_tests}
use Rattle.std.proofs.lemmas.List.{map-append}
use Rattle.xs_base.specs.declared.fault.Fault.{Fault}
use Rattle.xs_base.specs.declared.fault.Refuse.{Refuse}
use Rattle.xs_base.specs.declared.fault.Refuse.TheVariants as refuse
use Rattle.xs_ctree.specs.declared.typed.Typed.{Typed}
use Rattle.xs_ctree.specs.Growth.{Keeps}
use Rattle.xs_ctree.proofs.Additions.{keeps_on}
use Rattle.xs_ctypes.specs.Checked.{Checked, Good, Bad, both, is_before, lesser, more}
use Rattle.xs_ctypes.specs.Joining.{TakesUp, joined, settled}
use Rattle.xs_ccheck.specs.Resolving.{Refuses, Resolves}

-- ---- what a call says of what it checks, the nodes aside

abbrev pub Says : {X A : Type 0} → Result X Refuse → Checked A → Type 0
Says {X} {A} (Ok x) read = (a : A) × (read ≡ Good a)
Says (Err e) read = Refuses e read

pub says : {X A : Type 0} (view : Typed → X → A) (there : Typed → X → Type 0) (r : Result X Refuse) (old new : Typed) (read : Checked A)
    → Resolves view there r old new read → Says r read
says view there (Ok x) old new read h = (view new x, h.means)
says view there (Err e) old new read h = h

-- what holds of a refusal
abbrev pub OnRefusal : {X : Type 0} → Result X Refuse → (Refuse → Type 0) → Type 0
OnRefusal (Ok x) P = Unit {0}
OnRefusal (Err e) P = P e

pub joined_refuses : {X Y A B C : Type 0} (node : A → B → Checked C) (x : Result X Refuse) (y : Result Y Refuse) (p : Checked A) (q : Checked B)
    → Says x p → Says y q → OnRefusal (joined x y) (λ e. Refuses e (both p q node))
joined_refuses node (Ok a) (Ok b) p q h g = tt
joined_refuses node (Ok a) (Err refuse.Memory) p q h g = tt
joined_refuses node (Ok a) (Err (refuse.Fault f)) p q h g = ap₂ (λ r s. both r s node) h.1 g
joined_refuses node (Err refuse.Memory) (Ok b) p q h g = tt
joined_refuses node (Err (refuse.Fault f)) (Ok b) p q h g = ap₂ (λ r s. both r s node) h g.1
joined_refuses node (Err refuse.Memory) (Err d) p q h g = tt
joined_refuses node (Err (refuse.Fault f)) (Err refuse.Memory) p q h g = tt
joined_refuses node (Err (refuse.Fault f)) (Err (refuse.Fault d)) p q h g = ap₂ (λ r s. both r s node) h g

pub refuses_with : {X : Type 0} (r : Result X Refuse) (P : Refuse → Type 0) (e : Refuse) → OnRefusal r P → r ≡ Err e → P e
refuses_with r P e h is = subst (λ z. OnRefusal z P) is h

abbrev first_part : {X Y : Type 0} → Result (X × Y) Refuse → Result X Refuse
first_part (Ok z) = Ok z.0
first_part (Err e) = Err e

abbrev second_part : {X Y : Type 0} → Result (X × Y) Refuse → Result Y Refuse
second_part (Ok z) = Ok z.1
second_part (Err e) = Err e

pub joined_first : {X Y : Type 0} (x : Result X Refuse) (y : Result Y Refuse) (a : X) (b : Y) → joined x y ≡ Ok (a, b) → x ≡ Ok a
joined_first (Ok c) (Ok d) a b e = ap first_part e
joined_first (Ok c) (Err d) a b e = absurd cc
joined_first (Err d) (Ok c) a b e = absurd cc
joined_first (Err d) (Err c) a b e = absurd cc

pub joined_second : {X Y : Type 0} (x : Result X Refuse) (y : Result Y Refuse) (a : X) (b : Y) → joined x y ≡ Ok (a, b) → y ≡ Ok b
joined_second (Ok c) (Ok d) a b e = ap second_part e
joined_second (Ok c) (Err d) a b e = absurd cc
joined_second (Err d) (Ok c) a b e = absurd cc
joined_second (Err d) (Err c) a b e = absurd cc

-- ---- what was resolved after nodes that were kept

pub resolves_on : {X A : Type 0} (view : Typed → X → A) (there : Typed → X → Type 0) (r : Result X Refuse) (a b c : Typed) (read : Checked A)
    → Keeps a b → Resolves view there r b c read → Resolves view there r a c read
resolves_on view there (Ok x) a b c read k h = record { means = h.means; there_is = h.there_is; keeps = keeps_on a b c k h.keeps }
resolves_on view there (Err e) a b c read k h = h

-- ---- the order of faults

trans : (a c b d x y : ℕ) → ((not (nat_eq a 0) && (nat_eq b 0 || nat_lt a b)) || (nat_eq a b && nat_lt c d)) ≡ true
    → ((not (nat_eq b 0) && (nat_eq x 0 || nat_lt b x)) || (nat_eq b x && nat_lt d y)) ≡ true
    → ((not (nat_eq a 0) && (nat_eq x 0 || nat_lt a x)) || (nat_eq a x && nat_lt c y)) ≡ true
trans a c b d x y h g = grind (arith, nat_tests)

untrans : (a c b d x y : ℕ) → ((not (nat_eq a 0) && (nat_eq b 0 || nat_lt a b)) || (nat_eq a b && nat_lt c d)) ≡ false
    → ((not (nat_eq b 0) && (nat_eq x 0 || nat_lt b x)) || (nat_eq b x && nat_lt d y)) ≡ false
    → ((not (nat_eq a 0) && (nat_eq x 0 || nat_lt a x)) || (nat_eq a x && nat_lt c y)) ≡ false
untrans a c b d x y h g = grind (arith, nat_tests)

by_tests : {A : Type 0} (f g h : A) (b1 b2 b3 : Bool) → (b2 ≡ true → b1 ≡ true → b3 ≡ true) → (b2 ≡ false → b1 ≡ false → b3 ≡ false)
    → cond b1 (cond b2 h g) (cond b3 h f) ≡ cond b2 (cond b3 h f) (cond b1 g f)
by_tests f g h true true true t u = refl
by_tests f g h true true false t u = absurd (let e = t refl refl in cc)
by_tests f g h true false b3 t u = refl
by_tests f g h false true b3 t u = refl
by_tests f g h false false false t u = refl
by_tests f g h false false true t u = absurd (let e = u refl refl in cc)

chosen_lesser : (f g h : Fault) (b : Bool) → lesser (cond b g f) h ≡ cond b (lesser g h) (lesser f h)
chosen_lesser f g h true = refl
chosen_lesser f g h false = refl

lesser_chosen : (f g h : Fault) (b : Bool) → lesser f (cond b h g) ≡ cond b (lesser f h) (lesser f g)
lesser_chosen f g h true = refl
lesser_chosen f g h false = refl

pub lesser_assoc : (f g h : Fault) → lesser (lesser f g) h ≡ lesser f (lesser g h)
lesser_assoc f g h =
    chosen_lesser f g h (is_before g f)
    ∙ by_tests f g h (is_before g f) (is_before h g) (is_before h f)
    (λ hg gf. trans h.line h.code g.line g.code f.line f.code hg gf) (λ hg gf. untrans h.line h.code g.line g.code f.line f.code hg gf)
    ∙ sym (lesser_chosen f g h (is_before h g))

-- ---- lists

-- what was checked of a list, before what is left of it
abbrev pub on : {A : Type 0} → Checked (List A) → Checked (List A) → Checked (List A)
on front rest = both front rest (λ xs ys. Good (xs ++ ys))

pub on_nothing : {A : Type 0} (rest : Checked (List A)) → on (Good []) rest ≡ rest
on_nothing (Good xs) = refl
on_nothing (Bad f) = refl

pub on_good : {A : Type 0} (xs : List A) (x : A) (rest : Checked (List A)) → on (Good xs) (more (Good x) rest) ≡ on (Good (xs ++ x ∷ [])) rest
on_good xs x (Good ys) = ap Good (sym (append_assoc xs (x ∷ []) ys))
on_good xs x (Bad f) = refl

pub on_first : {A : Type 0} (xs : List A) (f : Fault) (rest : Checked (List A)) → on (Good xs) (more (Bad f) rest) ≡ on (Bad f) rest
on_first xs f (Good ys) = refl
on_first xs f (Bad g) = refl

pub on_later : {A : Type 0} (f : Fault) (x : A) (rest : Checked (List A)) → on (Bad f) (more (Good x) rest) ≡ on (Bad f) rest
on_later f x (Good ys) = refl
on_later f x (Bad g) = refl

pub on_two : {A : Type 0} (f g : Fault) (rest : Checked (List A)) → on (Bad f) (more (Bad g) rest) ≡ on (Bad (lesser f g)) rest
on_two f g (Good ys) = refl
on_two f g (Bad h) = ap Bad (sym (lesser_assoc f g h))

pub record Good_so_far {X A : Type 0} (view : Typed → X → A) (have : Typed → List X → Type 0) (start : Typed) (good : List X) (t : Typed)
    (whole rest : Checked (List A)) : Type 0 where
  pub is : whole ≡ on (Good (map (view t) good)) rest
  pub there : have t good
  pub keeps : Keeps start t

-- how far a list was checked
abbrev pub Gathers : {X A : Type 0} → (Typed → X → A) → (Typed → List X → Type 0) → Typed → List X → Option Fault → Typed → Checked (List A)
    → Checked (List A) → Type 0
Gathers view have start good None t whole rest = Good_so_far view have start good t whole rest
Gathers view have start good (Some f) t whole rest = whole ≡ on (Bad f) rest

-- what is kept of a list of nodes
pub record Lasts {X A : Type 0} (view : Typed → X → A) (there : Typed → X → Type 0) (have : Typed → List X → Type 0) : Type 0 where
  pub last : (t : Typed) (xs : List X) (x : X) → have t xs → there t x → have t (xs ++ x ∷ [])
  pub still : (old new : Typed) (xs : List X) → Keeps old new → have old xs → have new xs
  pub same : (old new : Typed) (xs : List X) → Keeps old new → have old xs → map (view new) xs ≡ map (view old) xs

module _ {X A : Type 0} (view : Typed → X → A) (there : Typed → X → Type 0) (have : Typed → List X → Type 0) (lasts : Lasts view there have)
    (start t new : Typed) (whole rest : Checked (List A)) where
  step_to : (good good1 : List X) (least least1 : Option Fault) (part : Result X Refuse) (read : Checked A)
      → Gathers view have start good least t whole (more read rest) → Resolves view there part t new read → TakesUp good least part good1 (Ok least1)
      → Gathers view have start good1 least1 new whole rest
  step_to good good1 None least1 (Ok x) read h r u =
      subst (λ l. Gathers view have start good1 l new whole rest) (sym u.1)
      (subst (λ g. Good_so_far view have start g new whole rest) (sym u.0) (record {
        is = h.is ∙ ap (λ a. on (Good (map (view t) good)) (more a rest)) r.means
            ∙ on_good (map (view t) good) (view new x) rest
            ∙ ap (λ xs. on (Good (xs ++ view new x ∷ [])) rest) (sym (lasts.same t new good r.keeps h.there))
            ∙ ap (λ xs. on (Good xs) rest) (sym (map-append (view new) good (x ∷ [])));
        there = lasts.last new good x (lasts.still t new good r.keeps h.there) r.there_is;
        keeps = keeps_on start t new h.keeps r.keeps;
      }))
  step_to good good1 None least1 (Err (refuse.Fault f)) read h r u =
      subst (λ l. Gathers view have start good1 l new whole rest) (sym u.1)
      (h.is ∙ ap (λ a. on (Good (map (view t) good)) (more a rest)) r ∙ on_first (map (view t) good) f rest)
  step_to good good1 (Some g) least1 (Ok x) read h r u =
      subst (λ l. Gathers view have start good1 l new whole rest) (sym u.1)
      (h ∙ ap (λ a. on (Bad g) (more a rest)) r.means ∙ on_later g (view new x) rest)
  step_to good good1 (Some g) least1 (Err (refuse.Fault f)) read h r u =
      subst (λ l. Gathers view have start good1 l new whole rest) (sym u.1)
      (h ∙ ap (λ a. on (Bad g) (more a rest)) r ∙ on_two g f rest)
  step_to good good1 None least1 (Err refuse.Memory) read h r u = absurd u
  step_to good good1 (Some g) least1 (Err refuse.Memory) read h r u = absurd u

  pub step : (good good1 : List X) (least least1 : Option Fault) (part : Result X Refuse) (read : Checked A) (whole1 : Checked (List A))
      → whole1 ≡ more read rest → Gathers view have start good least t whole whole1 → Resolves view there part t new read
      → TakesUp good least part good1 (Ok least1) → Gathers view have start good1 least1 new whole rest
  step good good1 least least1 part read whole1 e h r u =
      step_to good good1 least least1 part read (subst (Gathers view have start good least t whole) e h) r u

-- all of a list was checked
pub gathered : {X A V : Type 0} (view : Typed → X → A) (have : Typed → List X → Type 0) (items : V → List X) (start : Typed) (good : V)
    (least : Option Fault) (t : Typed) (whole : Checked (List A)) → Gathers view have start (items good) least t whole (Good [])
    → Resolves (λ b v. map (view b) (items v)) (λ b v. have b (items v)) (settled good least) start t whole
gathered view have items start good None t whole h =
    record { means = h.is ∙ ap Good (append-nil (map (view t) (items good))); there_is = h.there; keeps = h.keeps }
gathered view have items start good (Some f) t whole h = h
