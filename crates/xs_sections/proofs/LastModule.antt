-- The module of a file is that of its last MODULE line.
use Rattle.std.proofs.Common.{◌≡◌, ℕ, suc, ◌-◌, length, Bool, true, false, ◌||◌, List, [], ◌∷◌, ◌++◌, refl, ap, sym, ◌∙◌, arith}
use Rattle.std.specs.Option.{unwrap_or}
use Rattle.std.specs.Prelude.{slice_get}
use Rattle.std.proofs.lemmas.Bool.{false≢true}
use Rattle.xs_sections.specs.Classes.{Tag}
use Rattle.xs_sections.specs.Cut.{no_names, names_in, modules_of, names_at, line_after, last_module_line}
use Rattle.xs_sections.specs.SectionFaults.{line_fault, room_after, line_faults, is_module, some_line}
use Rattle.xs_sections.specs.Laws.{IsLast}
use Rattle.xs_sections.specs.declared.class.LineClass.{LineClass}
use Rattle.xs_sections.specs.declared.class.LineClass.TheVariants as class
use Rattle.xs_sections.specs.declared.sections.ModuleNames.{ModuleNames}
use Rattle.xs_sections.proofs.CPart.{own_fault}

-- the names that the last MODULE line sets, after such names
abbrev names_after : ModuleNames → LineClass → ModuleNames
names_after names (class.Module new) = new
names_after names _ = names

abbrev pub last_set : ModuleNames → List Tag → ModuleNames
last_set names [] = names
last_set names (t ∷ ts) = last_set (names_after names t.class) ts

record Stays (names : ModuleNames) (line : ℕ) (ts : List Tag) : Type 0 where
  names_stay : last_set names ts ≡ names
  line_stays : last_module_line line ts ≡ line

plain_stays : (c : LineClass) (names : ModuleNames) (line number : ℕ) → is_module c ≡ false → (names_after names c ≡ names) × (line_after line number c ≡ line)
plain_stays (class.Module new) names line number e = absurd (false≢true (sym e))
plain_stays class.BadModule names line number e = absurd (false≢true (sym e))
plain_stays _ names line number e = (refl, refl)

none_stays : (ts : List Tag) (names : ModuleNames) (line : ℕ) → some_line is_module ts ≡ false → Stays names line ts
none_stays [] names line e = record { names_stay = refl; line_stays = refl }
none_stays (t ∷ ts) names line e = by_class (λ n k h. none_stays ts n k h) (is_module t.class) refl e
  where
    by_class : ((n : ModuleNames) (k : ℕ) → some_line is_module ts ≡ false → Stays n k ts) → (b : Bool) → is_module t.class ≡ b
        → (b || some_line is_module ts) ≡ false → Stays names line (t ∷ ts)
    by_class ih true c h = absurd (false≢true (sym h))
    by_class ih false c h =
        let p = plain_stays t.class names line t.line.number c in
        let more : Stays names line ts = ih names line h in
        record {
          names_stay = ap (λ (n : ModuleNames). last_set n ts) p.0 ∙ more.names_stay;
          line_stays = ap (λ (n : ℕ). last_module_line n ts) p.1 ∙ more.line_stays;
        }

-- a MODULE line of no fault sets names
sets_names : (c : LineClass) (names : ModuleNames) (line number : ℕ) → is_module c ≡ true → line_fault number c ≡ []
    → (c ≡ class.Module (names_after names c)) × (line_after line number c ≡ number)
sets_names (class.Module new) names line number e none = (refl, refl)
sets_names class.BadModule names line number e none = absurd cc
sets_names _ names line number e none = absurd (false≢true e)

after_one : (t : Tag) (ts : List Tag) (found : ModuleNames) (number : ℕ) → IsLast ts found number → IsLast (t ∷ ts) found number
after_one t ts found number h =
    record {
      before = t ∷ h.before;
      last = h.last;
      after = h.after;
      stands = ap (λ (rest : List Tag). t ∷ rest) h.stands;
      sets = h.sets;
      line_is = h.line_is;
      no_later = h.no_later;
    }

pub last_of : (ts : List Tag) (names : ModuleNames) (line room : ℕ) → line_faults room ts ≡ [] → some_line is_module ts ≡ true
    → IsLast ts (last_set names ts) (last_module_line line ts)
last_of [] names line room none some = absurd (false≢true some)
last_of (t ∷ ts) names line room none some =
    let own = own_fault room t ts none in
    by_rest (some_line is_module ts) refl (is_module t.class) refl own.0 some
    (λ h. last_of ts (names_after names t.class) (line_after line t.line.number t.class) (room_after t.starts room) own.1 h)
  where
    by_rest : (r : Bool) → some_line is_module ts ≡ r → (b : Bool) → is_module t.class ≡ b → line_fault t.line.number t.class ≡ []
        → (b || some_line is_module ts) ≡ true
        → (some_line is_module ts ≡ true → IsLast ts (last_set (names_after names t.class) ts) (last_module_line (line_after line t.line.number t.class) ts))
        → IsLast (t ∷ ts) (last_set names (t ∷ ts)) (last_module_line line (t ∷ ts))
    by_rest true r b c fault h ih = after_one t ts _ _ (ih r)
    by_rest false r true c fault h ih =
        let s = sets_names t.class names line t.line.number c fault in
        let stay : Stays (names_after names t.class) (line_after line t.line.number t.class) ts =
        none_stays ts (names_after names t.class) (line_after line t.line.number t.class) r in
        record {
          before = [];
          last = t;
          after = ts;
          stands = refl;
          sets = s.0 ∙ ap (λ (n : ModuleNames). class.Module n) (sym stay.names_stay);
          line_is = sym (stay.line_stays ∙ s.1);
          no_later = r;
        }
    by_rest false r false c fault h ih = absurd (false≢true (sym r ∙ h))

-- ---- the last of the list

abbrev last_or : ModuleNames → List ModuleNames → ModuleNames
last_or names [] = names
last_or names (n ∷ ns) = last_or n ns

last_there : (names : ModuleNames) (ns : List ModuleNames) → unwrap_or (slice_get ns (length ns - 1)) names ≡ last_or names ns
last_there names [] = refl
last_there names (n ∷ []) = refl
last_there names (n ∷ m ∷ ns) =
    let e : length (n ∷ m ∷ ns) - 1 ≡ suc (length (m ∷ ns) - 1) = omega arith in
    ap (λ (k : ℕ). unwrap_or (slice_get (n ∷ m ∷ ns) k) names) e ∙ last_there names (m ∷ ns)

set_is_last : (ts : List Tag) (names : ModuleNames) → last_or names (modules_of ts) ≡ last_set names ts
set_is_last [] names = refl
set_is_last (t ∷ ts) names = by_class t.class (λ n. set_is_last ts n)
  where
    by_class : (c : LineClass) → ((n : ModuleNames) → last_or n (modules_of ts) ≡ last_set n ts)
        → last_or names (names_in c ++ modules_of ts) ≡ last_set (names_after names c) ts
    by_class (class.Module new) ih = ih new
    by_class _ ih = ih names

pub last_is_set : (ts : List Tag) → names_at (modules_of ts) (length (modules_of ts) - 1) ≡ last_set no_names ts
last_is_set ts = last_there no_names (modules_of ts) ∙ set_is_last ts no_names
