-- A file has a module only where each of its forms is built, and the refusal of one that is not
-- stands on a line of the file.
use Rattle.std.proofs.Common.{◌≡◌, ℕ, ◌==◌, Bool, true, false, ◌||◌, List, [], ◌∷◌, ◌++◌, ◌⊎◌, inl, inr, Option, None, Some, Result, Ok, Err, if◌then◌else◌, length, refl, sym, ap, ◌∙◌, subst}
use Rattle.std.proofs.lemmas.Bool.{false≢true}
use Rattle.std.specs.List.{AllByRecursion}
use Rattle.std.specs.Option.{option_or}
use Rattle.std.specs.Prelude.{is_some, nat_le, map}
use Rattle.xs_base.specs.Faults.{first_fault, unless_fault}
use Rattle.xs_base.specs.declared.fault.Fault.{Fault}
use Rattle.xs_base.specs.declared.fault_codes.TheConstants.{NAME_TWICE, NOT_BUILT, PARAMETER_TWICE, TOO_MANY_PARAMETERS}
use Rattle.xs_base.specs.declared.source.FileOf.TheVariants.{Xs}
use Rattle.xs_base.specs.declared.source.Line.{Line}
use Rattle.xs_base.specs.Lines.{lines_of}
use Rattle.xs_base.specs.Names.{is_among}
use Rattle.xs_base.specs.Reading.{◌>>=◌, collect, not_built_in, with_front}
use Rattle.xs_iface.specs.PassedLines.{is_passed_line}
use Rattle.xs_iface.specs.declared.drafts.Draft.{Draft}
use Rattle.xs_iface.specs.declared.paragraph.Paragraph.{Paragraph}
use Rattle.xs_iface.specs.declared.xsub.Module.{Module}
use Rattle.xs_iface.specs.declared.xsub.Xsub.{Xsub}
use Rattle.xs_iface.specs.Iface.{body_paragraph, c_part_fault, draft_of, draft_or_fault, drafts_of, drafts_unless, interface_fault, module_from, module_of, module_with, name_fault, param_fault, parameter_limit, xsub_from, xsub_of}
use Rattle.xs_iface.specs.Laws.{HasUnbuiltPart, IsBuiltBody, IsBuiltLine, IsBuiltPart, IsOfBuiltForms, IsUnbuiltBody, IsUnbuiltLine, IsUnbuiltOn, IsUnbuiltPart}
use Rattle.xs_iface.specs.Paragraph.{paragraph_of}
use Rattle.xs_sections.specs.Cut.{split_of}
use Rattle.xs_sections.specs.SectionFaults.{fault_at}
use Rattle.xs_sections.specs.Laws.{IsLineOf, StandsIn}
use Rattle.xs_sections.specs.declared.sections.Part.{Part}
use Rattle.xs_sections.specs.declared.sections.PartBody.{PartBody}
use Rattle.xs_sections.specs.declared.sections.PartBody.TheVariants.{Para, Map}
use Rattle.xs_sections.specs.declared.sections.Sections.{Sections}
use Rattle.xs_sections.proofs.Hold.{lines_stand}

-- ---- the C part

c_built : (lines : List Line) → c_part_fault lines ≡ None → AllByRecursion IsBuiltLine lines
c_built [] h = tt
c_built (l ∷ ls) h = by_test (is_passed_line l.text) refl h (λ g. c_built ls g)
  where
    by_test : (b : Bool) → is_passed_line l.text ≡ b → (if b then c_part_fault ls else Some (not_built_in Xs l.number)) ≡ None
        → (c_part_fault ls ≡ None → AllByRecursion IsBuiltLine ls) → AllByRecursion IsBuiltLine (l ∷ ls)
    by_test true p g ih = (p, ih g)
    by_test false p g ih = absurd cc

c_unbuilt : (lines : List Line) (f : Fault) → c_part_fault lines ≡ Some f → IsUnbuiltLine lines f.line
c_unbuilt [] f h = absurd cc
c_unbuilt (l ∷ ls) f h = by_test (is_passed_line l.text) refl h (λ g. c_unbuilt ls f g)
  where
    by_test : (b : Bool) → is_passed_line l.text ≡ b → (if b then c_part_fault ls else Some (not_built_in Xs l.number)) ≡ Some f
        → (c_part_fault ls ≡ Some f → IsUnbuiltLine ls f.line) → IsUnbuiltLine (l ∷ ls) f.line
    by_test true p g ih =
        let r : IsUnbuiltLine ls f.line = ih g in
        record {
          before = l ∷ r.before;
          line = r.line;
          after = r.after;
          stands = ap (λ (rest : List Line). l ∷ rest) r.stands;
          built_before = (p, r.built_before);
          unbuilt = r.unbuilt;
          line_is = r.line_is;
        }
    by_test false p g ih =
        let same : not_built_in Xs l.number ≡ f = cc in
        record {
          before = [];
          line = l;
          after = ls;
          stands = refl;
          built_before = tt;
          unbuilt = p;
          line_is = sym (ap (λ (x : Fault). x.line) same);
        }

-- ---- the parts

body_built : (s : Sections) (part : Part) (body : PartBody) (d : Draft) → draft_or_fault s part (body_paragraph body) ≡ Ok d → IsBuiltBody body
body_built s part (Para lines) d h = by_paragraph (paragraph_of lines) h
  where
    by_paragraph : (o : Option Paragraph) → draft_or_fault s part o ≡ Ok d → is_some o ≡ true
    by_paragraph (Some q) e = refl
    by_paragraph None e = absurd cc
body_built s part (Map lines) d h = absurd cc

record IsRefused (part : Part) (body : PartBody) (f : Fault) : Type 0 where
  unbuilt : IsUnbuiltBody body
  line : f.line ≡ part.line

body_unbuilt : (s : Sections) (part : Part) (body : PartBody) (f : Fault) → draft_or_fault s part (body_paragraph body) ≡ Err f → IsRefused part body f
body_unbuilt s part (Para lines) f h = by_paragraph (paragraph_of lines) refl h
  where
    by_paragraph : (o : Option Paragraph) → paragraph_of lines ≡ o → draft_or_fault s part o ≡ Err f → IsRefused part (Para lines) f
    by_paragraph (Some q) was e = absurd cc
    by_paragraph None was e =
        let same : not_built_in Xs part.line ≡ f = cc in
        record { unbuilt = ap is_some was; line = sym (ap (λ (x : Fault). x.line) same) }
body_unbuilt s part (Map lines) f h =
    let same : not_built_in Xs part.line ≡ f = cc in record { unbuilt = tt; line = sym (ap (λ (x : Fault). x.line) same) }

parts_built : (s : Sections) (parts : List Part) (ds : List Draft) → collect (draft_of s) parts ≡ Ok ds → AllByRecursion IsBuiltPart parts
parts_built s [] ds h = tt
parts_built s (p ∷ ps) ds h = by_draft (draft_of s p) refl (collect (draft_of s) ps) refl h (λ rest g. parts_built s ps rest g)
  where
    by_draft : (r : Result Draft Fault) → draft_of s p ≡ r → (more : Result (List Draft) Fault) → collect (draft_of s) ps ≡ more
        → (r >>= (λ y. with_front (y ∷ []) more)) ≡ Ok ds
        → ((rest : List Draft) → collect (draft_of s) ps ≡ Ok rest → AllByRecursion IsBuiltPart ps) → AllByRecursion IsBuiltPart (p ∷ ps)
    by_draft (Ok d) e (Ok rest) g k ih = (body_built s p p.body d e, ih rest g)
    by_draft (Ok d) e (Err f) g k ih = absurd cc
    by_draft (Err f) e more g k ih = absurd cc

parts_unbuilt : (s : Sections) (parts : List Part) (f : Fault) → collect (draft_of s) parts ≡ Err f → IsUnbuiltPart parts f.line
parts_unbuilt s [] f h = absurd cc
parts_unbuilt s (p ∷ ps) f h = by_draft (draft_of s p) refl (collect (draft_of s) ps) refl h (λ x g. parts_unbuilt s ps x g)
  where
    by_draft : (r : Result Draft Fault) → draft_of s p ≡ r → (more : Result (List Draft) Fault) → collect (draft_of s) ps ≡ more
        → (r >>= (λ y. with_front (y ∷ []) more)) ≡ Err f
        → ((x : Fault) → collect (draft_of s) ps ≡ Err x → IsUnbuiltPart ps x.line) → IsUnbuiltPart (p ∷ ps) f.line
    by_draft (Ok d) e (Ok rest) g k ih = absurd cc
    by_draft (Ok d) e (Err x) g k ih =
        let same : x ≡ f = cc in
        let r : IsUnbuiltPart ps f.line = subst (λ (y : Fault). IsUnbuiltPart ps y.line) same (ih x g) in
        record {
          before = p ∷ r.before;
          part = r.part;
          after = r.after;
          stands = ap (λ (rest : List Part). p ∷ rest) r.stands;
          built_before = (body_built s p p.body d e, r.built_before);
          unbuilt = r.unbuilt;
          line_is = r.line_is;
        }
    by_draft (Err x) e more g k ih =
        let same : x ≡ f = cc in
        let r : IsRefused p p.body f = subst (IsRefused p p.body) same (body_unbuilt s p p.body x e) in
        record { before = []; part = p; after = ps; stands = refl; built_before = tt; unbuilt = r.unbuilt; line_is = r.line }

-- ---- the forms of a file

drafts_built : (s : Sections) (ds : List Draft) → drafts_of s ≡ Ok ds → IsOfBuiltForms s
unfolding drafts_of
drafts_built s ds h = by_c_part (c_part_fault s.c_part) refl h
  where
    by_c_part : (o : Option Fault) → c_part_fault s.c_part ≡ o → drafts_unless s o ≡ Ok ds → IsOfBuiltForms s
    by_c_part None e g = record { c_part = c_built s.c_part e; parts = parts_built s s.parts ds g }
    by_c_part (Some f) e g = absurd cc

abbrev HasUnbuilt : Sections → ℕ → Type 0
HasUnbuilt s number = IsUnbuiltLine s.c_part number ⊎ HasUnbuiltPart s number

drafts_unbuilt : (s : Sections) (f : Fault) → drafts_of s ≡ Err f → HasUnbuilt s f.line
unfolding drafts_of
drafts_unbuilt s f h = by_c_part (c_part_fault s.c_part) refl h
  where
    by_c_part : (o : Option Fault) → c_part_fault s.c_part ≡ o → drafts_unless s o ≡ Err f → HasUnbuilt s f.line
    by_c_part None e g = inr (record { c_part = c_built s.c_part e; part = parts_unbuilt s s.parts f g })
    by_c_part (Some x) e g =
        let same : x ≡ f = cc in inl (subst (λ (y : Fault). IsUnbuiltLine s.c_part y.line) same (c_unbuilt s.c_part x e))

-- ---- no other fault has this code

abbrev IsOther : Fault → Type 0
IsOther f = f.code ≡ NOT_BUILT → ⊥

first_other : {A : Type 0} (fault : List A → A → Option Fault) → ((before : List A) (x : A) (f : Fault) → fault before x ≡ Some f → IsOther f)
    → (before xs : List A) (f : Fault) → first_fault fault before xs ≡ Some f → IsOther f
first_other fault each before [] f h = absurd cc
first_other fault each before (x ∷ xs) f h = by_one (fault before x) refl h (λ g. first_other fault each (before ++ x ∷ []) xs f g)
  where
    by_one : (o : Option Fault) → fault before x ≡ o → option_or o (first_fault fault (before ++ x ∷ []) xs) ≡ Some f
        → (first_fault fault (before ++ x ∷ []) xs ≡ Some f → IsOther f) → IsOther f
    by_one None e g ih = ih g
    by_one (Some y) e g ih = let same : y ≡ f = cc in subst IsOther same (each before x y e)

not_code : (code : ℕ) → (code == NOT_BUILT) ≡ false → code ≡ NOT_BUILT → ⊥
not_code code e k = false≢true (sym e ∙ ap (λ (n : ℕ). n == NOT_BUILT) k)

param_other : (line : ℕ) (before : List (List ℕ)) (name : List ℕ) (f : Fault) → param_fault line before name ≡ Some f → IsOther f
param_other line before name f h = by_tests (is_among before name) (nat_le parameter_limit (length before)) h
  where
    by_tests : (a b : Bool) → (if a then Some (fault_at line PARAMETER_TWICE name) else (if b then Some (fault_at line TOO_MANY_PARAMETERS []) else None))
        ≡ Some f → IsOther f
    by_tests true b e = let same : fault_at line PARAMETER_TWICE name ≡ f = cc in subst IsOther same (not_code PARAMETER_TWICE refl)
    by_tests false true e = let same : fault_at line TOO_MANY_PARAMETERS [] ≡ f = cc in subst IsOther same (not_code TOO_MANY_PARAMETERS refl)
    by_tests false false e = absurd cc

name_other : (before : List Xsub) (x : Xsub) (f : Fault) → name_fault before x ≡ Some f → IsOther f
name_other before x f h = by_test (is_among (map (λ (e : Xsub). e.full) before) x.full || is_among (map (λ (e : Xsub). e.glue) before) x.glue) h
  where
    by_test : (b : Bool) → (if b then Some (fault_at x.line NAME_TWICE x.full) else None) ≡ Some f → IsOther f
    by_test true e = let same : fault_at x.line NAME_TWICE x.full ≡ f = cc in subst IsOther same (not_code NAME_TWICE refl)
    by_test false e = absurd cc

unless_other : {A : Type 0} (o : Option Fault) (a : A) (f : Fault) → ((g : Fault) → o ≡ Some g → IsOther g) → unless_fault o a ≡ Err f → IsOther f
unless_other None a f each h = absurd cc
unless_other (Some g) a f each h = let same : g ≡ f = cc in subst IsOther same (each g refl)

xsub_other : (d : Draft) (f : Fault) → xsub_of d ≡ Err f → IsOther f
xsub_other d f h =
    unless_other (interface_fault d.paragraph) (xsub_from d) f
    (λ g e. first_other (param_fault d.paragraph.line) (param_other d.paragraph.line) [] d.paragraph.params g e) h

collect_other : {A B : Type 0} (read : A → Result B Fault) → ((x : A) (f : Fault) → read x ≡ Err f → IsOther f) → (xs : List A) (f : Fault)
    → collect read xs ≡ Err f → IsOther f
collect_other read each [] f h = absurd cc
collect_other {A} {B} read each (x ∷ xs) f h = by_one (read x) refl (collect read xs) refl h (λ z g. collect_other read each xs z g)
  where
    by_one : (r : Result B Fault) → read x ≡ r → (more : Result (List B) Fault) → collect read xs ≡ more
        → (r >>= (λ y. with_front (y ∷ []) more)) ≡ Err f
        → ((z : Fault) → collect read xs ≡ Err z → IsOther z) → IsOther f
    by_one (Ok y) e (Ok ys) g k ih = absurd cc
    by_one (Ok y) e (Err z) g k ih = let same : z ≡ f = cc in subst IsOther same (ih z g)
    by_one (Err z) e more g k ih = let same : z ≡ f = cc in subst IsOther same (each x z e)

module_other : (s : Sections) (ds : List Draft) (f : Fault) → (collect xsub_of ds >>= module_with s) ≡ Err f → IsOther f
module_other s ds f h = by_xsubs (collect xsub_of ds) refl h
  where
    by_xsubs : (r : Result (List Xsub) Fault) → collect xsub_of ds ≡ r → (r >>= module_with s) ≡ Err f → IsOther f
    by_xsubs (Ok xs) e g = unless_other (first_fault name_fault [] xs) (module_from s xs) f (λ k was. first_other name_fault name_other [] xs k was) g
    by_xsubs (Err x) e g = let same : x ≡ f = cc in subst IsOther same (collect_other xsub_of xsub_other ds x e)

-- ---- the laws

pub module_is_built : (s : Sections) (m : Module) → module_of s ≡ Ok m → IsOfBuiltForms s
unfolding module_of
module_is_built s m h = by_drafts (drafts_of s) refl h
  where
    by_drafts : (r : Result (List Draft) Fault) → drafts_of s ≡ r → (r >>= collect xsub_of >>= module_with s) ≡ Ok m → IsOfBuiltForms s
    by_drafts (Ok ds) e g = drafts_built s ds e
    by_drafts (Err f) e g = absurd cc

unbuilt_form : (s : Sections) (f : Fault) → module_of s ≡ Err f → f.code ≡ NOT_BUILT → HasUnbuilt s f.line
unfolding module_of
unbuilt_form s f h code = by_drafts (drafts_of s) refl h
  where
    by_drafts : (r : Result (List Draft) Fault) → drafts_of s ≡ r → (r >>= collect xsub_of >>= module_with s) ≡ Err f → HasUnbuilt s f.line
    by_drafts (Ok ds) e g = absurd (module_other s ds f g code)
    by_drafts (Err x) e g = let same : x ≡ f = cc in subst (λ (y : Fault). HasUnbuilt s y.line) same (drafts_unbuilt s x e)

-- what holds of all holds of one that stands among them
at_seam : {A : Type 0} (P : A → Type 0) (before after : List A) (x : A) → AllByRecursion P (before ++ x ∷ after) → P x
at_seam P [] after x all = all.0
at_seam P (y ∷ before) after x all = at_seam P before after x all.1

on_line : (lines : List Line) (s : Sections) (number : ℕ) → StandsIn lines s → HasUnbuilt s number → IsLineOf lines number
on_line lines s number stands (inl u) =
    let P : List Line → Type 0 = λ c. AllByRecursion (λ (line : Line). IsLineOf lines line.number) c in
    subst (IsLineOf lines) (sym u.line_is)
    (at_seam (λ (line : Line). IsLineOf lines line.number) u.before u.after u.line (subst P u.stands stands.c_part))
on_line lines s number stands (inr h) =
    let u : IsUnbuiltPart s.parts number = h.part in
    let P : List Part → Type 0 = λ ps. AllByRecursion (λ (part : Part). IsLineOf lines part.line) ps in
    subst (IsLineOf lines) (sym u.line_is)
    (at_seam (λ (part : Part). IsLineOf lines part.line) u.before u.after u.part (subst P u.stands stands.parts))

pub unbuilt_stands : (bytes : List ℕ) (s : Sections) (f : Fault) → split_of bytes ≡ Ok s → module_of s ≡ Err f → f.code ≡ NOT_BUILT
    → IsUnbuiltOn (lines_of bytes) s f.line
unbuilt_stands bytes s f split h code =
    let form : HasUnbuilt s f.line = unbuilt_form s f h code in
    record { form = form; on = on_line (lines_of bytes) s f.line (lines_stand (Ok s) bytes split) form }
