-- What holds of the module of each XS file whose XSUBs are sums.
use Rattle.std.proofs.Common.{◌≡◌, ℕ, ◌≤◌, ◌&&◌, ◌||◌, Bool, true, false, not, List, [], ◌∷◌, ◌++◌, codes, length, map, Option, None, Some, Result, Ok, Err, refl, sym, ap, ◌+◌, ◌∙◌, cond, subst}
use Rattle.std.proofs.lemmas.Bool.{and_parts, leb-true}
use Rattle.std.proofs.lemmas.List.{length-map}
use Rattle.std.proofs.lemmas.Option.{cond_some, option_and_then_some}
use Rattle.std.specs.List.{list_all, list_any, position, position_from}
use Rattle.std.specs.Option.{option_map, unwrap_or}
use Rattle.std.specs.Prelude.{is_some, nat_le}
use Rattle.std.specs.Str.{bytes_eq}
use Rattle.xs_base.specs.Reading.{◌>>=◌, collect, with_front}
use Rattle.xs_base.specs.declared.fault.Fault.{Fault}
use Rattle.xs_base.specs.declared.source.Line.{Line}
use Rattle.xs_iface.specs.declared.drafts.Draft.{Draft}
use Rattle.xs_iface.specs.declared.paragraph.Interface.{Interface}
use Rattle.xs_iface.specs.declared.paragraph.Paragraph.{Paragraph}
use Rattle.xs_iface.specs.declared.paragraph.Sum.{Sum}
use Rattle.xs_base.specs.declared.byte_runs.ByteClass.TheVariants.{Blank, Name, Word}
use Rattle.xs_iface.specs.declared.xsub.Module.{Module}
use Rattle.xs_iface.specs.declared.xsub.Param.{Param}
use Rattle.xs_iface.specs.declared.xsub.Xsub.{Xsub}
use Rattle.xs_iface.specs.Iface.{body_paragraph, c_part_fault, draft_from, draft_of, draft_or_fault, drafts_of, drafts_unless, interface_fault, module_from, module_of, module_with, name_fault, param_at, perl_name, xsub_from, xsub_of}
use Rattle.xs_iface.specs.Paragraph.{greatest_int, term_limit, interface_of, interface_with, is_frame, is_literal, is_term, literal_of, paragraph_from, paragraph_of, paragraph_with, sum_of, sum_with, term_at, term_of}
use Rattle.xs_base.proofs.FrontRuns.{front_belongs}
use Rattle.xs_base.proofs.Choices.{some_if}
use Rattle.xs_base.proofs.Stages.{bound}
use Rattle.std.proofs.lemmas.Iterator.Adapters.{position_from-zero}
use Rattle.std.proofs.lemmas.List.Quantifiers.{position-Some}
use Rattle.xs_base.proofs.Qualified.{identifier_bytes}
use Rattle.xs_base.specs.ByteRuns.{after_run, after_blanks, belongs, front_of}
use Rattle.xs_base.specs.Scanning.{strip_prefix, is_identifier, value_of_digits}
use Rattle.xs_iface.specs.Scan.{Chain, chain_of, chain_within, linked}
use Rattle.std.specs.List.{AllByRecursion as All}
use Rattle.xs_iface.specs.SumForm.{Differ, IsSumModule, IsSumXsub, IsTermOf}
use Rattle.xs_iface.specs.ReservedWords.{is_free, is_no_xsub_name}
use Rattle.xs_iface.proofs.Apart.{are_apart, few_params, names_apart, params_apart}
use Rattle.xs_iface.proofs.NameBytes.{full_bytes, glue_is, glue_tail, package_bytes, perl_bytes, tail_bytes}
use Rattle.xs_sections.specs.Cut.{names_of, split_of}
use Rattle.xs_sections.specs.declared.sections.Part.{Part}
use Rattle.xs_sections.specs.declared.sections.PartBody.{PartBody}
use Rattle.xs_sections.specs.declared.sections.PartBody.TheVariants.{Para, Map}
use Rattle.xs_sections.specs.declared.sections.Sections.{Sections}
use Rattle.xs_base.proofs.Unless.{faultless}
use Rattle.xs_base.specs.Faults.{first_fault}
use Rattle.xs_sections.proofs.FaultsNamed.{are_named, is_name_or_empty}

-- ---- what a chain of steps came from

record Mapped {A B : Type 0} (f : A → B) (o : Option A) (b : B) : Type 0 where
  at : A
  was : o ≡ Some at
  then_is : f at ≡ b

mapped : {A B : Type 0} (f : A → B) (o : Option A) (b : B) → option_map f o ≡ Some b → Mapped f o b
mapped f None b h = absurd cc
mapped f (Some a) b h = record { at = a; was = refl; then_is = cc }

one_value : {A : Type 0} (r : Result A Fault) (a b : A) → r ≡ Ok a → r ≡ Ok b → a ≡ b
one_value r a b e f = cc

-- what holds of all that a list gives
collected : {A B : Type 0} (read : A → Result B Fault) (P : A → Type 0) (Q : B → Type 0) → ((x : A) (y : B) → P x → read x ≡ Ok y → Q y)
    → (xs : List A) (ys : List B) → All P xs → collect read xs ≡ Ok ys → All Q ys
collected read P Q each [] ys p h = subst (All Q) (one_value (Ok []) [] ys refl h) tt
collected {A} {B} read P Q each (x ∷ xs) ys p h =
    let a = bound (read x) (λ y. with_front (y ∷ []) (collect read xs)) ys h in
    by a.at (each x a.at p.0 a.was) (collect read xs) (collected read P Q each xs) a.then_is
  where
    by : (y : B) → Q y → (r : Result (List B) Fault) → ((zs : List B) → All P xs → r ≡ Ok zs → All Q zs) → with_front (y ∷ []) r ≡ Ok ys → All Q ys
    by y q (Ok zs) ih e = subst (All Q) (one_value (Ok (y ∷ zs)) (y ∷ zs) ys refl e) (q, ih zs p.1 refl)
    by y q (Err fault) ih e = absurd cc

-- what holds of all that a list is made into
all_made : {A B : Type 0} (p : A → Bool) (f : A → B) (Q : B → Type 0) → ((x : A) → p x ≡ true → Q (f x)) → (xs : List A) → list_all p xs ≡ true
    → All Q (map f xs)
all_made p f Q each [] h = tt
all_made p f Q each (x ∷ xs) h = let g = and_parts (p x) (list_all p xs) h in (each x g.0, all_made p f Q each xs g.1)

-- ---- terms

literal_fits : (word : List ℕ) (o : Option ℕ) → literal_of word ≡ o → is_some o ≡ true → unwrap_or o 0 ≤ greatest_int
literal_fits word None e h = absurd cc
literal_fits word (Some value) e h =
    let p = cond_some (is_literal word && nat_le (value_of_digits word) greatest_int) (value_of_digits word) value e in
    let q = and_parts (is_literal word) (nat_le (value_of_digits word) greatest_int) p.0 in
    subst (λ (v : ℕ). v ≤ greatest_int) p.1 (leb-true (value_of_digits word) greatest_int q.1)

-- where a test fails on all of a list, it passes on none
none_found : (test : List ℕ → Bool) (i : ℕ) (names : List (List ℕ)) → position_from test i names ≡ None → list_any test names ≡ false
none_found test i [] h = refl
none_found test i (name ∷ names) h = by (test name) h (none_found test (i + 1) names)
  where
    by : (t : Bool) → cond t (Some i) (position_from test (i + 1) names) ≡ None → (position_from test (i + 1) names ≡ None → list_any test names ≡ false)
        → (t || list_any test names) ≡ false
    by true none ih = absurd cc
    by false none ih = ih none

term_fits : (params : List (List ℕ)) (word : List ℕ) → is_term params word ≡ true → IsTermOf (length params) (term_of params word)
term_fits params word h = by (position (λ name. bytes_eq name word) params) refl
  where
    by : (o : Option ℕ) → position (λ name. bytes_eq name word) params ≡ o → IsTermOf (length params) (term_at word o)
    by (Some place) e = (position-Some (λ name. bytes_eq name word) params place [] e).0
    by None e =
        let none = none_found (λ name. bytes_eq name word) 0 params (sym (position_from-zero (λ name. bytes_eq name word) params) ∙ e) in
        literal_fits word (literal_of word) refl (sym (ap (λ (t : Bool). t || is_some (literal_of word)) none) ∙ h)

-- ---- paragraphs

record IsSumParagraph (q : Paragraph) : Type 0 where
  function : is_free q.function ≡ true
  params : list_all is_free q.params ≡ true
  blanks : list_all (belongs Blank) q.indent ≡ true
  first : List ℕ
  more : List (List ℕ)
  words : q.words ≡ first ∷ more
  few : length q.words ≤ 32
  terms : list_all (is_term q.params) q.words ≡ true

record IsInterface (i : Interface) : Type 0 where
  function : is_free i.function ≡ true
  params : list_all is_free i.params ≡ true

interface_is : (text : List ℕ) (i : Interface) → interface_of text ≡ Some i → IsInterface i
interface_is text i h =
    option_and_then_some (λ (list : List ℕ). interface_with (front_of Word text) (chain_of (codes ", int ") list))
    (strip_prefix (codes "(int ") (after_run Word text)) i h
    (λ list found. ends (chain_of (codes ", int ") list))
  where
    ends : (names : Chain) → interface_with (front_of Word text) names ≡ Some i → IsInterface i
    ends names e =
        let made : Interface = record { function = front_of Word text; params = names.0 } in
        let p = cond_some (bytes_eq names.1 (codes ")") && is_free (front_of Word text) && list_all is_free names.0) made i e in
        let b = and_parts (bytes_eq names.1 (codes ")") && is_free (front_of Word text)) (list_all is_free names.0) p.0 in
        let c = and_parts (bytes_eq names.1 (codes ")")) (is_free (front_of Word text)) b.0 in
        subst IsInterface p.1 (record { function = c.1; params = b.1 })

record IsSum (params : List (List ℕ)) (s : Sum) : Type 0 where
  blanks : list_all (belongs Blank) s.indent ≡ true
  first : List ℕ
  more : List (List ℕ)
  words : s.words ≡ first ∷ more
  few : length s.words ≤ 32
  terms : list_all (is_term params) s.words ≡ true

record HasWord (words : List (List ℕ)) : Type 0 where
  first : List ℕ
  more : List (List ℕ)
  is : words ≡ first ∷ more

-- where `;` is left of a text, a word stood in front of it
has_word : (divider text : List ℕ) → bytes_eq (chain_of divider text).1 (codes ";") ≡ true → HasWord (chain_of divider text).0
unfolding chain_of
has_word divider [] h = absurd cc
has_word divider (b ∷ bs) h = by (strip_prefix divider (after_run Word (b ∷ bs)))
  where
    by : (o : Option (List ℕ)) → HasWord (linked (chain_within (length bs) divider) (front_of Word (b ∷ bs)) (after_run Word (b ∷ bs)) o).0
    by None = record { first = front_of Word (b ∷ bs); more = []; is = refl }
    by (Some next) = record { first = front_of Word (b ∷ bs); more = (chain_within (length bs) divider next).0; is = refl }

sum_with_is : (params : List (List ℕ)) (text : List ℕ) (words : Chain) (s : Sum) → (bytes_eq words.1 (codes ";") ≡ true → HasWord words.0)
    → sum_with params (front_of Blank text) words ≡ Some s → IsSum params s
sum_with_is params text words s some h =
    let made : Sum = record { indent = front_of Blank text; words = words.0 } in
    let p = cond_some (bytes_eq words.1 (codes ";") && nat_le (length words.0) term_limit && list_all (is_term params) words.0) made s h in
    let b = and_parts (bytes_eq words.1 (codes ";") && nat_le (length words.0) term_limit) (list_all (is_term params) words.0) p.0 in
    let c = and_parts (bytes_eq words.1 (codes ";")) (nat_le (length words.0) term_limit) b.0 in
    let w = some c.0 in
    subst (IsSum params) p.1 (record {
      blanks = front_belongs Blank text;
      first = w.first;
      more = w.more;
      words = w.is;
      few = leb-true (length words.0) 32 c.1;
      terms = b.1;
    })

sum_is : (params : List (List ℕ)) (text : List ℕ) (s : Sum) → sum_of params text ≡ Some s → IsSum params s
sum_is params text s h =
    option_and_then_some (λ (terms : List ℕ). sum_with params (front_of Blank text) (chain_of (codes " + ") terms))
    (strip_prefix (codes "RETVAL = ") (after_blanks text)) s h
    (λ terms found. sum_with_is params text (chain_of (codes " + ") terms) s (has_word (codes " + ") terms))

paragraph_with_is : (interface sum : Line) (output_line : ℕ) (q : Paragraph) → paragraph_with interface sum output_line ≡ Some q → IsSumParagraph q
paragraph_with_is interface sum output_line q h =
    option_and_then_some (λ (names : Interface). option_map (paragraph_from interface sum output_line names) (sum_of names.params sum.text))
    (interface_of interface.text) q h
    (λ names was e.
    let b = mapped (paragraph_from interface sum output_line names) (sum_of names.params sum.text) q e in
    let i = interface_is interface.text names was in
    let s = sum_is names.params sum.text b.at b.was in
    subst IsSumParagraph b.then_is (record {
      function = i.function;
      params = i.params;
      blanks = s.blanks;
      first = s.first;
      more = s.more;
      words = s.words;
      few = s.few;
      terms = s.terms;
    }))

paragraph_is : (lines : List Line) (q : Paragraph) → paragraph_of lines ≡ Some q → IsSumParagraph q
paragraph_is [] q h = absurd cc
paragraph_is (a ∷ []) q h = absurd cc
paragraph_is (a ∷ b ∷ []) q h = absurd cc
paragraph_is (a ∷ b ∷ c ∷ []) q h = absurd cc
paragraph_is (a ∷ b ∷ c ∷ d ∷ []) q h = absurd cc
paragraph_is (a ∷ b ∷ c ∷ d ∷ e ∷ []) q h = absurd cc
paragraph_is (kind ∷ interface ∷ code ∷ sum ∷ output ∷ retval ∷ more) q h =
    paragraph_with_is interface sum retval.number q
    (some_if (is_frame kind.text code.text output.text retval.text more) (paragraph_with interface sum retval.number) q h).1

body_is : (body : PartBody) (q : Paragraph) → body_paragraph body ≡ Some q → IsSumParagraph q
body_is (Para lines) q h = paragraph_is lines q h
body_is (Map lines) q h = absurd cc

-- ---- drafts

record IsSumDraft (d : Draft) : Type 0 where
  tail : List ℕ
  glue : d.glue ≡ codes "XS_" ++ tail
  tail_bytes : list_all (belongs Word) tail ≡ true
  full_bytes : list_all (belongs Name) d.full ≡ true
  paragraph : IsSumParagraph d.paragraph

drafted : (s : Sections) (part : Part) (q : Paragraph) → is_name_or_empty (names_of s part).package ≡ true → IsSumParagraph q
    → IsSumDraft (draft_from s part q)
drafted s part q p i =
    let names = names_of s part in
    let name = perl_name names.prefix q.function in
    let package_is = package_bytes names.package p in
    let free = and_parts (is_identifier q.function) (not (is_no_xsub_name q.function)) i.function in
    let bytes = perl_bytes names.prefix q.function (identifier_bytes q.function free.0) in
    record {
      tail = glue_tail names.package name;
      glue = glue_is names.package name;
      tail_bytes = tail_bytes names.package name package_is bytes;
      full_bytes = full_bytes names.package name package_is bytes;
      paragraph = i;
    }

draft_is : (s : Sections) (part : Part) (d : Draft) → is_name_or_empty (names_of s part).package ≡ true → draft_of s part ≡ Ok d → IsSumDraft d
draft_is s part d p h = by (body_paragraph part.body) refl h
  where
    by : (o : Option Paragraph) → body_paragraph part.body ≡ o → draft_or_fault s part o ≡ Ok d → IsSumDraft d
    by None e g = absurd cc
    by (Some q) e g = let same : draft_from s part q ≡ d = cc in subst IsSumDraft same (drafted s part q p (body_is part.body q e))

-- ---- XSUBs

names_again : (line : ℕ) (names : List (List ℕ)) → map (λ (p : Param). p.name) (map (param_at line) names) ≡ names
names_again line [] = refl
names_again line (n ∷ ns) = ap (λ (rest : List (List ℕ)). n ∷ rest) (names_again line ns)

xsub_made : (d : Draft) → IsSumDraft d → interface_fault d.paragraph ≡ None → IsSumXsub (xsub_from d)
xsub_made d i none =
    let q = i.paragraph in
    let names = d.paragraph.params in
    let words = d.paragraph.words in
    let line = d.paragraph.line in
    let apart = are_apart [] names (params_apart line [] names none) in
    let P : ℕ → Type 0 = λ n. n ≤ 64 in
    let Q : ℕ → Type 0 = λ n. All (IsTermOf n) (map (term_of names) words) in
    let R : ℕ → Type 0 = λ n. n ≤ 32 in
    record {
      tail = i.tail;
      glue = i.glue;
      tail_bytes = i.tail_bytes;
      full_bytes = i.full_bytes;
      free_params = all_made is_free (param_at line) (λ (p : Param). is_free p.name ≡ true) (λ name free. free) names q.params;
      params_differ = subst Differ (sym (names_again line names)) apart.differ;
      few_params = subst P (sym (length-map names (param_at line))) (few_params line names none);
      blanks = q.blanks;
      first_term = term_of names q.first;
      more_terms = map (term_of names) q.more;
      sum_is = ap (λ (ws : List (List ℕ)). map (term_of names) ws) q.words;
      terms = subst Q (sym (length-map names (param_at line)))
          (all_made (is_term names) (term_of names) (IsTermOf (length names)) (term_fits names) words q.terms);
      few_terms = subst R (sym (length-map words (term_of names))) q.few;
    }

xsub_is : (d : Draft) (x : Xsub) → IsSumDraft d → xsub_of d ≡ Ok x → IsSumXsub x
xsub_is d x i h =
    let f = faultless (interface_fault d.paragraph) (xsub_from d) x h in
    subst IsSumXsub f.same (xsub_made d i f.none)

-- ---- modules

all_are : {A : Type 0} (P : A → Type 0) (xs : List A) → All P xs → All P xs
all_are P [] h = tt
all_are P (x ∷ xs) h = (h.0, all_are P xs h.1)

drafts_are : (s : Sections) (ds : List Draft) → All (λ (p : Part). is_name_or_empty (names_of s p).package ≡ true) s.parts → drafts_of s ≡ Ok ds
    → All IsSumDraft ds
unfolding drafts_of
drafts_are s ds named h = by (c_part_fault s.c_part) h
  where
    by : (o : Option Fault) → drafts_unless s o ≡ Ok ds → All IsSumDraft ds
    by None e = collected (draft_of s) (λ (p : Part). is_name_or_empty (names_of s p).package ≡ true) IsSumDraft (draft_is s) s.parts ds named e
    by (Some f) e = absurd cc

-- The module of an XS file is one of XSUBs that are sums.
pub module_gives_sums : (bytes : List ℕ) (s : Sections) (m : Module) → split_of bytes ≡ Ok s → module_of s ≡ Ok m → IsSumModule m
unfolding module_of
module_gives_sums bytes s m split h =
    let named = are_named bytes s split in
    let c = bound (drafts_of s >>= collect xsub_of) (module_with s) m h in
    let b = bound (drafts_of s) (collect xsub_of) c.at c.was in
    let drafts = drafts_are s b.at named.packages b.was in
    let xsubs = collected xsub_of IsSumDraft IsSumXsub xsub_is b.at c.at drafts b.then_is in
    let f = faultless (first_fault name_fault [] c.at) (module_from s c.at) m c.then_is in
    let apart = names_apart [] c.at f.none in
    subst IsSumModule f.same (record {
      boot = named.module_name;
      xsubs = all_are IsSumXsub c.at xsubs;
      names_differ = (are_apart [] (map (λ (x : Xsub). x.full) c.at) apart.0).differ;
      glues_differ = (are_apart [] (map (λ (x : Xsub). x.glue) c.at) apart.1).differ;
    })
