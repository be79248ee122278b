-- A file can be split in one way only.
use Rattle.std.proofs.Common.{◌≡◌, ℕ, Bool, true, false, List, [], ◌∷◌, ◌++◌, ◌⊎◌, inl, inr, All, Option, None, Some, refl, ap, sym, subst, ◌∙◌, append-nil}
use Rattle.std.specs.Prelude.{codes}
use Rattle.std.specs.Str.{bytes_eq}
use Rattle.std.proofs.lemmas.Bool.{false≢true}
use Rattle.std.proofs.lemmas.Option.{same_Some}
use Rattle.std.proofs.lemmas.List.Elements.{All-head, All-tail}
use Rattle.xs_base.specs.declared.source.Line.{Line}
use Rattle.xs_base.specs.Scanning.{starts_with, is_blank_line}
use Rattle.xs_base.proofs.FrontRuns.{after_seam}
use Rattle.xs_base.specs.ByteRuns.{after_blanks, front_of}
use Rattle.xs_base.specs.declared.byte_runs.ByteClass.TheVariants as byte_class
use Rattle.xs_sections.specs.declared.words.TheConstants.{BOOT, MODULE}
use Rattle.xs_sections.specs.LineForms.{begins_pod, ends_pod, is_module_line}
use Rattle.xs_sections.specs.ModuleLine.{module_names}
use Rattle.xs_sections.specs.Keywords.{head_class}
use Rattle.xs_sections.specs.Cut.{map_of, paragraph_of}
use Rattle.xs_sections.specs.Laws.{IsPlain, IsPlainLine, IsHeadLine, IsParagraphHead, IsParagraph, HoldsTogether, EndsAtGap, EndsBefore, last_line, WithoutPod, Contents, with_module, with_head, with_part, XsPart, before_module, from_module, without_comments, IsSplit, IsOnlySplit}
use Rattle.xs_sections.specs.Laws as law
use Rattle.xs_sections.specs.declared.class.LineClass.{LineClass}
use Rattle.xs_sections.specs.declared.class.LineClass.TheVariants as class
use Rattle.xs_sections.specs.declared.sections.ModuleNames.{ModuleNames}
use Rattle.xs_sections.specs.declared.sections.Part.{Part}
use Rattle.xs_sections.specs.declared.sections.Sections.{Sections}

-- ---- a stretch up to the first line that passes a test

record SameStretch (inner other rest more : List Line) : Type 0 where
  same : inner ≡ other
  after : rest ≡ more

same_head : {x y : Line} {xs ys : List Line} → x ∷ xs ≡ y ∷ ys → x ≡ y
same_head e = cc

same_tail : {x y : Line} {xs ys : List Line} → x ∷ xs ≡ y ∷ ys → xs ≡ ys
same_tail e = cc

module _ (passes : Line → Bool) where
  abbrev NotYet : Line → Type 0
  NotYet l = passes l ≡ false

  clash : (x y : Line) → x ≡ y → passes x ≡ true → passes y ≡ false → ⊥
  clash x y e p q = false≢true (sym q ∙ ap passes (sym e) ∙ p)

  same_stretch : (inner other : List Line) (last end : Line) (rest more : List Line) → All NotYet inner → All NotYet other → passes last ≡ true
      → passes end ≡ true
      → inner ++ last ∷ rest ≡ other ++ end ∷ more → SameStretch inner other rest more
  same_stretch [] [] last end rest more a b p q e = record { same = refl; after = same_tail e }
  same_stretch [] (y ∷ other) last end rest more a b p q e = absurd (clash last y (same_head e) p (All-head NotYet y other b))
  same_stretch (x ∷ inner) [] last end rest more a b p q e = absurd (clash end x (sym (same_head e)) q (All-head NotYet x inner a))
  same_stretch (x ∷ inner) (y ∷ other) last end rest more a b p q e =
      let s : SameStretch inner other rest more =
      same_stretch inner other last end rest more (All-tail NotYet x inner a) (All-tail NotYet y other b) p q (same_tail e) in
      record { same = ap (λ (l : Line). l ∷ inner) (same_head e) ∙ ap (λ (ls : List Line). y ∷ ls) s.same; after = s.after }

-- ---- POD

same_pod : {ls rest : List Line} → WithoutPod ls rest → (ms more : List Line) → ls ≡ ms → WithoutPod ms more → rest ≡ more
same_pod law.done ms more e law.done = refl
same_pod law.done ms more e (law.keeps n w) = absurd cc
same_pod law.done ms more e (law.skips inner last b i p w) = absurd cc
same_pod (law.keeps m v) ms more e law.done = absurd cc
same_pod (law.keeps {line = x} {lines = xs} {rest = r} m v) ms more e (law.keeps {line = y} {lines = ys} {rest = s} n w) =
    let h : r ≡ s = same_pod v ys s (same_tail e) w in ap (λ (l : Line). l ∷ r) (same_head e) ∙ ap (λ (ls : List Line). y ∷ ls) h
same_pod (law.keeps {line = x} m v) ms more e (law.skips {first = y} inner last b i p w) =
    absurd (false≢true (sym m ∙ ap (λ (l : Line). begins_pod l.text) (same_head e) ∙ b))
same_pod (law.skips inner last b i p v) ms more e law.done = absurd cc
same_pod (law.skips {first = x} inner last b i p v) ms more e (law.keeps {line = y} n w) =
    absurd (false≢true (sym n ∙ ap (λ (l : Line). begins_pod l.text) (sym (same_head e)) ∙ b))
same_pod (law.skips {first = x} inner last {lines = xs} {rest = r} b i p v) ms more e (law.skips {first = y} other end {lines = ys} {rest = s} c j q w) =
    let h : SameStretch inner other xs ys = same_stretch (λ (l : Line). ends_pod l.text) inner other last end xs ys i j p q (same_tail e) in
    same_pod v ys s h.after w

-- ---- paragraphs

-- what goes on after a line of a paragraph, up to its end
record Goes (first last : Line) (ls rest : List Line) : Type 0 where
  plain : All IsPlainLine ls
  together : HoldsTogether last ls
  last_gap : starts_with BOOT.now first.text ≡ true → is_blank_line last.text ≡ true → ls ≡ []
  gap : starts_with BOOT.now first.text ≡ true → EndsAtGap ls
  ends : EndsBefore first (last_line last ls) rest

no_more : (first last y : Line) (g : List Line) (rest : List Line) → EndsBefore first last (y ∷ rest) → All IsPlainLine (y ∷ g) → HoldsTogether last (y ∷ g)
    → (starts_with BOOT.now first.text ≡ true → is_blank_line last.text ≡ true → y ∷ g ≡ []) → ⊥
no_more first last y g rest (inl m) plain together gap =
    let p : IsPlain y.text = All-head IsPlainLine y g plain in false≢true (sym p.no_module ∙ m)
no_more first last y g rest (inr (empty, inl boot)) plain together gap = let no_line : y ∷ g ≡ [] = gap boot empty in cc
no_more first last y g rest (inr (empty, inr flush)) plain together gap = false≢true (sym (together.0 empty) ∙ flush)

ends_at : (first last x : Line) (xs rest : List Line) → rest ≡ x ∷ xs → EndsBefore first last rest → EndsBefore first last (x ∷ xs)
ends_at first last x xs rest e h = let P : List Line → Type 0 = λ ls. EndsBefore first last ls in subst P e h

next_goes : (first last x : Line) (ls rest : List Line) → Goes first last (x ∷ ls) rest → Goes first x ls rest
next_goes first last x ls rest g =
    record {
      plain = All-tail IsPlainLine x ls g.plain;
      together = g.together.1;
      last_gap = λ boot. (g.gap boot).0;
      gap = λ boot. (g.gap boot).1;
      ends = g.ends;
    }

same_further : (f g : List Line) (first last : Line) (rest more : List Line) → f ++ rest ≡ g ++ more → Goes first last f rest → Goes first last g more
    → SameStretch f g rest more
same_further [] [] first last rest more e a b = record { same = refl; after = e }
same_further [] (y ∷ g) first last rest more e a b =
    absurd (no_more first last y g (g ++ more) (ends_at first last y (g ++ more) rest e a.ends) b.plain b.together b.last_gap)
same_further (x ∷ f) [] first last rest more e a b =
    absurd (no_more first last x f (f ++ rest) (ends_at first last x (f ++ rest) more (sym e) b.ends) a.plain a.together a.last_gap)
same_further (x ∷ f) (y ∷ g) first last rest more e a b =
    let P : Line → Type 0 = λ l. Goes first l g more in
    let s : SameStretch f g rest more =
    same_further f g first x rest more (same_tail e) (next_goes first last x f rest a) (subst P (sym (same_head e)) (next_goes first last y g more b)) in
    record { same = ap (λ (l : Line). l ∷ f) (same_head e) ∙ ap (λ (ls : List Line). y ∷ ls) s.same; after = s.after }

first_goes : (first : Line) (further rest : List Line) → IsParagraph first further → EndsBefore first (last_line first further) rest
    → Goes first first further rest
first_goes first further rest p e =
    record {
      plain = All-tail IsPlainLine first further p.plain;
      together = p.together;
      last_gap = λ boot empty. absurd (false≢true (sym p.some ∙ empty));
      gap = p.boot;
      ends = e;
    }

-- ---- which kind of line stands first

-- the kinds of lines with which a piece of the XS part can begin
data Kind : Type 0 where
  Gap : Kind
  Sets : Kind
  Word : Kind
  Block : List ℕ → Kind
  Text : Kind
  Other : Kind

abbrev kind_of_class : LineClass → Kind
kind_of_class class.Keyword = Word
kind_of_class (class.MapBegin end) = Block end
kind_of_class class.First = Text
kind_of_class class.FirstOfBoot = Text
kind_of_class _ = Other

abbrev kind_by : Bool → Bool → LineClass → Kind
kind_by true m c = Gap
kind_by false true c = Sets
kind_by false false c = kind_of_class c

abbrev kind : List ℕ → Kind
kind text = kind_by (is_blank_line text) (is_module_line text) (head_class text)

empty_trimmed : (text : List ℕ) → is_blank_line text ≡ true → after_blanks text ≡ []
empty_trimmed text e = ap after_blanks (sym (append-nil text)) ∙ after_seam byte_class.Blank text [] e refl

module_not_empty : (text : List ℕ) → is_module_line text ≡ true → is_blank_line text ≡ false
module_not_empty text m = by_empty (is_blank_line text) refl
  where
    by_empty : (b : Bool) → is_blank_line text ≡ b → b ≡ false
    by_empty true e =
        let none : is_module_line text ≡ false = ap (λ (rest : List ℕ). bytes_eq (front_of byte_class.Word rest) MODULE.now) (empty_trimmed text e) in
        absurd (false≢true (sym none ∙ m))
    by_empty false e = refl

abbrev first_kind : List Line → Option Kind
first_kind [] = None
first_kind (l ∷ ls) = Some (kind l.text)

line_kind : (l : Line) (c : LineClass) → IsHeadLine l.text c → kind l.text ≡ kind_of_class c
line_kind l c h = rw (h.line.empty_is, h.line.plain.no_module) (ap kind_of_class h.reads)

text_kind : (l : Line) → IsParagraphHead l.text → kind l.text ≡ Text
text_kind l h = rw (h.line.empty_is, h.line.plain.no_module) (by_reads h.reads)
  where
    by_reads : (head_class l.text ≡ class.First) ⊎ (head_class l.text ≡ class.FirstOfBoot) → kind_of_class (head_class l.text) ≡ Text
    by_reads (inl e) = ap kind_of_class e
    by_reads (inr e) = ap kind_of_class e

-- the kind of the first line, by the piece that stands first
abbrev piece_kind : {count : ℕ} {before : law.Before} {ls : List Line} {held : Contents} → XsPart count before ls held → Option Kind
piece_kind law.done = None
piece_kind (law.gap h d) = Some Gap
piece_kind (law.sets new m n d) = Some Sets
piece_kind (law.keyword h d) = Some Word
piece_kind (law.block end inner last h a p d) = Some (Block end)
piece_kind (law.paragraph further lines h p e d) = Some Text

piece_is : {count : ℕ} {before : law.Before} {ls : List Line} {held : Contents} (d : XsPart count before ls held) → piece_kind d ≡ first_kind ls
piece_is law.done = refl
piece_is (law.gap {line = l} h d) = ap Some (sym (rw h refl))
piece_is (law.sets new {line = l} m n d) = ap Some (sym (rw (module_not_empty l.text m, m) refl))
piece_is (law.keyword {line = l} h d) = ap Some (sym (line_kind l class.Keyword h))
piece_is (law.block end {first = l} inner last h a p d) = ap Some (sym (line_kind l (class.MapBegin end) h))
piece_is (law.paragraph {first = l} further lines h p e d) = ap Some (sym (text_kind l h))

same_kind : {count : ℕ} {before : law.Before} {ls ms : List Line} {held more : Contents} → ls ≡ ms → (d : XsPart count before ls held)
    (f : XsPart count before ms more)
    → piece_kind d ≡ piece_kind f
same_kind e d f = piece_is d ∙ ap first_kind e ∙ sym (piece_is f)

same_names : (a b : ModuleNames) (x y : Line) → x ≡ y → module_names x.text ≡ Some a → module_names y.text ≡ Some b → a ≡ b
same_names a b x y e m n = same_Some a b (sym m ∙ ap (λ (l : Line). module_names l.text) e ∙ n)

same_end : (a b : List ℕ) → (let k : Option Kind = Some (Block a) in k) ≡ Some (Block b) → a ≡ b
same_end a b e = cc

uniq : {count : ℕ} {before : law.Before} {ls : List Line} {held : Contents} → XsPart count before ls held → (ms : List Line) (more : Contents) → ls ≡ ms
    → XsPart count before ms more → held ≡ more
uniq law.done ms more e law.done = refl
uniq (law.gap h d) ms more e (law.gap {lines = ys} {held = q} k f) = uniq d ys q (same_tail e) f
uniq (law.sets a {line = x} {held = p} m n d) ms more e (law.sets b {line = y} {lines = ys} {held = q} k o f) =
    ap (λ (names : ModuleNames). with_module names p) (same_names a b x y (same_head e) n o)
    ∙ ap (with_module b) (uniq d ys q (same_tail e) f)
uniq {before = before} (law.keyword {line = x} {held = p} h d) ms more e (law.keyword {line = y} {lines = ys} {held = q} k f) =
    ap (λ (l : Line). with_head before l p) (same_head e) ∙ ap (with_head before y) (uniq d ys q (same_tail e) f)
uniq {count = count} {before = before} (law.block a {first = x} inner last {lines = xs} {held = p} h i t d) ms more e
    (law.block b {first = y} other end {lines = ys} {held = q} k j u f) =
    let same : a ≡ b = same_end a b (same_kind {before = before} e (law.block a inner last h i t d) (law.block b other end k j u f)) in
    let P : List ℕ → Type 0 = λ w. All (λ (l : Line). bytes_eq l.text w ≡ false) other in
    let Q : List ℕ → Type 0 = λ w. bytes_eq end.text w ≡ true in
    let s : SameStretch inner other xs ys =
    same_stretch (λ (l : Line). bytes_eq l.text a) inner other last end xs ys i (subst P (sym same) j) t (subst Q (sym same) u) (same_tail e) in
    ap (λ (l : Line). with_head before l (with_part (map_of count l.number inner) p)) (same_head e)
    ∙ ap (λ (ls : List Line). with_head before y (with_part (map_of count y.number ls) p)) s.same
    ∙ ap (λ (held : Contents). with_head before y (with_part (map_of count y.number other) held)) (uniq d ys q s.after f)
uniq {count = count} {before = before} (law.paragraph {first = x} further xs {held = p} h i t d) ms more e
    (law.paragraph {first = y} other ys {held = q} k j u f) =
    let P : Line → Type 0 = λ l. Goes l l other ys in
    let s : SameStretch further other xs ys =
    same_further further other x x xs ys (same_tail e) (first_goes x further xs i t) (subst P (sym (same_head e)) (first_goes y other ys j u)) in
    ap (λ (l : Line). with_head before l (with_part (paragraph_of count l further) p)) (same_head e)
    ∙ ap (λ (ls : List Line). with_head before y (with_part (paragraph_of count y ls) p)) s.same
    ∙ ap (λ (held : Contents). with_head before y (with_part (paragraph_of count y other) held)) (uniq d ys q s.after f)
uniq d ms more e f = let k : piece_kind d ≡ piece_kind f = same_kind e d f in absurd cc

same_rest : (ls : List Line) (s t : Sections) (a : IsSplit ls s) (b : IsSplit ls t) → a.rest ≡ b.rest
same_rest ls s t a b = same_pod a.without_pod ls b.rest refl b.without_pod

same_held : (ls : List Line) (s t : Sections) (a : IsSplit ls s) (b : IsSplit ls t)
    → (let x : Contents = record { modules = t.modules; heads = b.heads; parts = t.parts } in x)
    ≡ record { modules = s.modules; heads = a.heads; parts = s.parts }
same_held ls s t a b =
    uniq b.xs_part (without_comments (from_module a.rest)) _
    (ap (λ (rest : List Line). without_comments (from_module rest)) (same_rest ls t s b a)) a.xs_part

pub only_split : (ls : List Line) (s : Sections) → IsSplit ls s → IsOnlySplit ls s
only_split ls s a =
    record {
      split = a;
      same_c_part = λ t b. b.c_part ∙ ap before_module (same_rest ls t s b a) ∙ sym a.c_part;
      same_modules = λ t b. ap (λ (c : Contents). c.modules) (same_held ls s t a b);
      same_parts = λ t b. ap (λ (c : Contents). c.parts) (same_held ls s t a b);
    }
