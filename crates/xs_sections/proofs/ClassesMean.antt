-- What each line is by its own text, and which classes it can have in a region.
use Rattle.std.proofs.Common.{◌≡◌, ℕ, Bool, true, false, not, ◌&&◌, ◌||◌, ◌==◌, if◌then◌else◌, List, [], ◌∷◌, Option, None, Some, refl, ap, sym, ◌∙◌}
use Rattle.std.specs.Prelude.{codes, map}
use Rattle.std.specs.Str.{bytes_eq}
use Rattle.std.proofs.lemmas.Bool.{and_parts, cond_both, false≢true}
use Rattle.std.proofs.lemmas.Option.{cond_some, option_and_then_some}
use Rattle.xs_base.proofs.Choices.{some_if}
use Rattle.xs_base.specs.Scanning.{strip_prefix, starts_with, is_blank_line, is_identifier}
use Rattle.xs_base.specs.ByteRuns.{after_run, after_blanks, front_of, is_remark}
use Rattle.xs_base.specs.declared.byte_runs.ByteClass.TheVariants.{Capital, Word}
use Rattle.xs_base.specs.Names.{is_among}
use Rattle.xs_sections.specs.declared.words.TheConstants.{BOOT, FALLBACK, REQUIRE, SWITCHES, TYPEMAP}
use Rattle.xs_sections.specs.LineForms.{begins_pod, ends_pod, is_directive, is_module_line}
use Rattle.xs_sections.specs.ModuleLine.{module_class, class_by_names, module_names}
use Rattle.xs_sections.specs.Keywords as keyword
use Rattle.xs_sections.specs.Classes.{is_in_text, is_head, opens_paragraph, comment_class, paragraph_class, xs_class, class_at, class_of}
use Rattle.xs_sections.specs.Laws.{IsPlain, IsLine, IsOf, is_no_pod}
use Rattle.xs_sections.specs.Steps.{is_c_part}
use Rattle.xs_sections.proofs.ClassesFit.{by_if}
use Rattle.xs_sections.specs.declared.class.LineClass.{LineClass}
use Rattle.xs_sections.specs.declared.class.LineClass.TheVariants as class
use Rattle.xs_sections.specs.declared.sections.ModuleNames.{ModuleNames}
use Rattle.xs_sections.specs.declared.class.Region.{Region}
use Rattle.xs_sections.specs.declared.class.Region.TheVariants as region

-- what a line that goes on with a paragraph says of its region
pub record GoesOn (at : Region) (text : List ℕ) : Type 0 where
  pub in_text : is_in_text at ≡ true
  pub no_end : opens_paragraph at text ≡ false

-- a line of a typemap block, and whether it is the end word
abbrev pub IsEnd : Region → List ℕ → Bool → Type 0
IsEnd (region.Map end) text b = bytes_eq text end ≡ b
IsEnd _ text b = ⊥

-- A line of which a paragraph can begin stands where the one before it ends.
abbrev pub EndsHere : Region → List ℕ → Type 0
EndsHere at text = is_in_text at ≡ true → opens_paragraph at text ≡ true

-- what a class says of its region
abbrev pub StandsAt : Region → List ℕ → LineClass → Type 0
StandsAt at text class.C = is_c_part at ≡ true
StandsAt at text class.Outside = is_in_text at ≡ false
StandsAt at text class.MapLine = IsEnd at text false
StandsAt at text class.MapEnd = IsEnd at text true
StandsAt at text class.Keyword = EndsHere at text
StandsAt at text class.BadValue = EndsHere at text
StandsAt at text (class.LeftOut word) = EndsHere at text
StandsAt at text (class.MapBegin end) = EndsHere at text
StandsAt at text class.First = EndsHere at text
StandsAt at text class.FirstOfBoot = EndsHere at text
StandsAt at text class.Further = GoesOn at text
StandsAt at text class.Blank = is_in_text at ≡ true
StandsAt at text _ = Unit {0}

pub record Means (at : Region) (text : List ℕ) (class : LineClass) : Type 0 where
  pub is_of : IsOf text class
  pub stands : StandsAt at text class

-- the same of a line that is no POD
pub record MeansOutside (at : Region) (text : List ℕ) (class : LineClass) : Type 0 where
  pub means : Means at text class
  pub no_pod : is_no_pod class ≡ true

-- ---- the head of a paragraph

-- one of the classes of which a paragraph can begin
record Heads (line : List ℕ) (c : LineClass) : Type 0 where
  is : is_head c ≡ true
  no_boot : c ≡ class.First → starts_with BOOT.now line ≡ false
  boot : c ≡ class.FirstOfBoot → starts_with BOOT.now line ≡ true
  end : (word : List ℕ) → c ≡ class.MapBegin word → is_identifier word ≡ true

-- The end word of a typemap block is an identifier.
end_word_is : (word closing end : List ℕ) → keyword.end_word_of word closing ≡ Some end → is_identifier end ≡ true
end_word_is word closing end e =
    let p = cond_some (is_identifier word && keyword.is_closing closing) word end e in
    ap is_identifier (sym p.1) ∙ (and_parts (is_identifier word) (keyword.is_closing closing) p.0).0

quoted_is : (quote : ℕ) (word more end : List ℕ) → keyword.quoted_word quote word more ≡ Some end → is_identifier end ≡ true
quoted_is quote word [] end e = absurd cc
quoted_is quote word (b ∷ closing) end e = end_word_is word closing end (some_if (b == quote) (keyword.end_word_of word closing) end e).1

end_is : (text end : List ℕ) → keyword.end_word text ≡ Some end → is_identifier end ≡ true
end_is [] end e = absurd cc
end_is (b ∷ bs) end e = by_quotes (b == 34 || b == 39) e
  where
    by_quotes : (q : Bool)
        → (if q then keyword.quoted_word b (front_of Word bs) (after_run Word bs) else keyword.end_word_of (front_of Word (b ∷ bs)) (after_run Word (b ∷ bs)))
        ≡ Some end
        → is_identifier end ≡ true
    by_quotes true h = quoted_is b (front_of Word bs) (after_run Word bs) end h
    by_quotes false h = end_word_is (front_of Word (b ∷ bs)) (after_run Word (b ∷ bs)) end h

block_end_word : (value end : List ℕ) → keyword.block_end value ≡ Some end → is_identifier end ≡ true
block_end_word value end e = option_and_then_some keyword.end_word (strip_prefix (codes "<<") value) end e (λ word found. end_is word end)

module _ (line : List ℕ) where
  text_heads : Heads line (keyword.text_class line)
  text_heads =
      cond_both (starts_with BOOT.now line) _ _ (Heads line)
      (λ b. record { is = refl; no_boot = λ h. absurd cc; boot = λ h. b; end = λ word h. absurd cc })
      (λ b. record { is = refl; no_boot = λ h. b; boot = λ h. absurd cc; end = λ word h. absurd cc })

  keyword_heads : Heads line class.Keyword
  keyword_heads = record { is = refl; no_boot = λ h. absurd cc; boot = λ h. absurd cc; end = λ word h. absurd cc }

  bad_heads : Heads line class.BadValue
  bad_heads = record { is = refl; no_boot = λ h. absurd cc; boot = λ h. absurd cc; end = λ word h. absurd cc }

  value_heads : (b : Bool) → Heads line (keyword.value_class b)
  value_heads b = by_if (Heads line) b keyword_heads bad_heads

  map_heads : (word : Option (List ℕ)) → ((end : List ℕ) → word ≡ Some end → is_identifier end ≡ true) → Heads line (keyword.map_class word)
  map_heads None h = bad_heads
  map_heads (Some word) h =
      record { is = refl; no_boot = λ e. absurd cc; boot = λ e. absurd cc; end = λ other e. same word other e (h word refl) }
    where
      same : (word other : List ℕ) → class.MapBegin word ≡ class.MapBegin other → is_identifier word ≡ true → is_identifier other ≡ true
      same word other e h = let f : word ≡ other = cc in rw (← f) h

  left_out_heads : (word : List ℕ) → Heads line (class.LeftOut word)
  left_out_heads word = record { is = refl; no_boot = λ h. absurd cc; boot = λ h. absurd cc; end = λ word h. absurd cc }

  word_heads : (word value : List ℕ) → Heads line (keyword.word_class word value line)
  unfolding keyword.word_class keyword.left_out_class
  word_heads word value =
      by_if (Heads line) (is_among (map (λ keyword. keyword.now) SWITCHES) word)
      (value_heads (keyword.is_switch (keyword.only_word value)))
      (by_if (Heads line) (bytes_eq word REQUIRE.now) (value_heads (keyword.is_some_word (keyword.only_word value)))
      (by_if (Heads line) (bytes_eq word FALLBACK.now) (value_heads (keyword.is_fallback (keyword.only_word value)))
      (by_if (Heads line) (bytes_eq word TYPEMAP.now) (map_heads (keyword.block_end (keyword.only_word value)) (block_end_word (keyword.only_word value)))
      (by_if (Heads line) (is_among keyword.left_out_words word && not (starts_with (codes ":") value)) (left_out_heads word) text_heads))))

  after_word_heads : (word more : List ℕ) → Heads line (keyword.class_after_word word more line)
  after_word_heads word [] = text_heads
  after_word_heads word (b ∷ value) = by_if (Heads line) (b == 58) (word_heads word value) text_heads

  head_heads : Heads line (keyword.head_class line)
  head_heads = after_word_heads (front_of Capital line) (after_blanks (after_run Capital line))

  -- a line that is read as the first of a paragraph is no BOOT line
  pub first_no_boot : keyword.head_class line ≡ class.First → starts_with BOOT.now line ≡ false
  first_no_boot e = let h : Heads line (keyword.head_class line) = head_heads in h.no_boot e

  pub end_identifier : (end : List ℕ) → keyword.head_class line ≡ class.MapBegin end → is_identifier end ≡ true
  end_identifier end e = let h : Heads line (keyword.head_class line) = head_heads in h.end end e

  pub boot_begins : keyword.head_class line ≡ class.FirstOfBoot → starts_with BOOT.now line ≡ true
  boot_begins e = let h : Heads line (keyword.head_class line) = head_heads in h.boot e

-- ---- by the class

module _ (at : Region) (text : List ℕ) where
  abbrev M : LineClass → Type 0
  M = MeansOutside at text

  by_head : (c : LineClass) → is_head c ≡ true → keyword.head_class text ≡ c → IsLine text false → EndsHere at text → M c
  by_head class.Keyword h e l s = record { means = record { is_of = record { line = l; reads = e }; stands = s }; no_pod = refl }
  by_head class.BadValue h e l s = record { means = record { is_of = record { line = l; reads = e }; stands = s }; no_pod = refl }
  by_head (class.LeftOut word) h e l s = record { means = record { is_of = record { line = l; reads = e }; stands = s }; no_pod = refl }
  by_head (class.MapBegin end) h e l s = record { means = record { is_of = record { line = l; reads = e }; stands = s }; no_pod = refl }
  by_head class.First h e l s = record { means = record { is_of = record { line = l; reads = e }; stands = s }; no_pod = refl }
  by_head class.FirstOfBoot h e l s = record { means = record { is_of = record { line = l; reads = e }; stands = s }; no_pod = refl }
  by_head _ h e l s = absurd (false≢true h)

  head_means : IsLine text false → EndsHere at text → M (keyword.head_class text)
  head_means l s = let h : Heads text (keyword.head_class text) = head_heads text in by_head (keyword.head_class text) h.is refl l s

  module _ (no_pod : begins_pod text ≡ false) where
    comment_means : is_remark text ≡ true → M (comment_class text)
    comment_means h =
        cond_both (is_directive text) _ _ M
        (λ e. record { means = record { is_of = record { no_pod = no_pod; comment = h; directive_is = e }; stands = tt }; no_pod = refl })
        (λ e. record { means = record { is_of = record { no_pod = no_pod; comment = h; directive_is = e }; stands = tt }; no_pod = refl })

    module_means : is_module_line text ≡ true → M (module_class text)
    module_means h = by_names (module_names text) refl
      where
        by_names : (names : Option ModuleNames) → module_names text ≡ names → M (class_by_names names)
        by_names None e = record { means = record { is_of = record { no_pod = no_pod; first_word = h; names_are = e }; stands = tt }; no_pod = refl }
        by_names (Some names) e = record { means = record { is_of = record { no_pod = no_pod; first_word = h; names_are = e }; stands = tt }; no_pod = refl }

    paragraph_means : IsPlain text → M (paragraph_class at text)
    paragraph_means plain = by_text (is_in_text at) refl
      where
        line : (b : Bool) → is_blank_line text ≡ b → IsLine text b
        line b e = record { plain = plain; empty_is = e }

        by_end : (o : Bool) → opens_paragraph at text ≡ o → is_in_text at ≡ true → is_blank_line text ≡ false
            → M (if not o then class.Further else keyword.head_class text)
        by_end true e t l = head_means (line false l) (λ h. e)
        by_end false e t l = record { means = record { is_of = line false l; stands = record { in_text = t; no_end = e } }; no_pod = refl }

        by_text : (b : Bool) → is_in_text at ≡ b
            → M (if is_blank_line text then (if b then class.Blank else class.Outside)
            else (if b && not (opens_paragraph at text) then class.Further else keyword.head_class text))
        by_text true t =
            cond_both (is_blank_line text) _ _ M (λ e. record { means = record { is_of = line true e; stands = t }; no_pod = refl })
            (λ e. by_end (opens_paragraph at text) refl t e)
        by_text false t =
            cond_both (is_blank_line text) _ _ M (λ e. record { means = record { is_of = line true e; stands = t }; no_pod = refl })
            (λ e. head_means (line false e) (λ h. absurd (false≢true (sym t ∙ h))))

    xs_means : M (xs_class at text)
    xs_means =
        cond_both (is_remark text) _ _ M comment_means
        (λ c. cond_both (is_module_line text) _ _ M module_means (λ m. paragraph_means (record { no_pod = no_pod; no_comment = c; no_module = m })))

pub class_at_means : (at : Region) (text : List ℕ) → begins_pod text ≡ false → MeansOutside at text (class_at at text)
unfolding class_at
class_at_means region.CPart text p =
    cond_both (is_module_line text) _ _ (MeansOutside region.CPart text) (module_means region.CPart text p)
    (λ m. record { means = record { is_of = (p, m); stands = refl }; no_pod = refl })
class_at_means (region.Map end) text p =
    cond_both (bytes_eq text end) _ _ (MeansOutside (region.Map end) text) (λ e. record { means = record { is_of = p; stands = e }; no_pod = refl })
    (λ e. cond_both (is_remark text) _ _ (MeansOutside (region.Map end) text) (comment_means (region.Map end) text p)
    (λ c. record { means = record { is_of = record { no_pod = p; no_comment = c }; stands = e }; no_pod = refl }))
class_at_means region.Between text p = xs_means region.Between text p
class_at_means region.Head text p = xs_means region.Head text p
class_at_means region.HeadGap text p = xs_means region.HeadGap text p
class_at_means region.Body text p = xs_means region.Body text p
class_at_means region.BodyGap text p = xs_means region.BodyGap text p
class_at_means region.Boot text p = xs_means region.Boot text p

pub class_of_means : (pod : Bool) (at : Region) (text : List ℕ) → Means at text (class_of pod at text)
class_of_means true at text = cond_both (ends_pod text) _ _ (Means at text) (λ e. record { is_of = e; stands = tt }) (λ e. record { is_of = e; stands = tt })
class_of_means false at text =
    cond_both (begins_pod text) _ _ (Means at text) (λ e. record { is_of = e; stands = tt })
    (λ e. let m : MeansOutside at text (class_at at text) = class_at_means at text e in m.means)
