-- What the lines of a typemap are, by how they are spelt.
use Rattle.std.proofs.Common.{◌≡◌, ℕ, ◌+◌, ◌-◌, ◌&&◌, not, Bool, true, false, cond, if◌then◌else◌, fold, List, [], ◌∷◌, ◌++◌, length, take, drop, Option, None, Some, refl, sym, ap, subst, ◌∙◌, append_assoc, arith, length-append}
use Rattle.std.proofs.Math.Seq.{take-append_seam}
use Rattle.std.proofs.lemmas.Bool.{and_from, and_parts}
use Rattle.std.proofs.lemmas.List.{length-reverse, reverse-append, reverse-reverse, take-append-drop}
use Rattle.std.proofs.lemmas.Slice.Eq.{bytes_eq-Decides}
use Rattle.std.specs.List.{list_all, prefix_len, suffix_len}
use Rattle.std.specs.Prelude.{reverse}
use Rattle.std.specs.Str.{bytes_eq}
use Rattle.xs_base.proofs.AllPass.{all-append, all-weaker}
use Rattle.xs_base.proofs.FrontRuns.{after_seam, after_stops, front_after, front_belongs, front_seam}
use Rattle.xs_base.proofs.WordBytes.{word_not_blank}
use Rattle.xs_base.specs.ByteRuns.{after_run, belongs, front_of}
use Rattle.xs_base.specs.Readers.{head_is}
use Rattle.xs_base.specs.Scanning.{begins_word, is_blank, is_blank_line, is_identifier, is_word_byte}
use Rattle.xs_base.specs.declared.byte_runs.ByteClass.{ByteClass}
use Rattle.xs_base.specs.declared.byte_runs.ByteClass.TheVariants.{Blank, NoBlank}
use Rattle.xs_typemap.specs.TidiedTypes.{is_type, tidied, tidy_step, untidied}
use Rattle.xs_typemap.specs.TypemapLaws.{IsAlone, IsEntry, LinesLaw, word_of}
use Rattle.xs_typemap.specs.TypemapLines.{before_last_word, entry_from, entry_of, heading_named, heading_of, last_word, without_end_blanks}
use Rattle.xs_typemap.specs.declared.lines.Section.{Section}
use Rattle.xs_typemap.specs.declared.lines.Section.TheVariants.{Types, Input, Output}
use Rattle.xs_typemap.specs.declared.lines.TypeEntry.{TypeEntry}
use Rattle.xs_typemap.specs.declared.tidying.Tidying.{Tidying}

-- ---- a run at the end is one in front of the text turned round

front_length : (class : ByteClass) (text : List ℕ) → prefix_len (belongs class) text ≡ length (front_of class text)
front_length class [] = refl
front_length class (b ∷ bs) = by (belongs class b) (front_length class bs)
  where
    by : (t : Bool) → prefix_len (belongs class) bs ≡ length (front_of class bs)
        → cond t (1 + prefix_len (belongs class) bs) 0 ≡ length (if t then b ∷ front_of class bs else [])
    by true ih = omega arith
    by false ih = refl

turned_parts : (class : ByteClass) (text : List ℕ) → reverse text ≡ reverse (after_run class text) ++ reverse (front_of class text)
turned_parts class text = ap reverse (sym (front_after class text)) ∙ reverse-append (front_of class text) (after_run class text)

left_over : (class : ByteClass) (text : List ℕ) → length text - length (front_of class text) ≡ length (reverse (after_run class text))
left_over class text =
    let e = ap (λ (l : List ℕ). length l) (front_after class text) in
    let f = length-append (front_of class text) (after_run class text) in
    let g = length-reverse (after_run class text) in omega arith

cut_turned : (class : ByteClass) (text : List ℕ)
    → take (length text - length (front_of class text)) (reverse text) ≡ reverse (after_run class text)
cut_turned class text =
    ap (λ (n : ℕ). take n (reverse text)) (left_over class text)
    ∙ ap (λ (l : List ℕ). take (length (reverse (after_run class text))) l) (turned_parts class text)
    ∙ take-append_seam (reverse (after_run class text)) (reverse (front_of class text))

-- what stands before a run at the end
before_end : (class : ByteClass) (text : List ℕ)
    → take (length text - suffix_len (belongs class) text) text ≡ reverse (after_run class (reverse text))
before_end class text =
    ap (λ (k : ℕ). take (length text - k) text) (front_length class (reverse text))
    ∙ ap (λ (n : ℕ). take (n - length (front_of class (reverse text))) text) (sym (length-reverse text))
    ∙ ap (λ (l : List ℕ). take (length (reverse text) - length (front_of class (reverse text))) l) (sym (reverse-reverse text))
    ∙ cut_turned class (reverse text)

-- the run at the end
end_run : (class : ByteClass) (text : List ℕ) → drop (length text - suffix_len (belongs class) text) text ≡ reverse (front_of class (reverse text))
end_run class text =
    cancel (reverse (after_run class (reverse text))) (drop (length text - suffix_len (belongs class) text) text) (reverse (front_of class (reverse text)))
    (ap (λ (l : List ℕ). l ++ drop (length text - suffix_len (belongs class) text) text) (sym (before_end class text))
    ∙ take-append-drop (length text - suffix_len (belongs class) text) text
    ∙ sym (reverse-reverse text)
    ∙ turned_parts class (reverse text))
  where
    cancel : (xs ys zs : List ℕ) → xs ++ ys ≡ xs ++ zs → ys ≡ zs
    cancel [] ys zs e = e
    cancel (x ∷ xs) ys zs e = let f : xs ++ ys ≡ xs ++ zs = cc in cancel xs ys zs f

-- ---- turned texts

turned_cons : (b : ℕ) (bs : List ℕ) → reverse (b ∷ bs) ≡ reverse bs ++ b ∷ []
turned_cons b bs = reverse-append (b ∷ []) bs

all_turned : (p : ℕ → Bool) (text : List ℕ) → list_all p text ≡ true → list_all p (reverse text) ≡ true
all_turned p [] h = refl
all_turned p (b ∷ bs) h =
    let g = and_parts (p b) (list_all p bs) h in
    ap (list_all p) (turned_cons b bs) ∙ all-append p (reverse bs) (b ∷ []) (all_turned p bs g.1) (and_from (p b) true g.0 refl)

word_bytes : (word : List ℕ) → is_identifier word ≡ true → list_all is_word_byte word ≡ true
word_bytes [] h = absurd cc
word_bytes (b ∷ bs) h =
    let g = and_parts (begins_word b) (list_all is_word_byte bs) h in
    and_from (is_word_byte b) (list_all is_word_byte bs) (rw g.0 refl) g.1

-- the last byte of a word is no blank
words_end : (turned rest : List ℕ) → list_all is_word_byte turned ≡ true → (turned ≡ [] → ⊥) → head_is (belongs Blank) (turned ++ rest) ≡ false
words_end [] rest all some = absurd (some refl)
words_end (b ∷ bs) rest all some = word_not_blank b (and_parts (is_word_byte b) (list_all is_word_byte bs) all).0

some_turned : (word : List ℕ) → is_identifier word ≡ true → reverse word ≡ [] → ⊥
some_turned [] h e = absurd cc
some_turned (b ∷ bs) h e =
    let l = length-reverse (b ∷ bs) in
    let n : length (reverse (b ∷ bs)) ≡ 0 = ap (λ (t : List ℕ). length t) e in omega arith

word_ends : (front word : List ℕ) → is_identifier word ≡ true → head_is (belongs Blank) (reverse (front ++ word)) ≡ false
word_ends front word h =
    ap (λ (l : List ℕ). head_is (belongs Blank) l) (reverse-append front word)
    ∙ words_end (reverse word) (reverse front) (all_turned is_word_byte word (word_bytes word h)) (some_turned word h)

-- ---- blanks at the end

-- what stands before blanks at the end, where it ends in no blank
blanks_end : (line after : List ℕ) → is_blank_line after ≡ true → head_is (belongs Blank) (reverse line) ≡ false → without_end_blanks (line ++ after) ≡ line
blanks_end line after blank stop =
    before_end Blank (line ++ after)
    ∙ ap (λ (l : List ℕ). reverse (after_run Blank l)) (reverse-append line after)
    ∙ ap reverse (after_seam Blank (reverse after) (reverse line) (all_turned is_blank after blank) stop)
    ∙ reverse-reverse line

end_blanks : List ℕ → List ℕ
end_blanks text = drop (length text - suffix_len is_blank text) text

with_end_blanks : (text : List ℕ) → text ≡ without_end_blanks text ++ end_blanks text
unfolding end_blanks
with_end_blanks text = sym (take-append-drop (length text - suffix_len is_blank text) text)

are_blanks : (text : List ℕ) → is_blank_line (end_blanks text) ≡ true
unfolding end_blanks
are_blanks text = ap (list_all is_blank) (end_run Blank text) ∙ all_turned is_blank (front_of Blank (reverse text)) (front_belongs Blank (reverse text))

alone : (text : List ℕ) → IsAlone text (without_end_blanks text)
alone text = record { after = end_blanks text; stands = with_end_blanks text; blanks = are_blanks text }

-- ---- headings and names

same_text : (a b : List ℕ) → bytes_eq a b ≡ true → a ≡ b
same_text a b h = (bytes_eq-Decides a b).0 h

named : (word : List ℕ) (section : Section) → heading_named word ≡ Some section → word ≡ word_of section
named word section h = by (bytes_eq word (word_of Types)) (bytes_eq word (word_of Input)) (bytes_eq word (word_of Output)) refl refl refl h
  where
    found : (s : Section) → Some s ≡ Some section → word ≡ word_of s → word ≡ word_of section
    found s e is = let same : s ≡ section = cc in is ∙ ap word_of same

    none : (o : Option Section) → o ≡ None → o ≡ Some section → word ≡ word_of section
    none o e f = absurd cc

    by : (p q r : Bool) → bytes_eq word (word_of Types) ≡ p → bytes_eq word (word_of Input) ≡ q → bytes_eq word (word_of Output) ≡ r
        → (if p then Some Types else (if q then Some Input else (if r then Some Output else None))) ≡ Some section → word ≡ word_of section
    by true q r e f g k = found Types k (same_text word (word_of Types) e)
    by false true r e f g k = found Input k (same_text word (word_of Input) f)
    by false false true e f g k = found Output k (same_text word (word_of Output) g)
    by false false false e f g k = none None refl k

heading_ends : (section : Section) → head_is (belongs Blank) (reverse (word_of section)) ≡ false
heading_ends Types = refl
heading_ends Input = refl
heading_ends Output = refl

heading_is : (section : Section) → heading_named (word_of section) ≡ Some section
heading_is Types = refl
heading_is Input = refl
heading_is Output = refl

is_heading : (text : List ℕ) (section : Section) → IsAlone text (word_of section) → heading_of text ≡ Some section
is_heading text section a =
    ap (λ (t : List ℕ). heading_named (without_end_blanks t)) a.stands
    ∙ ap heading_named (blanks_end (word_of section) a.after a.blanks (heading_ends section))
    ∙ heading_is section

is_name : (text name : List ℕ) → is_identifier name ≡ true → IsAlone text name → without_end_blanks text ≡ name
is_name text name h a = ap without_end_blanks a.stands ∙ blanks_end name a.after a.blanks (word_ends [] name h)

-- ---- entries

-- a blank at the end of a type counts for nothing
blank_after : (s : Tidying) (before : List ℕ) (b : ℕ) → is_blank b ≡ true → (fold tidy_step s (before ++ b ∷ [])).text ≡ (fold tidy_step s before).text
blank_after s [] b h = rw h refl
blank_after s (c ∷ cs) b h = blank_after (tidy_step s c) cs b h

is_entry : (text : List ℕ) (e : TypeEntry) → IsEntry text e → entry_of text ≡ Some e
unfolding entry_of
is_entry text e x =
    ap (λ (l : List ℕ). entry_from (tidied (before_last_word l)) (last_word l)) line_is
    ∙ ap (λ (l : List ℕ). entry_from (tidied l) (last_word line)) before_is
    ∙ ap (λ (l : List ℕ). entry_from (tidied (x.before ++ x.blank ∷ [])) l) kind_is
    ∙ ap (λ (t : List ℕ). entry_from t e.kind) (blank_after untidied x.before x.blank x.apart ∙ sym x.ctype)
    ∙ rw (x.is_type, x.is_kind) refl
  where
    line : List ℕ
    line = (x.before ++ x.blank ∷ []) ++ e.kind

    whole : text ≡ line ++ x.after
    whole = x.stands ∙ simp append_assoc

    line_is : without_end_blanks text ≡ line
    line_is = ap without_end_blanks whole ∙ blanks_end line x.after x.blanks (word_ends (x.before ++ x.blank ∷ []) e.kind x.is_kind)

    turned : reverse line ≡ reverse e.kind ++ x.blank ∷ reverse x.before
    turned = reverse-append (x.before ++ x.blank ∷ []) e.kind ∙ ap (λ (l : List ℕ). reverse e.kind ++ l) (reverse-append x.before (x.blank ∷ []))

    no_blanks : list_all (belongs NoBlank) (reverse e.kind) ≡ true
    no_blanks =
        all-weaker is_word_byte (belongs NoBlank) (λ b h. ap not (word_not_blank b h)) (reverse e.kind)
        (all_turned is_word_byte e.kind (word_bytes e.kind x.is_kind))

    stops : head_is (belongs NoBlank) (x.blank ∷ reverse x.before) ≡ false
    stops = ap not x.apart

    before_is : before_last_word line ≡ x.before ++ x.blank ∷ []
    before_is =
        before_end NoBlank line
        ∙ ap (λ (l : List ℕ). reverse (after_run NoBlank l)) turned
        ∙ ap reverse (after_seam NoBlank (reverse e.kind) (x.blank ∷ reverse x.before) no_blanks stops)
        ∙ turned_cons x.blank (reverse x.before)
        ∙ ap (λ (l : List ℕ). l ++ x.blank ∷ []) (reverse-reverse x.before)

    kind_is : last_word line ≡ e.kind
    kind_is =
        end_run NoBlank line
        ∙ ap (λ (l : List ℕ). reverse (front_of NoBlank l)) turned
        ∙ ap reverse (front_seam NoBlank (reverse e.kind) (x.blank ∷ reverse x.before) no_blanks stops)
        ∙ reverse-reverse e.kind

-- A line whose last word has a type before it has a blank between them.
pub record Parted (line : List ℕ) : Type 0 where
  pub before : List ℕ
  pub blank : ℕ
  pub stands : before_last_word line ≡ before ++ blank ∷ []
  pub apart : is_blank blank ≡ true

parted : (line : List ℕ) → is_type (tidied (before_last_word line)) ≡ true → Parted line
parted line h = by (after_run NoBlank (reverse line)) (before_end NoBlank line) (after_stops NoBlank (reverse line))
  where
    untrue : (t : Bool) → not t ≡ false → t ≡ true
    untrue true e = refl
    untrue false e = absurd cc

    by : (after : List ℕ) → before_last_word line ≡ reverse after → head_is (belongs NoBlank) after ≡ false → Parted line
    by [] e stop =
        let none : is_type (tidied (before_last_word line)) ≡ false = ap (λ (l : List ℕ). is_type (tidied l)) e in absurd cc
    by (b ∷ bs) e stop =
        record { before = reverse bs; blank = b; stands = e ∙ turned_cons b bs; apart = untrue (is_blank b) stop }

-- the parts of an entry that was found
record Found (ctype kind : List ℕ) (e : TypeEntry) : Type 0 where
  is_type : is_type ctype ≡ true
  is_kind : is_identifier kind ≡ true
  ctype_is : ctype ≡ e.ctype
  kind_is : kind ≡ e.kind

found : (ctype kind : List ℕ) (e : TypeEntry) → entry_from ctype kind ≡ Some e → Found ctype kind e
found ctype kind e h = by (is_type ctype) (is_identifier kind) refl refl h
  where
    by : (p q : Bool) → is_type ctype ≡ p → is_identifier kind ≡ q
        → (if p && q then Some (record { ctype = ctype; kind = kind }) else None) ≡ Some e → Found ctype kind e
    by true true f g k =
        let same : record { ctype = ctype; kind = kind } ≡ e = cc in
        record { is_type = f; is_kind = g; ctype_is = ap (λ (t : TypeEntry). t.ctype) same; kind_is = ap (λ (t : TypeEntry). t.kind) same }
    by true false f g k = absurd cc
    by false q f g k = absurd cc

entry : (text : List ℕ) (e : TypeEntry) → entry_of text ≡ Some e → IsEntry text e
unfolding entry_of
entry text e h =
    record {
      before = parts.before;
      blank = parts.blank;
      after = end_blanks text;
      stands = whole;
      apart = parts.apart;
      blanks = are_blanks text;
      ctype = sym is.ctype_is ∙ ap tidied parts.stands ∙ blank_after untidied parts.before parts.blank parts.apart;
      is_type = ap is_type (sym is.ctype_is) ∙ is.is_type;
      is_kind = ap is_identifier (sym is.kind_is) ∙ is.is_kind;
    }
  where
    line : List ℕ
    line = without_end_blanks text

    is : Found (tidied (before_last_word (without_end_blanks text))) (last_word (without_end_blanks text)) e
    is = found (tidied (before_last_word (without_end_blanks text))) (last_word (without_end_blanks text)) e h

    parts : Parted (without_end_blanks text)
    parts = parted (without_end_blanks text) is.is_type

    line_is : before_last_word (without_end_blanks text) ++ last_word (without_end_blanks text) ≡ without_end_blanks text
    line_is = take-append-drop (length (without_end_blanks text) - suffix_len (belongs NoBlank) (without_end_blanks text)) (without_end_blanks text)

    whole : text ≡ parts.before ++ parts.blank ∷ (e.kind ++ end_blanks text)
    whole =
        with_end_blanks text
        ∙ ap (λ (l : List ℕ). l ++ end_blanks text) (sym line_is)
        ∙ ap (λ (l : List ℕ). (l ++ last_word (without_end_blanks text)) ++ end_blanks text) parts.stands
        ∙ ap (λ (k : List ℕ). ((parts.before ++ parts.blank ∷ []) ++ k) ++ end_blanks text) is.kind_is
        ∙ simp append_assoc

pub lines_law : LinesLaw
lines_law = record {
  heading = λ text section h. subst (IsAlone text) (named (without_end_blanks text) section h) (alone text);
  is_heading = is_heading;
  name = λ text h. alone text;
  is_name = is_name;
  entry = entry;
  is_entry = is_entry;
}
