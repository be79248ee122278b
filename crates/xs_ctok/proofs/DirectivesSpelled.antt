-- Directives are spelled as the rules say, and what is spelled so is read.
use Rattle.std.proofs.Common.{◌≡◌, ℕ, ◌+◌, ◌-◌, ◌<◌, ◌==◌, ◌&&◌, Bool, true, false, not, List, [], ◌∷◌, ◌++◌, length, drop, refl, ap, sym, ◌∙◌, subst, arith, append_assoc, append-nil}
use Rattle.std.proofs.lemmas.Bool.{and_from, and_parts, false_from_ne_true, or_left}
use Rattle.std.proofs.lemmas.Bool.Decides.{nat_tests}
use Rattle.std.proofs.lemmas.List.{length-append}
use Rattle.std.proofs.lemmas.Slice.Eq.{bytes_eq-Decides}
use Rattle.std.proofs.Math.Seq.{drop-append_seam}
use Rattle.std.specs.List.{list_all}
use Rattle.std.specs.Prelude.{codes, if◌then◌else◌, nat_lt}
use Rattle.std.specs.Str.{bytes_eq}
use Rattle.xs_base.specs.ByteRuns as runs
use Rattle.xs_base.specs.ByteRuns.{after_blanks, after_run}
use Rattle.xs_base.specs.declared.byte_runs.ByteClass.TheVariants as class
use Rattle.xs_base.specs.declared.fault_codes.TheConstants.{DEFINE_NOT_TAKEN, STRAY_BYTE}
use Rattle.xs_base.specs.Readers.{head_is}
use Rattle.xs_base.specs.Scanning.{begins_word, is_ascii_digit, is_blank, is_identifier, is_word_byte}
use Rattle.xs_base.proofs.FrontRuns.{after_seam, after_stops, front_after, front_belongs, front_seam}
use Rattle.xs_base.proofs.WordBytes.{word_not_blank}
use Rattle.xs_ctok.specs.CWords.{is_reserved}
use Rattle.xs_ctok.specs.Directives.{after_gap, after_word, define_front, defined, directive_front, ends_line, integer_define, is_over, may_define, named_define, valued_define, word_in}
use Rattle.xs_ctok.specs.Numerals.{number_front}
use Rattle.xs_ctok.specs.TokenSpelling as sp
use Rattle.xs_ctok.specs.TokenSpelling.{IsGap, IsHead, IsInteger, IsOver, Stands, are_blanks}
use Rattle.xs_ctok.specs.declared.directives.Gap.TheVariants as gap
use Rattle.xs_ctok.specs.declared.front.Front.{Front}
use Rattle.xs_ctok.specs.declared.front.Front.TheVariants as front
use Rattle.xs_ctok.specs.declared.numerals.NumberFront.{NumberFront}
use Rattle.xs_ctok.specs.declared.numerals.NumberFront.TheVariants as number
use Rattle.xs_ctok.specs.declared.token.Literal.{Literal}
use Rattle.xs_ctok.specs.declared.token.TokKind.{TokKind}
use Rattle.xs_ctok.specs.declared.token.TokKind.TheVariants as kind
use Rattle.xs_ctok.proofs.GapsSpelled.{digit_is_next, gap_done, gap_split, over_done, over_sound}
use Rattle.xs_ctok.proofs.IntegersSpelled.{integer_begins, integer_done, integer_some, integer_sound}
use Rattle.xs_ctok.proofs.Facts.{is_less, less_is, same_piece}

-- ---- words after blanks

-- a word after blanks
word_at : (blanks word rest : List ℕ) → are_blanks blanks ≡ true → list_all is_word_byte word ≡ true → head_is is_blank (word ++ rest) ≡ false
    → head_is is_word_byte rest ≡ false → (word_in (blanks ++ (word ++ rest)) ≡ word) × (after_word (blanks ++ (word ++ rest)) ≡ rest)
word_at blanks word rest blank bytes first stop =
    let at : after_blanks (blanks ++ (word ++ rest)) ≡ word ++ rest = after_seam class.Blank blanks (word ++ rest) blank first in
    (ap (runs.front_of class.Word) at ∙ front_seam class.Word word rest bytes stop, ap (after_run class.Word) at ∙ after_seam class.Word word rest bytes stop)

-- blanks are no bytes of a word
blank_not_word : (b : ℕ) → is_blank b ≡ true → is_word_byte b ≡ false
blank_not_word b h = false_from_ne_true (is_word_byte b) (λ w. let no = word_not_blank b w in both h no)
  where
    both : is_blank b ≡ true → is_blank b ≡ false → ⊥
    both p q = let e : true ≡ false = sym p ∙ q in cc

blanks_stop : (blanks rest : List ℕ) → are_blanks blanks ≡ true → 0 < length blanks
    → (head_is is_word_byte (blanks ++ rest) ≡ false) × (head_is is_blank (blanks ++ rest) ≡ true)
blanks_stop [] rest all some = absurd (omega arith)
blanks_stop (b ∷ blanks) rest all some = let p = (and_parts (is_blank b) (are_blanks blanks) all).0 in (blank_not_word b p, p)

name_first : (name rest : List ℕ) → is_identifier name ≡ true → (head_is is_blank (name ++ rest) ≡ false) × (list_all is_word_byte name ≡ true)
name_first [] rest h = absurd cc
name_first (b ∷ bs) rest h =
    let p = and_parts (begins_word b) (list_all is_word_byte bs) h in
    let w : is_word_byte b ≡ true = or_left (begins_word b) (is_ascii_digit b) p.0 in
    (word_not_blank b w, and_from (is_word_byte b) (list_all is_word_byte bs) w p.1)

-- ---- what is spelled is read

-- what stands after the `#`
abbrev pub directive_at : List ℕ → Front
directive_at [] = front.Blank
directive_at (b ∷ bs) = directive_front (b ∷ bs) bs

pub include_done : (before more : List ℕ) → are_blanks before ≡ true → head_is is_word_byte more ≡ false
    → directive_at (35 ∷ (before ++ (codes "include" ++ more))) ≡ front.Piece kind.Include (length (35 ∷ (before ++ (codes "include" ++ more))))
unfolding directive_front
include_done before more blank stop =
    let w = word_at before (codes "include") more blank refl refl stop in
    rw w.0 refl

head_done : (head name rest : List ℕ) → IsHead head → is_identifier name ≡ true → head_is is_word_byte rest ≡ false
    → directive_at (head ++ (name ++ rest)) ≡ named_define (head ++ (name ++ rest)) name rest
unfolding directive_front
head_done head name rest x named stop =
    let tail = x.blanks ++ (name ++ rest) in
    let inner = x.before ++ (codes "define" ++ tail) in
    let whole : head ++ (name ++ rest) ≡ 35 ∷ inner =
    ap (λ (k : List ℕ). k ++ (name ++ rest)) x.spelled
    ∙ ap (λ (k : List ℕ). 35 ∷ k) (append_assoc x.before (codes "define" ++ x.blanks) (name ++ rest)) in
    let b = blanks_stop x.blanks (name ++ rest) x.are_after x.some in
    let w = word_at x.before (codes "define") tail x.are_before refl refl b.0 in
    let first = name_first name rest named in
    let v = word_at x.blanks name rest x.are_after first.1 first.0 stop in
    let named : directive_front (35 ∷ inner) inner ≡ named_define (35 ∷ inner) name rest = rw (w.0, w.1, b.1, v.0, v.1) refl in
    ap directive_at whole ∙ named ∙ ap (λ (k : List ℕ). named_define k name rest) (sym whole)

pub no_context_done : (head rest : List ℕ) → IsHead head → head_is is_word_byte rest ≡ false → IsOver rest
    → directive_at (head ++ (codes "PERL_NO_GET_CONTEXT" ++ rest)) ≡ front.Piece kind.Include (length (head ++ codes "PERL_NO_GET_CONTEXT"))
unfolding named_define
no_context_done head rest x stop over =
    let name = codes "PERL_NO_GET_CONTEXT" in
    let size : length (head ++ (name ++ rest)) - length rest ≡ length (head ++ name) =
    omega (arith, length-append head (name ++ rest), length-append name rest, length-append head name) in
    head_done head name rest x refl stop ∙ rw (over_done over, size) refl

gap_over : (next : List ℕ) → head_is is_ascii_digit next ≡ true → ends_line next ≡ false
gap_over [] h = absurd cc
gap_over (d ∷ ds) h = let p : (d == 47) ≡ false = not_slash d h in rw p refl
  where
    not_slash : (c : ℕ) → is_ascii_digit c ≡ true → (c == 47) ≡ false
    not_slash c e = grind (arith, nat_tests)

-- a gap begins with no byte of a word
gap_stops : {g : List ℕ} → IsGap g → (next : List ℕ) → 0 < length g → head_is is_word_byte (g ++ next) ≡ false
gap_stops sp.nothing next some = absurd (omega arith)
gap_stops (sp.blank {b = b} h x) next some = blank_not_word b h
gap_stops (sp.comment text c x) next some = refl

may_define_is : (name : List ℕ) → is_identifier name ≡ true → is_reserved name ≡ false → may_define name ≡ true
unfolding may_define
may_define_is [] h r = absurd cc
may_define_is (b ∷ bs) h r =
    and_from (begins_word b) (not (is_reserved (b ∷ bs))) (and_parts (begins_word b) (list_all is_word_byte bs) h).0 (ap not r)

not_over : (tail next : List ℕ) → after_gap gap.Between tail ≡ next → head_is is_ascii_digit next ≡ true → is_over tail ≡ false
unfolding is_over
not_over tail next passed begins = ap ends_line passed ∙ gap_over next begins

neither : (x y : Bool) → y ≡ false → (x && y) ≡ false
neither true y h = h
neither false y h = refl

-- a name, with an integer after blanks and comments
named_done : (whole name tail next : List ℕ) (l : Literal) (len size : ℕ) → may_define name ≡ true → after_gap gap.Between tail ≡ next
    → nat_lt (length next) (length tail) ≡ true → head_is is_ascii_digit next ≡ true → number_front next ≡ number.Integer l len
    → is_over (drop len next) ≡ true → length whole - length next + len ≡ size
    → named_define whole name tail ≡ front.Piece (kind.Define name l) size
unfolding named_define
named_done whole name tail next l len size may passed shorter begins integer over fits =
    rw (neither (bytes_eq name (codes "PERL_NO_GET_CONTEXT")) (is_over tail) (not_over tail next passed begins), may, passed, shorter, begins, integer, over, fits) refl

pub define_done : (head name g digits rest : List ℕ) (l : Literal) → IsHead head → is_identifier name ≡ true → is_reserved name ≡ false → IsGap g → 0 < length g
    → IsInteger l digits rest → IsOver rest
    → directive_at (head ++ (name ++ (g ++ (digits ++ rest)))) ≡ front.Piece (kind.Define name l) (length (head ++ (name ++ (g ++ digits))))
define_done head name g digits rest l x named free blank some number over =
    let next = digits ++ rest in
    let begins = integer_begins l digits rest number in
    let passed : after_gap gap.Between (g ++ next) ≡ next = gap_done blank next ∙ digit_is_next next begins in
    let shorter : nat_lt (length next) (length (g ++ next)) ≡ true = less_is (length next) (length (g ++ next)) (omega (arith, length-append g next, some)) in
    let back : is_over (drop (length digits) next) ≡ true = ap is_over (drop-append_seam digits rest) ∙ over_done over in
    let whole = head ++ (name ++ (g ++ next)) in
    let size : length whole - length next + length digits ≡ length (head ++ (name ++ (g ++ digits))) =
    omega (
      arith,
      length-append head (name ++ (g ++ next)),
      length-append name (g ++ next),
      length-append g next,
      length-append digits rest,
      length-append head (name ++ (g ++ digits)),
      length-append name (g ++ digits),
      length-append g digits,
    ) in
    head_done head name (g ++ next) x named (gap_stops blank next some)
    ∙ named_done whole name (g ++ next) next l (length digits) (length (head ++ (name ++ (g ++ digits)))) (may_define_is name named free) passed shorter begins
    (integer_done l digits rest number) back size

-- ---- what is read is spelled

-- a directive in front of bytes
abbrev pub DirectiveEnds : List ℕ → TokKind → ℕ → Type 0
DirectiveEnds text k n = (t : List ℕ) × (rest : List ℕ) × (text ≡ t ++ rest) × (n ≡ length t) × Stands true k t rest

-- a text is blanks, a word, and what follows it
parts : (text : List ℕ) → text ≡ runs.front_of class.Blank text ++ (word_in text ++ after_word text)
parts text =
    sym (front_after class.Blank text) ∙ ap (λ (k : List ℕ). runs.front_of class.Blank text ++ k) (sym (front_after class.Word (after_blanks text)))

blank_some : (text : List ℕ) → head_is is_blank text ≡ true → 0 < length (runs.front_of class.Blank text)
blank_some [] h = absurd cc
blank_some (b ∷ bs) h = rw h (omega arith)

may_parts : (name : List ℕ) → list_all is_word_byte name ≡ true → may_define name ≡ true → (is_identifier name ≡ true) × (is_reserved name ≡ false)
unfolding may_define
may_parts [] all h = absurd cc
may_parts (b ∷ bs) all h =
    let p = and_parts (begins_word b) (not (is_reserved (b ∷ bs))) h in
    let q = and_parts (is_word_byte b) (list_all is_word_byte bs) all in
    (and_from (begins_word b) (list_all is_word_byte bs) p.0 q.1, not_parts (is_reserved (b ∷ bs)) p.1)
  where
    not_parts : (t : Bool) → not t ≡ true → t ≡ false
    not_parts true e = absurd cc
    not_parts false e = refl

-- the head of a `#define`, and what stands after it
record DefineParts (text name rest : List ℕ) : Type 0 where
  head : List ℕ
  is_head : IsHead head
  whole : 35 ∷ text ≡ head ++ (name ++ rest)

define_parts : (text : List ℕ) → bytes_eq (word_in text) (codes "define") ≡ true → head_is is_blank (after_word text) ≡ true
    → DefineParts text (word_in (after_word text)) (after_word (after_word text))
define_parts text word blank =
    let before = runs.front_of class.Blank text in
    let more = after_word text in
    let blanks = runs.front_of class.Blank more in
    let named = word_in more ++ after_word more in
    let is : word_in text ≡ codes "define" = (bytes_eq-Decides (word_in text) (codes "define")).0 word in
    let all : text ≡ before ++ (codes "define" ++ (blanks ++ named)) =
    parts text ∙ ap (λ (k : List ℕ). before ++ (k ++ more)) is ∙ ap (λ (k : List ℕ). before ++ (codes "define" ++ k)) (parts more) in
    record {
      head = 35 ∷ (before ++ (codes "define" ++ blanks));
      is_head = record {
        before = before;
        blanks = blanks;
        spelled = refl;
        are_before = front_belongs class.Blank text;
        are_after = front_belongs class.Blank more;
        some = blank_some more blank;
      };
      whole = ap (λ (k : List ℕ). 35 ∷ k) (all ∙ sym (append_assoc before (codes "define" ++ blanks) named));
    }

-- a `#define` of a name that has these parts
integer_case : (text name rest next : List ℕ) (k : TokKind) (n : ℕ) → DefineParts text name rest → is_identifier name ≡ true → is_reserved name ≡ false
    → after_gap gap.Between rest ≡ next → length next < length rest → head_is is_ascii_digit next ≡ true
    → (f : NumberFront) → number_front next ≡ f → defined (35 ∷ text) name next f ≡ front.Piece k n → DirectiveEnds (35 ∷ text) k n
integer_case text name rest next k n p named free passed shorter begins (number.Refused code) e h = absurd cc
integer_case text name rest next k n p named free passed shorter begins (number.Integer l len) e h =
    by (is_over (drop len next)) refl h
  where
    by : (t : Bool) → is_over (drop len next) ≡ t
        → (if t then front.Piece (kind.Define name l) (length (35 ∷ text) - length next + len) else front.Refused DEFINE_NOT_TAKEN) ≡ front.Piece k n
        → DirectiveEnds (35 ∷ text) k n
    by true over h =
        let w = same_piece (kind.Define name l) k (length (35 ∷ text) - length next + len) n h in
        let i = integer_sound next l len begins e in
        let some = integer_some l i.0 i.1 i.4 in
        let g = gap_split rest next passed (omega (arith, ap length i.2, length-append i.0 i.1, some)) in
        let back : drop len next ≡ i.1 = ap (drop len) i.2 ∙ ap (λ m. drop m (i.0 ++ i.1)) i.3 ∙ drop-append_seam i.0 i.1 in
        let t = p.head ++ (name ++ (g.0 ++ i.0)) in
        let whole : 35 ∷ text ≡ t ++ i.1 =
        p.whole ∙ ap (λ (m : List ℕ). p.head ++ (name ++ m)) (g.1 ∙ ap (λ (m : List ℕ). g.0 ++ m) i.2 ∙ sym (append_assoc g.0 i.0 i.1))
        ∙ ap (λ (m : List ℕ). p.head ++ m) (sym (append_assoc name (g.0 ++ i.0) i.1)) ∙ sym (append_assoc p.head (name ++ (g.0 ++ i.0)) i.1) in (
          t,
          i.1,
          whole,
          omega (
            arith,
            w.1,
            ap length whole,
            length-append t i.1,
            ap length i.2,
            length-append i.0 i.1,
            i.3,
            shorter,
            ap length p.whole,
            length-append p.head (name ++ rest),
            length-append name rest,
          ),
          subst (λ m. Stands true m t i.1) w.0
              (sp.define p.is_head named free g.2 (omega (arith, shorter, ap length g.1, length-append g.0 next)) i.4
              (over_sound i.1 (ap is_over (sym back) ∙ over))),
        )
    by false over h = absurd cc

valued_case : (text name rest : List ℕ) (k : TokKind) (n : ℕ) → DefineParts text name rest → is_identifier name ≡ true → is_reserved name ≡ false
    → valued_define (35 ∷ text) name rest ≡ front.Piece k n → DirectiveEnds (35 ∷ text) k n
valued_case text name rest k n p named free h =
    by (nat_lt (length (after_gap gap.Between rest)) (length rest) && head_is is_ascii_digit (after_gap gap.Between rest)) refl h
  where
    by : (t : Bool) → (nat_lt (length (after_gap gap.Between rest)) (length rest) && head_is is_ascii_digit (after_gap gap.Between rest)) ≡ t
        → (if t then integer_define (35 ∷ text) name (after_gap gap.Between rest) else front.Refused DEFINE_NOT_TAKEN) ≡ front.Piece k n
        → DirectiveEnds (35 ∷ text) k n
    by true e h =
        let q = and_parts (nat_lt (length (after_gap gap.Between rest)) (length rest)) (head_is is_ascii_digit (after_gap gap.Between rest)) e in
        integer_case text name rest (after_gap gap.Between rest) k n p named free refl (is_less (length (after_gap gap.Between rest)) (length rest) q.0) q.1
        (number_front (after_gap gap.Between rest)) refl h
    by false e h = absurd cc

named_case : (text name rest : List ℕ) (k : TokKind) (n : ℕ) → DefineParts text name rest → list_all is_word_byte name ≡ true
    → head_is is_word_byte rest ≡ false → named_define (35 ∷ text) name rest ≡ front.Piece k n → DirectiveEnds (35 ∷ text) k n
unfolding named_define
named_case text name rest k n p all stop h = by_context (bytes_eq name (codes "PERL_NO_GET_CONTEXT") && is_over rest) refl h
  where
    by_name : (t : Bool) → may_define name ≡ t → (if t then valued_define (35 ∷ text) name rest else front.Refused DEFINE_NOT_TAKEN) ≡ front.Piece k n
        → DirectiveEnds (35 ∷ text) k n
    by_name true e h = let q = may_parts name all e in valued_case text name rest k n p q.0 q.1 h
    by_name false e h = absurd cc

    by_context : (t : Bool) → (bytes_eq name (codes "PERL_NO_GET_CONTEXT") && is_over rest) ≡ t
        → (if t then front.Piece kind.Include (length (35 ∷ text) - length rest) else (if may_define name then valued_define (35 ∷ text) name rest
        else front.Refused DEFINE_NOT_TAKEN)) ≡ front.Piece k n → DirectiveEnds (35 ∷ text) k n
    by_context true e h =
        let q = and_parts (bytes_eq name (codes "PERL_NO_GET_CONTEXT")) (is_over rest) e in
        let is : name ≡ codes "PERL_NO_GET_CONTEXT" = (bytes_eq-Decides name (codes "PERL_NO_GET_CONTEXT")).0 q.0 in
        let w = same_piece kind.Include k (length (35 ∷ text) - length rest) n h in
        let t = p.head ++ codes "PERL_NO_GET_CONTEXT" in
        let whole : 35 ∷ text ≡ t ++ rest =
        p.whole ∙ ap (λ (m : List ℕ). p.head ++ (m ++ rest)) is ∙ sym (append_assoc p.head (codes "PERL_NO_GET_CONTEXT") rest) in (
          t,
          rest,
          whole,
          omega (arith, w.1, ap length whole, length-append t rest),
          subst (λ m. Stands true m t rest) w.0 (sp.no_context p.is_head stop (over_sound rest q.1)),
        )
    by_context false e h = by_name (may_define name) refl h

define_case : (text : List ℕ) (k : TokKind) (n : ℕ) → bytes_eq (word_in text) (codes "define") ≡ true
    → define_front (35 ∷ text) (after_word text) ≡ front.Piece k n → DirectiveEnds (35 ∷ text) k n
define_case text k n word h = by (head_is is_blank (after_word text)) refl h
  where
    by : (t : Bool) → head_is is_blank (after_word text) ≡ t
        → (if t then named_define (35 ∷ text) (word_in (after_word text)) (after_word (after_word text)) else front.Refused DEFINE_NOT_TAKEN) ≡ front.Piece k n
        → DirectiveEnds (35 ∷ text) k n
    by true e h =
        named_case text (word_in (after_word text)) (after_word (after_word text)) k n (define_parts text word e)
        (front_belongs class.Word (after_blanks (after_word text))) (after_stops class.Word (after_blanks (after_word text))) h
    by false e h = absurd cc

pub directive_sound : (text : List ℕ) (k : TokKind) (n : ℕ) → directive_front (35 ∷ text) text ≡ front.Piece k n → DirectiveEnds (35 ∷ text) k n
unfolding directive_front
directive_sound text k n h = by_include (bytes_eq (word_in text) (codes "include")) refl h
  where
    by_define : (t : Bool) → bytes_eq (word_in text) (codes "define") ≡ t
        → (if t then define_front (35 ∷ text) (after_word text) else front.Refused STRAY_BYTE) ≡ front.Piece k n → DirectiveEnds (35 ∷ text) k n
    by_define true e h = define_case text k n e h
    by_define false e h = absurd cc

    by_include : (t : Bool) → bytes_eq (word_in text) (codes "include") ≡ t
        → (if t then front.Piece kind.Include (length (35 ∷ text)) else (if bytes_eq (word_in text) (codes "define") then define_front (35 ∷ text) (after_word text)
        else front.Refused STRAY_BYTE)) ≡ front.Piece k n → DirectiveEnds (35 ∷ text) k n
    by_include true e h =
        let before = runs.front_of class.Blank text in
        let more = after_word text in
        let is : word_in text ≡ codes "include" = (bytes_eq-Decides (word_in text) (codes "include")).0 e in
        let w = same_piece kind.Include k (length (35 ∷ text)) n h in
        let t = 35 ∷ (before ++ (codes "include" ++ more)) in
        let all : 35 ∷ text ≡ t = ap (λ (m : List ℕ). 35 ∷ m) (parts text ∙ ap (λ (m : List ℕ). before ++ (m ++ more)) is) in (
          t,
          [],
          all ∙ sym (append-nil t),
          omega (arith, w.1, ap length all),
          subst (λ m. Stands true m t []) w.0 (sp.include before more (front_belongs class.Blank text) (after_stops class.Word (after_blanks text))),
        )
    by_include false e h = by_define (bytes_eq (word_in text) (codes "define")) refl h
