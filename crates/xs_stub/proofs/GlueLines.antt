-- The lines of the glue, in pieces.
use Rattle.std.proofs.Common.{ℕ, ◌+◌, ◌≤◌, ◌≡◌, true, false, List, [], ◌∷◌, ◌++◌, codes, length, refl, arith}
use Rattle.std.specs.Fmt.{decimal}
use Rattle.std.specs.List.{AllByRecursion as All, flat_map, list_all}
use Rattle.xs_base.specs.Scanning.{is_blank}
use Rattle.xs_ctok.specs.Punctuators.{punctuator_len}
use Rattle.xs_ctok.specs.declared.token.TokKind.TheVariants as kind
use Rattle.xs_ctok.specs.CWords.{is_dropped_statement, is_dropped_word}
use Rattle.xs_iface.specs.Iface.{underscored}
use Rattle.xs_iface.specs.declared.xsub.Module.{Module}
use Rattle.xs_iface.specs.declared.xsub.Param.{Param}
use Rattle.xs_iface.specs.declared.xsub.Term.{Term}
use Rattle.xs_iface.specs.declared.xsub.Xsub.{Xsub}
use Rattle.xs_stub.proofs.GlueWords.{IsNamed, IsSpelled, are_bare, digit_tok, ends_blank, ends_close, ends_semicolon, kind_of_term, name_tok, number_tok, quoted, term_tok, text_tok}
use Rattle.xs_stub.proofs.LinePieces.{ArePieces, Blank, Piece, Tok, sign_tok, word_tok}
use Rattle.xs_stub.specs.Intended.{literal_of}
use Rattle.xs_stub.specs.Stub.{joined_names, term_text}

-- ---- pieces

abbrev pub word : List ℕ → Piece
word name = Tok kind.Word name

abbrev pub sign : List ℕ → Piece
sign punctuator = Tok kind.Punct punctuator

abbrev pub number : ℕ → Piece
number value = Tok (kind.Int (literal_of value)) (decimal value)

abbrev pub digit : ℕ → List ℕ → Piece
digit value written = Tok (kind.Int (literal_of value)) written

abbrev pub text : List ℕ → Piece
text bytes = Tok (kind.Text bytes) (quoted bytes)

-- one blank, and those in front of a line in a function and in its block
abbrev pub blank : Piece
blank = Blank (codes " ")

abbrev pub outer : Piece
outer = Blank (codes "    ")

abbrev pub inner : Piece
inner = Blank (codes "        ")

-- ---- lines

-- the name of a function
abbrev pub title_line : List ℕ → List Piece
title_line name = word (codes "XS") ∷ sign (codes "(") ∷ word name ∷ sign (codes ")") ∷ []

abbrev pub brace_line : List Piece
brace_line = sign (codes "{") ∷ []

-- the first statement of a function
abbrev pub args_line : List Piece
args_line = outer ∷ word (codes "dXSARGS") ∷ sign (codes ";") ∷ []

-- the test of the number of arguments, and what a wrong one does
abbrev pub test_line : ℕ → List Piece
test_line count =
    outer ∷ word (codes "if") ∷ blank ∷ sign (codes "(") ∷ word (codes "items") ∷ blank ∷ sign (codes "!=") ∷ blank ∷ number count ∷ sign (codes ")") ∷ []

abbrev pub croak_line : List ℕ → List Piece
croak_line names =
    inner ∷ word (codes "croak_xs_usage") ∷ sign (codes "(") ∷ word (codes "cv") ∷ sign (codes ",") ∷ blank ∷ text names ∷ sign (codes ")") ∷ sign (codes
    ";") ∷ []

abbrev pub block_line : List Piece
block_line = outer ∷ sign (codes "{") ∷ []

-- a variable, those of the result, and an input
abbrev pub declaration_line : List ℕ → List Piece
declaration_line name = inner ∷ word (codes "int") ∷ blank ∷ word name ∷ sign (codes ";") ∷ []

abbrev pub value_line : List Piece
value_line = inner ∷ word (codes "int") ∷ blank ∷ word (codes "RETVAL") ∷ sign (codes ";") ∷ []

abbrev pub scalar_line : List Piece
scalar_line = inner ∷ word (codes "SV") ∷ blank ∷ sign (codes "*") ∷ word (codes "RETVALSV") ∷ sign (codes ";") ∷ []

abbrev pub input_line : ℕ → List ℕ → List Piece
input_line index name =
    inner ∷ word name ∷ blank ∷ sign (codes "=") ∷ blank ∷ sign (codes "(") ∷ word (codes "int") ∷ sign (codes ")") ∷ word (codes "SvIV") ∷ sign (codes "(")
    ∷ word (codes "ST") ∷ sign (codes "(") ∷ number index ∷ sign (codes ")") ∷ sign (codes ")") ∷ sign (codes ";") ∷ []

-- the returned value, and the end of a function
abbrev pub mortal_line : List Piece
mortal_line =
    inner ∷ word (codes "RETVALSV") ∷ blank ∷ sign (codes "=") ∷ blank ∷ word (codes "sv_newmortal") ∷ sign (codes "(") ∷ sign (codes ")") ∷ sign (codes ";")
    ∷ []

abbrev pub set_line : List Piece
set_line =
    inner ∷ word (codes "sv_setiv") ∷ sign (codes "(") ∷ word (codes "RETVALSV") ∷ sign (codes ",") ∷ blank ∷ sign (codes "(") ∷ word (codes "IV") ∷ sign
    (codes ")") ∷ word (codes "RETVAL") ∷ sign (codes ")") ∷ sign (codes ";") ∷ []

abbrev pub put_line : List Piece
put_line =
    inner ∷ word (codes "ST") ∷ sign (codes "(") ∷ digit 0 (codes "0") ∷ sign (codes ")") ∷ blank ∷ sign (codes "=") ∷ blank ∷ word (codes "RETVALSV") ∷ sign
    (codes ";") ∷ []

abbrev pub return_line : List Piece
return_line = inner ∷ word (codes "XSRETURN") ∷ sign (codes "(") ∷ digit 1 (codes "1") ∷ sign (codes ")") ∷ sign (codes ";") ∷ []

abbrev pub block_end_line : List Piece
block_end_line = outer ∷ sign (codes "}") ∷ []

abbrev pub end_line : List Piece
end_line = sign (codes "}") ∷ []

-- a registration, and the end of the boot function
abbrev pub registration_line : List ℕ → List ℕ → List Piece
registration_line full glue =
    outer ∷ word (codes "newXS_deffile") ∷ sign (codes "(") ∷ text full ∷ sign (codes ",") ∷ blank ∷ word glue ∷ sign (codes ")") ∷ sign (codes ";") ∷ []

abbrev pub yes_line : List Piece
yes_line = outer ∷ word (codes "XSRETURN_YES") ∷ sign (codes ";") ∷ []

-- the terms after the first one of a sum, and the end of the line
abbrev pub more_terms : List Param → List Term → List Piece
more_terms params [] = sign (codes ";") ∷ []
more_terms params (t ∷ ts) = blank ∷ sign (codes "+") ∷ blank ∷ Tok (kind_of_term t) (term_text params t) ∷ more_terms params ts

abbrev pub sum_terms : List Param → List Term → List Piece
sum_terms params [] = sign (codes ";") ∷ []
sum_terms params (t ∷ ts) = Tok (kind_of_term t) (term_text params t) ∷ more_terms params ts

-- the author's line
abbrev pub sum_line : List Param → List ℕ → List Term → List Piece
sum_line params indent terms = Blank indent ∷ word (codes "RETVAL") ∷ blank ∷ sign (codes "=") ∷ blank ∷ sum_terms params terms

-- ---- functions

-- a function up to its first statement
abbrev pub opening_lines : List ℕ → List (List Piece)
opening_lines name = [] ∷ title_line name ∷ brace_line ∷ args_line ∷ []

abbrev pub usage_lines : List Param → List (List Piece)
usage_lines params = test_line (length params) ∷ croak_line (joined_names params) ∷ block_line ∷ []

abbrev pub declaration_lines : Param → List (List Piece)
declaration_lines p = declaration_line p.name ∷ []

abbrev pub result_lines : List (List Piece)
result_lines = value_line ∷ scalar_line ∷ []

abbrev pub input_lines : ℕ → List Param → List (List Piece)
input_lines index [] = []
input_lines index (p ∷ ps) = input_line index p.name ∷ input_lines (index + 1) ps

abbrev pub sum_lines : Xsub → List (List Piece)
sum_lines x = sum_line x.params x.indent x.sum ∷ []

abbrev pub work_lines : Xsub → List (List Piece)
work_lines x = flat_map declaration_lines x.params ++ (result_lines ++ (input_lines 0 x.params ++ sum_lines x))

abbrev pub returned_lines : List (List Piece)
returned_lines = mortal_line ∷ set_line ∷ []

abbrev pub return_lines : List (List Piece)
return_lines = put_line ∷ return_line ∷ []

-- the ends of the block and of the function
abbrev pub closing_lines : List (List Piece)
closing_lines = block_end_line ∷ end_line ∷ []

abbrev pub end_lines : List (List Piece)
end_lines = returned_lines ++ (return_lines ++ closing_lines)

abbrev pub xsub_lines : Xsub → List (List Piece)
xsub_lines x = (opening_lines x.glue ++ usage_lines x.params) ++ (work_lines x ++ end_lines)

abbrev pub registration_lines : Xsub → List (List Piece)
registration_lines x = registration_line x.full x.glue ∷ []

abbrev pub boot_end_lines : List (List Piece)
boot_end_lines = yes_line ∷ end_line ∷ []

abbrev pub boot_lines : Module → List (List Piece)
boot_lines m = opening_lines (codes "boot_" ++ underscored m.boot) ++ (flat_map registration_lines m.xsubs ++ boot_end_lines)

-- all lines after the C part
abbrev pub glue_lines : Module → List (List Piece)
glue_lines m = flat_map xsub_lines m.xsubs ++ boot_lines m

-- ---- each line is made of its pieces

pub title_line-is : (name : List ℕ) → IsNamed name → ArePieces true (title_line name)
unfolding punctuator_len is_dropped_word is_dropped_statement
title_line-is name w = (word_tok refl refl refl refl, (sign_tok refl refl refl refl, (name_tok w refl, (sign_tok refl refl refl refl, tt))))

pub brace_line-is : ArePieces true brace_line
unfolding punctuator_len
brace_line-is = (sign_tok refl refl refl refl, tt)

pub args_line-is : ArePieces true args_line
unfolding punctuator_len is_dropped_word is_dropped_statement
args_line-is = (refl, (word_tok refl refl refl refl, (sign_tok refl refl refl refl, tt)))

pub test_line-is : (count : ℕ) → count ≤ 2147483647 → ArePieces true (test_line count)
unfolding punctuator_len is_dropped_word is_dropped_statement
test_line-is count few = (
  refl,
  (
    word_tok refl refl refl refl,
    (
      refl,
      (
        sign_tok refl refl refl refl,
        (
          word_tok refl refl refl refl,
          (
            refl,
            (
              sign_tok refl refl refl refl,
              (
                refl,
                (number_tok count few (ends_close _), (sign_tok refl refl refl refl, tt)),
              ),
            ),
          ),
        ),
      ),
    ),
  ),
)

pub croak_line-is : (names : List ℕ) → are_bare names ≡ true → ArePieces true (croak_line names)
unfolding punctuator_len is_dropped_word is_dropped_statement
croak_line-is names bare = (
  refl,
  (
    word_tok refl refl refl refl,
    (
      sign_tok refl refl refl refl,
      (
        word_tok refl refl refl refl,
        (
          sign_tok refl refl refl refl,
          (
            refl,
            (
              text_tok names
                  bare,
              (sign_tok refl refl refl refl, (sign_tok refl refl refl refl, tt)),
            ),
          ),
        ),
      ),
    ),
  ),
)

pub block_line-is : ArePieces true block_line
unfolding punctuator_len
block_line-is = (refl, (sign_tok refl refl refl refl, tt))

pub declaration_line-is : (name : List ℕ) → IsNamed name → ArePieces true (declaration_line name)
unfolding punctuator_len is_dropped_word is_dropped_statement
declaration_line-is name w = (refl, (word_tok refl refl refl refl, (refl, (name_tok w refl, (sign_tok refl refl refl refl, tt)))))

pub value_line-is : ArePieces true value_line
unfolding punctuator_len is_dropped_word is_dropped_statement
value_line-is = (refl, (word_tok refl refl refl refl, (refl, (word_tok refl refl refl refl, (sign_tok refl refl refl refl, tt)))))

pub scalar_line-is : ArePieces true scalar_line
unfolding punctuator_len is_dropped_word is_dropped_statement
scalar_line-is =
    (refl, (word_tok refl refl refl refl, (refl, (sign_tok refl refl refl refl, (word_tok refl refl refl refl, (sign_tok refl refl refl refl, tt))))))

pub input_line-is : (index : ℕ) (name : List ℕ) → index ≤ 2147483647 → IsNamed name → ArePieces true (input_line index name)
unfolding punctuator_len is_dropped_word is_dropped_statement
input_line-is index name few w = (
  refl,
  (
    name_tok w refl,
    (
      refl,
      (
        sign_tok refl refl refl refl,
        (
          refl,
          (
            sign_tok refl refl refl refl,
            (
              word_tok refl refl refl refl,
              (
                sign_tok refl refl
                    refl refl,
                (
                  word_tok refl refl refl refl,
                  (
                    sign_tok refl refl refl refl,
                    (
                      word_tok refl refl refl refl,
                      (
                        sign_tok refl refl refl refl,
                        (
                          number_tok index
                              few (ends_close _),
                          (sign_tok refl refl refl refl, (sign_tok refl refl refl refl, (sign_tok refl refl refl refl, tt))),
                        ),
                      ),
                    ),
                  ),
                ),
              ),
            ),
          ),
        ),
      ),
    ),
  ),
)

pub mortal_line-is : ArePieces true mortal_line
unfolding punctuator_len is_dropped_word is_dropped_statement
mortal_line-is = (
  refl,
  (
    word_tok refl refl refl refl,
    (
      refl,
      (
        sign_tok refl refl refl refl,
        (
          refl,
          (
            word_tok refl refl refl refl,
            (
              sign_tok refl refl refl refl,
              (sign_tok refl refl refl refl, (sign_tok refl refl refl refl, tt)),
            ),
          ),
        ),
      ),
    ),
  ),
)

pub set_line-is : ArePieces true set_line
unfolding punctuator_len is_dropped_word is_dropped_statement
set_line-is = (
  refl,
  (
    word_tok refl refl refl refl,
    (
      sign_tok refl refl refl refl,
      (
        word_tok refl refl refl refl,
        (
          sign_tok refl refl refl refl,
          (
            refl,
            (
              sign_tok refl
                  refl refl refl,
              (
                word_tok refl refl refl refl,
                (
                  sign_tok refl refl refl refl,
                  (
                    word_tok refl refl refl refl,
                    (
                      sign_tok refl refl refl refl,
                      (
                        sign_tok
                            refl refl refl refl,
                        tt,
                      ),
                    ),
                  ),
                ),
              ),
            ),
          ),
        ),
      ),
    ),
  ),
)

pub put_line-is : ArePieces true put_line
unfolding punctuator_len is_dropped_word is_dropped_statement
put_line-is = (
  refl,
  (
    word_tok refl refl refl refl,
    (
      sign_tok refl refl refl refl,
      (
        digit_tok 0 (omega arith) (ends_close _),
        (
          sign_tok refl refl refl refl,
          (
            refl,
            (sign_tok refl refl refl refl, (refl, (word_tok refl refl refl refl, (sign_tok refl refl refl refl, tt)))),
          ),
        ),
      ),
    ),
  ),
)

pub return_line-is : ArePieces true return_line
unfolding punctuator_len is_dropped_word is_dropped_statement
return_line-is = (
  refl,
  (
    word_tok refl refl refl refl,
    (
      sign_tok refl refl refl refl,
      (
        digit_tok 1 (omega arith) (ends_close _),
        (
          sign_tok refl refl refl refl,
          (
            sign_tok
                refl refl refl refl,
            tt,
          ),
        ),
      ),
    ),
  ),
)

pub block_end_line-is : ArePieces true block_end_line
unfolding punctuator_len
block_end_line-is = (refl, (sign_tok refl refl refl refl, tt))

pub end_line-is : ArePieces true end_line
unfolding punctuator_len
end_line-is = (sign_tok refl refl refl refl, tt)

pub registration_line-is : (full glue : List ℕ) → are_bare full ≡ true → IsNamed glue → ArePieces true (registration_line full glue)
unfolding punctuator_len is_dropped_word is_dropped_statement
registration_line-is full glue bare w = (
  refl,
  (
    word_tok refl refl refl refl,
    (
      sign_tok refl refl refl refl,
      (
        text_tok full bare,
        (
          sign_tok refl refl refl refl,
          (
            refl,
            (
              name_tok w refl,
              (sign_tok refl refl refl refl, (sign_tok refl refl refl refl, tt)),
            ),
          ),
        ),
      ),
    ),
  ),
)

pub yes_line-is : ArePieces true yes_line
unfolding punctuator_len is_dropped_word is_dropped_statement
yes_line-is = (refl, (word_tok refl refl refl refl, (sign_tok refl refl refl refl, tt)))

more_terms-are : (params : List Param) (ts : List Term) → All (IsSpelled params) ts → ArePieces false (more_terms params ts)
unfolding punctuator_len
more_terms-are params [] h = (sign_tok refl refl refl refl, tt)
more_terms-are params (t ∷ []) h =
    (refl, (sign_tok refl refl refl refl, (refl, (term_tok params t h.0 refl (ends_semicolon _), more_terms-are params [] tt))))
more_terms-are params (t ∷ u ∷ us) h =
    (refl, (sign_tok refl refl refl refl, (refl, (term_tok params t h.0 refl (ends_blank _), more_terms-are params (u ∷ us) h.1))))

sum_terms-are : (params : List Param) (t : Term) (ts : List Term) → IsSpelled params t → All (IsSpelled params) ts → ArePieces false (sum_terms params (t ∷ ts))
unfolding punctuator_len
sum_terms-are params t [] w ws = (term_tok params t w refl (ends_semicolon _), more_terms-are params [] ws)
sum_terms-are params t (u ∷ us) w ws = (term_tok params t w refl (ends_blank _), more_terms-are params (u ∷ us) ws)

pub sum_line-is : (params : List Param) (indent : List ℕ) (t : Term) (ts : List Term) → list_all is_blank indent ≡ true → IsSpelled params t
    → All (IsSpelled params) ts → ArePieces true (sum_line params indent (t ∷ ts))
unfolding punctuator_len is_dropped_word is_dropped_statement
sum_line-is params indent t ts blanks w ws =
    (blanks, (word_tok refl refl refl refl, (refl, (sign_tok refl refl refl refl, (refl, sum_terms-are params t ts w ws)))))
