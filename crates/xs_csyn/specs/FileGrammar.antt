-- The grammar of files by its rules.
use Rattle.std.specs.Prelude.{◌≡◌, ℕ, Bool, true, false, ◌&&◌, List, [], ◌∷◌, codes}
use Rattle.xs_ctok.specs.declared.token.Token.{Token}
use Rattle.xs_cinput.specs.TypeReader.{with_name}
use Rattle.xs_csyn.specs.FileReader.{defines_of, type_of_item}
use Rattle.xs_csyn.specs.Grammar.{AType, Is, IsVariable, IsWord, MayName}
use Rattle.xs_csyn.specs.StatementGrammar.{Parts}
use Rattle.xs_csyn.specs.FileTree as tree
use Rattle.xs_cstmt.specs.StatementTree.{StmtTrees}
use Rattle.xs_csyn.specs.FileTree.{ItemTree, FileTree}
use Rattle.xs_cinput.specs.TokenInput.{is_sign, is_word, kept}
use Rattle.xs_ctok.specs.CWords.{is_no_name}
use Rattle.xs_cinput.specs.declared.tree.CType.{CType}
use Rattle.xs_csyn.specs.declared.tree.Head.{Head}
use Rattle.xs_csyn.specs.declared.tree.Par.{Par}
use Rattle.xs_values.specs.declared.model.DataModel.TheVariants as model

-- the fields of a record, up to after the closing brace
pub data Fields (types : List (List ℕ)) : List Par → List Token → List Token → Type 0 where
  fields_over : {t : Token} {ts : List Token} → Is (codes "}") t → Fields types [] (t ∷ ts) ts
  field : {to : CType} {all : List Par} {t u : Token} {ts us vs : List Token}
      → AType types to ts (t ∷ u ∷ us) → MayName t → Is (codes ";") u → Fields types all us vs
      → Fields types (record { line = t.span.line; of_type = to; name = t.text } ∷ all) ts vs

pub data Parameter (types : List (List ℕ)) : Par → List Token → List Token → Type 0 where
  parameter : {to : CType} {t : Token} {ts us : List Token} → AType types to ts (t ∷ us)
      → IsVariable types t
      → Parameter types (record { line = t.span.line; of_type = to; name = t.text }) ts us

-- one parameter or more, up to after the closing parenthesis
pub data SomeParameters (types : List (List ℕ)) : List Par → List Token → List Token → Type 0 where
  last_parameter : {p : Par} {t : Token} {ts us : List Token} → Parameter types p ts (t ∷ us)
      → Is (codes ")") t → SomeParameters types (p ∷ []) ts us
  more_parameters : {p : Par} {all : List Par} {t : Token} {ts us vs : List Token}
      → Parameter types p ts (t ∷ us) → Is (codes ",") t → SomeParameters types all us vs
      → SomeParameters types (p ∷ all) ts vs

-- after the opening parenthesis, up to after the closing one
pub data Parameters (types : List (List ℕ)) : List Par → List Token → List Token → Type 0 where
  no_parameters : {t : Token} {ts : List Token} → Is (codes ")") t
      → Parameters types [] (t ∷ ts) ts
  void_parameters : {t u : Token} {ts : List Token} → IsWord (codes "void") t → Is (codes ")") u
      → Parameters types [] (t ∷ u ∷ ts) ts
  some_parameters : {all : List Par} {ts us : List Token} → SomeParameters types all ts us
      → Parameters types all ts us

-- what stands before the body of a function
pub data AHead (types : List (List ℕ)) : Head → List Token → List Token → Type 0 where
  a_head : {to : CType} {all : List Par} {t u v : Token} {ts us vs : List Token}
      → AType types to (t ∷ ts) (u ∷ v ∷ us) → MayName u → Is (codes "(") v
      → Parameters types all us vs
      → AHead types (record { line = t.span.line; result = to; name = u.text; pars = all })
      (t ∷ ts) vs

-- the statement `dXSARGS;` stands in front
abbrev pub begins_body : List Token → Bool
begins_body (t ∷ u ∷ ts) = is_word (codes "dXSARGS") t && is_sign (codes ";") u
begins_body _ = false

pub data Item (types : List (List ℕ)) : ItemTree → List Token → List Token → Type 0 where
  a_typedef : {to : CType} {t u v : Token} {ts us : List Token} → IsWord (codes "typedef") t
      → AType types to ts (u ∷ v ∷ us) → MayName u → Is (codes ";") v
      → Item types (tree.TypedefItem (record {
        line = t.span.line;
        of_type = to;
        name = u.text;
        name_line = u.span.line;
      }))
      (t ∷ ts) us
  a_record : {all : List Par} {t u v w x : Token} {ts us : List Token}
      → IsWord (codes "typedef") t → IsWord (codes "struct") u → Is (codes "{") v
      → Fields types all ts (w ∷ x ∷ us) → MayName w → Is (codes ";") x
      → Item types (tree.RecordItem (record {
        line = t.span.line;
        fields = all;
        name = w.text;
        name_line = w.span.line;
      }))
      (t ∷ u ∷ v ∷ ts) us
  prototype : {head : Head} {t : Token} {ts us : List Token} → AHead types head ts (t ∷ us)
      → Is (codes ";") t → Item types (tree.PrototypeItem head) ts us
  function : {head : Head} {body : StmtTrees} {t : Token} {ts us vs : List Token}
      → AHead types head ts (t ∷ us) → Is (codes "{") t → Parts types body us vs
      → Item types (tree.FunctionItem (record { head = head; body = body })) ts vs
  xs_function : {body : StmtTrees} {t u v w x : Token} {ts us : List Token}
      → IsWord (codes "XS") t → Is (codes "(") u → MayName v → Is (codes ")") w → Is (codes "{") x
      → begins_body ts ≡ true → Parts types body ts us
      → Item types (tree.XsFunItem (record { line = t.span.line; name = v.text; body = body }))
      (t ∷ u ∷ v ∷ w ∷ x ∷ ts) us

-- An item is the scope of the types after it.
pub data File : List (List ℕ) → List ItemTree → List Token → Type 0 where
  file_over : {types : List (List ℕ)} → File types [] []
  item : {types : List (List ℕ)} {one : ItemTree} {all : List ItemTree} {ts us : List Token}
      → Item types one ts us → File (with_name types (type_of_item one)) all us
      → File types (one ∷ all) ts

-- what of these tokens the grammar reads is this file
pub record IsFile (file : FileTree) (ts : List Token) : Type 0 where
  pub stands : File [] file.items (kept true ts)
  pub defines : file.defines ≡ defines_of ts
  pub of_model : file.model ≡ model.Lp64

-- None of these names is a word of the grammar.
abbrev pub AreNames : List (List ℕ) → Type 0
AreNames [] = Unit {0}
AreNames (name ∷ names) = (is_no_name name ≡ false) × AreNames names
