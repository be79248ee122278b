-- The glue text is spelled by its lines.
use Rattle.std.proofs.Common.{◌≡◌, ℕ, ◌+◌, List, [], ◌∷◌, ◌++◌, codes, length, refl, sym, ap, append_assoc, append-nil, ◌∙◌}
use Rattle.std.specs.Fmt.{decimal}
use Rattle.std.specs.List.{flat_map}
use Rattle.xs_iface.specs.Iface.{underscored}
use Rattle.xs_iface.specs.declared.xsub.Module.{Module}
use Rattle.xs_iface.specs.declared.xsub.Param.{Param}
use Rattle.xs_iface.specs.declared.xsub.Term.{Term}
use Rattle.xs_iface.specs.declared.xsub.Xsub.{Xsub}
use Rattle.xs_stub.proofs.GlueLines.{boot_end_lines, boot_lines, declaration_lines, end_lines, glue_lines, input_lines, more_terms, opening_lines, registration_lines, result_lines, sum_lines, sum_terms, usage_lines, work_lines, xsub_lines}
use Rattle.xs_stub.proofs.LinePieces.{Piece, spelled, written, written-append, written-onto}
use Rattle.xs_stub.specs.Stub.{boot_text, declaration_text, end_text, head_text, input_text, inputs_text, joined_names, registration_text, sum_text, term_text, work_text, xsub_text}

-- The text is what the lines spell, whatever stands after it.
record Spells (text : List ℕ) (all : List (List Piece)) : Type 0 where
  onto : (rest : List ℕ) → text ++ rest ≡ written all rest

nothing : Spells [] []
nothing = record { onto = λ rest. refl }

spells : (text : List ℕ) (all : List (List Piece)) → text ≡ written all [] → Spells text all
spells text all e = record { onto = λ rest. ap (λ (t : List ℕ). t ++ rest) e ∙ written-onto all [] rest }

joined : {t u : List ℕ} {all more : List (List Piece)} → Spells t all → Spells u more → Spells (t ++ u) (all ++ more)
joined {t = t} {u = u} {all = all} {more = more} a b = record {
  onto = λ rest. append_assoc t u rest ∙ ap (λ (v : List ℕ). t ++ v) (b.onto rest) ∙ a.onto (written more rest) ∙ sym (written-append all more rest);
}

all_joined : {X : Type 0} (f : X → List ℕ) (g : X → List (List Piece)) → ((x : X) → Spells (f x) (g x)) → (xs : List X) → Spells (flat_map f xs) (flat_map g xs)
all_joined f g each [] = nothing
all_joined f g each (x ∷ xs) = joined (each x) (all_joined f g each xs)

-- ---- a glue function

-- the text of a function up to its first statement
abbrev opening_text : List ℕ → List ℕ
opening_text name = codes "\nXS(" ++ (name ++ codes ")\n{\n    dXSARGS;\n")

opening_spelled : (name : List ℕ) → Spells (opening_text name) (opening_lines name)
opening_spelled name = spells (opening_text name) (opening_lines name) refl

abbrev after_names : List ℕ
after_names = codes ");\n    {\n"

abbrev before_names : List Param → List ℕ → List ℕ
before_names params rest = codes "    if (items != " ++ (decimal (length params) ++ (codes ")\n        croak_xs_usage(cv, \"" ++ rest))

abbrev usage_text : List Param → List ℕ
usage_text params = before_names params (joined_names params ++ codes "\");\n    {\n")

usage_spelled : (params : List Param) → Spells (usage_text params) (usage_lines params)
usage_spelled params = spells (usage_text params) (usage_lines params)
    (ap (before_names params) (sym (append_assoc (joined_names params) (34 ∷ []) after_names)))

head_spelled : (x : Xsub) → Spells (head_text x) (opening_lines x.glue ++ usage_lines x.params)
unfolding head_text
head_spelled x = record {
  onto = λ rest.
      ap (λ (t : List ℕ). (codes "\nXS(" ++ t) ++ rest) (sym (append_assoc x.glue (codes ")\n{\n    dXSARGS;\n") (usage_text x.params)))
      ∙ (joined (opening_spelled x.glue) (usage_spelled x.params)).onto rest;
}

declaration_spelled : (p : Param) → Spells (declaration_text p) (declaration_lines p)
unfolding declaration_text
declaration_spelled p = spells (declaration_text p) (declaration_lines p) refl

input_spelled : (index : ℕ) (p : Param) (ps : List Param) → Spells (inputs_text (index + 1) ps) (input_lines (index + 1) ps)
    → Spells (inputs_text index (p ∷ ps)) (input_lines index (p ∷ ps))
unfolding input_text
input_spelled index p ps more = joined (spells (input_text index p) (input_lines index (p ∷ [])) refl) more

inputs_spelled : (index : ℕ) (ps : List Param) → Spells (inputs_text index ps) (input_lines index ps)
inputs_spelled index [] = nothing
inputs_spelled index (p ∷ ps) = input_spelled index p ps (inputs_spelled (index + 1) ps)

-- what stands after the first term of a sum
abbrev more_text : List Param → List Term → List ℕ
more_text params ts = flat_map (λ t. codes " + " ++ term_text params t) ts

more_spelled : (params : List Param) (ts : List Term) → more_text params ts ++ codes ";\n" ≡ spelled (more_terms params ts) (10 ∷ [])
more_spelled params [] = refl
more_spelled params (t ∷ ts) =
    ap (λ (u : List ℕ). codes " + " ++ u)
    (append_assoc (term_text params t) (more_text params ts) (codes ";\n") ∙ ap (λ (u : List ℕ). term_text params t ++ u) (more_spelled params ts))

sum_spelled : (params : List Param) (ts : List Term) → sum_text params ts ++ codes ";\n" ≡ spelled (sum_terms params ts) (10 ∷ [])
sum_spelled params [] = refl
sum_spelled params (t ∷ ts) =
    append_assoc (term_text params t) (more_text params ts) (codes ";\n") ∙ ap (λ (u : List ℕ). term_text params t ++ u) (more_spelled params ts)

abbrev line_text : Xsub → List ℕ
line_text x = x.indent ++ (codes "RETVAL = " ++ (sum_text x.params x.sum ++ codes ";\n"))

line_spelled : (x : Xsub) → Spells (line_text x) (sum_lines x)
line_spelled x = spells (line_text x) (sum_lines x) (ap (λ (t : List ℕ). x.indent ++ (codes "RETVAL = " ++ t)) (sum_spelled x.params x.sum))

abbrev result_text : List ℕ
result_text = codes "        int RETVAL;\n        SV *RETVALSV;\n"

work_spelled : (x : Xsub) → Spells (work_text x) (work_lines x)
unfolding work_text
work_spelled x =
    joined (all_joined declaration_text declaration_lines declaration_spelled x.params)
    (joined (spells result_text result_lines refl) (joined (inputs_spelled 0 x.params) (line_spelled x)))

end_spelled : Spells end_text end_lines
unfolding end_text
end_spelled = spells end_text end_lines refl

xsub_spelled : (x : Xsub) → Spells (xsub_text x) (xsub_lines x)
unfolding xsub_text
xsub_spelled x = record {
  onto = λ rest.
      ap (λ (t : List ℕ). (head_text x ++ (work_text x ++ t)) ++ rest) (append-nil end_text)
      ∙ (joined (head_spelled x) (joined (work_spelled x) end_spelled)).onto rest;
}

-- ---- the boot function

abbrev before_full : List ℕ → List ℕ
before_full rest = codes "    newXS_deffile(\"" ++ rest

registration_spelled : (x : Xsub) → Spells (registration_text x) (registration_lines x)
unfolding registration_text
registration_spelled x = spells (registration_text x) (registration_lines x)
    (ap before_full (sym (append_assoc x.full (34 ∷ []) (codes ", " ++ (x.glue ++ codes ");\n")))))

boot_spelled : (m : Module) → Spells (boot_text m) (boot_lines m)
unfolding boot_text
boot_spelled m =
    let registrations = flat_map registration_text m.xsubs in
    let end = codes "    XSRETURN_YES;\n}\n" in
    record {
      onto = λ rest.
          ap (λ (t : List ℕ). (codes "\nXS(boot_" ++ t) ++ rest) (sym (append_assoc (underscored m.boot) (codes ")\n{\n    dXSARGS;\n") (registrations ++ end)))
          ∙ (joined (opening_spelled (codes "boot_" ++ underscored m.boot))
          (joined (all_joined registration_text registration_lines registration_spelled m.xsubs)
          (spells end boot_end_lines refl))).onto rest;
    }

-- The text after the C part is what its lines spell.
pub glue_spelled : (m : Module) → flat_map xsub_text m.xsubs ++ (boot_text m ++ []) ≡ written (glue_lines m) []
glue_spelled m =
    sym (append_assoc (flat_map xsub_text m.xsubs) (boot_text m) [])
    ∙ (joined (all_joined xsub_text xsub_lines xsub_spelled m.xsubs) (boot_spelled m)).onto []
