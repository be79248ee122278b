-- The glue text of a module: the C by which Perl calls its XSUBs. The layout is this project's own;
-- the calls are those of perlxs and perlapi.
use Rattle.std.specs.Fmt.{decimal}
use Rattle.std.specs.List.{concat, enumerate_from, flat_map, join_by}
use Rattle.std.specs.Prelude.{ℕ, List, [], ◌∷◌, ◌++◌, length, codes, Option, None, Some, slice_get}
use Rattle.xs_base.specs.declared.source.Line.{Line}
use Rattle.xs_iface.specs.declared.xsub.Module.{Module}
use Rattle.xs_iface.specs.declared.xsub.Param.{Param}
use Rattle.xs_iface.specs.declared.xsub.Term.{Term}
use Rattle.xs_iface.specs.declared.xsub.Term.TheVariants.{Literal, Parameter}
use Rattle.xs_iface.specs.declared.xsub.Xsub.{Xsub}
use Rattle.xs_iface.specs.Iface.{underscored}

-- what the elements of a list are made into, each with its index, one after the other
abbrev pub indexed : {X A : Type 0} → (ℕ → X → List A) → ℕ → List X → List A
indexed made index xs = flat_map (λ q. made q.0 q.1) (enumerate_from index xs)

-- the names of parameters, with a comma and a space between them
abbrev pub name_of : Param → List ℕ
name_of p = p.name

abbrev pub joined_names : List Param → List ℕ
joined_names params = join_by name_of (codes ", ") params

-- a variable for a parameter
unfoldable pub declaration_text : Param → List ℕ
declaration_text p = concat (codes "        int " ∷ p.name ∷ codes ";\n" ∷ [])

-- the variable gets the argument of this index
unfoldable pub input_text : ℕ → Param → List ℕ
input_text index p =
    concat (codes "        " ∷ p.name ∷ codes " = (int)SvIV(ST(" ∷ decimal index ∷ codes "));\n"
    ∷ [])

abbrev pub inputs_text : ℕ → List Param → List ℕ
inputs_text = indexed input_text

abbrev pub name_or_nothing : Option Param → List ℕ
name_or_nothing None = []
name_or_nothing (Some p) = p.name

abbrev pub term_text : List Param → Term → List ℕ
term_text params (Parameter at) = name_or_nothing (slice_get params at)
term_text params (Literal value) = decimal value

-- the terms of a sum, with a plus between them
abbrev pub sum_text : List Param → List Term → List ℕ
sum_text params terms = join_by (term_text params) (codes " + ") terms

-- The head of a glue function, with the test of the number of arguments and its croak.
unfoldable pub head_text : Xsub → List ℕ
head_text x =
    concat (codes "\nXS(" ∷ x.glue ∷ codes ")\n{\n    dXSARGS;\n    if (items != "
    ∷ decimal (length x.params) ∷ codes ")\n        croak_xs_usage(cv, \""
    ∷ joined_names x.params
    ∷ codes "\");\n    {\n" ∷ [])

-- The variables, the inputs in the order of the list, and the line of the author's code as it
-- stands.
unfoldable pub work_text : Xsub → List ℕ
work_text x =
    concat (flat_map declaration_text x.params
    ∷ codes "        int RETVAL;\n        SV *RETVALSV;\n" ∷ inputs_text 0 x.params ∷ x.indent
    ∷ codes "RETVAL = "
    ∷ sum_text x.params x.sum ∷ codes ";\n" ∷ [])

-- RETVAL becomes a new temporary, which is the one item that is returned.
unfoldable pub end_text : List ℕ
end_text = codes
    "        RETVALSV = sv_newmortal();\n        sv_setiv(RETVALSV, (IV)RETVAL);\n        ST(0) = RETVALSV;\n        XSRETURN(1);\n    }\n}\n"

-- the glue function of an XSUB
unfoldable pub xsub_text : Xsub → List ℕ
xsub_text x = concat (head_text x ∷ work_text x ∷ end_text ∷ [])

unfoldable pub registration_text : Xsub → List ℕ
registration_text x =
    concat (codes "    newXS_deffile(\"" ∷ x.full ∷ codes "\", " ∷ x.glue ∷ codes ");\n" ∷ [])

-- The boot function registers each glue function under its full name.
unfoldable pub boot_text : Module → List ℕ
boot_text m =
    concat (codes "\nXS(boot_" ∷ underscored m.boot ∷ codes ")\n{\n    dXSARGS;\n"
    ∷ flat_map registration_text m.xsubs ∷ codes "    XSRETURN_YES;\n}\n" ∷ [])

-- a line of the C part as it stands
abbrev pub c_line_text : Line → List ℕ
c_line_text line = line.text ++ codes "\n"

-- the whole text
unfoldable pub glue_text : Module → List ℕ
glue_text m =
    concat (codes "/* xsubpp glue, data model LP64 */\n" ∷ flat_map c_line_text m.c_part
    ∷ flat_map xsub_text m.xsubs ∷ boot_text m ∷ [])
