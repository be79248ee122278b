-- The intended tree of a module's glue has names and types, and its code is the glue code but for places; so it is for each
-- tree that is equal to it but for lines.
use Rattle.std.proofs.Common.{◌≡◌, ℕ, suc, ◌+◌, Bool, true, false, List, [], ◌∷◌, ◌++◌, codes, map, length, Some, None, Ok, refl, sym, ap, ap₂, ◌∙◌, subst, arith, append_assoc, append-nil}
use Rattle.std.proofs.ByRecursion.{All-weaker}
use Rattle.std.proofs.lemmas.Bool.{le-ltb}
use Rattle.std.proofs.lemmas.List.{length_push}
use Rattle.std.specs.Str.{bytes_eq}
use Rattle.xs_cstmt.specs.StatementTree as syntax
use Rattle.xs_cstmt.specs.StatementTree.{StmtTree, stmts_of}
use Rattle.xs_csyn.specs.FileTree.{FileTree, ItemTree, XsFunItem, unlined}
use Rattle.xs_iface.specs.declared.xsub.Module.{Module}
use Rattle.xs_iface.specs.declared.xsub.Param.{Param}
use Rattle.xs_iface.specs.declared.xsub.Xsub.{Xsub}
use Rattle.xs_iface.specs.Iface.{underscored}
use Rattle.std.specs.List.{AllByRecursion as All}
use Rattle.xs_iface.specs.SumForm.{Differ, IsSumModule, IsSumXsub}
use Rattle.xs_iface.specs.ReservedWords.{is_free}
use Rattle.xs_ccheck.proofs.Unlined.{stmts_bare, types_without_lines}
use Rattle.xs_ctypes.specs.Checked.{Good}
use Rattle.xs_ccheck.specs.FileTyping.{code_meant, function, functions, item, outermost, sort_of, typed_of}
use Rattle.xs_ctypes.specs.FileNames.{FileNames, index_of, is_boot_name, item_name}
use Rattle.xs_ctypes.specs.Scopes.{Local, Scope, beginning, declared_in, outside, variable_of}
use Rattle.xs_ccheck.specs.declared.enclosing.Where.{Where}
use Rattle.xs_ctree.specs.TypedTree as code
use Rattle.xs_ctree.specs.TypedTree.{Code, Function, Stmt, bare, bare_function, bare_slot, bare_stmt}
use Rattle.xs_perlapi.specs.declared.row.Row.TheVariants.{Entry}
use Rattle.xs_perlapi.specs.Table.{api_words, is_api_word, is_interface_word}
use Rattle.xs_stub.specs.Intended.{boot_tree, declared, declared_param, declared_result, dxsargs, glue_tree, work_of, xsub_tree}
use Rattle.xs_call.specs.Laws.{TextResolves}
use Rattle.xs_call.specs.GlueCode.{argument_test, boot_function, declarations, functions_on, glue_code, param_slots, slots_of, work, xsub_function}
use Rattle.xs_sim.specs.TreeBuilders.{block_of, row_done}
use Rattle.xs_call.proofs.TypedNames.{IndexedFrom, all_known, all_indexed, differ_after, int_at, int_local, locals_from, no_param, no_retval, no_scalar, none_found, none_known, not_reserved, scalar_at, scalar_local}
use Rattle.xs_call.proofs.TypedStatements.{Becomes, Nothing, Then, become, block, inputs_become, int_declared, joined, not_in_use, params_declared, indexed, registrations_become, return_becomes, scalar_declared, sum_becomes, usage_becomes, value_becomes, within}

-- ---- the variables of an XSUB

-- RETVAL and RETVALSV after the parameters
abbrev results : ℕ → ℕ → List Local
results line slot = int_local line (codes "RETVAL") slot ∷ scalar_local line (codes "RETVALSV") (slot + 1) ∷ []

abbrev working : ℕ → List Param → Scope
working line ps = within (locals_from line 0 ps ++ results line (length ps))

locals_size : (line slot : ℕ) (ps : List Param) → length (locals_from line slot ps) ≡ length ps
locals_size line slot [] = refl
locals_size line slot (p ∷ ps) = ap suc (locals_size line (slot + 1) ps)

-- the slots of these variables, without their lines
slots_are : (line slot : ℕ) (ps : List Param) (others : List Local)
    → map bare_slot (map (λ v. v.slot) (locals_from line slot ps ++ others)) ≡ param_slots slot ps ++ map bare_slot (map (λ v. v.slot) others)
slots_are line slot [] others = refl
slots_are line slot (p ∷ ps) others = ap (λ ss. bare_slot (int_at line slot) ∷ ss) (slots_are line (slot + 1) ps others)

retval_free : is_interface_word (codes "RETVAL") ≡ false
unfolding is_interface_word is_api_word api_words
retval_free = refl

scalar_free : is_interface_word (codes "RETVALSV") ≡ false
unfolding is_interface_word is_api_word api_words
scalar_free = refl

no_param_retval : (ps : List Param) → All (λ p. is_free p.name ≡ true) ps → All (λ p. bytes_eq p.name (codes "RETVAL") ≡ false) ps
no_param_retval = All-weaker (λ (p : Param). is_free p.name ≡ true) (λ (p : Param). bytes_eq p.name (codes "RETVAL")
    ≡ false) (λ p free. no_retval p.name (not_reserved p.name free))

no_param_scalar : (ps : List Param) → All (λ p. is_free p.name ≡ true) ps → All (λ p. bytes_eq p.name (codes "RETVALSV") ≡ false) ps
no_param_scalar = All-weaker (λ (p : Param). is_free p.name ≡ true) (λ (p : Param). bytes_eq p.name (codes "RETVALSV")
    ≡ false) (λ p free. no_scalar p.name (not_reserved p.name free))

only_retval : (line slot : ℕ) → variable_of (int_local line (codes "RETVAL") slot ∷ []) (codes "RETVALSV") ≡ None
unfolding variable_of
only_retval line slot = refl

first_result : (line slot : ℕ) → variable_of (results line slot) (codes "RETVAL") ≡ Some (int_at line slot)
unfolding variable_of
first_result line slot = refl

second_result : (line slot : ℕ) → variable_of (results line slot) (codes "RETVALSV") ≡ Some (scalar_at line (slot + 1))
unfolding variable_of
second_result line slot = refl

retval_new : (line : ℕ) (ps : List Param) → All (λ p. is_free p.name ≡ true) ps → variable_of (locals_from line 0 ps) (codes "RETVAL") ≡ None
retval_new line ps free =
    ap (λ v. variable_of v (codes "RETVAL")) (sym (append-nil (locals_from line 0 ps)))
    ∙ no_param (codes "RETVAL") line 0 ps [] (no_param_retval ps free) ∙ none_found (codes "RETVAL")

scalar_new : (line : ℕ) (ps : List Param) (slot : ℕ) → All (λ p. is_free p.name ≡ true) ps
    → variable_of (locals_from line 0 ps ++ int_local line (codes "RETVAL") slot ∷ []) (codes "RETVALSV") ≡ None
scalar_new line ps slot free =
    no_param (codes "RETVALSV") line 0 ps (int_local line (codes "RETVAL") slot ∷ []) (no_param_scalar ps free) ∙ only_retval line slot

retval_known : (line : ℕ) (ps : List Param) (slot : ℕ) → All (λ p. is_free p.name ≡ true) ps
    → variable_of (locals_from line 0 ps ++ results line slot) (codes "RETVAL") ≡ Some (int_at line slot)
retval_known line ps slot free = no_param (codes "RETVAL") line 0 ps (results line slot) (no_param_retval ps free) ∙ first_result line slot

scalar_known : (line : ℕ) (ps : List Param) (slot : ℕ) → All (λ p. is_free p.name ≡ true) ps
    → variable_of (locals_from line 0 ps ++ results line slot) (codes "RETVALSV") ≡ Some (scalar_at line (slot + 1))
scalar_known line ps slot free = no_param (codes "RETVALSV") line 0 ps (results line slot) (no_param_scalar ps free) ∙ second_result line slot

-- ---- the block of an XSUB

abbrev result_declarations : ℕ → List Stmt
result_declarations slot = code.Declare 0 slot ∷ code.Declare 0 (slot + 1) ∷ []

module _ (names : FileNames) (w : Where) (line : ℕ) where
  -- both results, after some variables
  results_at : (vs : List Local) → variable_of vs (codes "RETVAL") ≡ None
      → variable_of (vs ++ int_local line (codes "RETVAL") (length vs) ∷ []) (codes "RETVALSV") ≡ None
      → Becomes names w (within vs) (declared_result line) (result_declarations (length vs)) (within (vs ++ results line (length vs)))
  results_at vs first second =
      let one = int_local line (codes "RETVAL") (length vs) in
      let two = λ (n : ℕ). scalar_local line (codes "RETVALSV") n in
      let with_one = vs ++ one ∷ [] in
      Then (int_declared names w vs line (codes "RETVAL") (not_in_use vs (codes "RETVAL") retval_free first))
      (subst (λ n. Becomes names w (within with_one) (declared line (codes "SV") 1 (codes "RETVALSV") ∷ []) (code.Declare 0 n ∷ [])
      (within (vs ++ one ∷ two n ∷ []))) (length_push vs one)
      (subst (λ us. Becomes names w (within with_one) (declared line (codes "SV") 1 (codes "RETVALSV") ∷ []) (code.Declare 0 (length with_one) ∷ [])
      (within us)) (append_assoc vs (one ∷ []) (two (length with_one) ∷ []))
      (Then (scalar_declared names w with_one line (codes "RETVALSV") (not_in_use with_one (codes "RETVALSV") scalar_free second)) Nothing)))

  results_become : (ps : List Param) → All (λ p. is_free p.name ≡ true) ps
      → Becomes names w (within (locals_from line 0 ps)) (declared_result line) (result_declarations (length ps)) (working line ps)
  results_become ps free =
      let vs = locals_from line 0 ps in
      subst (λ n. Becomes names w (within vs) (declared_result line) (result_declarations n) (within (vs ++ results line n))) (locals_size line 0 ps)
      (results_at vs (retval_new line ps free) (scalar_new line ps (length vs) free))

regrouped : (ds : List Stmt) (d e : Stmt) (is : List Stmt) (s a b c g : Stmt)
    → ((((ds ++ (d ∷ e ∷ [])) ++ is) ++ (s ∷ [])) ++ (a ∷ b ∷ [])) ++ (c ∷ g ∷ []) ≡ (ds ++ (d ∷ e ∷ is)) ++ (s ∷ a ∷ b ∷ c ∷ g ∷ [])
regrouped ds d e is s a b c g = simp append_assoc

module _ (names : FileNames) (w : Where) where
  work_becomes : (x : Xsub) → IsSumXsub x → Becomes names w (within []) (work_of x) (work x) (working x.line x.params)
  work_becomes x h =
      let here = working x.line x.params in
      let retval = retval_known x.line x.params (length x.params) h.free_params in
      let scalar = scalar_known x.line x.params (length x.params) h.free_params in
      let known = all_known x.line 0 x.params (results x.line (length x.params)) h.params_differ in
      subst (λ ts. Becomes names w (within []) (work_of x) ts here) (regrouped (declarations 0 x.params) _ _ _ _ _ _ _ _)
      (joined names w
      (joined names w
      (joined names w
      (joined names w
      (joined names w (params_declared names w [] x.line x.params h.free_params h.params_differ (none_known x.params))
      (results_become names w x.line x.params h.free_params))
      (inputs_become names w here x.line 0 x.params known (omega (arith, h.few_params))))
      (sum_becomes names w here x.code_line x.line (length x.params) x.params x.sum h.first_term h.more_terms retval known h.sum_is h.terms))
      (value_becomes names w here x.output_line x.line (length x.params) (length x.params + 1) retval scalar))
      (return_becomes names w here x.line x.line (length x.params + 1) scalar))

-- ---- functions

glue_is_none : (x : Xsub) → IsSumXsub x → is_boot_name x.glue ≡ false
unfolding is_boot_name
glue_is_none x h = ap is_boot_name h.glue

is_boot : (name : List ℕ) → is_boot_name (codes "boot_" ++ name) ≡ true
unfolding is_boot_name
is_boot name = refl

-- An item is this function but for places.
record IsFunction (names : FileNames) (at : ℕ) (i : ItemTree) (f : Function) : Type 0 where
  tree : Function
  is : item names at i ≡ Good tree
  same : bare_function tree ≡ f

-- From an index on the items are these functions but for places.
record AreFunctions (names : FileNames) (at : ℕ) (all : List ItemTree) (fs : List Function) : Type 0 where
  trees : List Function
  is : functions names at all ≡ Good trees
  same : map bare_function trees ≡ fs

-- the function of these statements, without places
abbrev bare_done : List ℕ → Bool → Scope → List Stmt → Function
bare_done name in_boot end us = record {
  name = name;
  sort = sort_of in_boot;
  slots = map bare_slot end.slots;
  body = block_of (map bare_slot (declared_in beginning end)) (row_done Entry [] ∷ us);
}

module _ (names : FileNames) where
  made : (at line entry : ℕ) (name : List ℕ) (in_boot : Bool) (all : List StmtTree) (us : List Stmt) (end : Scope) → is_boot_name name ≡ in_boot
      → Becomes names (outermost in_boot) beginning all us end → index_of names.functions name ≡ Some at
      → IsFunction names at (XsFunItem (record { line = line; name = name; body = stmts_of (syntax.Perl entry dxsargs ∷ all) }))
      (bare_done name in_boot end us)
  unfolding function
  made at line entry name in_boot all us end e b k =
      let after = become names (outermost in_boot) b in
      let first : Stmt = code.Effect (code.Api entry Entry code.NoExprs) in
      record {
        tree = record {
          name = name;
          sort = sort_of in_boot;
          slots = end.slots;
          body = code.Block (declared_in beginning end) (code.stmts_of (first ∷ after.trees));
        };
        is = rw (e, after.is, after.moves, k, le-ltb at at (omega arith)) refl;
        same = ap (λ ts. record {
          name = name;
          sort = sort_of in_boot;
          slots = map bare_slot end.slots;
          body = code.Block (map bare_slot (declared_in beginning end)) ts;
        }) (stmts_bare (first ∷ after.trees) ∙ ap (λ ts. code.stmts_of (row_done Entry [] ∷ ts)) after.same);
      }

  xsub_typed : (at : ℕ) (x : Xsub) → IsSumXsub x → index_of names.functions x.glue ≡ Some at → IsFunction names at (xsub_tree x) (xsub_function x)
  xsub_typed at x h k =
      let w : Where = outermost false in
      let inner = working x.line x.params in
      subst (λ ss. IsFunction names at (xsub_tree x) (record {
        name = x.glue;
        sort = sort_of false;
        slots = ss;
        body = block_of [] (row_done Entry [] ∷ argument_test x ∷ block_of ss (work x) ∷ []);
      })) (slots_are x.line 0 x.params (results x.line (length x.params)))
      (made at x.line x.line x.glue false _ _ (outside (within []) inner) (glue_is_none x h)
      (Then (usage_becomes names w (within []) x.line x.params (none_found (codes "items")) (omega (arith, h.few_params)))
      (Then (block names w (within []) inner x.line (work_of x) (work x) (work_becomes names w x h)) Nothing)) k)

  boot_typed : (at : ℕ) (m : Module) → IndexedFrom 0 names.functions 0 (map (λ x. x.glue) m.xsubs)
      → index_of names.functions (codes "boot_" ++ underscored m.boot) ≡ Some at → IsFunction names at (boot_tree m) (boot_function m)
  boot_typed at m all k =
      let w : Where = outermost true in
      made at m.boot_line m.boot_line (codes "boot_" ++ underscored m.boot) true _ _ beginning (is_boot (underscored m.boot))
      (registrations_become names w beginning m.boot_line 0 m.xsubs refl all) k

  functions_typed : (m : Module) (at : ℕ) (xs : List Xsub) → All IsSumXsub xs → IndexedFrom 0 names.functions 0 (map (λ x. x.glue) m.xsubs)
      → IndexedFrom 0 names.functions at (map (λ x. x.glue) xs ++ (codes "boot_" ++ underscored m.boot) ∷ [])
      → AreFunctions names at (map xsub_tree xs ++ boot_tree m ∷ []) (functions_on (boot_function m) xs)
  functions_typed m at [] hs all k =
      let last = boot_typed at m all (indexed names (outermost true) _ at k.0) in
      record { trees = last.tree ∷ []; is = rw last.is refl; same = ap (λ f. f ∷ []) last.same }
  functions_typed m at (x ∷ xs) hs all k =
      let first = xsub_typed at x hs.0 (indexed names (outermost true) x.glue at k.0) in
      let rest = functions_typed m (at + 1) xs hs.1 all k.1 in
      record { trees = first.tree ∷ rest.trees; is = rw (first.is, rest.is) refl; same = ap₂ (λ f fs. f ∷ fs) first.same rest.same }

-- ---- the file

names_are : (m : Module) (xs : List Xsub) → map item_name (map xsub_tree xs ++ boot_tree m ∷ [])
    ≡ map (λ x. x.glue) xs ++ (codes "boot_" ++ underscored m.boot) ∷ []
names_are m [] = refl
names_are m (x ∷ xs) = ap (λ ns. x.glue ∷ ns) (names_are m xs)

none_boots : (name : List ℕ) (xs : List Xsub) → All IsSumXsub xs → All (λ n. bytes_eq n (codes "boot_" ++ name) ≡ false) (map (λ x. x.glue) xs)
none_boots name [] hs = tt
none_boots name (x ∷ xs) hs = (ap (λ g. bytes_eq g (codes "boot_" ++ name)) hs.0.glue, none_boots name xs hs.1)

indexed_front : (first : ℕ) (names : List (List ℕ)) (at : ℕ) (ns more : List (List ℕ)) → IndexedFrom first names at (ns ++ more) → IndexedFrom first names at ns
indexed_front first names at [] more k = tt
indexed_front first names at (n ∷ ns) more k = (k.0, indexed_front first names (at + 1) ns more k.1)

-- The intended tree of a module's glue has the glue code, but for places.
pub glue_typed : (m : Module) → IsSumModule m → (c : Code) × ((typed_of (glue_tree m) ≡ Ok c) × (bare c ≡ glue_code m))
unfolding typed_of code_meant glue_tree glue_code
glue_typed m h =
    let glues = map (λ x. x.glue) m.xsubs in
    let boot = codes "boot_" ++ underscored m.boot in
    let all : IndexedFrom 0 (glues ++ boot ∷ []) 0 (glues ++ boot ∷ []) =
    all_indexed 0 (glues ++ boot ∷ []) (differ_after glues boot h.glues_differ (none_boots (underscored m.boot) m.xsubs h.xsubs)) in
    let names : FileNames = record { functions = glues ++ boot ∷ [] } in
    let them = functions_typed names m 0 m.xsubs h.xsubs (indexed_front 0 (glues ++ boot ∷ []) 0 glues (boot ∷ []) all) all in
    let named = ap (λ ns. functions (record { functions = ns }) 0 (map xsub_tree m.xsubs ++ boot_tree m ∷ [])) (names_are m m.xsubs) in
    (record { records = []; functions = them.trees }, (rw (named ∙ them.is) refl, ap (λ fs. record { records = []; functions = fs }) them.same))

-- So has each tree that is equal to it but for lines.
pub text_typed : TextResolves
text_typed m h t same =
    let glue = glue_typed m h in
    let there = types_without_lines (glue_tree m) t glue.0 glue.1.0 (sym same) in
    (there.0, (there.1.0, sym there.1.1 ∙ glue.1.1))
