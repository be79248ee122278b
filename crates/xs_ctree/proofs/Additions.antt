-- Code grows: what it names is there after each addition, and what was there stays the same.
use Rattle.std.proofs.Common.{append-nil, ◌^◌, length-append, ◌≡◌, ℕ, zero, suc, ◌+◌, ◌<◌, ◌≤◌, Bool, true, false, cond, List, [], ◌∷◌, ◌++◌, length, map, take, get_or, Option, Some, Result, Ok, Err, refl, sym, ap, ap₂, ◌∙◌, subst, arith}
use Rattle.std.specs.List.{list_all}
use Rattle.std.specs.Prelude.{IfOk, slice_get, slice_index_or, nat_lt}
use Rattle.std.proofs.lemmas.Bool.{and_from, and_parts}
use Rattle.std.proofs.lemmas.Bool.Decides.{nat_tests}
use Rattle.std.proofs.lemmas.List.{append_assoc, get_or_push, length-map, length-take-le, length_push, map-append, take_all, take_more}
use Rattle.std.proofs.lemmas.List.Folds.{list_all-append}
use Rattle.std.proofs.lemmas.Option.{same_Some}
use Rattle.xs_base.specs.declared.memory.Memory.{Memory}
use Rattle.xs_perlapi.specs.declared.row.Row.{Row}
use Rattle.xs_values.specs.Numbers.{Number}
use Rattle.xs_values.specs.declared.kind.Kind.{Kind}
use Rattle.xs_ctree.specs.declared.node.ExprNode.{ExprNode}
use Rattle.xs_ctree.specs.declared.node.ExprNode.TheVariants as expr_node
use Rattle.xs_ctree.specs.declared.node.FunctionNode.{FunctionNode}
use Rattle.xs_ctree.specs.declared.node.Group.{Group}
use Rattle.xs_ctree.specs.declared.node.GroupNode.{GroupNode}
use Rattle.xs_ctree.specs.declared.node.Range.{Range}
use Rattle.xs_ctree.specs.declared.node.StmtNode.{StmtNode}
use Rattle.xs_ctree.specs.declared.node.StmtNode.TheVariants as stmt_node
use Rattle.xs_ctree.specs.declared.typed.Typed.{Typed}
use Rattle.xs_ctree.specs.declared.value_type.Slot.{Slot}
use Rattle.xs_ctree.specs.Arena.{Arena, arena, Fits, all_below, expr_fits, expr_from, function_of, group_fits, group_parts, is_within, ranged, stmt_fits, stmt_from}
use Rattle.xs_ctree.specs.Functions.{arena_of, expr_in, stmt_in}
use Rattle.xs_ctree.specs.Growth.{AddsExpr, AddsGroup, AddsGroups, AddsLabels, AddsParts, AddsSlots, AddsStmt, AddsText, GroupsStand, Keeps, Longer, SameNodes, group_view, has_stmts}
use Rattle.xs_ctree.specs.TypedTree.{Expr, Exprs, Stmt, Api, Block, Call, Croak, Switch, MoreGroups, exprs_of, groups_from, stmts_of}
use Rattle.xs_ctree.proofs.Extending.{Begins, Extends, same, grows, get_last, range_added, within_added, all_still, expr_fits_still, stmt_fits_still}
use Rattle.xs_ctree.proofs.Opening.{map_same, same_expr, same_stmt, expr_stays, stmt_stays, functions_stay, expr_opens, stmt_opens}

-- ---- what nodes name is there

-- what holds of each element of a list and of one more
pushed : {X : Type 0} (P : ℕ → X → Type 0) (xs : List X) (x : X) (i : ℕ) (y : X) → ((j : ℕ) (z : X) → slice_get xs j ≡ Some z → P j z)
    → P (length xs) x → slice_get (xs ++ x ∷ []) i ≡ Some y → P i y
pushed P [] x zero y each last e = subst (P 0) (same_Some x y e) last
pushed P [] x (suc i) y each last e = absurd cc
pushed P (w ∷ xs) x zero y each last e = each zero y e
pushed P (w ∷ xs) x (suc i) y each last e = pushed (λ j z. P (suc j) z) xs x i y (λ j z. each (suc j) z) last e

module _ (texts : List (List ℕ)) (parts : List ℕ) (slots : List Slot) (labels : List (Option Number)) (groups : List GroupNode)
    (exprs : List ExprNode) (stmts : List StmtNode) (all : List FunctionNode) (fits : Fits (arena texts parts slots labels groups exprs stmts) all) where
  abbrev now : Arena
  now = arena texts parts slots labels groups exprs stmts

  -- in an arena whose nodes are the same
  fits_in : (texts1 : List (List ℕ)) (parts1 : List ℕ) (slots1 : List Slot) (labels1 : List (Option Number)) (groups1 : List GroupNode)
      → Begins texts texts1 → Begins parts parts1 → Begins slots slots1 → Begins labels labels1 → Begins groups groups1
      → Fits (arena texts1 parts1 slots1 labels1 groups1 exprs stmts) all
  fits_in texts1 parts1 slots1 labels1 groups1 t p s l g =
      let then = arena texts1 parts1 slots1 labels1 groups1 exprs stmts in
      let ext : Extends now then = record { texts = t; parts = p; slots = s; labels = l; groups = g; exprs = same exprs; stmts = same stmts } in
      record {
        expr = λ i n e. expr_fits_still now then ext i n (fits.expr i n e);
        stmt = λ i n e. stmt_fits_still now then ext i n (fits.stmt i n e);
        body = fits.body;
      }

  pub text_fits : (b : Bool) (more : List (List ℕ)) → Fits (arena (cond b (texts ++ more) texts) parts slots labels groups exprs stmts) all
  text_fits true more = fits_in (texts ++ more) parts slots labels groups (grows texts more) (same parts) (same slots) (same labels) (same groups)
  text_fits false more = fits

  pub parts_fit : (b : Bool) (more : List ℕ) → Fits (arena texts (cond b (parts ++ more) parts) slots labels groups exprs stmts) all
  parts_fit true more = fits_in texts (parts ++ more) slots labels groups (same texts) (grows parts more) (same slots) (same labels) (same groups)
  parts_fit false more = fits

  pub slots_fit : (b : Bool) (more : List Slot) → Fits (arena texts parts (cond b (slots ++ more) slots) labels groups exprs stmts) all
  slots_fit true more = fits_in texts parts (slots ++ more) labels groups (same texts) (same parts) (grows slots more) (same labels) (same groups)
  slots_fit false more = fits

  pub labels_fit : (b : Bool) (more : List (Option Number)) → Fits (arena texts parts slots (cond b (labels ++ more) labels) groups exprs stmts) all
  labels_fit true more = fits_in texts parts slots (labels ++ more) groups (same texts) (same parts) (same slots) (grows labels more) (same groups)
  labels_fit false more = fits

  pub groups_fit_more : (b : Bool) (more : List GroupNode) → Fits (arena texts parts slots labels (cond b (groups ++ more) groups) exprs stmts) all
  groups_fit_more true more = fits_in texts parts slots labels (groups ++ more) (same texts) (same parts) (same slots) (same labels) (grows groups more)
  groups_fit_more false more = fits

  pub expr_fits_more : (b : Bool) (node : ExprNode) → expr_fits now (length exprs) node ≡ true
      → Fits (arena texts parts slots labels groups (cond b (exprs ++ node ∷ []) exprs) stmts) all
  expr_fits_more true node new =
      let two = arena texts parts slots labels groups (exprs ++ node ∷ []) stmts in
      let ext : Extends now two = record {
        texts = same texts;
        parts = same parts;
        slots = same slots;
        labels = same labels;
        groups = same groups;
        exprs = grows exprs (node ∷ []);
        stmts = same stmts;
      } in
      record {
        expr = λ i n e. pushed (λ j m. expr_fits two j m ≡ true) exprs node i n (λ j m h. expr_fits_still now two ext j m (fits.expr j m h))
            (expr_fits_still now two ext (length exprs) node new) e;
        stmt = λ i n e. stmt_fits_still now two ext i n (fits.stmt i n e);
        body = fits.body;
      }
  expr_fits_more false node new = fits

  pub stmt_fits_more : (b : Bool) (node : StmtNode) → stmt_fits now (length stmts) node ≡ true
      → Fits (arena texts parts slots labels groups exprs (cond b (stmts ++ node ∷ []) stmts)) all
  stmt_fits_more true node new =
      let two = arena texts parts slots labels groups exprs (stmts ++ node ∷ []) in
      let ext : Extends now two = record {
        texts = same texts;
        parts = same parts;
        slots = same slots;
        labels = same labels;
        groups = same groups;
        exprs = same exprs;
        stmts = grows stmts (node ∷ []);
      } in
      record {
        expr = λ i n e. expr_fits_still now two ext i n (fits.expr i n e);
        stmt = λ i n e. pushed (λ j m. stmt_fits two j m ≡ true) stmts node i n (λ j m h. stmt_fits_still now two ext j m (fits.stmt j m h))
            (stmt_fits_still now two ext (length stmts) node new) e;
        body = λ i f e. omega (arith, fits.body i f e, length_push stmts node);
      }
  stmt_fits_more false node new = fits

-- ---- what was there stays the same

begins_same : {X : Type 0} (xs ys : List X) → ys ≡ xs → Begins xs ys
begins_same xs ys e = subst (Begins xs) (sym e) (same xs)

begins_by : {X : Type 0} (xs ys more : List X) → ys ≡ xs ++ more → Begins xs ys
begins_by xs ys more e = subst (Begins xs) (sym e) (grows xs more)

pub itself : (a : Arena) → Extends a a
itself a = record {
  texts = same a.texts;
  parts = same a.parts;
  slots = same a.slots;
  labels = same a.labels;
  groups = same a.groups;
  exprs = same a.exprs;
  stmts = same a.stmts;
}

pub keeps_all : (t : Typed) → Keeps t t
keeps_all t = record { expr = λ i h. refl; stmt = λ i h. refl; functions = refl; records = refl; exprs = omega arith; stmts = omega arith }

pub keeps_on : (a b c : Typed) → Keeps a b → Keeps b c → Keeps a c
keeps_on a b c h k =
    record {
      expr = λ i lt. k.expr i (omega (arith, lt, h.exprs)) ∙ h.expr i lt;
      stmt = λ i lt. k.stmt i (omega (arith, lt, h.stmts)) ∙ h.stmt i lt;
      functions = k.functions ∙ h.functions;
      records = k.records ∙ h.records;
      exprs = omega (arith, h.exprs, k.exprs);
      stmts = omega (arith, h.stmts, k.stmts);
    }

below : (i n m : ℕ) → i ≡ n → m ≡ n + 1 → nat_lt i m ≡ true
below i n m e k = grind (arith, nat_tests)

is_below : (i n : ℕ) → i < n → nat_lt i n ≡ true
is_below i n h = grind (arith, nat_tests)

module _ (old new : Typed) (ef : new.functions.items ≡ old.functions.items) (er : new.records.items ≡ old.records.items) where
  kept : Extends (arena_of old) (arena_of new) → Keeps old new
  kept ext =
      record {
        expr = expr_stays (arena_of old) (arena_of new) ext old.functions.items old.fits;
        stmt = stmt_stays (arena_of old) (arena_of new) ext old.functions.items old.fits;
        functions = ap (λ fs. map (function_of (arena_of new)) fs) ef
            ∙ functions_stay (arena_of old) (arena_of new) ext old.functions.items old.fits;
        records = er;
        exprs = ext.exprs.longer;
        stmts = ext.stmts.longer;
      }

  -- what a list of the arena was, or what it has after that
  extended : (texts : Begins old.texts.items new.texts.items) → Begins old.parts.items new.parts.items → Begins old.slots.items new.slots.items
      → Begins old.labels.items new.labels.items → Begins old.groups.items new.groups.items → Begins old.exprs.items new.exprs.items
      → Begins old.stmts.items new.stmts.items → Extends (arena_of old) (arena_of new)
  extended t p s l g e x = record { texts = t; parts = p; slots = s; labels = l; groups = g; exprs = e; stmts = x }

  pub added_expr : (n : ExprNode) (at : ℕ) → at ≡ length old.exprs.items → expr_fits (arena_of old) (length old.exprs.items) n ≡ true
      → new.exprs.items ≡ old.exprs.items ++ n ∷ [] → new.stmts.items ≡ old.stmts.items → new.parts.items ≡ old.parts.items
      → new.slots.items ≡ old.slots.items → new.labels.items ≡ old.labels.items → new.groups.items ≡ old.groups.items → new.texts.items ≡ old.texts.items
      → AddsExpr old (expr_from (arena_of old) (Some n) (expr_in old)) at new
  added_expr n at ea fit en es ep el eb eg et =
      let last = length old.exprs.items in
      let ext = extended (begins_same old.texts.items new.texts.items et) (begins_same old.parts.items new.parts.items ep)
      (begins_same old.slots.items new.slots.items el) (begins_same old.labels.items new.labels.items eb) (begins_same old.groups.items new.groups.items eg)
      (begins_by old.exprs.items new.exprs.items (n ∷ []) en) (begins_same old.stmts.items new.stmts.items es) in
      let keeps : Keeps old new = kept ext in
      record {
        keeps = keeps;
        there = omega (arith, ea, ap length en, length_push old.exprs.items n);
        is = ap (expr_in new) ea
            ∙ expr_opens (arena_of new) new.functions.items new.fits (itself (arena_of new)) last
            ∙ ap (λ o. expr_from (arena_of new) o (expr_in new)) (ap (λ ns. slice_get ns last) en ∙ get_last old.exprs.items n)
            ∙ same_expr (arena_of old) (arena_of new) ext last (expr_in new) (expr_in old) keeps.expr n fit;
      }

  pub added_stmt : (n : StmtNode) (at : ℕ) → at ≡ length old.stmts.items → stmt_fits (arena_of old) (length old.stmts.items) n ≡ true
      → new.exprs.items ≡ old.exprs.items → new.stmts.items ≡ old.stmts.items ++ n ∷ [] → new.parts.items ≡ old.parts.items
      → new.slots.items ≡ old.slots.items → new.labels.items ≡ old.labels.items → new.groups.items ≡ old.groups.items → new.texts.items ≡ old.texts.items
      → AddsStmt old (stmt_from (arena_of old) (Some n) (expr_in old) (stmt_in old)) at new
  added_stmt n at ea fit en es ep el eb eg et =
      let last = length old.stmts.items in
      let ext = extended (begins_same old.texts.items new.texts.items et) (begins_same old.parts.items new.parts.items ep)
      (begins_same old.slots.items new.slots.items el) (begins_same old.labels.items new.labels.items eb) (begins_same old.groups.items new.groups.items eg)
      (begins_same old.exprs.items new.exprs.items en) (begins_by old.stmts.items new.stmts.items (n ∷ []) es) in
      let keeps : Keeps old new = kept ext in
      record {
        keeps = keeps;
        there = omega (arith, ea, ap length es, length_push old.stmts.items n);
        is = ap (stmt_in new) ea
            ∙ stmt_opens (arena_of new) new.functions.items new.fits (itself (arena_of new)) last
            ∙ ap (λ o. stmt_from (arena_of new) o (expr_in new) (stmt_in new)) (ap (λ ns. slice_get ns last) es ∙ get_last old.stmts.items n)
            ∙ same_stmt (arena_of old) (arena_of new) ext (expr_in new) (expr_in old) keeps.expr last (stmt_in new) (stmt_in old) keeps.stmt n fit;
      }

  -- what nodes name is added, and the nodes are as they were
  module _ (en : new.exprs.items ≡ old.exprs.items) (es : new.stmts.items ≡ old.stmts.items) where
    unchanged : SameNodes old new
    unchanged = record { exprs = en; stmts = es }

    names_kept : Begins old.texts.items new.texts.items → Begins old.parts.items new.parts.items → Begins old.slots.items new.slots.items
        → Begins old.labels.items new.labels.items → Begins old.groups.items new.groups.items → Keeps old new
    names_kept t p s l g =
        kept (extended t p s l g (begins_same old.exprs.items new.exprs.items en) (begins_same old.stmts.items new.stmts.items es))

    pub added_parts : (more : List ℕ) (r : Range) → r.start ≡ length old.parts.items → r.count ≡ length more
        → new.parts.items ≡ old.parts.items ++ more → new.slots.items ≡ old.slots.items → new.labels.items ≡ old.labels.items
        → new.groups.items ≡ old.groups.items → new.texts.items ≡ old.texts.items → AddsParts old more r new
    added_parts more r start count ep el eb eg et =
        record {
          keeps = names_kept (begins_same old.texts.items new.texts.items et) (begins_by old.parts.items new.parts.items more ep)
              (begins_same old.slots.items new.slots.items el) (begins_same old.labels.items new.labels.items eb)
              (begins_same old.groups.items new.groups.items eg);
          nodes = unchanged;
          within = rw ep (within_added old.parts.items more r start count);
          are = rw ep (range_added old.parts.items more r start count);
          more = (more, ep);
          slots = el;
          labels = eb;
          groups = eg;
          texts = et;
        }

    pub added_slots : (more : List Slot) (r : Range) → r.start ≡ length old.slots.items → r.count ≡ length more
        → new.parts.items ≡ old.parts.items → new.slots.items ≡ old.slots.items ++ more → new.labels.items ≡ old.labels.items
        → new.groups.items ≡ old.groups.items → new.texts.items ≡ old.texts.items → AddsSlots old more r new
    added_slots more r start count ep el eb eg et =
        record {
          keeps = names_kept (begins_same old.texts.items new.texts.items et) (begins_same old.parts.items new.parts.items ep)
              (begins_by old.slots.items new.slots.items more el) (begins_same old.labels.items new.labels.items eb)
              (begins_same old.groups.items new.groups.items eg);
          nodes = unchanged;
          within = rw el (within_added old.slots.items more r start count);
          are = rw el (range_added old.slots.items more r start count);
        }

    pub added_labels : (more : List (Option Number)) (r : Range) → r.start ≡ length old.labels.items → r.count ≡ length more
        → new.parts.items ≡ old.parts.items → new.slots.items ≡ old.slots.items → new.labels.items ≡ old.labels.items ++ more
        → new.groups.items ≡ old.groups.items → new.texts.items ≡ old.texts.items → AddsLabels old more r new
    added_labels more r start count ep el eb eg et =
        record {
          keeps = names_kept (begins_same old.texts.items new.texts.items et) (begins_same old.parts.items new.parts.items ep)
              (begins_same old.slots.items new.slots.items el) (begins_by old.labels.items new.labels.items more eb)
              (begins_same old.groups.items new.groups.items eg);
          nodes = unchanged;
          within = rw eb (within_added old.labels.items more r start count);
          are = rw eb (range_added old.labels.items more r start count);
          more = (more, eb);
          parts = ep;
          groups = eg;
        }

    pub added_text : (text : List ℕ) (at : ℕ) → at ≡ length old.texts.items → new.parts.items ≡ old.parts.items → new.slots.items ≡ old.slots.items
        → new.labels.items ≡ old.labels.items → new.groups.items ≡ old.groups.items → new.texts.items ≡ old.texts.items ++ text ∷ []
        → AddsText old text at new
    added_text text at ea ep el eb eg et =
        record {
          keeps = names_kept (begins_by old.texts.items new.texts.items (text ∷ []) et) (begins_same old.parts.items new.parts.items ep)
              (begins_same old.slots.items new.slots.items el) (begins_same old.labels.items new.labels.items eb)
              (begins_same old.groups.items new.groups.items eg);
          nodes = unchanged;
          there = below at (length old.texts.items) (length new.texts.items) ea (ap length et ∙ length_push old.texts.items text);
          is = rw et (get_or_push old.texts.items text [] at (sym ea));
        }

-- ---- lists of parts

-- an expression that names a list of others
list_added : (node : Exprs → Expr) (old one new : Typed) (es : List ℕ) (r : Range) (i : ℕ) → Keeps old one → ranged one.parts.items r ≡ es
    → all_below (length old.exprs.items) es ≡ true → AddsExpr one (node (exprs_of (map (expr_in one) (ranged one.parts.items r)))) i new
    → AddsExpr old (node (exprs_of (map (expr_in old) es))) i new
list_added node old one new es r i keeps are below h =
    record {
      keeps = keeps_on old one new keeps h.keeps;
      there = h.there;
      is = h.is ∙ ap (λ js. node (exprs_of (map (expr_in one) js))) are
          ∙ ap (λ ts. node (exprs_of ts)) (map_same (length old.exprs.items) (expr_in one) (expr_in old) keeps.expr es below);
    }

pub row_added : (old one new : Typed) (at : ℕ) (row : Row) (es : List ℕ) (r : Range) (res : Result ℕ Memory) → AddsParts old es r one
    → all_below (length old.exprs.items) es ≡ true
    → IfOk res (λ i. AddsExpr one (expr_from (arena_of one) (Some (expr_node.Api at row r)) (expr_in one)) i new)
    → IfOk res (λ i. AddsExpr old (Api at row (exprs_of (map (expr_in old) es))) i new)
row_added old one new at row es r (Ok i) parts below h = list_added (Api at row) old one new es r i parts.keeps parts.are below h
row_added old one new at row es r (Err e) parts below h = tt

pub call_added : (old one new : Typed) (at f : ℕ) (es : List ℕ) (r : Range) (res : Result ℕ Memory) → AddsParts old es r one
    → all_below (length old.exprs.items) es ≡ true
    → IfOk res (λ i. AddsExpr one (expr_from (arena_of one) (Some (expr_node.Call at f r)) (expr_in one)) i new)
    → IfOk res (λ i. AddsExpr old (Call at f (exprs_of (map (expr_in old) es))) i new)
call_added old one new at f es r (Ok i) parts below h = list_added (Call at f) old one new es r i parts.keeps parts.are below h
call_added old one new at f es r (Err e) parts below h = tt

-- texts that stay where parts are added
text_stays : (one two : Typed) (text : List ℕ) (t : ℕ) → two.texts.items ≡ one.texts.items → slice_index_or one.texts.items t [] ≡ text
    → slice_index_or two.texts.items t [] ≡ text
text_stays one two text t e is = ap (λ ts. slice_index_or ts t []) e ∙ is

pub croak_added : (old one two new : Typed) (at : ℕ) (format : List ℕ) (t : ℕ) (es : List ℕ) (r : Range) (res : Result ℕ Memory)
    → AddsText old format t one → AddsParts one es r two → all_below (length old.exprs.items) es ≡ true
    → IfOk res (λ i. AddsExpr two (expr_from (arena_of two) (Some (expr_node.Croak at t r)) (expr_in two)) i new)
    → IfOk res (λ i. AddsExpr old (Croak at format (exprs_of (map (expr_in old) es))) i new)
croak_added old one two new at format t es r (Ok i) text parts below h =
    let is = text_stays one two format t parts.texts text.is in
    list_added (Croak at format) old two new es r i (keeps_on old one two text.keeps parts.keeps) parts.are below
    (subst (λ f. AddsExpr two (Croak at f (exprs_of (map (expr_in two) (ranged two.parts.items r)))) i new) is h)
croak_added old one two new at format t es r (Err e) text parts below h = tt

pub croak_fits : (old one two : Typed) (format : List ℕ) (t : ℕ) (es : List ℕ) (r : Range) (at : ℕ) → AddsText old format t one → AddsParts one es r two
    → all_below (length old.exprs.items) es ≡ true → expr_fits (arena_of two) (length two.exprs.items) (expr_node.Croak at t r) ≡ true
croak_fits old one two format t es r at text parts below =
    let there : nat_lt t (length two.texts.items) ≡ true = rw parts.texts text.there in
    let all : all_below (length two.exprs.items) (ranged two.parts.items r) ≡ true = rw (parts.are, parts.nodes.exprs, text.nodes.exprs) below in
    and_from _ _ there (and_from _ _ parts.within all)

pub block_added : (old one two new : Typed) (ls : List Slot) (ss : List ℕ) (q r : Range) (res : Result ℕ Memory) → AddsSlots old ls q one
    → AddsParts one ss r two → all_below (length old.stmts.items) ss ≡ true
    → IfOk res (λ i. AddsStmt two (stmt_from (arena_of two) (Some (stmt_node.Block q r)) (expr_in two) (stmt_in two)) i new)
    → IfOk res (λ i. AddsStmt old (Block ls (stmts_of (map (stmt_in old) ss))) i new)
block_added old one two new ls ss q r (Ok i) slots parts below h =
    let keeps = keeps_on old one two slots.keeps parts.keeps in
    record {
      keeps = keeps_on old two new keeps h.keeps;
      there = h.there;
      is = h.is ∙ ap (λ xs. Block (ranged xs q) (stmts_of (map (stmt_in two) (ranged two.parts.items r)))) parts.slots
          ∙ ap (λ xs. Block xs (stmts_of (map (stmt_in two) (ranged two.parts.items r)))) slots.are
          ∙ ap (λ js. Block ls (stmts_of (map (stmt_in two) js))) parts.are
          ∙ ap (λ ts. Block ls (stmts_of ts)) (map_same (length old.stmts.items) (stmt_in two) (stmt_in old) keeps.stmt ss below);
    }
block_added old one two new ls ss q r (Err e) slots parts below h = tt

-- ---- groups

-- the labels and the statements of a group
pub group_added : (old one two : Typed) (g : Group) (q r : Range) → has_stmts old g ≡ true → AddsLabels old g.labels.items q one
    → AddsParts one g.body.items r two → AddsGroup old g (record { labels = q; body = r }) two
group_added old one two g q r there labels parts =
    let all : all_below (length two.stmts.items) (ranged two.parts.items r) ≡ true = rw (parts.are, parts.nodes.stmts, labels.nodes.stmts) there in
    let within : is_within two.labels.items q ≡ true = rw parts.labels labels.within in
    record {
      keeps = keeps_on old one two labels.keeps parts.keeps;
      nodes = record { exprs = parts.nodes.exprs ∙ labels.nodes.exprs; stmts = parts.nodes.stmts ∙ labels.nodes.stmts };
      fits = and_from _ _ within (and_from _ _ parts.within all);
      are = ap₂ (λ (x : List (Option Number)) (y : List ℕ). (x, y)) (ap (λ xs. ranged xs q) parts.labels ∙ labels.are) parts.are;
      labels = (labels.more.0, parts.labels ∙ labels.more.1);
      parts = (parts.more.0, parts.more.1 ∙ ap (λ xs. xs ++ parts.more.0) labels.parts);
      groups = parts.groups ∙ labels.groups;
    }

-- the same groups, where more labels and parts stand after theirs
parts_same : (a b : Arena) (i : ℕ) → Begins a.labels b.labels → Begins a.parts b.parts → (gs : List GroupNode) → list_all (group_fits a i) gs ≡ true
    → map (group_parts b) gs ≡ map (group_parts a) gs
parts_same a b i l p [] fit = refl
parts_same a b i l p (g ∷ gs) fit =
    let d = and_parts _ _ fit in
    let d1 = and_parts _ _ d.0 in
    ap₂ (λ (x : List (Option Number) × List ℕ) (xs : List (List (Option Number) × List ℕ)). x ∷ xs)
    (ap₂ (λ (x : List (Option Number)) (y : List ℕ). (x, y)) (l.range g.labels d1.0) (p.range g.body (and_parts _ _ d1.1).0))
    (parts_same a b i l p gs d.1)

longer_begins : {X : Type 0} (xs ys : List X) → Longer xs ys → Begins xs ys
longer_begins xs ys m = begins_by xs ys m.0 m.1

-- one more group after others
pub stands_more : (start old one new : Typed) (gs : List Group) (g : Group) (n : GroupNode) → GroupsStand start gs old → AddsGroup old g n one
    → new.groups.items ≡ one.groups.items ++ n ∷ [] → new.exprs.items ≡ one.exprs.items → new.stmts.items ≡ one.stmts.items
    → new.parts.items ≡ one.parts.items → new.slots.items ≡ one.slots.items → new.labels.items ≡ one.labels.items → new.texts.items ≡ one.texts.items
    → new.functions.items ≡ one.functions.items → new.records.items ≡ one.records.items → GroupsStand start (gs ++ g ∷ []) new
stands_more start old one new gs g n all one_more eg en es ep el eb et ef er =
    let l : Begins old.labels.items new.labels.items = longer_begins _ _ (one_more.labels.0, eb ∙ one_more.labels.1) in
    let p : Begins old.parts.items new.parts.items = longer_begins _ _ (one_more.parts.0, ep ∙ one_more.parts.1) in
    let limit : length new.stmts.items ≡ length old.stmts.items = ap length (es ∙ one_more.nodes.stmts) in
    let few : list_all (group_fits (arena_of new) (length new.stmts.items)) all.added ≡ true =
    rw limit (all_still (arena_of old) (arena_of new) (length old.stmts.items) p l all.added all.fit) in
    let last : group_fits (arena_of new) (length new.stmts.items) n ≡ true = rw (eb, ep, es) one_more.fits in
    record {
      keeps = keeps_on start one new (keeps_on start old one all.keeps one_more.keeps)
          (names_kept one new ef er en es (begins_same _ _ et) (begins_same _ _ ep) (begins_same _ _ el) (begins_same _ _ eb) (begins_by _ _ _ eg));
      nodes = record { exprs = en ∙ one_more.nodes.exprs ∙ all.nodes.exprs; stmts = es ∙ one_more.nodes.stmts ∙ all.nodes.stmts };
      added = all.added ++ n ∷ [];
      groups = eg ∙ ap (λ xs. xs ++ n ∷ []) (one_more.groups ∙ all.groups) ∙ append_assoc start.groups.items all.added (n ∷ []);
      fit = list_all-append (group_fits (arena_of new) (length new.stmts.items)) all.added (n ∷ []) ∙ and_from _ _ few (and_from _ _ last refl);
      are = map-append (group_parts (arena_of new)) all.added (n ∷ [])
          ∙ ap₂ (λ (xs ys : List (List (Option Number) × List ℕ)). xs ++ ys)
          (parts_same (arena_of old) (arena_of new) (length old.stmts.items) l p all.added all.fit ∙ all.are)
          (ap (λ x. x ∷ []) (rw (eb, ep) one_more.are))
          ∙ sym (map-append group_view gs (g ∷ []));
    }

-- what holds of each element of a list
each_has : {X : Type 0} (p : X → Bool) (xs : List X) (i : ℕ) (x : X) → i < length xs → x ≡ get_or xs i x → list_all p xs ≡ true → p x ≡ true
each_has p [] i x lt e h = absurd (omega (arith, lt))
each_has p (y ∷ xs) zero x lt e h = ap p e ∙ (and_parts _ _ h).0
each_has p (y ∷ xs) (suc i) x lt e h = each_has p xs i x (omega (arith, lt)) e (and_parts _ _ h).1

-- the statements of each group are there still
pub group_there : (start here : Typed) (gs done : List Group) (i : ℕ) (g : Group) → i < length gs → g ≡ get_or gs i g
    → list_all (has_stmts start) gs ≡ true → GroupsStand start done here → has_stmts here g ≡ true
group_there start here gs done i g lt e there all =
    ap (λ ns. all_below (length ns) g.body.items) all.nodes.stmts ∙ each_has (has_stmts start) gs i g lt e there

-- there are as many groups as are given
pub few_groups : (start here one : Typed) (gs : List Group) (i : ℕ) (g : Group) (n : GroupNode) (r : Range) → i < length gs
    → r.start ≡ length start.groups.items → r.count ≡ length gs → r.start + r.count < 2 ^ 32 → GroupsStand start (take i gs) here
    → AddsGroup here g n one → length (one.groups.items ++ n ∷ []) < 2 ^ 32
few_groups start here one gs i g n r lt first count few all one_more =
    let long : length all.added ≡ i =
    sym (length-map all.added (group_parts (arena_of here))) ∙ ap length all.are ∙ length-map (take i gs) group_view
    ∙ length-take-le i gs (omega (arith, lt)) in
    let many : length one.groups.items ≡ length start.groups.items + length all.added =
    ap length (one_more.groups ∙ all.groups) ∙ length-append start.groups.items all.added in
    omega (arith, long, many, length_push one.groups.items n, first, count, few, lt)

-- the groups up to the next one
pub next_stands : (start here : Typed) (gs : List Group) (i : ℕ) (g : Group) → i < length gs → g ≡ get_or gs i g
    → GroupsStand start (take i gs ++ g ∷ []) here → GroupsStand start (take (i + 1) gs) here
next_stands start here gs i g lt e all = subst (λ xs. GroupsStand start xs here) (ap (λ x. take i gs ++ x ∷ []) e ∙ sym (take_more gs i g lt)) all

pub all_stand : (start here : Typed) (gs : List Group) (i : ℕ) → length gs ≤ i → GroupsStand start (take i gs) here → GroupsStand start gs here
all_stand start here gs i le all = subst (λ xs. GroupsStand start xs here) (take_all i gs le) all

pub stands_none : (t : Typed) → GroupsStand t [] t
stands_none t = record {
  keeps = keeps_all t;
  nodes = record { exprs = refl; stmts = refl };
  added = [];
  groups = sym (append-nil t.groups.items);
  fit = refl;
  are = refl;
}

-- groups stand in the range after the others
pub groups_added : (old new : Typed) (gs : List Group) (r : Range) → r.start ≡ length old.groups.items → r.count ≡ length gs → GroupsStand old gs new
    → AddsGroups old gs r new
groups_added old new gs r start count all =
    let long : length all.added ≡ length gs =
    sym (length-map all.added (group_parts (arena_of new))) ∙ ap length all.are ∙ length-map gs group_view in
    let many : r.count ≡ length all.added = count ∙ sym long in
    let are : ranged new.groups.items r ≡ all.added = ap (λ xs. ranged xs r) all.groups ∙ range_added old.groups.items all.added r start many in
    let within : is_within new.groups.items r ≡ true = rw all.groups (within_added old.groups.items all.added r start many) in
    record {
      keeps = all.keeps;
      nodes = all.nodes;
      fit = and_from _ _ within (ap (list_all (group_fits (arena_of new) (length new.stmts.items))) are ∙ all.fit);
      are = ap (map (group_parts (arena_of new))) are ∙ all.are;
    }

-- the groups of these parts are the same, where statements are kept
groups_same : (i : ℕ) (f g : ℕ → Stmt) → ((j : ℕ) → j < i → f j ≡ g j) → (gs : List Group)
    → list_all (λ c. all_below i c.body.items) gs ≡ true → groups_from f (map group_view gs) ≡ groups_from g (map group_view gs)
groups_same i f g h [] e = refl
groups_same i f g h (c ∷ gs) e =
    let d = and_parts _ _ e in
    ap₂ (λ ss more. MoreGroups c.labels.items (stmts_of ss) more) (map_same i f g h c.body.items d.0) (groups_same i f g h gs d.1)

pub switch_fits : (old one : Typed) (gs : List Group) (r : Range) (at : ℕ) (k : Kind) (e : ℕ) → AddsGroups old gs r one → e < length old.exprs.items
    → stmt_fits (arena_of one) (length one.stmts.items) (stmt_node.Switch at k e r) ≡ true
switch_fits old one gs r at k e all there =
    let value : nat_lt e (length one.exprs.items) ≡ true = is_below e (length one.exprs.items) (omega (arith, there, all.keeps.exprs)) in
    and_from _ _ value all.fit

pub switch_added : (old one new : Typed) (at : ℕ) (k : Kind) (e : ℕ) (gs : List Group) (r : Range) (res : Result ℕ Memory) → AddsGroups old gs r one
    → e < length old.exprs.items → list_all (has_stmts old) gs ≡ true
    → IfOk res (λ i. AddsStmt one (stmt_from (arena_of one) (Some (stmt_node.Switch at k e r)) (expr_in one) (stmt_in one)) i new)
    → IfOk res (λ i. AddsStmt old (Switch at k (expr_in old e) (groups_from (stmt_in old) (map group_view gs))) i new)
switch_added old one new at k e gs r (Ok i) all value below h =
    record {
      keeps = keeps_on old one new all.keeps h.keeps;
      there = h.there;
      is = h.is ∙ ap (λ ps. Switch at k (expr_in one e) (groups_from (stmt_in one) ps)) all.are
          ∙ ap₂ (Switch at k) (all.keeps.expr e value) (groups_same (length old.stmts.items) (stmt_in one) (stmt_in old) all.keeps.stmt gs below);
    }
switch_added old one new at k e gs r (Err x) all value below h = tt
