-- What holds of the module of each XS file whose XSUBs are sums.
use Rattle.std.specs.List.{AllByRecursion, list_all, list_any}
use Rattle.std.specs.Prelude.{◌≡◌, ℕ, ◌<◌, ◌≤◌, true, false, List, [], ◌∷◌, ◌++◌, map, length, codes}
use Rattle.std.specs.Str.{bytes_eq}
use Rattle.xs_base.specs.declared.byte_runs.ByteClass.TheVariants.{Blank, Name, Word}
use Rattle.xs_iface.specs.declared.xsub.Module.{Module}
use Rattle.xs_iface.specs.declared.xsub.Term.{Term}
use Rattle.xs_iface.specs.declared.xsub.Term.TheVariants.{Literal, Parameter}
use Rattle.xs_iface.specs.declared.xsub.Xsub.{Xsub}
use Rattle.xs_base.specs.Names.{is_qualified_name}
use Rattle.xs_base.specs.ByteRuns.{belongs}
use Rattle.xs_iface.specs.Iface.{parameter_limit}
use Rattle.xs_iface.specs.Paragraph.{greatest_int, term_limit}
use Rattle.xs_iface.specs.ReservedWords.{is_free}

-- no name stands twice: none is that of a later one
abbrev pub Differ : List (List ℕ) → Type 0
Differ [] = Unit {0}
Differ (n ∷ ns) = (list_any (λ later. bytes_eq n later) ns ≡ false) × Differ ns

-- a term over so many parameters: one of them, or a literal that an `int` holds
abbrev pub IsTermOf : ℕ → Term → Type 0
IsTermOf count (Parameter at) = at < count
IsTermOf count (Literal value) = value ≤ greatest_int

-- An XSUB whose parameters are of type `int`, and whose RETVAL is a sum of them and of literals.
pub record IsSumXsub (x : Xsub) : Type 0 where
  -- The glue function is named `XS_` and bytes of words, and the name for Perl is bytes of words
  -- and colons.
  pub tail : List ℕ
  pub glue : x.glue ≡ codes "XS_" ++ tail
  pub tail_bytes : list_all (belongs Word) tail ≡ true
  pub full_bytes : list_all (belongs Name) x.full ≡ true
  pub free_params : AllByRecursion (λ p. is_free p.name ≡ true) x.params
  pub params_differ : Differ (map (λ p. p.name) x.params)
  pub few_params : length x.params ≤ parameter_limit
  pub blanks : list_all (belongs Blank) x.indent ≡ true
  pub first_term : Term
  pub more_terms : List Term
  pub sum_is : x.sum ≡ first_term ∷ more_terms
  pub terms : AllByRecursion (IsTermOf (length x.params)) x.sum
  pub few_terms : length x.sum ≤ term_limit

-- A module of such XSUBs, which differ in their names for Perl and in the names of their glue
-- functions.
pub record IsSumModule (m : Module) : Type 0 where
  pub boot : is_qualified_name m.boot ≡ true
  pub xsubs : AllByRecursion IsSumXsub m.xsubs
  pub names_differ : Differ (map (λ x. x.full) m.xsubs)
  pub glues_differ : Differ (map (λ x. x.glue) m.xsubs)
