-- The names that MODULE lines set are names.
use Rattle.std.proofs.Common.{◌≡◌, ℕ, zero, suc, length, Bool, true, List, [], ◌∷◌, ◌++◌, codes, Option, None, Some, Ok, refl, sym, ap, ◌∙◌, subst, arith}
use Rattle.std.specs.List.{AllByRecursion}
use Rattle.std.specs.Prelude.{All, ◌<◌}
use Rattle.std.proofs.Math.Seq.{get_or-append_seam}
use Rattle.std.proofs.lemmas.List.{length-append}
use Rattle.std.proofs.lemmas.Option.{cond_some, option_and_then_some}
use Rattle.xs_base.specs.declared.source.Line.{Line}
use Rattle.xs_base.specs.Lines.{lines_of}
use Rattle.xs_sections.specs.declared.words.TheConstants.{MODULE, PACKAGE, PREFIX}
use Rattle.xs_sections.specs.Classes.{Tag, tags_of}
use Rattle.xs_sections.specs.Cut.{last_names, names_at, names_of, split_of}
use Rattle.xs_sections.specs.Laws.{HoldsEachLine, IsLastModule, IsModule, IsOf, IsOnlySplit, XsPart}
use Rattle.xs_sections.specs.Laws as law
use Rattle.xs_sections.specs.ModuleLine.{Valued, assignment, good_value, required, optional, module_names, names_after_module, names_after_package, names_to_end}
use Rattle.xs_base.specs.Scanning.{is_blank_line, is_identifier}
use Rattle.xs_base.specs.Names.{is_qualified_name}
use Rattle.xs_sections.specs.declared.class.LineClass.{LineClass}
use Rattle.xs_sections.specs.declared.sections.ModuleNames.{ModuleNames}
use Rattle.xs_sections.specs.declared.sections.Part.{Part}
use Rattle.xs_sections.specs.declared.sections.Sections.{Sections}
use Rattle.xs_sections.proofs.Hold.{holds_each, is_only_split}

-- a package: a name, or nothing
abbrev pub is_name_or_empty : List ℕ → Bool
is_name_or_empty [] = true
is_name_or_empty (b ∷ bs) = is_qualified_name (b ∷ bs)

name_is_one : (name : List ℕ) → is_qualified_name name ≡ true → is_name_or_empty name ≡ true
name_is_one [] h = refl
name_is_one (b ∷ bs) h = h

-- ---- a MODULE line

good_is : (is_good : List ℕ → Bool) (found value : Valued) → good_value is_good found ≡ Some value → is_good value.0 ≡ true
good_is is_good found value h =
    let p = cond_some (is_good found.0) found value h in
    ap (λ (v : Valued). is_good v.0) (sym p.1) ∙ p.0

required_is : (is_good : List ℕ → Bool) (o : Option Valued) (value : Valued) → required is_good o ≡ Some value → is_good value.0 ≡ true
required_is is_good o value h = option_and_then_some (good_value is_good) o value h (λ found was. good_is is_good found value)

package_is : (o : Option Valued) (text : List ℕ) (value : Valued) → optional is_qualified_name o text ≡ Some value → is_name_or_empty value.0 ≡ true
package_is None text value h = nothing h
  where
    nothing : Some ([], text) ≡ Some value → is_name_or_empty value.0 ≡ true
    nothing e = let f : ([], text) ≡ value = cc in ap (λ (v : Valued). is_name_or_empty v.0) (sym f)
package_is (Some found) text value h = name_is_one value.0 (good_is is_qualified_name found value h)

pub record AreNames (names : ModuleNames) : Type 0 where
  pub module_name : is_qualified_name names.module ≡ true
  pub package_name : is_name_or_empty names.package ≡ true

are_names : (line : List ℕ) (names : ModuleNames) → module_names line ≡ Some names → AreNames names
unfolding module_names
are_names line names h =
    option_and_then_some names_after_module (required is_qualified_name (assignment MODULE.now line)) names h
    (λ named is_module e.
    option_and_then_some (names_after_package named) (optional is_qualified_name (assignment PACKAGE.now named.1) named.1) names e
    (λ packaged is_package f.
    option_and_then_some (names_to_end named packaged) (optional is_identifier (assignment PREFIX.now packaged.1) packaged.1) names f
    (λ prefixed is_prefix g.
    let made : ModuleNames = record { «module» = named.0; «package» = packaged.0; prefix = prefixed.0 } in
    subst AreNames (cond_some (is_blank_line prefixed.1) made names g).1 (record {
      module_name = required_is is_qualified_name (assignment MODULE.now line) named is_module;
      package_name = package_is (assignment PACKAGE.now named.1) named.1 packaged is_package;
    }))))

-- ---- the MODULE lines

modules_named : {count : ℕ} {before : law.Before} {lines : List Line} {held : law.Contents} → XsPart count before lines held
    → AllByRecursion AreNames held.modules
modules_named law.done = tt
modules_named (law.gap e r) = modules_named r
modules_named (law.sets new e m r) = (are_names _ new m, modules_named r)
modules_named (law.keyword h r) = modules_named r
modules_named (law.block end inner last h a e r) = modules_named r
modules_named (law.paragraph further lines h p e r) = modules_named r

-- the names of a part: where there is no such MODULE line they are empty
package_at : (modules : List ModuleNames) (place : ℕ) → AllByRecursion AreNames modules → is_name_or_empty (names_at modules place).package ≡ true
package_at [] place all = refl
package_at (names ∷ more) zero all = all.0.package_name
package_at (names ∷ more) (suc place) all = package_at more place all.1

packages_at : (modules : List ModuleNames) (parts : List Part) → AllByRecursion AreNames modules
    → AllByRecursion (λ (p : Part). is_name_or_empty (names_at modules p.module).package ≡ true) parts
packages_at modules [] all = tt
packages_at modules (p ∷ ps) all = (package_at modules p.module all, packages_at modules ps all)

-- ---- the last MODULE line

within : (before after : List Tag) (last : Tag) → length before < length (before ++ last ∷ after)
within before after last = let e = length-append before (last ∷ after) in omega (arith, e)

last_is : (ts : List Tag) (s : Sections) → All (λ (t : Tag). IsOf t.line.text t.class) ts → IsLastModule ts s → is_qualified_name (last_names s).module ≡ true
last_is ts s all l =
    let P : List Tag → Type 0 = λ xs. All (λ (t : Tag). IsOf t.line.text t.class) xs in
    let each : P (l.before ++ l.last ∷ l.after) = subst P l.stands all in
    let Q : Tag → Type 0 = λ (t : Tag). IsOf t.line.text t.class in
    let there = get_or-append_seam l.before l.last l.after l.last in
    let at : Q l.last = subst Q there (each (length l.before) l.last (within l.before l.after l.last)) in
    let R : LineClass → Type 0 = λ c. IsOf l.last.line.text c in
    let line : IsModule l.last.line.text (Some (last_names s)) = subst R l.sets at in
    (are_names l.last.line.text (last_names s) line.names_are).module_name

-- The module of a file has a name, and each package is a name or nothing.
pub record AreNamed (s : Sections) : Type 0 where
  pub module_name : is_qualified_name (last_names s).module ≡ true
  pub packages : AllByRecursion (λ (p : Part). is_name_or_empty (names_of s p).package ≡ true) s.parts

pub are_named : (bytes : List ℕ) (s : Sections) → split_of bytes ≡ Ok s → AreNamed s
are_named bytes s e =
    let h : HoldsEachLine (lines_of bytes) s = holds_each (Ok s) bytes e in
    let o : IsOnlySplit (lines_of bytes) s = is_only_split (Ok s) bytes e in
    record { module_name = last_is (tags_of (lines_of bytes)) s h.read h.last_module; packages = packages_at s.modules s.parts (modules_named o.split.xs_part) }
