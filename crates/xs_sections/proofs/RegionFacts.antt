-- What a line leaves open, in each region.
use Rattle.std.proofs.Common.{◌≡◌, Bool, true, false, cond, refl}
use Rattle.xs_base.specs.declared.source.Line.{Line}
use Rattle.xs_sections.specs.Classes.{Tag, is_in_text, gap_after, further_after, blank_after}
use Rattle.xs_sections.specs.Steps.{is_map, is_c_part}
use Rattle.xs_sections.specs.declared.class.LineClass.{LineClass}
use Rattle.xs_sections.specs.declared.class.Region.{Region}
use Rattle.xs_sections.specs.declared.class.Region.TheVariants as region

abbrev pub tag : LineClass → Line → Bool → Tag
tag class line starts = record { line = line; class = class; starts = starts }

-- both branches of a test are one
pub same_cond : {A : Type 0} (b : Bool) (x : A) → cond b x x ≡ x
same_cond true x = refl
same_cond false x = refl

pub no_map_after : (at : Region) → is_map at ≡ false → is_map (further_after at) ≡ false
no_map_after region.Boot h = refl
no_map_after _ h = refl

pub no_c_after : (at : Region) → is_c_part (further_after at) ≡ false
no_c_after region.Boot = refl
no_c_after _ = refl

pub no_map_blank : (at : Region) → is_map (blank_after at) ≡ false
no_map_blank region.Boot = refl
no_map_blank _ = refl

pub no_c_blank : (at : Region) → is_c_part (blank_after at) ≡ false
no_c_blank region.Boot = refl
no_c_blank _ = refl

pub gap_map : (at : Region) → is_map (gap_after at) ≡ is_map at
gap_map region.Head = refl
gap_map _ = refl

pub gap_c : (at : Region) → is_c_part (gap_after at) ≡ is_c_part at
gap_c region.Head = refl
gap_c _ = refl

pub gap_text : (at : Region) → is_in_text (gap_after at) ≡ is_in_text at
gap_text region.Head = refl
gap_text _ = refl
