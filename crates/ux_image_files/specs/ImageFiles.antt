-- Which files are images of dictionaries, and what such a file is to a command. This file carries
-- public meaning.
use Rattle.std.specs.Prelude.{ℕ, Bool, true, false, List, codes, nat_eq}
use Rattle.std.specs.List.{ends_with}
use Rattle.ux_dela.specs.declared.entry.Entry.{Entry}
use Rattle.ux_image_content.specs.Files.{IsImageContent, RefusesImage}
use Rattle.ux_plan.specs.Plans.{Format, said_as}
use Rattle.ux_reasons.specs.declared.reason.Reason.{Reason}
use Rattle.ux_reasons.specs.declared.reason.Reason.TheVariants.{Image}

-- the name is that of an image
abbrev pub is_image : List ℕ → Bool
is_image name = ends_with nat_eq name (codes ".udi")

-- images, of which the entries are read, each once
abbrev pub image_format : Format Reason (List Entry)
image_format = said_as Image IsImageContent RefusesImage

-- files of two kinds: images where the test holds, and else others
abbrev pub either : {R V : Type 0} → (test : Bool) → (image other : Format R V) → Format R V
either true image other = image
either false image other = other

-- what is made of a file's value
abbrev pub made : {R V W : Type 0} → Format R V → (IsOf : V → W → Type 0) → Format R W
made {R} {V} {W} format IsOf = record {
  Is = λ file made. (value : V) × format.Is file value × IsOf value made;
  Refuses = format.Refuses;
  IsTooLarge = format.IsTooLarge;
}
