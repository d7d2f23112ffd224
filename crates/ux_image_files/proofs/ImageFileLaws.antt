-- The format of images is sound, and so is what is made of sound formats.
use Rattle.std.proofs.Common.{◌≡◌, Bool, true, false, subst}
use Rattle.ux_image_content.specs.Files.{IsImageContent, RefusesImage}
use Rattle.ux_image_content.proofs.ContentLaws.{content_excluded, image_refused_once, one_content}
use Rattle.ux_image_files.specs.ImageFiles.{either, image_format, made}
use Rattle.ux_reasons.specs.declared.reason.Reason.TheVariants.{Image}
use Rattle.ux_plan.specs.Plans.{Format}
use Rattle.ux_plan.specs.Laws.{IsSound}
use Rattle.ux_plan.proofs.PlanLaws.{said_sound}

pub image_sound : IsSound image_format
image_sound =
    said_sound Image IsImageContent RefusesImage content_excluded one_content image_refused_once

pub either_sound : {R V : Type 0} (test : Bool) (image other : Format R V) → IsSound image →
    IsSound other → IsSound (either test image other)
either_sound true image other first second = first
either_sound false image other first second = second

-- where a value makes one
pub made_sound : {R V W : Type 0} (format : Format R V) (IsOf : V → W → Type 0) →
    IsSound format → ((v : V) (w x : W) → IsOf v w → IsOf v x → w ≡ x) →
    IsSound (made format IsOf)
made_sound {R} {V} {W} format IsOf sound only = record {
  excluded = λ file w reason is refused. sound.excluded file is.0 reason is.1 refused;
  small = λ file w is large. sound.small file is.0 is.1 large;
  refused_small = sound.refused_small;
  one = λ file w x a b.
      only a.0 w x a.2 (subst (λ (v : V). IsOf v x) (sound.one file b.0 a.0 b.1 a.1) b.2);
  one_reason = sound.one_reason;
}
