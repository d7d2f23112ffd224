-- From the bytes of a file to what they say, and from one of two formats to both.
use Rattle.std.proofs.Common.{◌≡◌, ◌≢◌, ◌⊎◌, Bool, true, false, inl, inr, ℕ, List, Option, Result, IfErr, IfOk, refl, sym, subst}
use Rattle.ux_base.specs.Outside.{Files, Seen}
use Rattle.ux_image_content.specs.Files.{RefusesImage}
use Rattle.ux_image_files.specs.ImageFiles.{either, image_format, made}
use Rattle.ux_image_reader.specs.declared.error.ImageError.{ImageError}
use Rattle.ux_image_reader.specs.declared.error.ImageError.TheVariants as image_error
use Rattle.ux_reasons.specs.declared.reason.Reason.{Reason}
use Rattle.ux_reasons.specs.declared.reason.Reason.TheVariants.{Image}
use Rattle.ux_plan.specs.Plans.{Format, HasFile, IsLong, Reads, StopsFile, bytes_format}
use Rattle.ux_plan.specs.declared.stop.Stop.{Stop}
use Rattle.ux_plan.specs.declared.stop.Stop.TheVariants.{Absent, NoMemory, ReadFault, Refused, TooLarge}

module _ {R V : Type 0} (format : Format R V) (name : List ℕ) where
  -- the bytes are of the format
  pub bytes_reads : (told : Option Files) (file : List ℕ) (v : V) → HasFile told name file →
      format.Is file v → Reads format name told v
  bytes_reads told file v has is = record { file = file; has = has; is = is }

  -- the bytes are refused
  pub bytes_refused : (old new : Seen) (file : List ℕ) (reason : R) →
      HasFile old.files name file → format.Refuses file reason →
      StopsFile format name old new (Refused name reason)
  bytes_refused old new file reason has refused = (refl, (file, has, refused))

  long_bytes : (old new : Seen) → IsLong (bytes_format {R = R}) name old new →
      IsLong format name old new
  long_bytes old new (inl long) = inl long
  long_bytes old new (inr (file, has, large)) = absurd large

  -- there are no bytes
  pub bytes_stops : (old new : Seen) (stop : Stop R) → StopsFile bytes_format name old new stop →
      StopsFile format name old new stop
  bytes_stops old new (Absent named) stops = stops
  bytes_stops old new (ReadFault named) stops = stops
  bytes_stops old new (TooLarge named) stops = (stops.0, long_bytes old new stops.1)
  bytes_stops old new (Refused named reason) stops = absurd stops.1.2
  bytes_stops old new NoMemory stops = tt

pub ruleset byte_steps = (bytes_reads, bytes_refused, bytes_stops)

-- ONE OF TWO KINDS

-- what was read as the kind of the file is read as one of both, and what stops the one stops both
module _ {R V W : Type 0} (image other : Format R V) (value_of : W → V) (name : List ℕ)
    (result : Result W (Stop R)) (test : Bool) where
  pub image_ok : test ≡ true → (told : Option Files) →
      IfOk result (λ w. Reads image name told (value_of w)) →
      IfOk result (λ w. Reads (either test image other) name told (value_of w))
  image_ok is told reads =
      subst (λ (t : Bool). IfOk result (λ w. Reads (either t image other) name told (value_of w)))
      (sym is) reads

  pub image_err : test ≡ true → (old new : Seen) → IfErr result (StopsFile image name old new) →
      IfErr result (StopsFile (either test image other) name old new)
  image_err is old new stops =
      subst (λ (t : Bool). IfErr result (StopsFile (either t image other) name old new)) (sym is)
      stops

  pub other_ok : test ≡ false → (told : Option Files) →
      IfOk result (λ w. Reads other name told (value_of w)) →
      IfOk result (λ w. Reads (either test image other) name told (value_of w))
  other_ok is told reads =
      subst (λ (t : Bool). IfOk result (λ w. Reads (either t image other) name told (value_of w)))
      (sym is) reads

  pub other_err : test ≡ false → (old new : Seen) → IfErr result (StopsFile other name old new) →
      IfErr result (StopsFile (either test image other) name old new)
  other_err is old new stops =
      subst (λ (t : Bool). IfErr result (StopsFile (either t image other) name old new)) (sym is)
      stops

-- WHAT IS MADE OF A FILE

module _ {R V W : Type 0} (format : Format R V) (IsOf : V → W → Type 0) (name : List ℕ) where
  pub made_reads : (told : Option Files) (v : V) (w : W) → Reads format name told v → IsOf v w →
      Reads (made format IsOf) name told w
  made_reads told v w reads is =
      record { file = reads.file; has = reads.has; is = (v, reads.is, is) }

-- A REFUSED IMAGE

-- an image that is refused stops the reading, unless memory ran out
pub image_refused : (name : List ℕ) (old new : Seen) (file : List ℕ) (error : ImageError)
    (stop : Stop Reason) → HasFile old.files name file →
    (error ≡ image_error.NoMemory) ⊎ RefusesImage file error →
    (stop ≡ NoMemory) ⊎ ((error ≢ image_error.NoMemory) × (stop ≡ Refused name (Image error))) →
    StopsFile image_format name old new stop
image_refused name old new file error stop has why (inl memory) =
    subst (StopsFile image_format name old new) (sym memory) tt
image_refused name old new file error stop has (inl memory) (inr (other, is)) =
    absurd (other memory)
image_refused name old new file error stop has (inr refuses) (inr (other, is)) =
    subst (StopsFile image_format name old new) (sym is)
    (bytes_refused image_format name old new file (Image error) has
    (record { error = error; refuses = refuses; is = refl }))
