-- From the text of a file to what the text says.
use Rattle.std.proofs.Common.{inl, inr, ℕ, List, Option, refl, sym, subst}
use Rattle.ux_base.specs.Outside.{Files, Seen}
use Rattle.ux_decode.specs.Decoding.{IsTextOf}
use Rattle.ux_decode.specs.declared.error.DecodeError.{DecodeError}
use Rattle.ux_plan.specs.declared.stop.Stop.{Stop}
use Rattle.ux_plan.specs.declared.stop.Stop.TheVariants.{Absent, NoMemory, ReadFault, Refused, TooLarge}
use Rattle.ux_plan.specs.Plans.{Format, IsLong, Reads, StopsFile, bytes_format, decoded}

module _ {R V : Type 0} (decode_as : DecodeError → R) (format : Format R V) (name : List ℕ) where
  -- the text is of the format
  pub decoded_reads : (told : Option Files) (text : List ℕ) (v : V) →
      Reads (decoded decode_as bytes_format) name told text → format.Is text v →
      Reads (decoded decode_as format) name told v
  decoded_reads told text v has is = record {
    file = has.file;
    has = has.has;
    is = (
      text,
      subst (IsTextOf has.file) (sym has.is.2) has.is.1,
      is,
    );
  }

  -- the text is refused
  pub decoded_refused : (old new : Seen) (text : List ℕ) (reason : R) →
      Reads (decoded decode_as bytes_format) name old.files text → format.Refuses text reason →
      StopsFile (decoded decode_as format) name old new (Refused name reason)
  decoded_refused old new text reason has refused = (
    refl,
    (
      has.file,
      has.has,
      inr (text, subst (IsTextOf has.file) (sym has.is.2) has.is.1, refused),
    ),
  )

  no_text : (file : List ℕ) (reason : R) → (decoded decode_as bytes_format).Refuses file reason →
      (decoded decode_as format).Refuses file reason
  no_text file reason (inl none) = inl none
  no_text file reason (inr refused) = absurd refused.2

  long_text : (old new : Seen) → IsLong (decoded decode_as bytes_format) name old new →
      IsLong (decoded decode_as format) name old new
  long_text old new (inl long) = inl long
  long_text old new (inr (file, bytes, (text, is, large))) = absurd large

  -- there is no text
  pub decoded_stops : (old new : Seen) (stop : Stop R) →
      StopsFile (decoded decode_as bytes_format) name old new stop →
      StopsFile (decoded decode_as format) name old new stop
  decoded_stops old new (Absent named) stops = stops
  decoded_stops old new (ReadFault named) stops = stops
  decoded_stops old new (TooLarge named) stops = (stops.0, long_text old new stops.1)
  decoded_stops old new (Refused named reason) stops =
      (stops.0, (stops.1.0, stops.1.1, no_text stops.1.0 reason stops.1.2))
  decoded_stops old new NoMemory stops = tt

pub ruleset decoding = (decoded_reads, decoded_refused, decoded_stops)
