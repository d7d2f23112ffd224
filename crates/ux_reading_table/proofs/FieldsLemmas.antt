-- What the fields of a line say, with a reading of their text or without one.
use Rattle.std.proofs.Common.{arith, ℕ, ◌<◌, ◌≤◌, ◌^◌, List, ◌∷◌, ◌++◌, refl}
use Rattle.std.specs.Fmt.{decimal}
use Rattle.ux_sentence.specs.declared.error.SentenceError.TheVariants.{Backward}
use Rattle.ux_sentence.specs.declared.sentence.Link.{Link}
use Rattle.ux_sentence.specs.declared.sentence.Reading.{Reading}
use Rattle.ux_sentence.specs.Files.{IsLinkLine, RefusesLink}
use Rattle.ux_sentence.specs.Readings.{IsReading}
use Rattle.ux_sentence.specs.Written.{SPACE}
use Rattle.ux_sentence.proofs.LinkLemmas.{second_field}
use Rattle.ux_reading_table.specs.declared.fields.Fields.{Fields}
use Rattle.ux_reading_table.specs.Noting.{HasFields}

-- the link of these fields, with a reading
abbrev pub link_with : Fields → Reading → Link
link_with fields reading = record { from = fields.from; to = fields.to; reading = reading }

pub line_of_fields : (states : ℕ) (line : List ℕ) (fields : Fields) (reading : Reading) →
    HasFields states line fields → IsReading fields.text.now reading →
    IsLinkLine states line (link_with fields reading)
line_of_fields states line fields reading has is = record {
  text = fields.text.now;
  whole = has.whole;
  reading = is;
  from_state = has.from_state;
  to_state = has.to_state;
}

-- a line whose text says no reading is no link's
pub no_line_of_fields : (states : ℕ) (line : List ℕ) (fields : Fields) → states < 2 ^ 64 →
    HasFields states line fields →
    ((reading : Reading) → IsReading fields.text.now reading → ⊥) →
    (link : Link) → IsLinkLine states line link → ⊥
no_line_of_fields states line fields fit has none link is =
    let both = second_field states fields.from fields.to line
    (decimal fields.to ++ SPACE ∷ fields.text.now) fields.text.now fit
    (omega (arith, has.from_state)) (omega (arith, has.to_state)) has.whole refl link is in
    none link.reading both.2

-- a link to no greater state is refused
pub leads_back : (states : ℕ) (line : List ℕ) (number : ℕ) (fields : Fields) (reading : Reading) →
    HasFields states line fields → IsReading fields.text.now reading → fields.to ≤ fields.from →
    RefusesLink states line number (Backward number)
leads_back states line number fields reading has is back =
    (refl, (link_with fields reading, line_of_fields states line fields reading has is, back))
