-- What is noted of the texts of links. Inner: the crate's own functions alone speak of it.
use Rattle.std.specs.Prelude.{◌<◌, ◌^◌, length}
use Rattle.std.specs.List.{AllZip}
use Rattle.ux_reading_table.specs.declared.noting.Noted.{Noted}
use Rattle.ux_reading_table.specs.Bare.{AreKnown}
use Rattle.ux_reading_table.specs.Liking.{AreLikes}
use Rattle.ux_reading_table.specs.Noting.{IsNumbered, spellings}
use Rattle.ux_reading_table.specs.Numbered.{AreDifferent}

-- beside each text that says a reading stands the number of this reading, the place of its printed
-- text, and no printed text stands twice; the codes are known, and which readings are alike
pub record AreNoted (noted : Noted) : Type 0 where
  pub numbered : AllZip (IsNumbered noted.printed.keys) (spellings noted.spelled)
      noted.numbers.items
  pub different : AreDifferent noted.printed.keys
  pub few : length noted.printed.keys < 2 ^ 32
  pub known : AreKnown noted.codes
  pub likes : AreLikes noted.printed.keys noted.codes.codes.items noted.likes
