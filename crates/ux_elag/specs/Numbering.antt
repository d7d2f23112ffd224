-- How the readings of a sentence are numbered. Inner: the crate's own functions alone speak of it.
use Rattle.std.specs.Prelude.{◌≡◌, ℕ, ◌<◌, List, [], All, get_or, length, map}
use Rattle.ux_sentence.specs.declared.sentence.Reading.{Reading}
use Rattle.ux_sentence.specs.declared.sentence.Reading.TheVariants.{Raw}
use Rattle.ux_sentence.specs.declared.sentence.Link.{Link}
use Rattle.ux_sentence.specs.declared.sentence.Sentence.{Sentence}
use Rattle.ux_reading_table.specs.declared.numbered.NumberedSentence.{NumberedSentence}
use Rattle.ux_reading_table.specs.Numbered.{text_of}
use Rattle.ux_elag.specs.Numbers.{AreBelow, AreReadings, HaveTexts, sentence_of}

-- the numbered sentence stands for the sentence, by these readings, which have these texts
pub record IsNumbered (sentence : Sentence) (texts : List (List ℕ)) (readings : List Reading)
    (numbered : NumberedSentence) : Type 0 where
  pub is : sentence ≡ sentence_of readings numbered
  pub are_readings : AreReadings readings
  pub texts_are : HaveTexts texts readings
  pub below : AreBelow (length readings) numbered.links.items

-- the link with the index
abbrev pub link_at : List Link → ℕ → Link
link_at links index = get_or links index (record { from = 0; to = 0; reading = Raw [] })

-- each link's text stands at its place among the texts
pub record AreToldBy (texts : List (List ℕ)) (links : List Link) (places : List ℕ) : Type 0 where
  pub told : map (λ place. get_or texts place []) places ≡ map text_of links
  pub within : All (λ place. place < length texts) places

-- each place that is told is told where it is shown
pub record IsShownBy (places : List ℕ) (count : ℕ) (shown : List ℕ) : Type 0 where
  pub counted : length shown ≡ count
  pub within : (k : ℕ) → k < length places → get_or shown (get_or places k 0) 0 < length places
  pub same : (k : ℕ) → k < length places →
      get_or places (get_or shown (get_or places k 0) 0) 0 ≡ get_or places k 0
