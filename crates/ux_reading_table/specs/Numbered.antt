-- Sentences whose readings are told by numbers: the places of their printed texts among those of a
-- file. Public: the crate's public contracts speak of it.
use Rattle.std.specs.Prelude.{◌≡◌, ◌↔◌, ◌<◌, ℕ, List, [], All, Contains, Some, get_or, length, map, slice_get}
use Rattle.std.specs.List.{AllZip, flat_map}
use Rattle.ux_sentence.specs.declared.sentence.Reading.{Reading}
use Rattle.ux_sentence.specs.declared.sentence.Link.{Link}
use Rattle.ux_sentence.specs.declared.sentence.Sentence.{Sentence}
use Rattle.ux_sentence.specs.Files.{AreSentences, Opens, Passes, Place, Tells, behind_sentence}
use Rattle.ux_sentence.specs.Readings.{IsSpellable}
use Rattle.ux_sentence.specs.Valid.{IsWritable}
use Rattle.ux_sentence.specs.Written.{reading_text}
use Rattle.ux_reading_table.specs.declared.numbered.NumberedLink.{NumberedLink}
use Rattle.ux_reading_table.specs.declared.numbered.NumberedSentence.{NumberedSentence}

-- the printed text of the link's reading
abbrev pub text_of : Link → List ℕ
text_of link = reading_text link.reading

-- the link is told, its reading by the place of its printed text
pub record IsTold (texts : List (List ℕ)) (numbered : NumberedLink) (link : Link) : Type 0 where
  pub from : numbered.from ≡ link.from
  pub to : numbered.to ≡ link.to
  pub reading : slice_get texts numbered.reading ≡ Some (text_of link)

-- the sentence is told, its readings by the places of their printed texts
pub record IsNumberedBy (texts : List (List ℕ)) (sentence : Sentence)
    (numbered : NumberedSentence) : Type 0 where
  pub number : numbered.number ≡ sentence.number
  pub states : numbered.states ≡ sentence.states
  pub links : AllZip (IsTold texts) numbered.links.items sentence.links

-- the text is the printed one of a reading that can be spelled
abbrev pub IsReadingText : List ℕ → Type 0
IsReadingText text = (reading : Reading) × IsSpellable reading × (text ≡ reading_text reading)

-- the text stands at the place
abbrev pub IsPlaceOfText : (texts : List (List ℕ)) (text : List ℕ) (place : ℕ) → Type 0
IsPlaceOfText texts text place = slice_get texts place ≡ Some text

-- no text stands at two places
abbrev pub AreDifferent : (texts : List (List ℕ)) → Type 0
AreDifferent texts = (place other : ℕ) → place < length texts → other < length texts →
    get_or texts place [] ≡ get_or texts other [] → place ≡ other

-- printed texts of readings, none twice
pub record AreTexts (texts : List (List ℕ)) : Type 0 where
  pub different : AreDifferent texts
  pub each : All IsReadingText texts

-- the printed texts of the readings of the sentence's links
abbrev pub texts_in : Sentence → List (List ℕ)
texts_in sentence = map text_of sentence.links

-- the texts are the printed ones of the readings of the file
pub record IsTableOf (text : List ℕ) (texts : List (List ℕ)) : Type 0 where
  pub are_texts : AreTexts texts
  pub sentences : List Sentence
  pub said : AreSentences text sentences
  pub same : (one : List ℕ) → Contains texts one ↔ Contains (flat_map texts_in sentences) one

-- the texts are those of the file, and its sentences are told by their places
pub record IsNumberedText (text : List ℕ) (texts : List (List ℕ))
    (numbered : List NumberedSentence) : Type 0 where
  pub table : IsTableOf text texts
  pub told : AllZip (IsNumberedBy texts) table.sentences numbered

-- a place to which the reading of the file comes
pub record IsPlaceOf (text : List ℕ) (place : Place) : Type 0 where
  pub start : Place
  pub opens : Opens text start
  pub front : List Sentence
  pub passes : Passes start front place

-- the next sentence is read, told by the places of its texts, and can be written
pub record ReadsNext (texts : List (List ℕ)) (old : Place) (numbered : NumberedSentence)
    (new : Place) : Type 0 where
  pub sentence : Sentence
  pub behind : List (List ℕ)
  pub tells : Tells old sentence behind
  pub is_behind : new ≡ behind_sentence old sentence behind
  pub is_numbered : IsNumberedBy texts sentence numbered
  pub writable : IsWritable sentence
