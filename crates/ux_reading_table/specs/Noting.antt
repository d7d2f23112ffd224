-- How the texts of links are noted, and the sentences read by them. Inner: the crate's own
-- functions alone speak of it.
use Rattle.std.specs.Prelude.{◌≡◌, ◌↔◌, ◌⊎◌, ℕ, ◌+◌, ◌<◌, Bool, true, false, Option, None, Some, List, [], ◌∷◌, ◌++◌, Contains, length, map}
use Rattle.std.specs.List.{AllZip, flat_map}
use Rattle.indexmap.specs.IndexSet.{IndexSet}
use denote.Ref.{Bor}
use Rattle.ux_sentence.specs.declared.sentence.Reading.{Reading}
use Rattle.ux_sentence.specs.declared.sentence.Link.{Link}
use Rattle.ux_sentence.specs.declared.sentence.Sentence.{Sentence}
use Rattle.ux_sentence.specs.declared.sentence_line.Opening.{Opening}
use Rattle.ux_sentence.specs.Files.{AreSentences, IsOver, LinksSay, Place, Tells, behind_sentence}
use Rattle.ux_sentence.specs.Openings.{OpensSentence}
use Rattle.ux_sentence.specs.Readings.{IsReading}
use Rattle.ux_sentence.specs.Written.{link_line, reading_text}
use Rattle.ux_reading_table.specs.declared.fields.Fields.{Fields}
use Rattle.ux_reading_table.specs.declared.numbered.NumberedLink.{NumberedLink}
use Rattle.ux_reading_table.specs.declared.numbered.NumberedSentence.{NumberedSentence}
use Rattle.ux_reading_table.specs.Numbered.{IsNumberedBy, IsPlaceOfText, IsTold, text_of, texts_in}

-- the line has these fields, and its link leads between states of its sentence
pub record HasFields (states : ℕ) (line : List ℕ) (fields : Fields) : Type 0 where
  pub whole : line ≡ link_line fields.from fields.to fields.text.now
  pub from_state : fields.from < states
  pub to_state : fields.to < states

-- the texts of a set
abbrev pub spellings : {S : Type 0} → IndexSet (Bor (List ℕ)) S → List (List ℕ)
spellings set = map (λ spelled. spelled.now) set.keys

-- the text says a reading, and this is its printed text
abbrev pub IsSpelling : (spelled printed : List ℕ) → Type 0
IsSpelling spelled printed =
    (reading : Reading) × IsReading spelled reading × (printed ≡ reading_text reading)

-- the texts have one more, unless they had it
abbrev pub AddsText : (old : List (List ℕ)) (text : List ℕ) (new : List (List ℕ)) → Type 0
AddsText old text new =
    (one : List ℕ) → Contains new one ↔ (Contains old one ⊎ (one ≡ text))

-- the spellings have one more, or had it
abbrev pub AddsSpelling : (is_new : Bool) (old : List (List ℕ)) (text : List ℕ)
    (new : List (List ℕ)) → Type 0
AddsSpelling true old text new = new ≡ old ++ text ∷ []
AddsSpelling false old text new = Contains old text × (new ≡ old)

-- and so for each of some texts
abbrev pub AddsTexts : (old texts new : List (List ℕ)) → Type 0
AddsTexts old texts new =
    (one : List ℕ) → Contains new one ↔ (Contains old one ⊎ Contains texts one)

-- what is noted of a text: the printed text of its reading, which has this number, or nothing where
-- it says none
abbrev pub NotesText : (found : Option ℕ) (old : List (List ℕ)) (text : List ℕ)
    (new : List (List ℕ)) → Type 0
NotesText (Some number) old text new = (reading : Reading) × IsReading text reading
    × AddsText old (reading_text reading) new × IsPlaceOfText new (reading_text reading) number
NotesText None old text new = (reading : Reading) → IsReading text reading → ⊥

-- the lines of so many links are read from a place on
pub record ReadsLinks (states count : ℕ) (old : Place) (links : List Link) (new : Place) :
    Type 0 where
  pub many : length links ≡ count
  pub say : LinksSay states old.lines links new.lines
  pub passed : new.passed ≡ old.passed + count
  pub told : new.told ≡ old.told
  pub counted : new.count ≡ old.count

-- the line of the next sentence is read
pub record Begins (old : Place) (opening : Opening) (new : Place) : Type 0 where
  pub line : List ℕ
  pub due : old.told < old.count
  pub lines : old.lines ≡ line ∷ new.lines
  pub passed : new.passed ≡ old.passed + 1
  pub told : new.told ≡ old.told + 1
  pub counted : new.count ≡ old.count
  pub opens : OpensSentence (old.told + 1) line opening

-- the next sentence is read and told, and the texts of its links are noted, or all sentences were
-- read
abbrev pub NotesSentence : (found : Option NumberedSentence) (old new : Place)
    (texts noted : List (List ℕ)) → Type 0
NotesSentence (Some numbered) old new texts noted = (sentence : Sentence)
    × (behind : List (List ℕ)) × Tells old sentence behind
    × (new ≡ behind_sentence old sentence behind) × AddsTexts texts (texts_in sentence) noted
    × IsNumberedBy noted sentence numbered
NotesSentence None old new texts noted = IsOver old × (noted ≡ texts)

-- the texts are the printed ones of the readings of the file's links, and its sentences are told by
-- their places
pub record AreNotedOf (text : List ℕ) (texts : List (List ℕ)) (numbered : List NumberedSentence) :
    Type 0 where
  pub sentences : List Sentence
  pub said : AreSentences text sentences
  pub same : (one : List ℕ) → Contains texts one ↔ Contains (flat_map texts_in sentences) one
  pub told : AllZip (IsNumberedBy texts) sentences numbered

-- places of texts go on being theirs
abbrev pub KeepsPlaces : (old new : List (List ℕ)) → Type 0
KeepsPlaces old new =
    (place : ℕ) (text : List ℕ) → IsPlaceOfText old text place → IsPlaceOfText new text place

-- the text says a reading, and its printed text stands at the place
abbrev pub IsNumbered : (texts : List (List ℕ)) (spelled : List ℕ) (place : ℕ) → Type 0
IsNumbered texts spelled place =
    (reading : Reading) × IsReading spelled reading
    × IsPlaceOfText texts (reading_text reading) place

-- the text says a reading, whose printed text stands at the place if it is there at all
abbrev pub IsNumberIfKnown : (texts : List (List ℕ)) (spelled : List ℕ) (place : ℕ) → Type 0
IsNumberIfKnown texts spelled place = (reading : Reading) × IsReading spelled reading
    × (Contains texts (reading_text reading) → IsPlaceOfText texts (reading_text reading) place)

-- the link is told, if the printed text of its reading is there at all
abbrev pub IsToldIfKnown : (texts : List (List ℕ)) → NumberedLink → Link → Type 0
IsToldIfKnown texts numbered link = Contains texts (text_of link) → IsTold texts numbered link
