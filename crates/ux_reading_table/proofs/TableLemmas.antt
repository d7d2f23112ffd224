-- The places of texts in a table, and what a file of sentences has there.
use Rattle.std.proofs.Common.{arith, ◌≡◌, ◌↔◌, ℕ, zero, suc, ◌<◌, List, [], ◌∷◌, Some, sym, ◌∙◌, ap, subst, length, get_or}
use Rattle.std.specs.Prelude.{All, Contains, slice_get}
use Rattle.std.specs.List.{AllZip, flat_map}
use Rattle.std.proofs.lemmas.Option.{slice_get-get_or}
use Rattle.std.proofs.lemmas.List.Elements.{All-contains, Contains-get_or}
use Rattle.ux_base.proofs.JoinedLists.{contained_joined, contained_mapped}
use Rattle.ux_sentence.specs.declared.sentence.Sentence.{Sentence}
use Rattle.ux_sentence.specs.Files.{IsOver, Place}
use Rattle.ux_sentence.specs.Valid.{HasSpellable, IsWritable}
use Rattle.ux_sentence.proofs.PlaceLemmas.{IsReadTo, read_whole}
use Rattle.ux_sentence.proofs.ReadingLemmas.{one_reading, spelled}
use Rattle.ux_sentence.proofs.ValidLemmas.{read_is_valid}
use Rattle.ux_sentence.specs.declared.sentence.Reading.{Reading}
use Rattle.ux_sentence.specs.Readings.{IsReading, IsSpellable}
use Rattle.ux_sentence.specs.Written.{reading_text}
use Rattle.ux_reading_table.specs.Noting.{AreNotedOf, IsNumbered, IsNumberIfKnown, IsSpelling}
use Rattle.ux_reading_table.specs.Numbered.{AreDifferent, AreTexts, IsNumberedBy, IsNumberedText, IsPlaceOfText, IsReadingText, text_of, texts_in}
use Rattle.ux_reading_table.specs.declared.numbered.NumberedSentence.{NumberedSentence}

-- a spelled text has the place that stands beside it
pub numbered_at : (texts spelled : List (List ℕ)) (numbers : List ℕ) (index : ℕ) (text : List ℕ)
    (d : ℕ) → AllZip (IsNumbered texts) spelled numbers → slice_get spelled index ≡ Some text →
    (index < length numbers) × IsNumbered texts text (get_or numbers index d)
numbered_at texts [] numbers index text d are at = cc
numbered_at texts (x ∷ spelled) [] index text d are at = absurd are
numbered_at texts (x ∷ spelled) (number ∷ numbers) zero text d are at =
    let same : x ≡ text = cc in
    (omega arith, subst (λ (t : List ℕ). IsNumbered texts t number) same are.0)
numbered_at texts (x ∷ spelled) (number ∷ numbers) (suc index) text d are at =
    let later = numbered_at texts spelled numbers index text d are.1 at in
    (omega (arith, later.0), later.1)

-- the place of a spelled text
pub number_of_spelled : (texts now spelled : List (List ℕ)) (numbers : List ℕ) (index : ℕ)
    (text : List ℕ) (number : ℕ) → texts ≡ now → AllZip (IsNumbered texts) spelled numbers →
    slice_get spelled index ≡ Some text → number ≡ get_or numbers index number →
    IsNumberIfKnown now text number
number_of_spelled texts now spelled numbers index text number same are at is =
    let numbered : IsNumbered texts text (get_or numbers index number) =
    (numbered_at texts spelled numbers index text number are at).1 in
    let (reading, says, there) = subst (λ (ts : List (List ℕ)). IsNumbered ts text number) same
    (subst (λ (n : ℕ). IsNumbered texts text n) (sym is) numbered) in
    (reading, says, λ _. there)

-- the place of a text that is found by its printed text
pub number_of_printed : (texts now : List (List ℕ)) (text printed : List ℕ) (place : ℕ) →
    texts ≡ now → IsSpelling text printed →
    (Contains texts printed → IsPlaceOfText texts printed place) → IsNumberIfKnown now text place
number_of_printed texts now text printed place same (reading, says, is) found =
    let here : Contains now printed → IsPlaceOfText now printed place =
    subst (λ (ts : List (List ℕ)). Contains ts printed → IsPlaceOfText ts printed place) same
    found in
    (reading, says, subst (λ (t : List ℕ). Contains now t → IsPlaceOfText now t place) is here)

-- the text with a number is the printed one of a reading
reading_at : (texts : List (List ℕ)) (number : ℕ) (text : List ℕ) → AreTexts texts →
    number < length texts → text ≡ get_or texts number text → IsReadingText text
reading_at texts number text are lt is =
    subst IsReadingText (sym is) (are.each number text lt)

-- so it says this reading
pub reading_there : (texts : List (List ℕ)) (number : ℕ) (text : List ℕ) → AreTexts texts →
    number < length texts → text ≡ get_or texts number text →
    ((reading : Reading) → IsReading text reading → ⊥) → ⊥
reading_there texts number text are lt is none =
    let (reading, good, shown) = reading_at texts number text are lt is in
    none reading (subst (λ (t : List ℕ). IsReading t reading) (sym shown) (spelled reading good))

-- and no other
pub reading_found : (texts now : List (List ℕ)) (number : ℕ) (text : List ℕ) (reading : Reading) →
    texts ≡ now → AreTexts texts → number < length texts → text ≡ get_or texts number text →
    IsReading text reading →
    IsSpellable reading × (slice_get now number ≡ Some (reading_text reading))
reading_found texts now number text reading same are lt is says =
    let (other, good, shown) = reading_at texts number text are lt is in
    let one : other ≡ reading = one_reading text other reading
    (subst (λ (t : List ℕ). IsReading t other) (sym shown) (spelled other good)) says in (
      subst IsSpellable one good,
      subst (λ (ts : List (List ℕ)). slice_get ts number ≡ Some (reading_text reading)) same
          (slice_get-get_or texts number text lt
          ∙ ap Some (sym is ∙ (shown ∙ ap reading_text one))),
    )

-- at first nothing is noted
pub none_noted : (texts : List (List ℕ)) → texts ≡ [] → (one : List ℕ) →
    Contains texts one ↔ Contains (flat_map texts_in []) one
none_noted texts none one =
    subst (λ (ts : List (List ℕ)). Contains ts one ↔ Contains (flat_map texts_in []) one) (sym none)
    (λ has. has, λ has. has)

-- what was noted is of a file that was read to its end
pub noted_whole : (text : List ℕ) (place : Place) (read : List Sentence)
    (texts new : List (List ℕ)) (numbered : List NumberedSentence) → IsReadTo text place read →
    IsOver place → ((one : List ℕ) → Contains texts one ↔ Contains (flat_map texts_in read) one) →
    AllZip (IsNumberedBy texts) read numbered → new ≡ texts → AreNotedOf text new numbered
noted_whole text place read texts new numbered so_far over same told is = record {
  sentences = read;
  said = read_whole text place read so_far over;
  same = λ one. subst (λ (ts : List (List ℕ)). Contains ts one
      ↔ Contains (flat_map texts_in read) one) (sym is) (same one);
  told = subst (λ (ts : List (List ℕ)). AllZip (IsNumberedBy ts) read numbered) (sym is) told;
}

-- the texts of a file are printed ones of readings that can be spelled
pub noted_readings : (text : List ℕ) (texts : List (List ℕ)) (numbered : List NumberedSentence) →
    AreNotedOf text texts numbered → All IsReadingText texts
noted_readings text texts numbered noted k d lt =
    let one = get_or texts k d in
    let (sentence, is_one, among) = contained_joined texts_in noted.sentences one
    ((noted.same one).0 (Contains-get_or texts k d lt)) in
    let (link, has, shown) = contained_mapped text_of sentence.links one among in
    let valid = read_is_valid text noted.sentences noted.said in
    let writable = All-contains IsWritable noted.sentences sentence valid.writable is_one in
    let good = All-contains HasSpellable sentence.links link writable.readings has in
    (link.reading, good, sym shown)

-- the table of the texts that were noted, and the sentences that are told by it
pub table_of_noted : (text : List ℕ) (texts new : List (List ℕ)) (numbered : List NumberedSentence) →
    new ≡ texts → AreDifferent texts → AreNotedOf text texts numbered →
    IsNumberedText text new numbered
table_of_noted text texts new numbered same different of_file =
    subst (λ (ts : List (List ℕ)). IsNumberedText text ts numbered) (sym same) (record {
      table = record {
        are_texts = record {
          different = different;
          each = noted_readings text texts numbered of_file;
        };
        sentences = of_file.sentences;
        said = of_file.said;
        same = of_file.same;
      };
      told = of_file.told;
    })
