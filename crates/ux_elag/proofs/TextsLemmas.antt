-- The readings of a table, from their texts.
use Rattle.std.proofs.Common.{arith, ◌≡◌, ℕ, ◌<◌, List, [], ◌∷◌, refl, sym, ◌∙◌, ap, length, get_or}
use Rattle.std.specs.Prelude.{All, Some, map, slice_get}
use Rattle.std.specs.List.{AllZip}
use Rattle.std.proofs.lemmas.List.{get_or-map, length-map}
use Rattle.std.proofs.lemmas.List.Elements.{All-cons, All-head, All-nil, All-tail}
use Rattle.std.proofs.lemmas.Option.{get_or_from_slice_get, slice_get-get_or, slice_get_within}
use Rattle.ux_sentence.specs.declared.sentence.Reading.{Reading}
use Rattle.ux_sentence.specs.declared.sentence.Reading.TheVariants.{Raw}
use Rattle.ux_sentence.specs.declared.sentence.Link.{Link}
use Rattle.ux_sentence.specs.declared.sentence.Sentence.{Sentence}
use Rattle.ux_sentence.specs.Readings.{IsSpellable}
use Rattle.ux_sentence.specs.Valid.{HasSpellable}
use Rattle.ux_sentence.specs.Written.{reading_text}
use Rattle.ux_sentence.proofs.ReadingLemmas.{spelled_once}
use Rattle.ux_reading_table.specs.Numbered.{AreTexts, IsNumberedBy, IsReadingText, IsTold}
use Rattle.ux_reading_table.specs.declared.numbered.NumberedLink.{NumberedLink}
use Rattle.ux_reading_table.specs.declared.numbered.NumberedSentence.{NumberedSentence}
use Rattle.ux_elag.specs.Numbers.{AreBelow, AreReadings, HaveTexts, link_of, reading_at, sentence_of}
use Rattle.ux_elag.specs.Prepared.{HasText}
use Rattle.ux_elag.proofs.NumberedLemmas.{same_link, same_sentence}

-- the readings are those of these texts
pub record AreReadingsOf (texts : List (List ℕ)) (readings : List Reading) : Type 0 where
  pub texts_are : map reading_text readings ≡ texts
  pub are_readings : AreReadings readings

-- readings that can be spelled, of texts
said : (texts : List (List ℕ)) → All IsReadingText texts →
    (readings : List Reading) × (map reading_text readings ≡ texts) × All IsSpellable readings
said [] each = ([], refl, All-nil IsSpellable)
said (text ∷ texts) each =
    let first = All-head IsReadingText text texts each in
    let later = said texts (All-tail IsReadingText text texts each) in (
      first.0 ∷ later.0,
      (ap (λ (t : List ℕ). t ∷ map reading_text later.0) (sym first.2)
          ∙ ap (λ (ts : List (List ℕ)). text ∷ ts) later.1),
      All-cons IsSpellable first.0 later.0 first.1 later.2,
    )

-- the text with the number
text-at : (texts : List (List ℕ)) (readings : List Reading) → map reading_text readings ≡ texts →
    (number : ℕ) → number < length readings →
    get_or texts number [] ≡ reading_text (reading_at readings number)
text-at texts readings are number lt =
    ap (λ (ts : List (List ℕ)). get_or ts number []) (sym are)
    ∙ get_or-map reading_text readings number (Raw []) [] lt

counted : (texts : List (List ℕ)) (readings : List Reading) → map reading_text readings ≡ texts →
    length readings ≡ length texts
counted texts readings are = sym (length-map readings reading_text) ∙ ap length are

-- the readings of different texts
pub readings_of : (texts : List (List ℕ)) → AreTexts texts →
    (readings : List Reading) × AreReadingsOf texts readings
readings_of texts are =
    let found = said texts are.each in
    let count = counted texts found.0 found.1 in (
      found.0,
      record {
        texts_are = found.1;
        are_readings = record {
          different = λ number other lt lo same. are.different number other
              (omega (arith, lt, count)) (omega (arith, lo, count))
              (text-at texts found.0 found.1 number lt
              ∙ (same ∙ sym (text-at texts found.0 found.1 other lo)));
          spellable = found.2;
        };
      },
    )

module _ (texts : List (List ℕ)) (readings : List Reading) (are : AreReadingsOf texts readings)
  where
    pub readings-count : length readings ≡ length texts
    readings-count = counted texts readings are.texts_are

    pub have-texts : HaveTexts texts readings
    have-texts number lt = text-at texts readings are.texts_are number lt

    -- each reading has its text
    pub reading-text : (number : ℕ) → number < length readings →
        HasText texts number (reading_at readings number)
    reading-text number lt =
        let count = readings-count in record {
          spellable = are.are_readings.spellable number (Raw []) lt;
          text = slice_get-get_or texts number [] (omega (arith, lt, count))
              ∙ ap Some (text-at texts readings are.texts_are number lt);
        }

    -- a reading with a text is the one with its number
    pub reading-is : (number : ℕ) (reading : Reading) → IsSpellable reading →
        slice_get texts number ≡ Some (reading_text reading) →
        (number < length readings) × (reading ≡ reading_at readings number)
    reading-is number reading spellable text =
        let count = readings-count in
        let inside = slice_get_within texts number (reading_text reading) text in
        let lt : number < length readings = omega (arith, inside, count) in (
          lt,
          spelled_once reading (reading_at readings number) spellable
              (are.are_readings.spellable number (Raw []) lt)
              (sym (get_or_from_slice_get texts number (reading_text reading) [] text)
              ∙ text-at texts readings are.texts_are number lt),
        )

    links-are : (numbered : List NumberedLink) (links : List Link) →
        AllZip (IsTold texts) numbered links → All HasSpellable links →
        AreBelow (length readings) numbered × (links ≡ map (link_of readings) numbered)
    links-are [] [] told spellable = (
      All-nil (λ (l : NumberedLink). l.reading < length readings),
      refl,
    )
    links-are [] (link ∷ links) told spellable = absurd told
    links-are (one ∷ numbered) [] told spellable = absurd told
    links-are (one ∷ numbered) (link ∷ links) told spellable =
        let first = told.0 in
        let here = reading-is one.reading link.reading (All-head HasSpellable link links spellable)
        first.reading in
        let later = links-are numbered links told.1 (All-tail HasSpellable link links spellable) in
        let is : link ≡ link_of readings one =
        same_link link (link_of readings one) (sym first.from) (sym first.to) here.1 in (
          All-cons (λ (l : NumberedLink). l.reading < length readings) one numbered here.0 later.0,
          (ap (λ (l : Link). l ∷ links) is
              ∙ ap (λ (ls : List Link). link_of readings one ∷ ls) later.1),
        )

    -- a sentence that is told by the numbers of its texts is told by those of its readings
    pub sentence-is : (sentence : Sentence) (numbered : NumberedSentence) →
        IsNumberedBy texts sentence numbered → All HasSpellable sentence.links →
        AreBelow (length readings) numbered.links.items × (sentence ≡ sentence_of readings numbered)
    sentence-is sentence numbered is spellable =
        let found = links-are numbered.links.items sentence.links is.links spellable in (
          found.0,
          same_sentence sentence (sentence_of readings numbered) (sym is.number) (sym is.states)
              found.1,
        )

    links-told : (numbered : List NumberedLink) → AreBelow (length readings) numbered →
        AllZip (IsTold texts) numbered (map (link_of readings) numbered)
    links-told [] below = tt
    links-told (one ∷ numbered) below = (
      record {
        from = refl;
        to = refl;
        reading = (reading-text one.reading
            (All-head (λ (l : NumberedLink). l.reading < length readings) one numbered below)).text;
      },
      links-told numbered (All-tail (λ (l : NumberedLink). l.reading < length readings) one numbered
          below),
    )

    -- and the other way round
    pub sentence-told : (numbered : NumberedSentence) → AreBelow (length readings)
        numbered.links.items →
        IsNumberedBy texts (sentence_of readings numbered) numbered
    sentence-told numbered below =
        record { number = refl; states = refl; links = links-told numbered.links.items below }
