-- What a caller cites that goes through a file of sentences by its table.
use Rattle.std.proofs.Common.{◌≡◌, ℕ, ◌+◌, ◌<◌, List, [], ◌∷◌, ◌++◌, refl, ap, length}
use Rattle.std.specs.Prelude.{All}
use Rattle.std.specs.List.{AllZip}
use Rattle.std.proofs.lemmas.List.Elements.{All-nil, All-cons}
use Rattle.std.proofs.lemmas.Option.{slice_get_within}
use Rattle.ux_sentence.specs.declared.sentence.Link.{Link}
use Rattle.ux_sentence.specs.declared.sentence.Sentence.{Sentence}
use Rattle.ux_sentence.specs.Files.{Opens, Place}
use Rattle.ux_sentence.proofs.FileLemmas.{Passes-push}
use Rattle.ux_reading_table.specs.declared.numbered.NumberedLink.{NumberedLink}
use Rattle.ux_reading_table.specs.declared.numbered.NumberedSentence.{NumberedSentence}
use Rattle.ux_reading_table.specs.Numbered.{IsNumberedBy, IsPlaceOf, IsTold, ReadsNext, text_of}

-- the reading begins at a place of the file
pub first_place : (text : List ℕ) (place : Place) → Opens text place → IsPlaceOf text place
first_place text place opens =
    record { start = place; opens = opens; front = []; passes = refl }

-- and comes to one behind each sentence
pub next_place : (text : List ℕ) (texts : List (List ℕ)) (place new : Place)
    (numbered : NumberedSentence) → IsPlaceOf text place → ReadsNext texts place numbered new →
    IsPlaceOf text new
next_place text texts place new numbered at reads = record {
  start = at.start;
  opens = at.opens;
  front = at.front ++ reads.sentence ∷ [];
  passes = Passes-push at.start at.front place new reads.sentence reads.behind at.passes
      reads.tells reads.is_behind;
}

-- fewer sentences are left
pub fewer_left : (texts : List (List ℕ)) (place new : Place) (numbered : NumberedSentence) →
    ReadsNext texts place numbered new →
    (place.told < place.count) × (new.told ≡ place.told + 1) × (new.count ≡ place.count)
fewer_left texts place new numbered reads = (
  reads.tells.due,
  ap (λ (p : Place). p.told) reads.is_behind,
  ap (λ (p : Place). p.count) reads.is_behind,
)

-- the numbers of links that are told are those of texts
numbers_below : (texts : List (List ℕ)) (numbered : List NumberedLink) (links : List Link) →
    AllZip (IsTold texts) numbered links → All (λ link. link.reading < length texts) numbered
numbers_below texts [] links told = All-nil (λ link. link.reading < length texts)
numbers_below texts (x ∷ numbered) [] told = absurd told
numbers_below texts (x ∷ numbered) (y ∷ links) told =
    All-cons (λ link. link.reading < length texts) x numbered
    (slice_get_within texts x.reading (text_of y) told.0.reading)
    (numbers_below texts numbered links told.1)

pub numbers_within : (texts : List (List ℕ)) (sentence : Sentence) (numbered : NumberedSentence) →
    IsNumberedBy texts sentence numbered →
    All (λ link. link.reading < length texts) numbered.links.items
numbers_within texts sentence numbered is =
    numbers_below texts numbered.links.items sentence.links is.links
