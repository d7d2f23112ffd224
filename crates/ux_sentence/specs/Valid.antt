-- Which sentences come back from their text. Public: the crate's public contracts speak of it.
use Rattle.std.specs.Prelude.{◌≡◌, ℕ, ◌+◌, ◌<◌, ◌^◌, ◌⊎◌, List, [], ◌∷◌, All, length}
use Rattle.ux_sentence.specs.declared.sentence.Link.{Link}
use Rattle.ux_sentence.specs.declared.sentence.Sentence.{Sentence}
use Rattle.ux_sentence.specs.Paths.{IsWellFormed}
use Rattle.ux_sentence.specs.Readings.{IsSpellable}
use Rattle.ux_sentence.specs.Written.{HasPath}

-- the reading of the link can be spelled
abbrev pub HasSpellable : Link → Type 0
HasSpellable link = IsSpellable link.reading

-- the sentences are numbered from here on
abbrev pub AreNumbered : ℕ → List Sentence → Type 0
AreNumbered number [] = Unit {0}
AreNumbered number (sentence ∷ sentences) =
    (sentence.number ≡ number) × AreNumbered (number + 1) sentences

-- numbers that fit, and readings that can be spelled
pub record IsWritable (sentence : Sentence) : Type 0 where
  pub well_formed : IsWellFormed sentence
  pub states_fit : sentence.states < 2 ^ 64
  pub links_fit : length sentence.links < 2 ^ 64
  pub readings : All HasSpellable sentence.links

-- sentences that the format can write
pub record AreValid (sentences : List Sentence) : Type 0 where
  pub numbered : AreNumbered 1 sentences
  pub fit : length sentences < 2 ^ 32
  pub writable : All IsWritable sentences

-- what the text of a sentence says: without a path it has no states
abbrev pub IsKept : Sentence → Sentence → Type 0
IsKept sentence said = (HasPath sentence × (said ≡ sentence))
    ⊎ ((HasPath sentence → ⊥) × (said ≡ record {
      number = sentence.number;
      states = 0;
      links = [];
    }))

-- what the text of sentences says, one by one
abbrev pub AreKept : List Sentence → List Sentence → Type 0
AreKept [] [] = Unit {0}
AreKept [] (other ∷ said) = ⊥
AreKept (sentence ∷ sentences) [] = ⊥
AreKept (sentence ∷ sentences) (other ∷ said) = IsKept sentence other × AreKept sentences said
