-- A sentence as an input, whose positions are its states, and sentences side by side. Public: the
-- contracts of the search speak of it.
use Rattle.std.specs.Prelude.{◌≡◌, ℕ, List, Contains}
use Rattle.ux_alphabet.specs.Letters.{Letters}
use Rattle.ux_meaning.specs.Inputs.{Input}
use Rattle.ux_net.specs.declared.label.Label.{Label}
use Rattle.ux_reading_match.specs.Matching.{Matches}
use Rattle.ux_reading_match.specs.Readings.{MatchesNumber}
use Rattle.ux_sentence.specs.declared.sentence.Link.{Link}
use Rattle.ux_sentence.specs.declared.sentence.Reading.{Reading}
use Rattle.ux_tfst_locate.specs.declared.lattice.Arc.{Arc}
use Rattle.ux_tfst_locate.specs.Lattices.{Rows, row_at}

module _ (letters : Letters) where
  module _ (links : List Link) where
    -- the label takes the reading of a link from a state to a state
    abbrev pub TakesLink : Label → (from to : ℕ) → Type 0
    TakesLink label from to = (link : Link) × Contains links link × (link.from ≡ from)
        × (link.to ≡ to) × Matches letters label link.reading

    -- a sentence of these links as input; no space stands in it
    abbrev pub sentence_input : Input
    sentence_input = record {
      Takes = TakesLink;
      IsSpaceAt = λ state. ⊥;
    }

  module _ (readings : List Reading) (rows : Rows) where
    -- the label takes the reading of an arc from a position to a position
    abbrev pub TakesArc : Label → (i k : ℕ) → Type 0
    TakesArc label i k = (arc : Arc) × Contains (row_at rows i) arc × (arc.to ≡ k)
        × MatchesNumber letters readings label arc.reading

    -- the arcs of sentences side by side as input
    abbrev pub lattice_input : Input
    lattice_input = record {
      Takes = TakesArc;
      IsSpaceAt = λ position. ⊥;
    }
