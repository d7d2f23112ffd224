-- What is sought in which readings, and what a list of numbered sentences stands for. Public: the
-- crate's public contracts speak of it.
use Rattle.std.specs.Prelude.{ℕ, ◌-◌, List, All, map}
use Rattle.std.specs.List.{AllZip}
use Rattle.ux_alphabet.specs.Letters.{Letters}
use Rattle.ux_net.specs.declared.net_graph.NetGraph.{NetGraph}
use Rattle.ux_reading_table.specs.Numbered.{IsNumberedBy}
use Rattle.ux_reading_table.specs.declared.numbered.NumberedLink.{NumberedLink}
use Rattle.ux_reading_table.specs.declared.numbered.NumberedSentence.{NumberedSentence}
use Rattle.ux_sentence.specs.declared.sentence.Reading.{Reading}
use Rattle.ux_sentence.specs.declared.sentence.Sentence.{Sentence}
use Rattle.ux_sentence.specs.Readings.{IsSpellable}
use Rattle.ux_sentence.specs.Valid.{AreNumbered, IsWritable}
use Rattle.ux_tfst_locate.specs.declared.lattice.SentenceLink.{SentenceLink}

-- what a contract sees of a finder: the letters, the net, and the texts of the readings by number
pub record Sought : Type 0 where
  pub letters : Letters
  pub net : List NetGraph
  pub texts : List (List ℕ)

-- each of the readings can be spelled
abbrev pub AreSpellable : List Reading → Type 0
AreSpellable readings = All IsSpellable readings

-- The numbered sentences stand for these, which follow each other by number and can be written.
pub record AreTold (texts : List (List ℕ)) (sentences : List Sentence)
    (numbered : List NumberedSentence) : Type 0 where
  pub first : ℕ
  pub in_order : AreNumbered first sentences
  pub writable : All IsWritable sentences
  pub told : AllZip (IsNumberedBy texts) sentences numbered

-- a link with the number and the last state of its sentence
abbrev pub link_of : NumberedSentence → NumberedLink → SentenceLink
link_of sentence link = record {
  sentence = sentence.number;
  from = link.from;
  to = link.to;
  reading = link.reading;
  last = sentence.states - 1;
}

-- all links of the sentence so
abbrev pub links_of : NumberedSentence → List SentenceLink
links_of sentence = map (link_of sentence) sentence.links.items
