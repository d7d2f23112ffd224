-- A sentence whose states are told by places and whose readings are told by numbers, as a sentence.
use Rattle.std.proofs.Common.{◌≡◌, ℕ, ◌-◌, ◌<◌, ◌≤◌, List, [], ◌∷◌, refl, sym, ◌∙◌, ap, subst, arith, length}
use Rattle.std.specs.Prelude.{Contains, map}
use Rattle.std.specs.List.Sorted.{IsStrictlyIncreasing}
use Rattle.std.proofs.lemmas.List.Elements.{All-contains}
use Rattle.ux_base.proofs.JoinedLists.{contains_mapped}
use Rattle.ux_sentence.specs.declared.sentence.Reading.{Reading}
use Rattle.ux_sentence.specs.declared.sentence.Link.{Link}
use Rattle.ux_sentence.specs.declared.sentence.Sentence.{Sentence}
use Rattle.ux_sentence.specs.Paths.{last_of}
use Rattle.ux_subsets.specs.declared.automaton.Link as placed
use Rattle.ux_subsets.specs.declared.automaton.Automaton.{Automaton}
use Rattle.ux_reading_table.specs.declared.numbered.NumberedLink.{NumberedLink}
use Rattle.ux_reading_table.specs.declared.numbered.NumberedSentence.{NumberedSentence}
use Rattle.ux_elag.specs.Numbers.{AreBelow, AreReadings, IsPlaced, IsWithin, link_of, reading_at, sentence_of, state_at, stated, told}

-- the link of a sentence for which a link between places stands
abbrev pub named : (name : ℕ → ℕ) → List Reading → placed.Link → Link
named name readings link = record {
  from = name link.from;
  to = name link.to;
  reading = reading_at readings link.reading;
}

-- the numbers of the link are below these counts
pub record AreInside (states readings : ℕ) (link : placed.Link) : Type 0 where
  pub from : link.from < states
  pub to : link.to < states
  pub reading : link.reading < readings

-- the links between places tell the sentence, by these states and readings
pub record IsNamed (sentence : Sentence) (states : List ℕ) (readings : List Reading)
    (links : List placed.Link) : Type 0 where
  pub links_are : sentence.links ≡ map (named (state_at states) readings) links
  pub two : 2 ≤ length states
  pub first : state_at states 0 ≡ 0
  pub last : state_at states (length states - 1) ≡ last_of sentence
  pub states_rise : IsStrictlyIncreasing states
  pub are_readings : AreReadings readings
  pub within : (link : placed.Link) → Contains links link →
      AreInside (length states) (length readings) link

-- names of what was told
pub named-stated : (states : List ℕ) (readings : List Reading) (links : List placed.Link) →
    map (link_of readings) (map (stated states) links) ≡ map (named (state_at states) readings)
    links
named-stated states readings [] = refl
named-stated states readings (link ∷ links) =
    ap (λ (rest : List Link). named (state_at states) readings link ∷ rest)
    (named-stated states readings links)

pub named-told : (readings : List Reading) (links : List placed.Link) →
    map (link_of readings) (map told links) ≡ map (named (λ state. state) readings) links
named-told readings [] = refl
named-told readings (link ∷ links) =
    ap (λ (rest : List Link). named (λ state. state) readings link ∷ rest)
    (named-told readings links)

-- what is placed tells the sentence, by any readings
pub placed-named : (numbered : NumberedSentence) (source : Automaton) (readings : List Reading) →
    (is : IsPlaced numbered source) → AreReadings readings →
    AreBelow (length readings) numbered.links.items →
    IsNamed (sentence_of readings numbered) is.states readings source.links.items
placed-named numbered source readings is are_readings below =
    let count = is.count in
    let some = is.some in
    let back : source.last ≡ length is.states - 1 = omega (arith, count) in
    record {
      links_are = ap (map (link_of readings)) is.links_are
          ∙ named-stated is.states readings source.links.items;
      two = omega (arith, count, some);
      first = is.first;
      last = ap (state_at is.states) (sym back) ∙ is.last;
      states_rise = is.rise;
      are_readings = are_readings;
      within = λ link has.
          let ends = All-contains (IsWithin (length is.states)) source.links.items link is.within
          has in
          let there = contains_mapped (stated is.states) source.links.items link has in
          record {
            from = ends.from;
            to = ends.to;
            reading = All-contains (λ (l : NumberedLink). l.reading < length readings)
                numbered.links.items (stated is.states link) below
                (subst (λ (ls : List NumberedLink). Contains ls (stated is.states link))
                (sym is.links_are) there);
          };
    }
