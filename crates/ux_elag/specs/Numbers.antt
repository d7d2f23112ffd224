-- A sentence whose readings are told by numbers, and its links between places. Inner: the crate's
-- own functions alone speak of it.
use Rattle.std.specs.Prelude.{◌≡◌, ℕ, ◌+◌, ◌-◌, ◌<◌, ◌≤◌, ◌↔◌, ◌⊎◌, List, [], ◌∷◌, All, AllPairs, Contains, IfNone, IfSome, None, Option, Some, flat_map, get_or, length, map}
use Rattle.std.specs.List.Sorted.{IsStrictlyIncreasing}
use Rattle.std.specs.Ordering.{nat_cmp, ordering_then}
use Rattle.std.specs.Cmp.Lexicographic.{slice_cmp}
use Rattle.std.specs.declared.cmp.Ordering.{Ordering}
use Rattle.ux_sentence.specs.declared.sentence.Reading.{Reading}
use Rattle.ux_sentence.specs.declared.sentence.Reading.TheVariants.{Raw}
use Rattle.ux_sentence.specs.declared.sentence.Link.{Link}
use Rattle.ux_sentence.specs.declared.sentence.Sentence.{Sentence}
use Rattle.ux_sentence.specs.Readings.{IsSpellable}
use Rattle.ux_sentence.specs.Written.{reading_text}
use Rattle.ux_subsets.specs.declared.automaton.Link as placed
use Rattle.ux_subsets.specs.declared.automaton.Automaton.{Automaton}
use Rattle.ux_subsets.specs.Paths.{IsAscending, IsLeft, Spells}
use Rattle.ux_reading_table.specs.declared.numbered.NumberedLink.{NumberedLink}
use Rattle.ux_reading_table.specs.declared.numbered.NumberedSentence.{NumberedSentence}
use Rattle.ux_elag.specs.Left.{IsTextBefore}

-- the reading with the number
abbrev pub reading_at : List Reading → ℕ → Reading
reading_at readings number = get_or readings number (Raw [])

-- the link for which a link with a numbered reading stands
abbrev pub link_of : List Reading → NumberedLink → Link
link_of readings link = record {
  from = link.from;
  to = link.to;
  reading = reading_at readings link.reading;
}

-- the sentence for which a numbered sentence stands
abbrev pub sentence_of : List Reading → NumberedSentence → Sentence
sentence_of readings sentence = record {
  number = sentence.number;
  states = sentence.states;
  links = map (link_of readings) sentence.links.items;
}

-- readings whose texts differ, each of which can be spelled
pub record AreReadings (readings : List Reading) : Type 0 where
  pub different : (number other : ℕ) → number < length readings → other < length readings →
      reading_text (reading_at readings number) ≡ reading_text (reading_at readings other) →
      number ≡ other
  pub spellable : All IsSpellable readings

-- the numbers of the readings are below the bound
abbrev pub AreBelow : (bound : ℕ) → List NumberedLink → Type 0
AreBelow bound links = All (λ link. link.reading < bound) links

-- a link leads to a greater state below the number of states
abbrev pub LeadsOn : (states : ℕ) → NumberedLink → Type 0
LeadsOn states link = (link.from < link.to) × (link.to < states)

-- a sentence has no states and no links, or at least two states and links that lead on
abbrev pub IsFormed : NumberedSentence → Type 0
IsFormed sentence = ((sentence.states ≡ 0) × (sentence.links.items ≡ []))
    ⊎ ((2 ≤ sentence.states) × All (LeadsOn sentence.states) sentence.links.items)

-- the states of a link
abbrev pub ends_of : NumberedLink → List ℕ
ends_of link = link.from ∷ link.to ∷ []

-- the first state, the last, and those of the links
abbrev pub states_in : NumberedSentence → List ℕ
states_in sentence = 0 ∷ (sentence.states - 1) ∷ flat_map ends_of sentence.links.items

-- the states of the link are among these
abbrev pub HasEnds : List ℕ → NumberedLink → Type 0
HasEnds states link = Contains states link.from × Contains states link.to

-- the state with the place
abbrev pub state_at : List ℕ → ℕ → ℕ
state_at states place = get_or states place 0

-- the link between states for which a link between places stands
abbrev pub stated : List ℕ → placed.Link → NumberedLink
stated states link = record {
  from = state_at states link.from;
  to = state_at states link.to;
  reading = link.reading;
}

-- the link leads between places of so many states
pub record IsWithin (count : ℕ) (link : placed.Link) : Type 0 where
  pub from : link.from < count
  pub to : link.to < count

-- the links of the source are those of the sentence, between the places of these states
pub record IsPlaced (sentence : NumberedSentence) (source : Automaton) : Type 0 where
  pub states : List ℕ
  pub rise : IsStrictlyIncreasing states
  pub count : length states ≡ source.last + 1
  pub some : 0 < source.last
  pub first : state_at states 0 ≡ 0
  pub last : state_at states source.last ≡ sentence.states - 1
  pub links_are : sentence.links.items ≡ map (stated states) source.links.items
  pub within : All (IsWithin (length states)) source.links.items
  pub ascending : IsAscending source.last source.links.items

-- what is kept of links is what is left where the lists are so, and nothing where none is
pub record IsKept (IsSo : List ℕ → Type 0) (last : ℕ) (links : List placed.Link)
    (kept : Option Automaton) : Type 0 where
  pub left : IfSome kept (λ left. IsLeft IsSo last links left.last left.links.items)
  pub nothing : IfNone kept ((word : List ℕ) → Spells links 0 last word → IsSo word → ⊥)

-- the text with the number
abbrev pub text_with : List (List ℕ) → (number : ℕ) → List ℕ
text_with texts number = get_or texts number []

-- each reading has the text with its number
abbrev pub HaveTexts : (texts : List (List ℕ)) → List Reading → Type 0
HaveTexts texts readings = (number : ℕ) → number < length readings →
    text_with texts number ≡ reading_text (reading_at readings number)

-- the one link stands before the other: by from, then by to, then by the text of the reading, and
-- last by its number
abbrev pub ComesBefore : (texts : List (List ℕ)) → (link other : placed.Link) → Type 0
ComesBefore texts link other = (link.from < other.from) ⊎ ((link.from ≡ other.from)
    × ((link.to < other.to) ⊎ ((link.to ≡ other.to)
    × (IsTextBefore (text_with texts link.reading) (text_with texts other.reading)
    ⊎ ((text_with texts link.reading ≡ text_with texts other.reading)
    × (link.reading < other.reading))))))

-- compared in this order
abbrev pub link_cmp : (texts : List (List ℕ)) → (link other : placed.Link) → Ordering
link_cmp texts link other = ordering_then (nat_cmp link.from other.from)
    (ordering_then (nat_cmp link.to other.to)
    (ordering_then
    (slice_cmp nat_cmp (text_with texts link.reading) (text_with texts other.reading))
    (nat_cmp link.reading other.reading)))

-- the link of a sentence that leads as this one does
abbrev pub told : placed.Link → NumberedLink
told link = record { from = link.from; to = link.to; reading = link.reading }

-- the links of the sentence are these, in the order of their texts, none twice
pub record IsOrderedBy (texts : List (List ℕ)) (number : ℕ) (automaton : Automaton)
    (sentence : NumberedSentence) : Type 0 where
  pub number_is : sentence.number ≡ number
  pub states_are : sentence.states ≡ automaton.last + 1
  pub sorted : List placed.Link
  pub rising : AllPairs (ComesBefore texts) sorted
  pub same : (link : placed.Link) → Contains sorted link ↔ Contains automaton.links.items link
  pub links_are : sentence.links.items ≡ map told sorted

-- the sentence has no states and no links
pub record IsEmpty (number : ℕ) (sentence : NumberedSentence) : Type 0 where
  pub number_is : sentence.number ≡ number
  pub no_states : sentence.states ≡ 0
  pub no_links : sentence.links.items ≡ []

-- the sentence of what is kept
abbrev pub IsOrdered : (texts : List (List ℕ)) → (number : ℕ) → Option Automaton →
    NumberedSentence → Type 0
IsOrdered texts number None sentence = IsEmpty number sentence
IsOrdered texts number (Some automaton) sentence = IsOrderedBy texts number automaton sentence
