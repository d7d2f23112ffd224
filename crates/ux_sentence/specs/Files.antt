-- How a file of sentence automata is read: sentence by sentence, up to the first bad line. Public: the
-- crate's public contracts speak of it.
use Rattle.std.specs.Prelude.{◌≡◌, ℕ, ◌+◌, ◌-◌, ◌<◌, ◌≤◌, ◌^◌, ◌⊎◌, List, [], ◌∷◌, length}
use Rattle.ux_base.specs.Lines.{lines_of}
use Rattle.ux_sentence.specs.declared.sentence.Link.{Link}
use Rattle.ux_sentence.specs.declared.sentence.Sentence.{Sentence}
use Rattle.ux_sentence.specs.declared.error.SentenceError.{SentenceError}
use Rattle.ux_sentence.specs.declared.error.SentenceError.TheVariants.{BadLine, BadEdge, Backward, NoMemory}
use Rattle.ux_sentence.specs.Written.{head_line, sentence_line, empty_line, link_line}
use Rattle.ux_sentence.specs.Readings.{IsReading}

-- the line is of the form of a link's, in a sentence of so many states
pub record IsLinkLine (states : ℕ) (line : List ℕ) (link : Link) : Type 0 where
  pub text : List ℕ
  pub whole : line ≡ link_line link.from link.to text
  pub reading : IsReading text link.reading
  pub from_state : link.from < states
  pub to_state : link.to < states

-- the line says the link, which leads to a greater state
abbrev pub LinkSays : (states : ℕ) (line : List ℕ) → Link → Type 0
LinkSays states line link = IsLinkLine states line link × (link.from < link.to)

-- why the line of this number says no link
abbrev pub RefusesLink : (states : ℕ) (line : List ℕ) (number : ℕ) → SentenceError → Type 0
RefusesLink states line number (BadEdge n) =
    (n ≡ number) × ((link : Link) → IsLinkLine states line link → ⊥)
RefusesLink states line number (Backward n) =
    (n ≡ number) × ((link : Link) × IsLinkLine states line link × (link.to ≤ link.from))
RefusesLink states line number (BadLine n) = ⊥
RefusesLink states line number NoMemory = ⊥

-- the first lines say the links, one each, and these lines stand behind them
abbrev pub LinksSay : (states : ℕ) (lines : List (List ℕ)) → List Link → List (List ℕ) → Type 0
LinksSay states lines [] behind = lines ≡ behind
LinksSay states [] (link ∷ links) behind = ⊥
LinksSay states (line ∷ lines) (link ∷ links) behind =
    LinkSays states line link × LinksSay states lines links behind

-- the first of so many link lines that is missing or refused; lines count from this number
abbrev pub RefusesLinks : (states count : ℕ) (lines : List (List ℕ)) (number : ℕ) →
    SentenceError → Type 0
RefusesLinks states count [] number error = (0 < count) × (error ≡ BadLine number)
RefusesLinks states count (line ∷ lines) number error = (0 < count)
    × (RefusesLink states line number error
    ⊎ ((link : Link) × LinkSays states line link
    × RefusesLinks states (count - 1) lines (number + 1) error))

-- the line is that of a sentence of this number, with so many states and links
pub record IsSentenceLine (number : ℕ) (line : List ℕ) (states links : ℕ) : Type 0 where
  pub whole : line ≡ sentence_line number states links
  pub some : 2 ≤ states
  pub states_fit : states < 2 ^ 64
  pub links_fit : links < 2 ^ 64

-- the line begins no sentence of this number
pub record IsNoSentenceLine (number : ℕ) (line : List ℕ) : Type 0 where
  pub no_empty : line ≡ empty_line number → ⊥
  pub no_states : (states links : ℕ) → IsSentenceLine number line states links → ⊥

-- the line says that the sentence has no path
pub record IsEmptyLine (line : List ℕ) (sentence : Sentence) : Type 0 where
  pub whole : line ≡ empty_line sentence.number
  pub no_states : sentence.states ≡ 0
  pub no_links : sentence.links ≡ []

-- the first lines say the sentence, and these lines stand behind them
abbrev pub SentenceSays : List (List ℕ) → Sentence → List (List ℕ) → Type 0
SentenceSays [] sentence behind = ⊥
SentenceSays (line ∷ lines) sentence behind =
    (IsEmptyLine line sentence × (lines ≡ behind))
    ⊎ (IsSentenceLine sentence.number line sentence.states (length sentence.links)
    × LinksSay sentence.states lines sentence.links behind)

-- why the lines from this one on say no sentence of this number
abbrev pub RefusesSentence : (number : ℕ) (lines : List (List ℕ)) (first : ℕ) →
    SentenceError → Type 0
RefusesSentence number [] first error = error ≡ BadLine first
RefusesSentence number (line ∷ lines) first error =
    (IsNoSentenceLine number line × (error ≡ BadLine first))
    ⊎ ((states : ℕ) × (links : ℕ) × IsSentenceLine number line states links
    × RefusesLinks states links lines (first + 1) error)

-- a place in a file: the lines behind it, and how many lines, and how many of the sentences that the
-- head line counts, stand before it
pub record Place : Type 0 where
  pub lines : List (List ℕ)
  pub passed : ℕ
  pub told : ℕ
  pub count : ℕ

-- the place behind the head line
pub record Opens (text : List ℕ) (place : Place) : Type 0 where
  pub head : List ℕ
  pub lines : lines_of text ≡ head ∷ place.lines
  pub is_head : head ≡ head_line place.count
  pub fits : place.count < 2 ^ 32
  pub passed : place.passed ≡ 1
  pub told : place.told ≡ 0

-- the next sentence is told from the place on, and these lines stand behind it
pub record Tells (place : Place) (sentence : Sentence) (behind : List (List ℕ)) : Type 0 where
  pub due : place.told < place.count
  pub number : sentence.number ≡ place.told + 1
  pub says : SentenceSays place.lines sentence behind

-- the place behind the sentence
abbrev pub behind_sentence : Place → Sentence → List (List ℕ) → Place
behind_sentence place sentence behind = record {
  lines = behind;
  passed = place.passed + 1 + length sentence.links;
  told = place.told + 1;
  count = place.count;
}

-- all sentences were told, and no line is left
pub record IsOver (place : Place) : Type 0 where
  pub told : place.told ≡ place.count
  pub no_line : place.lines ≡ []

-- why no sentence is told from the place on, and the file isn't over
abbrev pub Stops : Place → SentenceError → Type 0
Stops place error =
    ((place.told ≡ place.count) × (0 < length place.lines) × (error ≡ BadLine (place.passed + 1)))
    ⊎ ((place.told < place.count)
    × RefusesSentence (place.told + 1) place.lines (place.passed + 1) error)

-- the sentences lead from a place to a place
abbrev pub Passes : Place → List Sentence → Place → Type 0
Passes place [] end = place ≡ end
Passes place (sentence ∷ sentences) end = (behind : List (List ℕ)) × Tells place sentence behind
    × Passes (behind_sentence place sentence behind) sentences end

-- the sentences are all from the place on
abbrev pub AreAll : Place → List Sentence → Type 0
AreAll place sentences = (end : Place) × Passes place sentences end × IsOver end

-- the first fault from the place on
abbrev pub IsRefused : Place → SentenceError → Type 0
IsRefused place error =
    (front : List Sentence) × (end : Place) × Passes place front end × Stops end error

-- the sentences of the file
abbrev pub AreSentences : List ℕ → List Sentence → Type 0
AreSentences text sentences = (start : Place) × Opens text start × AreAll start sentences

-- the first line isn't a head line, or is missing
abbrev pub HasNoHead : List ℕ → Type 0
HasNoHead text = (start : Place) → Opens text start → ⊥

-- why the file is refused; lines count from 1, and a missing line has the number that it would have
abbrev pub Refuses : List ℕ → SentenceError → Type 0
Refuses text error = (HasNoHead text × (error ≡ BadLine 1))
    ⊎ ((start : Place) × Opens text start × IsRefused start error)
