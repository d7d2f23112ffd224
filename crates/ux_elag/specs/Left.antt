-- What rules leave of a sentence. The manual, on ELAG. Public: the crate's public contracts speak
-- of it.
use Rattle.std.specs.Prelude.{◌≡◌, ℕ, ◌<◌, ◌↔◌, ◌⊎◌, List, AllPairs, Contains, map}
use Rattle.std.specs.Ordering.{nat_cmp}
use Rattle.std.specs.Cmp.Lexicographic.{slice_cmp}
use Rattle.std.specs.declared.cmp.Ordering.TheVariants.{Less}
use Rattle.ux_sentence.specs.declared.sentence.Reading.{Reading}
use Rattle.ux_sentence.specs.declared.sentence.Link.{Link}
use Rattle.ux_sentence.specs.declared.sentence.Sentence.{Sentence}
use Rattle.ux_sentence.specs.Paths.{IsPath, IsReadAs, IsWellFormed, Spells, last_of}
use Rattle.ux_sentence.specs.Written.{reading_text}
use Rattle.ux_rules.specs.Rules.{RuleSteps, SatisfiesRule}

-- the one text stands before the other, by their bytes
abbrev pub IsTextBefore : (text other : List ℕ) → Type 0
IsTextBefore text other = slice_cmp nat_cmp text other ≡ Less

-- the one link stands before the other: by from, then by to, then by the text of the reading
abbrev pub IsBefore : (link other : Link) → Type 0
IsBefore link other = (link.from < other.from) ⊎ ((link.from ≡ other.from)
    × ((link.to < other.to) ⊎ ((link.to ≡ other.to)
    × IsTextBefore (reading_text link.reading) (reading_text other.reading))))

-- the links stand in order, none twice
abbrev pub AreInOrder : List Link → Type 0
AreInOrder links = AllPairs IsBefore links

-- the readings that a path spells
abbrev pub readings_of : List Link → List Reading
readings_of path = map (λ link. link.reading) path

-- from the two states the same reading lists lead to the last state
abbrev pub GoOnAlike : Sentence → (state other : ℕ) → Type 0
GoOnAlike sentence state other = (readings : List Reading) →
    Spells sentence.links state (last_of sentence) readings
    ↔ Spells sentence.links other (last_of sentence) readings

-- from the first state the same reading lists lead to the two states
abbrev pub ComeAlike : Sentence → (state other : ℕ) → Type 0
ComeAlike sentence state other = (readings : List Reading) →
    Spells sentence.links 0 state readings ↔ Spells sentence.links 0 other readings

-- a path from the first state to the last goes through the state
abbrev pub IsOnPath : Sentence → (state : ℕ) → Type 0
IsOnPath sentence state = (before after : List Reading) × Spells sentence.links 0 state before
    × Spells sentence.links state (last_of sentence) after

-- the new sentence spells just those reading lists of the old one that are so, each by one path.
-- Each state lies on a path, no two go on alike, and no two but the last come alike. Where no list is
-- left, it has no states and no links.
pub record Keeps (IsSo : List Reading → Type 0) (old new : Sentence) : Type 0 where
  pub number : new.number ≡ old.number
  pub exact : (readings : List Reading) →
      IsReadAs new readings ↔ (IsReadAs old readings × IsSo readings)
  pub once : (path other : List Link) → IsPath new.links 0 (last_of new) path →
      IsPath new.links 0 (last_of new) other → readings_of path ≡ readings_of other → path ≡ other
  pub on_path : (state : ℕ) → state < new.states → IsOnPath new state
  pub apart : (state other : ℕ) → state < new.states → other < new.states →
      GoOnAlike new state other → state ≡ other
  pub apart_before : (state other : ℕ) → state < last_of new → other < last_of new →
      ComeAlike new state other → state ≡ other
  pub formed : IsWellFormed new
  pub ordered : AreInOrder new.links
  pub none : ((readings : List Reading) → IsReadAs old readings → IsSo readings → ⊥) →
      new.states ≡ 0

-- the rule leaves the new sentence of the old one
abbrev pub IsLeft : RuleSteps → (old new : Sentence) → Type 0
IsLeft rule old new = Keeps (SatisfiesRule rule) old new

-- the reading list satisfies each of the rules
abbrev pub SatisfiesEach : List RuleSteps → List Reading → Type 0
SatisfiesEach rules readings =
    (rule : RuleSteps) → Contains rules rule → SatisfiesRule rule readings

-- the rules leave the new sentence of the old one
abbrev pub AreLeft : List RuleSteps → (old new : Sentence) → Type 0
AreLeft rules old new = Keeps (SatisfiesEach rules) old new
