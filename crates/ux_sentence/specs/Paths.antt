-- The paths of a sentence's automaton, and the reading lists that they spell. The manual, on the
-- text automaton. Public: the crate's public contracts speak of it.
use Rattle.std.specs.Prelude.{◌≡◌, ℕ, ◌<◌, ◌≤◌, ◌-◌, ◌⊎◌, List, [], ◌∷◌, All, Contains, map}
use Rattle.ux_sentence.specs.declared.sentence.Reading.{Reading}
use Rattle.ux_sentence.specs.declared.sentence.Link.{Link}
use Rattle.ux_sentence.specs.declared.sentence.Sentence.{Sentence}

-- the links lead one after the other from a state to a state
abbrev pub IsPath : List Link → (from to : ℕ) → List Link → Type 0
IsPath links from to [] = from ≡ to
IsPath links from to (link ∷ path) =
    Contains links link × (link.from ≡ from) × IsPath links link.to to path

-- a path from a state to a state spells the readings
abbrev pub Spells : List Link → (from to : ℕ) → List Reading → Type 0
Spells links from to readings = (path : List Link) × IsPath links from to path
    × (map (λ link. link.reading) path ≡ readings)

-- the last state
abbrev pub last_of : Sentence → ℕ
last_of sentence = sentence.states - 1

-- a path of the sentence spells the readings
abbrev pub IsReadAs : Sentence → List Reading → Type 0
IsReadAs sentence readings = (0 < sentence.states) × Spells sentence.links 0 (last_of sentence) readings

-- a link leads to a greater state below the number of states
abbrev pub LeadsOn : (states : ℕ) → Link → Type 0
LeadsOn states link = (link.from < link.to) × (link.to < states)

-- a sentence has no states and no links, or at least two states and links that lead on
abbrev pub IsWellFormed : Sentence → Type 0
IsWellFormed sentence = ((sentence.states ≡ 0) × (sentence.links ≡ []))
    ⊎ ((2 ≤ sentence.states) × All (LeadsOn sentence.states) sentence.links)
