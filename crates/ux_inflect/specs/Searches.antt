-- What a search finds: the places that are reached, each once, and the links between them. Inner: the
-- crate's own functions alone speak of it.
use Rattle.std.specs.Prelude.{◌≡◌, ◌+◌, ◌<◌, ◌≤◌, ℕ, List, [], ◌∷◌, ◌++◌, Some, Contains, slice_get, length, ◌⊎◌}
use Rattle.ux_net.specs.declared.net_graph.NetGraph.{NetGraph}
use Rattle.ux_inflect.specs.declared.codes.CodeState.TheVariants.{Nothing}
use Rattle.ux_inflect.specs.declared.config.Config.{Config}
use Rattle.ux_inflect.specs.declared.config.Frame.{Frame}
use Rattle.ux_inflect.specs.declared.exploring.Link.{Link}
use Rattle.ux_inflect.specs.declared.stroke.Detail.{Detail}
use Rattle.ux_inflect.specs.Endings.{IsMet}
use Rattle.ux_inflect.specs.Places.{Place, next, outlined, place_of}
use Rattle.ux_inflect.specs.Strokes.{at_end}
use Rattle.ux_inflect.specs.Weights.{total}

-- where the search for a lemma starts
abbrev pub start_place : Detail → List ℕ → Place
start_place detail lemma = record {
  frames = record { graph = 1; state = 0 } ∷ [];
  cursor = Some (outlined detail (at_end lemma));
  output = [];
  codes = Nothing;
}

module _ (detail : Detail) (net : List NetGraph) where
  -- steps that follow each other, with the text that they read
  pub data Walk : Place → List ℕ → Place → Type 0 where
    here : {p : Place} → Walk p [] p
    step : {p q r : Place} {text rest : List ℕ} → Contains (next detail net p) (text, q) →
        Walk q rest r → Walk p (text ++ rest) r

-- each frame of the place is reached
abbrev pub AreMet : List NetGraph → List Frame → Type 0
AreMet net [] = Unit {0}
AreMet net (frame ∷ frames) = IsMet net frame.graph frame.state × AreMet net frames

-- the place stands at number n of the list
abbrev pub IsAt : List Config → (n : ℕ) → Place → Type 0
IsAt keys n place = (config : Config) × (slice_get keys n ≡ Some config) × (place_of config ≡ place)

-- the links are those steps, by the numbers of the places to which they lead
pub record AreLinks (keys : List Config) (row : List Link) (steps : List (List ℕ × Place)) : Type 0 where
  pub whole : (text : List ℕ) (q : Place) → Contains steps (text, q) →
      (link : Link) × Contains row link × (link.text ≡ text) × IsAt keys link.to q
  pub only : (link : Link) → Contains row link →
      (q : Place) × Contains steps (link.text, q) × IsAt keys link.to q

-- the row of a number has the links of the place there
pub record IsLinked (detail : Detail) (net : List NetGraph) (keys : List Config)
    (links : List (List Link)) (n : ℕ) (config : Config) : Type 0 where
  pub row : List Link
  pub found : slice_get links n ≡ Some row
  pub are : AreLinks keys row (next detail net (place_of config))

-- all that is reached from the start is there, and nothing else
pub record IsExplored (detail : Detail) (net : List NetGraph) (start : Place) (keys : List Config)
    (links : List (List Link)) : Type 0 where
  pub first : IsAt keys 0 start
  pub len : length links ≡ length keys
  pub linked : (n : ℕ) (config : Config) → slice_get keys n ≡ Some config →
      IsLinked detail net keys links n config
  pub reached : (n : ℕ) (config : Config) → slice_get keys n ≡ Some config →
      (text : List ℕ) × Walk detail net start text (place_of config)
  pub met : (n : ℕ) (config : Config) → slice_get keys n ≡ Some config →
      AreMet net (place_of config).frames

-- Between two turns of a search: the first places have their links, and all are reached and met.
pub record IsExploring (detail : Detail) (net : List NetGraph) (start : Place) (keys : List Config)
    (links : List (List Link)) : Type 0 where
  pub first : IsAt keys 0 start
  pub below : length links ≤ length keys
  pub linked : (n : ℕ) (config : Config) → n < length links → slice_get keys n ≡ Some config →
      IsLinked detail net keys links n config
  pub reached : (n : ℕ) (config : Config) → slice_get keys n ≡ Some config →
      (text : List ℕ) × Walk detail net start text (place_of config)
  pub met : (n : ℕ) (config : Config) → slice_get keys n ≡ Some config →
      AreMet net (place_of config).frames

-- the configuration has the number: one with its place was there, or it is the last now
pub record IsNumbered (old : List Config) (config : Config) (new : List Config) (number : ℕ) : Type 0 where
  pub at : IsAt new number (place_of config)
  pub grown : (new ≡ old) ⊎ (new ≡ old ++ config ∷ [])

-- the places to which the steps lead have numbers, and the row has the links that lead there
pub record IsNoted (old : List Config) (steps : List (List ℕ × Place)) (new : List Config)
    (row : List Link) : Type 0 where
  pub more : List Config
  pub grown : new ≡ old ++ more
  pub links : AreLinks new row steps
  pub light : (weigh : Place → ℕ) → total (λ (config : Config). weigh (place_of config)) more
      ≤ total (λ (s : List ℕ × Place). weigh s.1) steps
  pub from : (config : Config) → Contains more config →
      (text : List ℕ) × Contains steps (text, place_of config)

-- The same while some steps are left: each step is left or has its link.
pub record IsNoting (old : List Config) (steps left : List (List ℕ × Place)) (new : List Config)
    (row : List Link) : Type 0 where
  pub more : List Config
  pub grown : new ≡ old ++ more
  pub whole : (text : List ℕ) (q : Place) → Contains steps (text, q) → Contains left (text, q)
      ⊎ ((link : Link) × Contains row link × (link.text ≡ text) × IsAt new link.to q)
  pub only : (link : Link) → Contains row link →
      (q : Place) × Contains steps (link.text, q) × IsAt new link.to q
  pub of_steps : (s : List ℕ × Place) → Contains left s → Contains steps s
  pub light : (weigh : Place → ℕ) → total (λ (config : Config). weigh (place_of config)) more
      + total (λ (s : List ℕ × Place). weigh s.1) left
      ≤ total (λ (s : List ℕ × Place). weigh s.1) steps
  pub from : (config : Config) → Contains more config →
      (text : List ℕ) × Contains steps (text, place_of config)
