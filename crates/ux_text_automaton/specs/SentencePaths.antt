-- Lists of readings that follow each other on the tokens of a sentence. The manual, on the text
-- automaton. Public: the crate's law of paths speaks of it.
use Rattle.std.specs.Prelude.{◌≡◌, ℕ, ◌+◌, ◌<◌, ◌≤◌, List, [], ◌∷◌, IsSomeAnd, map, slice_get}
use Rattle.ux_tokens.specs.declared.kind.Kind.TheVariants as kind
use Rattle.ux_tokens.specs.Tokens.{Token}
use Rattle.ux_sentence.specs.declared.sentence.Reading.{Reading}
use Rattle.ux_text_automaton.specs.declared.run.Run.{Run}

-- a reading of neighbouring tokens, from the first to the last
pub record Analysis : Type 0 where
  pub first : ℕ
  pub last : ℕ
  pub reading : Reading

-- from a place up to another there are spaces alone
pub record AreSpaces (tokens : List Token) (from to : ℕ) : Type 0 where
  pub in_order : from ≤ to
  pub each : (place : ℕ) → from ≤ place → place < to →
      IsSomeAnd (slice_get tokens place) (λ token. token.kind ≡ kind.Space)

module _ (tokens : List Token) (Reads : (first last : ℕ) → Reading → Type 0) where
  -- the analyses follow each other from a place to an end, spaces left out
  abbrev pub Follow : (place end : ℕ) → List Analysis → Type 0
  Follow place end [] = AreSpaces tokens place end
  Follow place end (analysis ∷ path) =
      AreSpaces tokens place analysis.first × (analysis.last < end)
      × Reads analysis.first analysis.last analysis.reading × Follow (analysis.last + 1) end path

  -- the readings are those of analyses that follow each other from the first token to the last
  abbrev pub IsPathOf : Run → List Reading → Type 0
  IsPathOf run readings = (path : List Analysis) × Follow run.first run.end path
      × (map (λ analysis. analysis.reading) path ≡ readings)
