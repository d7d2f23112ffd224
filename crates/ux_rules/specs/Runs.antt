-- The runs of a rule's steps, and which lists of readings satisfy a rule. The manual, on ELAG.
-- Public: the crate's public contracts speak of it.
use Rattle.std.specs.Prelude.{◌≡◌, ◌≢◌, ℕ, List, [], ◌∷◌, ◌++◌, map, Contains}
use Rattle.ux_sentence.specs.declared.sentence.Reading.{Reading}
use Rattle.ux_rules.specs.declared.test.Test.{Test}
use Rattle.ux_rules.specs.declared.step.Sign.{Sign}
use Rattle.ux_rules.specs.declared.step.Sign.TheVariants.{Free, Read}
use Rattle.ux_rules.specs.declared.step.Step.{Step}
use Rattle.ux_rules.specs.Tests.{Passes}

-- the steps lead from a place to a place; the word has their signs, without those that are free
pub data Run (steps : List Step) : ℕ → ℕ → List Sign → Type 0 where
  stop : {a : ℕ} → Run steps a a []
  free : {b : ℕ} {word : List Sign} (s : Step) → Contains steps s → s.sign ≡ Free →
      Run steps s.to b word → Run steps s.from b word
  along : {b : ℕ} {word : List Sign} (s : Step) → Contains steps s → s.sign ≢ Free →
      Run steps s.to b word → Run steps s.from b (s.sign ∷ word)

-- the word of a pair: a left and a right word between three marks
abbrev pub pair_word : (mark : Sign) → (left right : List Test) → List Sign
pair_word mark left right = (mark ∷ map Read left) ++ (mark ∷ (map Read right ++ mark ∷ []))

-- the steps have the pair of words under the mark: they spell it from the start to the end
abbrev pub IsPair : List Step → (mark : Sign) → (left right : List Test) → Type 0
IsPair steps mark left right = Run steps 0 1 (pair_word mark left right)

-- each reading passes its test
abbrev pub Matches : List Test → List Reading → Type 0
Matches [] [] = Unit {0}
Matches (test ∷ tests) (reading ∷ readings) = Passes test reading × Matches tests readings
Matches tests readings = ⊥

-- a pair is found at a split point: its left word matches the readings that end there, and its
-- right word those that begin there
pub record IsFound (Pair : List Test → List Test → Type 0) (before after : List Reading) :
    Type 0 where
  pub left : List Test
  pub right : List Test
  pub pair : Pair left right
  pub head : List Reading
  pub here : List Reading
  pub ends_here : before ≡ head ++ here
  pub matches_left : Matches left here
  pub there : List Reading
  pub tail : List Reading
  pub begins_here : after ≡ there ++ tail
  pub matches_right : Matches right there

-- at each split point at which some if-pair is found, some then-pair is found
abbrev pub Satisfies : (IfPair ThenPair : List Test → List Test → Type 0) → List Reading → Type 0
Satisfies IfPair ThenPair readings = (before after : List Reading) → readings ≡ before ++ after →
    IsFound IfPair before after → IsFound ThenPair before after
