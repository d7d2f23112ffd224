-- What is seen of a rule while a list is read.
use Rattle.std.specs.Prelude.{◌≡◌, ℕ, ◌⊎◌, List, [], ◌∷◌, ◌++◌, map, Contains}
use Rattle.ux_monitor.specs.declared.rule.Sign.{Sign}
use Rattle.ux_monitor.specs.declared.rule.Sign.TheVariants.{If, Then, Read}
use Rattle.ux_monitor.specs.declared.rule.Step.{Step}
use Rattle.ux_monitor.specs.Rules.{Run, Matches, IsFound}

module _ (steps : List Step) (ends : List ℕ) (Passes : ℕ → ℕ → Type 0) where
  -- a reading leads from a place to a place
  abbrev pub Moves : (from reading to : ℕ) → Type 0
  Moves p r k = (test : ℕ) × Passes test r × Run steps p k (Read test ∷ [])

  -- the last mark leads from the place to an end
  abbrev pub Closes : Sign → ℕ → Type 0
  Closes mark p = (end : ℕ) × Contains ends end × Run steps p end (mark ∷ [])

  -- a left word that matches what ends the list leads to the place
  pub record Left (mark : Sign) (before : List ℕ) (place : ℕ) : Type 0 where
    pub tests : List ℕ
    pub run : Run steps 0 place (mark ∷ map Read tests)
    pub head : List ℕ
    pub here : List ℕ
    pub ends_here : before ≡ head ++ here
    pub matches : Matches steps ends Passes tests here

  -- from the place a right word that matches what begins the list leads to an end
  abbrev pub Right : Sign → ℕ → (after : List ℕ) → Type 0
  Right mark p [] = Closes mark p
  Right mark p (r ∷ after) = Closes mark p ⊎ ((k : ℕ) × Moves p r k × Right mark k after)

  -- what is owed since a split point: if an if-pair was found or will be, then a then-pair
  abbrev pub Owes : (found : Type 0) → (ifs thens : ℕ → Type 0) → (after : List ℕ) → Type 0
  Owes found ifs thens after = (found ⊎ ((p : ℕ) × ifs p × Right If p after)) → (p : ℕ) × thens p × Right Then p after

  -- all split points within the list that was read are well, if the rest follows
  abbrev pub Passed : (before after : List ℕ) → Type 0
  Passed before after = (u v : List ℕ) → before ≡ u ++ v → IsFound steps ends Passes If u (v ++ after) → IsFound steps ends Passes Then u (v ++ after)
