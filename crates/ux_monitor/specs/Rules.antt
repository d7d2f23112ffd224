-- Which reading lists satisfy a rule.
use Rattle.std.specs.Prelude.{◌≡◌, ◌≢◌, ℕ, List, [], ◌∷◌, ◌++◌, map, Contains, get_or}
use Rattle.ux_monitor.specs.declared.rule.Sign.{Sign}
use Rattle.ux_monitor.specs.declared.rule.Sign.TheVariants.{Free, If, Then, Read}
use Rattle.ux_monitor.specs.declared.rule.Step.{Step}

-- the steps lead from a to b; the word has their signs, without those that are free
pub data Run (steps : List Step) : ℕ → ℕ → List Sign → Type 0 where
  stop : {a : ℕ} → Run steps a a []
  free : {b : ℕ} {word : List Sign} (s : Step) → Contains steps s → s.sign ≡ Free → Run steps s.to b word → Run steps s.from b word
  along : {b : ℕ} {word : List Sign} (s : Step) → Contains steps s → s.sign ≢ Free → Run steps s.to b word → Run steps s.from b (s.sign ∷ word)

module _ (steps : List Step) (ends : List ℕ) (Passes : ℕ → ℕ → Type 0) where
  -- the rule has the pair of words (left, right) under the mark
  abbrev pub IsPair : (mark : Sign) → (left right : List ℕ) → Type 0
  IsPair mark left right =
      (end : ℕ) × Contains ends end × Run steps 0 end ((mark ∷ map Read left) ++ (mark ∷ (map Read right ++ mark ∷ [])))

  -- each reading passes its test
  abbrev pub Matches : (tests readings : List ℕ) → Type 0
  Matches [] [] = Unit {0}
  Matches (t ∷ tests) (r ∷ readings) = Passes t r × Matches tests readings
  Matches tests readings = ⊥

  -- a pair is found: its left word matches what ends here, its right word what begins here
  pub record IsFound (mark : Sign) (before after : List ℕ) : Type 0 where
    pub left : List ℕ
    pub right : List ℕ
    pub pair : IsPair mark left right
    pub head : List ℕ
    pub here : List ℕ
    pub ends_here : before ≡ head ++ here
    pub matches_left : Matches left here
    pub there : List ℕ
    pub tail : List ℕ
    pub begins_here : after ≡ there ++ tail
    pub matches_right : Matches right there

  -- at each split point at which some if-pair is found, some then-pair is found
  abbrev pub Satisfies : (path : List ℕ) → Type 0
  Satisfies path = (before after : List ℕ) → path ≡ before ++ after → IsFound If before after → IsFound Then before after

-- the reading with this number passes the test: the table has for each reading its tests
abbrev pub PassesAt : (table : List (List ℕ)) → (test reading : ℕ) → Type 0
PassesAt table test reading = Contains (get_or table reading []) test

-- a rule: its steps, of which each run from place 0 to an end is an item of the rule
pub record Rule : Type 0 where
  pub steps : List Step
  pub ends : List ℕ

-- the readings with these numbers, as the table tells them, satisfy the rule
abbrev pub SatisfiesBy : Rule → (table : List (List ℕ)) → (readings : List ℕ) → Type 0
SatisfiesBy rule table readings = Satisfies rule.steps rule.ends (PassesAt table) readings
