-- What a watch is over, told by its numbers. A pass over an automaton tells only what the numbers
-- of a machine stand for. So the numbers past those of all states stand for the list that names the
-- rule and its kinds: the pass gives back a watch over the same ones.
use Rattle.std.specs.Prelude.{◌≡◌, ℕ, ◌+◌, ◌^◌, ◌<◌, ◌≤◌, List, [], ◌∷◌, ◌++◌, length, map}
use Rattle.ux_subsets.specs.Machines.{StandsFor}
use Rattle.ux_monitor.specs.declared.rule.Sign.{Sign}
use Rattle.ux_monitor.specs.declared.rule.Sign.TheVariants.{Free, If, Then, Read}
use Rattle.ux_monitor.specs.declared.rule.Step.{Step}
use Rattle.ux_monitor.specs.declared.watching.Seen.{Seen}
use Rattle.ux_monitor.specs.Monitors.{Monitored, WatchesBy}

-- a number for each sign
abbrev pub sign_number : Sign → ℕ
sign_number Free = 0
sign_number If = 1
sign_number Then = 2
sign_number (Read test) = test + 3

-- the lists one after the other, each behind its length
abbrev pub joined : List (List ℕ) → List ℕ
joined [] = []
joined (part ∷ parts) = length part ∷ (part ++ joined parts)

-- a rule and its kinds as lists of numbers
abbrev pub parts_of : Monitored → List (List ℕ)
parts_of over =
    map (λ (s : Step). s.from) over.rule.steps
    ∷ (map (λ (s : Step). s.to) over.rule.steps
    ∷ (map (λ (s : Step). sign_number s.sign) over.rule.steps
    ∷ (over.rule.ends ∷ over.kinds)))

-- the list that names a rule and its kinds
abbrev pub name_of : Monitored → List ℕ
name_of over = joined (parts_of over)

-- a watch: what it is over, the tests of each reading, and what has the numbers
pub record Watching : Type 0 where
  pub over : Monitored
  pub table : List (List ℕ)
  pub states : List Seen

-- a state's number stands for what has it, and each number past all states for the name
pub record StandsBeside (watch : Watching) (number : ℕ) (list : List ℕ) : Type 0 where
  pub state : number < 2 ^ 64 →
      StandsFor (WatchesBy watch.over.rule watch.table) watch.states number list
  pub name : 2 ^ 64 ≤ number → list ≡ name_of watch.over
