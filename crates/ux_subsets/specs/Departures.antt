-- The links in order, those that leave a state together.
use Rattle.std.specs.Prelude.{◌≡◌, ◌≢◌, ℕ, ◌+◌, ◌-◌, ◌<◌, ◌≤◌, ◌↔◌, List, take, drop, get_or, length, Contains}
use Rattle.ux_subsets.specs.declared.automaton.Link.{Link}
use Rattle.ux_subsets.specs.declared.departures.Step.{Step}
use Rattle.ux_subsets.specs.Paths.{link}

abbrev pub step_by : (reading to : ℕ) → Step
step_by r t = record { reading = r; to = t }

-- the link without the state that it leaves
abbrev pub step_of : Link → Step
step_of l = step_by l.reading l.to

-- the first isn't later: its reading isn't greater, nor, where that is the same, the state to which it leads
pub record IsBefore (a b : Step) : Type 0 where
  pub reading : a.reading ≤ b.reading
  pub to : a.reading ≡ b.reading → a.to ≤ b.to

abbrev pub AreInOrder : List Step → Type 0
AreInOrder steps = (i j : ℕ) (d : Step) → i ≤ j → j < length steps → IsBefore (get_or steps i d) (get_or steps j d)

-- the links before the place leave smaller states, the others don't
pub record IsStart (sorted : List Link) (state place : ℕ) : Type 0 where
  pub within : place ≤ length sorted
  pub before : (k : ℕ) (d : Link) → k < place → (get_or sorted k d).from < state
  pub after : (k : ℕ) (d : Link) → place ≤ k → k < length sorted → state ≤ (get_or sorted k d).from

-- the start of each state below the last
pub record AreStarts (sorted : List Link) (last : ℕ) (starts : List ℕ) : Type 0 where
  pub len : length starts ≡ last
  pub each : (s : ℕ) → s < last → IsStart sorted s (get_or starts s (length sorted))

-- where the steps of the state begin, at the end of all where there is no such state
abbrev pub start_at : List Step → List ℕ → ℕ → ℕ
start_at steps starts s = get_or starts s (length steps)

-- the steps between the state's start and the next one's
abbrev pub steps_from : List Step → List ℕ → ℕ → List Step
steps_from steps starts s = take (start_at steps starts (s + 1) - start_at steps starts s) (drop (start_at steps starts s) steps)

-- each state's steps are its links, in order
pub record AreByStart (links : List Link) (steps : List Step) (starts : List ℕ) : Type 0 where
  pub rises : (s : ℕ) → start_at steps starts s ≤ start_at steps starts (s + 1)
  pub within : (s : ℕ) → start_at steps starts s ≤ length steps
  pub exact : (s : ℕ) (e : Step) → Contains (steps_from steps starts s) e ↔ Contains links (link s e.to e.reading)
  pub ordered : (s : ℕ) → AreInOrder (steps_from steps starts s)

-- the step leaves one of the states
abbrev pub LeavesOne : List Link → List ℕ → Step → Type 0
LeavesOne links states e = (s : ℕ) × Contains states s × Contains links (link s e.to e.reading)

-- the steps that leave one of the states, in order
pub record AreSteps (links : List Link) (states : List ℕ) (steps : List Step) : Type 0 where
  pub exact : (e : Step) → Contains steps e ↔ LeavesOne links states e
  pub ordered : AreInOrder steps

-- a step leads to the state
abbrev pub LeadsTo : List Step → ℕ → Type 0
LeadsTo steps t = (e : Step) × Contains steps e × (e.to ≡ t)

-- no step leads beyond the state
abbrev pub AreUpTo : ℕ → List Step → Type 0
AreUpTo last steps = (t : ℕ) → LeadsTo steps t → t ≤ last

abbrev pub reading_at : List Step → ℕ → ℕ
reading_at steps k = (get_or steps k (step_by 0 0)).reading

-- the steps from one place to the other have the reading of the first, and the next has another
pub record IsRun (steps : List Step) (begin end : ℕ) : Type 0 where
  pub some : begin < end
  pub within : end ≤ length steps
  pub same : (k : ℕ) → begin ≤ k → k < end → reading_at steps k ≡ reading_at steps begin
  pub ends : end < length steps → reading_at steps end ≢ reading_at steps begin
