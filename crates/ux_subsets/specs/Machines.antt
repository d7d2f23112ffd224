-- States named by sets of states of a given automaton, and by what a machine has seen.
use Rattle.std.specs.Prelude.{◌≡◌, ◌≢◌, ℕ, ◌<◌, ◌≤◌, ◌↔◌, List, [], ◌∷◌, ◌++◌, Contains, Some, slice_get}
use Rattle.ux_subsets.specs.declared.automaton.Link.{Link}
use Rattle.ux_subsets.specs.Paths.{link, Spells}

-- a machine's state `Stands` for each reading list after which the machine can be in it
module _ {Q : Type 0} (Stands : Q → List ℕ → Type 0) (Satisfies : List ℕ → Type 0) (last : ℕ) (links : List Link) where
  -- a reading leads from a state of the set to the state
  abbrev pub Enters : (ℕ → Type 0) → (reading to : ℕ) → Type 0
  Enters At r t = (s : ℕ) × At s × Contains links (link s t r)

  -- each state n below the last is the set `At n`, with the machine in `seen n`
  pub record AreSubsets (At : ℕ → ℕ → Type 0) (seen : ℕ → Q) (last' : ℕ) (links' : List Link) : Type 0 where
    pub first : (s : ℕ) → At 0 s ↔ (s ≡ 0)
    pub fresh : Stands (seen 0) []
    pub from_inside : (l : Link) → Contains links' l → l.from < last'
    pub over : (n r : ℕ) → n < last' → (before : List ℕ) → Stands (seen n) before →
        Contains links' (link n last' r) ↔ (Enters (At n) r last × Satisfies (before ++ r ∷ []))
    pub goes : (n k r : ℕ) → k < last' → Contains links' (link n k r) →
        ((t : ℕ) → At k t ↔ ((t ≢ last) × Enters (At n) r t))
    pub sees : (n k r : ℕ) → k < last' → Contains links' (link n k r) → (before : List ℕ) → Stands (seen n) before → Stands (seen k) (before ++ r ∷ [])
    pub going : (n r t : ℕ) → n < last' → t ≢ last → Enters (At n) r t → (k : ℕ) × (k < last') × Contains links' (link n k r)
    pub once : (n k k' r : ℕ) → k < last' → k' < last' → Contains links' (link n k r) → Contains links' (link n k' r) → k ≡ k'
    pub inside : (n s : ℕ) → n < last' → At n s → s < last
    pub filled : (n : ℕ) → n < last' → (s : ℕ) × At n s
    pub reached : (n : ℕ) → n < last' → (readings : List ℕ) × Spells links' 0 n readings
    pub ascending : (l : Link) → Contains links' l → l.from < l.to
    pub within : (l : Link) → Contains links' l → l.to ≤ last'

-- what was told of a machine's states stays told: a number that stands after some list stands after no more lists later
pub record Grows (Stands Stands' : ℕ → List ℕ → Type 0) (Satisfies Satisfies' : List ℕ → Type 0) : Type 0 where
  pub kept : (q : ℕ) (w : List ℕ) → Stands q w → Stands' q w
  pub only : (q : ℕ) (u w : List ℕ) → Stands q u → Stands' q w → Stands q w
  pub meant : (w : List ℕ) → Satisfies w ↔ Satisfies' w

-- a number stands for the key at its place in the list
abbrev pub StandsFor : {K : Type 0} → (Means : K → List ℕ → Type 0) → (keys : List K) → ℕ → List ℕ → Type 0
StandsFor {K} Means keys q w = (k : K) × (slice_get keys q ≡ Some k) × Means k w
