-- Marking the places that follow, from a list of places to look at. Inner: the crate's own
-- functions alone speak of it.
use Rattle.std.specs.Prelude.{◌≡◌, ℕ, ◌+◌, ◌*◌, List, [], length, Contains, ◌⊎◌, Bool, true, false, sum_by, get_or}
use Rattle.ux_digraph.specs.declared.closing.Rule.{Rule}
use Rattle.ux_digraph.specs.Rules.{Derived, is_marked_at}

-- the rules that each place is a premise of
pub record HaveUses (rules : List Rule) (uses : List (List Rule)) : Type 0 where
  pub only : (x : ℕ) (r : Rule) → Contains (get_or uses x []) r → Contains rules r
  pub first : (r : Rule) → Contains rules r → Contains (get_or uses r.first []) r
  pub second : (r : Rule) → Contains rules r → Contains (get_or uses r.second []) r

-- each place that is marked follows, and each rule is applied but for those that wait
pub record Marking (rules : List Rule) (facts : List ℕ) (marks : List Bool)
    (Waits : Rule → Type 0) : Type 0 where
  pub sound : (x : ℕ) → is_marked_at marks x ≡ true → Derived rules facts x
  pub whole : (x : ℕ) → Contains facts x → is_marked_at marks x ≡ true
  pub closed : (r : Rule) → Contains rules r → is_marked_at marks r.first ≡ true →
      is_marked_at marks r.second ≡ true → (is_marked_at marks r.place ≡ true) ⊎ Waits r

-- a place was marked, and is noted if it was not
pub record Added (marks : List Bool) (work : List ℕ) (place : ℕ) (more : List Bool)
    (later : List ℕ) : Type 0 where
  pub here : is_marked_at more place ≡ true
  pub kept : (x : ℕ) → is_marked_at marks x ≡ true → is_marked_at more x ≡ true
  pub only : (x : ℕ) → is_marked_at more x ≡ true →
      (is_marked_at marks x ≡ true) ⊎ ((x ≡ place) × Contains later x)
  pub noted : (x : ℕ) → Contains work x → Contains later x

-- the place of a rule was marked, if both premises are
abbrev pub Applied : List Bool → List ℕ → Rule → List Bool → List ℕ → Type 0
Applied marks work r more later =
    ((is_marked_at marks r.first ≡ true) × (is_marked_at marks r.second ≡ true)
    × Added marks work r.place more later)
    ⊎ (((is_marked_at marks r.first ≡ true) × (is_marked_at marks r.second ≡ true) → ⊥)
    × (more ≡ marks) × (later ≡ work))

-- a rule waits at a premise that is noted, or among those that are still to be looked at
abbrev pub Waiting : List ℕ → List Rule → Rule → Type 0
Waiting work rest r = (Contains work r.first ⊎ Contains work r.second) ⊎ Contains rest r

-- whatever the rules and facts are, those of the row wait no longer
abbrev pub IsRowDone : List Rule → List Bool → List ℕ → List Bool → List ℕ → Type 0
IsRowDone row marks work more later =
    (rules : List Rule) (facts : List ℕ) → ((r : Rule) → Contains row r → Contains rules r) →
    Marking rules facts marks (Waiting work row) → Marking rules facts more (Waiting later [])

-- 1 where there is no mark
abbrev pub unmarked : Bool → ℕ
unmarked true = 0
unmarked false = 1

-- what is left to do: places not marked, and places to look at
abbrev pub work_left : List Bool → List ℕ → ℕ
work_left marks work = 2 * sum_by unmarked marks + length work
