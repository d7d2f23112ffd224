-- A search that joins nodes to groups, and closes the last group when no edge of it is left.
-- Inner: the crate's own functions alone speak of it.
use Rattle.std.specs.Prelude.{◌≡◌, ◌≢◌, ℕ, ◌+◌, ◌*◌, ◌<◌, ◌≤◌, List, [], ◌∷◌, length, get_or, Contains, ◌⊎◌, sum_by}
use Rattle.ux_digraph.specs.Paths.{row_of, Reaches}
use Rattle.ux_digraph.specs.declared.grouping.Mark.{Mark}
use Rattle.ux_digraph.specs.declared.grouping.Mark.TheVariants.{New, Open, Done}
use Rattle.ux_digraph.specs.declared.grouping.Group.{Group}

-- the mark of the node
abbrev pub mark_at : List Mark → ℕ → Mark
mark_at marks u = get_or marks u New

-- the node has a number
abbrev pub IsDone : List Mark → ℕ → Type 0
IsDone marks u = (k : ℕ) × (mark_at marks u ≡ Done k)

-- the number that the mark gives
abbrev pub number_of : Mark → ℕ
number_of New = 0
number_of (Open i) = 0
number_of (Done k) = k

-- 1 where the node has no number yet
abbrev pub is_left : Mark → ℕ
is_left New = 1
is_left (Open i) = 1
is_left (Done k) = 0

-- 1 where the node wasn't met
abbrev pub is_new : Mark → ℕ
is_new New = 1
is_new (Open i) = 0
is_new (Done k) = 0

-- nodes that were met stay met
abbrev pub KeepsMet : List Mark → List Mark → Type 0
KeepsMet old new = (u : ℕ) → mark_at old u ≢ New → mark_at new u ≢ New

-- nodes with numbers lead to nodes whose numbers are no higher, and to all of their own number
pub record Settled (edges : List (List ℕ)) (marks : List Mark) (count : ℕ) : Type 0 where
  pub len : length marks ≡ length edges
  pub room : count + sum_by is_left marks ≤ length edges
  pub below : (u k : ℕ) → mark_at marks u ≡ Done k → k < count
  pub falls : (u k : ℕ) → mark_at marks u ≡ Done k → (v : ℕ) → Contains (row_of edges u) v →
      (j : ℕ) × (mark_at marks v ≡ Done j) × (j ≤ k)
  pub joined : (u v k : ℕ) → mark_at marks u ≡ Done k → mark_at marks v ≡ Done k →
      Reaches edges u v

-- an open node's mark is its place in the list of the open ones
pub record ArePlaced (marks : List Mark) (trail : List ℕ) : Type 0 where
  pub placed : (i : ℕ) → i < length trail → mark_at marks (get_or trail i 0) ≡ Open i
  pub listed : (u i : ℕ) → mark_at marks u ≡ Open i → (i < length trail) × (get_or trail i 0 ≡ u)

-- the second place stands in no group before that of the first
abbrev pub IsLevel : List Group → ℕ → ℕ → Type 0
IsLevel groups i j = (g : Group) → Contains groups g → g.first ≤ i → g.first ≤ j

-- the open node and the target ahead stand in one group
abbrev pub IsBeside : List Group → ℕ → ℕ → Type 0
IsBeside groups i t =
    (g : Group) → Contains groups g → (g.first ≤ i → g.ahead ≤ t) × (g.ahead ≤ t → g.first ≤ i)

-- the node is done, or open and in no group before
abbrev pub IsBehind : List Mark → List Group → ℕ → ℕ → Type 0
IsBehind marks groups i v =
    IsDone marks v ⊎ ((j : ℕ) × (mark_at marks v ≡ Open j) × IsLevel groups i j)

-- the node stands ahead of the group
abbrev pub IsAhead : List ℕ → List Group → ℕ → ℕ → Type 0
IsAhead ahead groups i v =
    (t : ℕ) × (t < length ahead) × (get_or ahead t 0 ≡ v) × IsBeside groups i t

-- each group begins after those before it
abbrev pub Rises : List Group → Type 0
Rises [] = Unit {0}
Rises (g ∷ gs) =
    ((h : Group) → Contains gs h → (g.first < h.first) × (g.ahead ≤ h.ahead)) × Rises gs

-- the groups cut both lists, each open node leads to those of its group and of later ones, and the
-- end of each of its edges is behind, ahead or missed
pub record Opened (edges : List (List ℕ)) (marks : List Mark) (trail ahead : List ℕ)
    (groups : List Group) (Missed : ℕ → Type 0) : Type 0 where
  pub places : ArePlaced marks trail
  pub leads : (i j : ℕ) → i < length trail → j < length trail → IsLevel groups i j →
      Reaches edges (get_or trail i 0) (get_or trail j 0)
  pub children : (i : ℕ) → i < length trail → (v : ℕ) →
      Contains (row_of edges (get_or trail i 0)) v →
      (IsBehind marks groups i v ⊎ IsAhead ahead groups i v) ⊎ Missed v
  pub source : (t : ℕ) → t < length ahead → (i : ℕ) × (i < length trail)
      × Contains (row_of edges (get_or trail i 0)) (get_or ahead t 0) × IsBeside groups i t
  pub rises : Rises groups
  pub bounded : (g : Group) → Contains groups g →
      (g.first < length trail) × (g.ahead ≤ length ahead)
  pub bottom : 0 < length trail → (g : Group) × Contains groups g × (g.first ≡ 0)

-- how far the search has come, between two steps
pub record Searching (edges : List (List ℕ)) (marks : List Mark) (trail ahead : List ℕ)
    (groups : List Group) (count : ℕ) : Type 0 where
  pub settled : Settled edges marks count
  pub opened : Opened edges marks trail ahead groups (λ v. ⊥)

-- between two visits no node is open
pub record Resting (edges : List (List ℕ)) (marks : List Mark) (count : ℕ) : Type 0 where
  pub settled : Settled edges marks count
  pub none : (u i : ℕ) → mark_at marks u ≢ Open i

-- the groups that begin after the place were joined to the last one that doesn't
pub record AreJoined (groups : List Group) (place : ℕ) (rest : List Group) : Type 0 where
  pub kept : (g : Group) → Contains rest g → Contains groups g
  pub left : (g : Group) → Contains groups g → g.first ≤ place → Contains rest g
  pub low : (g : Group) → Contains rest g → g.first ≤ place
  pub rises : Rises rest
  pub shorter : length rest ≤ length groups

-- the open nodes from the first place on, up to the second, got the number
pub record AreNumbered (marks : List Mark) (first last number : ℕ) (new : List Mark) : Type 0 where
  pub len : length new ≡ length marks
  pub fresh : (u : ℕ) → mark_at marks u ≡ New → mark_at new u ≡ New
  pub done : (u k : ℕ) → mark_at marks u ≡ Done k → mark_at new u ≡ Done k
  pub high : (u i : ℕ) → mark_at marks u ≡ Open i → first ≤ i → i < last →
      mark_at new u ≡ Done number
  pub before : (u i : ℕ) → mark_at marks u ≡ Open i → i < first → mark_at new u ≡ Open i
  pub after : (u i : ℕ) → mark_at marks u ≡ Open i → last ≤ i → mark_at new u ≡ Open i
  pub left : sum_by is_left new + last ≡ sum_by is_left marks + first
  pub unmet : sum_by is_new new ≡ sum_by is_new marks

-- what is left to do: nodes not met, targets ahead and groups
abbrev pub steps_left : List (List ℕ) → List Mark → List ℕ → List Group → ℕ
steps_left edges marks ahead groups =
    sum_by is_new marks * (sum_by (λ (row : List ℕ). length row) edges + 2)
    + (length ahead + length groups)
