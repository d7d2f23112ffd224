-- The order of the states' numbers, told by words. Public: the crate's public contracts speak of
-- it.
use Rattle.std.specs.Prelude.{◌≡◌, ℕ, ◌<◌, List, [], ◌∷◌, ◌⊎◌, Some, slice_get, length, Contains}
use Rattle.std.specs.Cmp.Lexicographic.{slice_cmp}
use Rattle.std.specs.Ordering.{nat_cmp}
use Rattle.std.specs.declared.cmp.Ordering.TheVariants.{Less}
use Rattle.ux_dawg.specs.declared.state.State.{State}
use Rattle.ux_dawg.specs.declared.state.Edge.{Edge}
use Rattle.ux_dawg.specs.declared.pending.Frame.{Frame}
use Rattle.ux_dawg.specs.Paths.{edge, Leads}

-- a word comes after its extensions, and else as its letters say
abbrev pub ComesBefore : List ℕ → List ℕ → Type 0
ComesBefore [] v = ⊥
ComesBefore (a ∷ u) [] = Unit {0}
ComesBefore (a ∷ u) (b ∷ v) = (a < b) ⊎ ((a ≡ b) × ComesBefore u v)

-- each state has a least word that leads to it, and the numbers follow these words
pub record IsNumbered (states : List State) (root : ℕ) : Type 0 where
  pub firsts : List (List ℕ)
  pub many : length firsts ≡ length states
  pub leads : (i : ℕ) (u : List ℕ) → slice_get firsts i ≡ Some u → Leads states root u i
  pub least : (i : ℕ) (u v : List ℕ) → slice_get firsts i ≡ Some u → Leads states root v i →
      (u ≡ v) ⊎ (slice_cmp nat_cmp u v ≡ Less)
  pub order : (i j : ℕ) (u v : List ℕ) → slice_get firsts i ≡ Some u → slice_get firsts j ≡ Some v →
      i < j → ComesBefore u v

-- while it is built: the word leads by these steps to state number i
abbrev pub LeadsFrom : List State → List Edge → List ℕ → ℕ → Type 0
LeadsFrom states es [] i = ⊥
LeadsFrom states es (a ∷ u) i = (t : ℕ) × Contains es (edge a t) × Leads states t u i

-- the word leads to state number i, where the deepest state has these steps
abbrev pub Way : List State → List Frame → List Edge → List ℕ → ℕ → Type 0
Way states [] es u i = LeadsFrom states es u i
Way states (f ∷ fs) es [] i = ⊥
Way states (f ∷ fs) es (a ∷ u) i =
    LeadsFrom states f.state.edges (a ∷ u) i ⊎ ((f.letter ≡ a) × Way states fs es u i)

pub record IsOrdered (states : List State) (above : List Frame) (es : List Edge) (here : List ℕ) :
    Type 0 where
  pub firsts : List (List ℕ)
  pub many : length firsts ≡ length states
  pub leads : (i : ℕ) (u : List ℕ) → slice_get firsts i ≡ Some u → Way states above es u i
  pub least : (i : ℕ) (u v : List ℕ) → slice_get firsts i ≡ Some u → Way states above es v i →
      (u ≡ v) ⊎ ComesBefore u v
  pub order : (i j : ℕ) (u v : List ℕ) → slice_get firsts i ≡ Some u → slice_get firsts j ≡ Some v →
      i < j → ComesBefore u v
  pub past : (i : ℕ) (u : List ℕ) → slice_get firsts i ≡ Some u → ComesBefore u here
