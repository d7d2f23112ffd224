-- Walks that go on by taking a token, and how all walks from some stacks are parted into those that
-- end and those that do so. Public: the contracts of the automaton speak of it.
use Rattle.std.specs.Prelude.{◌≡◌, ◌↔◌, ◌⊎◌, ℕ, [], ◌∷◌, Bool, Some, slice_get, Contains, IsTrue}
use Rattle.ux_net.specs.declared.state.Edge.{Edge}
use Rattle.ux_net.specs.declared.state.State.{State}
use Rattle.ux_net.specs.Nets.{states_of}
use Rattle.ux_meaning.specs.Texts.{IsSpaceAt}
use Rattle.ux_walk.specs.Courses.{TakesPlainly}
use Rattle.ux_walk.specs.Leads.{Stack, LeadsTo, LeadsFrom}
use Rattle.ux_walk.specs.Settings.{Setting}
use Rattle.ux_closure.specs.Passing.{behind}

-- an edge of the stack's state takes tokens, and from behind it a walk leads to the end
abbrev pub TakesOn : Setting → Stack → (at end : ℕ) → Type 0
TakesOn setting [] at end = ⊥
TakesOn setting (f ∷ fs) at end =
    (state : State) × (slice_get (states_of setting.net f.graph) f.state ≡ Some state)
    × (edge : Edge) × Contains state.edges edge × (k : ℕ)
    × TakesPlainly setting.alphabet setting.tokens setting.tables edge.label at k
    × LeadsTo setting (behind f edge ∷ fs) k end

-- from one of these stacks it does
abbrev pub LeadsByTaking : Setting → (stacks : Stack → Type 0) → (at end : ℕ) → Type 0
LeadsByTaking setting stacks at end = (stack : Stack) × stacks stack × TakesOn setting stack at end

-- whether a space stands at the position
abbrev pub TellsSpace : Setting → (at : ℕ) → Bool → Type 0
TellsSpace setting at is_spaced = IsTrue is_spaced ↔ IsSpaceAt setting.tokens at

-- a walk from the given stacks ends at once, or goes on from the reached ones by taking a token
abbrev pub Parts : Setting → (given reached : Stack → Type 0) → (ends : Type 0) → (at : ℕ) → Type 0
Parts setting given reached ends at = (end : ℕ) →
    LeadsFrom setting given at end
    ↔ ((ends × (end ≡ at)) ⊎ LeadsByTaking setting reached at end)
