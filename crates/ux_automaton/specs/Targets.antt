-- Where edges lead that take tokens. Inner: the crate's own functions alone speak of it.
use Rattle.std.specs.Prelude.{◌≡◌, ℕ, List, ◌∷◌, Contains, Some, slice_get}
use Rattle.ux_closure.specs.declared.stand.Stand.{Stand}
use Rattle.ux_closure.specs.Passing.{behind}
use Rattle.ux_masks.specs.declared.mask.Mask as masks
use Rattle.ux_net.specs.declared.label.Label.{Label}
use Rattle.ux_net.specs.declared.label.Label.TheVariants.{CaseFolded, CaseExact, Mask, Brace}
use Rattle.ux_net.specs.declared.net_graph.NetGraph.{NetGraph}
use Rattle.ux_net.specs.declared.state.Edge.{Edge}
use Rattle.ux_net.specs.declared.state.State.{State}
use Rattle.ux_net.specs.Nets.{states_of}
use Rattle.ux_walk.specs.declared.config.Frame.{Frame}
use Rattle.ux_walk.specs.Courses.{TakesPlainly}
use Rattle.ux_walk.specs.Leads.{LeadsTo, Stack}
use Rattle.ux_walk.specs.Settings.{Setting}
use Rattle.ux_automaton.specs.declared.target.Target.{Target}

-- the label takes the tokens from one position to another
abbrev pub Takes : Setting → Label → ℕ → ℕ → Type 0
Takes setting label p k =
    TakesPlainly setting.alphabet setting.tokens setting.tables label p k

-- an edge of the frame's state
abbrev pub IsEdgeOf : List NetGraph → Frame → Edge → Type 0
IsEdgeOf net f edge = (state : State) × (slice_get (states_of net f.graph) f.state ≡ Some state)
    × Contains state.edges edge

-- the stack behind an edge of one of these stacks that takes the tokens from p to k
abbrev pub IsOver : Setting → (IsThere : Stack → Type 0) → (p k : ℕ) → Stack → Type 0
IsOver setting IsThere p k stack = (f : Frame) × (fs : Stack) × IsThere (f ∷ fs)
    × (edge : Edge) × IsEdgeOf setting.net f edge × Takes setting edge.label p k
    × (stack ≡ behind f edge ∷ fs)

-- from a stack behind such an edge a walk leads to the end
abbrev pub GoesOver : Setting → (IsThere : Stack → Type 0) → (p end : ℕ) → Type 0
GoesOver setting IsThere p end = (k : ℕ) × (stack : Stack) × IsOver setting IsThere p k stack
    × LeadsTo setting stack k end

-- no edge of these stacks has a mask
abbrev pub HaveNoMask : List NetGraph → (IsThere : Stack → Type 0) → Type 0
HaveNoMask net IsThere = (f : Frame) (fs : Stack) (edge : Edge) (mask : masks.Mask) →
    IsThere (f ∷ fs) → IsEdgeOf net f edge → edge.label ≡ Mask mask → ⊥

-- a label that may take a token, and not a space alone
abbrev pub MayTakeToken : Label → Type 0
MayTakeToken (CaseFolded text) = Unit {0}
MayTakeToken (CaseExact text) = Unit {0}
MayTakeToken (Mask mask) = Unit {0}
MayTakeToken (Brace text) = Unit {0}
MayTakeToken other = ⊥

-- no edge of these stacks has such a label
abbrev pub TakeNoToken : List NetGraph → (IsThere : Stack → Type 0) → Type 0
TakeNoToken net IsThere = (f : Frame) (fs : Stack) (edge : Edge) → IsThere (f ∷ fs) →
    IsEdgeOf net f edge → MayTakeToken edge.label → ⊥

-- the target of an edge: where it leads in place of the stand's first frame, and the position
abbrev pub IsTargetOver : Setting → (p : ℕ) → Stand → Edge → Target → Type 0
IsTargetOver setting p stand edge target = Takes setting edge.label p target.at
    × (target.stand ≡ record { here = behind stand.here edge; back = stand.back })

-- a target of one of the edges
abbrev pub IsTargetOverSome : Setting → (p : ℕ) → Stand → List Edge → Target → Type 0
IsTargetOverSome setting p stand edges target =
    (edge : Edge) × Contains edges edge × IsTargetOver setting p stand edge target

-- a target of the edge at a place, if one stands there
abbrev pub IsTargetAt : Setting → (p : ℕ) → Stand → List Edge → (place : ℕ) → Target → Type 0
IsTargetAt setting p stand edges place target = (edge : Edge)
    × (slice_get edges place ≡ Some edge) × IsTargetOver setting p stand edge target

-- a target of the edge at one of the places
abbrev pub IsTargetAtSome : Setting → (p : ℕ) → Stand → List Edge → (places : List ℕ) → Target →
    Type 0
IsTargetAtSome setting p stand edges places target =
    (place : ℕ) × Contains places place × IsTargetAt setting p stand edges place target

-- a target of one of the stands
abbrev pub IsTarget : Setting → (p : ℕ) → (IsThere : Stand → Type 0) → Target → Type 0
IsTarget setting p IsThere target = (stand : Stand) × IsThere stand
    × (edge : Edge) × IsEdgeOf setting.net stand.here edge × IsTargetOver setting p stand edge target
