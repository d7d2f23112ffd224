-- Stands name stacks, and a closure the stacks that are reached. Public: the contracts of the
-- automaton speak of it.
use Rattle.std.specs.Prelude.{◌≡◌, ◌↔◌, List, [], ◌∷◌, Bool, Contains, IsTrue}
use Rattle.ux_net.specs.declared.net_graph.NetGraph.{NetGraph}
use Rattle.ux_walk.specs.declared.lists.Link.{Link}
use Rattle.ux_walk.specs.declared.config.Frame.{Frame}
use Rattle.ux_walk.specs.Leads.{Stack}
use Rattle.ux_walk.specs.Links.{Names, AreBelow, Extends, AreOnce}
use Rattle.ux_closure.specs.declared.stand.Stand.{Stand}
use Rattle.ux_closure.specs.declared.closing.Closure.{Closure}
use Rattle.ux_closure.specs.Passing.{ReachedFrom}

-- the stand names the stack, which isn't empty
abbrev pub IsStack : List (Link Frame) → Stand → Stack → Type 0
IsStack links stand [] = ⊥
IsStack links stand (f ∷ fs) = (stand.here ≡ f) × Names links stand.back fs

-- one of the stands names it
abbrev pub Holds : List (Link Frame) → List Stand → Stack → Type 0
Holds links stands stack = (stand : Stand) × Contains stands stand × IsStack links stand stack

-- the stand's number names a list
abbrev pub IsNamed : List (Link Frame) → Stand → Type 0
IsNamed links stand = (fs : Stack) × Names links stand.back fs

-- each stand names a stack
abbrev pub AreNamed : List (Link Frame) → List Stand → Type 0
AreNamed links stands = (stand : Stand) → Contains stands stand → IsNamed links stand

-- links were added, if any, and the tail of each is below it still
pub record Grows (old new : List (Link Frame)) : Type 0 where
  pub extends : Extends old new
  pub below : AreBelow new

-- one of the stands names the stack, or it is empty and said to be there
abbrev pub Has : List (Link Frame) → List Stand → (ends : Bool) → Stack → Type 0
Has links stands ends [] = IsTrue ends
Has links stands ends (f ∷ fs) = Holds links stands (f ∷ fs)

-- the closure has exactly the stacks that one of the given ones reaches, and each stand once
pub record IsClosure (net : List NetGraph) (is_spaced : Bool) (given : Stack → Type 0)
    (links : List (Link Frame)) (closure : Closure) : Type 0 where
  pub exactly : (stack : Stack) →
      Has links closure.stands.items closure.ends stack ↔ ReachedFrom net is_spaced given stack
  pub named : AreNamed links closure.stands.items
  pub once : AreOnce closure.stands.items
