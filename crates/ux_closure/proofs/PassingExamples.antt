-- Steps that take no token, through three nets that are written out: a chain of `<E>`, `#`, and a
-- call of a graph that takes nothing.
use Rattle.std.proofs.Common.{◌≡◌, ℕ, List, [], ◌∷◌, inl, inr, refl, sym, ◌∙◌, ap, subst, Bool, true, false}
use Rattle.std.specs.Prelude.{Contains}
use Rattle.std.proofs.lemmas.Option.{same_Some}
use Rattle.std.proofs.lemmas.List.Elements.{Contains-push, Contains-push_cases}
use Rattle.ux_net.specs.declared.label.Label.{Label}
use Rattle.ux_net.specs.declared.label.Label.TheVariants.{Empty, NoSpace, Call}
use Rattle.ux_net.specs.declared.state.Edge.{Edge}
use Rattle.ux_net.specs.declared.state.State.{State}
use Rattle.ux_net.specs.declared.net_graph.NetGraph.{NetGraph}
use Rattle.ux_walk.specs.declared.config.Frame.{Frame}
use Rattle.ux_walk.specs.Leads.{Stack, main_stack}
use Rattle.ux_closure.specs.Passing.{LetsPass, PassesOn, Reaches, stays, passes}
use Rattle.ux_closure.proofs.Adding.{nothing_in}

abbrev at : (graph state : ℕ) → Frame
at graph state = record { graph = graph; state = state }

abbrev to : Label → ℕ → Edge
to label target = record { label = label; output = []; target = target }

-- a state with one edge, and one where words end
abbrev before : Edge → State
before edge = record { is_final = false; edges = edge ∷ [] }

abbrev last : State
last = record { is_final = true; edges = [] }

abbrev drawn : List State → NetGraph
drawn states =
    record { name = []; states = states; ranks = []; free = []; closings = []; unmet = [] }

only : (edge : Edge) → Contains (edge ∷ []) edge
only edge = Contains-push [] edge

-- a chain of two boxes `<E>` is gone through
abbrev chain : List NetGraph
chain = drawn (before (to Empty 1) ∷ before (to Empty 2) ∷ last ∷ []) ∷ []

through_chain : (is_spaced : Bool) → Reaches chain is_spaced main_stack []
through_chain is_spaced =
    passes (at 1 1 ∷ []) (before (to Empty 1), refl, inl (to Empty 1, only _, inl (tt, refl)))
    (passes (at 1 2 ∷ []) (before (to Empty 2), refl, inl (to Empty 2, only _, inl (tt, refl)))
    (passes [] (last, refl, inr (refl, refl)) stays))

-- a graph that takes nothing is called, and left, and what is behind the call is reached
abbrev calling : List NetGraph
calling = drawn (before (to (Call 2) 1) ∷ last ∷ []) ∷ drawn (last ∷ []) ∷ []

through_call : (is_spaced : Bool) → Reaches calling is_spaced main_stack (at 1 1 ∷ [])
through_call is_spaced =
    passes (at 2 0 ∷ at 1 1 ∷ [])
    (before (to (Call 2) 1), refl, inl (to (Call 2) 1, only _, inr (2, refl, refl)))
    (passes (at 1 1 ∷ []) (last, refl, inr (refl, refl)) stays)

-- `#` is passed where no space stands
abbrev glued : List NetGraph
glued = drawn (before (to NoSpace 1) ∷ last ∷ []) ∷ []

past_glue : Reaches glued false main_stack (at 1 1 ∷ [])
past_glue = passes (at 1 1 ∷ [])
    (before (to NoSpace 1), refl, inl (to NoSpace 1, only _, inl (refl, refl))) stays

-- and not where one stands
stopped_by_space : (next : Stack) → PassesOn glued true main_stack next → ⊥
stopped_by_space next (state, found, inr (final, is)) =
    let same : before (to NoSpace 1) ≡ state = same_Some (before (to NoSpace 1)) state found in
    let no : false ≡ true = ap (λ (s : State). s.is_final) same ∙ final in
    cc
stopped_by_space next (state, found, inl (edge, inside, past)) =
    let same : before (to NoSpace 1) ≡ state = same_Some (before (to NoSpace 1)) state found in
    let among : Contains (to NoSpace 1 ∷ []) edge =
    subst (λ (s : State). Contains s.edges edge) (sym same) inside in
    elim (Contains-push_cases [] (to NoSpace 1) edge among) [
      | inl none ↦ nothing_in edge none
      | inr is ↦ elim past [
        | inl p ↦
            let no : true ≡ false =
            subst (λ (e : Edge). LetsPass true e.label) (sym is) p.0 in
            cc
        | inr c ↦ let no : NoSpace ≡ Call c.0 = ap (λ (e : Edge). e.label) is ∙ c.1 in cc
      ]
    ]
