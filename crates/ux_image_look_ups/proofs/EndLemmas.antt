-- From which states there is a form.
use Rattle.std.proofs.Common.{◌≡◌, ◌↔◌, ℕ, zero, suc, ◌+◌, ◌<◌, List, [], ◌∷◌, length, map, get_or, refl, sym, ◌∙◌, ap, inl, inr, arith, length-append}
use Rattle.std.specs.Prelude.{Bool, Contains, IsTrue, Option, None}
use Rattle.std.proofs.lemmas.List.{length-map}
use Rattle.std.proofs.lemmas.Option.{slice_get-get_or, none-some}
use Rattle.ux_dawg.specs.Building.{bare}
use Rattle.ux_dawg.specs.Listed.{behind, ending}
use Rattle.ux_dawg.specs.Paths.{AreStates, IsAlive}
use Rattle.ux_dawg.specs.declared.state.Edge.{Edge}
use Rattle.ux_dawg.specs.declared.state.Form.{Form}
use Rattle.ux_dawg.specs.declared.state.State.{State}
use Rattle.ux_base.proofs.OrderedLists.{Contains-cons_cases, Contains-nil}
use Rattle.ux_image_look_ups.specs.Ways.{branches, forms_at, HaveForms}
use Rattle.ux_image_look_ups.proofs.WayLemmas.{from_here}

-- a state is alive where it has edges
edges_alive : (edges : List Edge) → 0 < length edges → (e : Edge) × Contains edges e
edges_alive [] some = absurd (omega (arith, some))
edges_alive (e ∷ edges) some = (e, (0, omega arith, refl))

alive_edges : (s : State) → 0 < length s.edges → IsAlive s
alive_edges s some = inr (edges_alive s.edges some)

-- so it is where edges are some
pub alive_none : (s : State) (edges : List Edge) (t : Bool) → s.code ≡ None → edges ≡ s.edges →
    IsTrue t ↔ (0 < length edges) → IsTrue t ↔ IsAlive s
alive_none s edges t bare_code same some =
    let long = ap (length {A = Edge}) same in (
      λ is. let more = some.0 is in alive_edges s (omega (arith, more, long)),
      λ alive. elim alive [
        | inl (code, is) ↦ absurd (none-some code (sym bare_code ∙ is))
        | inr (e, (k, less, is)) ↦ some.1 (omega (arith, less, long))
      ],
    )

module _ (states : List State) (fit : AreStates states) where
  abbrev at : ℕ → State
  at t = get_or states t bare

  -- forms by one of the edges are forms
  pub some_branch : (edges : List Edge) (e : Edge) → Contains edges e →
      0 < length (forms_at states e.target) → 0 < length (branches states edges)
  some_branch [] e has some = absurd (Contains-nil e has)
  some_branch (d ∷ edges) e has some =
      let parts = length-append (map (behind d.letter) (forms_at states d.target))
      (branches states edges) in
      elim (Contains-cons_cases d e edges has) [
        | inl same ↦
            let long = length-map (forms_at states d.target) (behind d.letter) in
            let here = ap (λ (x : Edge). length (forms_at states x.target)) same in
            omega (arith, parts, long, here, some)
        | inr later ↦
            let more = some_branch edges e later some in
            omega (arith, parts, more)
      ]

  -- from a state that is alive there is a form
  alive_some : (number : ℕ) → number < length states → IsAlive (at number) →
      ((t : ℕ) → t < number → 0 < length (forms_at states t)) → 0 < length (forms_at states number)
  alive_some number inside alive below =
      let parts = ap (length {A = Form}) (from_here states fit number inside)
      ∙ length-append (ending (at number).code) (branches states (at number).edges) in
      elim alive [
        | inl (code, is) ↦
            let one = ap (λ (o : Option ℕ). length (ending o)) is in
            omega (arith, parts, one)
        | inr (e, has) ↦
            let low = (fit number (at number) (slice_get-get_or states number bare inside)).within e
            has in
            let some = some_branch (at number).edges e has (below e.target low) in
            omega (arith, parts, some)
      ]

  alive_below : ((i : ℕ) → i + 1 < length states → IsAlive (at i)) → (n i : ℕ) → i < n →
      i + 1 < length states → 0 < length (forms_at states i)
  alive_below alive zero i less inside = absurd (omega (arith, less))
  alive_below alive (suc n) i less inside =
      alive_some i (omega (arith, inside)) (alive i inside)
      (λ t low. alive_below alive n t (omega (arith, less, low)) (omega (arith, low, inside)))

  -- where each state but the root is alive there are forms from each
  pub forms_alive : ((i : ℕ) → i + 1 < length states → IsAlive (at i)) → HaveForms states
  forms_alive alive i inside = alive_below alive (suc i) i (omega arith) inside

  -- from a root that is alive there is a form
  pub root_some : HaveForms states → (root : ℕ) → length states ≡ root + 1 → IsAlive (at root) →
      0 < length (forms_at states root)
  root_some have root last alive =
      alive_some root (omega (arith, last)) alive (λ t low. have t (omega (arith, low, last)))
