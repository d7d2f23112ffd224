-- The form that is a text, by its letters.
use Rattle.std.proofs.Common.{◌≡◌, ◌↔◌, ℕ, ◌<◌, ◌-◌, List, [], ◌∷◌, ◌++◌, length, map, get_or, refl, sym, subst, inl, inr, arith}
use Rattle.std.specs.Prelude.{IfSome, Contains, Option, None, Some}
use Rattle.std.proofs.lemmas.List.Elements.{All-contains, Contains-append_left, Contains-append_right}
use Rattle.std.proofs.lemmas.Option.{get_or_from_slice_get, slice_get_within}
use Rattle.ux_dawg.specs.Building.{bare}
use Rattle.ux_dawg.specs.Forms.{form_of}
use Rattle.ux_dawg.specs.Listed.{behind, ending}
use Rattle.ux_dawg.specs.Paths.{edge, Accepts, AreStates, IsStep, MakeAutomaton, Right}
use Rattle.ux_dawg.specs.declared.state.Edge.{Edge}
use Rattle.ux_dawg.specs.declared.state.Form.{Form}
use Rattle.ux_dawg.specs.declared.state.State.{State}
use Rattle.ux_base.proofs.OrderedLists.{Contains-cons_cases, Contains-nil}
use Rattle.ux_image.proofs.RenumberLemmas.{Contains-map}
use Rattle.ux_image_content.proofs.PathLemmas.{forms_accepted}
use Rattle.ux_image_lists.specs.Sizes.{forms_of}
use Rattle.ux_image_look_ups.specs.Ways.{branches, forms_at}
use Rattle.ux_image_look_ups.proofs.WayLemmas.{from_here}

-- a step leads to a state
pub step_within : (states : List State) → AreStates states → (i a : ℕ) → i < length states →
    (o : Option ℕ) → ((t : ℕ) → (o ≡ Some t) ↔ IsStep states i a t) →
    IfSome o (λ t. t < length states)
step_within states fit i a less None tells = tt
step_within states fit i a less (Some t) tells =
    let (s, at, has) = (tells t).0 refl in
    let low = (fit i s at).within (edge a t) has in
    omega (arith, low, less)

module _ (states : List State) (automaton : MakeAutomaton states) where
  abbrev at : ℕ → State
  at t = get_or states t bare

  in_branches : (edges : List Edge) (e : Edge) (f : Form) → Contains edges e →
      Contains (forms_at states e.target) f → Contains (branches states edges) (behind e.letter f)
  in_branches [] e f has there = absurd (Contains-nil e has)
  in_branches (d ∷ edges) e f has there = elim (Contains-cons_cases d e edges has) [
    | inl same ↦
        subst (λ (x : Edge). Contains (map (behind d.letter) (forms_at states d.target)
        ++ branches states edges) (behind x.letter f)) same
        (Contains-append_left (map (behind d.letter) (forms_at states d.target))
        (branches states edges) (behind d.letter f)
        (Contains-map (behind d.letter) (forms_at states d.target) f
        (subst (λ (x : Edge). Contains (forms_at states x.target) f) (sym same) there)))
    | inr later ↦
        Contains-append_right (map (behind d.letter) (forms_at states d.target))
        (branches states edges) (behind e.letter f) (in_branches edges e f later there)
  ]

  -- what leads to an end is listed
  listed : (w : List ℕ) (c i : ℕ) → i < length states → Right states (at i) w c →
      Contains (forms_at states i) (form_of w c)
  listed [] c i less is =
      subst (λ (l : List Form). Contains l (form_of [] c))
      (sym (from_here states automaton.fit i less))
      (Contains-append_left (ending (at i).code) (branches states (at i).edges) (form_of [] c)
      (subst (λ (o : Option ℕ). Contains (ending o) (form_of [] c)) (sym is)
      (0, omega arith, refl)))
  listed (a ∷ w) c i less (t, next, has, stands, more) =
      let inside = slice_get_within states t next stands in
      let there = listed w c t inside (subst (λ (s : State). Right states s w c)
      (sym (get_or_from_slice_get states t next bare stands)) more) in
      subst (λ (l : List Form). Contains l (form_of (a ∷ w) c))
      (sym (from_here states automaton.fit i less))
      (Contains-append_right (ending (at i).code) (branches states (at i).edges)
      (form_of (a ∷ w) c) (in_branches (at i).edges (edge a t) (form_of w c) has there))

  -- the words that the automaton accepts are its forms
  pub accepts_is : (w : List ℕ) (c : ℕ) →
      Accepts states w c ↔ Contains (forms_of states) (form_of w c)
  accepts_is w c =
      let some = automaton.some in (
        λ (root, last, (s, stands, right)).
            let same : root ≡ length states - 1 = omega (arith, last) in
            subst (λ r. Contains (forms_at states r) (form_of w c)) same
            (listed w c root (omega (arith, last))
            (subst (λ (x : State). Right states x w c)
            (sym (get_or_from_slice_get states root s bare stands)) right)),
        λ has. All-contains (λ (f : Form). Accepts states f.letters f.code) (forms_of states)
            (form_of w c) (forms_accepted states automaton.fit some) has,
      )
