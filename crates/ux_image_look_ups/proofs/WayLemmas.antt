-- The forms of a way: those that end with it, and those that go on by an edge.
use Rattle.std.proofs.Common.{◌≡◌, ℕ, suc, ◌<◌, List, [], ◌∷◌, ◌++◌, length, map, get_or, sym, ◌∙◌, ap, subst, refl, arith}
use Rattle.std.specs.Prelude.{All, Contains, flat_map}
use Rattle.std.proofs.lemmas.List.{map-append}
use Rattle.std.proofs.lemmas.List.Elements.{All-head, All-tail}
use Rattle.std.proofs.lemmas.Option.{slice_get-get_or}
use Rattle.ux_dawg.specs.Building.{bare}
use Rattle.ux_dawg.specs.Listed.{behind, ending}
use Rattle.ux_dawg.specs.Paths.{AreStates, IsFit}
use Rattle.ux_dawg.specs.declared.state.Edge.{Edge}
use Rattle.ux_dawg.specs.declared.state.Form.{Form}
use Rattle.ux_dawg.specs.declared.state.State.{State}
use Rattle.ux_dict.specs.Forms.{IsChosen, none, kept}
use Rattle.ux_image_lists.proofs.SumLemmas.{from_depth}
use Rattle.ux_image_look_ups.specs.Ways.{behind_all, branches, forms_at, forms_by, HaveForms, Spelt}

-- all members are chosen where all have the property
pub chosen-full : {X : Type 0} (P : X → Type 0) (xs : List X) → All P xs → IsChosen P xs xs
chosen-full P [] all = none
chosen-full P (x ∷ xs) all = kept (All-head P x xs all) (chosen-full P xs (All-tail P x xs all))

-- no letters in front
pub behind_all-none : (forms : List Form) → map (behind_all []) forms ≡ forms
behind_all-none [] = refl
behind_all-none (f ∷ forms) = ap (λ (l : List Form). f ∷ l) (behind_all-none forms)

module _ (states : List State) where
  abbrev most : ℕ
  most = length states

  abbrev at : ℕ → State
  at t = get_or states t bare

  -- the form that ends where the way does, if there is one
  abbrev pub ended : Spelt → List Form
  ended way = map (behind_all way.letters) (ending (at way.state).code)

  -- the forms that go on by the edge
  abbrev pub branch : Spelt → Edge → List Form
  branch way edge =
      map (behind_all way.letters) (map (behind edge.letter) (forms_at states edge.target))

  -- those that end there, or go on by one of the edges
  abbrev pub passed : Spelt → List Edge → List Form
  passed way edges = ended way ++ flat_map (branch way) edges

  fit_at : AreStates states → (t : ℕ) → t < most → IsFit t (at t)
  fit_at fit t less = fit t (at t) (slice_get-get_or states t bare less)

  -- an edge leads to a state from which there is a form
  pub edge_leads : AreStates states → HaveForms states → (number : ℕ) → number < most →
      (edges : List Edge) → edges ≡ (at number).edges → (i : ℕ) (edge : Edge) → i < length edges →
      edge ≡ get_or edges i edge →
      (edge.target < most) × (0 < length (forms_at states edge.target))
  edge_leads fit have number inside edges are i edge less is =
      let has = subst (λ (l : List Edge). Contains l edge) are (i, less, sym is) in
      let low = (fit_at fit number inside).within edge has in
      (omega (arith, low, inside), have edge.target (omega (arith, low, inside)))

  -- the forms from a state: its own, and those of its edges
  pub from_here : AreStates states → (t : ℕ) → t < most →
      forms_at states t ≡ ending (at t).code ++ branches states (at t).edges
  from_here fit t less =
      from_depth states fit most (suc most) t (at t) (fit_at fit t less) (omega (arith, less))
      (omega (arith, less)) (omega (arith, less))

  map-branches : (way : Spelt) (edges : List Edge) →
      map (behind_all way.letters) (branches states edges) ≡ flat_map (branch way) edges
  map-branches way [] = refl
  map-branches way (e ∷ edges) =
      map-append (behind_all way.letters) (map (behind e.letter) (forms_at states e.target))
      (branches states edges)
      ∙ ap (λ (l : List Form). branch way e ++ l) (map-branches way edges)

  -- the forms of a way are those that end there and those of all edges
  pub by_edges : AreStates states → (way : Spelt) → way.state < most →
      forms_by states way ≡ passed way (at way.state).edges
  by_edges fit way less =
      ap (map (behind_all way.letters)) (from_here fit way.state less)
      ∙ map-append (behind_all way.letters) (ending (at way.state).code)
      (branches states (at way.state).edges)
      ∙ ap (λ (l : List Form). ended way ++ l) (map-branches way (at way.state).edges)
