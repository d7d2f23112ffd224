-- Numbers that are gathered from what was seen.
use Rattle.std.proofs.Common.{◌≡◌, ℕ, ◌≤◌, List, [], ◌∷◌, ◌++◌, ◌⊎◌, ◌↔◌, inl, inr, refl, sym, ap, subst, ◌∙◌, length, take}
use Rattle.std.specs.Prelude.{Contains, Some, slice_get}
use Rattle.std.proofs.lemmas.Option.{same_Some}
use Rattle.std.proofs.lemmas.List.Elements.{Contains-append_left, Contains-push, Contains-push_cases}
use Rattle.std.specs.List.Sorted.{IsStrictlyIncreasing}
use Rattle.ux_net.specs.declared.label.Label.TheVariants.{ContextEnd}
use Rattle.ux_net.specs.declared.label.Label.{Label}
use Rattle.ux_net.specs.declared.state.Edge.{Edge}
use Rattle.ux_net.specs.declared.state.State.{State}
use Rattle.ux_net.specs.declared.net_graph.NetGraph.{NetGraph}
use Rattle.ux_net.specs.Words.{mark_of}
use Rattle.ux_net.specs.Nets.{net_grammar, states_of}
use Rattle.ux_base.proofs.Lists.{nothing_in}
use Rattle.ux_meaning.specs.Inputs.{Input}
use Rattle.ux_parts.specs.declared.parts.Parts.{Parts}
use Rattle.ux_parts.specs.Runs.{From, Ends, Closes}
use Rattle.ux_net.proofs.LabelLaws.{closing_label}
use Rattle.ux_chart.specs.declared.config.Config.{Config}
use Rattle.ux_chart.specs.Rows.{IsAnswer}
use Rattle.ux_chart.specs.Search.{IsReached, EndsAt, ClosesInto}
use Rattle.ux_chart.proofs.Collecting.{IsCollected, collected_whole, collected_all}
use Rattle.ux_chart.proofs.Entering.{step_of, is_step}

-- what was gathered in an empty list, and ordered
pub gathered : {E : Type 0} (P : E → Type 0) (old now ordered : List E) → old ≡ [] →
    ((e : E) → Contains now e ↔ (Contains old e ⊎ P e)) →
    ((e : E) → Contains ordered e ↔ Contains now e) → (e : E) → Contains ordered e ↔ P e
gathered {E} P old now ordered none all same e = (
  λ h. elim ((all e).0 ((same e).0 h)) [
    | inl n ↦ absurd (nothing_in (subst (λ (l : List E). Contains l e) none n))
    | inr p ↦ p
  ],
  λ p. (same e).1 ((all e).1 (inr p)),
)

-- a number is added behind the others
pub one_more : (P : ℕ → Type 0) (old new : List ℕ) (number : ℕ) → new ≡ old ++ number ∷ [] →
    P number → ((e : ℕ) → P e → e ≡ number) → (e : ℕ) → Contains new e ↔ (Contains old e ⊎ P e)
one_more P old new number is here only e =
    subst (λ (l : List ℕ). Contains l e ↔ (Contains old e ⊎ P e)) (sym is) (
      λ h. elim (Contains-push_cases old number e h) [
        | inl o ↦ inl o
        | inr m ↦ inr (subst P m here)
      ],
      λ h. elim h [
        | inl o ↦ Contains-append_left old (number ∷ []) e o
        | inr p ↦ subst (λ q. Contains (old ++ number ∷ []) q) (sym (only e p))
            (Contains-push old number)
      ],
    )

-- all edges of the state were looked at
pub closed_all : (net : List NetGraph) (g : ℕ) (v : Config) (state : State) →
    Some state ≡ slice_get (states_of net g) v.state → (old now : List ℕ) (edges : List Edge) →
    edges ≡ state.edges → (i : ℕ) → length edges ≤ i →
    IsCollected (λ c. ClosesInto net g v c)
    (λ (edge : Edge) c. (edge.label ≡ ContextEnd) × (edge.target ≡ c)) old now (take i edges) →
    (c : ℕ) → Contains now c ↔ (Contains old c ⊎ ClosesInto net g v c)
closed_all net g v state here old now edges is i past c j =
    collected_all _ _ old now now state.edges (λ (e : ℕ). ⊥)
    (collected_whole _ _ old now edges state.edges i past is c)
    (λ e t.
    let same : t.state ≡ state = same_Some t.state state (sym t.found ∙ sym here) in
    inr (t.edge, subst (λ (s : State). Contains s.edges t.edge) same t.inside, (t.label, t.to)))
    (λ e h. absurd h) (λ e. (λ h. inl h, λ h. elim h [ inl x ↦ x | inr x ↦ absurd x ])) j

module _ (input : Input) (net : List NetGraph) (parts : Parts) (g first at : ℕ)
    (seen : List Config)
    (reached : (w : Config) → Contains seen w ↔ IsReached input net parts.levels g first at w)
    (ends closers : List ℕ)
    (told_ends : (j : ℕ) →
    Contains ends j ↔ ((w : Config) × Contains seen w × EndsAt net g w j))
    (told_closers : (c : ℕ) →
    Contains closers c ↔ ((w : Config) × Contains seen w × ClosesInto net g w c)) where
  ends_of : (j : ℕ) → Contains ends j ↔ Ends input (net_grammar net) parts.levels g first at j
  ends_of j = (
    λ h.
        let t = (told_ends j).0 h in
        record {
          last = t.0.state;
          ends = t.2.0;
          from = subst (λ p. From input (net_grammar net) parts.levels g first at t.0.state p)
              t.2.1 ((reached t.0).0 t.1);
        },
    λ e.
        let w : Config = record { state = e.last; at = j } in
        (told_ends j).1 (w, (reached w).1 e.from, (e.ends, refl)),
  )

  closers_of : (c : ℕ) →
      Contains closers c ↔ Closes input (net_grammar net) parts.levels g first at c
  closers_of c = (
    λ h.
        let t = (told_closers c).0 h in
        let w = t.0 in
        let e = t.2 in
        record {
          step = step_of w.state e.edge;
          inside = is_step net g w.state e.edge (e.state, e.found, e.inside);
          closed = ap (λ (x : Label). mark_of (x ∷ [])) e.label;
          after = e.to;
          at = w.at;
          from = (reached w).0 t.1;
        },
    λ h.
        let s = h.inside in
        let w : Config = record { state = h.step.from; at = h.at } in
        (told_closers c).1 (
          w,
          (reached w).1 h.from,
          record {
            state = s.state;
            found = s.found;
            edge = s.edge;
            inside = s.inside;
            label = closing_label s.edge.label (ap mark_of (sym s.label) ∙ h.closed);
            to = sym s.to ∙ h.after;
          },
        ),
  )

  pub answered : IsStrictlyIncreasing ends → IsStrictlyIncreasing closers →
      IsAnswer input net parts g first at ends closers
  answered ends_ascend closers_ascend = record {
    ends = ends_of;
    closers = closers_of;
    ends_ascend = ends_ascend;
    closers_ascend = closers_ascend;
  }
