-- The longest form from a state, by those from the states to which its edges lead.
use Rattle.std.proofs.Common.{◌≡◌, ℕ, ◌+◌, ◌<◌, ◌≤◌, max, List, [], ◌∷◌, ◌++◌, length, map, take, get_or, refl, sym, ◌∙◌, ap, subst, inl, inr, arith}
use Rattle.std.specs.Prelude.{All, Contains, Option, None, Some}
use Rattle.std.proofs.lemmas.Bool.{cases_lt}
use Rattle.std.proofs.lemmas.List.{get_or_append_left, get_or-append-add, get_or_default, take_more}
use Rattle.std.proofs.lemmas.List.Elements.{Contains-get_or}
use Rattle.std.proofs.lemmas.Option.{slice_get-get_or}
use Rattle.ux_dawg.specs.Building.{bare}
use Rattle.ux_dawg.specs.Listed.{behind, ending}
use Rattle.ux_dawg.specs.Paths.{AreStates}
use Rattle.ux_dawg.specs.declared.state.Edge.{Edge}
use Rattle.ux_dawg.specs.declared.state.Form.{Form}
use Rattle.ux_dawg.specs.declared.state.State.{State}
use Rattle.ux_dawg.proofs.PathLemmas.{behind as later, in_front}
use Rattle.ux_image_look_ups.specs.Longest.{deepest, longest_in}
use Rattle.ux_image_look_ups.specs.Ways.{branches, forms_at, HaveForms}
use Rattle.ux_image_look_ups.proofs.WayLemmas.{from_here}

longest-append : (forms more : List Form) →
    longest_in (forms ++ more) ≡ max (longest_in forms) (longest_in more)
longest-append [] more = omega arith
longest-append (f ∷ forms) more =
    let rest = longest-append forms more in
    omega (arith, rest)

-- with a letter in front each form has one more
longest-behind : (a : ℕ) (forms : List Form) → 0 < length forms →
    longest_in (map (behind a) forms) ≡ 1 + longest_in forms
longest-behind a [] some = absurd (omega (arith, some))
longest-behind a (f ∷ []) some = omega arith
longest-behind a (f ∷ (g ∷ forms)) some =
    let rest = longest-behind a (g ∷ forms) (omega arith) in
    omega (arith, rest)

longest-ending : (code : Option ℕ) → longest_in (ending code) ≡ 0
longest-ending None = refl
longest-ending (Some c) = omega arith

-- one more edge
deepest-push : (depths : List ℕ) (edges : List Edge) (edge : Edge) →
    deepest depths (edges ++ edge ∷ []) ≡ max (deepest depths edges) (1 + get_or depths edge.target 0)
deepest-push depths [] edge = omega arith
deepest-push depths (e ∷ edges) edge =
    let rest = deepest-push depths edges edge in
    omega (arith, rest)

pub deepest-more : (depths : List ℕ) (edges : List Edge) (i : ℕ) (edge : Edge) → i < length edges →
    edge ≡ get_or edges i edge →
    deepest depths (take (i + 1) edges)
    ≡ max (deepest depths (take i edges)) (1 + get_or depths edge.target 0)
deepest-more depths edges i edge less is =
    ap (deepest depths) (take_more edges i edge less
    ∙ ap (λ (e : Edge). take i edges ++ e ∷ []) (sym is))
    ∙ deepest-push depths (take i edges) edge

-- no deeper than the states below
pub deepest-low : (depths : List ℕ) (n : ℕ) (edges : List Edge) →
    ((e : Edge) → Contains edges e → get_or depths e.target 0 < n) → deepest depths edges ≤ n
deepest-low depths n [] low = omega arith
deepest-low depths n (e ∷ edges) low =
    let here = low e (in_front e edges) in
    let rest = deepest-low depths n edges (λ d has. low d (later e edges d has)) in
    omega (arith, here, rest)

module _ (states : List State) (fit : AreStates states) (have : HaveForms states) where
  branches_deepest : (depths : List ℕ) (n : ℕ) → n < length states →
      ((k : ℕ) → k < n → get_or depths k 0 ≡ longest_in (forms_at states k)) →
      (edges : List Edge) → ((e : Edge) → Contains edges e → e.target < n) →
      longest_in (branches states edges) ≡ deepest depths edges
  branches_deepest depths n inside each [] within = refl
  branches_deepest depths n inside each (e ∷ edges) within =
      let low = within e (in_front e edges) in
      let there = forms_at states e.target in
      let some = have e.target (omega (arith, low, inside)) in
      let parts = longest-append (map (behind e.letter) there) (branches states edges) in
      let one = longest-behind e.letter there some in
      let known = each e.target low in
      let rest = branches_deepest depths n inside each edges
      (λ d has. within d (later e edges d has)) in
      omega (arith, parts, one, known, rest)

  -- the longest form from a state is that by its edges
  pub longest_here : (depths : List ℕ) (n : ℕ) → n < length states →
      ((k : ℕ) → k < n → get_or depths k 0 ≡ longest_in (forms_at states k)) →
      longest_in (forms_at states n) ≡ deepest depths (get_or states n bare).edges
  longest_here depths n inside each =
      let s = get_or states n bare in
      let within = (fit n s (slice_get-get_or states n bare inside)).within in
      let parts = ap longest_in (from_here states fit n inside)
      ∙ longest-append (ending s.code) (branches states s.edges) in
      let own = longest-ending s.code in
      let rest = branches_deepest depths n inside each s.edges within in
      omega (arith, parts, own, rest)

  -- edges lead to states before theirs
  pub edges_low : (n : ℕ) (s : State) → n < length states → s ≡ get_or states n s →
      (edges : List Edge) → edges ≡ s.edges → All (λ (e : Edge). e.target < n) edges
  edges_low n s inside is edges are k d less =
      let here = get_or_default states n bare s inside ∙ sym is in
      let has = subst (λ (l : List Edge). Contains l (get_or edges k d))
      (are ∙ ap (λ (t : State). t.edges) (sym here)) (Contains-get_or edges k d less) in
      (fit n (get_or states n bare) (slice_get-get_or states n bare inside)).within
      (get_or edges k d) has

  module _ (depths new : List ℕ) (depth n : ℕ) (inside : n < length states)
      (many : length depths ≡ n) (pushed : new ≡ depths ++ depth ∷ [])
      (each : (k : ℕ) → k < n → get_or depths k 0 ≡ longest_in (forms_at states k))
      (low : (k : ℕ) → k < n → get_or depths k 0 ≤ k)
      (is : depth ≡ deepest depths (get_or states n bare).edges) where
    old_at : (k : ℕ) → k < n → get_or new k 0 ≡ get_or depths k 0
    old_at k less =
        ap (λ (l : List ℕ). get_or l k 0) pushed
        ∙ get_or_append_left depths (depth ∷ []) 0 k (omega (arith, less, many))

    new_at : get_or new n 0 ≡ depth
    new_at =
        ap (λ (l : List ℕ). get_or l n 0) pushed
        ∙ ap (λ k. get_or (depths ++ depth ∷ []) k 0)
        (let at : n ≡ length depths + 0 = omega (arith, many) in at)
        ∙ get_or-append-add depths (depth ∷ []) 0 0

    pub depths_each : (k : ℕ) → k < n + 1 → get_or new k 0 ≡ longest_in (forms_at states k)
    depths_each k less = elim (cases_lt k n) [
      | inl before ↦ old_at k before ∙ each k before
      | inr past ↦
          let here : k ≡ n = omega (arith, less, past) in
          subst (λ m. get_or new m 0 ≡ longest_in (forms_at states m)) (sym here)
          (new_at ∙ is ∙ sym (longest_here depths n inside each))
    ]

    pub depths_low : (k : ℕ) → k < n + 1 → get_or new k 0 ≤ k
    depths_low k less = elim (cases_lt k n) [
      | inl before ↦
          let old = old_at k before in
          let under = low k before in
          omega (arith, old, under)
      | inr past ↦
          let within = (fit n (get_or states n bare) (slice_get-get_or states n bare inside)).within
          in
          let most = deepest-low depths n (get_or states n bare).edges (λ e has.
          let before = within e has in
          let under = low e.target before in
          omega (arith, before, under)) in
          let same = new_at in
          let here : k ≡ n = omega (arith, less, past) in
          subst (λ m. get_or new m 0 ≤ m) (sym here) (omega (arith, most, same, is))
    ]
