-- A minimal automaton of forms that may be is accepted, where states use the numbers of lists in
-- their order.
use Rattle.std.proofs.Common.{arith, ◌≡◌, ℕ, ◌+◌, ◌<◌, List, [], ◌∷◌, ◌++◌, inl, inr, refl, sym, ◌∙◌, ap, subst, length, take, get_or}
use Rattle.std.specs.Prelude.{All, Contains, Option, None, Some, slice_get}
use Rattle.std.proofs.lemmas.Bool.{cases_lt}
use Rattle.std.proofs.lemmas.List.{get_or-map, get_or_default, length-map, length-take, nil_from_length}
use Rattle.std.proofs.lemmas.List.Elements.{All-map}
use Rattle.std.proofs.lemmas.Option.{none-some, same_Some, slice_get-get_or, slice_get_within}
use Rattle.ux_dawg.specs.Automaton.{IsAutomaton}
use Rattle.ux_dawg.specs.Forms.{form_of}
use Rattle.ux_dawg.specs.Paths.{edge, IsPath, Leads, Right}
use Rattle.ux_dawg.specs.declared.state.Edge.{Edge}
use Rattle.ux_dawg.specs.declared.state.Form.{Form}
use Rattle.ux_dawg.specs.declared.state.State.{State}
use Rattle.ux_dawg.proofs.FitLemmas.{each_from_ascending}
use Rattle.ux_image_reader.specs.Fronts.{AreAccepted}
use Rattle.ux_image_reader.specs.Layout.{final_number}
use Rattle.ux_image_reader.specs.Reading.{ArePassed}
use Rattle.ux_image_reader.specs.Tests.{limits_behind, AllPass, IsLetter, IsList}
use Rattle.ux_image_reader.specs.Visiting.{below}
use Rattle.ux_image_reader.proofs.EdgesLemmas.{edges_end, standing}
use Rattle.ux_image_reader.proofs.FrontLemmas.{used_by-le}
use Rattle.std.proofs.lemmas.List.FromFn.{get_or-range_with_len, length-range_with_len}
use Rattle.ux_image_content.proofs.NumberedLemmas.{visit_by_number}
use Rattle.ux_image_content.proofs.FirstUseLemmas.{AreUsed}

module _ (states : List State) where
  right_on : (u : List ℕ) (i j : ℕ) (w : List ℕ) (c : ℕ) → Leads states i u j →
      IsPath states j w c → IsPath states i (u ++ w) c
  right_on [] i j w c same path = subst (λ k. IsPath states k w c) (sym same) path
  right_on (a ∷ u) i j w c h path =
      let rest = right_on u h.0 j w c h.4 path in
      (h.1, h.2, (h.0, rest.0, h.3, rest.1, rest.2))

  module _ (forms : List Form) (root : ℕ) (is : IsAutomaton forms states root) where
    -- no form, one state
    single : length forms ≡ 0 → length states ≡ 1
    single none = elim (cases_lt 1 (length states)) [
      | inl several ↦
          let same = is.minimal.apart 0 1 (omega (arith, several)) several
          (λ w c. (
            λ path. absurd (no_path 0 (omega (arith, several)) w c path),
            λ path. absurd (no_path 1 several w c path),
          )) in
          absurd (omega (arith, same))
      | inr few ↦ let last = is.last in omega (arith, few, last)
    ]
      where
        no_path : (i : ℕ) → i < length states → (w : List ℕ) (c : ℕ) → IsPath states i w c → ⊥
        no_path i less w c path =
            let way = is.minimal.reached i less in
            let has = (is.exact (way.0 ++ w) c).0 (right_on way.0 root i w c way.1 path) in
            let low = has.1 in omega (arith, low, none)

    -- a state without number and edges is alone
    pub alone : (i : ℕ) (s : State) → slice_get states i ≡ Some s → s.code ≡ None → s.edges ≡ [] →
        length states ≡ 1
    alone i s at code edges = elim (cases_lt 0 (length forms)) [
      | inl some ↦
          let path = is.paths some i (slice_get_within states i s at) in
          let same = same_Some path.2.0 s (sym path.2.1 ∙ at) in
          absurd (stuck path.0 path.1
          (subst (λ (t : State). Right states t path.0 path.1) same path.2.2))
      | inr none ↦ single (omega (arith, none))
    ]
      where
        stuck : (w : List ℕ) (c : ℕ) → Right states s w c → ⊥
        stuck [] c h = none-some c (sym code ∙ h)
        stuck (a ∷ w) c h =
            let has = subst (λ (l : List Edge). Contains l (edge a h.0)) edges h.2 in
            let low = has.1 in omega (arith, low)

  module _ (forms : List Form) (root : ℕ) (is : IsAutomaton forms states root)
      (good : (w : List ℕ) (c : ℕ) → Contains forms (form_of w c) →
      (0 < length w) × All IsLetter w) where
    -- a letter that leads on is one of a form
    edge_letter : (i : ℕ) (s : State) → slice_get states i ≡ Some s → (e : Edge) →
        Contains s.edges e → IsLetter e.letter
    edge_letter i s at e has =
        let inside = slice_get_within states i s at in
        let under = (is.fit i s at).within e has in
        elim (cases_lt 0 (length forms)) [
          | inl some ↦
              let path = is.paths some e.target (omega (arith, under, inside)) in
              let way = is.minimal.reached i inside in
              let rest = path.2 in
              let whole = right_on way.0 root i (e.letter ∷ path.0) path.1 way.1
              (s, at, (e.target, rest.0, has, rest.1, rest.2)) in
              let all = (good (way.0 ++ e.letter ∷ path.0) path.1
              ((is.exact (way.0 ++ e.letter ∷ path.0) path.1).0 whole)).1 in
              standing IsLetter way.0 e.letter path.0 all
          | inr none ↦
              let one = single forms root is (omega (arith, none)) in
              absurd (omega (arith, one, inside, under))
        ]

    edges_pass : (i : ℕ) (s : State) → slice_get states i ≡ Some s → ArePassed i s.edges
    edges_pass i s at =
        let fit = is.fit i s at in
        let rise = each_from_ascending s.edges fit.ascending in
        let long = length-map s.edges (λ (e : Edge). e.letter) in
        record {
          each = All-map IsLetter (λ (e : Edge). e.letter) s.edges (λ k d less.
              edge_letter i s at (get_or s.edges k d) (k, less, get_or_default s.edges k _ d less));
          ascending = λ k less.
              let inside : k + 1 < length s.edges = omega (arith, long, less) in
              let d : Edge = record { letter = 0; target = 0 } in
              let up = rise k d inside in
              let here = get_or-map (λ (e : Edge). e.letter) s.edges k d 0 (omega (arith, inside)) in
              let next = get_or-map (λ (e : Edge). e.letter) s.edges (k + 1) d 0 inside in
              omega (arith, up, here, next);
          below = All-map (λ t. t < i) (λ (e : Edge). e.target) s.edges (λ k d less.
              fit.within (get_or s.edges k d) (k, less, get_or_default s.edges k _ d less));
        }

    all_pass : (lists : ℕ) → AreUsed lists states → AllPass (length states) lists states
    all_pass lists used i s at =
        let inside = slice_get_within states i s at in
        let number : length (take i states) ≡ i =
        (let l = length-take i states in omega (arith, l, inside)) in
        let passed = subst (λ n. ArePassed n s.edges) (sym number) (edges_pass i s at) in (
          list_of s.code refl,
          λ none no_edge. alone forms root is i s at (code_none s.code refl none)
              (nil_from_length s.edges no_edge),
          edges_end (length (take i states)) s.edges passed (length s.edges) refl,
        )
      where
        list_of : (code : Option ℕ) → s.code ≡ code →
            IsList (limits_behind (length states) lists (take i states)) (final_number code)
        list_of None none = record { below = omega arith; next = omega arith }
        list_of (Some c) some = record {
          below = let low = used.below_all i s c at some in omega (arith, low);
          next = let low = used.next i s c at some in omega (arith, low);
        }

        code_none : (code : Option ℕ) → s.code ≡ code → final_number s.code ≡ 0 → s.code ≡ None
        code_none None is none = is
        code_none (Some c) is none =
            let some = ap final_number is in absurd (omega (arith, some, none))

    pub are_accepted : (lists : ℕ) → AreUsed lists states → AreAccepted lists states
    are_accepted lists used =
        let last = is.last in
        let passed = all_pass lists used in
        record {
          some = omega (arith, last);
          passed = passed;
          root = λ number final.
              let here : number ≡ root = (let r = final.root in omega (arith, r, last)) in
              let has = (is.exact [] final.list).0
              (subst (λ n. IsPath states n [] final.list) here
              (final.state, final.stands, final.final)) in
              let some = (good [] final.list has).0 in
              omega (arith, some);
          once = λ number equal.
              let here = slice_get_within states number equal.state equal.stands in
              let there = slice_get_within states equal.earlier equal.state equal.same in
              let same = is.minimal.apart equal.earlier number there here (λ w c. (
                λ path. moved equal.earlier number equal.state equal.same equal.stands w c path,
                λ path. moved number equal.earlier equal.state equal.stands equal.same w c path,
              )) in
              let before = equal.before in
              omega (arith, same, before);
          numbered = λ number other.
              let within = other.within in
              let visit = visit_by_number states root is.fit is.numbered last in
              other.else_left (ap (λ (l : List ℕ). slice_get l number) visit
              ∙ in_range (length states) number within);
          used = let low = used_by-le (length states) lists states passed in
              let high = used.all in omega (arith, low, high);
        }
      where
        moved : (i j : ℕ) (s : State) → slice_get states i ≡ Some s → slice_get states j ≡ Some s →
            (w : List ℕ) (c : ℕ) → IsPath states i w c → IsPath states j w c
        moved i j s here there w c path =
            let same = same_Some path.0 s (sym path.1 ∙ here) in
            (s, there, subst (λ (t : State). Right states t w c) same path.2)

        in_range : (n k : ℕ) → k < n → slice_get (below n) k ≡ Some k
        in_range n k less =
            slice_get-get_or (below n) k 0
            (let l = length-range_with_len 0 n in omega (arith, l, less))
            ∙ ap Some (get_or-range_with_len 0 n k 0 less
            ∙ (let e : 0 + k ≡ k = omega arith in e))
