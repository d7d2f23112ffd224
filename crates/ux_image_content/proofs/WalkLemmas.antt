-- A walk in progress: which forms and how many steps are left behind the next edge, or behind a
-- state with none.
use Rattle.std.proofs.Common.{arith, ◌≡◌, ℕ, zero, suc, ◌+◌, ◌-◌, ◌<◌, ◌≤◌, List, [], ◌∷◌, ◌++◌, refl, sym, ◌∙◌, ap, subst, length, map, drop, get_or}
use Rattle.std.specs.Prelude.{Contains, Option, None, Some, sum_by}
use Rattle.std.proofs.lemmas.List.{append_assoc, drop_all, drop_more, get_or_default, map-append}
use Rattle.std.proofs.lemmas.List.Sums.{sum_by-cons, sum_by_push}
use Rattle.std.proofs.lemmas.Option.{slice_get-get_or}
use Rattle.ux_dawg.specs.Building.{bare}
use Rattle.ux_dawg.specs.Listed.{behind, ending, forms_from}
use Rattle.ux_dawg.specs.Paths.{AreStates, IsFit}
use Rattle.ux_dawg.specs.declared.state.Edge.{Edge}
use Rattle.ux_dawg.specs.declared.state.Form.{Form}
use Rattle.ux_dawg.specs.declared.state.State.{State}
use Rattle.ux_dawg.proofs.PathLemmas.{behind as later, in_front}
use Rattle.ux_image_lists.specs.Sizes.{forms_of}
use Rattle.ux_image_lists.proofs.SumLemmas.{from_depth}
use Rattle.ux_image_content.specs.declared.walk.Frame.{Frame}
use Rattle.ux_image_content.specs.Walking.{branches, edges_left, ended, forms_left, steps_from, steps_left, IsNext}

-- a state in front of which nothing stands
abbrev pub entered : ℕ → Frame
entered number = record { state = number; place = 0 }

-- one more letter in front of the form that ends in a state
ended-behind : (a : ℕ) (letters : List ℕ) (code : Option ℕ) →
    map (behind a) (ended letters code) ≡ ended (a ∷ letters) code
ended-behind a letters None = refl
ended-behind a letters (Some c) = refl

ended-none : (code : Option ℕ) → ended [] code ≡ ending code
ended-none None = refl
ended-none (Some c) = refl

sums_same : (f g : Edge → ℕ) (edges : List Edge) → ((e : Edge) → Contains edges e → f e ≡ g e) →
    sum_by f edges ≡ sum_by g edges
sums_same f g [] same = refl
sums_same f g (e ∷ edges) same =
    let here = same e (in_front e edges) in
    let more = sums_same f g edges (λ d has. same d (later e edges d has)) in
    let one = sum_by-cons f e edges in
    let other = sum_by-cons g e edges in
    omega (arith, here, more, one, other)

module _ (states : List State) (fit : AreStates states) where
  abbrev most : ℕ
  most = length states

  abbrev at : ℕ → State
  at t = get_or states t bare

  fit_at : (t : ℕ) → t < most → IsFit t (at t)
  fit_at t less = fit t (at t) (slice_get-get_or states t bare less)

  -- the forms from a state: its own, and those of its edges
  pub from_here : (t : ℕ) → t < most →
      forms_from most states (at t) ≡ ending (at t).code ++ branches states (at t).edges
  from_here t less =
      from_depth states fit most (suc most) t (at t) (fit_at t less) (omega (arith, less))
      (omega (arith, less)) (omega (arith, less))

  no_steps : (s : State) → IsFit 0 s → (f : Edge → ℕ) → sum_by f s.edges ≡ 0
  no_steps s fits f = by s.edges fits.within
    where
      by : (edges : List Edge) → ((e : Edge) → Contains edges e → e.target < 0) →
          sum_by f edges ≡ 0
      by [] within = refl
      by (e ∷ edges) within =
          let low = within e (in_front e edges) in absurd (omega (arith, low))

  -- as many steps at any depth below which the state stands
  steps_depth : (n m i : ℕ) (s : State) → IsFit i s → i ≤ most → i ≤ n → i ≤ m →
      steps_from n states s ≡ steps_from m states s
  steps_depth zero zero i s fits inside low high = refl
  steps_depth zero (suc m) i s fits inside low high =
      let none = no_steps s (subst (λ k. IsFit k s) (let e : i ≡ 0 = omega (arith, low) in e) fits)
      (λ e. steps_from m states (at e.target)) in
      omega (arith, none)
  steps_depth (suc n) zero i s fits inside low high =
      let none = no_steps s (subst (λ k. IsFit k s) (let e : i ≡ 0 = omega (arith, high) in e) fits)
      (λ e. steps_from n states (at e.target)) in
      omega (arith, none)
  steps_depth (suc n) (suc m) i s fits inside low high =
      ap (λ k. 2 + k) (sums_same (λ e. steps_from n states (at e.target))
      (λ e. steps_from m states (at e.target)) s.edges (λ e has.
      let under = fits.within e has in
      steps_depth n m e.target (at e.target) (fit_at e.target (omega (arith, under, inside)))
      (omega (arith, under, inside)) (omega (arith, under, low)) (omega (arith, under, high))))

  abbrev steps_by : Edge → ℕ
  steps_by e = steps_from most states (at e.target)

  steps_here : (t : ℕ) → t < most →
      steps_from most states (at t) ≡ 2 + sum_by steps_by (at t).edges
  steps_here t less =
      steps_depth most (suc most) t (at t) (fit_at t less) (omega (arith, less))
      (omega (arith, less)) (omega (arith, less))

  -- a walk goes down by the next edge of its last state
  module _ (frame past : Frame) (e : Edge) (rest : List Edge)
      (next : edges_left states frame ≡ e ∷ rest) (left : edges_left states past ≡ rest)
      (less : e.target < most) where
    pub forms_down : (stack : List Frame) (letters : List ℕ) → length stack ≡ length letters →
        forms_left states (stack ++ frame ∷ []) letters
        ≡ ended (letters ++ e.letter ∷ []) (at e.target).code
        ++ forms_left states ((stack ++ past ∷ []) ++ entered e.target ∷ []) (letters ++ e.letter ∷ [])
    unfolding forms_left
    forms_down [] [] long =
        let a = e.letter in
        let own = (at e.target).code in
        let on = branches states (at e.target).edges in
        ap (branches states) next
        ∙ ap (λ (l : List Form). map (behind a) l ++ branches states rest) (from_here e.target less)
        ∙ ap (λ (l : List Form). l ++ branches states rest) (map-append (behind a) (ending own) on
        ∙ ap (λ (l : List Form). map (behind a) l ++ map (behind a) on) (sym (ended-none own))
        ∙ ap (λ (l : List Form). l ++ map (behind a) on) (ended-behind a [] own))
        ∙ append_assoc (ended (a ∷ []) own) (map (behind a) on) (branches states rest)
        ∙ ap (λ (l : List Edge). ended (a ∷ []) own ++ (map (behind a) on ++ branches states l))
        (sym left)
    forms_down [] (b ∷ letters) long = absurd (omega (arith, long))
    forms_down (g ∷ stack) [] long = absurd (omega (arith, long))
    forms_down (g ∷ stack) (b ∷ letters) long =
        let word = letters ++ e.letter ∷ [] in
        let own = (at e.target).code in
        let deeper = forms_left states ((stack ++ past ∷ []) ++ entered e.target ∷ []) word in
        let here = branches states (edges_left states g) in
        ap (λ (l : List Form). map (behind b) l ++ here)
        (forms_down stack letters (omega (arith, long)))
        ∙ ap (λ (l : List Form). l ++ here) (map-append (behind b) (ended word own) deeper
        ∙ ap (λ (l : List Form). l ++ map (behind b) deeper) (ended-behind b word own))
        ∙ append_assoc (ended (b ∷ word) own) (map (behind b) deeper) here

    pub steps_down : (stack : List Frame) →
        steps_left states ((stack ++ past ∷ []) ++ entered e.target ∷ [])
        < steps_left states (stack ++ frame ∷ [])
    steps_down stack =
        let count : Frame → ℕ = λ f. 1 + sum_by steps_by (edges_left states f) in
        let old = sum_by_push count stack frame in
        let mid = sum_by_push count stack past in
        let new = sum_by_push count (stack ++ past ∷ []) (entered e.target) in
        let before = ap (sum_by steps_by) next ∙ sum_by-cons steps_by e rest in
        let behind = ap (sum_by steps_by) left in
        let under = steps_here e.target less in
        omega (arith, old, mid, new, before, behind, under)

  -- a walk goes back from a state with no further edge
  module _ (frame : Frame) (none : edges_left states frame ≡ []) where
    pub forms_back : (stack : List Frame) (letters : List ℕ) (a : ℕ) →
        length stack ≡ length letters + 1 →
        forms_left states (stack ++ frame ∷ []) (letters ++ a ∷ []) ≡ forms_left states stack letters
    unfolding forms_left
    forms_back [] letters a long = absurd (omega (arith, long))
    forms_back (g ∷ []) [] a long =
        ap (λ (l : List Edge). map (behind a) (branches states l)
        ++ branches states (edges_left states g)) none
    forms_back (g ∷ (h ∷ stack)) [] a long = absurd (omega (arith, long))
    forms_back (g ∷ stack) (b ∷ letters) a long =
        ap (λ (l : List Form). map (behind b) l ++ branches states (edges_left states g))
        (forms_back stack letters a (omega (arith, long)))

    -- also from the root
    pub forms_end : forms_left states (frame ∷ []) [] ≡ forms_left states [] []
    unfolding forms_left
    forms_end = ap (branches states) none

    pub steps_back : (stack : List Frame) →
        steps_left states stack < steps_left states (stack ++ frame ∷ [])
    steps_back stack =
        let old = sum_by_push (λ f. 1 + sum_by steps_by (edges_left states f)) stack frame in
        omega (arith, old)

  -- the next edge of a state
  module _ (frame : Frame) (inside : frame.state < most) (s : State)
      (is : s ≡ get_or states frame.state s) (edges : List Edge) (are : edges ≡ s.edges) where
    edges_are : (at frame.state).edges ≡ edges
    edges_are =
        ap (λ (t : State). t.edges) (get_or_default states frame.state bare s inside ∙ sym is)
        ∙ sym are

    pub next_is : (e : Edge) → frame.place < length edges → e ≡ get_or edges frame.place e →
        IsNext states frame e (record { state = frame.state; place = frame.place + 1 })
    next_is e less stands =
        let here = sym stands in
        let low = (fit_at frame.state inside).within e
        (subst (λ (l : List Edge). Contains l e) (sym edges_are) (frame.place, less, here)) in
        record {
          edges = ap (drop frame.place) edges_are
              ∙ drop_more edges frame.place e less
              ∙ ap (λ (d : Edge). d ∷ drop (frame.place + 1) edges) here
              ∙ ap (λ (l : List Edge). e ∷ drop (frame.place + 1) l) (sym edges_are);
          same = refl;
          target = omega (arith, low, inside);
        }

    pub next_none : length edges ≤ frame.place → edges_left states frame ≡ []
    next_none past = ap (drop frame.place) edges_are ∙ drop_all frame.place edges past

  -- a walk begins in the root
  pub forms_begin : (root : ℕ) → length states ≡ root + 1 →
      ended [] (at root).code ++ forms_left states (entered root ∷ []) [] ≡ forms_of states
  unfolding forms_left
  forms_begin root last =
      let less : root < most = omega (arith, last) in
      let same : most - 1 ≡ root = omega (arith, last) in
      ap (λ (l : List Form). l ++ branches states (at root).edges) (ended-none (at root).code)
      ∙ sym (from_here root less)
      ∙ ap (λ t. forms_from most states (at t)) (sym same)

-- a walk ends where no state is left
pub forms_done : (states : List State) (letters : List ℕ) → forms_left states [] letters ≡ []
unfolding forms_left
forms_done states letters = refl
