-- The forms that are listed of states are those that lead to an end, in order; so they are those of
-- which the automaton was made.
use Rattle.std.proofs.Common.{arith, ◌≡◌, ℕ, zero, suc, ◌-◌, ◌<◌, ◌≤◌, List, [], ◌∷◌, inl, inr, refl, sym, ◌∙◌, ap, subst, length, map, get_or}
use Rattle.std.specs.Prelude.{All, Contains, Option, None, Some, flat_map}
use Rattle.std.specs.Cmp.Lexicographic.{slice_cmp}
use Rattle.std.specs.Ordering.{nat_cmp}
use Rattle.std.specs.declared.cmp.Ordering.TheVariants.{Less}
use Rattle.std.proofs.lemmas.List.Elements.{All-append, All-cons, All-contains, All-map, All-nil, Contains-append_cases, Contains-append_left, Contains-append_right}
use Rattle.std.proofs.lemmas.Option.{get_or_from_slice_get, slice_get-get_or}
use Rattle.ux_dawg.specs.Automaton.{IsAutomaton}
use Rattle.ux_dawg.specs.Building.{bare}
use Rattle.ux_dawg.specs.Forms.{form_of}
use Rattle.ux_dawg.specs.Listed.{behind, ending, forms_from}
use Rattle.ux_dawg.specs.Paths.{edge, Accepts, AreAscending, AreStates, IsPath, Right}
use Rattle.ux_dawg.specs.declared.state.Edge.{Edge}
use Rattle.ux_dawg.specs.declared.state.Form.{Form}
use Rattle.ux_dawg.specs.declared.state.State.{State}
use Rattle.ux_dawg.proofs.FormsLemmas.{in_order-append, lower_before, one_order, slice_cmp-cons, AreInOrder, Precedes}
use Rattle.ux_dawg.proofs.PathLemmas.{behind as later, in_front, of_cons}
use Rattle.ux_image.proofs.RenumberLemmas.{Contains-map, Contains-unmap}
use Rattle.ux_image_lists.specs.Sizes.{forms_of}

-- the form is a path of the state
abbrev IsFormFrom : List State → State → Form → Type 0
IsFormFrom states s form = Right states s form.letters form.code

ending_right : (states : List State) (s : State) (code : Option ℕ) → s.code ≡ code →
    All (IsFormFrom states s) (ending code)
ending_right states s None is = All-nil (IsFormFrom states s)
ending_right states s (Some c) is =
    All-cons (IsFormFrom states s) (form_of [] c) [] is (All-nil (IsFormFrom states s))

module _ (states : List State) (fit : AreStates states) where
  abbrev at : ℕ → State
  at t = get_or states t bare

  abbrev forms_behind : ℕ → Edge → List Form
  forms_behind n e = map (behind e.letter) (forms_from n states (at e.target))

  edges_right : (n i : ℕ) → i < length states →
      ((t : ℕ) → t < i → All (IsFormFrom states (at t)) (forms_from n states (at t))) → (s : State) →
      (edges : List Edge) → ((e : Edge) → Contains edges e → Contains s.edges e) →
      ((e : Edge) → Contains edges e → e.target < i) →
      All (IsFormFrom states s) (flat_map (forms_behind n) edges)
  edges_right n i inside each s [] has within = All-nil (IsFormFrom states s)
  edges_right n i inside each s (e ∷ edges) has within =
      let low = within e (in_front e edges) in
      let there = forms_from n states (at e.target) in
      let stands = slice_get-get_or states e.target bare (omega (arith, low, inside)) in
      All-append (IsFormFrom states s) (forms_behind n e) (flat_map (forms_behind n) edges)
      (All-map (IsFormFrom states s) (behind e.letter) there (λ k d less.
      (e.target, at e.target, has e (in_front e edges), stands, each e.target low k d less)))
      (edges_right n i inside each s edges (λ d there. has d (later e edges d there))
      (λ d there. within d (later e edges d there)))

  forms_right : (n i : ℕ) → i < length states →
      All (IsFormFrom states (at i)) (forms_from n states (at i))
  forms_right zero i inside = ending_right states (at i) (at i).code refl
  forms_right (suc n) i inside =
      All-append (IsFormFrom states (at i)) (ending (at i).code)
      (flat_map (forms_behind n) (at i).edges) (ending_right states (at i) (at i).code refl)
      (edges_right n i inside (λ t less. forms_right n t (omega (arith, less, inside))) (at i)
      (at i).edges (λ e has. has)
      (fit i (at i) (slice_get-get_or states i bare inside)).within)

  -- each form is accepted
  pub forms_accepted : 0 < length states →
      All (λ (f : Form). Accepts states f.letters f.code) (forms_of states)
  forms_accepted some =
      let root = length states - 1 in
      let inside : root < length states = omega (arith, some) in
      λ k d less. (
        root,
        omega (arith, some),
        (
          at root,
          slice_get-get_or states root bare inside,
          forms_right (length states) root inside k d less,
        ),
      )

-- IN ORDER

none_in : {X : Type 0} (x : X) → Contains [] x → ⊥
none_in x has = let low = has.1 in omega (arith, low)

-- what stands in a part stands in the whole
in_flat : (f : Edge → List Form) (edges : List Edge) (e : Edge) (g : Form) → Contains edges e →
    Contains (f e) g → Contains (flat_map f edges) g
in_flat f [] e g has there = absurd (none_in e has)
in_flat f (d ∷ edges) e g has there = elim (of_cons d edges e has) [
  | inl same ↦ Contains-append_left (f d) (flat_map f edges) g
      (subst (λ (x : Edge). Contains (f x) g) (sym same) there)
  | inr more ↦ Contains-append_right (f d) (flat_map f edges) g (in_flat f edges e g more there)
]

-- a form behind an edge begins with its letter
begins_with : (f : Edge → List Form) (edges : List Edge) (g : Form) →
    Contains (flat_map (λ (e : Edge). map (behind e.letter) (f e)) edges) g →
    (e : Edge) × Contains edges e × ((u : List ℕ) × (g.letters ≡ e.letter ∷ u))
begins_with f [] g has = absurd (none_in g has)
begins_with f (d ∷ edges) g has =
    elim (Contains-append_cases (map (behind d.letter) (f d))
    (flat_map (λ (e : Edge). map (behind e.letter) (f e)) edges) g has) [
      | inl here ↦
          let old = Contains-unmap (behind d.letter) (f d) g here in
          (d, in_front d edges, ((old.0).letters, sym (ap (λ (x : Form). x.letters) old.2)))
      | inr there ↦
          let more = begins_with f edges g there in
          (more.0, later d edges more.0 more.1, more.2)
    ]

behind_order : (a : ℕ) (fs : List Form) → AreInOrder fs → AreInOrder (map (behind a) fs)
behind_order a [] order = tt
behind_order a (f ∷ fs) order = (
  λ g has.
      let old = Contains-unmap (behind a) fs g has in
      subst (Precedes (behind a f)) old.2
      (slice_cmp-cons a f.letters (old.0).letters ∙ order.0 old.0 old.1),
  behind_order a fs order.1,
)

ending_order : (code : Option ℕ) → AreInOrder (ending code)
ending_order None = tt
ending_order (Some c) = (λ g has. absurd (none_in g has), tt)

-- nothing but no letter ends a state
ending_empty : (code : Option ℕ) (g : Form) → Contains (ending code) g → g.letters ≡ []
ending_empty None g has = absurd (none_in g has)
ending_empty (Some c) g has = elim (of_cons (form_of [] c) [] g has) [
  | inl same ↦ sym (ap (λ (x : Form). x.letters) same)
  | inr none ↦ absurd (none_in g none)
]

ending_has : (code : Option ℕ) (c : ℕ) → code ≡ Some c → Contains (ending code) (form_of [] c)
ending_has code c is =
    subst (λ (o : Option ℕ). Contains (ending o) (form_of [] c)) (sym is)
    (in_front (form_of [] c) [])

module _ (states : List State) (fit : AreStates states) where
  abbrev there_at : ℕ → State
  there_at t = get_or states t bare

  abbrev listed_behind : ℕ → Edge → List Form
  listed_behind n e = map (behind e.letter) (forms_from n states (there_at e.target))

  edges_order : (n i : ℕ) → ((t : ℕ) → t < i → AreInOrder (forms_from n states (there_at t))) →
      (edges : List Edge) → AreAscending edges →
      ((e : Edge) → Contains edges e → e.target < i) →
      AreInOrder (flat_map (listed_behind n) edges)
  edges_order n i each [] up within = tt
  edges_order n i each (e ∷ edges) up within =
      in_order-append (listed_behind n e) (flat_map (listed_behind n) edges)
      (behind_order e.letter (forms_from n states (there_at e.target))
      (each e.target (within e (in_front e edges))))
      (edges_order n i each edges up.1 (λ d has. within d (later e edges d has)))
      (λ f g has more.
      let old = Contains-unmap (behind e.letter) (forms_from n states (there_at e.target)) f has in
      let next = begins_with (λ d. forms_from n states (there_at d.target)) edges g more in
      subst (λ (x : Form). slice_cmp nat_cmp x.letters g.letters ≡ Less) old.2
      (subst (λ (l : List ℕ). slice_cmp nat_cmp (e.letter ∷ (old.0).letters) l ≡ Less)
      (sym next.2.1)
      (lower_before e.letter (next.0).letter (old.0).letters next.2.0 (up.0 next.0 next.1))))

  pub forms_order : (n i : ℕ) → i < length states → AreInOrder (forms_from n states (there_at i))
  forms_order zero i inside = ending_order (there_at i).code
  forms_order (suc n) i inside =
      let is = fit i (there_at i) (slice_get-get_or states i bare inside) in
      in_order-append (ending (there_at i).code) (flat_map (listed_behind n) (there_at i).edges)
      (ending_order (there_at i).code)
      (edges_order n i (λ t less. forms_order n t (omega (arith, less, inside))) (there_at i).edges
      is.ascending is.within)
      (λ f g has more.
      let next = begins_with (λ d. forms_from n states (there_at d.target)) (there_at i).edges g
      more in
      subst (λ (l : List ℕ). slice_cmp nat_cmp l g.letters ≡ Less)
      (sym (ending_empty (there_at i).code f has))
      (subst (λ (l : List ℕ). slice_cmp nat_cmp [] l ≡ Less) (sym next.2.1) refl))

  -- what leads to an end is listed
  listed : (n i : ℕ) → i ≤ n → i < length states → (w : List ℕ) (c : ℕ) →
      Right states (there_at i) w c → Contains (forms_from n states (there_at i)) (form_of w c)
  listed zero i low inside [] c is = ending_has (there_at i).code c is
  listed (suc n) i low inside [] c is =
      Contains-append_left (ending (there_at i).code)
      (flat_map (listed_behind n) (there_at i).edges) (form_of [] c)
      (ending_has (there_at i).code c is)
  listed zero i low inside (a ∷ w) c h =
      let under = (fit i (there_at i) (slice_get-get_or states i bare inside)).within (edge a h.0)
      h.2 in
      absurd (omega (arith, under, low))
  listed (suc n) i low inside (a ∷ w) c h =
      let under = (fit i (there_at i) (slice_get-get_or states i bare inside)).within (edge a h.0)
      h.2 in
      let next : h.1 ≡ there_at h.0 = sym (get_or_from_slice_get states h.0 h.1 bare h.3) in
      let more = listed n h.0 (omega (arith, under, low)) (omega (arith, under, inside)) w c
      (subst (λ (s : State). Right states s w c) next h.4) in
      Contains-append_right (ending (there_at i).code)
      (flat_map (listed_behind n) (there_at i).edges) (form_of (a ∷ w) c)
      (in_flat (listed_behind n) (there_at i).edges (edge a h.0) (form_of (a ∷ w) c) h.2
      (Contains-map (behind a) (forms_from n states (there_at h.0)) (form_of w c) more))

-- so these are the forms of the automaton
pub forms_same : (forms : List Form) (states : List State) (root : ℕ) →
    IsAutomaton forms states root → AreInOrder forms → forms_of states ≡ forms
forms_same forms states root is order =
    let last = is.last in
    let inside : root < length states = omega (arith, last) in
    let root_is : length states - 1 ≡ root = omega (arith, last) in
    let in_order = subst (λ r. AreInOrder (forms_from (length states) states (get_or states r bare)))
    (sym root_is) (forms_order states is.fit (length states) root inside) in
    let accepted = forms_accepted states is.fit (omega (arith, last)) in
    one_order (forms_of states) forms in_order order (λ h. (
      λ has.
          let path = All-contains (λ (f : Form). Accepts states f.letters f.code) (forms_of states) h
          accepted has in
          let where_root = path.1 in
          let same : path.0 ≡ root = omega (arith, where_root, last) in
          (is.exact h.letters h.code).0
          (subst (λ r. IsPath states r h.letters h.code) same path.2),
      λ has.
          let path = (is.exact h.letters h.code).1 has in
          let state : path.0 ≡ get_or states root bare =
          sym (get_or_from_slice_get states root path.0 bare path.1) in
          subst (λ r. Contains (forms_from (length states) states (get_or states r bare)) h)
          (sym root_is)
          (listed states is.fit (length states) root (omega (arith, last)) inside h.letters h.code
          (subst (λ (s : State). Right states s h.letters h.code) state path.2)),
    ))
