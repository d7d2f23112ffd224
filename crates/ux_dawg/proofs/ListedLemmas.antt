-- The list of the forms that states hold has exactly these, in order.
use Rattle.std.proofs.Common.{arith, ◌≡◌, ℕ, zero, suc, ◌≤◌, ◌⊎◌, ◌↔◌, ◌∙◌, List, [], ◌∷◌, inl, inr, refl, sym, ap, subst, length, get_or}
use Rattle.std.specs.Prelude.{Option, Some, None, slice_get, Contains, flat_map, map, unwrap_or}
use Rattle.std.specs.Cmp.Lexicographic.{slice_cmp}
use Rattle.std.specs.Ordering.{nat_cmp}
use Rattle.std.specs.declared.cmp.Ordering.TheVariants.{Less}
use Rattle.std.proofs.lemmas.Option.{none-some, get_or_from_slice_get, unwrap_or-slice_get}
use Rattle.std.proofs.lemmas.List.Elements.{Contains-append_left, Contains-append_right, Contains-append_cases}
use Rattle.ux_dawg.specs.declared.state.State.{State}
use Rattle.ux_dawg.specs.declared.state.Edge.{Edge}
use Rattle.ux_dawg.specs.declared.state.Form.{Form}
use Rattle.ux_dawg.specs.declared.pending.Frame.{Frame}
use Rattle.ux_dawg.specs.Forms.{form_of}
use Rattle.ux_dawg.specs.Paths.{edge, Right, AreAscending, IsFit}
use Rattle.ux_dawg.specs.Building.{Held, bare, IsOpen, IsSound}
use Rattle.ux_dawg.specs.Listed.{ending, behind, forms_from, forms_through, forms_held}
use Rattle.ux_dawg.proofs.PathLemmas.{got, of_cons, in_front, behind as later, is_some_of}
use Rattle.ux_dawg.proofs.FormsLemmas.{AreInOrder, in_order-append, slice_cmp-cons, lower_before}

nothing_in : {X : Type 0} (x : X) → Contains [] x → ⊥
nothing_in x has = none-some x (is_some_of [] x has).1

-- the form without letters, where the state has a code
ending_is : (o : Option ℕ) (w : List ℕ) (c : ℕ) → Contains (ending o) (form_of w c) →
    (w ≡ []) × (o ≡ Some c)
ending_is None w c has = absurd (nothing_in (form_of w c) has)
ending_is (Some d) w c has = elim (of_cons (form_of [] d) [] (form_of w c) has) [
  | inl same ↦ (sym (ap (λ (f : Form). f.letters) same), ap (λ (f : Form). Some f.code) same)
  | inr none ↦ absurd (nothing_in (form_of w c) none)
]

ending_has : (o : Option ℕ) (c : ℕ) → o ≡ Some c → Contains (ending o) (form_of [] c)
ending_has o c is =
    subst (λ (p : Option ℕ). Contains (ending p) (form_of [] c)) (sym is)
    (in_front (form_of [] c) [])

-- the forms with one more letter in front
behind_is : (a : ℕ) (fs : List Form) (w : List ℕ) (c : ℕ) →
    Contains (map (behind a) fs) (form_of w c) →
    (u : List ℕ) × (w ≡ a ∷ u) × Contains fs (form_of u c)
behind_is a [] w c has = absurd (nothing_in (form_of w c) has)
behind_is a (f ∷ fs) w c has = elim (of_cons (behind a f) (map (behind a) fs) (form_of w c) has) [
  | inl same ↦ (
    f.letters,
    sym (ap (λ (g : Form). g.letters) same),
    subst (λ d. Contains (f ∷ fs) (form_of f.letters d)) (ap (λ (g : Form). g.code) same)
        (in_front f fs),
  )
  | inr more ↦ let r = behind_is a fs w c more in (r.0, r.1, later f fs (form_of r.0 c) r.2)
]

behind_has : (a : ℕ) (fs : List Form) (u : List ℕ) (c : ℕ) → Contains fs (form_of u c) →
    Contains (map (behind a) fs) (form_of (a ∷ u) c)
behind_has a [] u c has = absurd (nothing_in (form_of u c) has)
behind_has a (f ∷ fs) u c has = elim (of_cons f fs (form_of u c) has) [
  | inl same ↦ subst (λ (g : Form). Contains (behind a f ∷ map (behind a) fs) (behind a g)) same
      (in_front (behind a f) (map (behind a) fs))
  | inr more ↦ later (behind a f) (map (behind a) fs) (form_of (a ∷ u) c) (behind_has a fs u c more)
]

behind_in_order : (a : ℕ) (fs : List Form) → AreInOrder fs → AreInOrder (map (behind a) fs)
behind_in_order a [] order = tt
behind_in_order a (f ∷ fs) order = (
  λ g has.
      let r = behind_is a fs g.letters g.code has in
      subst (λ l. slice_cmp nat_cmp (a ∷ f.letters) l ≡ Less) (sym r.1)
      (slice_cmp-cons a f.letters r.0 ∙ order.0 (form_of r.0 g.code) r.2),
  behind_in_order a fs order.1,
)

ending_in_order : (o : Option ℕ) → AreInOrder (ending o)
ending_in_order None = tt
ending_in_order (Some c) = (λ g has. absurd (nothing_in g has), tt)

module _ (states : List State) where
  -- the forms that begin in the state of this number
  abbrev forms_at : ℕ → ℕ → List Form
  forms_at n t = forms_from n states (get_or states t bare)

  -- the forms that begin with a step
  abbrev branches : ℕ → List Edge → List Form
  branches n es = flat_map (λ (e : Edge). map (behind e.letter) (forms_at n e.target)) es

  -- a form that begins with a step
  record IsBranch (n : ℕ) (es : List Edge) (w : List ℕ) (c : ℕ) : Type 0 where
    letter : ℕ
    target : ℕ
    rest : List ℕ
    is : w ≡ letter ∷ rest
    stands : Contains es (edge letter target)
    goes_on : Contains (forms_at n target) (form_of rest c)

  branches_is : (n : ℕ) (es : List Edge) (w : List ℕ) (c : ℕ) →
      Contains (branches n es) (form_of w c) → IsBranch n es w c
  branches_is n [] w c has = absurd (nothing_in (form_of w c) has)
  branches_is n (e ∷ es) w c has =
      let here = map (behind e.letter) (forms_at n e.target) in
      elim (Contains-append_cases here (branches n es) (form_of w c) has) [
        | inl first ↦
            let r = behind_is e.letter (forms_at n e.target) w c first in
            record {
              letter = e.letter;
              target = e.target;
              rest = r.0;
              is = r.1;
              stands = in_front e es;
              goes_on = r.2;
            }
        | inr more ↦
            let r = branches_is n es w c more in
            record {
              letter = r.letter;
              target = r.target;
              rest = r.rest;
              is = r.is;
              stands = later e es (edge r.letter r.target) r.stands;
              goes_on = r.goes_on;
            }
      ]

  branches_has : (n : ℕ) (es : List Edge) (a t : ℕ) (u : List ℕ) (c : ℕ) →
      Contains es (edge a t) → Contains (forms_at n t) (form_of u c) →
      Contains (branches n es) (form_of (a ∷ u) c)
  branches_has n [] a t u c has there = absurd (nothing_in (edge a t) has)
  branches_has n (e ∷ es) a t u c has there =
      let here = map (behind e.letter) (forms_at n e.target) in
      elim (of_cons e es (edge a t) has) [
        | inl same ↦ Contains-append_left here (branches n es) (form_of (a ∷ u) c)
            (subst (λ (d : Edge). Contains (map (behind d.letter) (forms_at n d.target))
            (form_of (a ∷ u) c))
            (sym same) (behind_has a (forms_at n t) u c there))
        | inr more ↦ Contains-append_right here (branches n es) (form_of (a ∷ u) c)
            (branches_has n es a t u c more there)
      ]

  -- a form begins with a letter of a step, or has none
  first_letter : (n : ℕ) (s : State) (w : List ℕ) (c : ℕ) →
      Contains (forms_from n states s) (form_of w c) →
      (w ≡ []) ⊎ ((a t : ℕ) × (u : List ℕ) × (w ≡ a ∷ u) × Contains s.edges (edge a t))
  first_letter zero s w c has = inl (ending_is s.code w c has).0
  first_letter (suc n) s w c has =
      elim (Contains-append_cases (ending s.code) (branches n s.edges) (form_of w c) has) [
        | inl here ↦ inl (ending_is s.code w c here).0
        | inr more ↦
            let r = branches_is n s.edges w c more in
            inr (r.letter, r.target, r.rest, r.is, r.stands)
      ]

  module _ (fit : (i : ℕ) (s : State) → slice_get states i ≡ Some s → IsFit i s) where
    -- the forms from a state are those to which its words lead
    listed : (n m : ℕ) → m ≤ n → m ≤ length states → (s : State) → IsFit m s →
        (w : List ℕ) (c : ℕ) → Contains (forms_from n states s) (form_of w c) ↔ Right states s w c
    listed zero m low inside s fits [] c =
        (λ has. (ending_is s.code [] c has).1, ending_has s.code c)
    listed zero m low inside s fits (a ∷ w) c = (
      λ has. absurd (let e = (ending_is s.code (a ∷ w) c has).0 in cc),
      λ h. absurd (let l = fits.within (edge a h.0) h.2 in omega (arith, l, low)),
    )
    listed (suc n) m low inside s fits [] c = (
      λ has. elim (Contains-append_cases (ending s.code) (branches n s.edges) (form_of [] c) has) [
        | inl here ↦ (ending_is s.code [] c here).1
        | inr more ↦ absurd (let e = (branches_is n s.edges [] c more).is in cc)
      ],
      λ h. Contains-append_left (ending s.code) (branches n s.edges) (form_of [] c)
          (ending_has s.code c h),
    )
    listed (suc n) m low inside s fits (a ∷ w) c =
        let form = form_of (a ∷ w) c in (
          λ has. elim (Contains-append_cases (ending s.code) (branches n s.edges) form has) [
            | inl here ↦ absurd (let e = (ending_is s.code (a ∷ w) c here).0 in cc)
            | inr more ↦
                let r = branches_is n s.edges (a ∷ w) c more in
                let less = fits.within (edge r.letter r.target) r.stands in
                let next = got states r.target (omega (arith, less, inside)) in
                let first : r.letter ≡ a = let e = r.is in cc in
                let rest : r.rest ≡ w = let e = r.is in cc in
                let there : Contains (forms_from n states next.0) (form_of w c) =
                subst (λ (x : State). Contains (forms_from n states x) (form_of w c))
                (get_or_from_slice_get states r.target next.0 bare next.1)
                (subst (λ u. Contains (forms_at n r.target) (form_of u c)) rest r.goes_on) in (
                  r.target,
                  next.0,
                  subst (λ b. Contains s.edges (edge b r.target)) first r.stands,
                  next.1,
                  (listed n r.target (omega (arith, less, low)) (omega (arith, less, inside)) next.0
                      (fit r.target next.0 next.1) w c).0 there,
                )
          ],
          λ h.
              let less = fits.within (edge a h.0) h.2 in
              let is = get_or_from_slice_get states h.0 h.1 bare h.3 in
              Contains-append_right (ending s.code) (branches n s.edges) form
              (branches_has n s.edges a h.0 w c h.2
              (subst (λ (x : State). Contains (forms_from n states x) (form_of w c)) (sym is)
              ((listed n h.0 (omega (arith, less, low)) (omega (arith, less, inside)) h.1
              (fit h.0 h.1 h.3) w c).1 h.4))),
        )

    -- each state's steps ascend, also those of the one that stands for none
    ascending_at : (t : ℕ) → AreAscending (get_or states t bare).edges
    ascending_at t =
        subst (λ (x : State). AreAscending x.edges) (unwrap_or-slice_get states t bare)
        (by (slice_get states t) refl)
      where
        by : (o : Option State) → slice_get states t ≡ o → AreAscending (unwrap_or o bare).edges
        by None is = tt
        by (Some x) is = (fit t x is).ascending

    branches_in_order : (n : ℕ) →
        ((s : State) → AreAscending s.edges → AreInOrder (forms_from n states s)) →
        (es : List Edge) → AreAscending es → AreInOrder (branches n es)
    branches_in_order n each [] up = tt
    branches_in_order n each (e ∷ es) up =
        in_order-append (map (behind e.letter) (forms_at n e.target)) (branches n es)
        (behind_in_order e.letter (forms_at n e.target)
        (each (get_or states e.target bare) (ascending_at e.target)))
        (branches_in_order n each es up.1)
        (λ f g has there.
        let r = behind_is e.letter (forms_at n e.target) f.letters f.code has in
        let q = branches_is n es g.letters g.code there in
        subst (λ l. slice_cmp nat_cmp l g.letters ≡ Less) (sym r.1)
        (subst (λ l. slice_cmp nat_cmp (e.letter ∷ r.0) l ≡ Less) (sym q.is)
        (lower_before e.letter q.letter r.0 q.rest (up.0 (edge q.letter q.target) q.stands))))

    from_in_order : (n : ℕ) (s : State) → AreAscending s.edges → AreInOrder (forms_from n states s)
    from_in_order zero s up = ending_in_order s.code
    from_in_order (suc n) s up =
        in_order-append (ending s.code) (branches n s.edges) (ending_in_order s.code)
        (branches_in_order n (from_in_order n) s.edges up)
        (λ f g has there.
        let none = (ending_is s.code f.letters f.code has).0 in
        let q = branches_is n s.edges g.letters g.code there in
        subst (λ l. slice_cmp nat_cmp l g.letters ≡ Less) (sym none)
        (subst (λ l. slice_cmp nat_cmp [] l ≡ Less) (sym q.is) refl))

  module _ (above : List Frame) (top : State) (sound : IsSound states above top) where
    abbrev most : ℕ
    most = length states

    own : (s : State) → IsFit most s → (w : List ℕ) (c : ℕ) →
        Contains (forms_from most states s) (form_of w c) ↔ Right states s w c
    own s fits w c = listed sound.fit most most (omega arith) (omega arith) s fits w c

    abbrev deeper : List Frame → List Form
    deeper fs = forms_through most states fs top

    -- the same through the pending states
    through : (fs : List Frame) → ((f : Frame) → Contains fs f → IsOpen most f) →
        (w : List ℕ) (c : ℕ) → Contains (deeper fs) (form_of w c) ↔ Held states fs top w c
    through [] each w c = own top sound.top_fit w c
    through (f ∷ fs) each [] c =
        let form = form_of [] c in
        let here = own f.state (each f (in_front f fs)).fit [] c in
        let rest = map (behind f.letter) (deeper fs) in (
          λ has. elim (Contains-append_cases (forms_from most states f.state) rest form has) [
            | inl first ↦ here.0 first
            | inr more ↦ absurd (let e = (behind_is f.letter (deeper fs) [] c more).1 in cc)
          ],
          λ h. Contains-append_left (forms_from most states f.state) rest form (here.1 h),
        )
    through (f ∷ fs) each (a ∷ w) c =
        let form = form_of (a ∷ w) c in
        let here = own f.state (each f (in_front f fs)).fit (a ∷ w) c in
        let rest = map (behind f.letter) (deeper fs) in
        let on = through fs (λ g has. each g (later f fs g has)) w c in (
          λ has. elim (Contains-append_cases (forms_from most states f.state) rest form has) [
            | inl first ↦ inl (here.0 first)
            | inr more ↦
                let r = behind_is f.letter (deeper fs) (a ∷ w) c more in
                let first : f.letter ≡ a = let e = r.1 in cc in
                let same : r.0 ≡ w = let e = r.1 in cc in
                inr (first, on.0 (subst (λ u. Contains (deeper fs) (form_of u c)) same r.2))
          ],
          λ h. elim h [
            | inl first ↦
                Contains-append_left (forms_from most states f.state) rest form (here.1 first)
            | inr more ↦ Contains-append_right (forms_from most states f.state) rest form
                (subst (λ b. Contains rest (form_of (b ∷ w) c)) more.0
                (behind_has f.letter (deeper fs) w c (on.1 more.1)))
          ],
        )

    through_in_order : (fs : List Frame) → ((f : Frame) → Contains fs f → IsOpen most f) →
        AreInOrder (deeper fs)
    through_in_order [] each = from_in_order sound.fit most top sound.top_fit.ascending
    through_in_order (f ∷ fs) each =
        let here = each f (in_front f fs) in
        in_order-append (forms_from most states f.state) (map (behind f.letter) (deeper fs))
        (from_in_order sound.fit most f.state here.fit.ascending)
        (behind_in_order f.letter (deeper fs)
        (through_in_order fs (λ g has. each g (later f fs g has))))
        (λ x y has there.
        let r = behind_is f.letter (deeper fs) y.letters y.code there in
        subst (λ l. slice_cmp nat_cmp x.letters l ≡ Less) (sym r.1)
        (elim (first_letter most f.state x.letters x.code has) [
          | inl none ↦
              subst (λ l. slice_cmp nat_cmp l (f.letter ∷ r.0) ≡ Less) (sym none) refl
          | inr some ↦ subst (λ l. slice_cmp nat_cmp l (f.letter ∷ r.0) ≡ Less) (sym some.3)
              (lower_before some.0 f.letter some.2 r.0 (here.before (edge some.0 some.1) some.4))
        ]))

    -- the list has the forms that are held
    pub held_listed : (w : List ℕ) (c : ℕ) →
        Contains (forms_held states above top) (form_of w c) ↔ Held states above top w c
    unfolding forms_held
    held_listed w c = through above sound.frames w c

    -- each before all later ones
    pub held_in_order : AreInOrder (forms_held states above top)
    unfolding forms_held
    held_in_order = through_in_order above sound.frames
