-- Renumbered states are the minimal automaton of the renumbered forms.
use Rattle.std.proofs.Common.{arith, ◌≡◌, ℕ, suc, ◌+◌, List, [], ◌∷◌, inl, inr, Bool, true, false, not, cond, refl, sym, ◌∙◌, ap, subst, length, map, nat_eq}
use Rattle.std.specs.Prelude.{Contains, Option, None, Some, option_map, slice_get}
use Rattle.std.specs.List.{cons_option, position_or_len}
use Rattle.std.proofs.lemmas.Bool.Decides.{Decides-eqb}
use Rattle.std.proofs.lemmas.List.{length-map}
use Rattle.std.proofs.lemmas.Option.{none-some, same_Some, slice_get-map, slice_get_within}
use Rattle.ux_base.specs.Distinct.{AreFirsts}
use Rattle.ux_base.proofs.FirstsLemmas.{Contains-first, Contains-after, Contains-cases, Contains-none, Contains-from_place}
use Rattle.ux_dawg.specs.Automaton.{IsAutomaton}
use Rattle.ux_dawg.specs.Paths.{edge, Right, IsPath, Leads, IsFit}
use Rattle.ux_dawg.specs.declared.state.Form.{Form}
use Rattle.ux_dawg.specs.declared.state.State.{State}
use Rattle.ux_image.specs.Images.{numbers_in, renumbered}

-- the place of a number in an order that has it
abbrev pub place_of : List ℕ → ℕ → ℕ
place_of order number = position_or_len (nat_eq number) order

pub place_holds : (order : List ℕ) (number : ℕ) → Contains order number →
    slice_get order (place_of order number) ≡ Some number
place_holds [] number has = absurd (Contains-none number has)
place_holds (n ∷ order) number has = by (nat_eq number n) refl (place_holds order number)
  where
    by : (b : Bool) → nat_eq number n ≡ b →
        (Contains order number → slice_get order (place_of order number) ≡ Some number) →
        slice_get (n ∷ order) (cond (not (nat_eq number n)) (1 + place_of order number) 0)
        ≡ Some number
    by true e later =
        ap (λ b. slice_get (n ∷ order) (cond (not b) (1 + place_of order number) 0)) e
        ∙ ap Some (sym ((Decides-eqb number n).0 e))
    by false e later =
        let more : cond (not (nat_eq number n)) (1 + place_of order number) 0
        ≡ suc (place_of order number) =
        ap (λ b. cond (not b) (1 + place_of order number) 0) e ∙ omega arith in
        ap (slice_get (n ∷ order)) more ∙ elim (Contains-cases n number order has) [
          | inl same ↦
              let yes : nat_eq number n ≡ true = (Decides-eqb number n).1 (sym same) in
              let no : false ≡ true = sym e ∙ yes in
              cc
          | inr there ↦ later there
        ]

-- so two numbers of one place are one
pub place_decides : (order : List ℕ) (a b : ℕ) → Contains order a → Contains order b →
    place_of order a ≡ place_of order b → a ≡ b
place_decides order a b has_a has_b same =
    same_Some a b (sym (place_holds order a has_a) ∙ ap (slice_get order) same
    ∙ place_holds order b has_b)

-- what a list contains, mapped
pub Contains-map : {X Y : Type 0} (f : X → Y) (xs : List X) (x : X) → Contains xs x →
    Contains (map f xs) (f x)
Contains-map f [] x has = absurd (Contains-none x has)
Contains-map f (y ∷ xs) x has = elim (Contains-cases y x xs has) [
  | inl same ↦ subst (λ z. Contains (map f (y ∷ xs)) (f z)) same (Contains-first (f y) (map f xs))
  | inr there ↦ Contains-after (f y) (f x) (map f xs) (Contains-map f xs x there)
]

pub Contains-unmap : {X Y : Type 0} (f : X → Y) (xs : List X) (y : Y) → Contains (map f xs) y →
    (x : X) × Contains xs x × (f x ≡ y)
Contains-unmap f [] y has = absurd (Contains-none y has)
Contains-unmap f (x ∷ xs) y has = elim (Contains-cases (f x) y (map f xs) has) [
  | inl same ↦ (x, Contains-first x xs, same)
  | inr there ↦
      let p = Contains-unmap f xs y there in
      (p.0, Contains-after x p.0 xs p.1, p.2)
]

-- the numbers of the states are those that final states have
pub number_there : (states : List State) (state : State) (c : ℕ) → Contains states state →
    state.code ≡ Some c → Contains (numbers_in states) c
number_there [] state c has is = absurd (Contains-none state has)
number_there (s ∷ states) state c has is = elim (Contains-cases s state states has) [
  | inl same ↦
      let here : s.code ≡ Some c = ap (λ (x : State). x.code) same ∙ is in
      subst (λ o. Contains (cons_option o (numbers_in states)) c) (sym here)
      (Contains-first c (numbers_in states))
  | inr there ↦ behind s.code (number_there states state c there is)
]
  where
    behind : (o : Option ℕ) → Contains (numbers_in states) c →
        Contains (cons_option o (numbers_in states)) c
    behind None h = h
    behind (Some n) h = Contains-after n c (numbers_in states) h

pub number_from : (states : List State) (c : ℕ) → Contains (numbers_in states) c →
    (i : ℕ) × (state : State) × (slice_get states i ≡ Some state) × (state.code ≡ Some c)
number_from [] c has = absurd (Contains-none c has)
number_from (s ∷ states) c has = by s.code refl (number_from states c)
  where
    by : (o : Option ℕ) → s.code ≡ o → (Contains (numbers_in states) c →
        (i : ℕ) × (state : State) × (slice_get states i ≡ Some state) × (state.code ≡ Some c)) →
        (i : ℕ) × (state : State) × (slice_get (s ∷ states) i ≡ Some state)
        × (state.code ≡ Some c)
    by None e rest =
        let p = rest (subst (λ o. Contains (cons_option o (numbers_in states)) c) e has) in
        (suc p.0, p.1, p.2, p.3)
    by (Some n) e rest =
        elim (Contains-cases n c (numbers_in states)
        (subst (λ o. Contains (cons_option o (numbers_in states)) c) e has)) [
          | inl same ↦ (0, s, refl, e ∙ ap Some same)
          | inr there ↦ let p = rest there in (suc p.0, p.1, p.2, p.3)
        ]

module _ (states : List State) (order : List ℕ) (firsts : AreFirsts (numbers_in states) order) where
  new_state : State → State
  new_state = renumbered order

  new_states : List State
  new_states = map (renumbered order) states

  to_at : (i : ℕ) (s : State) → slice_get states i ≡ Some s →
      slice_get (map (renumbered order) states) i ≡ Some (renumbered order s)
  to_at i s at = slice_get-map (renumbered order) states i ∙ ap (option_map (renumbered order)) at

  from_at : (i : ℕ) (t : State) → slice_get (map (renumbered order) states) i ≡ Some t →
      (s : State) × (slice_get states i ≡ Some s) × (renumbered order s ≡ t)
  from_at i t at = by (slice_get states i) refl
    where
      by : (o : Option State) → slice_get states i ≡ o →
          (s : State) × (slice_get states i ≡ Some s) × (renumbered order s ≡ t)
      by None e =
          absurd (none-some t (sym (ap (option_map (renumbered order)) e)
          ∙ sym (slice_get-map (renumbered order) states i) ∙ at))
      by (Some s) e = (
        s,
        e,
        same_Some (renumbered order s) t (sym (ap (option_map (renumbered order)) e)
            ∙ sym (slice_get-map (renumbered order) states i) ∙ at),
      )

  -- the same words lead on, to the places of the numbers
  right_to : (s : State) (w : List ℕ) (c : ℕ) → Right states s w c →
      Right (map (renumbered order) states) (renumbered order s) w (place_of order c)
  right_to s [] c is = ap (option_map (place_of order)) is
  right_to s (a ∷ w) c (t, next, has, at, rest) =
      (t, renumbered order next, has, to_at t next at, right_to next w c rest)

  right_from : (s : State) (w : List ℕ) (d : ℕ) →
      Right (map (renumbered order) states) (renumbered order s) w d →
      (c : ℕ) × Right states s w c × (place_of order c ≡ d)
  right_from s [] d is = by s.code refl
    where
      by : (o : Option ℕ) → s.code ≡ o → (c : ℕ) × (s.code ≡ Some c) × (place_of order c ≡ d)
      by None e = absurd (none-some d (sym (ap (option_map (place_of order)) e) ∙ is))
      by (Some c) e =
          (c, e, same_Some (place_of order c) d (sym (ap (option_map (place_of order)) e) ∙ is))
  right_from s (a ∷ w) d (t, next, has, at, rest) =
      let old = from_at t next at in
      let later = right_from old.0 w d
      (subst (λ (n : State). Right (map (renumbered order) states) n w d) (sym old.2) rest) in
      (later.0, (t, old.0, has, old.1, later.1), later.2)

  path_to : (i : ℕ) (w : List ℕ) (c : ℕ) → IsPath states i w c →
      IsPath (map (renumbered order) states) i w (place_of order c)
  path_to i w c (s, at, rest) = (renumbered order s, to_at i s at, right_to s w c rest)

  path_from : (i : ℕ) (w : List ℕ) (d : ℕ) → IsPath (map (renumbered order) states) i w d →
      (c : ℕ) × IsPath states i w c × (place_of order c ≡ d)
  path_from i w d (t, at, rest) =
      let old = from_at i t at in
      let later = right_from old.0 w d
      (subst (λ (n : State). Right (map (renumbered order) states) n w d) (sym old.2) rest) in
      (later.0, (old.0, old.1, later.1), later.2)

  leads_to : (u : List ℕ) (i j : ℕ) → Leads states i u j →
      Leads (map (renumbered order) states) i u j
  leads_to [] i j same = same
  leads_to (a ∷ u) i j (t, s, at, has, rest) =
      (t, renumbered order s, to_at i s at, has, leads_to u t j rest)

  leads_from : (u : List ℕ) (i j : ℕ) → Leads (map (renumbered order) states) i u j →
      Leads states i u j
  leads_from [] i j same = same
  leads_from (a ∷ u) i j (t, s, at, has, rest) =
      let old = from_at i s at in (
        t,
        old.0,
        old.1,
        subst (λ (x : State). Contains x.edges (edge a t)) (sym old.2) has,
        leads_from u t j rest,
      )

  -- a number in which a path ends is in the order
  right_used : (i : ℕ) (s : State) (w : List ℕ) (c : ℕ) → slice_get states i ≡ Some s →
      Right states s w c → Contains order c
  right_used i s [] c at is =
      (firsts.same c).1 (number_there states s c (Contains-from_place states i s at) is)
  right_used i s (a ∷ w) c at (t, next, has, there, rest) = right_used t next w c there rest

  pub path_used : (i : ℕ) (w : List ℕ) (c : ℕ) → IsPath states i w c → Contains order c
  path_used i w c (s, at, rest) = right_used i s w c at rest

  -- so states are as distinct as before
  same_paths : (i j : ℕ) → ((w : List ℕ) (d : ℕ) → IsPath (map (renumbered order) states) i w d
      → IsPath (map (renumbered order) states) j w d) → (w : List ℕ) (c : ℕ) → IsPath states i w c →
      IsPath states j w c
  same_paths i j into w c path =
      let other = path_from j w (place_of order c)
      (into w (place_of order c) (path_to i w c path)) in
      subst (IsPath states j w) (place_decides order other.0 c (path_used j w other.0 other.1)
      (path_used i w c path) other.2) other.1

  abbrev pub new_form : Form → Form
  new_form form = record { letters = form.letters; code = place_of order form.code }

  module _ (forms : List Form) (root : ℕ) (is : IsAutomaton forms states root) where
    many : length (map (renumbered order) states) ≡ length states
    many = length-map states (renumbered order)

    exact_to : (w : List ℕ) (d : ℕ) → IsPath (map (renumbered order) states) root w d →
        Contains (map new_form forms) (record { letters = w; code = d })
    exact_to w d path =
        let old = path_from root w d path in
        subst (λ n. Contains (map new_form forms) (record { letters = w; code = n })) old.2
        (Contains-map new_form forms (record { letters = w; code = old.0 })
        ((is.exact w old.0).0 old.1))

    exact_from : (w : List ℕ) (d : ℕ) →
        Contains (map new_form forms) (record { letters = w; code = d }) →
        IsPath (map (renumbered order) states) root w d
    exact_from w d has =
        let old = Contains-unmap new_form forms (record { letters = w; code = d }) has in
        let path = path_to root (old.0).letters (old.0).code
        ((is.exact (old.0).letters (old.0).code).1 old.1) in
        subst (λ (f : Form). IsPath (map (renumbered order) states) root f.letters f.code) old.2
        path

    pub renumbered_is : IsAutomaton (map new_form forms) (map (renumbered order) states) root
    renumbered_is = record {
      exact = λ w d. (exact_to w d, exact_from w d);
      minimal = record {
        reached = λ i low.
            let p = is.minimal.reached i (omega (arith, low, many)) in
            (p.0, leads_to p.0 root i p.1);
        apart = λ i j low low' both.
            is.minimal.apart i j (omega (arith, low, many)) (omega (arith, low', many)) (λ w c. (
              same_paths i j (λ v d. (both v d).0) w c,
              same_paths j i (λ v d. (both v d).1) w c,
            ));
      };
      numbered = record {
        firsts = is.numbered.firsts;
        many = is.numbered.many ∙ sym many;
        leads = λ i u at. leads_to u root i (is.numbered.leads i u at);
        least = λ i u v at leads. is.numbered.least i u v at (leads_from v root i leads);
        order = is.numbered.order;
      };
      paths = λ some i low.
          let p = is.paths (omega (arith, some, length-map forms new_form)) i
          (omega (arith, low, many)) in
          (p.0, place_of order p.1, path_to i p.0 p.1 p.2);
      fit = λ i t at.
          let old = from_at i t at in
          let fit = is.fit i old.0 old.1 in
          subst (IsFit i) old.2 (record { ascending = fit.ascending; within = fit.within });
      last = many ∙ is.last;
    }

    -- each number of the order is a form's
    joined : (u : List ℕ) (r i : ℕ) (s : State) (c : ℕ) → Leads states r u i →
        slice_get states i ≡ Some s → s.code ≡ Some c → IsPath states r u c
    joined [] r i s c same at final =
        (s, ap (slice_get states) same ∙ at, final)
    joined (a ∷ u) r i s c (t, x, here, has, rest) at final =
        let later = joined u t i s c rest at final in
        (x, here, (t, later.0, has, later.1, later.2))

    pub number_of_form : (c : ℕ) → Contains order c →
        (w : List ℕ) × Contains forms (record { letters = w; code = c })
    number_of_form c has =
        let final = number_from states c ((firsts.same c).0 has) in
        let way = is.minimal.reached final.0 (slice_get_within states final.0 final.1 final.2) in (
          way.0,
          (is.exact way.0 c).0
              (joined way.0 root final.0 final.1 c way.1 final.2 final.3),
        )
