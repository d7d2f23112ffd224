-- Letters that lead from one state to another, and the forms that go on from there.
use Rattle.std.proofs.Common.{◌≡◌, ◌↔◌, ℕ, suc, ◌-◌, ◌<◌, List, [], ◌∷◌, ◌++◌, length, map, get_or, refl, sym, ◌∙◌, ap, subst, inl, inr, arith, length-append}
use Rattle.std.specs.Prelude.{Contains, Option, None, Some}
use Rattle.std.specs.List.{AllZip}
use Rattle.std.proofs.lemmas.List.Elements.{AllZip-push, Contains-append_cases, Contains-append_left, Contains-append_right}
use Rattle.std.proofs.lemmas.Option.{get_or_from_slice_get, slice_get-get_or, slice_get_within}
use Rattle.ux_alphabet.specs.Letters.{Letters, Fits}
use Rattle.ux_dawg.specs.Building.{bare}
use Rattle.ux_dawg.specs.Forms.{form_of}
use Rattle.ux_dawg.specs.Listed.{behind, ending}
use Rattle.ux_dawg.specs.Paths.{edge as edge_to, IsAlive, IsStep, Leads, MakeAutomaton}
use Rattle.ux_dawg.specs.declared.state.Edge.{Edge}
use Rattle.ux_dawg.specs.declared.state.Form.{Form}
use Rattle.ux_dawg.specs.declared.state.State.{State}
use Rattle.ux_dict.proofs.FittingLemmas.{zip_apart}
use Rattle.ux_base.proofs.OrderedLists.{Contains-cons_cases, Contains-nil}
use Rattle.ux_image.proofs.RenumberLemmas.{Contains-map, Contains-unmap}
use Rattle.ux_image_lists.specs.Sizes.{forms_of}
use Rattle.ux_image_look_ups.specs.Steps.{GoesFrom}
use Rattle.ux_image_look_ups.specs.Ways.{branches, forms_at, HaveForms, IsReached, LeadsBy, MayBegin}
use Rattle.ux_image_look_ups.proofs.EndLemmas.{some_branch, root_some}
use Rattle.ux_image_look_ups.proofs.WayLemmas.{from_here}

module _ (states : List State) where
  abbrev at : ℕ → State
  at t = get_or states t bare

  -- letters lead on by one more
  leads_on : (u : List ℕ) (i j a t : ℕ) → Leads states i u j → IsStep states j a t →
      Leads states i (u ++ a ∷ []) t
  leads_on [] i j a t is (s, stands, has) =
      subst (λ k. Leads states k (a ∷ []) t) (sym is) (t, s, stands, has, refl)
  leads_on (b ∷ u) i j a t (k, s, stands, has, more) step =
      (k, s, stands, has, leads_on u k j a t more step)

  -- letters in two parts lead to a state between
  pub leads_apart : (u v : List ℕ) (i t : ℕ) → Leads states i (u ++ v) t →
      (j : ℕ) × Leads states i u j × Leads states j v t
  leads_apart [] v i t leads = (i, refl, leads)
  leads_apart (b ∷ u) v i t (k, s, stands, has, more) =
      let rest = leads_apart u v k t more in
      (rest.0, (k, s, stands, has, rest.1), rest.2)

  module _ (automaton : MakeAutomaton states) where
    -- where letters lead from a state, a state stands
    pub leads_within : (u : List ℕ) (i j : ℕ) → i < length states → Leads states i u j →
        j < length states
    leads_within [] i j less is = subst (λ k. k < length states) is less
    leads_within (a ∷ u) i j less (t, s, stands, has, more) =
        let low = (automaton.fit i s stands).within (edge_to a t) has in
        leads_within u t j (omega (arith, low, less)) more

    -- a form with an edge in front stands among those by the edges
    in_branches : (edges : List Edge) (e : Edge) (f : Form) → Contains edges e →
        Contains (forms_at states e.target) f → Contains (branches states edges) (behind e.letter f)
    in_branches [] e f has there = absurd (Contains-nil e has)
    in_branches (d ∷ edges) e f has there = elim (Contains-cons_cases d e edges has) [
      | inl same ↦
          subst (λ (x : Edge). Contains (map (behind d.letter) (forms_at states d.target)
          ++ branches states edges) (behind x.letter f)) same
          (Contains-append_left (map (behind d.letter) (forms_at states d.target))
          (branches states edges) (behind d.letter f)
          (Contains-map (behind d.letter) (forms_at states d.target) f
          (subst (λ (x : Edge). Contains (forms_at states x.target) f) (sym same) there)))
      | inr later ↦
          Contains-append_right (map (behind d.letter) (forms_at states d.target))
          (branches states edges) (behind e.letter f) (in_branches edges e f later there)
    ]

    -- and each of those has one in front
    from_branches : (edges : List Edge) (f : Form) → Contains (branches states edges) f →
        (e : Edge) × Contains edges e × ((g : Form) × Contains (forms_at states e.target) g
        × (behind e.letter g ≡ f))
    from_branches [] f has = absurd (Contains-nil f has)
    from_branches (d ∷ edges) f has =
        elim (Contains-append_cases (map (behind d.letter) (forms_at states d.target))
        (branches states edges) f has) [
          | inl here ↦
              let old = Contains-unmap (behind d.letter) (forms_at states d.target) f here in
              (d, (0, omega arith, refl), (old.0, old.1, old.2))
          | inr later ↦
              let more = from_branches edges f later in
              let k = more.1 in
              (more.0, (suc k.0, let less = k.1 in omega (arith, less), k.2), more.2)
        ]

    -- a form from where letters lead is a form from where they begin, with them in front
    pub forms_before : (u : List ℕ) (i j : ℕ) (f : Form) → i < length states →
        Leads states i u j → Contains (forms_at states j) f →
        Contains (forms_at states i) (form_of (u ++ f.letters) f.code)
    forms_before [] i j f less is has =
        subst (λ k. Contains (forms_at states k) f) (sym is) has
    forms_before (a ∷ u) i j f less (t, s, stands, edge, more) has =
        let low = (automaton.fit i s stands).within (edge_to a t) edge in
        let there = forms_before u t j f (omega (arith, low, less)) more has in
        let here = get_or_from_slice_get states i s bare stands in
        subst (λ (l : List Form). Contains l (form_of (a ∷ (u ++ f.letters)) f.code))
        (sym (from_here states automaton.fit i less))
        (Contains-append_right (ending (at i).code) (branches states (at i).edges) _
        (in_branches (at i).edges (edge_to a t) (form_of (u ++ f.letters) f.code)
        (subst (λ (x : State). Contains x.edges (edge_to a t)) (sym here) edge) there))

    -- the letters of a form in two parts lead to a state from which the second part is a form
    pub forms_behind : (u v : List ℕ) (i c : ℕ) → i < length states →
        Contains (forms_at states i) (form_of (u ++ v) c) →
        (j : ℕ) × Leads states i u j × Contains (forms_at states j) (form_of v c)
    forms_behind [] v i c less has = (i, refl, has)
    forms_behind (a ∷ u) v i c less has =
        elim (Contains-append_cases (ending (at i).code) (branches states (at i).edges) _
        (subst (λ (l : List Form). Contains l (form_of (a ∷ (u ++ v)) c))
        (from_here states automaton.fit i less) has)) [
          | inl here ↦ absurd (no_end (at i).code here)
          | inr later ↦
              let (e, has_edge, (g, there, same)) = from_branches (at i).edges _ later in
              let stands = slice_get-get_or states i bare less in
              let low = (automaton.fit i (at i) stands).within e has_edge in
              let letter : e.letter ≡ a = ap (λ (x : Form). get_or x.letters 0 0) same in
              let tail : g.letters ≡ u ++ v = ap (λ (x : Form). rest_of x.letters) same in
              let code : g.code ≡ c = ap (λ (x : Form). x.code) same in
              let is : g ≡ form_of (u ++ v) c =
              λ k. record { letters = tail k; code = code k } in
              let more = forms_behind u v e.target c (omega (arith, low, less))
              (subst (Contains (forms_at states e.target)) is there) in (
                more.0,
                (
                  e.target,
                  at i,
                  stands,
                  subst (λ k. Contains (at i).edges (edge_to k e.target)) letter has_edge,
                  more.1,
                ),
                more.2,
              )
        ]
      where
        rest_of : List ℕ → List ℕ
        rest_of [] = []
        rest_of (x ∷ xs) = xs

        no_end : (code : Option ℕ) → Contains (ending code) (form_of (a ∷ (u ++ v)) c) → ⊥
        no_end None has = Contains-nil (form_of (a ∷ (u ++ v)) c) has
        no_end (Some k) (n, low, is) =
            let zero_place : n ≡ 0 = omega (arith, low) in
            let long = ap (λ (x : Form). length x.letters)
            (subst (λ m. get_or (form_of [] k ∷ []) m (form_of (a ∷ (u ++ v)) c)
            ≡ form_of (a ∷ (u ++ v)) c) zero_place is) in
            omega (arith, long)

    abbrev root : ℕ
    root = length states - 1

    root_within : root < length states
    root_within = let some = automaton.some in omega (arith, some)

    module _ (have : HaveForms states) (alphabet : Letters) where
      -- from where a step leads there is a form
      step_some : (s a t : ℕ) → IsStep states s a t → 0 < length (forms_at states t)
      step_some s a t (x, stands, has) =
          let low = (automaton.fit s x stands).within (edge_to a t) has in
          let less = slice_get_within states s x stands in
          have t (omega (arith, low, less))

      -- and from where it begins
      begin_some : (s a t : ℕ) → IsStep states s a t → 0 < length (forms_at states s)
      begin_some s a t step =
          let (x, stands, has) = step in
          let less = slice_get_within states s x stands in
          let here = get_or_from_slice_get states s x bare stands in
          let some = some_branch states automaton.fit (at s).edges (edge_to a t)
          (subst (λ (y : State). Contains y.edges (edge_to a t)) (sym here) has)
          (step_some s a t step) in
          let parts = ap (length {A = Form}) (from_here states automaton.fit s less)
          ∙ length-append (ending (at s).code) (branches states (at s).edges) in
          omega (arith, parts, some)

      -- the place of a text with one more character
      pub leads_next : (front : List ℕ) (c : ℕ) (place next : List ℕ) →
          LeadsBy states alphabet front place →
          ((t : ℕ) → Contains next t ↔ GoesFrom states alphabet c place t) →
          LeadsBy states alphabet (front ++ c ∷ []) next
      leads_next front c place next leads goes t = (
        λ has.
            let (s, there, (a, step, fits)) = (goes t).0 has in
            let is = (leads s).0 there in
            record {
              letters = is.letters ++ a ∷ [];
              fit = AllZip-push (Fits alphabet) is.letters front a c is.fit fits;
              lead = leads_on is.letters root s a t is.lead step;
              some = step_some s a t step;
            },
        λ is. (goes t).1 (by is.letters is.fit is.lead),
      )
        where
          by : (letters : List ℕ) → AllZip (Fits alphabet) letters (front ++ c ∷ []) →
              Leads states root letters t → GoesFrom states alphabet c place t
          by letters zip lead =
              let split = zip_apart (Fits alphabet) letters front (c ∷ []) zip in
              last split.0 split.1 split.3 split.4 (subst (λ (l : List ℕ). Leads states root l t)
              split.2 lead)
            where
              last : (u v : List ℕ) → AllZip (Fits alphabet) u front →
                  AllZip (Fits alphabet) v (c ∷ []) → Leads states root (u ++ v) t →
                  GoesFrom states alphabet c place t
              last u [] fit one lead = absurd one
              last u (a ∷ (b ∷ v)) fit one lead = absurd one.1
              last u (a ∷ []) fit one lead =
                  let (j, before, (k, x, stands, has, is)) = leads_apart u (a ∷ []) root t lead in
                  let step : IsStep states j a t =
                  (x, stands, subst (λ n. Contains x.edges (edge_to a n)) is has) in (
                    j,
                    (leads j).1 (record {
                      letters = u;
                      fit = fit;
                      lead = before;
                      some = begin_some j a t step;
                    }),
                    (a, step, one.0),
                  )

      -- some form goes on exactly where there is a state
      pub leads_some : (text place : List ℕ) → LeadsBy states alphabet text place →
          (0 < length place) ↔ MayBegin alphabet text (forms_of states)
      leads_some text place leads = (
        λ some. first place some refl,
        λ (form, has, (fitting, rest, zip, is)).
            let same : form ≡ form_of (fitting ++ rest) form.code =
            λ k. record { letters = is k; code = form.code } in
            let (j, lead, there) = forms_behind fitting rest root form.code root_within
            (subst (Contains (forms_at states root)) same has) in
            let (n, less, stands) = (leads j).1 (record {
              letters = fitting;
              fit = zip;
              lead = lead;
              some = let low = there.1 in omega (arith, low);
            }) in
            omega (arith, less),
      )
        where
          first : (numbers : List ℕ) → 0 < length numbers → numbers ≡ place →
              MayBegin alphabet text (forms_of states)
          first [] some same = absurd (omega (arith, some))
          first (s ∷ numbers) some same =
              let is = (leads s).0 (subst (λ (l : List ℕ). Contains l s) same
              (0, omega arith, refl)) in
              form (forms_at states s) is.some refl is
            where
              form : (forms : List Form) → 0 < length forms → forms ≡ forms_at states s →
                  IsReached states alphabet text s → MayBegin alphabet text (forms_of states)
              form [] more which is = absurd (omega (arith, more))
              form (f ∷ forms) more which is = (
                form_of (is.letters ++ f.letters) f.code,
                forms_before is.letters root s f root_within is.lead
                    (subst (λ (l : List Form). Contains l f) which (0, omega arith, refl)),
                (is.letters, f.letters, is.fit, refl),
              )

      -- the empty text leads to the root, if it is alive
      pub begins_at : (place : List ℕ) → place ≡ root ∷ [] → IsAlive (at root) →
          LeadsBy states alphabet [] place
      begins_at place same alive t = (
        λ has.
            let is : root ≡ t = elim (Contains-cons_cases root t []
            (subst (λ (l : List ℕ). Contains l t) same has)) [
              | inl here ↦ here
              | inr later ↦ absurd (Contains-nil t later)
            ] in
            record {
              letters = [];
              fit = tt;
              lead = is;
              some = subst (λ k. 0 < length (forms_at states k)) is
                  (root_some states automaton.fit have root (let some = automaton.some in
                  omega (arith, some)) alive);
            },
        λ is. subst (λ (l : List ℕ). Contains l t) (sym same)
            (by is.letters is.fit is.lead),
      )
        where
          by : (letters : List ℕ) → AllZip (Fits alphabet) letters [] →
              Leads states root letters t → Contains (root ∷ []) t
          by [] zip is = (0, omega arith, is)
          by (a ∷ letters) zip lead = absurd zip

      -- and nowhere, if it isn't
      pub begins_nowhere : (place : List ℕ) → place ≡ [] → (IsAlive (at root) → ⊥) →
          LeadsBy states alphabet [] place
      begins_nowhere place same dead t = (
        λ has. absurd (Contains-nil t (subst (λ (l : List ℕ). Contains l t) same has)),
        λ is. absurd (by is.letters is.fit is.lead is.some),
      )
        where
          code_none : (code : Option ℕ) → (at root).code ≡ code → (at root).code ≡ None
          code_none None is = is
          code_none (Some code) is = absurd (dead (inl (code, is)))

          edges_none : (edges : List Edge) → (at root).edges ≡ edges → (at root).edges ≡ []
          edges_none [] is = is
          edges_none (e ∷ edges) is =
              absurd (dead (inr (
                e,
                subst (λ (l : List Edge). Contains l e) (sym is) (0, omega arith, refl),
              )))

          nothing : forms_at states root ≡ []
          nothing =
              from_here states automaton.fit root root_within
              ∙ ap (λ (o : Option ℕ). ending o ++ branches states (at root).edges)
              (code_none (at root).code refl)
              ∙ ap (branches states) (edges_none (at root).edges refl)

          by : (letters : List ℕ) → AllZip (Fits alphabet) letters [] →
              Leads states root letters t → 0 < length (forms_at states t) → ⊥
          by (a ∷ letters) zip lead some = absurd zip
          by [] zip is some =
              let long = ap (length {A = Form})
              (subst (λ k. forms_at states k ≡ []) is nothing) in
              omega (arith, some, long)
