-- The steps that leave a set, and their runs by one reading.
use Rattle.std.proofs.Common.{arith, ◌≡◌, ◌≢◌, ℕ, ◌+◌, ◌-◌, ◌<◌, ◌≤◌, ◌↔◌, inl, inr, List, [], ◌∷◌, ◌++◌, refl, sym, ap, subst, ◌∙◌, length, length-append, length-drop, take, drop, get_or}
use Rattle.std.specs.Prelude.{Contains}
use Rattle.std.specs.List.Sorted.{IsNonDecreasingBy, IsStrictlyIncreasing}
use Rattle.std.proofs.lemmas.List.{length-take, get_or_default, get_or_append_left, get_or_push}
use Rattle.std.proofs.lemmas.List.Elements.{Contains-get_or, Contains-append_left, Contains-append_right, Contains-push, Contains-push_cases, Contains-append_cases}
use Rattle.ux_base.proofs.Lists.{less_or, same_or}
use Rattle.ux_subsets.specs.declared.automaton.Link.{Link}
use Rattle.ux_subsets.specs.declared.departures.Step.{Step}
use Rattle.ux_subsets.specs.Paths.{link, IsAscending}
use Rattle.ux_subsets.specs.Departures.{AreByStart, steps_from, step_by, AreInOrder, LeavesOne, AreSteps, LeadsTo, AreUpTo, reading_at, IsRun}
use Rattle.ux_subsets.specs.Building.{LeadsFrom}
use Rattle.ux_subsets.proofs.ElementsLemmas.{nothing_in, first_or_later, contains_first}
use Rattle.ux_subsets.proofs.SpellingLemmas.{same_link}
use Rattle.ux_subsets.proofs.SubsetsSpellLemmas.{below_or_last}
use Rattle.ux_subsets.proofs.DeparturesLemmas.{in_between, at_between}

pub leaves_none : (links : List Link) (old : List Step) → old ≡ [] → (e : Step) → Contains old e ↔ LeavesOne links [] e
leaves_none links old none e = (
  λ h. absurd (nothing_in (subst (λ (es : List Step). Contains es e) none h)),
  λ h. absurd (nothing_in h.1),
)

-- the steps of one state more
pub leaves_more : (links : List Link) (states : List ℕ) (s : ℕ) (old new row : List Step) → new ≡ old ++ row →
    ((e : Step) → Contains row e ↔ Contains links (link s e.to e.reading)) → ((e : Step) → Contains old e ↔ LeavesOne links states e) →
    (e : Step) → Contains new e ↔ LeavesOne links (states ++ s ∷ []) e
leaves_more links states s old new row is here before e = subst (λ (es : List Step). Contains es e ↔ LeavesOne links (states ++ s ∷ []) e) (sym is) (
  λ h. elim (Contains-append_cases old row e h) [
    | inl a ↦ let l = (before e).0 a in (l.0, Contains-append_left states (s ∷ []) l.0 l.1, l.2)
    | inr b ↦ (s, Contains-push states s, (here e).0 b)
  ],
  λ h. elim (Contains-push_cases states s h.0 h.1) [
    | inl a ↦ Contains-append_left old row e ((before e).1 (h.0, a, h.2))
    | inr b ↦ Contains-append_right old row e ((here e).1 (subst (λ (x : ℕ). Contains links (link x e.to e.reading)) (sym b) h.2))
  ],
)

-- the readings before the place are smaller than those from it on
abbrev pub IsCut : List Step → ℕ → Type 0
IsCut steps place = (k m : ℕ) → k < place → place ≤ m → m < length steps → reading_at steps k < reading_at steps m

module _ (steps : List Step) (begin end : ℕ) (is : IsRun steps begin end) where
  abbrev run : List Step
  run = take (end - begin) (drop begin steps)

  reading_of : (k : ℕ) (d : Step) → k < length steps → (get_or steps k d).reading ≡ reading_at steps k
  reading_of k d lt = ap (λ (e : Step). e.reading) (get_or_default steps k d (step_by 0 0) lt)

  pub run_length : length run ≡ end - begin
  run_length =
      let some = is.some in
      let within = is.within in
      let len = length-take (end - begin) (drop begin steps) in
      let len' = length-drop begin steps in
      omega (arith, some, within, len, len')

  pub run_rises : AreInOrder steps → IsNonDecreasingBy (λ (e : Step). e.to) run
  run_rises ordered i j d le lt =
      let within = is.within in
      let a = at_between steps begin end i d (omega (arith, le, lt)) in
      let b = at_between steps begin end j d lt in
      let below = a.1 in
      let below' = b.1 in
      let o = ordered (begin + i) (begin + j) d (omega (arith, le)) (omega (arith, below', within)) in
      let tied : (get_or steps (begin + i) d).reading ≡ (get_or steps (begin + j) d).reading =
      (reading_of (begin + i) d (omega (arith, below, within)) ∙ is.same (begin + i) (omega arith) below)
      ∙ sym (reading_of (begin + j) d (omega (arith, below', within)) ∙ is.same (begin + j) (omega arith) below') in
      let up = o.to tied in
      let e = ap (λ (x : Step). x.to) a.0 in
      let f = ap (λ (x : Step). x.to) b.0 in
      omega (arith, up, e, f)

  pub cut_more : AreInOrder steps → IsCut steps begin → IsCut steps end
  cut_more ordered cut k m below from lt =
      let some = is.some in
      let ends : reading_at steps end ≢ reading_at steps begin = is.ends (omega (arith, from, lt)) in
      let up = (ordered begin end (step_by 0 0) (omega (arith, some)) (omega (arith, from, lt))).reading in
      let up' = (ordered end m (step_by 0 0) from lt).reading in
      elim (less_or k begin) [
        | inl early ↦ cut k m early (omega (arith, some, from)) lt
        | inr late ↦ let same = is.same k late below in omega (arith, ends, up, up', same)
      ]

  module _ (source : List Link) (states : List ℕ) (last n : ℕ) (are : AreSteps source states steps) where
    -- the run leads where the reading leads from the states
    pub run_leads : IsCut steps begin → (t : ℕ) → LeadsTo run t ↔ LeadsFrom last source states n (reading_at steps begin) t
    run_leads cut t = (
      λ h.
          let within = is.within in
          let k = (in_between steps begin end h.0 within).0 h.1 in
          let below = k.2 in
          let lt : k.0 < length steps = omega (arith, below, within) in
          let e : h.0.reading ≡ reading_at steps begin = ap (λ (x : Step). x.reading) (sym k.3) ∙ (reading_of k.0 h.0 lt ∙ is.same k.0 k.1 k.2) in
          let l = (are.exact h.0).0 (k.0, lt, k.3) in
          (l.0, l.1, subst (λ (x : Link). Contains source x) (same_link l.0 l.0 h.0.to t h.0.reading (reading_at steps begin) refl h.2 e) l.2),
      λ h.
          let some = is.some in
          let within = is.within in
          let r = reading_at steps begin in
          let c = (are.exact (step_by r t)).1 h in
          let lt = c.1 in
          let e : reading_at steps c.0 ≡ r = sym (reading_of c.0 (step_by r t) c.1) ∙ ap (λ (x : Step). x.reading) c.2 in (
            step_by r t,
            (in_between steps begin end (step_by r t) within).1 (
              c.0,
              elim (less_or c.0 begin) [
                | inl early ↦ let x = cut c.0 begin early (omega arith) (omega (arith, some, within)) in absurd (omega (arith, x, e))
                | inr late ↦ late
              ],
              elim (less_or c.0 end) [
                | inl early ↦ early
                | inr late ↦ let x = cut_more are.ordered cut begin c.0 some late lt in absurd (omega (arith, x, e))
              ],
              c.2,
            ),
            refl,
          ),
    )

    pub run_within : IsAscending last source → AreUpTo last run
    run_within up t h =
        let k = (in_between steps begin end h.0 is.within).0 h.1 in
        let within = is.within in
        let below = k.2 in
        let l = (are.exact h.0).0 (k.0, omega (arith, below, within), k.3) in
        let w = up.within (link l.0 h.0.to h.0.reading) l.2 in
        let e = h.2 in
        omega (arith, w, e)

  -- the readings before the run are those of no step in it
  pub not_before : IsCut steps begin → (readings : List ℕ) → ((r : ℕ) → Contains readings r → (k : ℕ) × (k < begin) × (reading_at steps k ≡ r)) →
      Contains readings (reading_at steps begin) → ⊥
  not_before cut readings told h =
      let some = is.some in
      let within = is.within in
      let k = told (reading_at steps begin) h in
      let x = cut k.0 begin k.1 (omega arith) (omega (arith, some, within)) in
      let e = k.2 in
      omega (arith, x, e)

  -- the readings after the run
  pub readings_more : (readings : List ℕ) → ((r : ℕ) → Contains readings r ↔ ((k : ℕ) × (k < begin) × (reading_at steps k ≡ r))) →
      (r : ℕ) → Contains (readings ++ reading_at steps begin ∷ []) r ↔ ((k : ℕ) × (k < end) × (reading_at steps k ≡ r))
  readings_more readings told r = (
    λ h. elim (Contains-push_cases readings (reading_at steps begin) r h) [
      | inl old ↦ let k = (told r).0 old in let lt = k.1 in let some = is.some in (k.0, omega (arith, lt, some), k.2)
      | inr new ↦ (begin, is.some, new)
    ],
    λ h. elim (less_or h.0 begin) [
      | inl early ↦ Contains-append_left readings (reading_at steps begin ∷ []) r ((told r).1 (h.0, early, h.2))
      | inr late ↦ subst (λ (x : ℕ). Contains (readings ++ reading_at steps begin ∷ []) x) (sym (is.same h.0 late h.1) ∙ h.2) (Contains-push readings (reading_at steps begin))
    ],
  )

-- the row of a set of one state
pub row_of_one : (links : List Link) (steps : List Step) (starts : List ℕ) → AreByStart links steps starts → (first : ℕ) (others : List ℕ) (row : List Step) → others ≡ [] →
    row ≡ steps_from steps starts first → AreSteps links (first ∷ others) row
row_of_one links steps starts start first others row none is =
    subst (λ (os : List ℕ). AreSteps links (first ∷ os) row) (sym none) (subst (λ (es : List Step). AreSteps links (first ∷ []) es) (sym is) (record {
      exact = λ e. (
        λ h. (first, contains_first first [], (start.exact first e).0 h),
        λ h. elim (first_or_later first [] h.0 h.1) [
          | inl same ↦ (start.exact first e).1 (subst (λ (s : ℕ). Contains links (link s e.to e.reading)) (sym same) h.2)
          | inr nowhere ↦ absurd (nothing_in nowhere)
        ],
      );
      ordered = start.ordered first;
    }))

-- behind the last step each reading that leads on was met
pub all_read : (steps : List Step) (place : ℕ) → length steps ≤ place → (source : List Link) (states : List ℕ) (last n : ℕ) → AreSteps source states steps →
    (r t : ℕ) → LeadsFrom last source states n r t → (k : ℕ) × (k < place) × (reading_at steps k ≡ r)
all_read steps place past source states last n are r t h =
    let c = (are.exact (step_by r t)).1 h in
    let lt = c.1 in
    (c.0, omega (arith, lt, past), ap (λ (x : Step). x.reading) (get_or_default steps c.0 (step_by 0 0) (step_by r t) lt) ∙ ap (λ (x : Step). x.reading) c.2)

-- the first step leads to the least state
pub least_first : (steps : List Step) → IsNonDecreasingBy (λ (e : Step). e.to) steps → 0 < length steps → (t : ℕ) → LeadsTo steps t → (get_or steps 0 (step_by 0 0)).to ≤ t
least_first steps up some t h =
    let c = h.1 in
    let u = up 0 c.0 h.0 (omega arith) c.1 in
    let e = ap (λ (x : Step). x.to) (get_or_default steps 0 (step_by 0 0) h.0 some) in
    let f = ap (λ (x : Step). x.to) c.2 in
    let g = h.2 in
    omega (arith, u, e, f, g)

-- each element is below the one that comes behind them
rising_push : (xs : List ℕ) (x : ℕ) → IsStrictlyIncreasing xs → ((t : ℕ) → Contains xs t → t < x) → IsStrictlyIncreasing (xs ++ x ∷ [])
rising_push xs x up below k lt =
    let len = length-append xs (x ∷ []) in
    elim (less_or (k + 1) (length xs)) [
      | inl inside ↦
          let u = up k inside in
          let a = get_or_append_left xs (x ∷ []) 0 k (omega (arith, inside)) in
          let b = get_or_append_left xs (x ∷ []) 0 (k + 1) inside in
          omega (arith, u, a, b)
      | inr past ↦
          let at : length xs ≡ k + 1 = omega (arith, past, lt, len) in
          let a = get_or_append_left xs (x ∷ []) 0 k (omega (arith, at)) in
          let b = get_or_push xs x 0 (k + 1) at in
          let u = below (get_or xs k 0) (Contains-get_or xs k 0 (omega (arith, at))) in
          omega (arith, u, a, b)
    ]

-- the states to which the first steps of a run lead, but for one, with the latest of them
pub record AreMet (run : List Step) (last first : ℕ) (others : List ℕ) (latest i : ℕ) : Type 0 where
  pub rises : IsStrictlyIncreasing (first ∷ others)
  pub there : Contains (first ∷ others) latest
  pub greatest : (t : ℕ) → Contains (first ∷ others) t → t ≤ latest
  pub only : (t : ℕ) → Contains (first ∷ others) t → (t ≢ last) × LeadsTo run t
  pub each : (k : ℕ) (d : Step) → k < i → (get_or run k d).to ≢ last → Contains (first ∷ others) (get_or run k d).to
  pub rest : (k : ℕ) (d : Step) → i ≤ k → k < length run → latest ≤ (get_or run k d).to

module _ (run : List Step) (last first : ℕ) where
  pub met_first : (others : List ℕ) → others ≡ [] → first ≢ last → LeadsTo run first → ((t : ℕ) → LeadsTo run t → first ≤ t) → AreMet run last first others first 0
  met_first others none differs there least = subst (λ (os : List ℕ). AreMet run last first os first 0) (sym none) (record {
    rises = λ k lt. absurd (omega (arith, lt));
    there = contains_first first [];
    greatest = λ t h. let e = only t h in omega (arith, e);
    only = λ t h. subst (λ (x : ℕ). (x ≢ last) × LeadsTo run x) (only t h) (differs, there);
    each = λ k d lt. absurd (omega (arith, lt));
    rest = λ k d from lt. least (get_or run k d).to (get_or run k d, Contains-get_or run k d lt, refl);
  })
    where
      only : (t : ℕ) → Contains (first ∷ []) t → first ≡ t
      only t h = elim (first_or_later first [] t h) [ inl e ↦ e | inr none ↦ absurd (nothing_in none) ]

  module _ (others : List ℕ) (latest i : ℕ) (d : Step) (inside : i < length run) (up : IsNonDecreasingBy (λ (e : Step). e.to) run) (m : AreMet run last first others latest i) where
    -- the step leads to a state that was met, or to the last one
    pub met_same : ((get_or run i d).to ≢ latest → (get_or run i d).to ≢ last → ⊥) → AreMet run last first others latest (i + 1)
    met_same known = record {
      rises = m.rises;
      there = m.there;
      greatest = m.greatest;
      only = m.only;
      each = λ k e lt differs. elim (below_or_last k i (omega (arith, lt))) [
        | inl below ↦ m.each k e below differs
        | inr at ↦
            let is : get_or run k e ≡ get_or run i d = ap (λ (j : ℕ). get_or run j e) at ∙ get_or_default run i e d inside in
            subst (λ (x : Step). Contains (first ∷ others) x.to) (sym is)
            (elim (same_or (get_or run i d).to latest) [
              | inl same ↦ subst (λ (x : ℕ). Contains (first ∷ others) x) (sym same) m.there
              | inr new ↦ absurd (known new (subst (λ (x : Step). x.to ≢ last) is differs))
            ])
      ];
      rest = λ k e from lt. m.rest k e (omega (arith, from)) lt;
    }

    -- the step leads to a state more
    pub met_more : (others' : List ℕ) → others' ≡ others ++ (get_or run i d).to ∷ [] → (get_or run i d).to ≢ latest → (get_or run i d).to ≢ last → AreMet run last first others' (get_or run i d).to (i + 1)
    met_more others' pushed new differs = subst (λ (os : List ℕ). AreMet run last first os (get_or run i d).to (i + 1)) (sym pushed) (record {
      rises = rising_push (first ∷ others) state m.rises (λ t h. let g = m.greatest t h in omega (arith, g, above));
      there = Contains-push (first ∷ others) state;
      greatest = λ t h. elim (Contains-push_cases (first ∷ others) state t h) [
        | inl old ↦ let g = m.greatest t old in omega (arith, g, above)
        | inr e ↦ omega (arith, e)
      ];
      only = λ t h. elim (Contains-push_cases (first ∷ others) state t h) [
        | inl old ↦ m.only t old
        | inr e ↦ subst (λ (x : ℕ). (x ≢ last) × LeadsTo run x) e (differs, (get_or run i d, Contains-get_or run i d inside, refl))
      ];
      each = λ k e lt other. elim (below_or_last k i (omega (arith, lt))) [
        | inl below ↦ Contains-append_left (first ∷ others) (state ∷ []) (get_or run k e).to (m.each k e below other)
        | inr at ↦
            let is : get_or run k e ≡ get_or run i d = ap (λ (j : ℕ). get_or run j e) at ∙ get_or_default run i e d inside in
            subst (λ (x : Step). Contains ((first ∷ others) ++ state ∷ []) x.to) (sym is) (Contains-push (first ∷ others) state)
      ];
      rest = λ k e from lt.
          let a = up i k e (omega (arith, from)) lt in
          let b = ap (λ (x : Step). x.to) (get_or_default run i e d inside) in
          omega (arith, a, b);
    })
      where
        state : ℕ
        state = (get_or run i d).to

        above : latest < state
        above = let r = m.rest i d (omega arith) inside in omega (arith, r, new)

  -- all steps were met
  pub met_all : (others : List ℕ) (latest i : ℕ) → length run ≤ i → AreMet run last first others latest i →
      IsStrictlyIncreasing (first ∷ others) × ((t : ℕ) → Contains (first ∷ others) t ↔ ((t ≢ last) × LeadsTo run t))
  met_all others latest i past m = (
    m.rises,
    λ t. (
      m.only t,
      λ h.
          let c = h.1.1 in
          let lt = c.1 in
          let is : (get_or run c.0 h.1.0).to ≡ t = ap (λ (x : Step). x.to) c.2 ∙ h.1.2 in
          subst (λ (x : ℕ). Contains (first ∷ others) x) is (m.each c.0 h.1.0 (omega (arith, lt, past)) (λ e. h.0 (sym is ∙ e))),
    ),
  )
