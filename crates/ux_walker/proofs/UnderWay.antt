-- A walk that is under way stays so, visit by visit: what a visit leads to is noted, or other visits
-- lead there.
use Rattle.std.proofs.Common.{ap, arith, ◌≡◌, ℕ, ◌+◌, ◌-◌, ◌<◌, ◌≤◌, List, [], ◌∷◌, ◌++◌, ◌⊎◌, inl, inr, refl, sym, ◌∙◌, subst, length}
use Rattle.std.specs.Prelude.{◌↔◌, Contains, IsTrue}
use Rattle.std.specs.List.Sorted.{IsStrictlyIncreasing}
use Rattle.std.proofs.lemmas.List.Elements.{Contains-append_left, Contains-push, Contains-push_cases}
use Rattle.ux_tokens.specs.Tokens.{Token}
use Rattle.ux_outputs.specs.Rendering.{skip}
use Rattle.ux_walk.specs.Leads.{LeadsTo, Stack, main_stack}
use Rattle.ux_walk.specs.Settings.{Setting}
use Rattle.ux_automaton.specs.Fronts.{Known, Holds, IsFront, Keeps}
use Rattle.ux_automaton.specs.Steps.{IsStep, LeadsOn}
use Rattle.ux_automaton.specs.declared.step.Step.{Step}
use Rattle.ux_walker.specs.declared.agenda.Visit.{Visit}
use Rattle.ux_walker.specs.Agendas.{visit_of}
use Rattle.ux_walker.specs.Walking.{AreReady, FrontLeads, IsReady, IsUnderWay, LandingsLead, Notes, VisitsLead}
use Rattle.ux_walker.proofs.AgendaLemmas.{contains_first, contains_later, nothing_in}
use Rattle.ux_walker.proofs.AscendingLemmas.{push_ascends}
use Rattle.ux_walker.proofs.WalkLemmas.{front_leads_kept, ready_from}

-- at the start the front waits that holds the main stack alone, and no end is noted
module _ (known : Known) (start front : ℕ) (visits : List Visit)
    (inside : start ≤ length known.setting.tokens) (is : IsFront known front)
    (main : (stack : Stack) → Holds known front stack ↔ (stack ≡ main_stack))
    (only : (visit : Visit) → Contains visits visit
    ↔ ((visit ≡ visit_of start front) ⊎ (Contains [] visit × (visit.at ≡ start → ⊥)))) where
  it : (visit : Visit) → Contains visits visit → visit ≡ visit_of start front
  it visit there = elim ((only visit).0 there) [
    | inl same ↦ same
    | inr none ↦ nothing_in visit none.0
  ]

  pub begun : IsUnderWay known start visits []
  begun = record {
    ready = λ visit there. subst (IsReady known start) (sym (it visit there))
        (record { front = is; after = omega arith; within = inside });
    exactly = λ e later. (
      λ leads. inr (
        visit_of start front,
        (only (visit_of start front)).1 (inl refl),
        (main_stack, (main main_stack).1 refl, leads),
      ),
      λ h. elim h [
        | inl none ↦ nothing_in e none
        | inr (visit, there, leads) ↦
            let from = subst (λ (v : Visit). FrontLeads known v.front v.at e) (it visit there) leads in
            subst (λ (s : Stack). LeadsTo known.setting s start e) ((main from.0).0 from.1) from.2
      ],
    );
    later = λ e none. nothing_in e none;
    ascending = λ k lt. absurd (omega (arith, lt));
    before = λ e visit none there. nothing_in e none;
  }

-- a visit was taken, and the step from it put on the agenda
module _ (k0 k1 k2 : Known) (start : ℕ) (rest new : List Visit) (visit : Visit)
    (ends noted : List ℕ) (step : Step) (way : IsUnderWay k0 start (rest ++ visit ∷ []) ends)
    (grows : Keeps k0 k1) (is : IsStep k0 k1 visit.front visit.at step)
    (notes : Notes step start visit.at ends noted) (more : Keeps k1 k2)
    (ready : AreReady k2 (visit.at + 1) new)
    (put : (e : ℕ) → VisitsLead k2 new e
    ↔ (VisitsLead k1 rest e ⊎ (FrontLeads k1 step.over_space (visit.at + 1) e
    ⊎ (FrontLeads k1 step.over_token (skip k1.setting.tokens visit.at + 1) e
    ⊎ LandingsLead k1 step.landings.items e)))) where
  taken : IsReady k0 start visit
  taken = way.ready visit (Contains-push rest visit)

  ends_before : (e : ℕ) → Contains ends e → e < visit.at
  ends_before e there = way.before e visit there (Contains-push rest visit)

  noted_is : (e : ℕ) → Contains noted e → Contains ends e ⊎ (IsTrue step.ends × (start < visit.at)
      × (e ≡ visit.at))
  noted_is e there = elim notes [
    | inl (ended, later, is) ↦ elim (Contains-push_cases ends visit.at e
        (subst (λ (l : List ℕ). Contains l e) is there)) [
          | inl old ↦ inl old
          | inr same ↦ inr (ended, later, sym same)
        ]
    | inr (none, is) ↦ inl (subst (λ (l : List ℕ). Contains l e) is there)
  ]

  still_noted : (e : ℕ) → Contains ends e → Contains noted e
  still_noted e there = elim notes [
    | inl (ended, later, is) ↦ subst (λ (l : List ℕ). Contains l e) (sym is)
        (Contains-append_left ends (visit.at ∷ []) e there)
    | inr (none, is) ↦ subst (λ (l : List ℕ). Contains l e) (sym is) there
  ]

  now_noted : IsTrue step.ends → start < visit.at → Contains noted visit.at
  now_noted ended later = elim notes [
    | inl (same, lt, is) ↦ subst (λ (l : List ℕ). Contains l visit.at) (sym is)
        (Contains-push ends visit.at)
    | inr (none, is) ↦ absurd (let low = none ended in omega (arith, low, later))
  ]

  rest_kept : (e : ℕ) → VisitsLead k0 rest e ↔ VisitsLead k1 rest e
  rest_kept e = (
    λ (other, there, leads). (other, there, (kept other there).0 leads),
    λ (other, there, leads). (other, there, (kept other there).1 leads),
  )
    where
      kept : (other : Visit) → Contains rest other →
          FrontLeads k0 other.front other.at e ↔ FrontLeads k1 other.front other.at e
      kept other there = front_leads_kept k0 k1 grows other.front other.at e
          (way.ready other (Contains-append_left rest (visit ∷ []) other there)).front

  onward : (e : ℕ) → start < e → LeadsOn k1 step visit.at e → Contains noted e ⊎ VisitsLead k2 new e
  onward e later (inl (ended, same)) = inl (subst (λ (n : ℕ). Contains noted n) (sym same)
      (now_noted ended (omega (arith, later, same))))
  onward e later (inr others) = inr ((put e).1 (inr others))

  forth : (e : ℕ) → start < e → Contains ends e ⊎ VisitsLead k0 (rest ++ visit ∷ []) e →
      Contains noted e ⊎ VisitsLead k2 new e
  forth e later (inl there) = inl (still_noted e there)
  forth e later (inr (other, there, leads)) = elim (Contains-push_cases rest visit other there) [
    | inl old ↦ inr ((put e).1 (inl ((rest_kept e).0 (other, old, leads))))
    | inr same ↦ onward e later ((is.exactly e).0
        (subst (λ (v : Visit). FrontLeads k0 v.front v.at e) (sym same) leads))
  ]

  by_visit : (e : ℕ) → LeadsOn k1 step visit.at e → VisitsLead k0 (rest ++ visit ∷ []) e
  by_visit e leads = (visit, Contains-push rest visit, (is.exactly e).1 leads)

  back : (e : ℕ) → Contains noted e ⊎ VisitsLead k2 new e →
      Contains ends e ⊎ VisitsLead k0 (rest ++ visit ∷ []) e
  back e (inl there) = elim (noted_is e there) [
    | inl old ↦ inl old
    | inr (ended, later, same) ↦ inr (by_visit e (inl (ended, same)))
  ]
  back e (inr leads) = elim ((put e).0 leads) [
    | inl old ↦ inr (
      ((rest_kept e).1 old).0,
      Contains-append_left rest (visit ∷ []) ((rest_kept e).1 old).0 ((rest_kept e).1 old).1,
      ((rest_kept e).1 old).2,
    )
    | inr others ↦ inr (by_visit e (inr others))
  ]

  same_setting : k2.setting ≡ k0.setting
  same_setting = more.setting ∙ grows.setting

  pub gone_on : IsUnderWay k2 start new noted
  gone_on = record {
    ready = let after = taken.after in
        ready_from k2 start (visit.at + 1) new (omega (arith, after)) ready;
    exactly = λ e later.
        let was = way.exactly e later in (
          λ leads. forth e later (was.0
              (subst (λ (s : Setting). LeadsTo s main_stack start e) same_setting leads)),
          λ h. subst (λ (s : Setting). LeadsTo s main_stack start e) (sym same_setting)
              (was.1 (back e h)),
        );
    later = λ e there. elim (noted_is e there) [
      | inl old ↦ way.later e old
      | inr (ended, later, same) ↦ omega (arith, later, same)
    ];
    ascending = elim notes [
      | inl (ended, later, is) ↦ subst IsStrictlyIncreasing (sym is)
          (push_ascends ends visit.at way.ascending ends_before)
      | inr (none, is) ↦ subst IsStrictlyIncreasing (sym is) way.ascending
    ];
    before = λ e other there waits.
        let after = (ready other waits).after in
        elim (noted_is e there) [
          | inl old ↦ let lt = ends_before e old in omega (arith, after, lt)
          | inr (ended, later, same) ↦ omega (arith, after, same)
        ];
  }

-- how many positions there are from the last visit's on
abbrev pub left_of : List Token → List Visit → ℕ
left_of tokens [] = 0
left_of tokens (visit ∷ []) = length tokens + 1 - visit.at
left_of tokens (visit ∷ next ∷ visits) = left_of tokens (next ∷ visits)

left_last : (tokens : List Token) (visits : List Visit) (visit : Visit) →
    left_of tokens (visits ++ visit ∷ []) ≡ length tokens + 1 - visit.at
left_last tokens [] visit = refl
left_last tokens (first ∷ []) visit = refl
left_last tokens (first ∷ next ∷ visits) visit = left_last tokens (next ∷ visits) visit

left_less : (tokens : List Token) (visits : List Visit) (at : ℕ) → at ≤ length tokens →
    ((visit : Visit) → Contains visits visit → at + 1 ≤ visit.at) →
    left_of tokens visits < length tokens + 1 - at
left_less tokens [] at inside after = omega (arith, inside)
left_less tokens (visit ∷ []) at inside after =
    let later = after visit (contains_first visit []) in omega (arith, inside, later)
left_less tokens (visit ∷ next ∷ visits) at inside after =
    left_less tokens (next ∷ visits) at inside (λ other there.
    after other (contains_later visit (next ∷ visits) other there))

-- fewer are left after a step
pub left_falls : (tokens : List Token) (old new rest : List Visit) (visit : Visit) →
    old ≡ rest ++ visit ∷ [] → visit.at ≤ length tokens →
    ((other : Visit) → Contains new other → visit.at + 1 ≤ other.at) →
    left_of tokens new < left_of tokens old
left_falls tokens old new rest visit is inside after =
    subst (λ (n : ℕ). left_of tokens new < n)
    (sym (ap (left_of tokens) is ∙ left_last tokens rest visit))
    (left_less tokens new visit.at inside after)

-- the visits that are left lie after the least
pub least_ready : (known : Known) (start : ℕ) (old rest : List Visit) (visit : Visit)
    (ends : List ℕ) → old ≡ rest ++ visit ∷ [] →
    ((other : Visit) → Contains rest other → visit.at < other.at) →
    IsUnderWay known start old ends → AreReady known (visit.at + 1) rest
least_ready known start old rest visit ends is after way other there =
    let ready = way.ready other (subst (λ (l : List Visit). Contains l other) (sym is)
    (Contains-append_left rest (visit ∷ []) other there)) in
    record {
      front = ready.front;
      after = let later = after other there in omega (arith, later);
      within = ready.within;
    }
