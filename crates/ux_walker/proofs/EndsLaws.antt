-- A walk that came to its end tells the ends of derivations.
use Rattle.std.proofs.Common.{arith, ◌≡◌, ◌⊎◌, ◌∙◌, ℕ, ◌<◌, ◌≤◌, List, [], ◌∷◌, ◌++◌, ap, inl, inr, refl, sym, subst, length}
use Rattle.std.specs.Prelude.{◌↔◌, Contains}
use Rattle.std.specs.List.Sorted.{IsStrictlyIncreasing}
use Rattle.ux_net.specs.Measured.{IsMeasured}
use Rattle.ux_net.specs.Nets.{ArePlain}
use Rattle.ux_lexical_tables.specs.Belonging.{Belongs}
use Rattle.ux_lexical_tables.proofs.OneTokenLaws.{accepts_forward}
use Rattle.ux_walk.specs.Ends.{AreEnds}
use Rattle.ux_walk.specs.Contexts.{none_apply}
use Rattle.ux_walk.specs.Leads.{LeadsTo, main_stack}
use Rattle.ux_walk.specs.Settings.{Setting}
use Rattle.ux_walk.proofs.LeadsLaws.{leads_exactly, leads_forward}
use Rattle.ux_automaton.specs.Fronts.{BeginsNothing, Known}
use Rattle.ux_walker.specs.declared.agenda.Visit.{Visit}
use Rattle.ux_walker.specs.FirstEnds.{IsEnd, IsFirstEnd}
use Rattle.ux_walker.specs.Walking.{IsFirstWalk, IsUnderWay, VisitsLead}
use Rattle.ux_walker.proofs.AgendaLemmas.{contains_first, first_or_later, nothing_in}

module _ (setting : Setting) (belongs : Belongs setting.alphabet setting.tokens setting.tables)
    (measured : IsMeasured setting.net) (plain : ArePlain setting.net) (start : ℕ)
    (inside : start ≤ length setting.tokens) where
  -- these are all positions after the start to which the main stack leads
  pub ends_from_leads : (ends : List ℕ) → ((e : ℕ) → start < e →
      LeadsTo setting main_stack start e ↔ Contains ends e) →
      ((e : ℕ) → Contains ends e → start < e) → IsStrictlyIncreasing ends →
      AreEnds setting start ends
  ends_from_leads ends leads later ascending =
      let forward = accepts_forward setting.alphabet setting.tokens setting.tables belongs in
      record {
        exactly = λ e. (
          λ there.
              let lt = later e there in
              let derives = (leads_exactly setting forward measured plain start e inside).1
              ((leads e lt).1 there) in
              (lt, derives.0, derives.1),
          λ (lt, events, derives). (leads e lt).0
              ((leads_exactly setting forward measured plain start e inside).0 (events, derives)),
        );
        ascending = ascending;
      }

  -- nothing begins there
  pub ends_from_nothing : BeginsNothing setting start → AreEnds setting start []
  ends_from_nothing nothing = ends_from_leads []
      (λ e later. (λ leads. absurd (nothing e later leads), λ none. nothing_in e none))
      (λ e none. nothing_in e none) (λ k lt. absurd (omega (arith, lt)))

-- no visit is left
pub ends_from_walk : (known : Known) (setting : Setting) → known.setting ≡ setting →
    Belongs setting.alphabet setting.tokens setting.tables → IsMeasured setting.net →
    ArePlain setting.net → (start : ℕ) → start ≤ length setting.tokens → (ends : List ℕ) →
    IsUnderWay known start [] ends → AreEnds setting start ends
ends_from_walk known setting same belongs measured plain start inside ends way =
    ends_from_leads setting belongs measured plain start inside ends
    (λ e later.
    let leads = subst (λ (s : Setting). LeadsTo s main_stack start e) same in
    let was = way.exactly e later in (
      λ h. elim (was.0 (subst (λ (s : Setting). LeadsTo s main_stack start e) (sym same) h)) [
        | inl there ↦ there
        | inr none ↦ nothing_in none.0 none.1
      ],
      λ there. leads (was.1 (inl there)),
    )) way.later way.ascending

-- the members of a list of one at most are equal
one_alone : (xs : List ℕ) → length xs ≤ 1 → (x y : ℕ) → Contains xs x → Contains xs y → x ≡ y
one_alone [] few x y here there = nothing_in x here
one_alone (z ∷ []) few x y here there = elim (first_or_later z [] x here) [
  | inl is ↦ elim (first_or_later z [] y there) [
    | inl same ↦ subst (λ (n : ℕ). x ≡ n) (sym same) is
    | inr none ↦ nothing_in y none
  ]
  | inr none ↦ nothing_in x none
]
one_alone (z ∷ w ∷ xs) few x y here there = absurd (omega (arith, few))

-- such a walk tells the first end
module _ (known : Known) (setting : Setting) (same : known.setting ≡ setting)
    (belongs : Belongs setting.alphabet setting.tokens setting.tables)
    (measured : IsMeasured setting.net) (plain : ArePlain setting.net) (start : ℕ)
    (inside : start ≤ length setting.tokens) (ends : List ℕ) (walked : IsFirstWalk known start ends)
  where
    abbrev visits : List Visit
    visits = walked.visits

    way : IsUnderWay known start visits ends
    way = walked.way

    -- an end was noted, or a visit leads there
    led : (e : ℕ) → IsEnd setting start e → Contains ends e ⊎ VisitsLead known visits e
    led e (later, events, derives) = (way.exactly e later).0
        (subst (λ (s : Setting). LeadsTo s main_stack start e) (sym same)
        ((leads_exactly setting (accepts_forward setting.alphabet setting.tokens setting.tables belongs)
        measured plain start e inside).0 (events, derives)))

    -- what was noted is an end
    is_end : (e : ℕ) → Contains ends e → IsEnd setting start e
    is_end e there =
        let later = way.later e there in
        let derived = (leads_exactly setting
        (accepts_forward setting.alphabet setting.tokens setting.tables belongs) measured plain start e
        inside).1 (subst (λ (s : Setting). LeadsTo s main_stack start e) same
        ((way.exactly e later).1 (inl there))) in
        (later, derived.0, derived.1)

    -- a visit leads further than what was noted
    further : (e other : ℕ) → Contains ends e → VisitsLead known visits other → e < other
    further e other there (visit, waits, (stack, holds, leads)) =
        let before = way.before e visit there waits in
        let on = leads_forward setting none_apply
        (accepts_forward setting.alphabet setting.tokens setting.tables belongs) stack visit.at other
        (subst (λ (s : Setting). LeadsTo s stack visit.at other) same leads) in
        let low = on.0 in
        omega (arith, before, low)

    least : (e : ℕ) → Contains ends e → (other : ℕ) → IsEnd setting start other → e ≤ other
    least e there other is = elim (led other is) [
      | inl noted ↦ let one = one_alone ends walked.one e other there noted in omega (arith, one)
      | inr on ↦ let lt = further e other there on in omega (arith, lt)
    ]

    -- one was noted where there is any
    noted_some : (e : ℕ) → IsEnd setting start e → (first : ℕ) × Contains ends first
    noted_some e is = by ends refl
      where
        by : (list : List ℕ) → ends ≡ list → (first : ℕ) × Contains ends first
        by [] none = elim (led e is) [
          | inl there ↦ (e, there)
          | inr on ↦ nothing_in on.0
              (subst (λ (l : List Visit). Contains l on.0) (walked.all none) on.1)
        ]
        by (x ∷ xs) some =
            (x, subst (λ (l : List ℕ). Contains l x) (sym some) (contains_first x xs))

    pub first_from_walk : IsFirstEnd setting start ends
    first_from_walk = record {
      exactly = λ e. (
        λ there. (is_end e there, least e there),
        λ (is, low). elim (led e is) [
          | inl there ↦ there
          | inr on ↦
              let first = noted_some e is in
              let lt = further first.0 e first.1 on in
              let le = low first.0 (is_end first.0 first.1) in
              absurd (omega (arith, lt, le))
        ],
      );
      some = noted_some;
      ascending = way.ascending;
    }

-- where none was noted before, one is at most
pub noted_few : (old new : List ℕ) (at : ℕ) → old ≡ [] → (new ≡ old) ⊎ (new ≡ old ++ at ∷ []) →
    length new ≤ 1
noted_few old new at none (inl same) = let e = ap length (same ∙ none) in omega (arith, e)
noted_few old new at none (inr more) =
    let e = ap length (more ∙ ap (λ (l : List ℕ). l ++ at ∷ []) none) in omega (arith, e)
