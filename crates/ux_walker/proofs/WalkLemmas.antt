-- Where visits lead as fronts are put on an agenda, and how a walk comes to its ends.
use Rattle.std.proofs.Common.{arith, ◌≡◌, ℕ, ◌+◌, ◌<◌, ◌≤◌, List, [], ◌∷◌, ◌++◌, ◌⊎◌, inl, inr, refl, sym, ◌∙◌, ap, subst, length, get_or, take}
use Rattle.std.specs.Prelude.{◌↔◌, Contains, Option, Some, None, slice_get}
use Rattle.std.proofs.lemmas.Bool.Decides.{leb_tells}
use Rattle.std.proofs.lemmas.List.{take_all, take_more}
use Rattle.std.proofs.lemmas.List.Elements.{Contains-append_left, Contains-push, Contains-push_cases}
use Rattle.ux_tokens.specs.declared.kind.Kind.{Kind}
use Rattle.ux_tokens.specs.declared.kind.Kind.TheVariants as kind
use Rattle.ux_tokens.specs.Tokens.{Token}
use Rattle.ux_outputs.specs.Rendering.{kind_of, skip, skip_past}
use Rattle.ux_walk.specs.Leads.{LeadsFrom, LeadsTo, Stack}
use Rattle.ux_walk.specs.Settings.{Setting}
use Rattle.ux_automaton.specs.Fronts.{Known, Holds, IsFront, Keeps}
use Rattle.ux_automaton.specs.declared.step.Landing.{Landing}
use Rattle.ux_walker.specs.declared.agenda.Visit.{Visit}
use Rattle.ux_walker.specs.Agendas.{IsFree, Waits, visit_of}
use Rattle.ux_walker.proofs.AgendaLemmas.{nothing_in}
use Rattle.ux_walker.specs.Walking.{AreReady, FrontLeads, IsReady, LandingsLead, MayGoOn, VisitsLead}

-- from stacks that are as many a walk leads on alike
leads_same : (setting : Setting) (a b : Stack → Type 0) → ((stack : Stack) → a stack → b stack) →
    (at end : ℕ) → LeadsFrom setting a at end → LeadsFrom setting b at end
leads_same setting a b same at end leads = (leads.0, same leads.0 leads.1, leads.2)

-- the tables grew
module _ (old new : Known) (keeps : Keeps old new) where
  pub front_leads_kept : (front at end : ℕ) → IsFront old front →
      FrontLeads old front at end ↔ FrontLeads new front at end
  front_leads_kept front at end is = (
    λ h. subst (λ (s : Setting). LeadsFrom s (Holds new front) at end) (sym keeps.setting)
        (leads_same old.setting (Holds old front) (Holds new front)
        (λ stack. (keeps.stacks front is stack).0) at end h),
    λ h. leads_same old.setting (Holds new front) (Holds old front)
        (λ stack. (keeps.stacks front is stack).1) at end
        (subst (λ (s : Setting). LeadsFrom s (Holds new front) at end) keeps.setting h),
  )

  pub ready_kept : (low : ℕ) (visit : Visit) → IsReady old low visit → IsReady new low visit
  ready_kept low visit ready = record {
    front = keeps.fronts visit.front ready.front;
    after = ready.after;
    within = subst (λ (s : Setting). visit.at ≤ length s.tokens) (sym keeps.setting) ready.within;
  }

  pub may_kept : (front at : ℕ) → MayGoOn old front at → MayGoOn new front at
  may_kept front at may = record {
    is = keeps.fronts front may.is;
    within = subst (λ (s : Setting). (front ≡ 0) ⊎ (at ≤ length s.tokens)) (sym keeps.setting)
        may.within;
  }

-- the tables grew twice
pub keeps_both : (a b c : Known) → Keeps a b → Keeps b c → Keeps a c
keeps_both a b c first second = record {
  setting = second.setting ∙ first.setting;
  fronts = λ front is. second.fronts front (first.fronts front is);
  stacks = λ front is stack.
      let one = first.stacks front is stack in
      let two = second.stacks front (first.fronts front is) stack in
      (λ h. two.0 (one.0 h), λ h. one.1 (two.1 h));
}

pub keeps_itself : (known : Known) → Keeps known known
keeps_itself known = record {
  setting = refl;
  fronts = λ front is. is;
  stacks = λ front is stack. (λ h. h, λ h. h);
}

-- a front was put at a position at which none waited
module _ (known : Known) (old new : List Visit) (at front : ℕ) (free : IsFree old at)
    (holds : (visit : Visit) → Contains new visit
    ↔ ((visit ≡ visit_of at front) ⊎ (Contains old visit × (visit.at ≡ at → ⊥)))) where
  pub ready_put : (low : ℕ) → low ≤ at → MayGoOn known front at → (front ≡ 0 → ⊥) →
      AreReady known low old → AreReady known low new
  ready_put low after may some ready visit inside = elim ((holds visit).0 inside) [
    | inl is ↦ subst (IsReady known low) (sym is) (record {
      front = may.is;
      after = after;
      within = elim may.within [ inl none ↦ absurd (some none) | inr within ↦ within ];
    })
    | inr there ↦ ready visit there.0
  ]

  pub leads_put : (e : ℕ) →
      VisitsLead known new e ↔ (VisitsLead known old e ⊎ FrontLeads known front at e)
  leads_put e = (
    λ (visit, inside, leads). elim ((holds visit).0 inside) [
      | inl is ↦ inr (subst (λ (v : Visit). FrontLeads known v.front v.at e) is leads)
      | inr there ↦ inl (visit, there.0, leads)
    ],
    λ h. elim h [
      | inl (visit, inside, leads) ↦ (visit, (holds visit).1 (inr (inside, free visit inside)), leads)
      | inr leads ↦ (visit_of at front, (holds (visit_of at front)).1 (inl refl), leads)
    ],
  )

-- a front was joined with the one that waited at the position
module _ (before after : Known) (keeps : Keeps before after) (old new : List Visit)
    (at front waiting joined : ℕ) (is : IsFront before front) (waits : Waits old at waiting)
    (ready : AreReady before 0 old)
    (both : (stack : Stack) → Holds after joined stack
    ↔ (Holds before waiting stack ⊎ Holds before front stack))
    (holds : (visit : Visit) → Contains new visit
    ↔ ((visit ≡ visit_of at joined) ⊎ (Contains old visit × (visit.at ≡ at → ⊥)))) where
  pub ready_joined : IsFront after joined → (low : ℕ) → AreReady before low old →
      AreReady after low new
  ready_joined front_is low are visit inside = elim ((holds visit).0 inside) [
    | inl same ↦
        let here = ready_kept before after keeps low (visit_of at waiting)
        (are (visit_of at waiting) waits.there) in
        subst (IsReady after low) (sym same)
        (record { front = front_is; after = here.after; within = here.within })
    | inr old ↦ ready_kept before after keeps low visit (are visit old.0)
  ]

  joined_leads : (e : ℕ) → FrontLeads after joined at e
      ↔ (FrontLeads before waiting at e ⊎ FrontLeads before front at e)
  joined_leads e = (
    λ (stack, inside, leads).
        let led = subst (λ (s : Setting). LeadsTo s stack at e) keeps.setting leads in
        elim ((both stack).0 inside) [
          | inl one ↦ inl (stack, one, led)
          | inr other ↦ inr (stack, other, led)
        ],
    λ h. elim h [
      | inl (stack, inside, leads) ↦ (
        stack,
        (both stack).1 (inl inside),
        subst (λ (s : Setting). LeadsTo s stack at e) (sym keeps.setting) leads,
      )
      | inr (stack, inside, leads) ↦ (
        stack,
        (both stack).1 (inr inside),
        subst (λ (s : Setting). LeadsTo s stack at e) (sym keeps.setting) leads,
      )
    ],
  )

  kept_leads : (visit : Visit) → Contains old visit → (e : ℕ) →
      FrontLeads before visit.front visit.at e ↔ FrontLeads after visit.front visit.at e
  kept_leads visit inside e =
      front_leads_kept before after keeps visit.front visit.at e (ready visit inside).front

  pub leads_joined : (e : ℕ) →
      VisitsLead after new e ↔ (VisitsLead before old e ⊎ FrontLeads before front at e)
  leads_joined e = (
    λ (visit, inside, leads). elim ((holds visit).0 inside) [
      | inl same ↦ elim ((joined_leads e).0
          (subst (λ (v : Visit). FrontLeads after v.front v.at e) same leads)) [
            | inl led ↦ inl (visit_of at waiting, waits.there, led)
            | inr here ↦ inr here
          ]
      | inr stays ↦ inl (visit, stays.0, (kept_leads visit stays.0 e).1 leads)
    ],
    λ h. elim h [
      | inl (visit, inside, leads) ↦ elim (same_or_not visit.at at) [
        | inl same ↦ (
          visit_of at joined,
          (holds (visit_of at joined)).1 (inl refl),
          (joined_leads e).1 (inl (subst (λ (v : Visit). FrontLeads before v.front v.at e)
              (waits.only visit inside same) leads)),
        )
        | inr not ↦ (
          visit,
          (holds visit).1 (inr (inside, not)),
          (kept_leads visit inside e).0 leads,
        )
      ]
      | inr leads ↦ (
        visit_of at joined,
        (holds (visit_of at joined)).1 (inl refl),
        (joined_leads e).1 (inr leads),
      )
    ],
  )
    where
      same_or_not : (a b : ℕ) → (a ≡ b) ⊎ (a ≡ b → ⊥)
      same_or_not a b = elim (leb_tells a b) [
        | inl low ↦ elim (leb_tells b a) [
          | inl high ↦ inl (let one = low.1 in let two = high.1 in omega (arith, one, two))
          | inr less ↦ inr (λ is. let lt = less.1 in absurd (omega (arith, lt, is)))
        ]
        | inr less ↦ inr (λ is. let lt = less.1 in absurd (omega (arith, lt, is)))
      ]

-- what lies after a position lies after an earlier one
pub ready_from : (known : Known) (low high : ℕ) (visits : List Visit) → low ≤ high →
    AreReady known high visits → AreReady known low visits
ready_from known low high visits le ready visit inside =
    let is = ready visit inside in
    record {
      front = is.front;
      after = let after = is.after in omega (arith, le, after);
      within = is.within;
    }

-- landings are put one by one
module _ (first : Known) (visits : List Visit) (landings : List Landing) where
  abbrev pub LeadSoFar : Known → List Visit → ℕ → Type 0
  LeadSoFar known now count = (e : ℕ) → VisitsLead known now e
      ↔ (VisitsLead first visits e ⊎ LandingsLead first (take count landings) e)

  pub lead_none : LeadSoFar first visits 0
  lead_none e = (λ h. inl h, λ h. elim h [ inl old ↦ old | inr none ↦ nothing_in none.0 none.1 ])

  pub lead_all : (known : Known) (now : List Visit) (count : ℕ) → length landings ≤ count →
      LeadSoFar known now count → (e : ℕ) → VisitsLead known now e
      ↔ (VisitsLead first visits e ⊎ LandingsLead first landings e)
  lead_all known now count past so_far =
      subst (λ (l : List Landing). (e : ℕ) → VisitsLead known now e
      ↔ (VisitsLead first visits e ⊎ LandingsLead first l e)) (take_all count landings past) so_far

  pub lead_more : (mid last : Known) (now new : List Visit) (count : ℕ) (landing default : Landing) →
      count < length landings → landing ≡ get_or landings count default → Keeps first mid →
      IsFront first landing.front → LeadSoFar mid now count →
      ((e : ℕ) → VisitsLead last new e
      ↔ (VisitsLead mid now e ⊎ FrontLeads mid landing.front landing.at e)) →
      LeadSoFar last new (count + 1)
  lead_more mid last now new count landing default within is keeps front so_far put e = (
    λ h. elim ((put e).0 h) [
      | inl earlier ↦ elim ((so_far e).0 earlier) [
        | inl old ↦ inl old
        | inr led ↦ inr (led.0, (more led.0).1 (inl led.1), led.2)
      ]
      | inr here ↦ inr (landing, (more landing).1 (inr refl), (same e).1 here)
    ],
    λ h. (put e).1 (elim h [
      | inl old ↦ inl ((so_far e).1 (inl old))
      | inr led ↦ elim ((more led.0).0 led.1) [
        | inl earlier ↦ inl ((so_far e).1 (inr (led.0, earlier, led.2)))
        | inr it ↦ inr ((same e).0
            (subst (λ (l : Landing). FrontLeads first l.front l.at e) it led.2))
      ]
    ]),
  )
    where
      same : (e : ℕ) → FrontLeads first landing.front landing.at e
          ↔ FrontLeads mid landing.front landing.at e
      same e = front_leads_kept first mid keeps landing.front landing.at e front

      longer : take (count + 1) landings ≡ take count landings ++ landing ∷ []
      longer = take_more landings count default within
          ∙ ap (λ (l : Landing). take count landings ++ l ∷ []) (sym is)

      more : (x : Landing) → Contains (take (count + 1) landings) x
          ↔ (Contains (take count landings) x ⊎ (x ≡ landing))
      more x = (
        λ h. elim (Contains-push_cases (take count landings) landing x
            (subst (λ (l : List Landing). Contains l x) longer h)) [
              | inl old ↦ inl old
              | inr it ↦ inr (sym it)
            ],
        λ h. subst (λ (l : List Landing). Contains l x) (sym longer) (elim h [
          | inl old ↦ Contains-append_left (take count landings) (landing ∷ []) x old
          | inr it ↦ subst (λ (y : Landing). Contains (take count landings ++ landing ∷ []) y) (sym it)
              (Contains-push (take count landings) landing)
        ]),
      )

pub landings_lead_kept : (old new : Known) → Keeps old new → (landings : List Landing) →
    ((landing : Landing) → Contains landings landing → IsFront old landing.front) → (e : ℕ) →
    LandingsLead old landings e ↔ LandingsLead new landings e
landings_lead_kept old new keeps landings are e = (
  λ (landing, inside, leads). (
    landing,
    inside,
    (front_leads_kept old new keeps landing.front
        landing.at e (are landing inside)).0 leads,
  ),
  λ (landing, inside, leads). (
    landing,
    inside,
    (front_leads_kept old new keeps landing.front
        landing.at e (are landing inside)).1 leads,
  ),
)

-- where a step leads was put: over a space, over a token, and to its landings
pub step_put : (k0 k1 k2 k3 : Known) (a0 a1 a2 a3 : List Visit) (space token at behind : ℕ)
    (landings : List Landing) → Keeps k0 k1 → Keeps k1 k2 → IsFront k0 token →
    ((landing : Landing) → Contains landings landing → IsFront k0 landing.front) → (e : ℕ) →
    VisitsLead k1 a1 e ↔ (VisitsLead k0 a0 e ⊎ FrontLeads k0 space at e) →
    VisitsLead k2 a2 e ↔ (VisitsLead k1 a1 e ⊎ FrontLeads k1 token behind e) →
    VisitsLead k3 a3 e ↔ (VisitsLead k2 a2 e ⊎ LandingsLead k2 landings e) →
    VisitsLead k3 a3 e ↔ (VisitsLead k0 a0 e ⊎ (FrontLeads k0 space at e
    ⊎ (FrontLeads k0 token behind e ⊎ LandingsLead k0 landings e)))
step_put k0 k1 k2 k3 a0 a1 a2 a3 space token at behind landings keeps more token_is are e first second
    third =
    let led = front_leads_kept k0 k1 keeps token behind e token_is in
    let lands = landings_lead_kept k0 k2 (keeps_both k0 k1 k2 keeps more) landings are e in (
      λ h. elim (third.0 h) [
        | inr last ↦ inr (inr (inr (lands.1 last)))
        | inl earlier ↦ elim (second.0 earlier) [
          | inr mid ↦ inr (inr (inl (led.1 mid)))
          | inl old ↦ elim (first.0 old) [ inl oldest ↦ inl oldest | inr spaced ↦ inr (inl spaced) ]
        ]
      ],
      λ h. third.1 (elim h [
        | inl oldest ↦ inl (second.1 (inl (first.1 (inl oldest))))
        | inr (inl spaced) ↦ inl (second.1 (inl (first.1 (inr spaced))))
        | inr (inr (inl mid)) ↦ inl (second.1 (inr (led.0 mid)))
        | inr (inr (inr last)) ↦ inr (lands.0 last)
      ]),
    )

-- an optional space is one token at most
pub skip_near : (tokens : List Token) (p : ℕ) → skip tokens p ≤ p + 1
skip_near tokens p = go (kind_of (slice_get tokens p))
  where
    go : (o : Option Kind) → skip_past o p ≤ p + 1
    go None = omega arith
    go (Some kind.Space) = omega arith
    go (Some kind.Word) = omega arith
    go (Some kind.Other) = omega arith
    go (Some kind.Sentence) = omega arith
    go (Some kind.Stop) = omega arith
    go (Some kind.Tag) = omega arith
