-- A walk: what was reached is right, and the walk went on from each configuration before the next.
use Rattle.std.proofs.Common.{arith, ◌≡◌, ℕ, zero, suc, ◌+◌, ◌<◌, ◌≤◌, List, [], ◌∷◌, refl, sym, ◌∙◌, ap, subst, ◌⊎◌, inl, inr, ◌↔◌, length, length-append, get_or}
use Rattle.std.specs.Prelude.{Contains, None, Some, slice_get}
use Rattle.std.proofs.lemmas.Option.{same_Some, none-some, slice_get-get_or, slice_get_within, get_or_from_slice_get}
use Rattle.ux_alphabet.specs.Letters.{Letters}
use Rattle.ux_tokens.specs.Tokens.{Token}
use Rattle.ux_lexical_tables.specs.Tables.{Tables}
use Rattle.ux_net.specs.declared.net_graph.NetGraph.{NetGraph}
use Rattle.ux_net.specs.Nets.{net_grammar}
use Rattle.ux_net.specs.Measured.{IsMeasured}
use Rattle.ux_outputs.specs.declared.event.Event.{Event}
use Rattle.ux_meaning.specs.Meaning.{DerBy}
use Rattle.ux_walk.specs.Contexts.{Applying, ApplyAsMeant}
use Rattle.ux_walk.specs.Settings.{applied_text}
use Rattle.ux_walk.specs.declared.lists.Link.{Link}
use Rattle.ux_walk.specs.declared.noted.Noted.{Noted}
use Rattle.ux_walk.specs.declared.config.Frame.{Frame}
use Rattle.ux_walk.specs.declared.config.Visit.{Visit}
use Rattle.ux_walk.specs.declared.config.Config.{Config}
use Rattle.ux_walk.specs.declared.config.Return.{Return}
use Rattle.ux_walk.specs.declared.config.Found.{Found}
use Rattle.ux_walk.specs.declared.groups.Member.{Member}
use Rattle.ux_walk.specs.declared.reached.Reached.{Reached}
use Rattle.ux_walk.specs.Courses.{Course, GoesOn}
use Rattle.ux_walk.specs.Groups.{Grows}
use Rattle.ux_walk.specs.Links.{AreBelow, AreOnce}
use Rattle.ux_walk.specs.Configurations.{Adds, AddsFrom, Has, IsClosed, IsFoundAs, IsNamed, IsNothing, IsSound, IsVisit, Numbers, Of, Spells, main_visit}
use Rattle.ux_walk.proofs.Adding.{adds_behind}
use Rattle.ux_walk.proofs.Keeping.{Keeps, keeps, one_before, one_visit, spells_kept, telling_back, visit_back, visit_kept}
use Rattle.ux_walk.proofs.Completing.{IsRight, beginning_right, complete, spread_right, step_right, weighs, whole_begin}
use Rattle.ux_walk.proofs.Derived.{at_of}
use Rattle.ux_walk.proofs.GroupsLemmas.{nothing_below, nothing_in}
use Rattle.ux_walk.proofs.LinksLemmas.{get_extended}
use Rattle.ux_walk.proofs.OneStep.{onto-none, starts_back, starts_forth, step_forth}
use Rattle.ux_walk.proofs.Onward.{AreForward}

module _ {A : Type 0} where
  -- what stands before the end of a list that grew stood there
  pub earlier : (old new : List A) → Grows old new → (n : ℕ) (x : A) → n < length old →
      slice_get new n ≡ Some x → slice_get old n ≡ Some x
  earlier old new grows n x lt at =
      let was : slice_get old n ≡ Some (get_or old n x) = slice_get-get_or old n x lt in
      let now : slice_get new n ≡ Some (get_or old n x) =
      subst (λ (l : List A). slice_get l n ≡ Some (get_or old n x)) (sym grows.1)
      (get_extended old grows.0 n (get_or old n x) was) in
      was ∙ sym now ∙ at

  pub grown_length : (old new : List A) → Grows old new → length old ≤ length new
  grown_length old new grows =
      let is = ap (λ (l : List A). length l) grows.1 ∙ length-append old grows.0 in
      omega (arith, is)

less_or : (n m : ℕ) → n < m + 1 → (n < m) ⊎ (n ≡ m)
less_or zero zero lt = inr refl
less_or zero (suc m) lt = inl (omega arith)
less_or (suc n) zero lt = absurd (omega (arith, lt))
less_or (suc n) (suc m) lt = elim (less_or n m (omega (arith, lt))) [
  | inl less ↦ inl (omega (arith, less))
  | inr is ↦ inr (ap suc is)
]

-- what stands in a list stands before a place where nothing does
past : {A : Type 0} (xs : List A) (n m : ℕ) (x : A) → slice_get xs n ≡ Some x →
    slice_get xs m ≡ None → n < m
past [] n m x at none = absurd (let w = slice_get_within [] n x at in omega (arith, w))
past (y ∷ xs) n zero x at none = absurd (none-some y (sym none))
past (y ∷ xs) zero (suc m) x at none = omega arith
past (y ∷ xs) (suc n) (suc m) x at none =
    let less = past xs n m x at none in omega (arith, less)

module _ (none : Reached) (nothing : IsNothing none) where
  none_sound : IsSound none
  none_sound = record {
    events_below = subst (λ (l : List (Link Noted)). AreBelow l) (sym nothing.events)
        (nothing_below Noted);
    returns_grouped = nothing.returns_grouped;
    found_grouped = nothing.found_grouped;
    configs = λ c h. absurd (nothing_in c
        (subst (λ (l : List Config). Contains l c) nothing.configs h));
    returns = λ n w h. absurd (nothing_in (record { group = n; value = w })
        (subst (λ (l : List (Member Return)). Contains l (record { group = n; value = w }))
        nothing.returns h));
    found = λ n f h. absurd (nothing_in (record { group = n; value = f })
        (subst (λ (l : List (Member Found)). Contains l (record { group = n; value = f }))
        nothing.found h));
  }

  none_closed : IsClosed none
  none_closed = record {
    begins = λ n w h. absurd (nothing_in (record { group = n; value = w })
        (subst (λ (l : List (Member Return)). Contains l (record { group = n; value = w }))
        nothing.returns h));
    joins = λ n w f h k. absurd (nothing_in (record { group = n; value = w })
        (subst (λ (l : List (Member Return)). Contains l (record { group = n; value = w }))
        nothing.returns h));
  }

  none_had : (v : Visit) (w : Course) → Has none v w → ⊥
  none_had v w h = elim h [
    | inl c ↦ nothing_in c.0 (subst (λ (l : List Config). Contains l c.0) nothing.configs c.1)
    | inr o ↦ elim o [
      | inl x ↦ nothing_in (record { group = x.0; value = x.1 })
          (subst (λ (l : List (Member Return)). Contains l (record { group = x.0; value = x.1 }))
          nothing.returns x.2)
      | inr x ↦ nothing_in (record { group = x.0; value = x.1 })
          (subst (λ (l : List (Member Found)). Contains l (record { group = x.0; value = x.1 }))
          nothing.found x.2)
    ]
  ]

-- a visit keeps its number over the first step
pub begun_visit : {Told : List Event → Course → Type 0} (none mid r : Reached) (number start : ℕ) →
    IsNothing none → Numbers none mid (main_visit start) number →
    AddsFrom mid r (record {
      visit = number;
      here = record { graph = 1; state = 0 };
      at = start;
      events = 0;
    }) Told → IsVisit r number (main_visit start)
begun_visit none mid r number start nothing numbered adds =
    let first = numbered.adds (none_sound none nothing) in
    let second = adds (main_visit start) [] first.sound (record {
      visit = numbered.visit;
      events = record { listed = []; names = refl; each = tt };
    }) in
    visit_kept mid r (keeps second) number (main_visit start) numbered.visit

-- and over each step after it
pub on_visit : {Told : List Event → Course → Type 0} (old new : Reached) (next : ℕ) (c : Config)
    (number : ℕ) (v : Visit) → IsSound old → slice_get old.configs.keys next ≡ Some c →
    AddsFrom old new c Told → IsVisit old number v → IsVisit new number v
on_visit old new next c number v sound at adds is =
    let inside : Contains old.configs.keys c = (
      next,
      slice_get_within old.configs.keys next c at,
      get_or_from_slice_get old.configs.keys next c
          c at,
    ) in
    let named = sound.configs c inside in
    let all = adds named.0 named.2.before sound named.2.spells in
    visit_kept old new (keeps all) number v is

module _ (alphabet : Letters) (tokens : List Token) (tables : Tables) (applies : Applying)
    (graphs : List NetGraph) (meant : ApplyAsMeant (applied_text alphabet tokens tables) graphs
    applies) (start : ℕ) where
  abbrev IsDerived : ℕ → List Event → Type 0
  IsDerived j events =
      DerBy (applied_text alphabet tokens tables) (net_grammar graphs) meant.levels 1 start j
      events

  abbrev IsRightIn : Visit → Course → Type 0
  IsRightIn = IsRight alphabet tokens tables applies graphs meant

  abbrev main : Frame
  main = record { graph = 1; state = 0 }

  abbrev StepsOn : Frame → ℕ → List Event → Course → Type 0
  StepsOn f at before = GoesOn alphabet tokens tables applies graphs f [] at before

  -- what was reached is right, and the walk went on from all before the next
  pub record Walking (r : Reached) (next : ℕ) : Type 0 where
    pub sound : IsSound r
    pub closed : IsClosed r
    pub right : (v : Visit) (w : Course) → Has r v w → IsRightIn v w
    pub begun : (w : Course) → StepsOn main start [] w → Has r (main_visit start) w
    pub passed : next ≤ length r.configs.keys
    pub went : (n : ℕ) (c : Config) → n < next → slice_get r.configs.keys n ≡ Some c →
        (v : Visit) (before : List Event) → Spells r c v before → (w : Course) →
        StepsOn c.here c.at before w → Has r v w

  -- a configuration goes on in the text
  pub next_inside : (r : Reached) (next : ℕ) (c : Config) → Walking r next →
      slice_get r.configs.keys next ≡ Some c → c.at ≤ length tokens
  next_inside r next c walk at =
      let inside : Contains r.configs.keys c = (
        next,
        slice_get_within r.configs.keys next c at,
        get_or_from_slice_get r.configs.keys next c
            c at,
      ) in
      let s = walk.sound.configs c inside in
      subst (λ (x : Course). x.at ≤ length tokens) s.2.is
      (walk.right s.0 s.1 (inl (c, inside, s.2))).inside

  module _ (forward : AreForward alphabet tokens tables) (measured : IsMeasured graphs) where
    -- after the first step
    pub walking_begins : (none mid r : Reached) (number : ℕ) → IsNothing none →
        Numbers none mid (main_visit start) number → start ≤ length tokens →
        AddsFrom mid r (record { visit = number; here = main; at = start; events = 0 })
        (λ before. StepsOn main start before) → Walking r 0
    walking_begins none mid r number nothing numbered inside adds =
        let v = main_visit start in
        let first = numbered.adds (none_sound none nothing) in
        let second = adds v [] first.sound (record {
          visit = numbered.visit;
          events = record { listed = []; names = refl; each = tt };
        }) in
        let all = adds_behind (Of v (StepsOn main start [])) none mid r first second in
        record {
          sound = all.sound;
          closed = all.closed (none_closed none nothing);
          right = λ u w h. spread_right alphabet tokens tables applies graphs meant (λ x y e.
              elim e [
                | inl o ↦ absurd (none_had none nothing x y o)
                | inr t ↦ subst (λ (z : Visit). IsRightIn z y) (sym t.0)
                    (step_right alphabet tokens tables applies graphs meant forward measured v main
                    start [] y (beginning_right alphabet tokens tables applies graphs meant v
                    inside) t.1)
              ]) (all.only u w h);
          begun = λ w step. all.has v w (refl, step);
          passed = omega arith;
          went = λ n c lt. absurd (omega (arith, lt));
        }

    -- after one more
    pub walking_on : (old new : Reached) (next : ℕ) (c : Config) → Walking old next →
        slice_get old.configs.keys next ≡ Some c →
        AddsFrom old new c (λ before. StepsOn c.here c.at before) → Walking new (next + 1)
    walking_on old new next c walk at adds = record {
      sound = all.sound;
      closed = all.closed walk.closed;
      right = λ u w h. spread_right alphabet tokens tables applies graphs meant (λ x y e. elim e [
        | inl o ↦ walk.right x y o
        | inr t ↦ subst (λ (z : Visit). IsRightIn z y) (sym t.0)
            (step_right alphabet tokens tables applies graphs meant forward measured v c.here c.at
            before y (subst (λ (x : Course). IsRightIn v x) named.2.is
            (walk.right v named.1 (inl (c, inside, named.2)))) t.1)
      ]) (all.only u w h);
      begun = λ w step. all.kept (main_visit start) w (walk.begun w step);
      passed = let longer = grown_length old.configs.keys new.configs.keys all.configs in
          omega (arith, within, longer);
      went = λ n d lt there u b spells w step. elim (before_or n lt) [
        | inl less ↦ was n d less there u b spells w step
        | inr is ↦ now d (subst (λ m. slice_get new.configs.keys m ≡ Some d) is there) u b spells w
            step
      ];
    }
      where
        within : next < length old.configs.keys
        within = slice_get_within old.configs.keys next c at

        inside : Contains old.configs.keys c
        inside = (next, within, get_or_from_slice_get old.configs.keys next c c at)

        named : (v : Visit) × (w : Course) × IsNamed old c v w
        named = walk.sound.configs c inside

        v : Visit
        v = named.0

        before : List Event
        before = named.2.before

        all : Adds (Of v (StepsOn c.here c.at before)) old new
        all = adds v before walk.sound named.2.spells

        kept : Keeps old new
        kept = keeps all

        before_or : (n : ℕ) → n < next + 1 → (n < next) ⊎ (n ≡ next)
        before_or n lt = less_or n next lt

        was : (n : ℕ) (d : Config) → n < next → slice_get new.configs.keys n ≡ Some d →
            (u : Visit) (b : List Event) → Spells new d u b → (w : Course) →
            StepsOn d.here d.at b w → Has new u w
        was n d less there u b spells w step =
            let passed = walk.passed in
            let here = earlier old.configs.keys new.configs.keys all.configs n d
            (omega (arith, less, passed)) there in
            let s = walk.sound.configs d (
              n,
              slice_get_within old.configs.keys n d here,
              get_or_from_slice_get old.configs.keys n d d here,
            ) in
            let back : Spells old d u b = record {
              visit = visit_back old new kept d.visit s.0 u s.2.spells.visit spells.visit;
              events = telling_back old new kept d.events s.2.before b s.2.spells.events
                  spells.events;
            } in
            all.kept u w (walk.went n d less here u b back w step)

        now : (d : Config) → slice_get new.configs.keys next ≡ Some d → (u : Visit)
            (b : List Event) → Spells new d u b → (w : Course) → StepsOn d.here d.at b w →
            Has new u w
        now d there u b spells w step =
            let here = earlier old.configs.keys new.configs.keys all.configs next d within there in
            let same : d ≡ c = same_Some d c (sym here ∙ at) in
            let mine : Spells new c v before = spells_kept old new kept c v before
            named.2.spells in
            let of_c : Spells new c u b = subst (λ (x : Config). Spells new x u b) same spells in
            let visits : v ≡ u = one_visit new c.visit v u mine.visit of_c.visit in
            let befores : b ≡ before = one_before new c.events b before of_c.events mine.events in
            subst (λ (x : Visit). Has new x w) visits (all.has v w (
              refl,
              subst (λ (l : List Event). StepsOn c.here c.at l w) befores
                  (subst (λ (x : Config). StepsOn x.here x.at b w) same step),
            ))

    -- where nothing is left to go on from, all is found
    pub walking_ends : (r : Reached) (next : ℕ) → Walking r next →
        slice_get r.configs.keys next ≡ None → AreOnce r.visits.keys → (j : ℕ)
        (events : List Event) → IsFoundAs r (main_visit start) j events ↔ IsDerived j events
    walking_ends r next walk none once j events = (
      λ f.
          let v = main_visit start in
          let goes = (walk.right v _ (inr (inr f.has))).whole j events
          ([], (refl, refl), f.is ∙ sym (onto-none f.before)) in
          starts_back alphabet tokens tables applies graphs meant 1 start j events
          (whole_begin alphabet tokens tables applies graphs meant v j events goes),
      λ d.
          let n = step_forth alphabet tokens tables applies graphs meant main [] start [] j events
          (starts_forth alphabet tokens tables applies graphs meant 1 start j events d) in
          complete alphabet tokens tables applies graphs meant forward measured r walk.closed once
          walk.right went
          (weighs alphabet tokens tables applies graphs meant forward measured n.0 + 1)
          (main_visit start) n.0 j events (omega arith) (walk.begun n.0 n.1) n.2,
    )
      where
        went : (c : Config) → Contains r.configs.keys c → (v : Visit) (before : List Event) →
            Spells r c v before → (w : Course) → StepsOn c.here c.at before w → Has r v w
        went c inside =
            let at = at_of r.configs.keys c inside in
            walk.went at.0 c (within_next at.0 c at.1) at.1
          where
            within_next : (n : ℕ) (x : Config) → slice_get r.configs.keys n ≡ Some x → n < next
            within_next n x at = past r.configs.keys n next x at none
