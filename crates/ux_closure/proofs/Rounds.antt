-- Rounds: what was met after each, and that they end with all that is reached.
use Rattle.std.proofs.Common.{arith, ◌≡◌, ℕ, ◌+◌, ◌-◌, ◌<◌, ◌≤◌, List, [], ◌∷◌, ◌++◌, ◌⊎◌, ◌↔◌, inl, inr, refl, sym, ◌∙◌, ap, subst, length, drop, get_or, max, Bool, false}
use Rattle.std.specs.Prelude.{Some, None, slice_get, Contains, IsTrue, IfOk, Result, Ok, Err}
use Rattle.std.proofs.Math.Seq.{drop-append_seam}
use Rattle.std.proofs.Math.Nat.{eq-or-lt_of_le}
use Rattle.std.proofs.lemmas.Bool.{cases_lt}
use Rattle.std.proofs.lemmas.Option.{same_Some, none-some, slice_get_within, slice_get-get_or, get_or_from_slice_get}
use Rattle.std.proofs.lemmas.List.{length-append, length-drop, get_or-drop}
use Rattle.std.proofs.lemmas.List.Elements.{Contains-get_or, Contains-append_left, Contains-append_right, Contains-append_cases, Contains-push, Contains-push_cases}
use Rattle.ux_net.specs.declared.net_graph.NetGraph.{NetGraph}
use Rattle.ux_net.specs.Measured.{IsMeasured}
use Rattle.ux_walk.specs.declared.lists.Link.{Link}
use Rattle.ux_walk.specs.declared.config.Frame.{Frame}
use Rattle.ux_walk.specs.Leads.{Stack}
use Rattle.ux_walk.specs.Links.{Names, AreBelow, AreOnce}
use Rattle.ux_walk.proofs.LinksLemmas.{get_extended}
use Rattle.ux_walk.proofs.Weights.{weight_of, spelled, spells_named}
use Rattle.ux_closure.specs.declared.stand.Stand.{Stand}
use Rattle.ux_closure.specs.declared.closing.Closure.{Closure}
use Rattle.ux_closure.specs.Passing.{PassesOn, Reaches, stays, passes, ReachedFrom}
use Rattle.ux_closure.specs.Holding.{IsStack, AreNamed, Holds, Grows, Has, IsClosure}
use Rattle.ux_closure.specs.Meeting.{Known, Meets, IsSound, Adds, AddsFrom, IsAfter, IsAfterAt, IsAfterPlaces}
use Rattle.ux_closure.proofs.Adding.{nothing_in, adds_nothing, adds_then, adds_alike, adds_sound, one_stack, stack_kept, stack_was, grows_same, grows_more}
use Rattle.ux_closure.proofs.PutLemmas.{HasAll}
use Rattle.ux_closure.proofs.Falling.{passes_lighter}

module _ {A : Type 0} where
  contains_at : (xs : List A) (i : ℕ) (x : A) → slice_get xs i ≡ Some x → Contains xs x
  contains_at xs i x at = subst (λ (y : A). Contains xs y) (get_or_from_slice_get xs i x x at)
      (Contains-get_or xs i x (slice_get_within xs i x at))

  place_of : (xs : List A) (x : A) → Contains xs x → (i : ℕ) × (slice_get xs i ≡ Some x)
  place_of xs x h = (h.0, slice_get-get_or xs h.0 x h.1 ∙ ap (λ (y : A). Some y) h.2)

  -- what stands at a place is still there where more stands behind
  was_at : (xs ys zs : List A) (i : ℕ) (x : A) → zs ≡ xs ++ ys → i < length xs →
      slice_get zs i ≡ Some x → slice_get xs i ≡ Some x
  was_at xs ys zs i x is lt at =
      let there = slice_get-get_or xs i x lt in
      let same : get_or xs i x ≡ x = same_Some (get_or xs i x) x
      (sym (get_extended xs ys i (get_or xs i x) there)
      ∙ subst (λ (l : List A). slice_get l i ≡ Some x) is at) in
      there ∙ ap (λ (y : A). Some y) same

  still_at : (xs ys zs : List A) (i : ℕ) (x : A) → zs ≡ xs ++ ys → slice_get xs i ≡ Some x →
      slice_get zs i ≡ Some x
  still_at xs ys zs i x is at =
      subst (λ (l : List A). slice_get l i ≡ Some x) (sym is) (get_extended xs ys i x at)

  -- it is one of those from an earlier place on
  contains_from : (xs : List A) (from i : ℕ) (x : A) → from ≤ i → slice_get xs i ≡ Some x →
      Contains (drop from xs) x
  contains_from xs from i x le at =
      let within = slice_get_within xs i x at in
      let long = length-drop from xs in
      let place : from + (i - from) ≡ i = omega (arith, le) in
      let is : get_or (drop from xs) (i - from) x ≡ x = get_or-drop from xs (i - from) x
      ∙ (ap (λ n. get_or xs n x) place ∙ get_or_from_slice_get xs i x x at) in
      subst (λ (y : A). Contains (drop from xs) y) is
      (Contains-get_or (drop from xs) (i - from) x (omega (arith, within, long, le)))

  first_or_later : (x : A) (xs : List A) (y : A) → Contains (x ∷ xs) y →
      (x ≡ y) ⊎ Contains xs y
  first_or_later x xs y h = elim (Contains-append_cases (x ∷ []) xs y h) [
    | inl a ↦ elim (Contains-push_cases [] x y a) [
      | inl b ↦ absurd (nothing_in y b)
      | inr e ↦ inl e
    ]
    | inr b ↦ inr b
  ]

module _ (net : List NetGraph) (is_spaced : Bool) where
  -- a stand goes on as the stack that it names
  after_alike : (links : List (Link Frame)) (stand : Stand) (fs : Stack) →
      Names links stand.back fs → (next : Stack) →
      PassesOn net is_spaced (stand.here ∷ fs) next ↔ IsAfter net is_spaced links stand next
  after_alike links stand fs named next = (
    λ step. (stand.here ∷ fs, (refl, named), step),
    λ a. subst (λ (s : Stack). PassesOn net is_spaced s next)
        (one_stack links stand a.0 (stand.here ∷ fs) a.1 (refl, named)) a.2,
  )

  -- a step from the stand at a place
  pub steps_at : (old new : Known) (place : ℕ) (stand : Stand) → IsSound old →
      slice_get old.stands place ≡ Some stand →
      AddsFrom stand (λ fs. PassesOn net is_spaced (stand.here ∷ fs)) old new →
      Adds (IsAfterAt net is_spaced old place) old new
  steps_at old new place stand sound at adds =
      let named = sound.named stand (contains_at old.stands place stand at) in
      adds_alike (PassesOn net is_spaced (stand.here ∷ named.0))
      (IsAfterAt net is_spaced old place) old new (adds named.0 named.1) (λ next.
      let alike = after_alike old.links stand named.0 named.1 next in (
        λ step. (stand, at, alike.0 step),
        λ a.
            let same : a.0 ≡ stand = same_Some a.0 stand (sym a.1 ∙ at) in
            alike.1 (subst (λ (x : Stand). IsAfter net is_spaced old.links x next) same a.2),
      ))

  -- where none stands there
  pub steps_none : (old : Known) (place : ℕ) → IsSound old → slice_get old.stands place ≡ None →
      Adds (IsAfterAt net is_spaced old place) old old
  steps_none old place sound none =
      adds_nothing (IsAfterAt net is_spaced old place) old sound.below
      (λ next a. none-some a.0 (sym none ∙ a.1))

  module _ (old now : Known) (Told : Stack → Type 0) (sound : IsSound old)
      (adds : Adds Told old now) where
    -- a stand that was there goes on as before
    at_kept : (place : ℕ) → place < length old.stands → (next : Stack) →
        IsAfterAt net is_spaced now place next ↔ IsAfterAt net is_spaced old place next
    at_kept place lt next = (
      λ a.
          let at = was_at old.stands adds.more now.stands place a.0 adds.behind lt a.1 in
          let named = sound.named a.0 (contains_at old.stands place a.0 at) in (
            a.0,
            at,
            (
              a.2.0,
              stack_was old.links now.links adds.grows a.0 a.2.0 named a.2.1,
              a.2.2,
            ),
          ),
      λ a. (
        a.0,
        still_at old.stands adds.more now.stands place a.0 adds.behind a.1,
        (a.2.0, stack_kept old.links now.links adds.grows a.0 a.2.0 a.2.1, a.2.2),
      ),
    )

  pub round_first : (k : Known) (from : ℕ) → IsSound k →
      Adds (IsAfterPlaces net is_spaced k from from) k k
  round_first k from sound =
      adds_nothing (IsAfterPlaces net is_spaced k from from) k sound.below (λ next a.
      let above = a.1 in
      let under = a.2 in
      absurd (omega (arith, above, under)))

  -- one more place
  pub round_next : (k now new : Known) (from place : ℕ) → IsSound k → from ≤ place →
      place < length k.stands → Adds (IsAfterPlaces net is_spaced k from place) k now →
      Adds (IsAfterAt net is_spaced now place) now new →
      Adds (IsAfterPlaces net is_spaced k from (place + 1)) k new
  round_next k now new from place sound from_le lt before step =
      adds_then (IsAfterPlaces net is_spaced k from place) (IsAfterAt net is_spaced now place)
      (IsAfterPlaces net is_spaced k from (place + 1)) k now new before step (λ next.
      let kept = at_kept k now (IsAfterPlaces net is_spaced k from place) sound before place lt next
      in (
        λ a. parts next a.0 a.1 a.2 a.3 kept,
        λ a. elim a [
          | inl b ↦
              let under = b.2 in
              (b.0, b.1, omega (arith, under), b.3)
          | inr b ↦ (place, from_le, omega arith, kept.0 b)
        ],
      ))
    where
      parts : (next : Stack) (p : ℕ) → from ≤ p → p < place + 1 →
          IsAfterAt net is_spaced k p next →
          (IsAfterAt net is_spaced now place next ↔ IsAfterAt net is_spaced k place next) →
          IsAfterPlaces net is_spaced k from place next
          ⊎ IsAfterAt net is_spaced now place next
      parts next p above under after kept =
          elim (eq-or-lt_of_le {n = p} {m = place} (omega (arith, under))) [
            | inl e ↦ inr (kept.1
                (subst (λ n. IsAfterAt net is_spaced k n next) e after))
            | inr less ↦ inl (p, above, less, after)
          ]

  pub round_all : (k now : Known) (from place to : ℕ) → place ≤ to → to ≤ place →
      Adds (IsAfterPlaces net is_spaced k from place) k now →
      Adds (IsAfterPlaces net is_spaced k from to) k now
  round_all k now from place to le ge adds =
      let same : place ≡ to = omega (arith, le, ge) in
      subst (λ n. Adds (IsAfterPlaces net is_spaced k from n) k now) same adds

  module _ (given : Stack → Type 0) (links : List (Link Frame)) where
    -- what was met is reached, and stands before the place were gone on from
    pub record Closing (k : Known) (from : ℕ) : Type 0 where
      pub sound : IsSound k
      pub grows : Grows links k.links
      pub given_met : (s : Stack) → given s → Meets k s
      pub reached : (s : Stack) → Meets k s → ReachedFrom net is_spaced given s
      pub closed : (place : ℕ) → place < from → (s : Stack) →
          IsAfterAt net is_spaced k place s → Meets k s
      pub within : from ≤ length k.stands

    reach_on : {a b : Stack} (c : Stack) → Reaches net is_spaced a b → PassesOn net is_spaced b c →
        Reaches net is_spaced a c
    reach_on c stays step = passes c step stays
    reach_on c (passes next first more) step = passes next first (reach_on c more step)

    meets_at : (k : Known) (stand : Stand) (s : Stack) → Contains k.stands stand →
        IsStack k.links stand s → Meets k s
    meets_at k stand [] h is = absurd is
    meets_at k stand (f ∷ fs) h is = (stand, h, is)

    -- after a round
    pub closing_round : (k new : Known) (from to : ℕ) → Closing k from → to ≡ length k.stands →
        Adds (IsAfterPlaces net is_spaced k from to) k new → Closing new to
    closing_round k new from to was to_is adds = record {
      sound = adds_sound (IsAfterPlaces net is_spaced k from to) k new was.sound adds;
      grows = grows_more links k.links new.links was.grows adds.grows;
      given_met = λ s g. (adds.has s).1 (inl (was.given_met s g));
      reached = λ s h. elim ((adds.has s).0 h) [
        | inl o ↦ was.reached s o
        | inr a ↦
            let stand = a.3.0 in
            let first = a.3.2.0 in
            let before = was.reached first (meets_at k stand first
            (contains_at k.stands a.0 stand a.3.1) a.3.2.1) in
            (before.0, before.1, reach_on s before.2 a.3.2.2)
      ];
      closed = λ place lt s a.
          let kept = at_kept k new (IsAfterPlaces net is_spaced k from to) was.sound adds place
          (omega (arith, lt, to_is)) s in
          elim (cases_lt place from) [
            | inl less ↦ (adds.has s).1 (inl (was.closed place less s (kept.0 a)))
            | inr above ↦ (adds.has s).1 (inr (place, above, lt, kept.0 a))
          ];
      within =
          let long = ap (λ (l : List Stand). length l) adds.behind in
          let parts = length-append k.stands adds.more in
          omega (arith, long, parts, to_is);
    }

    -- where no stand is left to go on from, all is met that is reached
    pub closing_ends : (k : Known) (from : ℕ) → Closing k from → length k.stands ≤ from →
        (s : Stack) → Meets k s ↔ ReachedFrom net is_spaced given s
    closing_ends k from closing past s = (
      closing.reached s,
      λ r. on r.2 (closing.given_met r.0 r.1),
    )
      where
        one_on : (a b : Stack) → Meets k a → PassesOn net is_spaced a b → Meets k b
        one_on [] b met step = absurd step
        one_on (f ∷ fs) b met step =
            let at = place_of k.stands met.0 met.1 in
            let within = slice_get_within k.stands at.0 met.0 at.1 in
            closing.closed at.0 (omega (arith, within, past)) b
            (met.0, at.1, (f ∷ fs, met.2, step))

        on : {a b : Stack} → Reaches net is_spaced a b → Meets k a → Meets k b
        on stays met = met
        on {a = a} (passes next step more) met = on more (one_on a next met step)

  -- before the first round the given stands alone were met
  pub closing_begins : (k : Known) (stands : List Stand) → AreBelow k.links →
      AreNamed k.links stands → HasAll k.stands stands → k.ends ≡ false →
      Closing (Holds k.links stands) k.links k 0
  closing_begins k stands below named all none = record {
    sound = record { below = below; named = λ x h. named x ((all x).0 h) };
    grows = grows_same k.links below;
    given_met = begin;
    reached = λ s h. (s, back s h, stays);
    closed = λ place lt. absurd (omega (arith, lt));
    within = omega arith;
  }
    where
      begin : (s : Stack) → Holds k.links stands s → Meets k s
      begin [] g = absurd g.2
      begin (f ∷ fs) g = (g.0, (all g.0).1 g.1, g.2)

      back : (s : Stack) → Meets k s → Holds k.links stands s
      back [] h = let no : IsTrue false = subst (λ (b : Bool). IsTrue b) none h in cc
      back (f ∷ fs) h = (h.0, (all h.0).0 h.1, h.2)

  abbrev load : List (Link Frame) → Stand → ℕ
  load links stand = weight_of net 1 (stand.here ∷ spelled links stand.back stand.back)

  abbrev greatest_of : List (Link Frame) → List Stand → ℕ
  greatest_of links [] = 0
  greatest_of links (s ∷ ss) = max (load links s + 1) (greatest_of links ss)

  -- one more than the greatest weight of a stand that isn't gone on from yet
  abbrev pub greatest : Known → (from : ℕ) → ℕ
  greatest k from = greatest_of k.links (drop from k.stands)

  load_is : (links : List (Link Frame)) → AreBelow links → (stand : Stand) (s : Stack) →
      IsStack links stand s → load links stand ≡ weight_of net 1 s
  load_is links below stand [] is = absurd is
  load_is links below stand (f ∷ fs) is =
      ap (λ (l : Stack). weight_of net 1 (stand.here ∷ l))
      (spells_named links below fs stand.back stand.back is.1 (omega arith))
      ∙ ap (λ (g : Frame). weight_of net 1 (g ∷ fs)) is.0

  below_greatest : (links : List (Link Frame)) (ss : List Stand) (s : Stand) → Contains ss s →
      load links s < greatest_of links ss
  below_greatest links [] s h = absurd (nothing_in s h)
  below_greatest links (t ∷ ts) s h = elim (first_or_later t ts s h) [
    | inl e ↦ subst (λ (x : Stand). load links x < greatest_of links (t ∷ ts)) e (omega arith)
    | inr l ↦ let b = below_greatest links ts s l in omega (arith, b)
  ]

  all_below : (links : List (Link Frame)) (ss : List Stand) (n : ℕ) → 0 < n →
      ((s : Stand) → Contains ss s → load links s + 1 < n) → greatest_of links ss < n
  all_below links [] n some each = omega (arith, some)
  all_below links (t ∷ ts) n some each =
      let a = each t (Contains-append_left (t ∷ []) ts t (Contains-push [] t)) in
      let b = all_below links ts n some (λ s h. each s (Contains-append_right (t ∷ []) ts s h)) in
      omega (arith, a, b)

  -- each round has less to do
  pub greatest_falls : IsMeasured net → (k new : Known) (from to : ℕ) → IsSound k →
      from < length k.stands → to ≡ length k.stands →
      Adds (IsAfterPlaces net is_spaced k from to) k new →
      greatest new to < greatest k from
  greatest_falls measured k new from to sound some to_is adds =
      let rest : drop to new.stands ≡ adds.more =
      ap (λ n. drop n new.stands) to_is
      ∙ (ap (λ (l : List Stand). drop (length k.stands) l) adds.behind
      ∙ drop-append_seam k.stands adds.more) in
      subst (λ (l : List Stand). greatest_of new.links l < greatest k from) (sym rest)
      (all_below new.links adds.more (greatest k from) positive each)
    where
      old_below : (place : ℕ) (stand : Stand) → from ≤ place →
          slice_get k.stands place ≡ Some stand → load k.links stand < greatest k from
      old_below place stand above at = below_greatest k.links (drop from k.stands) stand
          (contains_from k.stands from place stand above at)

      none : Stand
      none = record { here = record { graph = 0; state = 0 }; back = 0 }

      positive : 0 < greatest k from
      positive = let b = old_below from (get_or k.stands from none) (omega arith)
          (slice_get-get_or k.stands from none some) in omega (arith, b)

      each : (s : Stand) → Contains adds.more s → load new.links s + 1 < greatest k from
      each s h =
          let t = adds.told s h in
          let a = t.2 in
          let less = passes_lighter net is_spaced measured a.3.2.0 t.0 a.3.2.2 in
          let this = load_is new.links adds.grows.below s t.0 t.1 in
          let that = load_is k.links sound.below a.3.0 a.3.2.0 a.3.2.1 in
          let top = old_below a.0 a.3.0 a.1 a.3.1 in
          omega (arith, less, this, that, top)

module _ (net : List NetGraph) (is_spaced : Bool) (given : Stack → Type 0)
    (links : List (Link Frame)) (k : Known) (from : ℕ)
    (closing : Closing net is_spaced given links k from) (past : length k.stands ≤ from) where
  closure_of : (closure : Closure) → closure.stands.items ≡ k.stands → closure.ends ≡ k.ends →
      AreOnce closure.stands.items → IsClosure net is_spaced given k.links closure
  closure_of closure stands ends once = record {
    exactly = λ s. subst (λ (b : Bool).
        Has k.links closure.stands.items b s ↔ ReachedFrom net is_spaced given s) (sym ends)
        (subst (λ (l : List Stand). Has k.links l k.ends s
        ↔ ReachedFrom net is_spaced given s) (sym stands)
        (closing_ends net is_spaced given links k from closing past s));
    named = subst (λ (l : List Stand). AreNamed k.links l) (sym stands) closing.sound.named;
    once = once;
  }

  -- what was met in the end is the closure
  pub closing_all : {E : Type 0} (r : Result Closure E) →
      IfOk r (λ closure. closure.stands.items ≡ k.stands) →
      IfOk r (λ closure. closure.ends ≡ k.ends) →
      IfOk r (λ closure. AreOnce closure.stands.items) →
      IfOk r (IsClosure net is_spaced given k.links)
  closing_all (Ok closure) stands ends once = closure_of closure stands ends once
  closing_all (Err e) stands ends once = tt
