-- The hits that a policy keeps, as those from one start more come.
use Rattle.std.proofs.Common.{arith, ◌≡◌, ℕ, ◌+◌, ◌-◌, ◌<◌, ◌≤◌, List, [], ◌∷◌, ◌++◌, length, refl, sym, ap, subst, inl, inr, ◌∙◌}
use Rattle.std.specs.Prelude.{◌↔◌, ◌⊎◌, Bool, true, false, Contains, IsTrue, Option, Some, option_map, slice_get}
use Rattle.std.proofs.lemmas.Bool.Decides.{leb_tells}
use Rattle.std.proofs.lemmas.List.{append-nil, get_or-append-add, length-append}
use Rattle.std.proofs.lemmas.Option.{get_or_from_slice_get, none-some, same_Some, slice_get_cases, slice_get_within}
use Rattle.std.proofs.lemmas.List.Elements.{Contains-append_left, Contains-append_right, Contains-append_cases}
use Rattle.ux_base.proofs.FirstsLemmas.{Contains-from_place}
use Rattle.ux_base.specs.declared.settings.Policy.{Policy}
use Rattle.ux_locate.specs.Keeping.{AreBest, AreKept, IsApartKeeping, IsAsGood, IsKept, IsReached, reach_of}
use Rattle.ux_locate.proofs.BestLemmas.{good_same}

less_or_more : (a b : ℕ) → (a < b) ⊎ (b ≤ a)
less_or_more a b = elim (leb_tells b a) [ inl le ↦ inr le.1 | inr lt ↦ inl lt.1 ]

module _ {X : Type 0} where
  right_place : (xs ys : List X) (n : ℕ) (y : X) → slice_get (xs ++ ys) (length xs + n) ≡ Some y →
      Contains ys y
  right_place xs ys n y e =
      let lt = slice_get_within (xs ++ ys) (length xs + n) y e in (
        n,
        omega (arith, lt, length-append xs ys),
        sym (get_or-append-add xs ys n y)
            ∙ get_or_from_slice_get (xs ++ ys) (length xs + n) y y e,
      )

  -- the last of two lists is one of the second, or the last of the first where the second has none
  last_cases : (xs ys : List X) (y : X) → slice_get (xs ++ ys) (length (xs ++ ys) - 1) ≡ Some y →
      Contains ys y ⊎ ((ys ≡ []) × (slice_get xs (length xs - 1) ≡ Some y))
  last_cases xs [] y e = inr (
    refl,
    subst (λ (l : List X). slice_get l (length l - 1) ≡ Some y) (append-nil xs) e,
  )
  last_cases xs (z ∷ zs) y e =
      let place : length (xs ++ z ∷ zs) - 1 ≡ length xs + length zs =
      omega (arith, length-append xs (z ∷ zs)) in
      inl (right_place xs (z ∷ zs) (length zs) y
      (subst (λ (n : ℕ). slice_get (xs ++ z ∷ zs) n ≡ Some y) place e))

module _ {X : Type 0} (policy : Policy) (first last : X → ℕ) where
  abbrev Kept : (X → Type 0) → List X → X → Type 0
  Kept Is kept x = IsKept policy first last Is kept x

  abbrev Keeping : (X → Type 0) → List X → Type 0
  Keeping Is kept = AreKept policy first last Is kept

  -- a set that has the same is served by the same
  pub kept_same : (Is Other : X → Type 0) → ((x : X) → Is x ↔ Other x) → (kept : List X) →
      Keeping Is kept → Keeping Other kept
  kept_same Is Other same kept are = record {
    exactly = λ x. (
      λ c. let k = (are.exactly x).0 c in record {
        is = (same x).0 k.is;
        best = λ other o. k.best other ((same other).1 o);
        apart = k.apart;
      },
      λ k. (are.exactly x).1 (record {
        is = (same x).1 k.is;
        best = λ other o. k.best other ((same other).0 o);
        apart = k.apart;
      }),
    );
    latest = are.latest;
  }

  -- of nothing
  pub kept_none : (Is : X → Type 0) → ((x : X) → Is x → ⊥) → Keeping Is []
  kept_none Is none = record {
    exactly = λ x. (λ c. absurd (omega (arith, c.1)), λ k. absurd (none x k.is));
    latest = λ x y c e. absurd (omega (arith, c.1));
  }

  -- what is kept of hits before a start, those from there, and all of them
  module _ (start : ℕ) (Before Here All : X → Type 0)
      (before : (x : X) → Before x → first x < start) (here : (x : X) → Here x → first x ≡ start)
      (splits : (x : X) → All x ↔ (Before x ⊎ Here x)) (kept : List X)
      (are : Keeping Before kept) where
    of_kept : (x : X) → Contains kept x → Before x
    of_kept x c = ((are.exactly x).0 c).is

    before_start : (x : X) → Contains kept x → first x < start
    before_start x c = before x (of_kept x c)

    -- hits that begin here are no rivals of one that begins before
    rivals : (x : X) → Before x →
        ((other : X) → Before other → first other ≡ first x → IsAsGood policy (last x) (last other)) →
        (other : X) → All other → first other ≡ first x → IsAsGood policy (last x) (last other)
    rivals x b best other o same = elim ((splits other).0 o) [
      | inl early ↦ best other early same
      | inr now ↦ absurd (omega (arith, same, here other now, before x b))
    ]

    is_all : (x : X) → Before x → All x
    is_all x b = (splits x).1 (inl b)

    -- a kept one reaches the start: nothing is added
    pub kept_passed : IsApartKeeping policy → (y : X) → Contains kept y → start ≤ last y →
        Keeping All kept
    kept_passed apart y c reaches = record {
      exactly = λ x. (
        λ in'. let k = (are.exactly x).0 in' in record {
          is = is_all x k.is;
          best = rivals x k.is k.best;
          apart = k.apart;
        },
        λ k. elim ((splits x).0 k.is) [
          | inl early ↦ (are.exactly x).1 (record {
            is = early;
            best = λ other o. k.best other (is_all other o);
            apart = k.apart;
          })
          | inr now ↦
              let at = here x now in
              let low = before_start y c in
              let clear = k.apart apart y c (omega (arith, at, low)) in
              absurd (omega (arith, clear, at, reaches))
        ],
      );
      latest = are.latest;
    }

    -- no kept one reaches the start: the best of those from there are added
    module _ (best : List X) (bests : AreBest policy last Here best)
        (clear : IsApartKeeping policy → (x : X) → Contains kept x → last x < start) where
      apart_left : (x : X) → Before x → (IsApartKeeping policy → (other : X) → Contains kept other →
          first other < first x → last other < first x) → IsApartKeeping policy → (other : X) →
          Contains (kept ++ best) other → first other < first x → last other < first x
      apart_left x b apart single other c lt = elim (Contains-append_cases kept best other c) [
        | inl old ↦ apart single other old lt
        | inr new ↦
            let at = here other ((bests.exactly other).0 new).0 in
            absurd (omega (arith, at, lt, before x b))
      ]

      apart_right : (x : X) → Here x → IsApartKeeping policy → (other : X) →
          Contains (kept ++ best) other → first other < first x → last other < first x
      apart_right x now single other c lt = elim (Contains-append_cases kept best other c) [
        | inl old ↦ omega (arith, clear single other old, here x now)
        | inr new ↦
            let at = here other ((bests.exactly other).0 new).0 in
            absurd (omega (arith, at, lt, here x now))
      ]

      good_right : (x : X) → Here x → ((other : X) → Here other →
          IsAsGood policy (last x) (last other)) → (other : X) → All other →
          first other ≡ first x → IsAsGood policy (last x) (last other)
      good_right x now good other o same = elim ((splits other).0 o) [
        | inl early ↦ absurd (omega (arith, same, here x now, before other early))
        | inr later ↦ good other later
      ]

      -- the last one of all begins last
      latest_more : (x y : X) → Contains (kept ++ best) x →
          slice_get (kept ++ best) (length (kept ++ best) - 1) ≡ Some y → first x ≤ first y
      latest_more x y c e = elim (last_cases kept best y e) [
        | inl new ↦
            let at = here y ((bests.exactly y).0 new).0 in
            elim (Contains-append_cases kept best x c) [
              | inl old ↦ omega (arith, before_start x old, at)
              | inr other ↦ omega (arith, here x ((bests.exactly x).0 other).0, at)
            ]
        | inr (none, old_last) ↦ elim (Contains-append_cases kept best x c) [
          | inl old ↦ are.latest x y old old_last
          | inr new ↦
              let in' = subst (λ (l : List X). Contains l x) none new in
              absurd (omega (arith, in'.1))
        ]
      ]

      pub kept_more : Keeping All (kept ++ best)
      kept_more = record {
        exactly = λ x. (
          λ in'. elim (Contains-append_cases kept best x in') [
            | inl old ↦
                let k = (are.exactly x).0 old in record {
                  is = is_all x k.is;
                  best = rivals x k.is k.best;
                  apart = apart_left x k.is k.apart;
                }
            | inr new ↦
                let f = (bests.exactly x).0 new in record {
                  is = (splits x).1 (inr f.0);
                  best = good_right x f.0 f.1;
                  apart = apart_right x f.0;
                }
          ],
          λ k. elim ((splits x).0 k.is) [
            | inl early ↦ Contains-append_left kept best x ((are.exactly x).1 (record {
              is = early;
              best = λ other o. k.best other (is_all other o);
              apart = λ single other c. k.apart single other
                  (Contains-append_left kept best other c);
            }))
            | inr now ↦ Contains-append_right kept best x ((bests.exactly x).1 (
              now,
              λ other o. k.best other ((splits other).1 (inr o))
                  (here other o ∙ sym (here x now)),
            ))
          ],
        );
        latest = latest_more;
      }

    -- the last kept one reaches the start, where the policy lets none overlap
    reaching : (reach : ℕ) → reach_of last kept ≡ Some reach →
        (y : X) × Contains kept y × (last y ≡ reach)
    reaching reach is = elim ((slice_get_cases kept (length kept - 1)).1) [
      | inl (y, lt, e, same) ↦ (
        y,
        Contains-from_place kept (length kept - 1) y e,
        same_Some (last y) reach (sym (ap (option_map last) e) ∙ is),
      )
      | inr (past, none) ↦ absurd (none-some reach (sym (ap (option_map last) none) ∙ is))
    ]

    pub kept_reached : IsReached policy (reach_of last kept) start → Keeping All kept
    kept_reached (apart, reach, is, within) =
        let r = reaching reach is in
        kept_passed apart r.0 r.1 (subst (λ (n : ℕ). start ≤ n) (sym r.2) within)

    -- it doesn't: no kept one does
    clear_by : (y : X) → slice_get kept (length kept - 1) ≡ Some y → last y < start →
        IsApartKeeping policy → (x : X) → Contains kept x → last x < start
    clear_by y e low apart x c =
        let there = (are.exactly y).0 (Contains-from_place kept (length kept - 1) y e) in
        let k = (are.exactly x).0 c in
        let le = are.latest x y c e in
        elim (less_or_more (first x) (first y)) [
          | inl lt ↦
              let clear = there.apart apart x c lt in
              omega (arith, clear, before y there.is)
          | inr ge ↦
              let together : first x ≡ first y = omega (arith, le, ge) in
              let same = good_same policy (last x) (last y) apart
              (k.best y there.is (sym together)) (there.best x k.is together) in
              omega (arith, same, low)
        ]

    clear_of : (IsReached policy (reach_of last kept) start → ⊥) → IsApartKeeping policy → (x : X) →
        Contains kept x → last x < start
    clear_of free apart x c = elim ((slice_get_cases kept (length kept - 1)).1) [
      | inl (y, lt, e, same) ↦ elim (less_or_more (last y) start) [
        | inl low ↦ clear_by y e low apart x c
        | inr within ↦ absurd (free (apart, last y, ap (option_map last) e, within))
      ]
      | inr (past, none) ↦ absurd (omega (arith, past, c.1))
    ]

    pub kept_free : (IsReached policy (reach_of last kept) start → ⊥) → (best : List X) →
        AreBest policy last Here best → Keeping All (kept ++ best)
    kept_free free best bests = kept_more best bests (clear_of free)

-- what a test of the last kept one tells
pub told_reach : {X : Type 0} (policy : Policy) (last : X → ℕ) (kept lent : List X)
    (reach : Option ℕ) (start : ℕ) (test : Bool) → IsTrue test ↔ IsReached policy reach start →
    reach ≡ reach_of last lent → lent ≡ kept →
    (test ≡ true → IsReached policy (reach_of last kept) start)
    × (test ≡ false → IsReached policy (reach_of last kept) start → ⊥)
told_reach policy last kept lent reach start test tells is lends =
    let same = is ∙ ap (reach_of last) lends in (
      λ yes. subst (λ (r : Option ℕ). IsReached policy r start) same (tells.0 yes),
      λ fails reached.
          let yes = tells.1 (subst (λ (r : Option ℕ). IsReached policy r start) (sym same) reached) in
          cc,
    )
