-- One pass over hits in order: what is kept of those that begin before a token, and the best of those
-- that begin with it.
use Rattle.std.proofs.Common.{arith, ◌≡◌, ℕ, zero, suc, ◌+◌, ◌-◌, ◌<◌, ◌≤◌, List, [], ◌∷◌, ◌++◌, get_or, length, take, refl, sym, ap, subst, inl, inr, ◌∙◌}
use Rattle.std.specs.Prelude.{◌↔◌, ◌⊎◌, Contains, Option, Some, None, slice_get}
use Rattle.std.proofs.lemmas.Bool.Decides.{leb_tells}
use Rattle.std.proofs.lemmas.List.{append-nil, get_or-take}
use Rattle.std.proofs.lemmas.Option.{none-some, same_Some, slice_get_cases, slice_get_read, slice_get_within}
use Rattle.ux_base.specs.declared.settings.Policy.{Policy}
use Rattle.ux_base.specs.declared.settings.Policy.TheVariants.{Shortest, Longest, All}
use Rattle.ux_outputs.specs.declared.hit.Hit.{Hit}
use Rattle.ux_locate.specs.Index.{StandsBefore}
use Rattle.ux_locate.specs.Keeping.{AreBest, AreKept, IsReached, first_of, last_of, reach_of}
use Rattle.ux_locate.specs.Order.{AreInOrder}
use Rattle.ux_locate.proofs.BestLemmas.{best_none, best_same, seen_more}
use Rattle.ux_locate.proofs.KeepingLemmas.{kept_free, kept_none, kept_reached, kept_same}

stands_no_later : (a b : Hit) → StandsBefore a b → a.first ≤ b.first
stands_no_later a b (inl lt) = omega (arith, lt)
stands_no_later a b (inr (inl same)) = omega (arith, same.0)
stands_no_later a b (inr (inr same)) = omega (arith, same.0)

-- in a list in order, what stands first begins no later
pub in_order_firsts : (hits : List Hit) → AreInOrder StandsBefore hits → (i d : ℕ) (x y : Hit) →
    slice_get hits i ≡ Some x → slice_get hits (i + d) ≡ Some y → x.first ≤ y.first
in_order_firsts hits ordered i zero x y ex ey =
    let same = same_Some x y (sym ex ∙ subst (λ (n : ℕ). slice_get hits n ≡ Some y)
    (omega arith) ey) in
    omega (arith, ap (λ (h : Hit). h.first) same)
in_order_firsts hits ordered i (suc d) x y ex ey =
    let more : slice_get hits ((i + d) + 1) ≡ Some y =
    subst (λ (n : ℕ). slice_get hits n ≡ Some y) (omega arith) ey in
    let within = slice_get_within hits ((i + d) + 1) y more in
    elim ((slice_get_cases hits (i + d)).1) [
      | inl (z, lt, ez, same) ↦
          let before = in_order_firsts hits ordered i d x z ex ez in
          let next = stands_no_later z y (ordered (i + d) z y ez more) in
          omega (arith, before, next)
      | inr (past, none) ↦ absurd (omega (arith, past, within))
    ]

-- a policy's kept hits reach a token, or don't
pub reached_or_not : (policy : Policy) (reach : Option ℕ) (start : ℕ) →
    IsReached policy reach start ⊎ (IsReached policy reach start → ⊥)
reached_or_not All reach start = inr (λ r. r.0)
reached_or_not Longest None start = inr (λ r. none-some r.1 r.2)
reached_or_not Longest (Some last) start = elim (leb_tells start last) [
  | inl le ↦ inl (tt, last, refl, le.1)
  | inr lt ↦ inr (λ r. let same = same_Some last r.1 r.2 in
      absurd (omega (arith, lt.1, same, r.3)))
]
reached_or_not Shortest None start = inr (λ r. none-some r.1 r.2)
reached_or_not Shortest (Some last) start = elim (leb_tells start last) [
  | inl le ↦ inl (tt, last, refl, le.1)
  | inr lt ↦ inr (λ r. let same = same_Some last r.1 r.2 in
      absurd (omega (arith, lt.1, same, r.3)))
]

module _ (policy : Policy) where
  -- kept hits reach the token
  abbrev Reached : List Hit → ℕ → Type 0
  Reached kept first = IsReached policy (reach_of last_of kept) first

  abbrev IsBefore : List Hit → ℕ → Hit → Type 0
  IsBefore seen first x = Contains seen x × (x.first < first)

  abbrev IsHere : List Hit → ℕ → Hit → Type 0
  IsHere seen first x = Contains seen x × (x.first ≡ first)

  -- Of the hits that were seen, none begins after the token. These are kept of those that begin before
  -- it, and those are the best of the ones that begin with it, where they aren't left out.
  pub record IsPending (seen : List Hit) (first : ℕ) (kept best : List Hit) : Type 0 where
    pub low : (x : Hit) → Contains seen x → x.first ≤ first
    pub earlier : AreKept policy first_of last_of (IsBefore seen first) kept
    pub out : Reached kept first → best ≡ []
    pub here : (Reached kept first → ⊥) → (some : List Hit) × ((x : Hit) → Contains some x
        ↔ IsHere seen first x) × AreBest policy last_of (Contains some) best

  no_hit : (x : Hit) → let none : List Hit = [] in Contains none x → ⊥
  no_hit x c = absurd (omega (arith, c.1))

  no_best : (seen : List Hit) (first : ℕ) → ((x : Hit) → IsHere seen first x → ⊥) →
      let none : List Hit = [] in (some : List Hit) × ((x : Hit) → Contains some x
      ↔ IsHere seen first x) × AreBest policy last_of (Contains some) none
  no_best seen first none = (
    [],
    λ x. (λ c. absurd (no_hit x c), λ h. absurd (none x h)),
    best_none policy last_of (Contains []) no_hit,
  )

  -- nothing was seen
  pub pending_start : IsPending [] 0 [] []
  pending_start = record {
    low = λ x c. absurd (no_hit x c);
    earlier = kept_none policy first_of last_of (IsBefore [] 0) (λ x b. no_hit x b.0);
    out = λ r. refl;
    here = λ free. no_best [] 0 (λ x h. no_hit x h.0);
  }

  module _ (seen : List Hit) (first : ℕ) (kept best : List Hit)
      (pending : IsPending seen first kept best) where
    seen_splits : (x : Hit) → Contains seen x ↔ (IsBefore seen first x ⊎ IsHere seen first x)
    seen_splits x = (
      λ c. elim (leb_tells first x.first) [
        | inl le ↦
            let low = pending.low x c in
            inr (c, omega (arith, le.1, low))
        | inr lt ↦ inl (c, lt.1)
      ],
      λ f. elim f [ inl b ↦ b.0 | inr h ↦ h.0 ],
    )

    -- put together they are what is kept of all that was seen
    pub pending_all : AreKept policy first_of last_of (Contains seen) (kept ++ best)
    pending_all = elim (reached_or_not policy (reach_of last_of kept) first) [
      | inl reached ↦ subst (λ (l : List Hit). AreKept policy first_of last_of (Contains seen) l)
          (sym (ap (λ (l : List Hit). kept ++ l) (pending.out reached) ∙ append-nil kept))
          (kept_reached policy first_of last_of first (IsBefore seen first) (IsHere seen first)
          (Contains seen) (λ x b. b.1) (λ x h. h.1) seen_splits kept pending.earlier reached)
      | inr free ↦
          let some = pending.here free in
          kept_free policy first_of last_of first (IsBefore seen first) (IsHere seen first)
          (Contains seen) (λ x b. b.1) (λ x h. h.1) seen_splits kept pending.earlier free best
          (best_same policy last_of (Contains some.0) (IsHere seen first) some.1 best some.2)
    ]

    -- no more hits begin with the token: the next one is a later one
    pub pending_turn : (next : ℕ) → first < next → IsPending seen next (kept ++ best) []
    pending_turn next lt = record {
      low = λ x c. let low = pending.low x c in omega (arith, low, lt);
      earlier = kept_same policy first_of last_of (Contains seen) (IsBefore seen next)
          (λ x. (λ c. (c, let low = pending.low x c in omega (arith, low, lt)), λ b. b.0))
          (kept ++ best) pending_all;
      out = λ r. refl;
      here = λ free. no_best seen next
          (λ x h. let low = pending.low x h.0 in absurd (omega (arith, low, lt, h.1)));
    }

    module _ (hit : Hit) (at : hit.first ≡ first) where
      low_more : (x : Hit) → Contains (seen ++ hit ∷ []) x → x.first ≤ first
      low_more x c = elim ((seen_more seen hit x).0 c) [
        | inl old ↦ pending.low x old
        | inr same ↦ subst (λ (h : Hit). h.first ≤ first) same (omega (arith, at))
      ]

      earlier_more : AreKept policy first_of last_of (IsBefore (seen ++ hit ∷ []) first) kept
      earlier_more = kept_same policy first_of last_of (IsBefore seen first)
          (IsBefore (seen ++ hit ∷ []) first)
          (λ x. (
            λ b. ((seen_more seen hit x).1 (inl b.0), b.1),
            λ b. elim ((seen_more seen hit x).0 b.0) [
              | inl old ↦ (old, b.1)
              | inr same ↦
                  let first_is = ap (λ (h : Hit). h.first) same in
                  absurd (omega (arith, at, first_is, b.1))
            ],
          ))
          kept pending.earlier

      -- a hit comes that begins with the token, and is left out
      pending_left_out : Reached kept first → IsPending (seen ++ hit ∷ []) first kept best
      pending_left_out reached = record {
        low = low_more;
        earlier = earlier_more;
        out = pending.out;
        here = λ free. absurd (free reached);
      }

      -- or isn't
      pending_more : (Reached kept first → ⊥) → (new : List Hit) → ((some : List Hit) →
          AreBest policy last_of (Contains some) best →
          AreBest policy last_of (Contains (some ++ hit ∷ [])) new) →
          IsPending (seen ++ hit ∷ []) first kept new
      pending_more free new adds = record {
        low = low_more;
        earlier = earlier_more;
        out = λ reached. absurd (free reached);
        here = λ _.
            let some = pending.here free in (
              some.0 ++ hit ∷ [],
              λ x. (
                λ c. elim ((seen_more some.0 hit x).0 c) [
                  | inl old ↦
                      let h = (some.1 x).0 old in
                      ((seen_more seen hit x).1 (inl h.0), h.1)
                  | inr same ↦ (
                    (seen_more seen hit x).1 (inr same),
                    subst (λ (h : Hit). h.first ≡ first) same at,
                  )
                ],
                λ h. elim ((seen_more seen hit x).0 h.0) [
                  | inl old ↦ (seen_more some.0 hit x).1 (inl ((some.1 x).1 (old, h.1)))
                  | inr same ↦ (seen_more some.0 hit x).1 (inr same)
                ],
              ),
              adds some.0 some.2,
            );
      }

      -- a hit comes that begins with the token
      pub pending_hit : (new : List Hit) → (Reached kept first → new ≡ best) →
          ((Reached kept first → ⊥) → (some : List Hit) →
          AreBest policy last_of (Contains some) best →
          AreBest policy last_of (Contains (some ++ hit ∷ [])) new) →
          IsPending (seen ++ hit ∷ []) first kept new
      pending_hit new out adds = elim (reached_or_not policy (reach_of last_of kept) first) [
        | inl reached ↦
            subst (λ (l : List Hit). IsPending (seen ++ hit ∷ []) first kept l) (sym (out reached))
            (pending_left_out reached)
        | inr free ↦ pending_more free new (adds free)
      ]

-- a hit of a list in order begins no earlier than those before it
pub no_later : (hits seen : List Hit) (hit : Hit) → AreInOrder StandsBefore hits →
    seen ≡ take (length seen) hits → length seen < length hits →
    hit ≡ get_or hits (length seen) hit → (x : Hit) → Contains seen x → x.first ≤ hit.first
no_later hits seen hit ordered first within is x (i, lt, at) =
    let place : slice_get hits i ≡ Some x =
    slice_get_read hits (length hits) i x refl (omega (arith, lt, within))
    (sym at ∙ (ap (λ (l : List Hit). get_or l i x) first ∙ get_or-take (length seen) hits i x lt)) in
    in_order_firsts hits ordered i (length seen - i) x hit place
    (subst (λ (n : ℕ). slice_get hits n ≡ Some hit) (omega (arith, lt))
    (slice_get_read hits (length hits) (length seen) hit refl within is))
