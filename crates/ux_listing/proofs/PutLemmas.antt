-- Items added one by one, with where they come from.
use Rattle.std.proofs.Common.{◌≡◌, ℕ, ◌+◌, ◌<◌, List, inl, inr, refl, sym, ap, subst, ◌∙◌, length, take, get_or}
use Rattle.std.specs.Prelude.{Some, slice_get, Contains}
use Rattle.ux_listing.specs.declared.config.Item.{Item}
use Rattle.ux_listing.specs.declared.config.Item.TheVariants.{At, Waits, Ends}
use Rattle.ux_listing.specs.declared.config.Return.{Return}
use Rattle.ux_listing.specs.declared.config.Found.{Found}
use Rattle.ux_listing.specs.declared.config.Mark.{Mark}
use Rattle.ux_listing.specs.Reaching.{AreJoined, StaysTold}
use Rattle.ux_listing.specs.Sets.{Adds, IsAdded}
use Rattle.ux_listing.specs.Walking.{Comes, IsJoin, IsPut, IsSeen, joined}
use Rattle.ux_listing.proofs.ReachingLemmas.{seen_still}
use Rattle.ux_listing.proofs.SetsLemmas.{adds_as, adds_both, taken_before, taken_cases, taken_itself}

-- what stands in place of a missing item
abbrev pub no_item : Item
no_item = At (record {
  visit = record { graph = 0; at = 0; fold = 0 };
  state = 0;
  at = 0;
  fold = 0;
})

module _ (items : List Item) where
  -- one more item was added
  pub put_next : (old mid new : List Item) (i : ℕ) (item : Item) → i < length items →
      item ≡ get_or items i item → Adds (Contains (take i items)) old mid →
      Adds (λ w. w ≡ item) mid new → Adds (Contains (take (i + 1) items)) old new
  put_next old mid new i item lt is a b = adds_both
      (adds_as (λ w h. taken_before items i item w lt is h) a)
      (adds_as (λ w e. subst (Contains (take (i + 1) items)) (sym e) (taken_itself items i item lt is))
      b)

  -- and was seen
  pub seen_next : (mid new : List Item) (was told : (item origin : ℕ) → Type 0) →
      StaysTold was told → (from : Item) (i : ℕ) (item : Item) → i < length items →
      item ≡ get_or items i item →
      ((w : Item) → Contains (take i items) w → IsSeen mid was from w) →
      Adds (λ w. w ≡ item) mid new → IsSeen new told from item → (w : Item) →
      Contains (take (i + 1) items) w → IsSeen new told from w
  seen_next mid new was told stays from i item lt is before adds here w h =
      elim (taken_cases items i item w lt is h) [
        | inl o ↦ seen_still mid new adds.kept was told stays from w (before w o)
        | inr e ↦ subst (IsSeen new told from) (sym e) here
      ]

-- an item that was put has a number, and it was told from where it comes
pub comes_here : (old new : List Item) (told : (item origin : ℕ) → Type 0) (from item : Item)
    (origin place : ℕ) → IsAdded old new item → slice_get old origin ≡ Some from →
    slice_get new place ≡ Some item → told place origin → Comes new told from item
comes_here old new told from item origin place added at here is_told = record {
  i = origin;
  j = place;
  origin = added.adds.kept origin from at;
  here = here;
  is_told = is_told;
}

-- where one goes on behind the other
module _ (Marked : Mark → Type 0) (waits end : ℕ) (old : List Item)
    (told : (item origin : ℕ) → Type 0) where
  abbrev One : (i j : ℕ) → Type 0
  One i j = (i ≡ waits) × (j ≡ end)

  -- there is no such caller, or no such end
  pub joins_nowhere : ((r : Return) (f : Found) → slice_get old waits ≡ Some (Waits r) →
      slice_get old end ≡ Some (Ends f) → ⊥) → AreJoined Marked One old old told
  joins_nowhere never = record {
    adds = record { only = λ w h. inl h; kept = λ i w h. h };
    put = λ i j pair r f at at'. absurd (never r f
        (ap (λ (k : ℕ). slice_get old k) (sym pair.0) ∙ at)
        (ap (λ (k : ℕ). slice_get old k) (sym pair.1) ∙ at'));
  }

  module _ (waiting : Return) (found : Found) (is_caller : slice_get old waits ≡ Some (Waits waiting))
      (is_end : slice_get old end ≡ Some (Ends found)) where
    one_pair : (P : Return → Found → Type 0) → P waiting found → (i j : ℕ) → One i j →
        (r : Return) (f : Found) → slice_get old i ≡ Some (Waits r) →
        slice_get old j ≡ Some (Ends f) → P r f
    one_pair P so i j pair r f at at' =
        let a : Some (Waits waiting) ≡ Some (Waits r) = sym is_caller
        ∙ (ap (λ (k : ℕ). slice_get old k) (sym pair.0) ∙ at) in
        let b : Some (Ends found) ≡ Some (Ends f) = sym is_end
        ∙ (ap (λ (k : ℕ). slice_get old k) (sym pair.1) ∙ at') in
        let same_r : waiting ≡ r = cc in
        let same_f : found ≡ f = cc in
        subst (λ (x : Return). P x f) same_r (subst (λ (y : Found). P waiting y) same_f so)

    -- it isn't marked
    pub joins_unmarked : (IsPut Marked (IsJoin old told waiting found) (At (joined waiting found))) →
        AreJoined Marked One old old told
    joins_unmarked put = record {
      adds = record { only = λ w h. inl h; kept = λ i w h. h };
      put = one_pair (λ r f. IsPut Marked (IsJoin old told r f) (At (joined r f))) put;
    }

    -- it was put
    pub joins_here : (new : List Item) (place : ℕ) →
        IsAdded old new (At (joined waiting found)) →
        slice_get new place ≡ Some (At (joined waiting found)) → told place waits →
        told place end → AreJoined Marked One old new told
    joins_here new place added at first second = record {
      adds = adds_as (λ w e. record {
        i = waits;
        j = end;
        pair = (refl, refl);
        waiting = waiting;
        found = found;
        waits = added.adds.kept waits (Waits waiting) is_caller;
        ends = added.adds.kept end (Ends found) is_end;
        is = e;
      }) added.adds;
      put = one_pair (λ r f. IsPut Marked (IsJoin new told r f) (At (joined r f))) (λ m. (
        comes_here old new told (Waits waiting) (At (joined waiting found)) waits place added
            is_caller at first,
        comes_here old new told (Ends found) (At (joined waiting found)) end place added is_end at
            second,
      ));
    }
