-- The walk goes on from a configuration, from a caller, and from an end.
use Rattle.std.proofs.Common.{◌≡◌, ℕ, ◌+◌, List, [], ◌⊎◌, ◌↔◌, inl, inr, refl, sym, ap, subst, ◌∙◌}
use Rattle.std.specs.Prelude.{Some, slice_get, Contains, Result, Ok, Err, OnOk}
use Rattle.std.proofs.lemmas.Option.{same_Some}
use Rattle.ux_outputs.specs.declared.event.Event.{Event}
use Rattle.ux_folds.specs.Folding.{Next}
use Rattle.ux_walk.specs.Contexts.{Applying}
use Rattle.ux_walk.specs.Settings.{Setting}
use Rattle.ux_listing.specs.declared.config.Visit.{Visit}
use Rattle.ux_listing.specs.declared.config.Config.{Config}
use Rattle.ux_listing.specs.declared.config.Return.{Return}
use Rattle.ux_listing.specs.declared.config.Found.{Found}
use Rattle.ux_listing.specs.declared.config.Mark.{Mark}
use Rattle.ux_listing.specs.declared.config.Item.{Item}
use Rattle.ux_listing.specs.declared.config.Item.TheVariants.{At, Waits, Ends}
use Rattle.ux_listing.specs.declared.walking.Reached.{Reached}
use Rattle.ux_listing.specs.declared.groups.Keyed.{Keyed}
use Rattle.ux_listing.specs.Groups.{AreKeyed, IsAt, IsMoreAt}
use Rattle.ux_listing.specs.Reaching.{AreJoined, IsIndex, IsOf, IsReached, StaysTold, WaitsFor}
use Rattle.ux_listing.specs.Sets.{Adds, Keeps}
use Rattle.ux_listing.specs.Walking.{IsBefore, IsDone, IsJoin, IsMeant, IsNext, IsPut, IsSeen, joined}
use Rattle.ux_listing.proofs.FollowsLemmas.{Tells}
use Rattle.ux_listing.proofs.ReachingLemmas.{before_still, done_as, index_more, index_same, walking_on}
use Rattle.ux_listing.proofs.SetsLemmas.{in_place, nothing_in}
use Rattle.ux_listing.proofs.SoundLemmas.{joined_meant, meant_grows, next_meant}

-- two items that stand at one place are one
one_at : (seen : List Item) (i : ℕ) (v w : Item) → slice_get seen i ≡ Some v →
    slice_get seen i ≡ Some w → v ≡ w
one_at seen i v w at there = same_Some v w (sym at ∙ there)

caller_of : (r s : Return) → Waits r ≡ Waits s → r ≡ s
caller_of r s is = cc

end_of : (f h : Found) → Ends f ≡ Ends h → f ≡ h
end_of f h is = cc

module _ (setting : Setting) (applies : Applying) (start first : ℕ) (Marked : Mark → Type 0)
    (now : Next) (is : ℕ → Type 0)
    (lands : (s : ℕ) (e : Event) (u : ℕ) → now s e (Some u) → is u) where
  module _ (next : Next) (tells : Tells next now) (was : ℕ → Type 0)
      (more : (s : ℕ) → was s → is s) where
    -- from a configuration
    pub left : (told_old told : (item origin : ℕ) → Type 0) → StaysTold told_old told →
        (old new : Reached) (n : ℕ) (c : Config) (none items : List Item) →
        slice_get old.seen.keys n ≡ Some (At c) → new.waits ≡ old.waits → new.found ≡ old.found →
        none ≡ [] → Adds (IsNext now setting applies c) none items →
        IsDone now setting applies Marked (Contains items) (At c) →
        Adds (Contains items) old.seen.keys new.seen.keys →
        ((w : Item) → Contains items w → IsSeen new.seen.keys told (At c) w) →
        IsReached next setting applies was start first Marked told_old old n →
        IsReached now setting applies is start first Marked told new (n + 1)
    left told_old told stays old new n c none items at same_waits same_found empty follow done adds
        seen reached = record {
          walking = walking_on setting applies start first Marked next now tells was is more told_old told
              stays old.seen.keys new.seen.keys n (At c) at adds.kept sound
              (done_as now now (λ s e r h. h) setting applies Marked (Contains items)
              (IsSeen new.seen.keys told (At c)) seen (At c) done)
              (λ r f b b' either. absurd (elim either [
                | inl odd ↦ let never : Waits r ≡ At c = odd in cc
                | inr odd ↦ let never : Ends f ≡ At c = odd in cc
              ])) reached.walking;
          waits = subst (λ (x : Keyed Visit ℕ). IsIndex WaitsFor new.seen.keys (n + 1) x) (sym same_waits)
              (index_same WaitsFor old.seen.keys new.seen.keys adds.kept n (At c) at old.waits
              (λ v odd. odd) reached.waits);
          found = subst (λ (x : Keyed Visit ℕ). IsIndex IsOf new.seen.keys (n + 1) x) (sym same_found)
              (index_same IsOf old.seen.keys new.seen.keys adds.kept n (At c) at old.found
              (λ v odd. odd) reached.found);
        }
      where
        here : IsMeant now setting applies is start (At c)
        here = meant_grows setting applies start next now tells was is more (At c)
            (reached.walking.sound (At c) (in_place old.seen.keys n (At c) at))

        sound : (w : Item) → Contains new.seen.keys w →
            Contains old.seen.keys w ⊎ IsMeant now setting applies is start w
        sound w h = elim (adds.only w h) [
          | inl o ↦ inl o
          | inr inside ↦ inr (elim (follow.only w inside) [
            | inl odd ↦ absurd (nothing_in (subst (λ (l : List Item). Contains l w) empty odd))
            | inr follows ↦ next_meant setting applies start now is lands c w here follows
          ])
        ]

  module _ (told_old told : (item origin : ℕ) → Type 0) (stays : StaysTold told_old told)
      (old new : Reached) (n : ℕ)
      (reached : IsReached now setting applies is start first Marked told_old old n) where
    abbrev Meant : Item → Type 0
    Meant = IsMeant now setting applies is start

    same_meant : (w : Item) → Contains old.seen.keys w → Meant w
    same_meant w h = reached.walking.sound w h

    -- of a visit, by the index
    end_at : (v : Visit) (j : ℕ) → IsAt old.found v j → (f : Found) →
        Keeps old.seen.keys new.seen.keys → slice_get new.seen.keys j ≡ Some (Ends f) →
        Contains old.seen.keys (Ends f) × (f.visit ≡ v)
    end_at v j h f kept there =
        let b = (reached.found.exact v j).0 h in
        let same : b.1 ≡ Ends f = one_at new.seen.keys j b.1 (Ends f) (kept j b.1 b.2) there in (
          in_place old.seen.keys j (Ends f) (b.2 ∙ ap (λ (w : Item). Some w) same),
          subst (λ (w : Item). IsOf w v) same b.3,
        )

    caller_at : (v : Visit) (i : ℕ) → IsAt old.waits v i → (r : Return) →
        Keeps old.seen.keys new.seen.keys → slice_get new.seen.keys i ≡ Some (Waits r) →
        Contains old.seen.keys (Waits r) × (r.callee ≡ v)
    caller_at v i h r kept there =
        let b = (reached.waits.exact v i).0 h in
        let same : b.1 ≡ Waits r = one_at new.seen.keys i b.1 (Waits r) (kept i b.1 b.2) there in (
          in_place old.seen.keys i (Waits r) (b.2 ∙ ap (λ (w : Item). Some w) same),
          subst (λ (w : Item). WaitsFor w v) same b.3,
        )

    -- from a caller
    pub waited : (r : Return) → slice_get old.seen.keys n ≡ Some (Waits r) →
        (AreKeyed old.waits → IsMoreAt old.waits new.waits r.callee n) → new.found ≡ old.found →
        (ends : List ℕ) → (AreKeyed old.found → (j : ℕ) → Contains ends j ↔ IsAt old.found r.callee j) →
        AreJoined Marked (λ i j. (i ≡ n) × Contains ends j) old.seen.keys new.seen.keys told →
        IsReached now setting applies is start first Marked told new (n + 1)
    waited r at more same_found ends are joins = record {
      walking = walking_on setting applies start first Marked now now (λ s e x h. h) is is (λ s k. k)
          told_old told stays old.seen.keys new.seen.keys n (Waits r) at joins.adds.kept sound tt
          meets reached.walking;
      waits = index_more WaitsFor old.seen.keys new.seen.keys joins.adds.kept n (Waits r) at old.waits
          new.waits r.callee refl (λ v belongs. belongs) more reached.waits;
      found = subst (λ (x : Keyed Visit ℕ). IsIndex IsOf new.seen.keys (n + 1) x) (sym same_found)
          (index_same IsOf old.seen.keys new.seen.keys joins.adds.kept n (Waits r) at old.found
          (λ v odd. odd) reached.found);
    }
      where
        listed : (j : ℕ) → Contains ends j ↔ IsAt old.found r.callee j
        listed = are reached.found.keyed

        sound : (w : Item) → Contains new.seen.keys w → Contains old.seen.keys w ⊎ Meant w
        sound w h = elim (joins.adds.only w h) [
          | inl o ↦ inl o
          | inr t ↦ inr (
              let same : t.waiting ≡ r = caller_of t.waiting r (one_at new.seen.keys n
              (Waits t.waiting) (Waits r)
              (subst (λ (i : ℕ). slice_get new.seen.keys i ≡ Some (Waits t.waiting)) t.pair.0 t.waits)
              (joins.adds.kept n (Waits r) at)) in
              let e = end_at r.callee t.j ((listed t.j).0 t.pair.1) t.found joins.adds.kept t.ends in
              subst Meant (sym t.is)
              (subst (λ (s : Return). Meant (At (joined s t.found))) (sym same)
              (joined_meant setting applies start now is lands r t.found
              (same_meant (Waits r) (in_place old.seen.keys n (Waits r) at))
              (same_meant (Ends t.found) e.0) (sym e.1))))
        ]

        meets : (s : Return) (f : Found) → IsBefore new.seen.keys (n + 1) (Waits s) →
            IsBefore new.seen.keys (n + 1) (Ends f) → (Waits s ≡ Waits r) ⊎ (Ends f ≡ Waits r) →
            s.callee ≡ f.visit → IsPut Marked (IsJoin new.seen.keys told s f) (At (joined s f))
        meets s f b b' (inr odd) same = absurd (let never : Ends f ≡ Waits r = odd in cc)
        meets s f b b' (inl here) same =
            let is_r : s ≡ r = caller_of s r here in
            elim (before_still old.seen.keys new.seen.keys joins.adds.kept n (Waits r) at (Ends f) b') [
              | inl odd ↦ absurd (let never : Ends f ≡ Waits r = odd in cc)
              | inr e ↦ subst (λ (x : Return).
                  IsPut Marked (IsJoin new.seen.keys told x f) (At (joined x f))) (sym is_r)
                  (joins.put n e.0 (
                    refl,
                    (listed e.0).1
                        (subst (λ (v : Visit). IsAt old.found v e.0)
                        (sym same ∙ ap (λ (x : Return). x.callee) is_r)
                        ((reached.found.exact f.visit e.0).1 (e.1, Ends f, e.2, refl))),
                  ) r f at e.2)
            ]

    -- from an end
    pub ended : (f : Found) → slice_get old.seen.keys n ≡ Some (Ends f) →
        (AreKeyed old.found → IsMoreAt old.found new.found f.visit n) → new.waits ≡ old.waits →
        (waits : List ℕ) →
        (AreKeyed old.waits → (i : ℕ) → Contains waits i ↔ IsAt old.waits f.visit i) →
        AreJoined Marked (λ i j. (j ≡ n) × Contains waits i) old.seen.keys new.seen.keys told →
        IsReached now setting applies is start first Marked told new (n + 1)
    ended f at more same_waits waits are joins = record {
      walking = walking_on setting applies start first Marked now now (λ s e x h. h) is is (λ s k. k)
          told_old told stays old.seen.keys new.seen.keys n (Ends f) at joins.adds.kept sound tt
          meets reached.walking;
      waits = subst (λ (x : Keyed Visit ℕ). IsIndex WaitsFor new.seen.keys (n + 1) x) (sym same_waits)
          (index_same WaitsFor old.seen.keys new.seen.keys joins.adds.kept n (Ends f) at old.waits
          (λ v odd. odd) reached.waits);
      found = index_more IsOf old.seen.keys new.seen.keys joins.adds.kept n (Ends f) at old.found
          new.found f.visit refl (λ v belongs. belongs) more reached.found;
    }
      where
        listed : (i : ℕ) → Contains waits i ↔ IsAt old.waits f.visit i
        listed = are reached.waits.keyed

        sound : (w : Item) → Contains new.seen.keys w → Contains old.seen.keys w ⊎ Meant w
        sound w h = elim (joins.adds.only w h) [
          | inl o ↦ inl o
          | inr t ↦ inr (
              let same : t.found ≡ f = end_of t.found f (one_at new.seen.keys n
              (Ends t.found) (Ends f)
              (subst (λ (j : ℕ). slice_get new.seen.keys j ≡ Some (Ends t.found)) t.pair.0 t.ends)
              (joins.adds.kept n (Ends f) at)) in
              let e = caller_at f.visit t.i ((listed t.i).0 t.pair.1) t.waiting joins.adds.kept
              t.waits in
              subst Meant (sym t.is)
              (subst (λ (g : Found). Meant (At (joined t.waiting g))) (sym same)
              (joined_meant setting applies start now is lands t.waiting f
              (same_meant (Waits t.waiting) e.0)
              (same_meant (Ends f) (in_place old.seen.keys n (Ends f) at)) e.1)))
        ]

        meets : (s : Return) (g : Found) → IsBefore new.seen.keys (n + 1) (Waits s) →
            IsBefore new.seen.keys (n + 1) (Ends g) → (Waits s ≡ Ends f) ⊎ (Ends g ≡ Ends f) →
            s.callee ≡ g.visit → IsPut Marked (IsJoin new.seen.keys told s g) (At (joined s g))
        meets s g b b' (inl odd) same = absurd (let never : Waits s ≡ Ends f = odd in cc)
        meets s g b b' (inr here) same =
            let is_f : g ≡ f = end_of g f here in
            elim (before_still old.seen.keys new.seen.keys joins.adds.kept n (Ends f) at (Waits s) b) [
              | inl odd ↦ absurd (let never : Waits s ≡ Ends f = odd in cc)
              | inr e ↦ subst (λ (x : Found).
                  IsPut Marked (IsJoin new.seen.keys told s x) (At (joined s x))) (sym is_f)
                  (joins.put e.0 n (
                    refl,
                    (listed e.0).1
                        (subst (λ (v : Visit). IsAt old.waits v e.0)
                        (same ∙ ap (λ (x : Found). x.visit) is_f)
                        ((reached.waits.exact s.callee e.0).1 (e.1, Waits s, e.2, refl))),
                  ) s f e.2 at)
            ]

-- what two or three facts tell on success
pub on_two : {A E P Q S : Type 0} (r : Result A E) → (P → Q → S) → OnOk r P → OnOk r Q → OnOk r S
on_two (Ok x) f p q = f p q
on_two (Err e) f p q = tt

pub on_three : {A E P Q R S : Type 0} (r : Result A E) → (P → Q → R → S) → OnOk r P → OnOk r Q →
    OnOk r R → OnOk r S
on_three (Ok x) f p q s = f p q s
on_three (Err e) f p q s = tt
