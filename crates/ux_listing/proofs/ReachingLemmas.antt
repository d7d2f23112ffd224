-- What a walk keeps as it goes on from item to item.
use Rattle.std.proofs.Common.{arith, ◌≡◌, ℕ, zero, suc, ◌+◌, ◌<◌, ◌≤◌, List, [], ◌⊎◌, inl, inr, refl, sym, ap, subst, ◌∙◌, length, take, get_or}
use Rattle.std.specs.Prelude.{Some, None, slice_get, Contains}
use Rattle.std.proofs.lemmas.Option.{same_Some, slice_get_within, slice_get-get_or}
use Rattle.ux_folds.specs.Folding.{Next}
use Rattle.ux_walk.specs.Contexts.{Applying}
use Rattle.ux_walk.specs.Settings.{Setting}
use Rattle.ux_listing.specs.declared.config.Visit.{Visit}
use Rattle.ux_listing.specs.declared.config.Return.{Return}
use Rattle.ux_listing.specs.declared.config.Found.{Found}
use Rattle.ux_listing.specs.declared.config.Mark.{Mark}
use Rattle.ux_listing.specs.declared.config.Item.{Item}
use Rattle.ux_listing.specs.declared.config.Item.TheVariants.{At, Waits, Ends}
use Rattle.ux_listing.specs.declared.groups.Keyed.{Keyed}
use Rattle.ux_listing.specs.Groups.{AreKeyed, IsAt, IsMoreAt}
use Rattle.ux_listing.specs.Reaching.{AreJoined, IsIndex, IsJoinOf, StaysTold}
use Rattle.ux_listing.specs.Runs as run
use Rattle.ux_listing.specs.Sets.{Adds, Keeps}
use Rattle.ux_listing.specs.Walking.{Comes, IsBefore, IsDone, IsJoin, IsMeant, IsPut, IsSeen, IsWalked, IsWalking, beginning, joined, main_visit}
use Rattle.ux_listing.proofs.FollowsLemmas.{Tells, made_as, put_as}
use Rattle.ux_listing.proofs.SetsLemmas.{adds_none, adds_as, adds_both, nothing_in, place_of, still, taken_all, taken_before, taken_cases, taken_itself, taken_none, was_at}
use Rattle.ux_listing.proofs.SoundLemmas.{meant_grows}

pub last_or_before : (i n : ℕ) → i < n + 1 → (i ≡ n) ⊎ (i < n)
last_or_before zero zero h = inl refl
last_or_before zero (suc n) h = inr (omega arith)
last_or_before (suc i) zero h = absurd (omega arith)
last_or_before (suc i) (suc n) h = elim (last_or_before i n (omega arith)) [
  | inl e ↦ inl (ap suc e)
  | inr l ↦ inr (omega arith)
]

-- what was told of items that keep their places stays
module _ (old new : List Item) (kept : Keeps old new) (was is : (item origin : ℕ) → Type 0)
    (tells : StaysTold was is) where
  pub comes_still : (v w : Item) → Comes old was v w → Comes new is v w
  comes_still v w c = record {
    i = c.i;
    j = c.j;
    origin = kept c.i v c.origin;
    here = kept c.j w c.here;
    is_told = tells c.j c.i c.is_told;
  }

  pub seen_still : (v w : Item) → IsSeen old was v w → IsSeen new is v w
  seen_still v w s = (still _ _ kept w s.0, λ led. comes_still v w (s.1 led))

  pub join_still : (r : Return) (f : Found) (w : Item) → IsJoin old was r f w → IsJoin new is r f w
  join_still r f w j = (comes_still (Waits r) w j.0, comes_still (Ends f) w j.1)

-- what a configuration leads to stays so
pub done_as : (next now : Next) → Tells next now → (setting : Setting) (applies : Applying)
    (Marked : Mark → Type 0) (Old New : Item → Type 0) → ((w : Item) → Old w → New w) → (v : Item) →
    IsDone next setting applies Marked Old v → IsDone now setting applies Marked New v
done_as next now tells setting applies Marked Old New more (At c) d = (
  λ move events m. made_as next now tells Marked Old New more c move events (d.0 move events m),
  λ final. more _ (d.1 final),
)
done_as next now tells setting applies Marked Old New more (Waits r) d = d
done_as next now tells setting applies Marked Old New more (Ends f) d = d

-- the first items stay the first
pub before_still : (old new : List Item) → Keeps old new → (n : ℕ) (item : Item) →
    slice_get old n ≡ Some item → (v : Item) → IsBefore new (n + 1) v →
    (v ≡ item) ⊎ IsBefore old n v
before_still old new kept n item at v b =
    let within = slice_get_within old n item at in
    let below = b.1 in
    let was = was_at old new kept b.0 (omega (arith, within, below)) v b.2 in
    elim (last_or_before b.0 n b.1) [
      | inl last ↦ inl (same_Some v item (sym was ∙ (ap (λ (i : ℕ). slice_get old i) last ∙ at)))
      | inr earlier ↦ inr (b.0, earlier, was)
    ]

module _ (setting : Setting) (applies : Applying) (start first : ℕ) (Marked : Mark → Type 0) where
  -- a walk begins
  pub walking_begins : (next : Next) (IsState : ℕ → Type 0) (told : (item origin : ℕ) → Type 0)
      (old seen : List Item) → IsState first → old ≡ [] →
      Adds (λ w. w ≡ At (beginning (main_visit start first))) old seen →
      IsPut Marked (Contains seen) (At (beginning (main_visit start first))) →
      IsWalking next setting applies IsState start first Marked seen told 0
  walking_begins next IsState told old seen known none a put = record {
    main = put;
    sound = λ w h. elim (a.only w h) [
      | inl o ↦ absurd (nothing_in (subst (λ (l : List Item). Contains l w) none o))
      | inr is ↦ subst (IsMeant next setting applies IsState start) (sym is) (record {
        entered = run.main;
        before = [];
        way = run.begins;
        folds = refl;
        known = known;
      })
    ];
    done = λ v b. let no = b.1 in absurd (omega (arith, no));
    joins = λ r f b. let no = b.1 in absurd (omega (arith, no));
  }

  -- nothing is left
  pub walking_ends : (next : Next) (IsState : ℕ → Type 0) (told : (item origin : ℕ) → Type 0)
      (seen : List Item) (n : ℕ) → None ≡ slice_get seen n →
      IsWalking next setting applies IsState start first Marked seen told n →
      IsWalked next setting applies IsState start first Marked seen told
  walking_ends next IsState told seen n past w = record {
    main = w.main;
    sound = w.sound;
    done = λ v h. w.done v (before v h);
    joins = λ r f h k same. w.joins r f (before (Waits r) h) (before (Ends f) k) same;
  }
    where
      before : (v : Item) → Contains seen v → IsBefore seen n v
      before v h =
          let p = place_of seen v h in
          let within = p.1 in
          let all : (n < length seen → ⊥) = λ l.
          let no : None ≡ Some (get_or seen n v) = past ∙ slice_get-get_or seen n v l in cc in
          (p.0, omega arith, p.2)

  module _ (next now : Next) (tells : Tells next now) (was is : ℕ → Type 0)
      (more : (s : ℕ) → was s → is s) (told_old told : (item origin : ℕ) → Type 0)
      (stays : StaysTold told_old told) (seen new : List Item) (n : ℕ) (item : Item)
      (at : slice_get seen n ≡ Some item) where
    -- one more item was gone on from
    pub walking_on : (kept : Keeps seen new) →
        ((w : Item) → Contains new w → Contains seen w ⊎ IsMeant now setting applies is start w) →
        IsDone now setting applies Marked (IsSeen new told item) item →
        ((r : Return) (f : Found) → IsBefore new (n + 1) (Waits r) → IsBefore new (n + 1) (Ends f) →
        (Waits r ≡ item) ⊎ (Ends f ≡ item) → r.callee ≡ f.visit →
        IsPut Marked (IsJoin new told r f) (At (joined r f))) →
        IsWalking next setting applies was start first Marked seen told_old n →
        IsWalking now setting applies is start first Marked new told (n + 1)
    walking_on kept sound done meets w = record {
      main = put_as Marked (Contains seen) (Contains new) (still _ _ kept)
          (At (beginning (main_visit start first))) w.main;
      sound = λ x h. elim (sound x h) [
        | inl o ↦ meant_grows setting applies start next now tells was is more x (w.sound x o)
        | inr m ↦ m
      ];
      done = λ v b. elim (before_still seen new kept n item at v b) [
        | inl same ↦ subst (λ (x : Item). IsDone now setting applies Marked (IsSeen new told x) x)
            (sym same) done
        | inr earlier ↦ done_as next now tells setting applies Marked (IsSeen seen told_old v)
            (IsSeen new told v) (seen_still seen new kept told_old told stays v) v (w.done v earlier)
      ];
      joins = λ r f b b' same. elim (before_still seen new kept n item at (Waits r) b) [
        | inl here ↦ meets r f b b' (inl here) same
        | inr earlier ↦ elim (before_still seen new kept n item at (Ends f) b') [
          | inl here ↦ meets r f b b' (inr here) same
          | inr earlier' ↦ put_as Marked (IsJoin seen told_old r f) (IsJoin new told r f)
              (join_still seen new kept told_old told stays r f) (At (joined r f))
              (w.joins r f earlier earlier' same)
        ]
      ];
    }

-- an index of nothing
pub index_none : (Belongs : Item → Visit → Type 0) (seen : List Item) (index : Keyed Visit ℕ) →
    AreKeyed index → ((v : Visit) (i : ℕ) → IsAt index v i → ⊥) → IsIndex Belongs seen 0 index
index_none Belongs seen index keyed none = record {
  keyed = keyed;
  exact = λ v i. (
    λ h. absurd (none v i h),
    λ b. let no = b.0 in absurd (omega (arith, no)),
  );
}

module _ (Belongs : Item → Visit → Type 0) (seen new : List Item) (kept : Keeps seen new) (n : ℕ)
    (item : Item) (at : slice_get seen n ≡ Some item) where
  -- the item is none that belongs to a visit
  pub index_same : (index : Keyed Visit ℕ) → ((v : Visit) → Belongs item v → ⊥) →
      IsIndex Belongs seen n index → IsIndex Belongs new (n + 1) index
  index_same index never x = record {
    keyed = x.keyed;
    exact = λ v i. (
      λ h. let b = (x.exact v i).0 h in
          let below = b.0 in
          (omega (arith, below), b.1, kept i b.1 b.2, b.3),
      λ b.
          let below = b.0 in
          let within = slice_get_within seen n item at in
          let was = was_at seen new kept i (omega (arith, below, within)) b.1 b.2 in
          elim (last_or_before i n b.0) [
            | inl last ↦ absurd (never v (subst (λ (w : Item). Belongs w v)
                (same_Some b.1 item (sym was ∙ (ap (λ (k : ℕ). slice_get seen k) last ∙ at))) b.3))
            | inr earlier ↦ (x.exact v i).1 (earlier, b.1, was, b.3)
          ],
    );
  }

  -- the item belongs to a visit, and was added to its group
  pub index_more : (old index : Keyed Visit ℕ) (visit : Visit) → Belongs item visit →
      ((v : Visit) → Belongs item v → visit ≡ v) →
      (AreKeyed old → IsMoreAt old index visit n) →
      IsIndex Belongs seen n old → IsIndex Belongs new (n + 1) index
  index_more old index visit belongs alone add x =
      let a = add x.keyed in record {
        keyed = a.keyed;
        exact = λ v i. (
          λ h. elim ((a.exact v i).0 h) [
            | inl o ↦ let b = (x.exact v i).0 o in
                let below = b.0 in
                (omega (arith, below), b.1, kept i b.1 b.2, b.3)
            | inr e ↦
                let last = e.1 in (
                  omega (arith, last),
                  item,
                  kept i item (ap (λ (k : ℕ). slice_get seen k) e.1 ∙ at),
                  subst (λ (y : Visit). Belongs item y) (sym e.0) belongs,
                )
          ],
          λ b.
              let below = b.0 in
              let within = slice_get_within seen n item at in
              let was = was_at seen new kept i (omega (arith, below, within)) b.1 b.2 in
              (a.exact v i).1 (elim (last_or_before i n b.0) [
                | inl last ↦ inr (
                  sym (alone v (subst (λ (w : Item). Belongs w v)
                      (same_Some b.1 item (sym was ∙ (ap (λ (k : ℕ). slice_get seen k) last ∙ at))) b.3)),
                  last,
                )
                | inr earlier ↦ inl ((x.exact v i).1 (earlier, b.1, was, b.3))
              ]),
        );
      }

-- joins, pair by pair
module _ (Marked : Mark → Type 0) where
  join_of_as : (First Now : (waits ends : ℕ) → Type 0) → ((i j : ℕ) → First i j → Now i j) →
      (seen new : List Item) → Keeps seen new → (w : Item) → IsJoinOf First seen w →
      IsJoinOf Now new w
  join_of_as First Now more seen new kept w t = record {
    i = t.i;
    j = t.j;
    pair = more t.i t.j t.pair;
    waiting = t.waiting;
    found = t.found;
    waits = kept t.i (Waits t.waiting) t.waits;
    ends = kept t.j (Ends t.found) t.ends;
    is = t.is;
  }

  -- no pair
  pub joined_none : (Pair : (waits ends : ℕ) → Type 0) (seen : List Item)
      (told : (item origin : ℕ) → Type 0) → ((i j : ℕ) → Pair i j → ⊥) →
      AreJoined Marked Pair seen seen told
  joined_none Pair seen told never = record {
    adds = adds_none seen;
    put = λ i j pair. absurd (never i j pair);
  }

  -- some pairs, and then some
  pub joined_both : (First Then All : (waits ends : ℕ) → Type 0) (old mid new : List Item)
      (was told : (item origin : ℕ) → Type 0) → StaysTold was told →
      ((i j : ℕ) → First i j → All i j) → ((i j : ℕ) → Then i j → All i j) →
      ((i j : ℕ) → All i j → First i j ⊎ Then i j) →
      AreJoined Marked First old mid was → AreJoined Marked Then mid new told →
      AreJoined Marked All old new told
  joined_both First Then All old mid new was told stays first then either a b = record {
    adds = adds_both (adds_as (join_of_as First All first mid new b.adds.kept) a.adds)
        (adds_as (join_of_as Then All then new new (λ i x h. h)) b.adds);
    put = λ i j pair r f at at'. elim (either i j pair) [
      | inl p ↦ put_as Marked (IsJoin mid was r f) (IsJoin new told r f)
          (join_still mid new b.adds.kept was told stays r f) (At (joined r f))
          (a.put i j p r f at at')
      | inr p ↦ b.put i j p r f (a.adds.kept i (Waits r) at) (a.adds.kept j (Ends f) at')
    ];
  }

-- the pairs of the first so many elements
abbrev pub PairsOf : {S : Type 0} → (S → (waits ends : ℕ) → Type 0) → List S → ℕ →
    (waits ends : ℕ) → Type 0
PairsOf {S} Of all n i j = (s : S) × Contains (take n all) s × Of s i j

module _ {S : Type 0} (Marked : Mark → Type 0) (Of : S → (waits ends : ℕ) → Type 0) (all : List S)
  where
    pub pairs_none : (seen : List Item) (told : (item origin : ℕ) → Type 0) →
        AreJoined Marked (PairsOf Of all 0) seen seen told
    pairs_none seen told = joined_none Marked (PairsOf Of all 0) seen told (λ i j t. taken_none all t.1)

    pub pairs_more : (old mid new : List Item) (was told : (item origin : ℕ) → Type 0) →
        StaysTold was told → (n : ℕ) (s : S) → n < length all → s ≡ get_or all n s →
        AreJoined Marked (PairsOf Of all n) old mid was → AreJoined Marked (Of s) mid new told →
        AreJoined Marked (PairsOf Of all (n + 1)) old new told
    pairs_more old mid new was told stays n s lt is a b =
        joined_both Marked (PairsOf Of all n) (Of s) (PairsOf Of all (n + 1)) old mid new was told stays
        (λ i j t. (t.0, taken_before all n s t.0 lt is t.1, t.2))
        (λ i j t. (s, taken_itself all n s lt is, t))
        (λ i j t. elim (taken_cases all n s t.0 lt is t.1) [
          | inl o ↦ inl (t.0, o, t.2)
          | inr e ↦ inr (subst (λ (x : S). Of x i j) e t.2)
        ]) a b

    pub pairs_all : (Wanted : (waits ends : ℕ) → Type 0) →
        ((i j : ℕ) → Wanted i j → (s : S) × Contains all s × Of s i j) →
        ((i j : ℕ) → (s : S) → Contains all s → Of s i j → Wanted i j) →
        (old new : List Item) (told : (item origin : ℕ) → Type 0) (n : ℕ) → length all ≤ n →
        AreJoined Marked (PairsOf Of all n) old new told → AreJoined Marked Wanted old new told
    pairs_all Wanted back forth old new told n past a = record {
      adds = adds_as (join_of_as Marked (PairsOf Of all n) Wanted (λ i j t. forth i j t.0
          (subst (λ (l : List S). Contains l t.0) (taken_all all n past) t.1) t.2) new new
          (λ i x h. h)) a.adds;
      put = λ i j pair. let b = back i j pair in a.put i j
          (b.0, subst (λ (l : List S). Contains l b.0) (sym (taken_all all n past)) b.1, b.2);
    }
