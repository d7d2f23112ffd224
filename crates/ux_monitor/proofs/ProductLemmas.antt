-- Monitors side by side as one machine.
use Rattle.std.proofs.Common.{arith, ◌≡◌, ℕ, zero, suc, ◌<◌, ◌≤◌, ◌^◌, List, [], ◌∷◌, ◌++◌, ◌↔◌, ◌⊎◌, ◌+◌, inl, inr, refl, sym, ◌∙◌, ap, subst, length, length-append, get_or}
use Rattle.std.specs.Prelude.{All, Contains, IfSome, IsTrue, None, Option, Some, Vec, map, slice_get}
use Rattle.std.specs.Option.{option_map}
use Rattle.std.specs.List.{AllZip}
use Rattle.std.proofs.lemmas.List.Elements.{All-cons, All-head, All-nil, All-tail}
use Rattle.std.proofs.lemmas.Option.{same_Some, slice_get_within}
use Rattle.ux_base.proofs.OrderedLists.{Contains-at, place_of}
use Rattle.ux_subsets.specs.Machines.{Grows}
use Rattle.ux_monitor.specs.declared.watching.Seen.{Seen}
use Rattle.ux_monitor.specs.declared.memory.Memory.{Memory}
use Rattle.ux_monitor.specs.declared.joint.Joint.{Joint}
use Rattle.ux_monitor.specs.Rules.{Rule}
use Rattle.ux_monitor.specs.Monitors.{Monitored, WatchesBy, kind_at}
use Rattle.ux_monitor.specs.Remembering.{IsAt}
use Rattle.ux_monitor.specs.Parts.{AreAllAt, AreKept, AreSameKinds, Begins, IsJoint, IsJointAt, IsJointStep, IsKindAt, IsRememberedOf, IsWatched, IsWatchedAt, Joined, RulePart, SatisfiesPart, SatisfiesParts, StandsJointly, number_at, part_name, product_name, seen_in, states_at, table_of}
use Rattle.ux_monitor.proofs.KeepingLemmas.{at_in, begins, goes_on, tells_satisfied}
use Rattle.ux_monitor.proofs.NamingLemmas.{same_joined, same_name}
use Rattle.ux_monitor.proofs.NumberingLemmas.{some_at}
use Rattle.ux_monitor.proofs.PartsLemmas.{same_at, seen-length, states-is, zip-at, zip-length}

abbrev pub side_of : List RulePart → List ℕ → List (List Seen) → List Joint → Joined
side_of parts of seen states = record { parts = parts; of = of; seen = seen; states = states }

-- what is seen more keeps the meaning of the numbers
module _ (parts : List RulePart) (of : List ℕ) (old new : List (List Seen))
    (states more : List Joint) (kept : AreKept old states new more) where
  still-all : (numbers list : List ℕ) → AreAllAt old numbers (IsWatched parts list) →
      AreAllAt new numbers (IsWatched parts list)
  still-all numbers list are =
      let counted = kept.counted in
      record {
        counted = are.counted ∙ sym counted;
        each = λ index lt.
            let e = are.each index (omega (arith, lt, counted)) in
            (e.0, kept.all index (number_at numbers index) e.0 e.1, e.2);
      }

  still-watched : (number : ℕ) (list : List ℕ) →
      IsWatchedAt (side_of parts of old states) number list →
      IsWatchedAt (side_of parts of new more) number list
  still-watched number list is =
      (is.0, kept.joints number is.0 is.1, still-all is.0.seen.items list is.2)

  was-watched : (number : ℕ) (other list : List ℕ) →
      IsWatchedAt (side_of parts of old states) number other →
      IsWatchedAt (side_of parts of new more) number list →
      IsWatchedAt (side_of parts of old states) number list
  was-watched number other list was is =
      let counted = kept.counted in
      let same : is.0 ≡ was.0 = same_Some is.0 was.0 (sym is.1 ∙ kept.joints number was.0 was.1) in
      let now = subst (λ (j : Joint). AreAllAt new j.seen.items (IsWatched parts list)) same is.2 in (
        was.0,
        was.1,
        record {
          counted = was.2.counted;
          each = λ index lt.
              let e = was.2.each index lt in
              let f = now.each index (omega (arith, lt, counted)) in
              let n = number_at was.0.seen.items index in
              let one : f.0 ≡ e.0 = same_at (states_at new index) n f.0 e.0 f.1
              (kept.all index n e.0 e.1) in
              (e.0, e.1, subst (λ (s : Seen). IsWatched parts list index s) one f.2);
        },
      )

  pub jointly_grows : Grows (StandsJointly (side_of parts of old states))
      (StandsJointly (side_of parts of new more)) (SatisfiesParts parts) (SatisfiesParts parts)
  jointly_grows = record {
    kept = λ q w s. record { state = λ lt. still-watched q w (s.state lt); name = s.name };
    only = λ q u w s t. record {
      state = λ lt. was-watched q u w (s.state lt) (t.state lt);
      name = t.name;
    };
    meant = λ w. (λ h. h, λ h. h);
  }

-- what a number stands for, below those that stand for the name
pub jointly_state : (side : Joined) (number : ℕ) (list : List ℕ) → number < 2 ^ 64 →
    IsWatchedAt side number list → StandsJointly side number list
jointly_state side number list small is = record {
  state = λ lt. is;
  name = λ past. absurd (omega (arith, small, past));
}

-- rules and the kinds of readings are told by their name
same_part : (a b : RulePart) → part_name a ≡ part_name b → a ≡ b
same_part a b e =
    let named : (p : RulePart) → Monitored = λ p. record {
      rule = p.over.rule;
      kinds = p.of ∷ p.over.kinds;
    } in
    let is : named a ≡ named b = same_name (named a) (named b) e in
    let rule : a.over.rule ≡ b.over.rule = ap (λ (m : Monitored). m.rule) is in
    let rows : a.of ∷ a.over.kinds ≡ b.of ∷ b.over.kinds = ap (λ (m : Monitored). m.kinds) is in
    let of : a.of ≡ b.of = cc in
    let kinds : a.over.kinds ≡ b.over.kinds = cc in
    let by_rule : Rule → RulePart = λ r. record {
      over = record { rule = r; kinds = a.over.kinds };
      of = a.of;
    } in
    let by_kinds : List (List ℕ) → RulePart = λ ks. record {
      over = record { rule = b.over.rule; kinds = ks };
      of = a.of;
    } in
    let by_of : List ℕ → RulePart = λ o. record {
      over = record { rule = b.over.rule; kinds = b.over.kinds };
      of = o;
    } in
    ap by_rule rule ∙ (ap by_kinds kinds ∙ ap by_of of)

same_parts : (xs ys : List RulePart) → map part_name xs ≡ map part_name ys → xs ≡ ys
same_parts [] [] e = refl
same_parts [] (y ∷ ys) e = cc
same_parts (x ∷ xs) [] e = cc
same_parts (x ∷ xs) (y ∷ ys) e =
    let head : part_name x ≡ part_name y = cc in
    let rest : map part_name xs ≡ map part_name ys = cc in
    ap (λ (p : RulePart). p ∷ xs) (same_part x y head)
    ∙ ap (λ (ps : List RulePart). y ∷ ps) (same_parts xs ys rest)

-- a pass gives back monitors of the same rules and kinds
pub side_same : (old new : Joined) → Grows (StandsJointly old) (StandsJointly new)
    (SatisfiesParts old.parts) (SatisfiesParts new.parts) →
    (old.parts ≡ new.parts) × (old.of ≡ new.of)
side_same old new grows =
    let named : StandsJointly old (2 ^ 64) (product_name old.parts old.of) = record {
      state = λ lt. absurd (omega (arith, lt));
      name = λ past. refl;
    } in
    let after = grows.kept (2 ^ 64) (product_name old.parts old.of) named in
    let rows : old.of ∷ map part_name old.parts ≡ new.of ∷ map part_name new.parts =
    same_joined (old.of ∷ map part_name old.parts) (new.of ∷ map part_name new.parts)
    (after.name (omega arith)) in
    let of : old.of ≡ new.of = cc in
    let parts : map part_name old.parts ≡ map part_name new.parts = cc in
    (same_parts old.parts new.parts parts, of)

-- the monitors begin
pub begun-watched : (parts : List RulePart) (all : List (List Seen)) (numbers : List ℕ) →
    AreAllAt all numbers (Begins parts) → AreAllAt all numbers (IsWatched parts [])
begun-watched parts all numbers are = record {
  counted = are.counted;
  each = λ index lt.
      let e = are.each index lt in
      (e.0, e.1, λ part at. begins part.over (table_of part) e.0 (e.2 part at));
}

-- and go on by a reading
pub step-watched : (parts : List RulePart) (all : List (List Seen)) (states : List Joint)
    (reading number : ℕ) (joint : Joint) (list : List ℕ) →
    AreAllAt all joint.seen.items (IsWatched parts list) →
    IsJointStep parts all states reading joint number →
    (later : Joint) × IsJointAt states number later
    × AreAllAt all later.seen.items (IsWatched parts (list ++ reading ∷ []))
step-watched parts all states reading number joint list watched step = (
  step.later,
  step.there,
  record {
    counted = step.leads.counted;
    each = λ index lt.
        let e = step.leads.each index lt in
        let f = e.2 in
        let w = watched.each index lt in
        let one : w.0 ≡ f.0 = same_at (states_at all index) (number_at joint.seen.items index)
        w.0 f.0 w.1 f.1 in (
          e.0,
          e.1,
          λ part at. goes_on part.over (table_of part) reading (kind_at (table_of part) reading) refl
              f.0 e.0 (f.2 part at) list
              ((subst (λ (s : Seen). IsWatched parts list index s) one w.2) part at),
        );
  },
)

-- a joint state tells whether the list satisfies each rule
pub accepts-parts : (parts : List RulePart) (memories : List Memory) →
    AllZip IsRememberedOf parts memories → (joint : Joint) → IsJoint (seen_in memories) joint →
    (list : List ℕ) → AreAllAt (seen_in memories) joint.seen.items (IsWatched parts list) →
    IsTrue joint.is_accepted ↔ SatisfiesParts parts list
accepts-parts parts memories right joint is list watched = (
  λ accepted part has.
      let at = place_of parts part has in
      let inside = slice_get_within parts at.0 part at.1 in
      let lt : at.0 < length (seen_in memories) = omega (arith, inside, counted) in
      let e = watched.each at.0 lt in
      (tells at.0 part at.1 e.0 e.1 (e.2 part at.1)).0 (is.tells.0 accepted at.0 e.0 lt e.1),
  λ each. is.tells.1 (λ index seen lt at.
      let part = some_at parts index (omega (arith, lt, counted)) in
      let e = watched.each index lt in
      let one : e.0 ≡ seen = same_at (states_at (seen_in memories) index)
      (number_at joint.seen.items index) e.0 seen e.1 at in
      subst (λ (s : Seen). IsTrue s.is_accepted) one
      ((tells index part.0 part.1 e.0 e.1 (e.2 part.0 part.1)).1
      (each part.0 (Contains-at parts part.0 index part.1)))),
)
  where
    counted : length (seen_in memories) ≡ length parts
    counted = seen-length memories ∙ zip-length IsRememberedOf parts memories right

    tells : (index : ℕ) (part : RulePart) → slice_get parts index ≡ Some part → (seen : Seen) →
        IsAt (states_at (seen_in memories) index) (number_at joint.seen.items index) seen →
        WatchesBy part.over.rule (table_of part) seen list →
        IsTrue seen.is_accepted ↔ SatisfiesPart part list
    tells index part at seen seen_at watch =
        let inside = slice_get_within parts index part at in
        let len = zip-length IsRememberedOf parts memories right in
        let memory = some_at memories index (omega (arith, inside, len)) in
        let here : IsAt memory.0.states.keys (number_at joint.seen.items index) seen =
        subst (λ (states : List Seen). IsAt states (number_at joint.seen.items index) seen)
        (states-is memories index memory.0 memory.1) seen_at in
        let well = (zip-at IsRememberedOf parts memories right index part memory.0 at memory.1).tells
        seen (at_in memory.0.states.keys (number_at joint.seen.items index) seen here) in
        tells_satisfied part.over (table_of part) seen well list watch

-- the kinds of two readings are the same in each rule
kinds-row : (parts : List RulePart) (reading other count : ℕ) →
    All (λ (part : RulePart). count ≤ length part.of) parts → reading < count → other < count →
    map (λ (part : RulePart). get_or part.of reading 0) parts
    ≡ map (λ (part : RulePart). get_or part.of other 0) parts →
    All (λ (part : RulePart). kind_at (table_of part) reading ≡ kind_at (table_of part) other) parts
kinds-row [] reading other count long lt also same =
    All-nil (λ (part : RulePart). kind_at (table_of part) reading ≡ kind_at (table_of part) other)
kinds-row (part ∷ parts) reading other count long lt also same =
    let head : get_or part.of reading 0 ≡ get_or part.of other 0 = cc in
    let rest : map (λ (p : RulePart). get_or p.of reading 0) parts
    ≡ map (λ (p : RulePart). get_or p.of other 0) parts = cc in
    let enough = All-head (λ (p : RulePart). count ≤ length p.of) part parts long in
    All-cons (λ (p : RulePart). kind_at (table_of p) reading ≡ kind_at (table_of p) other) part parts
    (row-of part.over.kinds part.of reading (omega (arith, lt, enough))
    ∙ (ap (λ (k : ℕ). kind_at part.over.kinds k) head
    ∙ sym (row-of part.over.kinds part.of other (omega (arith, also, enough)))))
    (kinds-row parts reading other count
    (All-tail (λ (p : RulePart). count ≤ length p.of) part parts long) lt also rest)
  where
    row-of : (kinds : List (List ℕ)) (of : List ℕ) (k : ℕ) → k < length of →
        get_or (map (kind_at kinds) of) k [] ≡ kind_at kinds (get_or of k 0)
    row-of kinds [] k inside = absurd (omega (arith, inside))
    row-of kinds (n ∷ of) zero inside = refl
    row-of kinds (n ∷ of) (suc k) inside = row-of kinds of k (omega (arith, inside))

-- readings with one number are of one kind in each rule
pub kinds_alike : {Z : Type 0} (parts : List RulePart) (of : List ℕ) (count : ℕ)
    (keys : List (Vec ℕ Z)) → All (λ (part : RulePart). count ≤ length part.of) parts →
    length of ≤ count → ((reading kind : ℕ) → slice_get of reading ≡ Some kind →
    IsKindAt keys kind (map (λ (part : RulePart). get_or part.of reading 0) parts)) →
    AreSameKinds parts of
kinds_alike parts of count keys long few are = λ reading other kind is also.
    let lt = slice_get_within of reading kind is in
    let inside = slice_get_within of other kind also in
    kinds-row parts reading other count long (omega (arith, lt, few)) (omega (arith, inside, few))
    (same_Some _ _ (sym (are reading kind is) ∙ are other kind also))

-- what stands in a list with one more at its end
pub pushed-cases : (xs : List ℕ) (x i y : ℕ) → slice_get (xs ++ x ∷ []) i ≡ Some y →
    (slice_get xs i ≡ Some y) ⊎ ((i ≡ length xs) × (x ≡ y))
pushed-cases [] x zero y h = inr (refl, same_Some x y h)
pushed-cases [] x (suc i) y h = cc
pushed-cases (a ∷ xs) x zero y h = inl h
pushed-cases (a ∷ xs) x (suc i) y h = elim (pushed-cases xs x i y h) [
  | inl earlier ↦ inl earlier
  | inr e ↦ inr (ap suc e.0, e.1)
]

-- each reading so far has the number of its kinds in each rule
abbrev pub kinds-at : List RulePart → (reading : ℕ) → List ℕ
kinds-at parts reading = map (λ (part : RulePart). get_or part.of reading 0) parts

pub record AreNumbered {Z : Type 0} (parts : List RulePart) (of : List ℕ)
    (keys : List (Vec ℕ Z)) (count : ℕ) : Type 0 where
  pub counted : length of ≡ count
  pub are : (reading kind : ℕ) → slice_get of reading ≡ Some kind →
      IsKindAt keys kind (kinds-at parts reading)

pub numbered-none : {Z : Type 0} (parts : List RulePart) (of : List ℕ) (keys : List (Vec ℕ Z)) →
    of ≡ [] → AreNumbered parts of keys 0
numbered-none parts of keys none = record {
  counted = ap length none;
  are = λ reading kind at. absurd (nothing-at reading kind
      (subst (λ (ks : List ℕ). slice_get ks reading ≡ Some kind) none at));
}
  where
    nothing-at : (reading kind : ℕ) → slice_get {X = ℕ} [] reading ≡ Some kind → ⊥
    nothing-at reading kind h = cc

pub numbered-more : {Z : Type 0} (parts : List RulePart) (of more : List ℕ)
    (old new : List (Vec ℕ Z)) (count number : ℕ) (kinds : List ℕ) →
    ((kind : ℕ) (ks : List ℕ) → IsKindAt old kind ks → IsKindAt new kind ks) →
    IsKindAt new number kinds → kinds ≡ kinds-at parts count → more ≡ of ++ number ∷ [] →
    AreNumbered parts of old count → AreNumbered parts more new (count + 1)
numbered-more {Z} parts of more old new count number kinds kept at same is are =
    let counted = are.counted in
    let len = length-append of (number ∷ []) in
    let long = ap length is in
    record {
      counted = omega (arith, counted, len, long);
      are = λ reading kind here. elim (pushed-cases of number reading kind
          (subst (λ (ks : List ℕ). slice_get ks reading ≡ Some kind) is here)) [
            | inl earlier ↦ kept kind (kinds-at parts reading) (are.are reading kind earlier)
            | inr e ↦
                let last : reading ≡ count = e.0 ∙ counted in
                subst (λ (k : ℕ). IsKindAt new k (kinds-at parts reading)) e.1
                (subst (λ (ks : List ℕ). IsKindAt new number ks)
                (same ∙ ap (λ (r : ℕ). kinds-at parts r) (sym last)) at)
          ];
    }

-- readings of the same kinds have the kinds of one another
pub kinds-same : (parts : List RulePart) (one other : ℕ) →
    All (λ (part : RulePart). get_or part.of one 0 ≡ get_or part.of other 0) parts →
    kinds-at parts one ≡ kinds-at parts other
kinds-same [] one other same = refl
kinds-same (part ∷ parts) one other same =
    ap (λ (k : ℕ). k ∷ kinds-at parts one)
    (All-head (λ (p : RulePart). get_or p.of one 0 ≡ get_or p.of other 0) part parts same)
    ∙ ap (λ (ks : List ℕ). get_or part.of other 0 ∷ ks)
    (kinds-same parts one other
    (All-tail (λ (p : RulePart). get_or p.of one 0 ≡ get_or p.of other 0) part parts same))

-- and so one number
pub like-numbered : {Z : Type 0} (parts : List RulePart) (of : List ℕ) (keys : List (Vec ℕ Z))
    (count reading : ℕ) (known : Option ℕ) → AreNumbered parts of keys count →
    IfSome known (λ number. (other : ℕ) × (slice_get of other ≡ Some number)
    × All (λ (part : RulePart). get_or part.of other 0 ≡ get_or part.of reading 0) parts) →
    IfSome known (λ number. IsKindAt keys number (kinds-at parts reading))
like-numbered parts of keys count reading None are found = tt
like-numbered parts of keys count reading (Some number) are (other, at, same) =
    subst (IsKindAt keys number) (kinds-same parts other reading same) (are.are other number at)

pub kind-here : {Z : Type 0} (keys : List (Vec ℕ Z)) (number : ℕ) (key : Vec ℕ Z)
    (kinds : List ℕ) → slice_get keys number ≡ Some key → kinds ≡ key.items →
    IsKindAt keys number kinds
kind-here {Z} keys number key kinds at same =
    ap (λ (o : Option (Vec ℕ Z)). option_map (λ (k : Vec ℕ Z). k.items) o) at
    ∙ ap (λ (ks : List ℕ). Some ks) (sym same)

pub kinds-kept : {Z : Type 0} (old new : List (Vec ℕ Z)) →
    ((n : ℕ) (key : Vec ℕ Z) → slice_get old n ≡ Some key → slice_get new n ≡ Some key) →
    (number : ℕ) (kinds : List ℕ) → IsKindAt old number kinds → IsKindAt new number kinds
kinds-kept {Z} old new kept number kinds at = by (slice_get old number) refl at
  where
    by : (o : Option (Vec ℕ Z)) → slice_get old number ≡ o →
        option_map (λ (k : Vec ℕ Z). k.items) o ≡ Some kinds → IsKindAt new number kinds
    by None e h = cc
    by (Some key) e h =
        kind-here new number key kinds (kept number key e) (sym (same_Some key.items kinds h))

-- what is watched after one more reading, where more is seen
pub watched-later : (parts : List RulePart) (of : List ℕ) (old new : List (List Seen))
    (states more : List Joint) → AreKept old states new more → (state reading next : ℕ)
    (list : List ℕ) → IsWatchedAt (side_of parts of old states) state list →
    ((joint : Joint) → IsJointAt states state joint →
    IsJointStep parts new more reading joint next) →
    IsWatchedAt (side_of parts of new more) next (list ++ reading ∷ [])
watched-later parts of old new states more kept state reading next list is steps =
    step-watched parts new more reading next is.0 list
    (still-all parts of old new states more kept is.0.seen.items list is.2) (steps is.0 is.1)

pub joint-in : (states : List Joint) (number : ℕ) (joint : Joint) →
    IsJointAt states number joint → Contains states joint
joint-in states number joint at = Contains-at states joint number at
