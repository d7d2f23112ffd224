-- What is remembered of rules side by side, one rule after the other.
use Rattle.std.proofs.Common.{arith, ◌≡◌, ℕ, zero, suc, ◌+◌, ◌<◌, ◌≤◌, List, [], ◌∷◌, ◌++◌, ◌⊎◌, ◌↔◌, inl, inr, refl, sym, ◌∙◌, ap, subst, length, length-append, get_or, set, take, drop}
use Rattle.std.proofs.Math.Seq.{take-append_seam}
use Rattle.std.specs.Prelude.{All, Bool, Contains, IfSome, IsTrue, None, Option, Some, slice_get, true}
use Rattle.std.specs.List.{AllZip}
use Rattle.std.proofs.lemmas.List.{get_or_append_left}
use Rattle.std.proofs.lemmas.List.Elements.{All-contains, All-head, All-tail}
use Rattle.std.proofs.lemmas.Option.{same_Some, slice_get-get_or, slice_get_within}
use Rattle.ux_base.proofs.Lists.{less_or, nothing_in, same_or}
use Rattle.ux_base.proofs.OrderedLists.{Contains-at}
use Rattle.ux_monitor.specs.declared.watching.Seen.{Seen}
use Rattle.ux_monitor.specs.declared.memory.Memory.{Memory}
use Rattle.ux_monitor.specs.declared.joint.Joint.{Joint}
use Rattle.ux_monitor.specs.declared.rule.Step.{Step}
use Rattle.ux_monitor.specs.Monitors.{kind_at}
use Rattle.ux_monitor.specs.Remembering.{IsAt, IsRemembered, KeepsNumbers, LeadsTo}
use Rattle.ux_monitor.specs.Parts.{AreAllAt, AreAt, AreJoined, AreKept, AreKnown, AreSameKinds, AreStill, Follows, IsJoint, IsJointAt, IsJointStep, IsPlace, IsRememberedOf, IsRow, KeepsAll, RulePart, number_at, seen_in, states_at, table_of}

-- what stands at one index of both lists
pub zip-at : {A B : Type 0} (R : A → B → Type 0) (xs : List A) (ys : List B) → AllZip R xs ys →
    (i : ℕ) (x : A) (y : B) → slice_get xs i ≡ Some x → slice_get ys i ≡ Some y → R x y
zip-at R [] ys are i x y hx hy = cc
zip-at R (a ∷ xs) [] are i x y hx hy = absurd are
zip-at R (a ∷ xs) (b ∷ ys) are zero x y hx hy =
    subst (λ (z : _). R z y) (same_Some a x hx) (subst (λ (z : _). R a z) (same_Some b y hy) are.0)
zip-at R (a ∷ xs) (b ∷ ys) are (suc i) x y hx hy = zip-at R xs ys are.1 i x y hx hy

pub zip-set : {A B : Type 0} (R : A → B → Type 0) (xs : List A) (ys : List B) → AllZip R xs ys →
    (i : ℕ) (x : A) (y : B) → slice_get xs i ≡ Some x → R x y → AllZip R xs (set ys i y)
zip-set R [] ys are i x y hx r = cc
zip-set R (a ∷ xs) [] are i x y hx r = absurd are
zip-set R (a ∷ xs) (b ∷ ys) are zero x y hx r =
    (subst (λ (z : _). R z y) (sym (same_Some a x hx)) r, are.1)
zip-set R (a ∷ xs) (b ∷ ys) are (suc i) x y hx r = (are.0, zip-set R xs ys are.1 i x y hx r)

pub zip-length : {A B : Type 0} (R : A → B → Type 0) (xs : List A) (ys : List B) →
    AllZip R xs ys → length ys ≡ length xs
zip-length R [] [] are = refl
zip-length R [] (y ∷ ys) are = absurd are
zip-length R (x ∷ xs) [] are = absurd are
zip-length R (x ∷ xs) (y ∷ ys) are = let e = zip-length R xs ys are.1 in omega (arith, e)

pub seen-length : (memories : List Memory) → length (seen_in memories) ≡ length memories
seen-length [] = refl
seen-length (m ∷ memories) = let e = seen-length memories in omega (arith, e)

-- what was seen of the rule at the index
pub states-is : (memories : List Memory) (i : ℕ) (m : Memory) → slice_get memories i ≡ Some m →
    states_at (seen_in memories) i ≡ m.states.keys
states-is [] i m h = cc
states-is (x ∷ memories) zero m h = ap (λ (y : Memory). y.states.keys) (same_Some x m h)
states-is (x ∷ memories) (suc i) m h = states-is memories i m h

states-same : (memories : List Memory) (i : ℕ) (m : Memory) → i < length memories →
    states_at (seen_in (set memories i m)) i ≡ m.states.keys
states-same [] i m lt = absurd (omega (arith, lt))
states-same (x ∷ memories) zero m lt = refl
states-same (x ∷ memories) (suc i) m lt = states-same memories i m (omega (arith, lt))

states-other : (memories : List Memory) (i j : ℕ) (m : Memory) → (j ≡ i → ⊥) →
    states_at (seen_in (set memories i m)) j ≡ states_at (seen_in memories) j
states-other [] i j m ne = refl
states-other (x ∷ memories) zero zero m ne = absurd (ne refl)
states-other (x ∷ memories) zero (suc j) m ne = refl
states-other (x ∷ memories) (suc i) zero m ne = refl
states-other (x ∷ memories) (suc i) (suc j) m ne =
    states-other memories i j m (λ e. ne (ap suc e))

last-at : (numbers : List ℕ) (number : ℕ) →
    number_at (numbers ++ number ∷ []) (length numbers) ≡ number
last-at [] number = refl
last-at (n ∷ numbers) number = last-at numbers number

-- the same number of the same list
at-by : (xs ys : List Seen) (n k : ℕ) (seen : Seen) → xs ≡ ys → n ≡ k → IsAt ys k seen →
    IsAt xs n seen
at-by xs ys n k seen same_list same_number at =
    ap (λ (zs : List Seen). slice_get zs n) same_list
    ∙ (ap (λ (m : ℕ). slice_get ys m) same_number ∙ at)

-- one number stands for one thing
pub same_at : (states : List Seen) (number : ℕ) (one other : Seen) → IsAt states number one →
    IsAt states number other → one ≡ other
same_at states number one other is also = same_Some one other (sym is ∙ also)

-- the first so many rules are done
pub record AreReached (parts : List RulePart) (old now : List Memory) (numbers : List ℕ) (i : ℕ)
    (IsSo : ℕ → Seen → Type 0) : Type 0 where
  pub right : AllZip IsRememberedOf parts now
  pub kept : KeepsAll (seen_in old) (seen_in now)
  pub behind : (index : ℕ) → i ≤ index →
      states_at (seen_in now) index ≡ states_at (seen_in old) index
  pub reached : AreAt (seen_in now) i numbers IsSo

pub reached-none : (parts : List RulePart) (old : List Memory) (IsSo : ℕ → Seen → Type 0)
    (numbers : List ℕ) → numbers ≡ [] →
    AllZip IsRememberedOf parts old → AreReached parts old old numbers 0 IsSo
reached-none parts old IsSo numbers none right = record {
  right = right;
  kept = λ index number seen at. at;
  behind = λ index past. refl;
  reached = record {
    counted = ap length none;
    each = λ index lt. absurd (omega (arith, lt));
  };
}

-- before a rule's step, and after it
pub still-none : (parts : List RulePart) (old : List Memory) → AllZip IsRememberedOf parts old →
    AreStill parts old old
still-none parts old right = record { right = right; kept = λ index number seen at. at }

pub still-now : (parts : List RulePart) (old now : List Memory) (numbers : List ℕ) (i : ℕ)
    (IsSo : ℕ → Seen → Type 0) → AreReached parts old now numbers i IsSo → AreStill parts old now
still-now parts old now numbers i IsSo are = record { right = are.right; kept = are.kept }

pub still-more : (parts : List RulePart) (old now : List Memory) (i : ℕ) →
    AreStill parts old now → (part : RulePart) → slice_get parts i ≡ Some part →
    (was new : Memory) → slice_get now i ≡ Some was → IsRememberedOf part new →
    KeepsNumbers was.states.keys new.states.keys → AreStill parts old (set now i new)
still-more parts old now i are part part_at was new was_at right kept = record {
  right = zip-set IsRememberedOf parts now are.right i part new part_at right;
  kept = λ index n seen at. elim (same_or index i) [
    | inl e ↦
        let here : IsAt (states_at (seen_in now) i) n seen =
        subst (λ (k : ℕ). IsAt (states_at (seen_in now) k) n seen) e (are.kept index n seen at) in
        subst (λ (k : ℕ). IsAt (states_at (seen_in (set now i new)) k) n seen) (sym e)
        (at-by _ _ n n seen (states-same now i new (slice_get_within now i was was_at)) refl
        (kept n seen (at-by _ _ n n seen (sym (states-is now i was was_at)) refl here)))
    | inr ne ↦ at-by _ _ n n seen (states-other now i index new ne) refl (are.kept index n seen at)
  ];
}

-- one more rule is done
pub reached-more : (parts : List RulePart) (old now : List Memory) (numbers : List ℕ) (i : ℕ)
    (IsSo : ℕ → Seen → Type 0) → AreReached parts old now numbers i IsSo → (part : RulePart) →
    slice_get parts i ≡ Some part → (was new : Memory) → slice_get now i ≡ Some was →
    IsRememberedOf part new → KeepsNumbers was.states.keys new.states.keys → (number : ℕ) →
    ((seen : Seen) × IsAt new.states.keys number seen × IsSo i seen) → (more : List ℕ) →
    more ≡ numbers ++ number ∷ [] → AreReached parts old (set now i new) more (i + 1) IsSo
reached-more parts old now numbers i IsSo are part part_at was new was_at right kept number found
    more is =
    let inside : i < length now = slice_get_within now i was was_at in
    let counted = are.reached.counted in
    let there = states-same now i new inside in
    let still = still-more parts old now i (still-now parts old now numbers i IsSo are) part
    part_at was new was_at right kept in
    record {
      right = still.right;
      kept = still.kept;
      behind = λ index past.
          let ne : index ≡ i → ⊥ = λ e. omega (arith, e, past) in
          states-other now i index new ne ∙ are.behind index (omega (arith, past));
      reached = record {
        counted =
            let len = length-append numbers (number ∷ []) in
            ap length is ∙ (let e : length (numbers ++ number ∷ []) ≡ i + 1 =
            omega (arith, len, counted) in e);
        each = λ index lt. subst (λ (ns : List ℕ). (seen : Seen)
            × IsAt (states_at (seen_in (set now i new)) index) (number_at ns index) seen
            × IsSo index seen) (sym is) (elim (same_or index i) [
              | inl e ↦
                  let last : number_at (numbers ++ number ∷ []) i ≡ number =
                  subst (λ (k : ℕ). number_at (numbers ++ number ∷ []) k ≡ number) counted
                  (last-at numbers number) in
                  subst (λ (k : ℕ). (seen : Seen)
                  × IsAt (states_at (seen_in (set now i new)) k)
                  (number_at (numbers ++ number ∷ []) k) seen × IsSo k seen) (sym e)
                  (found.0, at-by _ _ _ _ found.0 there last found.1, found.2)
              | inr ne ↦
                  let less : index < i = elim (less_or index i) [
                    | inl below ↦ below
                    | inr past ↦ absurd (ne (omega (arith, lt, past)))
                  ] in
                  let before = are.reached.each index less in
                  let within : index < length numbers = omega (arith, less, counted) in (
                    before.0,
                    at-by _ _ _ _ before.0 (states-other now i index new ne)
                        (get_or_append_left numbers (number ∷ []) 0 index within) before.1,
                    before.2,
                  )
            ]);
      };
    }

-- all rules are done
pub reached-all : (parts : List RulePart) (old now : List Memory) (numbers : List ℕ) (i : ℕ)
    (IsSo : ℕ → Seen → Type 0) → length now ≡ i → AreReached parts old now numbers i IsSo →
    AreAllAt (seen_in now) numbers IsSo
reached-all parts old now numbers i IsSo end are =
    subst (λ (n : ℕ). AreAt (seen_in now) n numbers IsSo) (sym (seen-length now ∙ end)) are.reached

-- what follows, of what is seen then
pub follows-here : (parts : List RulePart) (all : List (List Seen)) (numbers : List ℕ)
    (reading i : ℕ) (part : RulePart) (was later : Seen) → slice_get parts i ≡ Some part →
    IsAt (states_at all i) (number_at numbers i) was →
    LeadsTo part.over.rule.steps part.over.rule.ends (kind_at (table_of part) reading) was later →
    Follows parts all numbers reading i later
follows-here parts all numbers reading i part was later part_at at leads = (
  was,
  at,
  λ other other_at. subst (λ (p : RulePart). LeadsTo p.over.rule.steps p.over.rule.ends
      (kind_at (table_of p) reading) was later)
      (same_Some part other (sym part_at ∙ other_at)) leads,
)

-- 2. More is seen.
module _ (old new : List (List Seen)) (counted : length new ≡ length old) (kept : KeepsAll old new)
  where
    pub joint-grown : (joint : Joint) → IsJoint old joint → IsJoint new joint
    joint-grown joint is =
        let numbers = joint.seen.items in
        record {
          known = record {
            counted = is.known.counted ∙ sym counted;
            each = λ index lt.
                let e = is.known.each index (omega (arith, lt, counted)) in
                (e.0, kept index (number_at numbers index) e.0 e.1, tt);
          };
          tells = (
            λ accepted index seen lt at.
                let e = is.known.each index (omega (arith, lt, counted)) in
                let one : e.0 ≡ seen = same_at (states_at new index) (number_at numbers index) e.0
                seen (kept index (number_at numbers index) e.0 e.1) at in
                subst (λ (s : Seen). IsTrue s.is_accepted) one
                (is.tells.0 accepted index e.0 (omega (arith, lt, counted)) e.1),
            λ each. is.tells.1 (λ index seen lt at. each index seen (omega (arith, lt, counted))
                (kept index (number_at numbers index) seen at)),
          );
        }

    follows-grown : (parts : List RulePart) (numbers : List ℕ) (reading index : ℕ) (seen : Seen) →
        Follows parts old numbers reading index seen → Follows parts new numbers reading index seen
    follows-grown parts numbers reading index seen f =
        (f.0, kept index (number_at numbers index) f.0 f.1, f.2)

    pub all-follow : (parts : List RulePart) (numbers later : List ℕ) (reading : ℕ) →
        AreAllAt new later (Follows parts old numbers reading) →
        AreAllAt new later (Follows parts new numbers reading)
    all-follow parts numbers later reading are = record {
      counted = are.counted;
      each = λ index lt.
          let e = are.each index lt in
          (e.0, e.1, follows-grown parts numbers reading index e.0 e.2);
    }

    step-grown : (parts : List RulePart) (states more : List Joint) →
        ((number : ℕ) (joint : Joint) → IsJointAt states number joint →
        IsJointAt more number joint) → (reading number : ℕ) (joint : Joint) →
        IsJointStep parts old states reading joint number →
        IsJointStep parts new more reading joint number
    step-grown parts states more joints reading number joint step = record {
      later = step.later;
      there = joints number step.later step.there;
      leads = record {
        counted = step.leads.counted ∙ sym counted;
        each = λ index lt.
            let e = step.leads.each index (omega (arith, lt, counted)) in (
              e.0,
              kept index (number_at step.later.seen.items index) e.0 e.1,
              follows-grown parts joint.seen.items reading index e.0 e.2,
            );
      };
    }

    pub row-grown : (parts : List RulePart) (of : List ℕ) (states more : List Joint) →
        ((number : ℕ) (joint : Joint) → IsJointAt states number joint →
        IsJointAt more number joint) → (state kind number : ℕ) →
        IsRow parts of old states state kind number → IsRow parts of new more state kind number
    row-grown parts of states more joints state kind number row = record {
      joint = row.joint;
      here = joints state row.joint row.here;
      each = λ reading is.
          step-grown parts states more joints reading number row.joint (row.each reading is);
    }

-- what was right of several rules stays right where more is seen
pub joined-grown : (parts : List RulePart) (of : List ℕ) (old new : List Memory)
    (states more : List Joint) (rows : List (Option ℕ)) → AllZip IsRememberedOf parts new →
    AreKept (seen_in old) states (seen_in new) more →
    ((joint : Joint) → Contains more joint →
    Contains states joint ⊎ IsJoint (seen_in new) joint) →
    AreJoined parts of old states rows → AreJoined parts of new more rows
joined-grown parts of old new states more rows right kept only are = record {
  each = right;
  joints = λ joint has. elim (only joint has) [
    | inl earlier ↦
        joint-grown (seen_in old) (seen_in new) kept.counted kept.all joint
        (are.joints joint earlier)
    | inr is ↦ is
  ];
  filled = λ state kind place number is at.
      row-grown (seen_in old) (seen_in new) kept.counted kept.all parts of states more kept.joints
      state kind number (are.filled state kind place number is at);
}

-- a row's place is that of one state and kind
same-place : (state kind other another place : ℕ) → IsPlace state kind place →
    IsPlace other another place → (state ≡ other) × (kind ≡ another)
same-place state kind other another place is also =
    let a = is.0 in
    let b = is.1 in
    let c = also.0 in
    let d = also.1 in
    (omega (arith, a, b, c, d), omega (arith, a, b, c, d))

-- what follows by one reading of a kind follows by all of them
pub row-noted : (parts : List RulePart) (of : List ℕ) (all : List (List Seen))
    (states : List Joint) → AreSameKinds parts of → (state kind reading number : ℕ)
    (joint : Joint) → IsJointAt states state joint → slice_get of reading ≡ Some kind →
    IsJointStep parts all states reading joint number →
    IsRow parts of all states state kind number
row-noted parts of all states same state kind reading number joint at of_kind step = record {
  joint = joint;
  here = at;
  each = λ other is. record {
    later = step.later;
    there = step.there;
    leads = record {
      counted = step.leads.counted;
      each = λ index lt.
          let e = step.leads.each index lt in
          let f = e.2 in (
            e.0,
            e.1,
            (
              f.0,
              f.1,
              λ part part_at.
                  let tests : kind_at (table_of part) reading ≡ kind_at (table_of part) other =
                  All-contains (λ (p : RulePart). kind_at (table_of p) reading
                  ≡ kind_at (table_of p) other) parts part (same reading other kind of_kind is)
                  (Contains-at parts part index part_at) in
                  subst (λ (ts : List ℕ). LeadsTo part.over.rule.steps part.over.rule.ends ts f.0 e.0)
                  tests (f.2 part part_at),
            ),
          );
    };
  };
}

-- one more place of a row is filled
pub joined-noted : (parts : List RulePart) (of : List ℕ) (memories : List Memory)
    (states : List Joint) (rows more : List (Option ℕ)) (place : Option ℕ) (state next : ℕ) →
    ((here number : ℕ) → slice_get more here ≡ Some (Some number) →
    (slice_get rows here ≡ Some (Some number)) ⊎ ((place ≡ Some here) × (number ≡ next))) →
    ((here : ℕ) → place ≡ Some here → (kind : ℕ) × IsPlace state kind here
    × IsRow parts of (seen_in memories) states state kind next) →
    AreJoined parts of memories states rows → AreJoined parts of memories states more
joined-noted parts of memories states rows more place state next only filled are = record {
  each = are.each;
  joints = are.joints;
  filled = λ other another here number is at. elim (only here number at) [
    | inl earlier ↦ are.filled other another here number is earlier
    | inr new ↦
        let f = filled here new.0 in
        let same = same-place state f.0 other another here f.1 is in
        subst (λ (s : ℕ). IsRow parts of (seen_in memories) states s another number) same.0
        (subst (λ (k : ℕ). IsRow parts of (seen_in memories) states state k number) same.1
        (subst (λ (n : ℕ). IsRow parts of (seen_in memories) states state f.0 n) (sym new.1) f.2))
  ];
}

-- what is read at an index stands there
pub read-at : {A : Type 0} (xs : List A) (i : ℕ) (x : A) → i < length xs → x ≡ get_or xs i x →
    slice_get xs i ≡ Some x
read-at xs i x lt is = slice_get-get_or xs i x lt ∙ ap (λ (y : _). Some y) (sym is)

-- what is seen of the rule at the index, after its step
pub step-found : (parts : List RulePart) (old now : List Memory) (numbers : List ℕ)
    (reading i : ℕ) (part : RulePart) (was new : Memory) (number n : ℕ) →
    slice_get parts i ≡ Some part → slice_get now i ≡ Some was →
    states_at (seen_in now) i ≡ states_at (seen_in old) i → AreKnown (seen_in old) numbers →
    i < length old → number_at numbers i ≡ n →
    ((before : Seen) → IsAt was.states.keys n before → (later : Seen)
    × IsAt new.states.keys number later × LeadsTo part.over.rule.steps part.over.rule.ends
    (kind_at (table_of part) reading) before later) →
    (later : Seen) × IsAt new.states.keys number later
    × Follows parts (seen_in old) numbers reading i later
step-found parts old now numbers reading i part was new number n part_at was_at behind known lt is
    steps =
    let len = seen-length old in
    let before = known.each i (omega (arith, len, lt)) in
    let here : IsAt was.states.keys n before.0 =
    at-by _ _ _ _ before.0 (sym (states-is now i was was_at) ∙ behind) (sym is) before.1 in
    let found = steps before.0 here in (
      found.0,
      found.1,
      follows-here parts (seen_in old) numbers reading i part before.0 found.0 part_at before.1
          found.2,
    )

-- nothing is remembered, of any rule
abbrev pub IsBlank : Memory → Type 0
IsBlank memory = (steps : List Step) (ends : List ℕ) (kinds : List (List ℕ)) →
    IsRemembered steps ends kinds memory

blank-parts : (parts : List RulePart) (memories : List Memory) →
    length parts ≡ length memories → All IsBlank memories → AllZip IsRememberedOf parts memories
blank-parts [] [] e blank = tt
blank-parts [] (m ∷ memories) e blank = absurd (omega (arith, e))
blank-parts (p ∷ parts) [] e blank = absurd (omega (arith, e))
blank-parts (p ∷ parts) (m ∷ memories) e blank = (
  All-head IsBlank m memories blank p.over.rule.steps p.over.rule.ends p.over.kinds,
  blank-parts parts memories (omega (arith, e)) (All-tail IsBlank m memories blank),
)

-- nothing is remembered of several rules
pub joined-none : (parts : List RulePart) (of : List ℕ) (memories : List Memory)
    (states : List Joint) (rows : List (Option ℕ)) → length parts ≡ length memories →
    All IsBlank memories → states ≡ [] → rows ≡ [] → AreJoined parts of memories states rows
joined-none parts of memories states rows counted blank no_states no_rows = record {
  each = blank-parts parts memories counted blank;
  joints = λ joint has.
      absurd (nothing_in (subst (λ (js : List Joint). Contains js joint) no_states has));
  filled = λ state kind place number is at. absurd (nothing-at place number
      (subst (λ (rs : List (Option ℕ)). slice_get rs place ≡ Some (Some number)) no_rows at));
}
  where
    nothing-at : (place number : ℕ) → slice_get {X = Option ℕ} [] place ≡ Some (Some number) → ⊥
    nothing-at place number h = cc

-- the first so many accept
abbrev pub AcceptFirst : (memories : List Memory) (numbers : List ℕ) (i : ℕ) (all : Bool) → Type 0
AcceptFirst memories numbers i all =
    IsTrue all ↔ ((index : ℕ) (one : Seen) → index < i →
    IsAt (states_at (seen_in memories) index) (number_at numbers index) one →
    IsTrue one.is_accepted)

pub accept-none : (memories : List Memory) (numbers : List ℕ) → AcceptFirst memories numbers 0 true
accept-none memories numbers = (λ h index one lt. absurd (omega (arith, lt)), λ h. refl)

pub accept-more : (memories : List Memory) (numbers : List ℕ) (i : ℕ) (all one both : Bool)
    (memory : Memory) (n : ℕ) → slice_get memories i ≡ Some memory → number_at numbers i ≡ n →
    AreKnown (seen_in memories) numbers → i < length memories →
    ((seen : Seen) → IsAt memory.states.keys n seen → IsTrue one ↔ IsTrue seen.is_accepted) →
    (IsTrue both ↔ (IsTrue all × IsTrue one)) → AcceptFirst memories numbers i all →
    AcceptFirst memories numbers (i + 1) both
accept-more memories numbers i all one both memory n at is known inside tells are first = (
  λ accepted index seen lt seen_at. elim (same_or index i) [
    | inl e ↦ (tells seen (at-by _ _ _ _ seen
        (sym (states-is memories i memory at)
        ∙ ap (λ (k : ℕ). states_at (seen_in memories) k) (sym e))
        (sym is ∙ ap (λ (k : ℕ). number_at numbers k) (sym e)) seen_at)).0 (are.0 accepted).1
    | inr ne ↦
        let less : index < i = elim (less_or index i) [
          | inl below ↦ below
          | inr past ↦ absurd (ne (omega (arith, lt, past)))
        ] in
        (first.0 (are.0 accepted).0) index seen less seen_at
  ],
  λ each.
      let len = seen-length memories in
      let here = known.each i (omega (arith, len, inside)) in
      are.1 (
        first.1 (λ index seen lt seen_at. each index seen (omega (arith, lt)) seen_at),
        (tells here.0 (at-by _ _ _ _ here.0 (sym (states-is memories i memory at)) (sym is)
            here.1)).1 (each i here.0 (omega arith) here.1),
      ),
)

-- at a place that was added nothing is remembered
pub push-none : (rows : List (Option ℕ)) (here number : ℕ) →
    slice_get (rows ++ None ∷ []) here ≡ Some (Some number) →
    slice_get rows here ≡ Some (Some number)
push-none [] zero number h = cc
push-none [] (suc here) number h = cc
push-none (x ∷ rows) zero number h = h
push-none (x ∷ rows) (suc here) number h = push-none rows here number h

-- what is remembered where one number was written
pub set-some : (rows : List (Option ℕ)) (place next here number : ℕ) →
    slice_get (set rows place (Some next)) here ≡ Some (Some number) →
    (slice_get rows here ≡ Some (Some number)) ⊎ ((here ≡ place) × (number ≡ next))
set-some [] place next here number h = inl h
set-some (x ∷ rows) zero next zero number h =
    inr (refl, same_Some number next (same_Some (Some number) (Some next) (sym h)))
set-some (x ∷ rows) zero next (suc here) number h = inl h
set-some (x ∷ rows) (suc place) next zero number h = inl h
set-some (x ∷ rows) (suc place) next (suc here) number h =
    elim (set-some rows place next here number h) [
      | inl earlier ↦ inl earlier
      | inr e ↦ inr (ap suc e.0, e.1)
    ]

-- all of them accept
pub accept-all : (memories : List Memory) (numbers : List ℕ) (i : ℕ) (all : Bool) →
    i ≡ length memories → AcceptFirst memories numbers i all →
    IsTrue all ↔ ((index : ℕ) (one : Seen) → index < length (seen_in memories) →
    IsAt (states_at (seen_in memories) index) (number_at numbers index) one →
    IsTrue one.is_accepted)
accept-all memories numbers i all end first =
    subst (λ (n : ℕ). IsTrue all ↔ ((index : ℕ) (one : Seen) → index < n →
    IsAt (states_at (seen_in memories) index) (number_at numbers index) one →
    IsTrue one.is_accepted)) (end ∙ sym (seen-length memories)) first

-- what stands for something so stands for something
pub known-of : (all : List (List Seen)) (numbers : List ℕ) (IsSo : ℕ → Seen → Type 0) →
    AreAllAt all numbers IsSo → AreKnown all numbers
known-of all numbers IsSo are = record {
  counted = are.counted;
  each = λ index lt. let e = are.each index lt in (e.0, e.1, tt);
}

-- what is right of a rule under one name of its steps and ends is so under the other
pub named-right : (part : RulePart) (steps : List Step) (ends : List ℕ) (kinds : List (List ℕ))
    (memory : Memory) → steps ≡ part.over.rule.steps → ends ≡ part.over.rule.ends →
    kinds ≡ part.over.kinds → IsRememberedOf part memory → IsRemembered steps ends kinds memory
named-right part steps ends kinds memory is_steps is_ends is_kinds right =
    subst (λ (ss : List Step). IsRemembered ss ends kinds memory) (sym is_steps)
    (subst (λ (es : List ℕ). IsRemembered part.over.rule.steps es kinds memory) (sym is_ends)
    (subst (λ (ks : List (List ℕ)). IsRemembered part.over.rule.steps part.over.rule.ends ks memory)
    (sym is_kinds) right))

pub right-named : (part : RulePart) (steps : List Step) (ends : List ℕ) (kinds : List (List ℕ))
    (memory : Memory) → steps ≡ part.over.rule.steps → ends ≡ part.over.rule.ends →
    kinds ≡ part.over.kinds → IsRemembered steps ends kinds memory → IsRememberedOf part memory
right-named part steps ends kinds memory is_steps is_ends is_kinds right =
    subst (λ (ss : List Step). IsRemembered ss part.over.rule.ends part.over.kinds memory) is_steps
    (subst (λ (es : List ℕ). IsRemembered steps es part.over.kinds memory) is_ends
    (subst (λ (ks : List (List ℕ)). IsRemembered steps ends ks memory) is_kinds right))

-- and where it leads to
pub leads-named : (part : RulePart) (steps : List Step) (ends tests row : List ℕ)
    (before later : Seen) → steps ≡ part.over.rule.steps → ends ≡ part.over.rule.ends →
    tests ≡ row → LeadsTo steps ends tests before later →
    LeadsTo part.over.rule.steps part.over.rule.ends row before later
leads-named part steps ends tests row before later is_steps is_ends is_row leads =
    subst (λ (ss : List Step). LeadsTo ss part.over.rule.ends row before later) is_steps
    (subst (λ (es : List ℕ). LeadsTo steps es row before later) is_ends
    (subst (λ (ts : List ℕ). LeadsTo steps ends ts before later) is_row leads))

-- 3. One step.
-- where nothing more is seen all numbers stand for what they stood for
pub grown-none : (all : List (List Seen)) (states : List Joint) → AreKept all states all states
grown-none all states = record {
  counted = refl;
  all = λ index number seen at. at;
  joints = λ number joint at. at;
}

-- where what is remembered of each rule is still right they do as well
pub kept-still : (parts : List RulePart) (old new : List Memory) (states more : List Joint) →
    AllZip IsRememberedOf parts old → AreStill parts old new → ((number : ℕ) (joint : Joint) →
    IsJointAt states number joint → IsJointAt more number joint) →
    AreKept (seen_in old) states (seen_in new) more
kept-still parts old new states more right still joints = record {
  counted = seen-length new ∙ (zip-length IsRememberedOf parts new still.right
      ∙ (sym (zip-length IsRememberedOf parts old right) ∙ sym (seen-length old)));
  all = still.kept;
  joints = joints;
}

-- what is right of a list is so of a slice of all its items
pub lent-right : (parts : List RulePart) (old lent : List Memory) → lent ≡ old →
    AllZip IsRememberedOf parts old → AllZip IsRememberedOf parts lent
lent-right parts old lent is right =
    subst (λ (ms : List Memory). AllZip IsRememberedOf parts ms) (sym is) right

-- and what the slice was, is what the list is then
pub lent-back : (parts : List RulePart) (old lent new : List Memory) (len : ℕ) →
    len ≡ length old → AllZip IsRememberedOf parts old → AreStill parts lent new →
    take len (new ++ drop (length new) old) ≡ new
lent-back parts old lent new len counted right still =
    let was = zip-length IsRememberedOf parts old right in
    let now = zip-length IsRememberedOf parts new still.right in
    let e : length new ≡ len = omega (arith, counted, was, now) in
    subst (λ (n : ℕ). take n (new ++ drop (length new) old) ≡ new) e
    (take-append_seam new (drop (length new) old))

-- the joint states are those that were, and one of what was seen
pub joints-seen : (lent memories : List Memory) (states more : List Joint) → lent ≡ memories →
    ((joint : Joint) → Contains more joint → Contains states joint ⊎ IsJoint (seen_in lent) joint) →
    (joint : Joint) → Contains more joint → Contains states joint ⊎ IsJoint (seen_in memories) joint
joints-seen lent memories states more is only =
    subst (λ (ms : List Memory). (joint : Joint) → Contains more joint →
    Contains states joint ⊎ IsJoint (seen_in ms) joint) is only

-- a place of a row is that of the reading's kind
abbrev pub IsPlaceFor : (of : List ℕ) → (state reading : ℕ) → Option ℕ → Type 0
IsPlaceFor of state reading place = IfSome place (λ here. (kind : ℕ)
    × (slice_get of reading ≡ Some kind) × IsPlace state kind here)

place-for : (of : List ℕ) (state reading : ℕ) (place : Option ℕ) (here : ℕ) →
    place ≡ Some here → IsPlaceFor of state reading place →
    (kind : ℕ) × (slice_get of reading ≡ Some kind) × IsPlace state kind here
place-for of state reading place here is told = subst (IsPlaceFor of state reading) is told

module _ (parts : List RulePart) (of : List ℕ) where
  -- what is remembered of a reading
  pub hit-step : (memories : List Memory) (states : List Joint) (rows : List (Option ℕ)) →
      AreJoined parts of memories states rows → (place : Option ℕ) (state reading next : ℕ) →
      IsPlaceFor of state reading place → ((here : ℕ) × (place ≡ Some here)
      × (slice_get rows here ≡ Some (Some next))) → (joint : Joint) →
      IsJointAt states state joint →
      IsJointStep parts (seen_in memories) states reading joint next
  hit-step memories states rows right place state reading next told found joint at =
      let kind = place-for of state reading place found.0 found.1 told in
      let row = right.filled state kind.0 found.0 next kind.2 found.2 in
      let same : row.joint ≡ joint = same_Some row.joint joint (sym row.here ∙ at) in
      subst (λ (j : Joint). IsJointStep parts (seen_in memories) states reading j next) same
      (row.each reading kind.1)

  module _ (old new : List Memory) (states more : List Joint) (rows : List (Option ℕ))
      (right : AreJoined parts of old states rows) (still : AreStill parts old new)
      (joints : (number : ℕ) (joint : Joint) → IsJointAt states number joint →
      IsJointAt more number joint) where
    pub still-kept : AreKept (seen_in old) states (seen_in new) more
    still-kept = kept-still parts old new states more right.each still joints

    pub still-joined : ((joint : Joint) → Contains more joint →
        Contains states joint ⊎ IsJoint (seen_in new) joint) →
        AreJoined parts of new more rows
    still-joined only = joined-grown parts of old new states more rows still.right still-kept only
        right

    -- the step that was made
    pub made-step : (reading next : ℕ) (joint : Joint) (seen : List ℕ) →
        AreAllAt (seen_in new) seen (Follows parts (seen_in old) joint.seen.items reading) →
        ((later : Joint) × IsJointAt more next later × (later.seen.items ≡ seen)) →
        IsJointStep parts (seen_in new) more reading joint next
    made-step reading next joint seen follow placed = record {
      later = placed.0;
      there = placed.1;
      leads = subst (λ (ns : List ℕ). AreAllAt (seen_in new) ns
          (Follows parts (seen_in new) joint.seen.items reading)) (sym placed.2)
          (all-follow (seen_in old) (seen_in new) still-kept.counted still.kept parts joint.seen.items seen
          reading follow);
    }

    -- and is remembered
    pub noted-step : AreSameKinds parts of → ((joint : Joint) → Contains more joint →
        Contains states joint ⊎ IsJoint (seen_in new) joint) → (filled : List (Option ℕ))
        (place : Option ℕ) (state reading next : ℕ) (joint : Joint) →
        IsPlaceFor of state reading place → ((here number : ℕ) →
        slice_get filled here ≡ Some (Some number) → (slice_get rows here ≡ Some (Some number))
        ⊎ ((place ≡ Some here) × (number ≡ next))) → IsJointAt states state joint →
        IsJointStep parts (seen_in new) more reading joint next →
        AreJoined parts of new more filled
    noted-step same only filled place state reading next joint told new_only at step =
        joined-noted parts of new more rows filled place state next new_only
        (λ here is.
        let kind = place-for of state reading place here is told in (
          kind.0,
          kind.2,
          row-noted parts of (seen_in new) more same state kind.0 reading next joint
              (joints state joint at) kind.1 step,
        )) (still-joined only)

-- what was seen stands for something so, and so for something
pub joint-known : (parts : List RulePart) (of : List ℕ) (memories : List Memory)
    (states : List Joint) (rows : List (Option ℕ)) → AreJoined parts of memories states rows →
    (number : ℕ) (joint : Joint) → IsJointAt states number joint →
    AreKnown (seen_in memories) joint.seen.items
joint-known parts of memories states rows right number joint at =
    (right.joints joint (Contains-at states joint number at)).known
