-- Rules side by side, and what is remembered of them. All of it is right of the rules and the kinds
-- of readings, whatever the list.
use Rattle.std.specs.Prelude.{◌≡◌, ℕ, ◌+◌, ◌*◌, ◌<◌, ◌≤◌, ◌^◌, ◌↔◌, List, [], ◌∷◌, All, Contains, IfSome, IsTrue, Option, Some, Vec, get_or, length, map, slice_get}
use Rattle.std.specs.List.{AllZip}
use Rattle.std.specs.Option.{option_map}
use Rattle.ux_monitor.specs.declared.watching.Seen.{Seen}
use Rattle.ux_monitor.specs.declared.memory.Memory.{Memory}
use Rattle.ux_monitor.specs.declared.joint.Joint.{Joint}
use Rattle.ux_monitor.specs.declared.joint.Memories.{Memories}
use Rattle.ux_monitor.specs.declared.product.Product.{Product}
use Rattle.ux_monitor.specs.Rules.{SatisfiesBy}
use Rattle.ux_monitor.specs.Monitors.{Monitored, WatchesBy, kind_at, tests_of}
use Rattle.ux_monitor.specs.Remembering.{BeginsAs, IsAt, IsRemembered, KeepsNumbers, LeadsTo}
use Rattle.ux_monitor.specs.Naming.{joined, name_of}

-- a rule among several: the rule with its kinds, and for each reading the number of its kind
pub record RulePart : Type 0 where
  pub over : Monitored
  pub of : List ℕ

-- for each reading the tests of the rule that it passes
abbrev pub table_of : RulePart → List (List ℕ)
table_of part = tests_of part.over.kinds part.of

-- the list satisfies the rule
abbrev pub SatisfiesPart : RulePart → List ℕ → Type 0
SatisfiesPart part list = SatisfiesBy part.over.rule (table_of part) list

-- the list satisfies each of the rules
abbrev pub SatisfiesParts : List RulePart → List ℕ → Type 0
SatisfiesParts parts list = (part : RulePart) → Contains parts part → SatisfiesPart part list

-- what is remembered of the rule is right
abbrev pub IsRememberedOf : RulePart → Memory → Type 0
IsRememberedOf part memory =
    IsRemembered part.over.rule.steps part.over.rule.ends part.over.kinds memory

-- what was seen of each rule, by numbers
abbrev pub seen_in : List Memory → List (List Seen)
seen_in memories = map (λ (m : Memory). m.states.keys) memories

-- what was seen of the rule at the index
abbrev pub states_at : List (List Seen) → (index : ℕ) → List Seen
states_at all index = get_or all index []

abbrev pub number_at : List ℕ → (index : ℕ) → ℕ
number_at numbers index = get_or numbers index 0

-- numbers go on standing for what they stood for, of each rule
abbrev pub KeepsAll : (old new : List (List Seen)) → Type 0
KeepsAll old new = (index : ℕ) → KeepsNumbers (states_at old index) (states_at new index)

-- what is remembered of each rule is still right, and numbers stand for what they stood for
pub record AreStill (parts : List RulePart) (old new : List Memory) : Type 0 where
  pub right : AllZip IsRememberedOf parts new
  pub kept : KeepsAll (seen_in old) (seen_in new)

-- each of so many numbers stands for what is seen of its rule, which is so
pub record AreAt (all : List (List Seen)) (count : ℕ) (numbers : List ℕ)
    (IsSo : (index : ℕ) → Seen → Type 0) : Type 0 where
  pub counted : length numbers ≡ count
  pub each : (index : ℕ) → index < count →
      (seen : Seen) × IsAt (states_at all index) (number_at numbers index) seen × IsSo index seen

-- the same of all rules
abbrev pub AreAllAt : (all : List (List Seen)) → (numbers : List ℕ) →
    (IsSo : (index : ℕ) → Seen → Type 0) → Type 0
AreAllAt all numbers IsSo = AreAt all (length all) numbers IsSo

-- each number stands for something that was seen of its rule
abbrev pub AreKnown : (all : List (List Seen)) → (numbers : List ℕ) → Type 0
AreKnown all numbers = AreAllAt all numbers (λ index seen. Unit {0})

-- what is seen of the rule at the index
module _ (parts : List RulePart) where
  -- before any reading
  abbrev pub Begins : (index : ℕ) → Seen → Type 0
  Begins index seen = (part : RulePart) → slice_get parts index ≡ Some part →
      BeginsAs part.over.rule.steps seen

  -- after one reading more than what has the number
  abbrev pub Follows : (all : List (List Seen)) → (numbers : List ℕ) → (reading index : ℕ) →
      Seen → Type 0
  Follows all numbers reading index seen =
      (before : Seen) × IsAt (states_at all index) (number_at numbers index) before
      × ((part : RulePart) → slice_get parts index ≡ Some part →
      LeadsTo part.over.rule.steps part.over.rule.ends (kind_at (table_of part) reading) before seen)

  -- after the list
  abbrev pub IsWatched : (list : List ℕ) → (index : ℕ) → Seen → Type 0
  IsWatched list index seen = (part : RulePart) → slice_get parts index ≡ Some part →
      WatchesBy part.over.rule (table_of part) seen list

-- the joint state is one of things that were seen, and accepts where each of them does
pub record IsJoint (all : List (List Seen)) (joint : Joint) : Type 0 where
  pub known : AreKnown all joint.seen.items
  pub tells : IsTrue joint.is_accepted ↔ ((index : ℕ) (seen : Seen) → index < length all →
      IsAt (states_at all index) (number_at joint.seen.items index) seen → IsTrue seen.is_accepted)

-- the number stands for the joint state
abbrev pub IsJointAt : List Joint → ℕ → Joint → Type 0
IsJointAt states number joint = slice_get states number ≡ Some joint

-- a reading leads from the joint state with the one number to that with the other
pub record IsJointStep (parts : List RulePart) (all : List (List Seen)) (states : List Joint)
    (reading : ℕ) (joint : Joint) (number : ℕ) : Type 0 where
  pub later : Joint
  pub there : IsJointAt states number later
  pub leads : AreAllAt all later.seen.items (Follows parts all joint.seen.items reading)

-- the place of a kind of readings in the row of a joint state
abbrev pub IsPlace : (state kind place : ℕ) → Type 0
IsPlace state kind place = (kind < 256) × (place ≡ state * 256 + kind)

-- readings of the kind lead from the joint state with the one number to that with the other
pub record IsRow (parts : List RulePart) (of : List ℕ) (all : List (List Seen))
    (states : List Joint) (state kind number : ℕ) : Type 0 where
  pub joint : Joint
  pub here : IsJointAt states state joint
  pub each : (reading : ℕ) → slice_get of reading ≡ Some kind →
      IsJointStep parts all states reading joint number

-- what is remembered of each rule and of all is right
pub record AreJoined (parts : List RulePart) (of : List ℕ) (memories : List Memory)
    (states : List Joint) (rows : List (Option ℕ)) : Type 0 where
  pub each : AllZip IsRememberedOf parts memories
  pub joints : (joint : Joint) → Contains states joint → IsJoint (seen_in memories) joint
  pub filled : (state kind place number : ℕ) → IsPlace state kind place →
      slice_get rows place ≡ Some (Some number) →
      IsRow parts of (seen_in memories) states state kind number

abbrev pub AreRemembered : List RulePart → (of : List ℕ) → Memories → Type 0
AreRemembered parts of memories =
    AreJoined parts of memories.each.items memories.states.keys memories.rows.items

-- readings of one kind pass the same tests of each rule
abbrev pub AreSameKinds : List RulePart → (of : List ℕ) → Type 0
AreSameKinds parts of = (reading other kind : ℕ) → slice_get of reading ≡ Some kind →
    slice_get of other ≡ Some kind →
    All (λ (part : RulePart). kind_at (table_of part) reading ≡ kind_at (table_of part) other) parts

-- the numbers of all rules and of joint states go on standing for what they stood for
pub record AreKept (old : List (List Seen)) (states : List Joint) (new : List (List Seen))
    (later : List Joint) : Type 0 where
  pub counted : length new ≡ length old
  pub all : KeepsAll old new
  pub joints : (number : ℕ) (joint : Joint) → IsJointAt states number joint →
      IsJointAt later number joint

abbrev pub AreGrown : (old new : Memories) → Type 0
AreGrown old new = AreKept (seen_in old.each.items) old.states.keys (seen_in new.each.items)
    new.states.keys

-- what is known and remembered of several rules is right
pub record IsProductOf (parts : List RulePart) (product : Product) : Type 0 where
  pub kinds : AreSameKinds parts product.of.items
  pub memories : IfSome product.memories (AreRemembered parts product.of.items)

-- a name of the rules and of the readings' kinds: no others have it
abbrev pub part_name : RulePart → List ℕ
part_name part =
    name_of (record { rule = part.over.rule; kinds = part.of ∷ part.over.kinds })

abbrev pub product_name : List RulePart → (of : List ℕ) → List ℕ
product_name parts of = joined (of ∷ map part_name parts)

-- monitors side by side: their rules, the readings' kinds, and what has the numbers
pub record Joined : Type 0 where
  pub parts : List RulePart
  pub of : List ℕ
  pub seen : List (List Seen)
  pub states : List Joint

-- after the list each monitor sees what is in the joint state with the number
abbrev pub IsWatchedAt : Joined → (number : ℕ) → (list : List ℕ) → Type 0
IsWatchedAt side number list = (joint : Joint) × IsJointAt side.states number joint
    × AreAllAt side.seen joint.seen.items (IsWatched side.parts list)

-- a joint state's number stands for what has it, and each number past all states for the name
pub record StandsJointly (side : Joined) (number : ℕ) (list : List ℕ) : Type 0 where
  pub state : number < 2 ^ 64 → IsWatchedAt side number list
  pub name : 2 ^ 64 ≤ number → list ≡ product_name side.parts side.of

-- the kinds with the number in each rule are these
abbrev pub IsKindAt : {Z : Type 0} → List (Vec ℕ Z) → (number : ℕ) → (kinds : List ℕ) → Type 0
IsKindAt keys number kinds = option_map (λ key. key.items) (slice_get keys number) ≡ Some kinds
