use Rattle.std.proofs.Common.{arith, ◌≡◌, ℕ, ◌<◌, List, ◌⊎◌, Vec, Global, ◌∙◌, sym, ap, subst, length, get_or}
use Rattle.std.specs.Prelude.{Option, Contains, Some}
use Rattle.std.proofs.lemmas.List.{length-map}
use Rattle.std.proofs.lemmas.Option.{same_Some, slice_get_within, slice_get-get_or}
use Rattle.ux_monitor.specs.declared.rule.Step.{Step}
use Rattle.ux_monitor.specs.declared.watching.Seen.{Seen}
use Rattle.ux_monitor.specs.declared.memory.Taken.{Taken}
use Rattle.ux_monitor.specs.Monitors.{kind_at}
use Rattle.ux_monitor.specs.Remembering.{AreRight, IsAt, KeepsNumbers, LeadsTo, kinds_in}
use Rattle.ux_monitor.proofs.NumberingLemmas.{tests_at, some_at}
use Rattle.ux_monitor.proofs.MemoryLemmas.{right_step}
use Rattle.ux_monitor.proofs.memory.Memory.step.Goals as goal

pub returns-in-Some-clause-stepped : goal.returns-in-Some-clause-stepped
returns-in-Some-clause-stepped c = λ before at.
    let taken : Taken = record { seen = c.args.seen; kind = c.args.kind } in
    let s = c.requires.right.leads taken c.in-Some.number.now c.in-Some.ensures in
    let is : s.seen ≡ before = same_Some s.seen before (sym s.here ∙ at) in (
      s.later,
      s.there,
      subst (λ (x : Seen). LeadsTo c.args.steps.now c.args.ends.now
          (kind_at (kinds_in c.args.kinds.now) c.args.kind) x s.later) is s.leads,
    )

pub returns-then-len-seen-clause-stepped : goal.returns-then-len-seen-clause-stepped
returns-then-len-seen-clause-stepped c = λ before at.
    let inside = slice_get_within c.args.self.now.states.keys c.args.seen before at in
    let past = c.if-len-seen.true in
    let len = c.len.ensures.len in
    absurd (omega (arith, inside, past, len))

-- the tests are those of the kind
module _ (kinds : List (Vec ℕ Global)) (kind : ℕ) (row : Vec ℕ Global) (tests : List ℕ)
    (inside : kind < length kinds) (is : row ≡ get_or kinds kind row) (same : tests ≡ row.items)
  where
    are_tests : tests ≡ kind_at (kinds_in kinds) kind
    are_tests = same ∙ sym (tests_at kinds kind row
        (slice_get-get_or kinds kind row inside ∙ ap (λ (x : Vec ℕ Global). Some x) (sym is)))

    is_known : kind < length (kinds_in kinds)
    is_known =
        let items : Vec ℕ Global → List ℕ = λ x. x.items in
        let len = length-map kinds items in
        omega (arith, inside, len)

pub returns-clause-stepped : goal.returns-clause-stepped
returns-clause-stepped c = λ before at.
    let s = c.in_ok-number.ensures.stepped before at in
    let same = are_tests c.args.kinds.now c.args.kind c.index-kinds-kind.result
    c.as_slice.result.now c.requires.known c.index-kinds-kind.is c.as_slice.ensures.value in (
      s.0,
      s.1,
      subst (λ (tests : List ℕ). LeadsTo c.args.steps.now c.args.ends.now tests before s.0) same
          s.2,
    )

module _ (steps : List Step) (ends : List ℕ) (kinds : List (Vec ℕ Global)) (taken : Taken)
    (row : Vec ℕ Global) (tests : List ℕ) (inside : taken.kind < length kinds)
    (is : row ≡ get_or kinds taken.kind row) (same : tests ≡ row.items)
  where
    -- the step that was taken is remembered
    more_right : (old new : List Seen) (first : Option ℕ) (next more : List (Taken × ℕ))
        (number : ℕ) → taken.seen < length old → KeepsNumbers old new →
        ((before : Seen) → IsAt old taken.seen before → (later : Seen)
        × IsAt new number later × LeadsTo steps ends tests before later) →
        ((k : Taken) (v : ℕ) → Contains more (k, v) →
        Contains next (k, v) ⊎ ((k ≡ taken) × (v ≡ number))) →
        AreRight steps ends (kinds_in kinds) new first next →
        AreRight steps ends (kinds_in kinds) new first more
    more_right old new first next more number there kept stepped only right =
        let before = some_at old taken.seen there in
        let later = stepped before.0 before.1 in
        right_step steps ends (kinds_in kinds) new first next more taken number
        (record {
          known = is_known kinds taken.kind row tests inside is same;
          seen = before.0;
          here = kept taken.seen before.0 before.1;
          later = later.0;
          there = later.1;
          leads = subst (λ (xs : List ℕ). LeadsTo steps ends xs before.0 later.0)
              (are_tests kinds taken.kind row tests inside is same) later.2;
        })
        only right

pub returns-in_err-put_at-clause-right : goal.returns-in_err-put_at-clause-right
returns-in_err-put_at-clause-right c =
    let taken : Taken = record { seen = c.args.seen; kind = c.args.kind } in
    let memory = c.step_by.new.self in
    let past = c.if-len-seen.false in
    let len = c.len.ensures.len in
    more_right c.args.steps.now c.args.ends.now c.args.kinds.now taken c.index-kinds-kind.result
    c.as_slice.result.now c.requires.known c.index-kinds-kind.is c.as_slice.ensures.value
    c.args.self.now.states.keys memory.states.keys memory.first memory.next.entries
    c.put_at.new.map.entries c.in_ok-number.number (omega (arith, past, len))
    c.step_by.ensures.kept c.in_ok-number.ensures.stepped c.put_at.ensures
    (c.step_by.ensures.right (kinds_in c.args.kinds.now) c.requires.right)

pub returns-clause-right : goal.returns-clause-right
returns-clause-right c =
    let taken : Taken = record { seen = c.args.seen; kind = c.args.kind } in
    let memory = c.step_by.new.self in
    let past = c.if-len-seen.false in
    let len = c.len.ensures.len in
    more_right c.args.steps.now c.args.ends.now c.args.kinds.now taken c.index-kinds-kind.result
    c.as_slice.result.now c.requires.known c.index-kinds-kind.is c.as_slice.ensures.value
    c.args.self.now.states.keys memory.states.keys memory.first memory.next.entries
    c.put_at.new.map.entries c.in_ok-number.number (omega (arith, past, len))
    c.step_by.ensures.kept c.in_ok-number.ensures.stepped c.put_at.ensures
    (c.step_by.ensures.right (kinds_in c.args.kinds.now) c.requires.right)
