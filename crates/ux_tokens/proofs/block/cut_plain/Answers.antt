use Rattle.std.proofs.Common.{ℕ, ◌+◌, List, get_or, refl, sym, ◌∙◌, subst, arith}
use Rattle.std.proofs.lemmas.Grind.{common_steps}
use Rattle.std.proofs.lemmas.List.{length-set}
use Rattle.ux_tokens.specs.declared.kind.Kind.TheVariants.{Word}
use Rattle.ux_tokens.specs.Blocks.{IsClass}
use Rattle.ux_tokens.proofs.BlocksLemmas.{block_start, block_more, class_at, plain_at}
use Rattle.ux_tokens.proofs.block.cut_plain.Goals as goal

pub loop-place-init : goal.loop-place-init
loop-place-init c =
    let text = c.args.text.now in
    let start = c.args.start in
    let classes = c.args.classes.now in
    let plain = plain_at text start (c.args.len + 1) start c.requires.plain (omega arith) (omega arith)
    in
    record {
      ends = refl;
      kinds = refl;
      few = omega arith;
      block = λ alphabet runs are.
          block_start alphabet text c.utf8.text start c.args.ends.now c.args.kinds.now _
          c.requires.boundary
          (subst (λ (bytes : List ℕ).
          IsClass alphabet (get_or text start 0) (get_or classes (get_or bytes start 0) Word))
          (sym c.as_bytes-bytes.ensures.value)
          (class_at alphabet classes (get_or text start 0) are plain.0));
    }

pub bounds-classes-bytes-in-loop-place : goal.bounds-classes-bytes-in-loop-place
bounds-classes-bytes-in-loop-place c =
    let few = c.loop-place.invariant.few in
    let within = c.loop-place-test.true in
    let plain = plain_at c.args.text.now c.args.start (c.args.len + 1) (c.loop-place.place + 1)
    c.requires.plain (omega (arith, few)) (omega (arith, within)) in
    rw c.as_bytes-bytes.ensures.value (rw c.requires.classes plain.0)

pub loop-place-preserved : goal.loop-place-preserved
loop-place-preserved c =
    let inv = c.loop-place.invariant in
    let text = c.args.text.now in
    let start = c.args.start in
    let place = c.loop-place.place in
    let classes = c.args.classes.now in
    let few = inv.few in
    let within = c.loop-place-test.true in
    let bit = c.ends_between-count.ensures in
    let inside = c.requires.within in
    let plain = plain_at text start (c.args.len + 1) place c.requires.plain (omega (arith, few))
    (omega (arith, within)) in
    let plain_next = plain_at text start (c.args.len + 1) (place + 1) c.requires.plain
    (omega (arith, few)) (omega (arith, within)) in
    let one = bit.bit in
    let same = inv.ends in
    let same_kinds = inv.kinds in
    let room = c.requires.room in
    let even = c.requires.kinds in
    record {
      ends = length-set _ _ _ ∙ inv.ends;
      kinds = length-set _ _ _ ∙ inv.kinds;
      few = omega (arith, few, one);
      block = λ alphabet runs are.
          block_more alphabet text c.utf8.text runs start place c.loop-place.count
          c.ends_between-count.result c.loop-place.ends c.loop-place.kinds c.loop-place.kind _
          (inv.block alphabet runs are) (omega (arith, within, inside)) plain plain_next
          (subst (λ (bytes : List ℕ).
          IsClass alphabet (get_or text (place + 1) 0) (get_or classes (get_or bytes (place + 1) 0) Word))
          (sym c.as_bytes-bytes.ensures.value)
          (class_at alphabet classes (get_or text (place + 1) 0) are plain_next.0))
          (omega (arith, few, within, room, same)) (omega (arith, same, same_kinds, even)) one
          bit.ends bit.inside bit.word;
    }

pub returns-clause-fronts : goal.returns-clause-fronts
returns-clause-fronts c = λ alphabet runs are.
    (c.loop-place.invariant.block alphabet runs are).fronts

pub bounds-bytes-start : goal.bounds-bytes-start
bounds-bytes-start c = grind (arith, common_steps)

pub overflow_add-place-end : goal.overflow_add-place-end
overflow_add-place-end c = grind (arith, common_steps)

pub overflow_add-next : goal.overflow_add-next
overflow_add-next c = grind (arith, common_steps)

pub bounds-bytes-place : goal.bounds-bytes-place
bounds-bytes-place c = grind (arith, common_steps)

pub overflow_cast-ends : goal.overflow_cast-ends
overflow_cast-ends c = grind (arith, common_steps)

pub overflow_add-ends : goal.overflow_add-ends
overflow_add-ends c = grind (arith, common_steps)

pub offset_bounds-ends-count : goal.offset_bounds-ends-count
offset_bounds-ends-count c = grind (arith, common_steps)

pub bounds-ends-count : goal.bounds-ends-count
bounds-ends-count c = grind (arith, common_steps)

pub bounds-kinds-count : goal.bounds-kinds-count
bounds-kinds-count c = grind (arith, common_steps)

pub overflow_add-count : goal.overflow_add-count
overflow_add-count c = grind (arith, common_steps)

pub returns-clause-len : goal.returns-clause-len
returns-clause-len c = grind (arith, common_steps)

pub returns-clause-kinds_len : goal.returns-clause-kinds_len
returns-clause-kinds_len c = grind (arith, common_steps)

pub returns-clause-within : goal.returns-clause-within
returns-clause-within c = grind (arith, common_steps)
