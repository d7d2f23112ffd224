use Rattle.std.proofs.Common.{◌≡◌, ◌+◌, ◌-◌, ◌≤◌, length, drop, refl, subst, arith}
use Rattle.std.proofs.lemmas.Grind.{common_steps}
use Rattle.std.proofs.lemmas.List.{length-drop}
use Rattle.ux_tokens.specs.Spaces.{IsMoved}
use Rattle.ux_tokens.proofs.MovedLemmas.{put_moved, moved_on}
use Rattle.ux_tokens.proofs.spaces.move_down.Goals as goal

pub loop-moved-preserved : goal.loop-moved-preserved
loop-moved-preserved c = record {
  within = omega (arith, c.loop-moved-test.true, c.loop-moved.invariant.within);
  so_far =
      moved_on _ c.loop-moved.bytes _ c.args.from c.args.to c.loop-moved.moved 16
      c.loop-moved.invariant.so_far c.move_block.ensures;
}

-- the last bytes are fewer than a block
pub returns : goal.returns
returns c =
    let bytes = c.loop-moved.bytes in
    let moved = c.loop-moved.moved in
    let from = c.args.from + moved in
    let left = c.args.from + c.args.len - from in
    let so_far = c.loop-moved.invariant.so_far in
    let all : moved + left ≡ c.args.len = omega (arith, c.loop-moved.invariant.within) in
    let room : from + left ≤ length bytes =
    omega (arith, so_far.same_len, c.requires.within, all) in
    let last = put_moved bytes c.copy_within.new.self (drop from bytes) from (c.args.to + moved)
    left (omega (arith, c.requires.down)) room (omega (arith, length-drop from bytes, room)) refl
    c.copy_within.ensures.after in
    subst (IsMoved c.args.bytes.now c.copy_within.new.self c.args.from c.args.to) all
    (moved_on _ bytes _ c.args.from c.args.to moved left so_far last)

pub loop-moved-init : goal.loop-moved-init
loop-moved-init c = grind (arith, common_steps)

pub overflow_sub-len : goal.overflow_sub-len
overflow_sub-len c = grind (arith, common_steps)

pub overflow_add-from : goal.overflow_add-from
overflow_add-from c = grind (arith, common_steps)

pub overflow_add-to : goal.overflow_add-to
overflow_add-to c = grind (arith, common_steps)

pub move_block-requires-clause-within : goal.move_block-requires-clause-within
move_block-requires-clause-within c = grind (arith, common_steps)

pub move_block-requires-clause-down : goal.move_block-requires-clause-down
move_block-requires-clause-down c = grind (arith, common_steps)

pub overflow_add-moved : goal.overflow_add-moved
overflow_add-moved c = grind (arith, common_steps)

pub loop-moved-smaller : goal.loop-moved-smaller
loop-moved-smaller c = grind (arith, common_steps)

pub overflow_add-from-2 : goal.overflow_add-from-2
overflow_add-from-2 c = grind (arith, common_steps)

pub overflow_add-from-3 : goal.overflow_add-from-3
overflow_add-from-3 c = grind (arith, common_steps)

pub overflow_add-to-2 : goal.overflow_add-to-2
overflow_add-to-2 c = grind (arith, common_steps)

pub copy_within-requires-clause-start_le_end : goal.copy_within-requires-clause-start_le_end
copy_within-requires-clause-start_le_end c = grind (arith, common_steps)

pub copy_within-requires-clause-in_bounds : goal.copy_within-requires-clause-in_bounds
copy_within-requires-clause-in_bounds c = grind (arith, common_steps)

pub copy_within-requires-clause-dest_in_bounds : goal.copy_within-requires-clause-dest_in_bounds
copy_within-requires-clause-dest_in_bounds c = grind (arith, common_steps)
