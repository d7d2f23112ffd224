use Rattle.std.proofs.Common.{◌≡◌, length, take, drop, sym, ◌∙◌, ap, arith}
use Rattle.std.proofs.lemmas.Grind.{common_steps}
use Rattle.std.proofs.lemmas.List.{take-take, take_rest, length-drop, length-take-le}
use Rattle.std.proofs.lemmas.Slice.{put_mid-paste}
use Rattle.ux_tokens.proofs.MovedLemmas.{put_moved}
use Rattle.ux_tokens.proofs.spaces.move_block.Goals as goal

pub returns : goal.returns
returns c =
    let bytes = c.args.bytes.now in
    let block = c.in-Some.block.now in
    let part : block ≡ take 16 (drop c.args.from bytes) =
    c.in-Some.ensures.cases.same ∙ ap (take 16) (take_rest bytes c.args.from) in
    let len : 16 ≡ length block =
    sym (ap length part ∙ length-take-le 16 (drop c.args.from bytes)
    (omega (arith, c.requires.within, length-drop c.args.from bytes))) in
    put_moved bytes _ block c.args.from c.args.to 16 c.requires.down c.requires.within
    (omega (arith, len))
    (ap (take 16) part ∙ take-take 16 16 (drop c.args.from bytes) (omega arith))
    (put_mid-paste c.args.to _ bytes _ block 16 c.copy_from_slice.ensures.after (omega arith) len)

pub slice_bounds-first_chunk-count : goal.slice_bounds-first_chunk-count
slice_bounds-first_chunk-count c = grind (arith, common_steps)

pub slice_bounds-first_chunk-start : goal.slice_bounds-first_chunk-start
slice_bounds-first_chunk-start c = grind (arith, common_steps)

pub slice_bounds-first_chunk-end : goal.slice_bounds-first_chunk-end
slice_bounds-first_chunk-end c = grind (arith, common_steps)

pub first_chunk-requires : goal.first_chunk-requires
first_chunk-requires c = grind (arith, common_steps)

pub overflow_add-to : goal.overflow_add-to
overflow_add-to c = grind (arith, common_steps)

pub slice_bounds-copy_from_slice-count : goal.slice_bounds-copy_from_slice-count
slice_bounds-copy_from_slice-count c = grind (arith, common_steps)

pub slice_bounds-copy_from_slice-start : goal.slice_bounds-copy_from_slice-start
slice_bounds-copy_from_slice-start c = grind (arith, common_steps)

pub slice_bounds-copy_from_slice-end : goal.slice_bounds-copy_from_slice-end
slice_bounds-copy_from_slice-end c = grind (arith, common_steps)

pub slice_bounds-copy_from_slice-end-in-Some : goal.slice_bounds-copy_from_slice-end-in-Some
slice_bounds-copy_from_slice-end-in-Some c = grind (arith, common_steps)

pub copy_from_slice-requires : goal.copy_from_slice-requires
copy_from_slice-requires c = grind (arith, common_steps)

pub unreachable-requires : goal.unreachable-requires
unreachable-requires c = grind (arith, common_steps)

pub unreachable-unreachable : goal.unreachable-unreachable
unreachable-unreachable c = grind (arith, common_steps)

pub shape_of-bytes : goal.shape_of-bytes
shape_of-bytes c = grind (arith, common_steps)
