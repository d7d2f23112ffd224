use Rattle.std.proofs.Common.{◌≡◌, ◌+◌, ◌-◌, List, ◌++◌, get_or, length, take, drop, Some, sym, ◌∙◌, ap, subst, arith}
use Rattle.std.proofs.lemmas.Grind.{common_steps}
use Rattle.std.specs.Str.{IsCharBoundary}
use Rattle.std.proofs.lemmas.Str.{IsCharBoundary-from_rest}
use Rattle.std.proofs.lemmas.List.{length-set, take_more}
use Rattle.ux_tokens.specs.declared.kind.Kind.TheVariants.{Word}
use Rattle.ux_tokens.specs.declared.piece.Piece.{Piece}
use Rattle.ux_tokens.specs.Blocks.{last_from}
use Rattle.ux_tokens.specs.Cutting.{IsSoFar}
use Rattle.ux_base.specs.Distinct.{with_text}
use Rattle.ux_tokens.specs.Numbers.{texts_in}
use Rattle.ux_tokens.proofs.BlocksLemmas.{last_from-push, token_here}
use Rattle.ux_tokens.proofs.NumberedLemmas.{all_taken, front_is, length-with_text, number_more, space_text}
use Rattle.ux_tokens.proofs.NumbersLemmas.{length-texts_in}
use Rattle.ux_tokens.proofs.cutting.number_all.Goals as goal

pub overflow_sub-end : goal.overflow_sub-end
overflow_sub-end c =
    let token = token_here c.requires.fronts.0 c.args.text.now c.args.start c.loop-i.i c.loop-i.from
    c.args.ends.now c.args.kinds.now c.requires.fronts.1 c.loop-i-test.true
    c.loop-i.invariant.from_is in
    omega (arith, token.0)

pub range-requires-clause-end_boundary : goal.range-requires-clause-end_boundary
range-requires-clause-end_boundary c =
    let token = token_here c.requires.fronts.0 c.args.text.now c.args.start c.loop-i.i c.loop-i.from
    c.args.ends.now c.args.kinds.now c.requires.fronts.1 c.loop-i-test.true
    c.loop-i.invariant.from_is in
    rw c.range_from-rest.ensures.value token.1.cut

pub number_of_kind-requires-clause-is : goal.number_of_kind-requires-clause-is
number_of_kind-requires-clause-is c =
    let token = token_here c.requires.fronts.0 c.args.text.now c.args.start c.loop-i.i c.loop-i.from
    c.args.ends.now c.args.kinds.now c.requires.fronts.1 c.loop-i-test.true
    c.loop-i.invariant.from_is in
    λ space.
    front_is c.range.result.now c.range_from-rest.result.now c.args.text.now c.loop-i.from
    (get_or c.args.ends.now c.loop-i.i 0 - c.loop-i.from) c.range.ensures.value
    c.range_from-rest.ensures.value
    ∙ space_text c.requires.fronts.0 (get_or c.args.kinds.now c.loop-i.i Word) _ token.1.first.is
    space

pub number_of_kind-requires-clause-some : goal.number_of_kind-requires-clause-some
number_of_kind-requires-clause-some c =
    let token = token_here c.requires.fronts.0 c.args.text.now c.args.start c.loop-i.i c.loop-i.from
    c.args.ends.now c.args.kinds.now c.requires.fronts.1 c.loop-i-test.true
    c.loop-i.invariant.from_is in
    let some = c.range.ensures.len in
    omega (arith, token.0, some)

pub loop-i-preserved : goal.loop-i-preserved
loop-i-preserved c =
    let inv = c.loop-i.invariant in
    let text = c.args.text.now in
    let i = c.loop-i.i in
    let from = c.loop-i.from in
    let ends = c.args.ends.now in
    let end = get_or ends i 0 in
    let before = texts_in c.loop-i.numbers in
    let more = texts_in c.number_of_kind.new.numbers in
    let token = token_here c.requires.fronts.0 text c.args.start i from ends c.args.kinds.now
    c.requires.fronts.1 c.loop-i-test.true inv.from_is in
    let word : c.range.result.now ≡ take (end - from) (drop from text) =
    front_is c.range.result.now c.range_from-rest.result.now text from (end - from)
    c.range.ensures.value c.range_from-rest.ensures.value in
    record {
      given = length-set _ _ _ ∙ inv.given;
      from_is =
          sym (ap (last_from c.args.start) (take_more ends i 0 c.loop-i-test.true)
          ∙ last_from-push c.args.start (take i ends) end);
      in_order = (let in_order = inv.in_order in omega (arith, token.0, in_order));
      between =
          let same : from + (end - from) ≡ end = omega (arith, token.0) in
          subst (IsCharBoundary text) same
          (IsCharBoundary-from_rest text from (end - from) inv.between.0 token.1.cut);
      room =
          let same = ap length c.in_ok-given.ensures.texts in
          let fewer = length-with_text before c.range.result.now in
          let keys = length-texts_in c.loop-i.numbers in
          let more_keys = length-texts_in c.number_of_kind.new.numbers in
          let room = inv.room in
          let within = c.loop-i-test.true in
          omega (arith, same, fewer, keys, more_keys, room, within);
      known = c.in_ok-given.ensures.known;
      so_far = λ alphabet pieces fronts few so_far.
          number_more alphabet text c.utf8.text c.args.start i from
          c.in_ok-given.field-0 ends c.loop-i.given c.args.kinds.now pieces before more fronts
          c.loop-i-test.true inv.given few inv.from_is
          (inv.so_far alphabet pieces fronts few so_far)
          (c.in_ok-given.ensures.texts ∙ ap (with_text before) word)
          (c.in_ok-given.ensures.place ∙ ap Some word);
    }

pub returns-clause-so_far : goal.returns-clause-so_far
returns-clause-so_far c = λ alphabet pieces fronts few so_far.
    let all = c.loop-i-test.false in
    let even = fronts.even in
    let given = c.loop-i.invariant.given in
    subst (λ (l : List Piece). IsSoFar alphabet c.args.text.now c.loop-i.from (pieces ++ l)
    (texts_in c.loop-i.numbers))
    (all_taken c.loop-i.i c.args.ends.now c.loop-i.given c.args.kinds.now (omega (arith, all))
    (omega (arith, all, given)) (omega (arith, all, even)))
    (c.loop-i.invariant.so_far alphabet pieces fronts few so_far)

pub loop-i-init : goal.loop-i-init
loop-i-init c = grind (arith, common_steps)

pub offset_bounds-ends-i : goal.offset_bounds-ends-i
offset_bounds-ends-i c = grind (arith, common_steps)

pub bounds-ends-i : goal.bounds-ends-i
bounds-ends-i c = grind (arith, common_steps)

pub range_from-rest-requires : goal.range_from-rest-requires
range_from-rest-requires c = grind (arith, common_steps)

pub bounds-kinds-i : goal.bounds-kinds-i
bounds-kinds-i c = grind (arith, common_steps)

pub range-requires-clause-start_le_end : goal.range-requires-clause-start_le_end
range-requires-clause-start_le_end c = grind (arith, common_steps)

pub range-requires-clause-start_boundary : goal.range-requires-clause-start_boundary
range-requires-clause-start_boundary c = grind (arith, common_steps)

pub number_of_kind-requires-clause-room : goal.number_of_kind-requires-clause-room
number_of_kind-requires-clause-room c = grind (arith, common_steps)

pub number_of_kind-requires-clause-known : goal.number_of_kind-requires-clause-known
number_of_kind-requires-clause-known c = grind (arith, common_steps)

pub number_of_kind-requires-clause-front : goal.number_of_kind-requires-clause-front
number_of_kind-requires-clause-front c = grind (arith, common_steps)

pub returns-in_err-given-clause-given : goal.returns-in_err-given-clause-given
returns-in_err-given-clause-given c = grind (arith, common_steps)

pub returns-in_err-given-clause-so_far : goal.returns-in_err-given-clause-so_far
returns-in_err-given-clause-so_far c = grind (arith, common_steps)

pub returns-in_err-given-clause-known : goal.returns-in_err-given-clause-known
returns-in_err-given-clause-known c = grind (arith, common_steps)

pub returns-in_err-given-clause-in_order : goal.returns-in_err-given-clause-in_order
returns-in_err-given-clause-in_order c = grind (arith, common_steps)

pub offset_bounds-given-i : goal.offset_bounds-given-i
offset_bounds-given-i c = grind (arith, common_steps)

pub bounds-given-i : goal.bounds-given-i
bounds-given-i c = grind (arith, common_steps)

pub returns-clause-given : goal.returns-clause-given
returns-clause-given c = grind (arith, common_steps)

pub returns-clause-known : goal.returns-clause-known
returns-clause-known c = grind (arith, common_steps)

pub returns-clause-in_order : goal.returns-clause-in_order
returns-clause-in_order c = grind (arith, common_steps)
