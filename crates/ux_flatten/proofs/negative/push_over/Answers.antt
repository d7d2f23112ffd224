use Rattle.std.proofs.Common.{arith, ◌≡◌, ◌++◌, ◌∙◌, ℕ, List, sym, ap, append-nil, length}
use Rattle.std.specs.List.{flat_map, range_with_len}
use Rattle.ux_base.proofs.JoinedLists.{adds_list}
use Rattle.ux_flatten.specs.Negative.{rules_at, rules_over}
use Rattle.ux_flatten.proofs.negative.push_over.Goals as goal

pub loop-place-init : goal.loop-place-init
loop-place-init c = sym (append-nil c.args.rules.now.items)

pub loop-place-preserved : goal.loop-place-preserved
loop-place-preserved c =
    adds_list (rules_at c.args.count c.args.stands.now c.args.closers.now c.args.before)
    c.args.rules.now.items c.loop-place.rules.items c.push_place.new.rules.items c.loop-place.place
    c.loop-place.invariant
    (c.in_ok-push_place.ensures
    ∙ ap (λ (row : List ℕ). c.loop-place.rules.items
    ++ rules_over c.args.count c.args.stands.now c.loop-place.place row) c.row_at.ensures)

pub returns : goal.returns
returns c =
    let all : c.loop-place.place ≡ length c.args.stands.now =
    omega (arith, c.loop-place.auto.place-end, c.loop-place-test.false) in
    c.loop-place.invariant
    ∙ ap (λ (n : ℕ). c.args.rules.now.items
    ++ flat_map (rules_at c.args.count c.args.stands.now c.args.closers.now c.args.before)
    (range_with_len 0 n)) all
