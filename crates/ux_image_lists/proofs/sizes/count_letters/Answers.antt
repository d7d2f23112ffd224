use Rattle.std.proofs.Common.{◌≡◌, ◌-◌, get_or, subst}
use Rattle.ux_image_lists.proofs.SumLemmas.{root_sum}
use Rattle.ux_image_lists.proofs.sizes.count_letters.Goals as goal

pub returns : goal.returns
returns c =
    let sums = c.in_ok-sums.sums.items in
    root_sum c.args.image.now.states c.args.image.now.lists.keys sums c.index.result.now
    c.requires.some c.in_ok-sums.ensures
    (subst (λ n. c.index.result.now ≡ get_or sums (n - 1) c.index.result.now) c.len.ensures
    c.index.ensures)
