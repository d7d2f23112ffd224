use Rattle.std.proofs.Common.{◌∙◌, ◌<◌, ap, arith, List, ℕ, get_or, length}
use Rattle.std.proofs.lemmas.List.{get_or-set_same, get_or-set_other}
use Rattle.ux_listing.proofs.GroupsLemmas.{zero_pushed}
use Rattle.ux_listing.proofs.groups.put_in.Goals as goal

pub loop-numbers-preserved : goal.loop-numbers-preserved
loop-numbers-preserved c = λ n.
    ap (λ (l : List ℕ). get_or l n 0) c.in_ok-push.ensures.items
    ∙ (zero_pushed c.loop-numbers.numbers.items n ∙ c.loop-numbers.invariant n)

pub returns : goal.returns
returns c =
    let inside : c.args.place < length c.loop-numbers.numbers.items = omega arith in
    record {
      here = get_or-set_same c.loop-numbers.numbers.items c.args.place c.args.number 0 inside;
      others = λ n never. get_or-set_other c.loop-numbers.numbers.items c.args.place n c.args.number
          0 never ∙ c.loop-numbers.invariant n;
    }
