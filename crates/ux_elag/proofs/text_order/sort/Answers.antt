use Rattle.std.proofs.Common.{rules}
use Rattle.std.specs.Ordering.{is_lt}
use Rattle.std.proofs.lemmas.Fn.{always_returns_same}
use Rattle.std.proofs.lemmas.List.Sorted.{ranks_by}
use Rattle.ux_subsets.specs.declared.automaton.Link as placed
use Rattle.ux_elag.specs.Numbers.{link_cmp}
use Rattle.ux_elag.proofs.SortedLinks.{compared, link-total}
use Rattle.ux_elag.proofs.text_order.sort.Goals as goal

pub returns-clause-in_order : goal.returns-clause-in_order
returns-clause-in_order c =
    let texts = c.args.texts.now in
    c.sort_unstable_by.ensures.sorted (λ (a b : placed.Link). is_lt (link_cmp texts a b))
    (ranks_by (link-total texts) (λ (link : placed.Link). link))
    (always_returns_same _ _ _
    (λ a r g h. compared texts a.0.now a.1.0.now r _ (search rules)))
