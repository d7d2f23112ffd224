use Rattle.std.proofs.Common.{rules}
use Rattle.std.proofs.lemmas.List.Sorted.{IsNonDecreasingBy-from_sort_by_key}
use Rattle.ux_sentence.specs.Passages.{left_by}
use Rattle.ux_sentence.proofs.PassageLemmas.{AreSteps-permutation}
use Rattle.ux_sentence.proofs.passage.sorted_steps.Goals as goal

pub returns-clause-steps : goal.returns-clause-steps
returns-clause-steps c =
    AreSteps-permutation c.args.links.now c.in_ok-steps.steps.items c.sort_by_key.new.self.items
    c.in_ok-steps.ensures c.in_ok-sort_by_key.ensures.permutation

pub returns-clause-ascend : goal.returns-clause-ascend
returns-clause-ascend c =
    IsNonDecreasingBy-from_sort_by_key left_by c.sort_by_key.new.self.items
    c.in_ok-sort_by_key.ensures.sorted (λ a r q k. search rules)
