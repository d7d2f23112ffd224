use Rattle.std.proofs.Common.{ap, rules, ◌∙◌, ◌++◌}
use Rattle.ux_dict.proofs.RisingLemmas.{once_differing}
use Rattle.ux_dict.proofs.sorting.put_run.Goals as goal

pub returns-then-are_few_and_differ-clause-put : goal.returns-then-are_few_and_differ-clause-put
returns-then-are_few_and_differ-clause-put c =
    c.in_ok-append.ensures.items
    ∙ ap (λ l. c.args.once.now.items ++ l) (once_differing c.args.run.now.items (search rules))
