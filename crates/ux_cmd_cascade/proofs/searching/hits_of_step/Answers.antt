use Rattle.ux_cmd_cascade.proofs.HitsLemmas.{can_rewrite}
use Rattle.ux_cmd_cascade.proofs.searching.hits_of_step.Goals as goal

pub returns-clause-are : goal.returns-clause-are
returns-clause-are c = record {
  tables = c.in_ok-applied.applied;
  applied = c.in_ok-applied.ensures.applied;
  listing = c.in_ok-hits.ensures;
}

pub returns-clause-fits : goal.returns-clause-fits
returns-clause-fits c =
    can_rewrite c.args.step.now.net c.args.alphabet.now c.args.text.now c.in_ok-applied.applied
    c.in_ok-applied.ensures.belongs c.args.step.now.mode c.in_ok-hits.hits.items c.in_ok-hits.ensures
