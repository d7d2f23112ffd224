-- What these requests are doesn't hang on the options.
use Rattle.ux_command_line.specs.Matching.{values_with}
use Rattle.ux_command_line.proofs.building.build.Goals as goal

pub returns-in-Inflect-clause-ok : goal.returns-in-Inflect-clause-ok
returns-in-Inflect-clause-ok c =
    rw c.in-Inflect.is (c.inflect.ensures.ok (values_with c.args.options.now))

pub returns-in-Inflect-clause-usage : goal.returns-in-Inflect-clause-usage
returns-in-Inflect-clause-usage c =
    rw c.in-Inflect.is (c.inflect.ensures.usage (values_with c.args.options.now))

pub returns-in-Compress-clause-ok : goal.returns-in-Compress-clause-ok
returns-in-Compress-clause-ok c =
    rw c.in-Compress.is (c.compress.ensures.ok (values_with c.args.options.now))

pub returns-in-Compress-clause-usage : goal.returns-in-Compress-clause-usage
returns-in-Compress-clause-usage c =
    rw c.in-Compress.is (c.compress.ensures.usage (values_with c.args.options.now))

pub returns-in-Elag-clause-ok : goal.returns-in-Elag-clause-ok
returns-in-Elag-clause-ok c =
    rw c.in-Elag.is (c.elag.ensures.ok (values_with c.args.options.now))

pub returns-in-Elag-clause-usage : goal.returns-in-Elag-clause-usage
returns-in-Elag-clause-usage c =
    rw c.in-Elag.is (c.elag.ensures.usage (values_with c.args.options.now))

pub returns-in-Bench-clause-ok : goal.returns-in-Bench-clause-ok
returns-in-Bench-clause-ok c =
    rw c.in-Bench.is (c.bench.ensures.ok (values_with c.args.options.now))

pub returns-in-Bench-clause-usage : goal.returns-in-Bench-clause-usage
returns-in-Bench-clause-usage c =
    rw c.in-Bench.is (c.bench.ensures.usage (values_with c.args.options.now))

pub returns-in-Tfind-clause-ok : goal.returns-in-Tfind-clause-ok
returns-in-Tfind-clause-ok c =
    rw c.in-Tfind.is (c.tfind.ensures.ok (values_with c.args.options.now))

pub returns-in-Tfind-clause-usage : goal.returns-in-Tfind-clause-usage
returns-in-Tfind-clause-usage c =
    rw c.in-Tfind.is (c.tfind.ensures.usage (values_with c.args.options.now))

pub returns-in-Morpho-clause-ok : goal.returns-in-Morpho-clause-ok
returns-in-Morpho-clause-ok c =
    rw c.in-Morpho.is (c.morpho.ensures.ok (values_with c.args.options.now))

pub returns-in-Morpho-clause-usage : goal.returns-in-Morpho-clause-usage
returns-in-Morpho-clause-usage c =
    rw c.in-Morpho.is (c.morpho.ensures.usage (values_with c.args.options.now))
