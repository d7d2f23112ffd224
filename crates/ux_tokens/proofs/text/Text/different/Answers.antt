use Rattle.ux_tokens.proofs.DistinctLemmas.{different_texts-once}
use Rattle.ux_tokens.proofs.text.Text.different.Goals as goal

pub returns-clause-once : goal.returns-clause-once
returns-clause-once c = different_texts-once c.args.self.now
