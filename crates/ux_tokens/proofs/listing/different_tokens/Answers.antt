use Rattle.ux_tokens.proofs.NumbersLemmas.{no_texts}
use Rattle.ux_tokens.proofs.listing.different_tokens.Goals as goal

pub add_tokens-requires-clause-none : goal.add_tokens-requires-clause-none
add_tokens-requires-clause-none c = no_texts c.new-texts.result c.new-texts.ensures.len
