use Rattle.ux_tokens.proofs.NumbersLemmas.{no_texts}
use Rattle.ux_tokens.proofs.cutting.cut_text.Goals as goal

pub cut_with-requires-clause-none : goal.cut_with-requires-clause-none
cut_with-requires-clause-none c = no_texts c.new-numbers.result c.new-numbers.ensures.len
