use Rattle.ux_cmd_morpho.proofs.GoingLemmas.{word_here}
use Rattle.ux_cmd_morpho.proofs.words.is_next.Goals as goal

pub returns-then-is_word-clause-word : goal.returns-then-is_word-clause-word
returns-then-is_word-clause-word c = λ _.
    word_here c.args.files.now.text c.args.place c.kind.result c.kind.ensures
    (c.is_word.ensures.0 c.if-is_word.true)
