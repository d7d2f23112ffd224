use Rattle.ux_cmd_morpho.proofs.ReadingLemmas.{one_single}
use Rattle.ux_cmd_morpho.proofs.files.two_alphabets.Goals as goal

pub returns-clause-single : goal.returns-clause-single
returns-clause-single c =
    one_single c.args.text.now c.in_ok-letters.letters c.in_ok-words.words c.by_character.result
    c.by_character.ensures c.in_ok-letters.ensures.ok c.in_ok-words.ensures.ok
