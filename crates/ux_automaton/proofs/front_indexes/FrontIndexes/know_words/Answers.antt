use Rattle.std.proofs.Common.{subst}
use Rattle.std.proofs.lemmas.Option.{same_Some}
use Rattle.ux_tokens.specs.Numbers.{different_texts}
use Rattle.ux_walk.specs.Literals.{AreReady}
use Rattle.ux_automaton.proofs.front_indexes.FrontIndexes.know_words.Goals as goal

pub returns : goal.returns
returns c = record {
  ready = λ words is. subst
      (λ w. AreReady c.args.masked.now.alphabet.now (different_texts c.args.masked.now.text.now) w)
      (same_Some c.in_ok-words.words words is) c.in_ok-words.ensures;
  indexes = c.requires.indexes;
}
