use Rattle.std.proofs.Common.{subst}
use Rattle.std.proofs.lemmas.Option.{same_Some}
use Rattle.ux_tokens.specs.Numbers.{different_texts}
use Rattle.ux_walk.specs.Literals.{AreReady}
use Rattle.ux_walk.proofs.look_ups.LookUps.know_words.Goals as goal

pub returns : goal.returns
returns c net sound = record {
  ready = λ words is.
      subst (λ w. AreReady c.args.alphabet.now (different_texts c.args.text.now) w)
      (same_Some c.in_ok-words.words words is) c.in_ok-words.ensures;
  indexes = sound.indexes;
}
