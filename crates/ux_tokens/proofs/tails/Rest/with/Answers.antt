use Rattle.ux_dela.specs.Reading.{characters}
use Rattle.ux_tokens.proofs.tails.Rest.with.Goals as goal

pub returns : goal.returns
returns c = λ text are. record {
  is_bare = c.bare_with.ensures text are;
  is_protected = c.with_own.ensures c.args.byte (characters text) are.is_bare;
}
