use Rattle.std.proofs.Common.{[]}
use Rattle.ux_tokens.proofs.tails.Rest.of_end.Goals as goal

pub returns : goal.returns
returns c = record {
  is_bare = c.of_end-bare.ensures;
  is_protected = c.with_bare.ensures [] c.of_end-bare.ensures;
}
