use Rattle.std.proofs.lemmas.Bool.{ne_eqb}
use Rattle.std.proofs.Common.{arith}
use Rattle.ux_dela.specs.Reading.{characters}
use Rattle.ux_tokens.proofs.TailsLemmas.{behind_backslash, behind_byte}
use Rattle.ux_tokens.proofs.tails.Rest.bare_with.Goals as goal

pub returns-then-byte-eq92 : goal.returns-then-byte-eq92
returns-then-byte-eq92 c = λ text are.
    behind_backslash c.args.self.protected c.args.byte text (omega arith) are.is_protected

pub returns : goal.returns
returns c = λ text are.
    behind_byte c.with_bare.result c.args.byte text
    (ne_eqb c.args.byte 92 (λ is. omega (arith, is)))
    (c.with_bare.ensures (characters text) are.is_bare)
