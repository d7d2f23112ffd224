use Rattle.std.proofs.Common.{◌↔◌, IsTrue, List, subst}
use Rattle.std.specs.Prelude.{Contains}
use Rattle.ux_alphabet.specs.declared.line.Line.{Line}
use Rattle.ux_alphabet.specs.declared.line.Line.TheVariants.{Pair}
use Rattle.ux_alphabet.proofs.tables.Tables.has_pair.Goals as goal

pub returns-then-may_be_pair : goal.returns-then-may_be_pair
returns-then-may_be_pair c =
    let pairs = c.self.invariant.pairs_are c.args.upper c.args.lower in
    let pair = Pair c.args.upper c.args.lower in
    subst (λ (lines : List Line). IsTrue c.has_pair.result ↔ Contains lines pair) c.self.view_is
    (λ t. pairs.0 (c.has_pair.ensures.0 t), λ h. c.has_pair.ensures.1 (pairs.1 h))
