use Rattle.std.proofs.Common.{◌↔◌, IsTrue, Bool, ℕ, sym, subst}
use Rattle.std.specs.Prelude.{Contains}
use Rattle.ux_alphabet.proofs.PairLemmas.{reads}
use Rattle.ux_alphabet.proofs.pairs.has_pair.Goals as goal

pub returns : goal.returns
returns c =
    let pair : ℕ × ℕ = (c.args.upper, c.args.lower) in
    subst (λ (b : Bool). IsTrue b ↔ Contains c.args.pairs.now.keys pair) (sym c.contains.ensures)
    (reads c.args.pairs.now pair)
