use Rattle.std.proofs.Common.{length, sym, ◌∙◌, refl}
use Rattle.ux_tokens.specs.Numbers.{texts_in}
use Rattle.ux_tokens.proofs.CuttingLemmas.{cut_whole}
use Rattle.ux_tokens.proofs.NumbersLemmas.{length-texts_in}
use Rattle.ux_tokens.proofs.cutting.cut_with.Goals as goal

pub returns-clause-ok : goal.returns-clause-ok
returns-clause-ok c =
    let keys = length-texts_in c.push_tokens.new.numbers in
    cut_whole c.args.alphabet.now c.args.text.now (length c.args.text.now) c.push_tokens.new.pieces
    (texts_in c.push_tokens.new.numbers)
    c.len.result c.in_ok-push_tokens.ensures.so_far c.in_ok-push_tokens.ensures.even refl
    (c.len.ensures.len ∙ sym keys)
