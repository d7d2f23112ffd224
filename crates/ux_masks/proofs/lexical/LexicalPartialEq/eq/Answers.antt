-- two tests that decide the same are equal
use Rattle.std.specs.Bool.{one_answer}
use Rattle.ux_masks.specs.Equal.{parts_eq, parts_eq-Decides}
use Rattle.ux_masks.proofs.lexical.LexicalPartialEq.eq.Goals as goal

pub returns : goal.returns
returns c =
    let a = c.args.self.now in
    let b = c.args.other.now in
    one_answer c.same.result (parts_eq a b) c.same.ensures (parts_eq-Decides a b)
