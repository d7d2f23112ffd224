-- two tests that decide the same are equal
use Rattle.std.specs.Bool.{one_answer}
use Rattle.ux_dict.specs.Equal.{entry_eq, entry_eq-Decides}
use Rattle.ux_dict.proofs.stored.StoredPartialEq.eq.Goals as goal

pub returns : goal.returns
returns c =
    let a = c.args.self.now in
    let b = c.args.other.now in
    one_answer c.same.result (entry_eq a b) c.same.ensures (entry_eq-Decides a b)
