-- two tests that decide the same are equal
use Rattle.std.proofs.Common.{◌≡◌, ◌∙◌}
use Rattle.std.specs.Bool.{one_answer}
use Rattle.ux_dict.specs.Equal.{entry_eq, entry_eq-Decides}
use Rattle.ux_dict.proofs.entry_table.WholePartialEq.eq.Goals as goal

pub returns : goal.returns
returns c =
    let a = c.self.inside.entry in
    let b = c.other.inside.entry in
    let same : c.same.result ≡ entry_eq a b =
    one_answer c.same.result (entry_eq a b) c.same.ensures (entry_eq-Decides a b) in
    same ∙ (λ i. entry_eq (c.self.view_is i) (c.other.view_is i))
