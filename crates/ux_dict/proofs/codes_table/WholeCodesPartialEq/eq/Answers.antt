-- two tests that decide the same are equal
use Rattle.std.proofs.Common.{◌≡◌, ◌∙◌}
use Rattle.std.specs.Bool.{one_answer}
use Rattle.ux_dict.specs.Equal.{codes_eq, codes_eq-Decides}
use Rattle.ux_dict.proofs.codes_table.WholeCodesPartialEq.eq.Goals as goal

pub returns : goal.returns
returns c =
    let a = c.self.inside.codes in
    let b = c.other.inside.codes in
    let same : c.same.result ≡ codes_eq a b =
    one_answer c.same.result (codes_eq a b) c.same.ensures (codes_eq-Decides a b) in
    same ∙ (λ i. codes_eq (c.self.view_is i) (c.other.view_is i))
