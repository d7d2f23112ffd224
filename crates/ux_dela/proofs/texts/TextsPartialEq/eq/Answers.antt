-- two tests that decide the same are equal
use Rattle.std.proofs.Common.{◌≡◌, ◌∙◌, ap, sym}
use Rattle.std.specs.Bool.{one_answer}
use Rattle.std.specs.Prelude.{bytes_eq}
use lib.Pointwise.{pointwise, pointwise_decides, bytes_decides}
use Rattle.ux_dela.specs.Texts.{shared_texts}
use Rattle.ux_dela.proofs.texts.TextsPartialEq.eq.Goals as goal

pub returns-in-Some-Some : goal.returns-in-Some-Some
returns-in-Some-Some c =
    let a = c.as_ref.result.now in
    let b = c.as_ref-in-Some-Some.result.now in
    let a_is : a ≡ c.args.self.now =
    c.as_ref.ensures ∙ ap shared_texts (sym c.in-Some-Some.is-0) ∙ c.self.view_is in
    let b_is : b ≡ c.args.other.now =
    c.as_ref-in-Some-Some.ensures ∙ ap shared_texts (sym c.in-Some-Some.is-1) ∙ c.other.view_is in
    one_answer c.same.result (pointwise bytes_eq a b) c.same.ensures
    (pointwise_decides bytes_decides a b)
    ∙ (λ i. pointwise bytes_eq (a_is i) (b_is i))
