use Rattle.std.proofs.Common.{arith, ap, sym, ◌∙◌, ◌≡◌, ◌-◌, ℕ, get_or, take, eq-eqb}
use Rattle.std.proofs.Math.Seq.{drop-length}
use Rattle.std.proofs.lemmas.Bool.{eqb-true}
use Rattle.ux_fst2_file.specs.Fields.{SPACE}
use Rattle.ux_fst2_file.proofs.FieldLemmas.{before_space-cut, before_space-whole}
use Rattle.ux_fst2_file.proofs.fields.split_field.Goals as goal

from_start : (n : ℕ) → n - 0 ≡ n
from_start n = omega arith

pub returns-in-Some-clause-field : goal.returns-in-Some-clause-field
returns-in-Some-clause-field c =
    let found = c.in-Some.ensures in
    let text = c.args.text.now in
    let cut = before_space-cut text c.in-Some.end found.0.high
    (λ k below e. found.0.before k (omega arith) below (eq-eqb (get_or text k 0) SPACE e))
    (eqb-true (get_or text c.in-Some.end 0) SPACE found.1) in
    c.range.ensures.value ∙ (ap (λ n. take n text) (from_start c.in-Some.end) ∙ sym cut.0)

pub returns-in-Some-clause-rest : goal.returns-in-Some-clause-rest
returns-in-Some-clause-rest c =
    let found = c.in-Some.ensures in
    let text = c.args.text.now in
    let cut = before_space-cut text c.in-Some.end found.0.high
    (λ k below e. found.0.before k (omega arith) below (eq-eqb (get_or text k 0) SPACE e))
    (eqb-true (get_or text c.in-Some.end 0) SPACE found.1) in
    c.range_from.ensures.value ∙ sym cut.1

pub returns-in-None-clause-field : goal.returns-in-None-clause-field
returns-in-None-clause-field c =
    let text = c.args.text.now in
    sym (before_space-whole text
    (λ k below e. c.in-None.ensures k (omega arith) below (eq-eqb (get_or text k 0) SPACE e))).0

pub returns-in-None-clause-rest : goal.returns-in-None-clause-rest
returns-in-None-clause-rest c =
    let text = c.args.text.now in
    c.range_from-in-None.ensures.value ∙ (drop-length text ∙ sym (before_space-whole text
    (λ k below e. c.in-None.ensures k (omega arith) below (eq-eqb (get_or text k 0) SPACE e))).1)
