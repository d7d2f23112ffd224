use Rattle.std.proofs.Common.{arith, ◌≡◌, ◌∙◌, ℕ, List, [], ◌∷◌, ◌++◌, ap, subst, sym}
use Rattle.std.specs.Prelude.{Vec}
use Rattle.ux_base.proofs.FirstsLemmas.{Contains-none}
use Rattle.ux_lexical_tables.specs.Accepting.{AreDigits, IsDigitAt}
use Rattle.ux_lexical_tables.specs.Ends.{AreEnds}
use Rattle.ux_lexical_tables.proofs.EndsLemmas.{digits_are, no_digits, one_end}
use Rattle.ux_lexical_tables.proofs.ends.digit_ends.Goals as goal
use Rattle.ux_lexical_tables.proofs.ends.digit_ends.Goals.{then-i-end+in_ok-push, else-i-end}

pub returns-clause-ends : goal.returns-clause-ends
returns-clause-ends c =
    let tokens = c.args.text.now in
    let i = c.args.i in
    let end = c.end-end.result in
    let run = c.end-end.ensures in
    elim c.if-i-end.branch [
      | then-i-end+in_ok-push w ↦ one_end (AreDigits tokens i) end
          (digits_are tokens i end w.if-i-end.true run.each run.all) c.if-i-end.ends.items
          (ap (λ (v : Vec ℕ _). v.items) w.ends-is ∙ w.in_ok-push.ensures.items
          ∙ ap (λ (l : List ℕ). l ++ end ∷ []) c.new-ends.ensures.items)
      | else-i-end w ↦
          let here : end ≡ i = omega (arith, w.if-i-end.false, run.from) in
          let none = subst (λ (n : ℕ). IsDigitAt tokens n → ⊥) here run.all in
          subst (AreEnds (AreDigits tokens i))
          (sym (ap (λ (v : Vec ℕ _). v.items) w.ends-is ∙ c.new-ends.ensures.items)) (record {
            exactly = λ k. (
              λ has. absurd (Contains-none k has),
              λ are. absurd (no_digits tokens i none k are),
            );
            ascending = λ k within. absurd (omega (arith, within));
          })
    ]
