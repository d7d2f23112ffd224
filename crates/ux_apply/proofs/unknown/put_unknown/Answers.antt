use Rattle.std.proofs.Common.{ℕ, ap, inl, inr}
use Rattle.std.specs.Prelude.{Some}
use Rattle.std.proofs.lemmas.Option.{same_Some}
use Rattle.ux_apply.proofs.unknown.put_unknown.Goals as goal

pub returns-in_ok-put_number-clause-numbers : goal.returns-in_ok-put_number-clause-numbers
returns-in_ok-put_number-clause-numbers c n =
    let number = c.in-Some.number in
    let grown = c.in_ok-put_number.ensures.numbers n in (
      λ has. elim (grown.0 has) [
        | inl old ↦ inl old
        | inr is ↦ inr ((c.in-Some.ensures n).0 (ap (λ (k : ℕ). Some k) is))
      ],
      λ one. grown.1 (elim one [
        | inl old ↦ inl old
        | inr row ↦ inr (same_Some number n ((c.in-Some.ensures n).1 row))
      ]),
    )

pub returns-in_default-clause-numbers : goal.returns-in_default-clause-numbers
returns-in_default-clause-numbers c n = (
  λ has. inl has,
  λ one. elim one [
    | inl old ↦ old
    | inr row ↦ absurd (c.in_default.not-Some n ((c.unknown_at.ensures n).1 row))
  ],
)
