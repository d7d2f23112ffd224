use Rattle.std.proofs.Common.{ℕ, refl, subst}
use Rattle.std.specs.Prelude.{Contains, MatchResult, Result}
use Rattle.ux_text_chart.proofs.LikelyLemmas.{among}
use Rattle.ux_tfst_locate.proofs.beginning.is_among.Goals as goal

pub returns-in-Ok : goal.returns-in-Ok
returns-in-Ok c =
    let row = c.args.row.now in
    let has = subst (λ (r : Result ℕ ℕ). MatchResult r (λ i. Contains row c.args.number)
    (λ i. Contains row c.args.number → ⊥)) c.in-Ok.is
    (among row c.args.number c.binary_search.result c.binary_search.ensures.position c.requires) in
    (λ t. has, λ h. refl)

pub returns-in-Err : goal.returns-in-Err
returns-in-Err c =
    let row = c.args.row.now in
    let never = subst (λ (r : Result ℕ ℕ). MatchResult r (λ i. Contains row c.args.number)
    (λ i. Contains row c.args.number → ⊥)) c.in-Err.is
    (among row c.args.number c.binary_search.result c.binary_search.ensures.position c.requires) in
    (λ t. cc, λ h. absurd (never h))
