use Rattle.std.proofs.Common.{◌≡◌, ◌↔◌, ◌<◌, ◌∙◌, ℕ, List, ◌++◌, ap, subst, sym}
use Rattle.std.specs.Prelude.{Contains}
use Rattle.std.specs.List.Sorted.{IsStrictlyIncreasing}
use Rattle.ux_locate.proofs.AfterLemmas.{later_ends}
use Rattle.ux_locate.proofs.ends.ChartEndsEnds.list.Goals as goal

pub returns-clause-ends : goal.returns-clause-ends
returns-clause-ends c =
    let all = c.at.result.now in
    let start = c.args.start in
    let later = c.keep_after.new.positions.items in
    let is : c.extend_from_slice.new.self.items ≡ all = c.in_ok-extend_from_slice.ensures.items
    ∙ ap (λ (l : List ℕ). l ++ all) c.clear.ensures.items in
    later_ends c.args.self.now start all c.at.ensures.exactly later
    (subst (λ (l : List ℕ). (e : ℕ) → Contains later e ↔ (Contains l e × (start < e))) is
    c.keep_after.ensures.exactly)
    (c.keep_after.ensures.ascending (subst IsStrictlyIncreasing (sym is) c.at.ensures.ascending))
