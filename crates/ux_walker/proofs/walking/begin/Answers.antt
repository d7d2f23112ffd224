use Rattle.std.proofs.Common.{◌≡◌, ◌⊎◌, ◌↔◌, ◌≤◌, ℕ, List, length, sym, subst}
use Rattle.std.specs.Prelude.{Contains}
use Rattle.ux_walk.specs.Settings.{Setting}
use Rattle.ux_walker.specs.declared.agenda.Visit.{Visit}
use Rattle.ux_walker.specs.Agendas.{visit_of}
use Rattle.ux_walker.specs.Walking.{IsUnderWay}
use Rattle.ux_walker.proofs.UnderWay.{begun}
use Rattle.ux_walker.proofs.walking.begin.Goals as goal

pub returns-clause-begun : goal.returns-clause-begun
returns-clause-begun c =
    let known = c.begin.new.self in
    let start = c.args.start in
    let front = c.in_ok-front.front in
    let visits = c.set.new.self in
    let inside = subst (λ (s : Setting). start ≤ length s.tokens) (sym c.in_ok-front.ensures.setting)
    c.requires in
    let only = subst (λ (l : List Visit). (visit : Visit) → Contains visits visit
    ↔ ((visit ≡ visit_of start front) ⊎ (Contains l visit × (visit.at ≡ start → ⊥))))
    c.clear-2.ensures c.in_ok-set.ensures in
    subst (λ (l : List ℕ). IsUnderWay known start visits l) (sym c.clear.ensures.items)
    (begun known start front visits inside c.in_ok-front.ensures.there c.in_ok-front.ensures.main only)
