use Rattle.std.proofs.Common.{List, subst, sym, get_or}
use Rattle.std.specs.Prelude.{Contains}
use Rattle.std.proofs.lemmas.Bool.{false≢true}
use Rattle.std.proofs.lemmas.List.Elements.{Contains-get_or}
use Rattle.ux_base.proofs.Lists.{take_whole}
use Rattle.ux_tfst_locate.specs.declared.lattice.Arc.{Arc}
use Rattle.ux_tfst_locate.proofs.reaching.some_marked.Goals as goal

abbrev none : Arc
none = record { from = 0; to = 0; reading = 0 }

pub bounds-marks-arc : goal.bounds-marks-arc
bounds-marks-arc c =
    let row = c.args.row.now in
    let k = c.loop-arc.arc-index in
    c.requires (get_or row k none) (Contains-get_or row k none c.loop-arc-test.true)

pub returns : goal.returns
returns c = (
  λ t. absurd (false≢true t),
  λ h. absurd (c.loop-arc.invariant h.0 (subst (λ (l : List Arc). Contains l h.0)
      (sym (take_whole c.args.row.now c.loop-arc.arc-index c.loop-arc-test.false)) h.1) h.2),
)
