use Rattle.std.proofs.Common.{sym}
use Rattle.std.proofs.lemmas.Result.{IfOk-weaker}
use Rattle.ux_folds.proofs.RenderingLemmas.{is_there, kept_stands}
use Rattle.ux_folds.proofs.rendering.RenderingFold.hit.Goals as goal

pub hit-requires : goal.hit-requires
hit-requires c = (
  c.args.self.now.names.now,
  c.requires.0.state,
  kept_stands c.args.self.now c.args.state c.requires c.in-Some.kept (sym c.in-Some.ensures),
)

pub returns-in-Some : goal.returns-in-Some
returns-in-Some c = IfOk-weaker c.hit.result _ _ (λ hit is meant means.
    is c.args.self.now.names.now meant.state means.is_state.sound
    (kept_stands c.args.self.now c.args.state (meant, means) c.in-Some.kept
    (sym c.in-Some.ensures))) c.hit.ensures

pub returns-in-None : goal.returns-in-None
returns-in-None c = λ meant means.
    absurd (is_there c.args.self.now c.args.state (meant, means) (sym c.in-None.ensures))
