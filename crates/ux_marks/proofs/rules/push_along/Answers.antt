use Rattle.std.proofs.Common.{◌≡◌, ◌⊎◌, inl, inr, List, [], ◌∷◌, ◌++◌, sym}
use Rattle.std.specs.Prelude.{◌↔◌, Contains}
use Rattle.ux_marks.proofs.MeetingLemmas.{adds_three}
use Rattle.ux_marks.proofs.rules.push_along.Goals as goal

pub returns : goal.returns
returns c =
    adds_three c.args.state c.args.edge.now c.args.rules.now.items c.push.new.self.items
    c.push-2.new.self.items c.push-3.new.self.items c.along.result c.along-2.result c.along-3.result
    c.along.ensures c.along-2.ensures c.along-3.ensures c.in_ok-push.ensures.items
    c.in_ok-push-2.ensures.items c.in_ok-push-3.ensures.items
