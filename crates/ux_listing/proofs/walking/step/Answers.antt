use Rattle.std.proofs.Common.{◌∙◌, ap}
use Rattle.std.specs.Prelude.{Some}
use Rattle.ux_listing.specs.declared.config.Item.{Item}
use Rattle.ux_listing.proofs.FollowsLemmas.{grows_none}
use Rattle.ux_walk.proofs.Results.{on_any}
use Rattle.ux_listing.proofs.walking.step.Goals as goal

pub leave-requires-clause-next : goal.leave-requires-clause-next
leave-requires-clause-next g c = c.requires.next ∙ ap (λ (x : Item). Some x) c.in-At.is

pub wait-requires-clause-next : goal.wait-requires-clause-next
wait-requires-clause-next g c = c.requires.next ∙ ap (λ (x : Item). Some x) c.in-Waits.is

pub end-requires-clause-next : goal.end-requires-clause-next
end-requires-clause-next g c = c.requires.next ∙ ap (λ (x : Item). Some x) c.in-Ends.is

pub returns-in-Waits-clause-grows : goal.returns-in-Waits-clause-grows
returns-in-Waits-clause-grows g c = on_any c.wait.result _
    (grows_none (g.F.Fold.next c.args.fold.now) (g.F.Fold.means c.args.fold.now))

pub returns-in-Ends-clause-grows : goal.returns-in-Ends-clause-grows
returns-in-Ends-clause-grows g c = on_any c.end.result _
    (grows_none (g.F.Fold.next c.args.fold.now) (g.F.Fold.means c.args.fold.now))
