use Rattle.std.proofs.Common.{◌≡◌, ◌∷◌, ◌∙◌, refl, sym, true, false}
use Rattle.std.proofs.lemmas.Option.{none-some}
use Rattle.ux_walk.specs.declared.config.Frame.{Frame}
use Rattle.ux_closure.specs.Meeting.{known}
use Rattle.ux_closure.proofs.Results.{on_ok}
use Rattle.ux_closure.proofs.Adding.{adds_nothing, adds_alike, adds_put}
use Rattle.ux_closure.proofs.Stepping.{past_behind, past_call, past_nowhere}
use Rattle.ux_closure.proofs.passing.pass.Goals as goal

pub returns-then-lets_pass-clause-adds : goal.returns-then-lets_pass-clause-adds
returns-then-lets_pass-clause-adds c = on_ok c.put.result _ _ (λ put fs named.
    let old = known c.args.stacks.now.links.keys c.args.met.now in
    let new = known c.args.stacks.now.links.keys c.put.new.self in
    let edge = c.args.edge.now in
    let here : Frame = record { graph = c.args.stand.here.graph; state = edge.target } in
    adds_alike _ _ old new
    (adds_put old new c.requires.sound.below refl c.put.ensures.ends
    (record { here = here; back = c.args.stand.back }) put (here ∷ fs) (refl, named))
    (λ s. past_behind c.args.is_spaced c.args.stand.here fs edge s
    (c.lets_pass.ensures.0 c.if-lets_pass.true))) c.put.ensures.put

pub returns-in-Some-clause-adds : goal.returns-in-Some-clause-adds
returns-in-Some-clause-adds c = on_ok c.enter.result _ _ (λ adds fs named.
    adds_alike _ _ (known c.args.stacks.now.links.keys c.args.met.now)
    (known c.enter.new.stacks.links.keys c.enter.new.met) (adds fs named)
    (λ s. past_call c.args.is_spaced c.args.stand.here fs c.args.edge.now s c.in-Some.graph
    ((c.called.ensures c.in-Some.graph).0 c.in-Some.is))) c.enter.ensures.adds

pub returns-in-None-clause-adds : goal.returns-in-None-clause-adds
returns-in-None-clause-adds c = λ fs named.
    adds_nothing _ (known c.args.stacks.now.links.keys c.args.met.now) c.requires.sound.below
    (λ s. past_nowhere c.args.is_spaced c.args.stand.here fs c.args.edge.now s
    (λ lets. let no : false ≡ true = sym c.if-lets_pass.false ∙ c.lets_pass.ensures.1 lets in cc)
    (λ h calls. none-some h (sym c.in-None.is ∙ (c.called.ensures h).1 calls)))
