use Rattle.std.proofs.Common.{refl, sym}
use Rattle.ux_closure.specs.Meeting.{known}
use Rattle.ux_closure.proofs.Results.{on_ok}
use Rattle.ux_closure.proofs.Stepping.{backs_to, backs_none}
use Rattle.ux_closure.proofs.passing.go_back.Goals as goal

pub returns-in-Some : goal.returns-in-Some
returns-in-Some c = on_ok c.put.result _ _ (λ put.
    backs_to (known c.args.stacks.now.links.keys c.args.met.now)
    (known c.args.stacks.now.links.keys c.put.new.self) c.requires.sound refl c.args.stand
    c.in-Some.link.now (sym c.in-Some.ensures) c.put.ensures.ends put) c.put.ensures.put

pub returns-in-None : goal.returns-in-None
returns-in-None c = backs_none (known c.args.stacks.now.links.keys c.args.met.now)
    (known c.args.stacks.now.links.keys (record { stands = c.args.met.now.stands; ends = _ }))
    c.requires.sound refl c.args.stand (sym c.in-None.ensures) refl refl
