use Rattle.std.proofs.Common.{◌≡◌, ◌∙◌, true, false, sym, arith}
use Rattle.std.proofs.lemmas.Grind.{common_steps}
use Rattle.ux_walk.proofs.Stepping.{steps_final, steps_nowhere, steps_on}
use Rattle.ux_mask_table.proofs.KnownLabels.{edges_known}
use Rattle.ux_walk.proofs.reached.Reached.step.Goals as goal

pub follow_state-requires-clause-known : goal.follow_state-requires-clause-known
follow_state-requires-clause-known g c =
    edges_known c.args.masked.now c.args.config.here.graph c.args.config.here.state
    c.in-Some.state.now c.requires.table (sym c.in-Some.ensures)

pub follow_state-requires-clause-asked : goal.follow_state-requires-clause-asked
follow_state-requires-clause-asked g c = λ edge inside opens.
    c.requires.told.asked c.args.config.here.graph edge c.args.config.at (record {
      from = c.args.config.here.state;
      state = c.in-Some.state.now;
      found = sym c.in-Some.ensures;
      inside = inside;
      sign = opens.0;
      is = opens.1;
    }) c.requires.inside

pub returns-in_ok-leave-clause-adds : goal.returns-in_ok-leave-clause-adds
returns-in_ok-leave-clause-adds g c =
    let masked = c.args.masked.now in
    steps_final masked.alphabet.now masked.text.now masked.applied.now
    (g.C.Contexts.applies c.args.contexts.now) masked.net.now c.args.config
    c.in-Some.state.now (sym c.in-Some.ensures) c.args.self.now c.follow_state.new.self
    c.leave.new.self c.if-state.true
    (c.in_ok-follow_state.ensures.adds masked.net.now (sym c.in-Some.ensures) c.requires.sound)
    c.in_ok-leave.ensures

pub returns-else-state-clause-adds : goal.returns-else-state-clause-adds
returns-else-state-clause-adds g c =
    let masked = c.args.masked.now in
    steps_on masked.alphabet.now masked.text.now masked.applied.now
    (g.C.Contexts.applies c.args.contexts.now) masked.net.now c.args.config
    c.in-Some.state.now (sym c.in-Some.ensures) c.args.self.now c.follow_state.new.self
    (λ yes. let no : false ≡ true = sym c.if-state.false ∙ yes in cc)
    (c.in_ok-follow_state.ensures.adds masked.net.now (sym c.in-Some.ensures) c.requires.sound)

pub returns-in_default-clause-sound : goal.returns-in_default-clause-sound
returns-in_default-clause-sound g c = grind (arith, common_steps)

pub returns-in_default-clause-adds : goal.returns-in_default-clause-adds
returns-in_default-clause-adds g c =
    let masked = c.args.masked.now in
    steps_nowhere masked.alphabet.now masked.text.now masked.applied.now
    (g.C.Contexts.applies c.args.contexts.now) masked.net.now c.args.config c.args.self.now
    (sym c.in_default.ensures)

pub returns-in_err-follow_state-clause-sound : goal.returns-in_err-follow_state-clause-sound
returns-in_err-follow_state-clause-sound g c = grind (arith, common_steps)

pub returns-in_err-follow_state-clause-adds : goal.returns-in_err-follow_state-clause-adds
returns-in_err-follow_state-clause-adds g c = grind (arith, common_steps)

pub returns-in_err-leave-clause-sound : goal.returns-in_err-leave-clause-sound
returns-in_err-leave-clause-sound g c = grind (arith, common_steps)

pub returns-in_err-leave-clause-adds : goal.returns-in_err-leave-clause-adds
returns-in_err-leave-clause-adds g c = grind (arith, common_steps)

pub returns-in_ok-leave-clause-sound : goal.returns-in_ok-leave-clause-sound
returns-in_ok-leave-clause-sound g c = grind (arith, common_steps)

pub returns-else-state-clause-sound : goal.returns-else-state-clause-sound
returns-else-state-clause-sound g c = grind (arith, common_steps)
