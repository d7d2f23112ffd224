use Rattle.std.proofs.Common.{◌∙◌, ap}
use Rattle.ux_outputs.specs.Rendering.{State, after_put}
use Rattle.ux_outputs.proofs.KeptLemmas.{state_of-put, state_of-written, IsKept-written, unwritten-written}
use Rattle.ux_outputs.proofs.rendering.Rendering.put_out.Goals as goal

pub returns-in_ok-push_str-2-clause-state : goal.returns-in_ok-push_str-2-clause-state
returns-in_ok-push_str-2-clause-state c =
    let mode = c.args.mode in
    let tokens = c.args.text.now in
    let old = c.args.self.now in
    let written = c.write.new.self in
    state_of-put mode tokens written
    (record written { written = c.push_str.new.self; collected = c.push_str-then-self.new.self })
    c.args.put.now
    (IsKept-written mode tokens old written c.in_ok-write.ensures c.requires.kept)
    (unwritten-written mode tokens old written c.in_ok-write.ensures)
    c.in_ok-push_str.ensures.bytes c.in_ok-push_str-2.ensures.bytes
    ∙ ap (λ (s : State). after_put s c.args.put.now)
    (state_of-written mode tokens old written c.in_ok-write.ensures)
