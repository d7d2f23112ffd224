use Rattle.std.proofs.Common.{arith, ◌≡◌, ◌-◌, ◌++◌, List, [], sym, ◌∙◌, ap}
use Rattle.std.proofs.lemmas.List.{append-nil, nil_from_length}
use Rattle.ux_dawg.specs.declared.state.Form.{Form}
use Rattle.ux_image_content.specs.declared.walk.Frame.{Frame}
use Rattle.ux_image_content.specs.Walking.{forms_left}
use Rattle.ux_image_content.proofs.WalkLemmas.{forms_done}
use Rattle.ux_image_content.proofs.WalkStepLemmas.{begins}
use Rattle.ux_image_content.proofs.walk.Walk.run.Goals as goal

pub loop-frame-init : goal.loop-frame-init
loop-frame-init c =
    let states = c.args.states.now in
    let some = c.requires.automaton.some in
    let long = c.len.ensures in
    begins states c.requires.automaton.fit (c.len.result - 1) c.args.self.now c.enter.new.self
    (omega (arith, some, long)) c.requires.stack c.requires.letters c.in_ok-enter.ensures

pub returns : goal.returns
returns c =
    let stack = c.loop-frame.self.stack.items in
    let forms = c.loop-frame.self.forms.items in
    let letters = c.loop-frame.self.letters.items in
    let none : stack ≡ [] = nil_from_length stack (omega (arith, c.in_default.ensures.cases.0)) in
    sym (append-nil forms)
    ∙ ap (λ (l : List Form). forms ++ l) (sym (forms_done c.args.states.now letters))
    ∙ ap (λ (l : List Frame). forms ++ forms_left c.args.states.now l letters) (sym none)
    ∙ c.loop-frame.invariant.1
