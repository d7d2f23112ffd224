use Rattle.std.proofs.lemmas.Result.{on_ok_weaker}
use Rattle.std.proofs.Common.{arith, refl}
use Rattle.ux_image_content.specs.declared.walk.Walk.{Walk}
use Rattle.ux_image_content.proofs.WalkStepLemmas.{goes_back, goes_down, popped}
use Rattle.ux_image_content.proofs.walk.Walk.go_on.Goals as goal

pub enter-requires : goal.enter-requires
enter-requires c = c.in-Some.ensures.target

pub returns-in_ok-push-in-Some-2 : goal.returns-in_ok-push-in-Some-2
returns-in_ok-push-in-Some-2 c =
    let old = c.args.self.now in
    let mid : Walk = record {
      stack = c.push.new.self;
      letters = c.push-in-Some.new.self;
      forms = old.forms;
    } in
    on_ok_weaker c.enter.result (λ enters.
    goes_down c.args.states.now c.requires.automaton.fit c.args.frame c.in-Some.past c.in-Some.edge
    old mid c.enter.new.self c.requires.way c.in-Some.ensures c.in_ok-push-in-Some.ensures.items
    c.in_ok-push-in-Some-2.ensures.items refl enters) c.enter.ensures

pub returns-in-None : goal.returns-in-None
returns-in-None c =
    let old = c.args.self.now in
    let letters = c.pop.new.self.items in
    let new : Walk = record { stack = old.stack; letters = c.pop.new.self; forms = old.forms } in
    goes_back c.args.states.now c.requires.automaton.fit c.args.frame old letters new
    c.requires.way c.in-None.ensures refl refl refl
    (popped old.letters.items letters c.pop.result _ _ c.pop.ensures.items (omega arith)
    (omega arith) c.pop.ensures.cases)
