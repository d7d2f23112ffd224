use Rattle.std.proofs.Common.{◌-◌, List, [], ◌≡◌, ◌++◌, ◌∷◌, ◌∙◌, subst, ap, arith}
use Rattle.std.specs.Prelude.{All}
use Rattle.std.proofs.lemmas.List.{nil_from_length}
use Rattle.ux_image_reader.specs.declared.visit.Frame.{Frame}
use Rattle.ux_image_reader.specs.Visit.{visit_of}
use Rattle.ux_image_reader.specs.Visiting.{below, left_at_end, IsFrame}
use Rattle.ux_image_reader.proofs.EdgesLemmas.{standing}
use Rattle.ux_image_reader.proofs.VisitingLemmas.{all_in_order, begins_visit, ends_early, leaves_else, leaves_on}
use Rattle.ux_image_reader.proofs.visit.first_numbered_else.Goals as goal

pub loop-number-init : goal.loop-number-init
loop-number-init c =
    begins_visit c.args.states.now c.requires.states c.requires.some c.push.new.self.items
    (c.in_ok-push.ensures.items
    ∙ ap (λ (l : List Frame). l ++ record { state = c.len.result - 1; place = 0 } ∷ [])
    c.new-stack.ensures.items
    ∙ ap (λ n. record { state = n - 1; place = 0 } ∷ []) c.len.ensures)

pub returns-in_default : goal.returns-in_default
returns-in_default c =
    let stack = c.loop-number.stack.items in
    let none : stack ≡ [] = nil_from_length stack (omega (arith, c.in_default.ensures.cases.0)) in
    ends_early c.args.states.now c.loop-number.number (omega arith)
    (subst (λ (l : List Frame). left_at_end c.args.states.now l (below c.loop-number.number)
    ≡ visit_of c.args.states.now) none c.loop-number.invariant.1)

pub leave_next-requires-clause-frame : goal.leave_next-requires-clause-frame
leave_next-requires-clause-frame c =
    standing (IsFrame c.args.states.now) c.pop.new.self.items c.in-Some.frame []
    (subst (λ (l : List Frame). All (IsFrame c.args.states.now) l) c.in-Some.ensures.items
    c.loop-number.invariant.0)

pub returns-then-branch-number : goal.returns-then-branch-number
returns-then-branch-number c =
    leaves_else c.args.states.now c.loop-number.number (c.pop.new.self.items ++ c.in-Some.frame ∷ [])
    c.leave_next.new.stack.items c.in_ok-leave_next.field-0 c.in_ok-leave_next.ensures
    (subst (λ (l : List Frame). left_at_end c.args.states.now l (below c.loop-number.number)
    ≡ visit_of c.args.states.now) c.in-Some.ensures.items c.loop-number.invariant.1)
    (omega arith) c.if-branch-number.true

pub loop-number-preserved : goal.loop-number-preserved
loop-number-preserved c = (
  c.in_ok-leave_next.ensures.frames,
  leaves_on c.args.states.now c.loop-number.number (c.pop.new.self.items ++ c.in-Some.frame ∷ [])
      c.leave_next.new.stack.items c.in_ok-leave_next.field-0 c.in_ok-leave_next.ensures
      (subst (λ (l : List Frame). left_at_end c.args.states.now l (below c.loop-number.number)
      ≡ visit_of c.args.states.now) c.in-Some.ensures.items c.loop-number.invariant.1)
      c.if-branch-number.false,
)

pub returns : goal.returns
returns c =
    all_in_order c.args.states.now c.loop-number.number c.loop-number.stack.items (omega arith)
    c.loop-number.invariant.1
