use Rattle.std.proofs.Common.{arith, ◌≡◌, ◌<◌, length}
use Rattle.std.proofs.lemmas.Grind.{common_steps}
use Rattle.ux_digraph.specs.declared.grouping.Mark.TheVariants.{New}
use Rattle.ux_digraph.specs.Grouping.{mark_at}
use Rattle.ux_digraph.proofs.StepLemmas.{mark_read}
use Rattle.ux_base.proofs.Lists.{emptied}
use Rattle.ux_digraph.proofs.VisitLemmas.{visit_begins, visit_keeps, visit_meets, visit_ends}
use Rattle.ux_digraph.proofs.grouping.visit.Goals as goal

pub loop-group-init : goal.loop-group-init
loop-group-init c =
    let opened = c.in_ok-open_node.ensures in
    let marks = c.args.marks.now.items in
    let node = c.args.node in
    let at : node < length marks =
    let l = c.requires.len in
    let n = c.requires.node in omega arith in
    let fresh : mark_at marks node ≡ New =
    mark_read marks node c.index.result.now New at c.index.ensures
    (c.is_new.ensures.0 c.if-not-is_new.false) in
    record {
      searching = visit_begins c.args.edges.now marks c.args.count node c.requires.resting at fresh
          c.new-trail.result.items c.new-ahead.result.items c.new-groups.result.items
          c.open_node.new.marks.items c.open_node.new.trail.items c.open_node.new.ahead.items
          c.open_node.new.groups.items c.new-trail.ensures.items c.new-ahead.ensures.items
          c.new-groups.ensures.items opened.marks opened.trail opened.ahead opened.groups;
      keeps = visit_keeps c.args.edges.now marks c.args.count node c.requires.resting at fresh
          (length c.new-trail.result.items) c.open_node.new.marks.items opened.marks;
      met = visit_meets c.args.edges.now marks c.args.count node c.requires.resting at fresh
          (length c.new-trail.result.items) c.open_node.new.marks.items opened.marks;
    }

pub returns-clause-resting : goal.returns-clause-resting
returns-clause-resting c =
    visit_ends c.args.edges.now c.loop-group.marks.items c.loop-group.trail.items
    c.loop-group.ahead.items c.loop-group.groups.items c.loop-group.count
    (emptied c.loop-group.groups.items c.pop.new.self.items _ c.in_default.ensures.items
    c.in_default.ensures.rest c.in_default.ensures.cases.0) c.loop-group.invariant.searching

pub returns-then-not-is_new-clause-met : goal.returns-then-not-is_new-clause-met
returns-then-not-is_new-clause-met c = grind (arith, common_steps)
