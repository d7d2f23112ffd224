use Rattle.std.proofs.Common.{arith, length}
use Rattle.std.proofs.lemmas.Grind.{common_steps}
use Rattle.std.proofs.lemmas.List.Elements.{Contains-push}
use Rattle.ux_digraph.specs.declared.grouping.Mark.TheVariants.{New}
use Rattle.ux_digraph.proofs.MarksLemmas.{numbering_keeps, opened_falls}
use Rattle.ux_digraph.proofs.StepLemmas.{mark_read, target_below, target_marked, new_followed, open_followed, done_followed}
use Rattle.ux_digraph.proofs.ClosingLemmas.{group_closed}
use Rattle.ux_digraph.proofs.grouping.step.Goals as goal

pub next_target-requires : goal.next_target-requires
next_target-requires c = record {
  first = (c.requires.searching.opened.bounded c.args.group
      (Contains-push c.args.groups.now.items c.args.group)).1;
}

pub close-requires-clause-first : goal.close-requires-clause-first
close-requires-clause-first c =
    let b = (c.requires.searching.opened.bounded c.args.group
    (Contains-push c.args.groups.now.items c.args.group)).0 in omega arith

pub returns-in_default-clause-searching : goal.returns-in_default-clause-searching
returns-in_default-clause-searching c =
    rw (c.close.ensures.trail, c.in_default.ensures.none.1)
    (group_closed c.args.edges.now c.args.marks.now.items c.close.new.marks.items
    c.args.trail.now.items c.args.ahead.now.items c.args.groups.now.items c.args.group
    c.args.count c.requires.searching c.in_default.ensures.none.0 c.close.ensures.marks)

pub returns-in_default-clause-keeps : goal.returns-in_default-clause-keeps
returns-in_default-clause-keeps c =
    numbering_keeps c.args.marks.now.items c.args.trail.now.items
    c.requires.searching.opened.places c.args.group.first c.args.count c.close.new.marks.items
    (length c.args.trail.now.items) c.close.ensures.marks

pub index-requires : goal.index-requires
index-requires c =
    let inside = target_marked c.args.edges.now c.requires.inside c.args.marks.now.items
    c.args.trail.now.items c.args.ahead.now.items c.next_target.new.ahead.items
    c.args.groups.now.items c.args.group c.in-Some.target c.args.count
    c.in-Some.ensures.some.1 c.in-Some.ensures.some.0 c.requires.searching in
    omega arith

pub open_node-requires-clause-node : goal.open_node-requires-clause-node
open_node-requires-clause-node c =
    target_below c.args.edges.now c.requires.inside c.args.marks.now.items
    c.args.trail.now.items c.args.ahead.now.items c.next_target.new.ahead.items
    c.args.groups.now.items c.args.group c.in-Some.target c.args.count
    c.in-Some.ensures.some.1 c.in-Some.ensures.some.0 c.requires.searching

pub returns-in-New-clause-searching : goal.returns-in-New-clause-searching
returns-in-New-clause-searching c =
    let opened = c.in_ok-open_node-in-New.ensures in
    new_followed c.args.edges.now c.requires.inside c.args.marks.now.items
    c.args.trail.now.items c.args.ahead.now.items c.next_target.new.ahead.items
    c.args.groups.now.items c.args.group c.in-Some.target c.args.count
    c.in-Some.ensures.some.1 c.in-Some.ensures.some.0 c.requires.searching
    c.index.result.now c.index.ensures c.in-New.is c.open_node.new.marks.items
    c.open_node.new.trail.items c.open_node.new.ahead.items c.push.new.self.items
    c.open_node.new.groups.items opened.marks opened.trail opened.ahead
    c.in_ok-push.ensures.items opened.groups

pub returns-in-New-clause-falls : goal.returns-in-New-clause-falls
returns-in-New-clause-falls c =
    let opened = c.in_ok-open_node-in-New.ensures in
    let inside = target_marked c.args.edges.now c.requires.inside c.args.marks.now.items
    c.args.trail.now.items c.args.ahead.now.items c.next_target.new.ahead.items
    c.args.groups.now.items c.args.group c.in-Some.target c.args.count
    c.in-Some.ensures.some.1 c.in-Some.ensures.some.0 c.requires.searching in
    let at = target_below c.args.edges.now c.requires.inside c.args.marks.now.items
    c.args.trail.now.items c.args.ahead.now.items c.next_target.new.ahead.items
    c.args.groups.now.items c.args.group c.in-Some.target c.args.count
    c.in-Some.ensures.some.1 c.in-Some.ensures.some.0 c.requires.searching in
    rw (opened.marks, ← c.in_ok-push.ensures.items)
    (opened_falls c.args.marks.now.items c.in-Some.target (length c.args.trail.now.items) inside
    (mark_read c.args.marks.now.items c.in-Some.target c.index.result.now New inside
    c.index.ensures c.in-New.is) c.args.edges.now c.next_target.new.ahead.items
    c.args.ahead.now.items c.open_node.new.ahead.items c.args.groups.now.items
    c.push.new.self.items c.open_node.new.groups.items c.in-Some.target c.args.group _ at
    c.in-Some.ensures.some.1 opened.ahead c.in_ok-push.ensures.items opened.groups)

pub returns-in-Open-clause-searching : goal.returns-in-Open-clause-searching
returns-in-Open-clause-searching c =
    open_followed c.args.edges.now c.requires.inside c.args.marks.now.items
    c.args.trail.now.items c.args.ahead.now.items c.next_target.new.ahead.items
    c.args.groups.now.items c.args.group c.in-Some.target c.args.count
    c.in-Some.ensures.some.1 c.in-Some.ensures.some.0 c.requires.searching
    c.index.result.now c.in-Open.place c.index.ensures c.in-Open.is c.push.new.self.items
    c.join.new.groups.items c.in_ok-push.ensures.items c.in_ok-join-in-Open.ensures

pub returns-in-Done-clause-searching : goal.returns-in-Done-clause-searching
returns-in-Done-clause-searching c =
    done_followed c.args.edges.now c.requires.inside c.args.marks.now.items
    c.args.trail.now.items c.args.ahead.now.items c.next_target.new.ahead.items
    c.args.groups.now.items c.args.group c.in-Some.target c.args.count
    c.in-Some.ensures.some.1 c.in-Some.ensures.some.0 c.requires.searching
    c.index.result.now c.in-Done.field-0 c.index.ensures c.in-Done.is c.push.new.self.items
    c.in_ok-push.ensures.items

pub close-requires-clause-inside : goal.close-requires-clause-inside
close-requires-clause-inside c = grind (arith, common_steps)

pub returns-in_default-clause-falls : goal.returns-in_default-clause-falls
returns-in_default-clause-falls c = grind (arith, common_steps)

pub returns-in-Open-clause-falls : goal.returns-in-Open-clause-falls
returns-in-Open-clause-falls c = grind (arith, common_steps)

pub returns-in-Done-clause-falls : goal.returns-in-Done-clause-falls
returns-in-Done-clause-falls c = grind (arith, common_steps)
