use Rattle.ux_digraph.proofs.GroupsLemmas.{joining_goes_on, joining_ends}
use Rattle.ux_digraph.proofs.grouping.join.Goals as goal

pub loop-group-preserved : goal.loop-group-preserved
loop-group-preserved c =
    joining_goes_on c.args.groups.now.items c.args.place c.loop-group.groups.items
    c.pop.new.self.items c.in-Some.group c.in-Some.ensures.items c.if-group-place.false
    c.loop-group.invariant

pub returns-then-group-place : goal.returns-then-group-place
returns-then-group-place c =
    joining_ends c.args.groups.now.items c.args.place c.loop-group.groups.items
    c.pop.new.self.items c.push.new.self.items c.in-Some.group c.in-Some.ensures.items
    c.in_ok-push.ensures.items c.if-group-place.true c.loop-group.invariant
