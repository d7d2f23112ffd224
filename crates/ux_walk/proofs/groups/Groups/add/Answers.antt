use Rattle.std.proofs.Common.{refl, rules}
use Rattle.ux_walk.proofs.GroupsLemmas.{more_in, same_in, is_false}
use Rattle.ux_walk.proofs.groups.Groups.add.Goals as goal

pub returns : goal.returns
returns g c = λ grouped. more_in _ _ c.args.group c.args.value c.in_ok-add.field-0
    c.list-tail.result c.in_ok-number.number c.in_ok-add.ensures c.list-tail.ensures
    c.in_ok-number.ensures c.in_ok-put_in.ensures grouped

pub returns-then-not-branch : goal.returns-then-not-branch
returns-then-not-branch g c = λ grouped. same_in _ _ c.args.group c.args.value c.in_ok-add.field-0
    (is_false c.in_ok-add.field-0 (search rules)) c.in_ok-add.ensures refl refl grouped
