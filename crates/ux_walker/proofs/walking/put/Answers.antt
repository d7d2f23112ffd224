use Rattle.ux_walker.specs.Agendas.{visit_of}
use Rattle.ux_walker.proofs.WalkLemmas.{ready_put, leads_put, ready_joined, leads_joined}
use Rattle.ux_walker.proofs.walking.put.Goals as goal

pub join-requires-clause-one : goal.join-requires-clause-one
join-requires-clause-one c =
    (c.requires.ready (visit_of c.args.at c.in-Some.waiting) c.in-Some.ensures.there).front

pub returns-in_ok-set-in-Some-clause-ready : goal.returns-in_ok-set-in-Some-clause-ready
returns-in_ok-set-in-Some-clause-ready c = λ low after are.
    ready_joined c.args.automaton.now c.join.new.self c.in_ok-joined-in-Some.ensures.keeps
    c.args.agenda.now c.set.new.self c.args.at c.args.front c.in-Some.waiting
    c.in_ok-joined-in-Some.joined c.requires.may.is c.in-Some.ensures c.requires.ready
    c.in_ok-joined-in-Some.ensures.both c.in_ok-set-in-Some.ensures
    c.in_ok-joined-in-Some.ensures.there low are

pub returns-in_ok-set-in-Some-clause-leads : goal.returns-in_ok-set-in-Some-clause-leads
returns-in_ok-set-in-Some-clause-leads c =
    leads_joined c.args.automaton.now c.join.new.self c.in_ok-joined-in-Some.ensures.keeps
    c.args.agenda.now c.set.new.self c.args.at c.args.front c.in-Some.waiting
    c.in_ok-joined-in-Some.joined c.requires.may.is c.in-Some.ensures c.requires.ready
    c.in_ok-joined-in-Some.ensures.both c.in_ok-set-in-Some.ensures

pub returns-in_ok-set-in-None-clause-ready : goal.returns-in_ok-set-in-None-clause-ready
returns-in_ok-set-in-None-clause-ready c = λ low after are.
    ready_put c.args.automaton.now c.args.agenda.now c.set-in-None.new.self c.args.at c.args.front
    c.in-None.ensures c.in_ok-set-in-None.ensures low after c.requires.may
    c.if-front-eq0.false are

pub returns-in_ok-set-in-None-clause-leads : goal.returns-in_ok-set-in-None-clause-leads
returns-in_ok-set-in-None-clause-leads c =
    leads_put c.args.automaton.now c.args.agenda.now c.set-in-None.new.self c.args.at c.args.front
    c.in-None.ensures c.in_ok-set-in-None.ensures
