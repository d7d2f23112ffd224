use Rattle.ux_dawg.specs.Flat.{state_of}
use Rattle.ux_dawg.proofs.IndexLemmas.{added, begun_linked, stored}
use Rattle.ux_dawg.proofs.index.Index.store.Goals as goal

pub link-requires-clause-linked : goal.link-requires-clause-linked
link-requires-clause-linked c =
    begun_linked c.args.hash c.len-number.result c.in_ok-item.item c.args.self.now
    c.begin.new.self c.in_ok-item.ensures.ok c.requires.indexed.linked

pub returns-in-Ok-clause-ok : goal.returns-in-Ok-clause-ok
returns-in-Ok-clause-ok c =
    let begun = c.in_ok-item.ensures.ok in
    let number = c.len-number.result in
    let old = c.args.self.now in
    stored c.args.states.now (state_of c.args.code c.args.edges.now) c.args.hash number old
    c.link.new.self c.push.new.self c.requires.indexed c.requires.within c.requires.hash
    c.len-number.ensures
    (added c.args.hash number c.in_ok-item.item old c.begin.new.self c.link.new.self begun
    c.link.ensures.linked c.link.ensures.same) c.in-Ok.ensures.ok
