use Rattle.std.specs.Prelude.{slice_get}
use Rattle.ux_lexical_tables.proofs.EndsLemmas.{row_is}
use Rattle.ux_text_automaton.proofs.FoundLemmas.{links_found}
use Rattle.ux_text_automaton.proofs.LinkLemmas.{lie_within}
use Rattle.ux_text_automaton.proofs.readings.links_from.Goals as goal

pub put_spans-requires-clause-within : goal.put_spans-requires-clause-within
put_spans-requires-clause-within c =
    lie_within c.requires.belongs.0 c.args.text.now c.args.tables.now c.requires.belongs.1 c.args.run
    c.requires.run c.args.place c.requires.from c.requires.to c.compounds.result.now
    (row_is c.compounds.result.now (slice_get c.args.tables.now.compounds c.args.place)
    c.compounds.ensures)

pub returns : goal.returns
returns c =
    links_found c.args.text.now c.args.tables.now c.args.run.first c.args.place c.kind-kind.result
    c.token.result.now c.simple.result.now c.compounds.result.now c.state_before-from.result
    c.state_before-to.result c.kind-kind.ensures c.token.ensures c.simple.ensures c.compounds.ensures
    c.state_before-from.ensures c.state_before-to.ensures c.in_ok-found.found.items
    c.put_spans.new.found.items c.in_ok-found.ensures c.in_ok-put_spans.ensures
