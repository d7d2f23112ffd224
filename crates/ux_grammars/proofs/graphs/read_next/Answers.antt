use Rattle.std.proofs.Common.{◌∙◌, ap, string_bytes}
use Rattle.std.proofs.lemmas.Result.{err_from_is_err_and}
use Rattle.ux_grammars.specs.Graphs.{graph_format}
use Rattle.ux_grammars.specs.Naming.{file_of}
use Rattle.ux_grammars.proofs.ReadingLemmas.{memory_next, reading_more, reads_next, stops_next}
use Rattle.ux_grammars.proofs.graphs.read_next.Goals as goal

pub returns-in_err-graph-clause-err : goal.returns-in_err-graph-clause-err
returns-in_err-graph-clause-err g c =
    let r = c.from_residual-in_err-graph in
    let p = err_from_is_err_and r.result r.ensures.1 in
    let word = c.args.word.now in
    let count = c.len-count.result in
    let seen = g.F.Folder.seen in
    let file = c.as_str-2.ensures.value ∙ (c.in_ok-file.ensures
    ∙ ap (file_of word count) c.as_str.ensures.value) in
    rw (p.1, p.2) (stops_next word c.args.names.now.keys c.args.graphs.now.items c.requires.reading
    (graph_format c.args.kind) count
    (string_bytes c.in_ok-name.name) c.as_str-2.result.now
    (c.len-count.ensures ∙ c.args.graphs.now.ok.0) c.in_ok-name.ensures file
    (seen c.args.folder.now) (seen c.read_graph.new.folder) c.in_err-graph.field-0.0
    c.in_err-graph.ensures.err)

pub returns-clause-ok : goal.returns-clause-ok
returns-clause-ok g c =
    let word = c.args.word.now in
    let count = c.len-count.result in
    let file = c.as_str-2.ensures.value ∙ (c.in_ok-file.ensures
    ∙ ap (file_of word count) c.as_str.ensures.value) in
    reads_next word c.args.names.now.keys c.args.graphs.now.items c.requires.reading
    (graph_format c.args.kind) count
    (string_bytes c.in_ok-name.name) c.as_str-2.result.now
    (c.len-count.ensures ∙ c.args.graphs.now.ok.0) c.in_ok-name.ensures file
    (g.F.Folder.seen c.args.folder.now).files c.in_ok-graph.graph c.push.new.self.items
    c.in_ok-graph.ensures.ok c.in_ok-push.ensures.items

pub returns-clause-reading : goal.returns-clause-reading
returns-clause-reading g c =
    let read = c.in_ok-graph.ensures in
    reading_more c.args.word.now c.args.names.now.keys c.args.graphs.now.items c.requires.reading
    c.add_needs.new.names.keys c.in_ok-graph.graph c.push.new.self.items
    (string_bytes c.in_ok-name.name) c.len-count.result
    (c.len-count.ensures ∙ c.args.graphs.now.ok.0) c.in_ok-name.ensures read.named read.given
    c.in_ok-add_needs.ensures c.in_ok-push.ensures.items

pub returns-in_err-name-clause-err : goal.returns-in_err-name-clause-err
returns-in_err-name-clause-err g c =
    let p = err_from_is_err_and c.from_residual.result c.from_residual.ensures.1 in
    rw (p.1, p.2) (memory_next _ _ _ _ _ _ c.requires.reading c.requires.left)

pub returns-in_err-add_needs-clause-err : goal.returns-in_err-add_needs-clause-err
returns-in_err-add_needs-clause-err g c =
    let p = err_from_is_err_and c.from_residual-in_err-add_needs.result c.from_residual-in_err-add_needs.ensures.1 in
    rw (p.1, p.2) (memory_next _ _ _ _ _ _ c.requires.reading c.requires.left)

pub returns-in_err-push-clause-err : goal.returns-in_err-push-clause-err
returns-in_err-push-clause-err g c =
    let p = err_from_is_err_and c.from_residual-in_err-push.result c.from_residual-in_err-push.ensures.1 in
    rw (p.1, p.2) (memory_next _ _ _ _ _ _ c.requires.reading c.requires.left)
