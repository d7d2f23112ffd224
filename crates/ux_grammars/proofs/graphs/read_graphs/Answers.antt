use Rattle.std.proofs.Common.{arith, ◌≤◌, ◌<◌, [], ◌∷◌, ap, length, length-append}
use Rattle.std.proofs.lemmas.List.{length-map}
use Rattle.std.proofs.lemmas.Result.{err_from_is_err_and}
use Rattle.ux_plan.proofs.Growing.{loop_ends, loop_more, loop_stops}
use Rattle.ux_plan.proofs.PlanLaws.{later_both}
use Rattle.ux_boxes.specs.Refusing.{drawn, drawn_of}
use Rattle.ux_grammars.specs.Graphs.{MOST_READS, graph_format, graphs_plan}
use Rattle.ux_grammars.specs.Naming.{file_of, next_name}
use Rattle.ux_grammars.proofs.ReadingLemmas.{none_left, reading_ends}
use Rattle.ux_grammars.proofs.graphs.read_graphs.Goals as goal

pub loop-alloc-preserved : goal.loop-alloc-preserved
loop-alloc-preserved g c =
    let seen = g.F.Folder.seen in
    let l = c.loop-alloc in
    let read = c.in_ok-read_next.ensures in
    let graphs = drawn l.graphs.items in
    let len = length-map l.graphs.items drawn_of in
    let few : length graphs < MOST_READS = omega (arith, read.few, len) in
    let all = c.read_next.new.graphs.items in
    record {
      later = later_both (seen c.args.folder.now) (seen l.folder) (seen c.read_next.new.folder)
          l.invariant.later read.later;
      reading = read.reading;
      few = omega (
        arith,
        read.few,
        len,
        length-map all drawn_of,
        ap length read.ok.grown,
        length-append graphs (read.ok.value ∷ []),
      );
      rest = loop_more (next_name c.args.word.now) (file_of c.args.word.now)
          (graph_format c.args.kind) MOST_READS
          (graphs_plan c.args.kind c.args.word.now) (seen c.args.folder.now)
          (seen l.folder) l.invariant.later graphs few l.invariant.rest (drawn all) read.ok;
    }

pub returns-in_err-read_next-clause-err : goal.returns-in_err-read_next-clause-err
returns-in_err-read_next-clause-err g c =
    let r = c.from_residual-in_err-read_next in
    let p = err_from_is_err_and r.result r.ensures.1 in
    let seen = g.F.Folder.seen in
    let l = c.loop-alloc in
    let graphs = drawn l.graphs.items in
    let len = length-map l.graphs.items drawn_of in
    let few : length graphs < MOST_READS = omega (arith, l.invariant.few, len) in
    rw (p.1, p.2) (loop_stops (next_name c.args.word.now) (file_of c.args.word.now)
    (graph_format c.args.kind) MOST_READS
    (graphs_plan c.args.kind c.args.word.now)
    (seen c.args.folder.now) (seen l.folder) l.invariant.later graphs few l.invariant.rest
    (seen c.read_next.new.folder) c.in_err-read_next.field-0.0 c.in_err-read_next.ensures.err)

pub returns-clause-ok : goal.returns-clause-ok
returns-clause-ok g c =
    let seen = g.F.Folder.seen in
    let l = c.loop-alloc in
    let graphs = drawn l.graphs.items in
    let len = length-map l.graphs.items drawn_of in
    let few : length graphs < MOST_READS = omega (arith, l.invariant.few, len) in
    let past : length l.names.keys ≤ length l.graphs.items = omega (
      arith,
      c.loop-alloc-test.false,
      c.len.ensures,
      c.len-in-loop-alloc.ensures.len,
      l.graphs.ok.0,
    ) in
    loop_ends (next_name c.args.word.now) (file_of c.args.word.now)
    (graph_format c.args.kind) MOST_READS
    (graphs_plan c.args.kind c.args.word.now)
    (seen c.args.folder.now) (seen l.folder) l.invariant.later graphs few l.invariant.rest
    (none_left c.args.word.now l.names.keys l.graphs.items l.invariant.reading past)

pub returns-clause-whole : goal.returns-clause-whole
returns-clause-whole g c =
    let l = c.loop-alloc in
    reading_ends c.args.word.now l.names.keys l.graphs.items l.invariant.reading l.invariant.few
    (omega (
      arith,
      c.loop-alloc-test.false,
      c.len.ensures,
      c.len-in-loop-alloc.ensures.len,
      l.graphs.ok.0,
    ))
