use Rattle.std.proofs.Common.{rules, arith, ap, length, length-append, ◌∷◌, []}
use Rattle.ux_fst2_file.specs.Fields.{fields_of}
use Rattle.ux_fst2_file.proofs.EdgeLemmas.{edges_whole, edges_bad, edges_more}
use Rattle.ux_fst2_file.proofs.line.read_edges.Goals as goal

pub returns-in_default-read_edge : goal.returns-in_default-read_edge
returns-in_default-read_edge c =
    edges_bad (fields_of c.args.text.now) (fields_of c.loop-label.rest.now) c.loop-label.edges.items
    c.loop-label.invariant.read c.in-Some.label.now c.in-Some-next_field.target.now
    (fields_of c.in-Some.behind.now) (fields_of c.in-Some-next_field.behind.now)
    c.in-Some.ensures.0 c.in-Some-next_field.ensures.0 c.in_default-read_edge.ensures

pub loop-label-preserved : goal.loop-label-preserved
loop-label-preserved c = record {
  utf8 = search rules;
  few = omega (
    arith,
    c.if-len-ge-MOST_EDGES.false,
    c.len.ensures,
    ap length c.in_ok-push.ensures.items,
    length-append c.loop-label.edges.items (c.in-Some-read_edge.edge ∷ []),
  );
  read = edges_more (fields_of c.args.text.now) (fields_of c.loop-label.rest.now)
      c.loop-label.edges.items c.loop-label.invariant.read c.in-Some.label.now
      c.in-Some-next_field.target.now (fields_of c.in-Some.behind.now)
      (fields_of c.in-Some-next_field.behind.now) c.in-Some.ensures.0
      c.in-Some-next_field.ensures.0 c.in-Some-read_edge.edge c.push.new.self.items
      c.in-Some-read_edge.ensures c.in_ok-push.ensures.items;
}

pub returns : goal.returns
returns c = (
  edges_whole (fields_of c.args.text.now) (fields_of c.loop-label.rest.now)
      c.loop-label.edges.items c.loop-label.invariant.read c.in_default.ensures,
  c.loop-label.invariant.few,
)
