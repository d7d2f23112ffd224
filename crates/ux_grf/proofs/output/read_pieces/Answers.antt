use Rattle.std.proofs.Common.{sym, arith}
use Rattle.std.proofs.lemmas.Grind.{common_steps}
use Rattle.ux_grf.proofs.OutputLemmas.{pieces_more, pieces_all}
use Rattle.ux_grf.proofs.output.read_pieces.Goals as goal

pub loop-place-preserved : goal.loop-place-preserved
loop-place-preserved c = record {
  text = c.after_value-rest.utf8;
  pieces = pieces_more c.args.text.now c.loop-place.rest.now c.loop-place.pieces.items
      c.loop-place.invariant.pieces c.in-Some.place c.before-in-Some.result.now
      c.after-inside.result.now c.after_value-rest.result.now c.put_chars.new.pieces.items
      c.put_value.new.pieces.items (sym c.in-Some.ensures.place)
      c.before-in-Some.ensures c.after-inside.ensures
      c.in_ok-put_chars.ensures c.in_ok-put_value.ensures c.after_value-rest.ensures;
}

pub returns : goal.returns
returns c =
    pieces_all c.args.text.now c.loop-place.rest.now c.loop-place.pieces.items
    c.loop-place.invariant.pieces c.put_chars-2.new.pieces.items
    (sym c.in_default.ensures.place) c.in_ok-put_chars-2.ensures

pub loop-place-smaller : goal.loop-place-smaller
loop-place-smaller c = grind (arith, common_steps)
