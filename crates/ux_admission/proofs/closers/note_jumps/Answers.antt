use Rattle.std.proofs.Common.{arith, refl, ◌∙◌, get_or}
use Rattle.ux_admission.proofs.FindingLemmas.{jumps_put, jumps_done}
use Rattle.ux_admission.proofs.closers.note_jumps.Goals as goal

pub loop-source-preserved : goal.loop-source-preserved
loop-source-preserved c =
    let len = c.loop-source.invariant.len in
    record {
      len = c.in_ok-put.ensures.len ∙ len;
      jumps = jumps_put c.args.jumps.now.items c.loop-source.jumps.items c.put.new.rows.items
          c.args.to (get_or c.args.sources.now c.loop-source.source-index 0) c.args.sources.now
          c.loop-source.source-index (omega (arith, len)) c.in_ok-put.ensures.put
          c.loop-source.invariant.jumps refl;
    }

pub returns-clause-jumps : goal.returns-clause-jumps
returns-clause-jumps c =
    jumps_done c.args.jumps.now.items c.loop-source.jumps.items c.args.to c.args.sources.now
    c.loop-source.source-index (omega arith) (omega arith) c.loop-source.invariant.jumps
