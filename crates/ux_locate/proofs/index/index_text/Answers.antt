use Rattle.std.proofs.Common.{◌++◌, ◌∙◌, ap, arith, sym, take}
use Rattle.std.proofs.lemmas.Grind.{common_steps}
use Rattle.ux_outputs.specs.declared.hit.Hit.{Hit}
use Rattle.ux_locate.specs.Index.{index_line, index_of}
use Rattle.ux_locate.proofs.IndexLemmas.{hits_more}
use Rattle.ux_locate.proofs.index.index_text.Goals as goal

pub loop-hit-preserved : goal.loop-hit-preserved
loop-hit-preserved c =
    let hit = c.hit-item.result in
    let more = hits_more c.args.mode c.args.hits.now c.loop-hit.hit-index hit c.loop-hit-test.true in
    rw (c.in_ok-push_line.ensures, c.loop-hit.invariant, c.as_str.ensures)
    (sym (more ∙ ap (λ (h : Hit). index_of c.args.mode (take c.loop-hit.hit-index c.args.hits.now)
    ++ index_line h) (sym c.hit-item.is)))

pub returns : goal.returns
returns c = grind (arith, common_steps)
