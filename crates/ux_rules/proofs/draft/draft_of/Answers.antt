use Rattle.std.proofs.Common.{◌+◌, List, ap, length}
use Rattle.ux_grf.specs.declared.graph.GrfBox.{GrfBox}
use Rattle.ux_rules.specs.declared.draft.Draft.{Draft}
use Rattle.ux_rules.proofs.BoxLemmas.{no_steps, none_done}
use Rattle.ux_rules.proofs.draft.draft_of.Goals as goal

pub loop-node-init : goal.loop-node-init
loop-node-init c =
    let boxes = c.as_slice-count.result.now in
    let draft : Draft = record { places = length boxes + length boxes; steps = c.new.result } in
    record {
      draft = no_steps c.args.graph.now draft
          (ap (λ (bs : List GrfBox). length bs + length bs) c.as_slice-count.ensures)
          c.new.ensures.items;
      done = none_done c.args.graph.now draft;
    }
