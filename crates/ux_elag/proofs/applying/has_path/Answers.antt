use Rattle.std.proofs.lemmas.Result.{IfOk-weaker}
use Rattle.ux_elag.proofs.LeaveLemmas.{has_path-reads}
use Rattle.ux_elag.proofs.applying.has_path.Goals as goal

pub returns : goal.returns
returns c =
    let reads = has_path-reads c.args.sentence.now c.requires in
    IfOk-weaker c.has_path.result _ _
    (λ has tells. (λ yes. reads.0 (tells.0 yes), λ read. tells.1 (reads.1 read))) c.has_path.ensures
