use Rattle.std.proofs.Common.{◌≡◌, ◌∙◌, []}
use Rattle.std.proofs.lemmas.List.{get_or_default}
use Rattle.std.proofs.lemmas.Result.{on_ok_weaker}
use Rattle.ux_digraph.specs.Paths.{row_of}
use Rattle.ux_admission.proofs.FindingLemmas.{finds_over}
use Rattle.ux_admission.proofs.closers.jump.Goals as goal

pub returns-clause-finds : goal.returns-clause-finds
returns-clause-finds c =
    let rows = c.args.rows.now.items in
    let row : c.deref.result.now ≡ row_of rows c.args.to =
    c.deref.ensures.value ∙ (c.in_ok-closers.ensures.items ∙ (c.as_slice.ensures
    ∙ (c.index.ensures ∙ get_or_default rows c.args.to c.index.result.now [] c.requires.to))) in
    on_ok_weaker c.add_all.result
    (λ finds. finds_over c.args.found.now.keys c.add_all.new.found.keys rows c.args.sources.now
    c.deref.result.now c.args.to c.requires.rows row finds) c.add_all.ensures.finds
