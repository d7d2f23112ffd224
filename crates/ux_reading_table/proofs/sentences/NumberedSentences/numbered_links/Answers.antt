use Rattle.std.proofs.Common.{◌∷◌, [], ◌++◌}
use Rattle.std.proofs.lemmas.Result.{err_from_is_err_and}
use Rattle.std.proofs.lemmas.Slice.Zip.{all_zipped_more}
use Rattle.ux_reading_table.specs.Noting.{IsToldIfKnown}
use Rattle.ux_reading_table.proofs.PlacesLemmas.{links_refused, ReadsLinks-more}
use Rattle.ux_reading_table.proofs.sentences.NumberedSentences.numbered_links.Goals as goal

pub loop-done-preserved : goal.loop-done-preserved
loop-done-preserved c =
    let so_far = c.loop-done.invariant in
    let (line, link, past, says, told) = c.in_ok-numbered_link.ensures.ok in
    record {
      links = so_far.links ++ link ∷ [];
      reads = ReadsLinks-more c.args.states c.loop-done.done c.args.self.now c.loop-done.self
          c.numbered_link.new.self so_far.links line link so_far.reads past says;
      told = rw c.in_ok-push.ensures.items
          (all_zipped_more (IsToldIfKnown c.args.table.now) c.loop-done.numbered.items so_far.links
          c.in_ok-numbered_link.field-0 link so_far.told told);
    }

pub returns-in_err-numbered_link-clause-err : goal.returns-in_err-numbered_link-clause-err
returns-in_err-numbered_link-clause-err c =
    let p = err_from_is_err_and c.from_residual.result c.from_residual.ensures.1 in
    let so_far = c.loop-done.invariant in
    rw (p.1, p.2) (links_refused c.args.states c.loop-done.done c.args.count c.args.self.now
    c.loop-done.self so_far.links _ so_far.reads c.loop-done-test.true
    c.in_err-numbered_link.ensures.err)
