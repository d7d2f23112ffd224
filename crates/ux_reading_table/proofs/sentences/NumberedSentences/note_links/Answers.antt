use Rattle.std.proofs.Common.{arith, ◌∷◌, [], ◌++◌, refl}
use Rattle.std.proofs.lemmas.Result.{err_from_is_err_and}
use Rattle.std.proofs.lemmas.Slice.Zip.{all_zipped_more}
use Rattle.ux_reading_table.specs.Numbered.{IsTold}
use Rattle.ux_reading_table.proofs.PlacesLemmas.{adds_link, links_refused, AddsTexts-none, KeepsPlaces-then, ReadsLinks-more, told_still}
use Rattle.ux_reading_table.proofs.sentences.NumberedSentences.note_links.Goals as goal

pub loop-done-init : goal.loop-done-init
loop-done-init c = record {
  links = [];
  noted = c.requires;
  kept = λ place text at. at;
  reads = record { many = refl; say = refl; passed = omega arith; told = refl; counted = refl };
  adds = AddsTexts-none c.args.noted.now.printed.keys;
  told = rw c.new-numbered.ensures.items tt;
}

pub loop-done-preserved : goal.loop-done-preserved
loop-done-preserved c =
    let so_far = c.loop-done.invariant in
    let (line, link, past, says, adds, told) = c.in_ok-note_link.ensures.ok in
    record {
      links = so_far.links ++ link ∷ [];
      noted = c.in_ok-note_link.ensures.noted;
      kept = KeepsPlaces-then c.args.noted.now.printed.keys c.loop-done.noted.printed.keys
          c.note_link.new.noted.printed.keys so_far.kept c.in_ok-note_link.ensures.kept;
      reads = ReadsLinks-more c.args.states c.loop-done.done c.args.self.now c.loop-done.self
          c.note_link.new.self so_far.links line link so_far.reads past says;
      adds = adds_link c.args.noted.now.printed.keys c.loop-done.noted.printed.keys
          c.note_link.new.noted.printed.keys so_far.links link so_far.adds adds;
      told = rw c.in_ok-push.ensures.items
          (all_zipped_more (IsTold c.note_link.new.noted.printed.keys) c.loop-done.numbered.items
          so_far.links c.in_ok-note_link.field-0 link
          (told_still c.loop-done.noted.printed.keys c.note_link.new.noted.printed.keys
          c.loop-done.numbered.items so_far.links c.in_ok-note_link.ensures.kept so_far.told) told);
    }

pub returns-in_err-note_link-clause-err : goal.returns-in_err-note_link-clause-err
returns-in_err-note_link-clause-err c =
    let p = err_from_is_err_and c.from_residual.result c.from_residual.ensures.1 in
    let so_far = c.loop-done.invariant in
    rw (p.1, p.2) (links_refused c.args.states c.loop-done.done c.args.count c.args.self.now
    c.loop-done.self so_far.links _ so_far.reads c.loop-done-test.true
    c.in_err-note_link.ensures.err)
