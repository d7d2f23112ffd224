use Rattle.std.proofs.Common.{[], ◌∷◌, ◌++◌}
use Rattle.std.proofs.lemmas.Slice.Zip.{all_zipped_more}
use Rattle.ux_sentence.proofs.Laws.{not_refused}
use Rattle.ux_sentence.proofs.PlaceLemmas.{read_more, read_start, read_whole}
use Rattle.ux_reading_table.specs.Numbered.{IsNumberedBy}
use Rattle.ux_reading_table.proofs.PlacesLemmas.{adds_sentence, numbered_still}
use Rattle.ux_reading_table.proofs.TableLemmas.{none_noted, noted_whole}
use Rattle.ux_reading_table.proofs.numbered_text.noted_of.Goals as goal

pub loop-sentences-init : goal.loop-sentences-init
loop-sentences-init c = record {
  so_far = [];
  read = read_start c.args.text.now c.in_ok-file.file c.in_ok-file.ensures.ok;
  noted = c.nothing_noted-noted.ensures.noted;
  same = none_noted c.nothing_noted-noted.result.printed.keys c.nothing_noted-noted.ensures.none;
  told = rw c.new-sentences.ensures.items tt;
}

-- one more sentence is read
pub loop-sentences-preserved : goal.loop-sentences-preserved
loop-sentences-preserved c =
    let so_far = c.loop-sentences.invariant in
    let (sentence, behind, tells, is, adds, told) = rw c.in-Some.is at c.in_ok-sentence.ensures.ok in
    record {
      so_far = so_far.so_far ++ sentence ∷ [];
      read = read_more c.args.text.now c.loop-sentences.file c.note_next.new.self so_far.so_far sentence
          behind so_far.read tells is;
      noted = c.in_ok-sentence.ensures.noted;
      same = adds_sentence c.loop-sentences.noted.printed.keys c.note_next.new.noted.printed.keys
          so_far.so_far sentence so_far.same adds;
      told = rw c.in_ok-push.ensures.items
          (all_zipped_more (IsNumberedBy c.note_next.new.noted.printed.keys)
          so_far.so_far c.loop-sentences.sentences.items sentence c.in-Some.sentence
          (numbered_still c.loop-sentences.noted.printed.keys c.note_next.new.noted.printed.keys
          so_far.so_far c.loop-sentences.sentences.items c.in_ok-sentence.ensures.kept so_far.told)
          told);
    }

pub returns-clause-ok : goal.returns-clause-ok
returns-clause-ok c =
    let so_far = c.loop-sentences.invariant in
    let (over, same) = rw c.in_default.is at c.in_ok-sentence.ensures.ok in
    noted_whole c.args.text.now c.loop-sentences.file so_far.so_far c.loop-sentences.noted.printed.keys
    c.note_next.new.noted.printed.keys c.loop-sentences.sentences.items so_far.read over so_far.same
    so_far.told same

pub returns-clause-exact : goal.returns-clause-exact
returns-clause-exact c = λ error refuses.
    let so_far = c.loop-sentences.invariant in
    let (over, same) = rw c.in_default.is at c.in_ok-sentence.ensures.ok in
    not_refused c.args.text.now so_far.so_far error
    (read_whole c.args.text.now c.loop-sentences.file so_far.so_far so_far.read over) refuses
