use Rattle.std.proofs.Common.{arith, rules}
use Rattle.std.proofs.lemmas.Grind.{common_steps}
use Rattle.ux_sentence.specs.Files.{AreSentences}
use Rattle.ux_sentence.proofs.Laws.{not_refused}
use Rattle.ux_sentence.proofs.DueLemmas.{read_begin, well_begin, read_told, well_told, fewer_left}
use Rattle.ux_sentence.proofs.reader.read.Goals as goal

pub loop-sentences-init : goal.loop-sentences-init
loop-sentences-init c = record {
  read = read_begin c.args.text.now c.in_ok-file.file c.new-sentences.result.items
      c.in_ok-file.ensures.ok c.new-sentences.ensures.items;
  well_formed = well_begin c.new-sentences.result.items c.new-sentences.ensures.items;
}

pub loop-sentences-preserved : goal.loop-sentences-preserved
loop-sentences-preserved c =
    let told = rw c.in-Some.is at c.in_ok-sentence.ensures.ok in
    record {
      read = read_told c.args.text.now c.loop-sentences.file c.next.new.self
          c.loop-sentences.sentences.items c.push.new.self.items c.in-Some.sentence
          c.loop-sentences.invariant.read told c.in_ok-push.ensures.items;
      well_formed = well_told c.loop-sentences.file c.next.new.self
          c.loop-sentences.sentences.items c.push.new.self.items c.in-Some.sentence
          c.loop-sentences.invariant.well_formed told c.in_ok-push.ensures.items;
    }

pub loop-sentences-smaller : goal.loop-sentences-smaller
loop-sentences-smaller c =
    let told = rw c.in-Some.is at c.in_ok-sentence.ensures.ok in
    let fewer = fewer_left c.loop-sentences.file c.next.new.self c.in-Some.sentence told in
    omega (arith, fewer.0, fewer.1, fewer.2)

pub returns-clause-exact : goal.returns-clause-exact
returns-clause-exact c = λ error refuses.
    let all : AreSentences c.args.text.now c.loop-sentences.sentences.items =
    first_of (search rules, grind (arith, common_steps)) in
    not_refused c.args.text.now c.loop-sentences.sentences.items error all refuses
