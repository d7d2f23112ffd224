use Rattle.std.proofs.Common.{arith, rules, [], ◌∷◌, ◌++◌, refl}
use Rattle.std.proofs.lemmas.Grind.{common_steps}
use Rattle.ux_sentence.specs.Files.{AreSentences}
use Rattle.ux_sentence.proofs.Laws.{not_refused}
use Rattle.ux_sentence.proofs.PlaceLemmas.{read_start}
use Rattle.ux_sentence.proofs.DueLemmas.{read_told, fewer_left}
use Rattle.ux_sentence.proofs.reader.check.Goals as goal

pub loop-sentence-init : goal.loop-sentence-init
loop-sentence-init c = record {
  so_far = [];
  read = read_start c.args.text.now c.in_ok-file.file c.in_ok-file.ensures.ok;
}

pub loop-sentence-preserved : goal.loop-sentence-preserved
loop-sentence-preserved c =
    let told = rw c.in-Some.is at c.in_ok-_sentence.ensures.ok in
    let before = c.loop-sentence.invariant.so_far in
    record {
      so_far = before ++ c.in-Some._sentence ∷ [];
      read = read_told c.args.text.now c.loop-sentence.file c.next.new.self before
          (before ++ c.in-Some._sentence ∷ []) c.in-Some._sentence
          c.loop-sentence.invariant.read told refl;
    }

pub loop-sentence-smaller : goal.loop-sentence-smaller
loop-sentence-smaller c =
    let told = rw c.in-Some.is at c.in_ok-_sentence.ensures.ok in
    let fewer = fewer_left c.loop-sentence.file c.next.new.self c.in-Some._sentence told in
    omega (arith, fewer.0, fewer.1, fewer.2)

pub returns-clause-exact : goal.returns-clause-exact
returns-clause-exact c = λ error refuses.
    let all : AreSentences c.args.text.now c.loop-sentence.invariant.so_far =
    first_of (search rules, grind (arith, common_steps)) in
    not_refused c.args.text.now c.loop-sentence.invariant.so_far error all refuses
