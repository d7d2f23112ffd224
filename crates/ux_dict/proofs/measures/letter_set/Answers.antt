use Rattle.std.proofs.Common.{List, arith, subst}
use Rattle.std.specs.Prelude.{All}
use Rattle.std.proofs.lemmas.List.{take_all}
use Rattle.ux_dela.specs.declared.entry.Entry.{Entry}
use Rattle.ux_dict.specs.Kept.{IsSpelled}
use Rattle.ux_dict.proofs.LetterLemmas.{spelled_more}
use Rattle.ux_dict.proofs.measures.letter_set.Goals as goal

pub loop-entry-preserved : goal.loop-entry-preserved
loop-entry-preserved c = record {
  spelled = spelled_more c.args.entries.now c.loop-entry.entry-index c.entry-item.result
      c.loop-entry.set.keys c.put_letters.new.set.keys c.form.result.now (omega arith)
      c.entry-item.is c.form.ensures c.form.utf8 c.in_ok-put_letters.ensures.kept
      c.in_ok-put_letters.ensures.put c.loop-entry.invariant.spelled;
  marks = c.in_ok-put_letters.ensures.marks;
}

pub returns : goal.returns
returns c =
    subst (λ (l : List Entry). All (IsSpelled c.loop-entry.set.keys) l)
    (take_all c.loop-entry.entry-index c.args.entries.now (omega arith)) c.loop-entry.invariant.spelled
