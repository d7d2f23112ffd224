use Rattle.std.proofs.Common.{List, arith, subst}
use Rattle.std.specs.Prelude.{All, IsUtf8}
use Rattle.std.proofs.lemmas.List.{take_all}
use Rattle.std.proofs.lemmas.List.Elements.{All-more}
use Rattle.ux_dela.specs.declared.entry.Entry.{Entry}
use Rattle.ux_image.specs.Contents.{HasTexts}
use Rattle.ux_image.proofs.content.are_texts.Goals as goal

pub loop-entry-preserved : goal.loop-entry-preserved
loop-entry-preserved c =
    let entries = c.args.entries.now in
    let texts : HasTexts c.entry-item.result = record {
      form = subst IsUtf8 c.form-form.ensures c.form-form.utf8;
      lemma = subst IsUtf8 c.lemma-lemma.ensures c.lemma-lemma.utf8;
    } in
    All-more HasTexts entries c.loop-entry.entry-index c.entry-item.result (omega arith)
    c.loop-entry.invariant (subst HasTexts c.entry-item.is texts)

pub returns : goal.returns
returns c =
    subst (λ (l : List Entry). All HasTexts l)
    (take_all c.loop-entry.entry-index c.args.entries.now (omega arith)) c.loop-entry.invariant
