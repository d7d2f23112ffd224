use Rattle.std.proofs.Common.{refl}
use Rattle.ux_dela.specs.Signs.{COMMA}
use Rattle.ux_dela.specs.Reading.{characters}
use Rattle.ux_dela.proofs.CutLemmas.{no_dot, empty_no_dot, open_lemma, last_place, characters_some, is_none, is_some_text}
use Rattle.ux_dela.proofs.delaf.cut_behind_form.Goals as goal

pub returns-in-Last-clause-err : goal.returns-in-Last-clause-err
returns-in-Last-clause-err c =
    let last = c.in-Last.ensures in
    let none =
    is_none c.is_empty.result c.args.form.now c.is_empty.ensures c.if-is_empty.true in (
      refl,
      empty_no_dot c.args.line.now c.args.form.now c.args.behind.now _ c.requires.whole
          c.requires.form last.0 last.1 none,
      refl,
    )

pub returns-in-Last-2-clause-err : goal.returns-in-Last-2-clause-err
returns-in-Last-2-clause-err c =
    let last = c.in-Last-2.ensures in
    let some =
    is_some_text c.is_empty.result c.args.form.now c.is_empty.ensures c.if-is_empty.false in (
      refl,
      (
        characters c.args.form.now,
        characters_some c.args.form.now some,
        no_dot c.args.line.now c.args.form.now c.args.behind.now _ c.requires.whole c.requires.form
            last.0 last.1,
      ),
      refl,
    )

pub returns-in-Open-clause-err : goal.returns-in-Open-clause-err
returns-in-Open-clause-err c =
    let ends = c.in-Open.ensures in
    let line = c.args.line.now in
    let form = c.args.form.now in (
      refl,
      open_lemma line form c.args.behind.now ends.0 c.requires.whole c.requires.form ends.1
          ends.2,
      last_place line form c.args.behind.now COMMA c.requires.whole,
    )
