use Rattle.std.proofs.Common.{◌≡◌}
use Rattle.ux_command_line.specs.declared.help.TheConstants.{HELP, VERSION}
use Rattle.ux_cmd_bench.specs.Bench.{IsSummaryOf}
use Rattle.ux_cmd_cascade.specs.Cascade.{cascade}
use Rattle.ux_cmd_dico.specs.Dico.{dico}
use Rattle.ux_cmd_morpho.specs.Morpho.{morpho}
use Rattle.ux_cmd_txt2tfst.specs.Tfst.{txt2tfst}
use Rattle.ux_run.proofs.Ending.{told_answers, told_denies, unread_answers, unread_denies}
use Rattle.ux_run.proofs.commands.answer_to.Goals as goal

-- the names of the dictionaries are those of the request
pub returns-in-Dico-clause-ok : goal.returns-in-Dico-clause-ok
returns-in-Dico-clause-ok g c =
    let r = c.in-Dico in
    let called = c.by_command-in-Dico in
    let files = (g.F.Folder.seen c.args.folder.now).files in
    let answers = rw (c.as_str-text.ensures, c.as_str-alphabet.ensures, c.as_slice.ensures) at
    c.dico.ensures.ok in
    rw r.is (told_answers (dico r.text r.alphabet r.dics r.chars) c.dico.result called.result
    called.ensures files answers)

pub returns-in-Dico-clause-err : goal.returns-in-Dico-clause-err
returns-in-Dico-clause-err g c =
    let r = c.in-Dico in
    let called = c.by_command-in-Dico in
    let seen = g.F.Folder.seen in
    let halts = rw (c.as_str-text.ensures, c.as_str-alphabet.ensures, c.as_slice.ensures) at
    c.dico.ensures.err in
    rw r.is (told_denies (dico r.text r.alphabet r.dics r.chars) c.dico.result called.result
    called.ensures (seen c.args.folder.now) (seen c.dico.new.folder) halts)

pub returns-in-Tfst-clause-ok : goal.returns-in-Tfst-clause-ok
returns-in-Tfst-clause-ok g c =
    let r = c.in-Tfst in
    let called = c.by_command-in-Tfst in
    let files = (g.F.Folder.seen c.args.folder.now).files in
    let answers = rw (c.as_str-text-in-Tfst.ensures, c.as_str-alphabet-in-Tfst.ensures, c.as_slice-in-Tfst.ensures) at
    c.txt2tfst.ensures.ok in
    rw r.is (told_answers (txt2tfst r.text r.alphabet r.dics r.chars) c.txt2tfst.result called.result
    called.ensures files answers)

pub returns-in-Tfst-clause-err : goal.returns-in-Tfst-clause-err
returns-in-Tfst-clause-err g c =
    let r = c.in-Tfst in
    let called = c.by_command-in-Tfst in
    let seen = g.F.Folder.seen in
    let halts = rw (c.as_str-text-in-Tfst.ensures, c.as_str-alphabet-in-Tfst.ensures, c.as_slice-in-Tfst.ensures) at
    c.txt2tfst.ensures.err in
    rw r.is (told_denies (txt2tfst r.text r.alphabet r.dics r.chars) c.txt2tfst.result called.result
    called.ensures (seen c.args.folder.now) (seen c.txt2tfst.new.folder) halts)

-- the steps of the cascade too
pub returns-in-Cascade-clause-ok : goal.returns-in-Cascade-clause-ok
returns-in-Cascade-clause-ok g c =
    let r = c.in-Cascade in
    let called = c.by_command-in-Cascade in
    let files = (g.F.Folder.seen c.args.folder.now).files in
    let answers = rw (c.as_str-text-in-Cascade.ensures, c.as_str-alphabet-in-Cascade.ensures, c.as_slice-steps.ensures, c.as_slice-dics-in-Cascade.ensures) at
    c.cascade.ensures.ok in
    rw r.is (told_answers (cascade r.text r.alphabet r.steps r.dics r.trace) c.cascade.result
    called.result called.ensures files answers)

pub returns-in-Cascade-clause-err : goal.returns-in-Cascade-clause-err
returns-in-Cascade-clause-err g c =
    let r = c.in-Cascade in
    let called = c.by_command-in-Cascade in
    let seen = g.F.Folder.seen in
    let halts = rw (c.as_str-text-in-Cascade.ensures, c.as_str-alphabet-in-Cascade.ensures, c.as_slice-steps.ensures, c.as_slice-dics-in-Cascade.ensures) at
    c.cascade.ensures.err in
    rw r.is (told_denies (cascade r.text r.alphabet r.steps r.dics r.trace) c.cascade.result
    called.result called.ensures (seen c.args.folder.now) (seen c.cascade.new.folder) halts)

-- and those of a grammar that is matched inside words
pub returns-in-Morpho-clause-ok : goal.returns-in-Morpho-clause-ok
returns-in-Morpho-clause-ok g c =
    let r = c.in-Morpho in
    let called = c.by_command-in-Morpho in
    let files = (g.F.Folder.seen c.args.folder.now).files in
    let answers = rw (c.as_str-graph.ensures, c.as_str-text-in-Morpho.ensures, c.as_str-alphabet-in-Morpho.ensures, c.as_slice-dics.ensures) at
    c.morpho.ensures.ok in
    rw r.is (told_answers (morpho r.graph r.text r.alphabet r.dics) c.morpho.result called.result
    called.ensures files answers)

pub returns-in-Morpho-clause-err : goal.returns-in-Morpho-clause-err
returns-in-Morpho-clause-err g c =
    let r = c.in-Morpho in
    let called = c.by_command-in-Morpho in
    let seen = g.F.Folder.seen in
    let halts = rw (c.as_str-graph.ensures, c.as_str-text-in-Morpho.ensures, c.as_str-alphabet-in-Morpho.ensures, c.as_slice-dics.ensures) at
    c.morpho.ensures.err in
    rw r.is (told_denies (morpho r.graph r.text r.alphabet r.dics) c.morpho.result called.result
    called.ensures (seen c.args.folder.now) (seen c.morpho.new.folder) halts)

pub returns-in-Help-clause-ok : goal.returns-in-Help-clause-ok
returns-in-Help-clause-ok g c =
    let files = (g.F.Folder.seen c.args.folder.now).files in
    rw c.in-Help.is
    (unread_answers (λ a. a ≡ HELP.now) c.text_of.result files c.text_of.ensures.ok)

pub returns-in-Help-clause-err : goal.returns-in-Help-clause-err
returns-in-Help-clause-err g c =
    let seen = g.F.Folder.seen c.args.folder.now in
    rw c.in-Help.is
    (unread_denies (λ a. a ≡ HELP.now) c.text_of.result seen seen c.text_of.ensures.err)

pub returns-in-Version-clause-ok : goal.returns-in-Version-clause-ok
returns-in-Version-clause-ok g c =
    let files = (g.F.Folder.seen c.args.folder.now).files in
    let text = c.text_of-in-Version in
    rw c.in-Version.is (unread_answers (λ a. a ≡ VERSION.now) text.result files text.ensures.ok)

pub returns-in-Version-clause-err : goal.returns-in-Version-clause-err
returns-in-Version-clause-err g c =
    let seen = g.F.Folder.seen c.args.folder.now in
    let text = c.text_of-in-Version in
    rw c.in-Version.is (unread_denies (λ a. a ≡ VERSION.now) text.result seen seen text.ensures.err)

pub returns-in-Bench-clause-ok : goal.returns-in-Bench-clause-ok
returns-in-Bench-clause-ok g c =
    let files = (g.F.Folder.seen c.args.folder.now).files in
    rw c.in-Bench.is
    (unread_answers (IsSummaryOf c.in-Bench.n) c.summary_of.result files c.summary_of.ensures.ok)

pub returns-in-Bench-clause-err : goal.returns-in-Bench-clause-err
returns-in-Bench-clause-err g c =
    let seen = g.F.Folder.seen c.args.folder.now in
    rw c.in-Bench.is
    (unread_denies (IsSummaryOf c.in-Bench.n) c.summary_of.result seen seen c.summary_of.ensures.err)
