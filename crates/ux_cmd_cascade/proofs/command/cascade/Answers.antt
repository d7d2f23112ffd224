use Rattle.std.proofs.lemmas.Result.{IfErr-weaker, IfOk-weaker, err_from_is_err_and}
use Rattle.ux_dictionaries.specs.Dictionaries.{contents_of}
use Rattle.ux_plan.proofs.PlanSteps.{halts_first}
use Rattle.ux_cmd_cascade.specs.Reading.{files_plan}
use Rattle.ux_cmd_cascade.specs.Testing.{test_plan}
use Rattle.ux_cmd_cascade.proofs.AnsweringLemmas.{answered, stopped}
use Rattle.ux_cmd_cascade.proofs.ReadingLemmas.{as_many}
use Rattle.ux_cmd_cascade.proofs.command.cascade.Goals as goal

-- a file stops the cascade
pub returns-in_err-files-clause-err : goal.returns-in_err-files-clause-err
returns-in_err-files-clause-err g c =
    let p = err_from_is_err_and c.from_residual.result c.from_residual.ensures.1 in
    let seen = g.F.Folder.seen in
    let a = c.args in
    rw (p.1, p.2) (halts_first (files_plan a.text.now a.alphabet.now a.steps.now a.dics.now)
    (test_plan a.text.now a.steps.now) (seen a.folder.now) (seen c.read_files.new.folder)
    c.in_err-files.field-0.0 c.in_err-files.ensures.err)

pub answer_of-requires : goal.answer_of-requires
answer_of-requires g c =
    let files = c.in_ok-files.ensures.ok in
    record {
      nets = as_many c.in_ok-files.files.alphabet c.args.steps.now files.sources
          c.in_ok-files.files.nets.items files.are;
      cut = files.cut;
    }

-- the files were read, and what was made of them answers
pub returns-clause-ok : goal.returns-clause-ok
returns-clause-ok g c =
    let a = c.args in
    let files = c.in_ok-files.files in
    IfOk-weaker c.answer_of.result _ _
    (λ answer made. answered a.text.now a.alphabet.now a.steps.now a.dics.now
    (g.F.Folder.seen a.folder.now).files files.alphabet files.nets.items files.text
    (contents_of files.dics.items) c.in_ok-files.ensures.ok a.trace answer.items made)
    c.answer_of.ensures.ok

-- or it stops the cascade
pub returns-clause-err : goal.returns-clause-err
returns-clause-err g c =
    let a = c.args in
    let seen = g.F.Folder.seen in
    let files = c.in_ok-files.files in
    IfErr-weaker c.answer_of.result _ _
    (λ by stops. stopped a.text.now a.alphabet.now a.steps.now a.dics.now files.alphabet
    files.nets.items files.text (contents_of files.dics.items) (seen a.folder.now)
    (seen c.read_files.new.folder) by c.in_ok-files.ensures.ok c.in_ok-files.ensures.later stops)
    c.answer_of.ensures.err
