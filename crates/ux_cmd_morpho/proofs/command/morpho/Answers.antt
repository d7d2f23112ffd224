use Rattle.std.proofs.Common.{ℕ, Vec, Global, ap, subst, sym}
use Rattle.std.proofs.lemmas.Result.{err_from_is_err_and}
use Rattle.ux_dictionaries.specs.Dictionaries.{contents_of}
use Rattle.ux_morpho.specs.Analyses.{IsEntryLine}
use Rattle.ux_net.specs.Nets.{net_grammar}
use Rattle.ux_plan.proofs.PlanSteps.{halts_first}
use Rattle.ux_cmd_morpho.specs.Answering.{IsFileOfWords}
use Rattle.ux_cmd_morpho.specs.Reading.{files_plan}
use Rattle.ux_cmd_morpho.specs.Testing.{test_plan}
use Rattle.ux_cmd_morpho.proofs.AnsweringLemmas.{answered, stopped}
use Rattle.ux_cmd_morpho.proofs.command.morpho.Goals as goal

-- a file stops the command
pub returns-in_err-files-clause-err : goal.returns-in_err-files-clause-err
returns-in_err-files-clause-err g c =
    let p = err_from_is_err_and c.from_residual.result c.from_residual.ensures.1 in
    let seen = g.F.Folder.seen in
    let a = c.args in
    rw (p.1, p.2) (halts_first (files_plan a.graph.now a.text.now a.alphabet.now a.dics.now)
    (test_plan a.graph.now) (seen a.folder.now) (seen c.read_files.new.folder)
    c.in_err-files.field-0.0 c.in_err-files.ensures.err)

pub word_lines-requires : goal.word_lines-requires
word_lines-requires g c = record { short = c.in_ok-files.ensures.ok.short }

-- the files were read, and a word is refused
pub returns-in_err-lines-clause-err : goal.returns-in_err-lines-clause-err
returns-in_err-lines-clause-err g c =
    let r = c.from_residual-in_err-lines in
    let p = err_from_is_err_and r.result r.ensures.1 in
    let a = c.args in
    let seen = g.F.Folder.seen in
    let files = c.in_ok-files.files in
    rw (p.1, p.2) (stopped a.graph.now a.text.now a.alphabet.now a.dics.now files.alphabet files.net
    files.text (contents_of files.dics.items) (seen a.folder.now) (seen c.read_files.new.folder)
    c.in_err-lines.field-0.0 c.in_ok-files.ensures.ok c.in_ok-files.ensures.later
    c.in_err-lines.ensures.err)

-- the files were read, and the lines answer
pub returns-clause-ok : goal.returns-clause-ok
returns-clause-ok g c =
    let a = c.args in
    let files = c.in_ok-files.files in
    let lines = c.in_ok-lines.ensures in
    let single = files.alphabet in
    let dics = contents_of files.dics.items in
    answered a.graph.now a.text.now a.alphabet.now a.dics.now (g.F.Folder.seen a.folder.now).files
    single files.net files.text dics c.in_ok-files.ensures.ok c.into_bytes.result.items
    (subst (IsFileOfWords files.text (IsEntryLine single dics (net_grammar files.net)))
    (sym (ap (λ (v : Vec ℕ Global). v.items) c.into_bytes.ensures.value)) lines.ok) lines.accepted
