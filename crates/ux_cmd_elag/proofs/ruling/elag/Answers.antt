use Rattle.std.proofs.Common.{string_bytes}
use Rattle.std.proofs.lemmas.Result.{err_from_is_err_and}
use Rattle.ux_plan.proofs.PlanSteps.{halts_at, halts_memory}
use Rattle.ux_cmd_elag.specs.Reading.{sentences_format}
use Rattle.ux_cmd_elag.proofs.ElagSteps.{answers_read, rest, rules_come, rules_halt, table_reads}
use Rattle.ux_cmd_elag.proofs.RulingLemmas.{text_stands}
use Rattle.ux_cmd_elag.proofs.StopLemmas.{text_stops}
use Rattle.ux_cmd_elag.proofs.ruling.elag.Goals as goal

-- the text says no sentences
pub returns-in_err-read-clause-err : goal.returns-in_err-read-clause-err
returns-in_err-read-clause-err g c =
    let r = c.from_residual-in_err-read in
    let p = err_from_is_err_and r.result r.ensures.1 in
    let old = g.F.Folder.seen c.args.folder.now in
    let new = g.F.Folder.seen c.read_decoded.new.folder in
    let name = c.args.tfst.now in
    rw (p.1, p.2) (halts_at sentences_format name (rest name c.args.rules.now) old new
    c.in_err-read.field-0.0
    (text_stops name old new (string_bytes c.in_ok-text.text) c.in_err-read.field-0.0
    c.in_ok-text.ensures.ok (rw c.as_str.ensures.value at c.in_err-read.ensures.err)))

-- the sentences stand for those of the text
pub ruled-requires : goal.ruled-requires
ruled-requires g c =
    let read = c.in_ok-read.ensures.ok in (
      read.table.sentences,
      text_stands c.as_str.result.now c.in_ok-read.read.table c.in_ok-read.read.sentences.items
          read,
    )

-- the automata were read, and a rule stops the reading
pub returns-in_err-rules-clause-err : goal.returns-in_err-rules-clause-err
returns-in_err-rules-clause-err g c =
    let r = c.from_residual-in_err-rules in
    let p = err_from_is_err_and r.result r.ensures.1 in
    let old = g.F.Folder.seen c.args.folder.now in
    let mid = g.F.Folder.seen c.read_decoded.new.folder in
    let name = c.args.tfst.now in
    let read = rw c.as_str.ensures.value at c.in_ok-read.ensures.ok in
    let table = read.table in
    let has = table_reads name old.files (string_bytes c.in_ok-text.text) c.in_ok-read.read.table
    c.in_ok-text.ensures.ok table in
    rw (p.1, p.2) (rules_halt name c.args.rules.now old mid c.in_ok-text.ensures.later
    table.sentences
    has (g.F.Folder.seen c.read_rules.new.folder) c.in_err-rules.field-0.0
    c.in_err-rules.ensures.err)

-- all was read, and memory ran out for the answer
pub returns-in_err-answer-clause-err : goal.returns-in_err-answer-clause-err
returns-in_err-answer-clause-err g c =
    let r = c.from_residual-in_err-answer in
    let p = err_from_is_err_and r.result r.ensures.1 in
    rw (p.1, p.2) (halts_memory _ _ _)

-- all was read, and the answer is what the rules leave
pub returns-clause-ok : goal.returns-clause-ok
returns-clause-ok g c =
    let old = g.F.Folder.seen c.args.folder.now in
    let mid = g.F.Folder.seen c.read_decoded.new.folder in
    let name = c.args.tfst.now in
    let text = string_bytes c.in_ok-text.text in
    let read = rw c.as_str.ensures.value at c.in_ok-read.ensures.ok in
    let table = read.table in
    let rules = c.in_ok-rules.ensures.ok in
    record {
      read = record { sentences = table.sentences; rules = rules.graphs };
      comes = rules_come name c.args.rules.now old mid c.in_ok-text.ensures.later table.sentences
          (table_reads name old.files text c.in_ok-read.read.table c.in_ok-text.ensures.ok table)
          rules.graphs rules.comes;
      answers = rw c.into_bytes.ensures.value (answers_read table.sentences
          (string_bytes c.in_ok-answer.answer) c.args.rules.now mid.files c.in_ok-rules.rules.items
          rules (c.in_ok-answer.ensures table.sentences
          (text_stands text c.in_ok-read.read.table c.in_ok-read.read.sentences.items read)));
    }
