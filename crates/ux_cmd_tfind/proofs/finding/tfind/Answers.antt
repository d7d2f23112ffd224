use Rattle.std.proofs.Common.{string_bytes}
use Rattle.std.proofs.lemmas.Result.{err_from_is_err_and}
use Rattle.ux_plan.proofs.PlanSteps.{comes_gives, comes_read, comes_test, comes_then, halts_at, halts_first, halts_later, halts_memory, halts_second, halts_test, halts_tested}
use Rattle.ux_plan.proofs.Decoded.{decoded_stops}
use Rattle.ux_plan.specs.Plans.{said_as}
use Rattle.ux_reasons.specs.declared.reason.Reason.TheVariants.{Decode, Sentence}
use Rattle.ux_sentence.specs.Files as file
use Rattle.ux_cmd_tfind.specs.Reading.{sentences_format}
use Rattle.ux_cmd_tfind.proofs.TfindSteps.{answers_read, can_search, net_stops, table_reads, text_stops}
use Rattle.ux_cmd_tfind.proofs.finding.tfind.Goals as goal

-- the letters were read, and the grammar stops the reading
pub returns-in_err-net-clause-err : goal.returns-in_err-net-clause-err
returns-in_err-net-clause-err g c =
    let r = c.from_residual-in_err-net in
    let p = err_from_is_err_and r.result r.ensures.1 in
    let letters = c.in_ok-alphabet.ensures in
    rw (p.1, p.2) (halts_later _ _ _ _ _ _ _ _ letters.ok letters.later
    (halts_first _ _ _ _ _ c.in_err-net.ensures.err))

-- they were read, and the grammar can't be searched
pub returns-in_err-check_usable-clause-err : goal.returns-in_err-check_usable-clause-err
returns-in_err-check_usable-clause-err g c =
    let r = c.from_residual-in_err-check_usable in
    let p = err_from_is_err_and r.result r.ensures.1 in
    let letters = c.in_ok-alphabet.ensures in
    let net = c.in_ok-net.ensures in
    let stops = net_stops c.in_ok-alphabet.alphabet net.ok.source c.in_ok-net.net
    net.ok.compiles.states c.args.graph.now _ c.in_err-check_usable.ensures.err in
    rw (p.1, p.2) (halts_later _ _ _ _ _ _ _ _ letters.ok letters.later
    (halts_second _ _ _ _ _ _ _ net.ok.comes net.later (halts_test _ _ _ _ _ _ stops)))

-- it can, and the file of automata isn't read
pub returns-in_err-text-clause-err : goal.returns-in_err-text-clause-err
returns-in_err-text-clause-err g c =
    let r = c.from_residual-in_err-text in
    let p = err_from_is_err_and r.result r.ensures.1 in
    let letters = c.in_ok-alphabet.ensures in
    let net = c.in_ok-net.ensures in
    let can = can_search c.in_ok-alphabet.alphabet net.ok.source c.in_ok-net.net
    net.ok.compiles.states c.in_ok-check_usable.ensures.usable in
    let mid = g.F.Folder.seen c.read_net.new.folder in
    let new = g.F.Folder.seen c.read_decoded.new.folder in
    rw (p.1, p.2) (halts_later _ _ _ _ _ _ _ _ letters.ok letters.later
    (halts_second _ _ _ _ _ _ _ net.ok.comes net.later (halts_tested _ _ _ _ _ _ can
    (halts_at sentences_format c.args.tfst.now _ mid new _
    (decoded_stops Decode (said_as Sentence file.AreSentences file.Refuses) c.args.tfst.now mid new
    _ c.in_err-text.ensures.err)))))

-- it is read, and says no sentences
pub returns-in_err-read-clause-err : goal.returns-in_err-read-clause-err
returns-in_err-read-clause-err g c =
    let r = c.from_residual-in_err-read in
    let p = err_from_is_err_and r.result r.ensures.1 in
    let letters = c.in_ok-alphabet.ensures in
    let net = c.in_ok-net.ensures in
    let can = can_search c.in_ok-alphabet.alphabet net.ok.source c.in_ok-net.net
    net.ok.compiles.states c.in_ok-check_usable.ensures.usable in
    let mid = g.F.Folder.seen c.read_net.new.folder in
    let new = g.F.Folder.seen c.read_decoded.new.folder in
    rw (p.1, p.2) (halts_later _ _ _ _ _ _ _ _ letters.ok letters.later
    (halts_second _ _ _ _ _ _ _ net.ok.comes net.later (halts_tested _ _ _ _ _ _ can
    (halts_at sentences_format c.args.tfst.now _ mid new c.in_err-read.field-0.0
    (text_stops c.args.tfst.now mid new (string_bytes c.in_ok-text.text)
    c.in_err-read.field-0.0 c.in_ok-text.ensures.ok
    (rw c.as_str.ensures.value at c.in_err-read.ensures.err))))))

-- all was read, and memory ran out for the answer
pub returns-in_err-answer-clause-err : goal.returns-in_err-answer-clause-err
returns-in_err-answer-clause-err g c =
    let r = c.from_residual-in_err-answer in
    let p = err_from_is_err_and r.result r.ensures.1 in
    rw (p.1, p.2) (halts_memory _ _ _)

-- all was read, and the answer has the lines of the spans
pub returns-clause-ok : goal.returns-clause-ok
returns-clause-ok g c =
    let name = c.args.tfst.now in
    let letters = c.in_ok-alphabet.ensures in
    let alphabet = c.in_ok-alphabet.alphabet in
    let net = c.in_ok-net.ensures in
    let text = string_bytes c.in_ok-text.text in
    let read = rw c.as_str.ensures.value at c.in_ok-read.ensures.ok in
    let table = read.table in
    let mid = g.F.Folder.seen c.read_net.new.folder in
    let comes = rw letters.later.kept at net.ok.comes in
    let has = rw letters.later.kept at (rw net.later.kept at c.in_ok-text.ensures.ok) in
    let can = can_search alphabet net.ok.source c.in_ok-net.net net.ok.compiles.states
    c.in_ok-check_usable.ensures.usable in
    record {
      read = record {
        letters = alphabet;
        source = net.ok.source;
        sentences = table.sentences;
      };
      comes = comes_read _ _ _ _ _ _ letters.ok
          (comes_then _ _ _ _ _ comes (comes_test _ _ _ _ _ can
          (comes_read _ _ _ _ _ _
          (table_reads name _ text c.in_ok-read.read.table has table)
          (comes_gives _ _ _))));
      answers = rw c.into_bytes.ensures.value (answers_read alphabet net.ok.source c.in_ok-net.net
          table.sentences text (string_bytes c.in_ok-answer.answer) net.ok.compiles table.said
          (c.in_ok-answer.ensures text read));
    }
