use Rattle.std.proofs.lemmas.Result.{err_from_is_err_and}
use Rattle.ux_plan.proofs.PlanLaws.{reads_earlier}
use Rattle.ux_plan.proofs.PlanSteps.{comes_gives, comes_read, halts_at, halts_later}
use Rattle.ux_texts.specs.Texts.{text_format}
use Rattle.ux_reasons.specs.declared.reason.Reason.{Reason}
use Rattle.ux_cmd_tokenize.proofs.tokenizing.tokenize.Goals as goal

-- the letters were read, and the text stops the reading
pub returns-in_err-file-clause-err : goal.returns-in_err-file-clause-err
returns-in_err-file-clause-err g c =
    let r = c.from_residual-in_err-file in
    let p = err_from_is_err_and r.result r.ensures.1 in
    rw (p.1, p.2) (halts_later _ _ _ _ _ _ _ _ c.in_ok-alphabet.ensures.ok
    c.in_ok-alphabet.ensures.later (halts_at _ _ _ _ _ _ c.in_err-file.ensures.err))

-- the letters and the text were read, and the file is that of the text's tokens
pub returns-clause-ok : goal.returns-clause-ok
returns-clause-ok g c =
    let a = c.in_ok-alphabet.ensures in
    let file = c.in_ok-file.ensures.ok in
    let letters = c.in_ok-alphabet.alphabet in
    let old = g.F.Folder.seen c.args.folder.now in
    let mid = g.F.Folder.seen c.read_alphabet.new.folder in
    let has = reads_earlier (text_format letters) c.args.text.now old mid mid a.later
    file.tokens file.has in
    record {
      read = (letters, file.tokens);
      comes = comes_read _ _ _ _ letters _ a.ok (comes_read _ _ _ _ file.tokens _ has
          (comes_gives Reason _ _));
      answers = rw c.into_bytes.ensures.value file.is;
    }
