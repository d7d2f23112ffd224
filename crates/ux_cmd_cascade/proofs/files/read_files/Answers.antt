use Rattle.std.proofs.lemmas.Result.{err_from_is_err_and}
use Rattle.ux_plan.proofs.PlanLaws.{later_both}
use Rattle.ux_plan.proofs.PlanSteps.{comes_gives, comes_read, comes_then, halts_at, halts_first, halts_later, halts_second}
use Rattle.ux_cmd_cascade.proofs.files.read_files.Goals as goal

-- the alphabet was read, and the grammar of a step stops the cascade
pub returns-in_err-nets-clause-err : goal.returns-in_err-nets-clause-err
returns-in_err-nets-clause-err g c =
    let r = c.from_residual-in_err-nets in
    let p = err_from_is_err_and r.result r.ensures.1 in
    let letters = c.in_ok-alphabet.ensures in
    rw (p.1, p.2) (halts_later _ _ _ _ _ _ _ _ letters.ok letters.later
    (halts_first _ _ _ _ _ c.in_err-nets.ensures.err))

-- the alphabet and the grammars were read, and the text stops the cascade
pub returns-in_err-text-clause-err : goal.returns-in_err-text-clause-err
returns-in_err-text-clause-err g c =
    let r = c.from_residual-in_err-text in
    let p = err_from_is_err_and r.result r.ensures.1 in
    let letters = c.in_ok-alphabet.ensures in
    let nets = c.in_ok-nets.ensures in
    rw (p.1, p.2) (halts_later _ _ _ _ _ _ _ _ letters.ok letters.later
    (halts_second _ _ _ _ _ _ _ nets.ok.comes nets.later
    (halts_at _ _ _ _ _ _ c.in_err-text.ensures.err)))

-- all but the dictionaries were read, and one of these stops the cascade
pub returns-in_err-dics-clause-err : goal.returns-in_err-dics-clause-err
returns-in_err-dics-clause-err g c =
    let r = c.from_residual-in_err-dics in
    let p = err_from_is_err_and r.result r.ensures.1 in
    let letters = c.in_ok-alphabet.ensures in
    let nets = c.in_ok-nets.ensures in
    let text = c.in_ok-text.ensures in
    rw (p.1, p.2) (halts_later _ _ _ _ _ _ _ _ letters.ok letters.later
    (halts_second _ _ _ _ _ _ _ nets.ok.comes nets.later
    (halts_later _ _ _ _ _ _ _ _ text.ok text.later
    (halts_first _ _ _ _ _ c.in_err-dics.ensures.err))))

pub returns-clause-ok : goal.returns-clause-ok
returns-clause-ok g c =
    let letters = c.in_ok-alphabet.ensures in
    let nets = c.in_ok-nets.ensures in
    let text = c.in_ok-text.ensures in
    let comes = rw letters.later.kept at nets.ok.comes in
    let both = later_both _ _ _ letters.later nets.later in
    let has = rw both.kept at text.ok in
    let three = later_both _ _ _ both text.later in
    let dics = rw three.kept at c.in_ok-dics.ensures.ok in
    record {
      sources = nets.ok.sources;
      comes = comes_read _ _ _ _ _ _ letters.ok
          (comes_then _ _ _ _ _ comes (comes_read _ _ _ _ _ _ has
          (comes_then _ _ _ _ _ dics (comes_gives _ _ _))));
      are = nets.ok.are;
      cut = (text.ok.is.0, text.ok.is.2.are);
    }
