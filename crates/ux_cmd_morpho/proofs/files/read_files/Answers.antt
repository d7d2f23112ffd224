use Rattle.std.proofs.lemmas.Result.{err_from_is_err_and}
use Rattle.ux_plan.proofs.PlanLaws.{later_both}
use Rattle.ux_plan.proofs.PlanSteps.{comes_gives, comes_read, comes_then, halts_first, halts_later, halts_second}
use Rattle.ux_cmd_morpho.proofs.files.read_files.Goals as goal

-- the alphabet was read, and the grammar stops the reading
pub returns-in_err-net-clause-err : goal.returns-in_err-net-clause-err
returns-in_err-net-clause-err g c =
    let r = c.from_residual-in_err-net in
    let p = err_from_is_err_and r.result r.ensures.1 in
    let letters = c.in_ok-words.ensures in
    let stops = rw letters.single at c.in_err-net.ensures.err in
    rw (p.1, p.2) (halts_later _ _ _ _ _ _ _ _ letters.ok letters.later
    (halts_first _ _ _ _ _ stops))

-- the alphabet and the grammar were read, and the text stops the reading
pub returns-in_err-text-clause-err : goal.returns-in_err-text-clause-err
returns-in_err-text-clause-err g c =
    let r = c.from_residual-in_err-text in
    let p = err_from_is_err_and r.result r.ensures.1 in
    let letters = c.in_ok-words.ensures in
    let net = c.in_ok-net.ensures in
    let comes = rw letters.single at net.ok.comes in
    let stops = rw letters.single at c.in_err-text.ensures.err in
    rw (p.1, p.2) (halts_later _ _ _ _ _ _ _ _ letters.ok letters.later
    (halts_second _ _ _ _ _ _ _ comes net.later
    (halts_first _ _ _ _ _ stops)))

-- all but the dictionaries were read, and one of these stops the reading
pub returns-in_err-dics-clause-err : goal.returns-in_err-dics-clause-err
returns-in_err-dics-clause-err g c =
    let r = c.from_residual-in_err-dics in
    let p = err_from_is_err_and r.result r.ensures.1 in
    let letters = c.in_ok-words.ensures in
    let net = c.in_ok-net.ensures in
    let text = c.in_ok-text.ensures in
    let comes = rw letters.single at net.ok.comes in
    let has = rw letters.single at text.ok in
    rw (p.1, p.2) (halts_later _ _ _ _ _ _ _ _ letters.ok letters.later
    (halts_second _ _ _ _ _ _ _ comes net.later
    (halts_second _ _ _ _ _ _ _ has text.later
    (halts_first _ _ _ _ _ c.in_err-dics.ensures.err))))

pub returns-clause-ok : goal.returns-clause-ok
returns-clause-ok g c =
    let letters = c.in_ok-words.ensures in
    let net = c.in_ok-net.ensures in
    let text = c.in_ok-text.ensures in
    let comes = rw (letters.later.kept, letters.single) at net.ok.comes in
    let both = later_both _ _ _ letters.later net.later in
    let has = rw (both.kept, letters.single) at text.ok in
    let three = later_both _ _ _ both text.later in
    let dics = rw three.kept at c.in_ok-dics.ensures.ok in
    record {
      letters = c.in_ok-words.words;
      graphs = net.ok.graphs;
      comes = comes_read _ _ _ _ _ _ letters.ok
          (comes_then _ _ _ _ _ comes (comes_then _ _ _ _ _ has
          (comes_then _ _ _ _ _ dics (comes_gives _ _ _))));
      is_single = letters.single;
      compiles = net.ok.compiles;
      short = text.short;
    }
