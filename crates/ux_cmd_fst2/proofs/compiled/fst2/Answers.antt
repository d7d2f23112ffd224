use Rattle.std.proofs.Common.{ℕ, List, Vec, Global, ap, subst, sym, ◌∙◌}
use Rattle.std.proofs.lemmas.Result.{err_from_is_err_and}
use Rattle.ux_plan.proofs.PlanSteps.{comes_gives, comes_read, comes_then, halts_first, halts_later}
use Rattle.ux_fst2.specs.Files.{IsTextOf}
use Rattle.ux_cmd_fst2.proofs.compiled.fst2.Goals as goal

-- the letters were read, and the grammar stops the reading
pub returns-in_err-net-clause-err : goal.returns-in_err-net-clause-err
returns-in_err-net-clause-err g c =
    let r = c.from_residual-in_err-net in
    let p = err_from_is_err_and r.result r.ensures.1 in
    let letters = c.in_ok-alphabet.ensures in
    rw (p.1, p.2) (halts_later _ _ _ _ _ _ _ _ letters.ok letters.later
    (halts_first _ _ _ _ _ c.in_err-net.ensures.err))

-- the letters and the grammar were read, and the text is that of their net
pub returns-clause-ok : goal.returns-clause-ok
returns-clause-ok g c =
    let letters = c.in_ok-alphabet.ensures in
    let net = c.in_ok-net.ensures in
    let comes = rw letters.later.kept at net.ok.comes in
    record {
      read = (c.in_ok-alphabet.alphabet, net.ok.source);
      comes = comes_read _ _ _ _ _ _ letters.ok (comes_then _ _ _ _ _ comes (comes_gives _ _ _));
      answers = record {
        net = c.in_ok-net.net;
        states = net.ok.compiles.states;
        is = subst (IsTextOf c.in_ok-net.net)
            (sym (ap (λ (v : Vec ℕ Global). v.items) c.into_bytes.ensures.value))
            c.in_ok-file.ensures.is;
      };
    }
