use Rattle.std.proofs.Common.{ℕ, Vec, Global, ap, subst, sym}
use Rattle.std.proofs.lemmas.Result.{err_from_is_err_and}
use Rattle.ux_plan.proofs.PlanSteps.{comes_gives, comes_read, comes_test, comes_then, halts_first, halts_later, halts_second, halts_test}
use Rattle.ux_flatten.specs.Flattening.{told}
use Rattle.ux_fst2.specs.Files.{IsTextOf}
use Rattle.ux_cmd_flatten.proofs.FlatLemmas.{can_flatten, flat_stops, states_told}
use Rattle.ux_cmd_flatten.proofs.flattening.flatten.Goals as goal

-- the letters were read, and the grammar stops the reading
pub returns-in_err-net-clause-err : goal.returns-in_err-net-clause-err
returns-in_err-net-clause-err g c =
    let r = c.from_residual-in_err-net in
    let p = err_from_is_err_and r.result r.ensures.1 in
    let letters = c.in_ok-alphabet.ensures in
    rw (p.1, p.2) (halts_later _ _ _ _ _ _ _ _ letters.ok letters.later
    (halts_first _ _ _ _ _ c.in_err-net.ensures.err))

-- the letters and the grammar were read, and it has no flat net
pub returns-in_err-flat-clause-err : goal.returns-in_err-flat-clause-err
returns-in_err-flat-clause-err g c =
    let r = c.from_residual-in_err-flat in
    let p = err_from_is_err_and r.result r.ensures.1 in
    let letters = c.in_ok-alphabet.ensures in
    let net = c.in_ok-net.ensures in
    let stops = flat_stops c.in_ok-alphabet.alphabet net.ok.source c.in_ok-net.net
    net.ok.compiles.states c.args.graph.now c.args.depth _ c.in_err-flat.ensures.err in
    rw (p.1, p.2) (halts_later _ _ _ _ _ _ _ _ letters.ok letters.later
    (halts_second _ _ _ _ _ _ _ net.ok.comes net.later (halts_test _ _ _ _ _ _ stops)))

-- the text is that of the flat net
pub returns-clause-ok : goal.returns-clause-ok
returns-clause-ok g c =
    let letters = c.in_ok-alphabet.ensures in
    let net = c.in_ok-net.ensures in
    let flat = c.in_ok-flat.ensures in
    let comes = rw letters.later.kept at net.ok.comes in
    let can = can_flatten c.in_ok-alphabet.alphabet net.ok.source c.in_ok-net.net
    net.ok.compiles.states c.args.depth flat.flattened in
    record {
      read = (c.in_ok-alphabet.alphabet, net.ok.source);
      comes = comes_read _ _ _ _ _ _ letters.ok
          (comes_then _ _ _ _ _ comes (comes_test _ _ _ _ _ can (comes_gives _ _ _)));
      answers = record {
        graphs = told c.in_ok-net.net;
        states = states_told c.in_ok-alphabet.alphabet net.ok.source c.in_ok-net.net
            net.ok.compiles.states;
        flat = c.in_ok-flat.flat;
        is_flat = flat.states;
        derives = flat.derives;
        is = subst (IsTextOf c.in_ok-flat.flat)
            (sym (ap (λ (v : Vec ℕ Global). v.items) c.into_bytes.ensures.value))
            c.in_ok-file.ensures.is;
      };
    }
