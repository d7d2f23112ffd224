use Rattle.std.proofs.Common.{arith, inr, refl}
use Rattle.std.proofs.lemmas.Result.{err_from_is_err_and}
use Rattle.ux_image_reader.proofs.FrontLemmas.{states_fit, used_by-le, short_count, zero_count, short_lists, states_refused, together_refused, has_front}
use Rattle.ux_image_reader.proofs.RefusalLaws.{front_excluded}
use Rattle.ux_image_reader.proofs.front.read_front.Goals as goal

pub returns-in_err-count-clause-err : goal.returns-in_err-count-clause-err
returns-in_err-count-clause-err c =
    let failed = c.from_residual-in_err-count in
    let p = err_from_is_err_and failed.result failed.ensures.1 in
    rw (p.1, p.2) (inr (short_count c.args.bytes.now c.in_ok-version.version
    c.in_ok-version.ensures.ok c.in_err-count.field-0.0 c.in_err-count.ensures.err))

pub returns-then-count-eq0-clause-err : goal.returns-then-count-eq0-clause-err
returns-then-count-eq0-clause-err c =
    inr (zero_count c.args.bytes.now c.in_ok-version.version c.in_ok-version.ensures.ok
    c.in_ok-count.count _ c.if-count-eq0.true c.in_ok-count.ensures.ok.past)

pub returns-in_err-lists-clause-err : goal.returns-in_err-lists-clause-err
returns-in_err-lists-clause-err c =
    let failed = c.from_residual-in_err-lists in
    let p = err_from_is_err_and failed.result failed.ensures.1 in
    rw (p.1, p.2) (inr (short_lists c.args.bytes.now c.in_ok-version.version
    c.in_ok-version.ensures.ok c.in_err-lists.field-0.0 c.in_ok-count.count _ c.if-count-eq0.false
    c.in_ok-count.ensures.ok.past c.in_err-lists.ensures.err))

pub returns-in_err-states-clause-err : goal.returns-in_err-states-clause-err
returns-in_err-states-clause-err c =
    let failed = c.from_residual-in_err-states in
    let p = err_from_is_err_and failed.result failed.ensures.1 in
    rw (p.1, p.2) (states_refused c.args.bytes.now c.in_ok-version.version
    c.in_ok-version.ensures.ok c.in_ok-count.count c.in_ok-lists.lists _ _ c.read_number-2.new.cursor
    refl refl c.in_ok-count.ensures.ok c.in_ok-lists.ensures.ok c.in_err-states.field-0.0
    c.in_err-states.ensures.err)

pub accept_states-requires-clause-states : goal.accept_states-requires-clause-states
accept_states-requires-clause-states c =
    states_fit c.in_ok-count.count c.in_ok-lists.lists c.in_ok-states.states
    c.in_ok-states.ensures.ok.passed

pub accept_states-requires-clause-used : goal.accept_states-requires-clause-used
accept_states-requires-clause-used c =
    used_by-le c.in_ok-count.count c.in_ok-lists.lists c.in_ok-states.states
    c.in_ok-states.ensures.ok.passed

pub returns-in_err-accept_states-clause-err : goal.returns-in_err-accept_states-clause-err
returns-in_err-accept_states-clause-err c =
    let failed = c.from_residual-in_err-accept_states in
    let p = err_from_is_err_and failed.result failed.ensures.1 in
    let error = c.in_err-accept_states.field-0.0 in
    let lists = c.in_ok-lists.lists in
    rw (p.1, p.2) (together_refused c.args.bytes.now c.in_ok-version.version
    c.in_ok-version.ensures.ok c.in_ok-count.count lists _ _ c.read_number-2.new.cursor refl refl
    c.in_ok-count.ensures.ok c.in_ok-lists.ensures.ok c.read_states.new.cursor
    c.in_ok-states.states c.in_ok-states.ensures.ok c.if-count-eq0.false error
    c.in_err-accept_states.ensures.err)

pub returns-clause-ok : goal.returns-clause-ok
returns-clause-ok c =
    has_front c.args.bytes.now c.in_ok-version.version c.in_ok-version.ensures.ok
    c.in_ok-count.count c.in_ok-lists.lists _ _ c.read_number-2.new.cursor refl refl
    c.in_ok-count.ensures.ok c.in_ok-lists.ensures.ok c.read_states.new.cursor
    c.in_ok-states.states c.in_ok-states.ensures.ok c.if-count-eq0.false _ refl refl refl refl
    c.in_ok-accept_states.ensures.ok

pub returns-clause-exact : goal.returns-clause-exact
returns-clause-exact c = λ error refuses.
    front_excluded c.args.bytes.now _ error (returns-clause-ok c) refuses

pub returns-clause-automaton : goal.returns-clause-automaton
returns-clause-automaton c =
    let reads = c.in_ok-states.ensures.ok in
    record {
      some = let are = reads.many_are in let count = c.if-count-eq0.false in
          omega (arith, are, count);
      few = let are = reads.many_are in omega (arith, are);
      fit = states_fit c.in_ok-count.count c.in_ok-lists.lists c.in_ok-states.states
          reads.passed;
    }
