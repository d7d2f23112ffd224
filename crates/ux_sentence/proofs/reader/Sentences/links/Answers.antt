use Rattle.std.proofs.Common.{arith, ◌+◌, [], ◌∷◌, length, length-append, ap}
use Rattle.std.proofs.lemmas.Result.{err_from_is_err_and}
use Rattle.ux_sentence.proofs.LinkLemmas.{LinksSay-items, err_behind}
use Rattle.ux_sentence.proofs.reader.Sentences.links.Goals as goal

pub loop-done-preserved : goal.loop-done-preserved
loop-done-preserved c =
    let so_far = c.loop-done.invariant in
    let next = c.in_ok-next_link.ensures.ok in
    let items = c.in_ok-push.ensures.items in
    record {
      many = omega (
        arith,
        so_far.many,
        ap length items,
        length-append c.loop-done.links.items (c.in_ok-next_link.field-0 ∷ []),
      );
      say = LinksSay-items c.args.states c.args.self.now.lines c.loop-done.links.items
          c.push.new.self.items next.0 c.next_link.new.self.lines c.loop-done.self.lines
          c.in_ok-next_link.field-0 so_far.say next.1.lines next.2 items;
      passed = omega (arith, so_far.passed, next.1.passed);
      told = omega (arith, so_far.told, next.1.told);
      count = omega (arith, so_far.count, next.1.count);
    }

pub returns-in_err-next_link-clause-err : goal.returns-in_err-next_link-clause-err
returns-in_err-next_link-clause-err c =
    let p = err_from_is_err_and c.from_residual.result c.from_residual.ensures.1 in
    let so_far = c.loop-done.invariant in
    rw (p.1, p.2)
    (err_behind c.args.states c.args.count c.args.self.now.lines c.loop-done.links.items
    c.loop-done.self.lines (c.args.self.now.passed + 1) (c.loop-done.self.passed + 1) _
    so_far.say (omega (arith, so_far.many, c.loop-done-test.true))
    (omega (arith, so_far.many, so_far.passed)) c.in_err-next_link.ensures.err)
