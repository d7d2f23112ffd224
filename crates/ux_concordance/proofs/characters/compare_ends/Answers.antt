use Rattle.std.proofs.Common.{◌∙◌, sym}
use Rattle.ux_concordance.proofs.CharactersLemmas.{backwards-last, backwards-none, cmp-eq, cmp-long, cmp-ne, cmp-none, cmp-short}
use Rattle.ux_concordance.proofs.characters.compare_ends.Goals as goal

pub returns-in_default-split_last : goal.returns-in_default-split_last
returns-in_default-split_last c =
    let loop = c.loop-before_a in
    let x = c.in-Some in
    let a = backwards-last loop.a.now x.before_a.now x.last_a loop.invariant.first x.ensures.whole
    x.ensures.parts in
    let b = backwards-none loop.b.now c.in_default-split_last.ensures.parts in
    sym (loop.invariant.same ∙ cmp-long _ _ _ _ a b)

pub returns-then-is_ne : goal.returns-then-is_ne
returns-then-is_ne c =
    let loop = c.loop-before_a in
    let x = c.in-Some in
    let y = c.in-Some-split_last in
    let a = backwards-last loop.a.now x.before_a.now x.last_a loop.invariant.first x.ensures.whole
    x.ensures.parts in
    let b = backwards-last loop.b.now y.before_b.now y.last_b loop.invariant.second y.ensures.whole
    y.ensures.parts in
    rw c.cmp-order.ensures
    (sym (loop.invariant.same
    ∙ cmp-ne _ _ _ _ _ a _ b (rw (← c.cmp-order.ensures) (sym c.if-is_ne.ensures))))

pub loop-before_a-preserved : goal.loop-before_a-preserved
loop-before_a-preserved c =
    let loop = c.loop-before_a in
    let x = c.in-Some in
    let y = c.in-Some-split_last in
    let a = backwards-last loop.a.now x.before_a.now x.last_a loop.invariant.first x.ensures.whole
    x.ensures.parts in
    let b = backwards-last loop.b.now y.before_b.now y.last_b loop.invariant.second y.ensures.whole
    y.ensures.parts in
    record {
      first = x.ensures.whole;
      second = y.ensures.whole;
      same = loop.invariant.same
          ∙ cmp-eq _ _ _ _ _ a _ b (rw (← c.cmp-order.ensures) (sym c.if-is_ne.ensures));
    }

pub returns-in-None : goal.returns-in-None
returns-in-None c =
    let loop = c.loop-before_a in
    let a = backwards-none loop.a.now c.in_default.ensures.parts in
    let b = backwards-none loop.b.now c.in-None.ensures.parts in
    sym (loop.invariant.same ∙ cmp-none _ _ a b)

pub returns-in-Some-split_last-2 : goal.returns-in-Some-split_last-2
returns-in-Some-split_last-2 c =
    let loop = c.loop-before_a in
    let y = c.in-Some-split_last-2 in
    let a = backwards-none loop.a.now c.in_default.ensures.parts in
    let b = backwards-last loop.b.now y.field-0.0.now y.field-0.1 loop.invariant.second
    y.ensures.whole y.ensures.parts in
    sym (loop.invariant.same ∙ cmp-short _ _ _ _ a b)
