use Rattle.std.proofs.Common.{arith, ◌+◌, sym, subst}
use Rattle.ux_text_chart.specs.PartIndexes.{AreIndexed}
use Rattle.ux_text_chart.proofs.PartIndexLemmas.{indexed_everywhere, indexed_listed}
use Rattle.ux_text_chart.proofs.part_index.add_part.Goals as goal

pub returns-in-Some : goal.returns-in-Some
returns-in-Some c = λ texts ready are.
    let is = c.in-Ok.ensures.1 in
    let number = c.in-Ok.number in
    let every = c.args.everywhere.now.items in
    subst (λ n. AreIndexed c.args.alphabet.now texts c.args.net.now c.args.parts.now (n + 1)
    c.add_edges.new.beginnings.items every) is
    (indexed_listed c.args.alphabet.now texts c.args.net.now c.args.parts.now number
    (omega (arith, c.in-Ok.ensures.0, is)) c.args.beginnings.now.items
    c.add_edges.new.beginnings.items every c.in-Some.edges.now
    c.in_ok-add_edges-in-Some.ensures.kept (c.in_ok-add_edges-in-Some.ensures.listed texts ready)
    c.in-Some.ensures
    (subst (λ n. AreIndexed c.args.alphabet.now texts c.args.net.now c.args.parts.now n
    c.args.beginnings.now.items every) (sym is) are))

pub returns-in_default-literals_of : goal.returns-in_default-literals_of
returns-in_default-literals_of c = λ texts ready are.
    let is = c.in-Ok.ensures.1 in
    let number = c.in-Ok.number in
    let old = c.args.beginnings.now.items in
    subst (λ n. AreIndexed c.args.alphabet.now texts c.args.net.now c.args.parts.now (n + 1) old
    c.push.new.self.items) is
    (indexed_everywhere c.args.alphabet.now texts c.args.net.now c.args.parts.now number
    (omega (arith, c.in-Ok.ensures.0, is)) old c.args.everywhere.now.items c.push.new.self.items
    c.in_ok-push-in_default-literals_of.ensures.items
    (subst (λ n. AreIndexed c.args.alphabet.now texts c.args.net.now c.args.parts.now n old
    c.args.everywhere.now.items) (sym is) are))
