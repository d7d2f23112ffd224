use Rattle.std.proofs.Common.{arith, ◌∙◌, ◌<◌, ℕ, List, ◌↔◌, get_or, subst, sym, take}
use Rattle.std.specs.Prelude.{Contains}
use Rattle.std.proofs.lemmas.List.{take_more, take_all}
use Rattle.std.proofs.lemmas.List.Elements.{All-get_or}
use Rattle.ux_digraph.specs.Paths.{row_of}
use Rattle.ux_admission.proofs.RowsLemmas.{rows_put}
use Rattle.ux_admission.proofs.edges.rows_of.Goals as goal

pub loop-pair-preserved : goal.loop-pair-preserved
loop-pair-preserved c =
    let none : ℕ × ℕ = (0, 0) in
    let p = get_or c.args.pairs.now c.loop-pair.pair-index none in
    let below : p.0 < c.args.size = All-get_or (λ (p : ℕ × ℕ). p.0 < c.args.size)
    c.args.pairs.now c.loop-pair.pair-index none c.loop-pair-test.true c.requires.inside in
    let len = c.loop-pair.invariant.len in
    record {
      len = c.in_ok-put.ensures.len ∙ len;
      rows = subst (λ (pairs : List (ℕ × ℕ)). (u v : ℕ) → Contains (row_of c.put.new.rows.items u) v
          ↔ Contains pairs (u, v))
          (sym (take_more c.args.pairs.now c.loop-pair.pair-index none c.loop-pair-test.true))
          (rows_put c.loop-pair.rows.items c.put.new.rows.items
          (take c.loop-pair.pair-index c.args.pairs.now) p (omega arith)
          c.in_ok-put.ensures.put c.loop-pair.invariant.rows);
    }

pub returns-clause-rows : goal.returns-clause-rows
returns-clause-rows c =
    subst (λ (pairs : List (ℕ × ℕ)). (u v : ℕ) → Contains (row_of c.loop-pair.rows.items u) v
    ↔ Contains pairs (u, v))
    (take_all c.loop-pair.pair-index c.args.pairs.now c.loop-pair-test.false)
    c.loop-pair.invariant.rows
