use Rattle.std.proofs.Common.{◌≡◌, ◌∙◌, List, length, take, ap, subst, arith}
use Rattle.std.proofs.Math.Seq.{take-length}
use Rattle.ux_alphabet.specs.Tables.{ArePairsOf}
use Rattle.ux_alphabet.specs.declared.line.Line.{Line}
use Rattle.ux_alphabet.proofs.PairLemmas.{ArePairsOf-more}
use Rattle.ux_alphabet.proofs.pairs.pairs_of.Goals as goal

pub loop-line-preserved : goal.loop-line-preserved
loop-line-preserved c =
    ArePairsOf-more c.args.lines.now c.loop-line.line-index _
    c.loop-line.pairs.keys c.put.new.pairs.keys
    c.loop-line-test.true c.in_ok-put.ensures c.loop-line.invariant

pub returns : goal.returns
returns c =
    let lines = c.args.lines.now in
    let all : c.loop-line.line-index ≡ length lines = omega arith in
    let whole : take c.loop-line.line-index lines ≡ lines =
    ap (λ n. take n lines) all ∙ take-length lines in
    subst (λ (ls : List Line). ArePairsOf ls c.loop-line.pairs.keys) whole c.loop-line.invariant
