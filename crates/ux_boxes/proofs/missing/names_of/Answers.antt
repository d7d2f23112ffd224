use Rattle.std.proofs.Common.{ℕ, List, Bor, map, ap, ◌∙◌}
use Rattle.ux_base.specs.Distinct.{with_text}
use Rattle.ux_tokens.specs.Numbers.{texts_in}
use Rattle.ux_tokens.proofs.NumbersLemmas.{texts-insert}
use Rattle.ux_boxes.proofs.MissingLemmas.{names_more, names_all}
use Rattle.ux_boxes.proofs.missing.names_of.Goals as goal

pub loop-name-preserved : goal.loop-name-preserved
loop-name-preserved c =
    ap (λ (keys : List (Bor (List ℕ))). map (λ (s : Bor (List ℕ)). s.now) keys)
    c.in_ok-insert_full.ensures.keys
    ∙ (texts-insert c.loop-name.names.keys c.as_str.result
    ∙ (ap (with_text (texts_in c.loop-name.names)) c.as_str.ensures.value
    ∙ names_more c.args.graphs.now c.loop-name.name-index c.loop-name-item.result
    c.requires.distinct c.loop-name-test.true c.loop-name-item.is (texts_in c.loop-name.names)
    c.loop-name.invariant))

pub returns : goal.returns
returns c =
    c.loop-name.invariant
    ∙ names_all c.args.graphs.now c.loop-name.name-index c.loop-name-test.false
