use Rattle.std.proofs.Common.{◌≡◌, ◌<◌, ◌+◌, ◌∙◌, max, List, length, get_or, set, take, ap, subst, arith}
use Rattle.std.proofs.lemmas.Grind.{common_steps}
use Rattle.std.proofs.lemmas.List.{get_or_default, length-set}
use Rattle.std.proofs.Math.Seq.{take-length}
use Rattle.ux_alphabet.specs.Spans.{AreReaches}
use Rattle.ux_alphabet.specs.declared.spans.Span.{Span}
use Rattle.ux_alphabet.proofs.SpanLemmas.{AreReaches-more, furthest}
use Rattle.ux_alphabet.proofs.spans.reaches_of.Goals as goal

pub loop-span-preserved : goal.loop-span-preserved
loop-span-preserved c =
    let d : Span = record { first = 0; last = 0 } in
    let span = get_or c.args.spans.now c.loop-span.span-index d in
    let reaches = c.loop-span.reaches.items in
    let size = c.loop-span.invariant.size in
    let lt = c.loop-span-test.true in
    let inside : span.first < length reaches =
    omega (arith, (c.requires c.loop-span.span-index d lt).0, size) in
    let read = c.index_mut-slot.ensures.value ∙ get_or_default reaches span.first _ 0 inside in
    let reach : c.max.result ≡ furthest reaches span =
    c.max.ensures ∙ ap (λ n. max n (span.last + 1)) read in
    record {
      size = simp length-set size;
      reached = AreReaches-more c.args.spans.now c.loop-span.span-index d reaches _ lt inside
          (ap (λ n. set reaches span.first n) reach) c.loop-span.invariant.reached;
    }

pub returns-clause-reaches : goal.returns-clause-reaches
returns-clause-reaches c =
    let spans = c.args.spans.now in
    let all : c.loop-span.span-index ≡ length spans = omega arith in
    let whole : take c.loop-span.span-index spans ≡ spans =
    ap (λ n. take n spans) all ∙ take-length spans in
    let reaches = c.loop-span.reaches.items in
    subst (λ (s : List Span). AreReaches s reaches) whole c.loop-span.invariant.reached

pub loop-span-init : goal.loop-span-init
loop-span-init c = grind (arith, common_steps)
