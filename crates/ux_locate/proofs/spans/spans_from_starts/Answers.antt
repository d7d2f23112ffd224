use Rattle.std.proofs.Common.{refl, ◌≡◌, ◌∙◌, List, ℕ, [], ◌+◌, arith, map, sym, ap, subst}
use Rattle.std.specs.Prelude.{Contains}
use Rattle.std.specs.List.Sorted.{IsStrictlyIncreasing}
use Rattle.ux_outputs.specs.declared.span.Span.{Span}
use Rattle.ux_tokens.specs.Tokens.{Token}
use Rattle.ux_walk.specs.Ends.{AreEnds}
use Rattle.ux_walk.specs.Settings.{Setting}
use Rattle.ux_locate.specs.Finding.{AreEndsFor, IsFoundBefore, IsSpanFrom, span_to}
use Rattle.ux_locate.specs.Hits.{IsStart}
use Rattle.ux_locate.specs.Keeping.{AreKept, first_in, last_in}
use Rattle.ux_locate.proofs.FirstEndsLemmas.{asked_later, best_of_asked}
use Rattle.ux_locate.proofs.KeepingLemmas.{told_reach}
use Rattle.ux_locate.proofs.SpanLemmas.{no_spans, span_begins, spans_best}
use Rattle.ux_locate.proofs.StartLemmas.{kept_all, kept_inside, kept_next, kept_skip, kept_start}
use Rattle.ux_locate.proofs.spans.spans_from_starts.Goals as goal

-- a span from a start begins there
begins : (setting : Setting) (tokens : List Token) → setting.tokens ≡ tokens → (start : ℕ) →
    IsStart tokens start → (span : Span) → IsSpanFrom setting start span →
    first_in span ≡ start
begins setting tokens same start starts span from =
    span_begins setting start
    (subst (λ (l : List Token). IsStart l start) (sym same) starts) span from

pub loop-start-init : goal.loop-start-init
loop-start-init g c =
    let setting = g.E.Ends.setting c.args.finder.now in
    let tokens = c.args.text.now in
    record {
      same = refl;
      spans = subst (AreKept c.args.policy first_in last_in
          (IsFoundBefore tokens (IsSpanFrom setting) 0)) (sym c.new-spans.ensures.items)
          (kept_start c.args.policy first_in last_in tokens (IsSpanFrom setting)
          (begins setting tokens c.requires));
    }

pub find_ends_for-requires : goal.find_ends_for-requires
find_ends_for-requires g c =
    let text = ap (λ (s : Setting). s.tokens) c.loop-start.invariant.same ∙ c.requires in
    subst (λ (tokens : List Token). IsStart tokens c.loop-start.start) (sym text)
    (c.may_find.ensures.starts c.if-not-may_find.false)

pub best_ends-requires : goal.best_ends-requires
best_ends-requires g c = subst IsStrictlyIncreasing (sym c.as_slice-in-loop-start.ensures.value)
    c.in_ok-find_ends_for.ensures.ascending

pub push_spans-requires : goal.push_spans-requires
push_spans-requires g c e inside =
    asked_later (g.E.Ends.setting c.loop-start.finder) c.loop-start.start c.args.policy
    c.find_ends_for.new.ends.items c.in_ok-find_ends_for.ensures.ends e
    (subst (λ (l : List ℕ). Contains l e) c.as_slice-in-loop-start.ensures.value
    ((c.best_ends.ensures.exactly e).0 inside).0)

pub loop-start-preserved-then-is_reached : goal.loop-start-preserved-then-is_reached
loop-start-preserved-then-is_reached g c =
    let setting = g.E.Ends.setting c.args.finder.now in
    let tokens = c.args.text.now in
    let spans = c.loop-start.spans.items in
    let told = told_reach c.args.policy last_in spans c.as_slice.result.now c.spans_reach.result
    c.loop-start.start c.is_reached.result c.is_reached.ensures c.spans_reach.ensures
    c.as_slice.ensures.value in
    record {
      same = c.loop-start.invariant.same;
      spans = kept_inside c.args.policy first_in last_in tokens (IsSpanFrom setting)
          (begins setting tokens c.requires) c.loop-start.start spans
          c.loop-start.invariant.spans (told.0 c.if-is_reached.true);
    }

pub loop-start-preserved-then-not-may_find : goal.loop-start-preserved-then-not-may_find
loop-start-preserved-then-not-may_find g c =
    let setting = g.E.Ends.setting c.args.finder.now in
    let tokens = c.args.text.now in
    let start = c.loop-start.start in
    record {
      same = c.loop-start.invariant.same;
      spans = kept_skip c.args.policy first_in last_in tokens (IsSpanFrom setting)
          (begins setting tokens c.requires) start c.loop-start.spans.items
          c.loop-start.invariant.spans
          (λ starts. no_spans setting start
          (subst (λ (s : Setting). AreEnds s start []) c.loop-start.invariant.same
          (c.may_find.ensures.nothing c.if-not-may_find.true starts)));
    }

pub loop-start-preserved : goal.loop-start-preserved
loop-start-preserved g c =
    let policy = c.args.policy in
    let setting = g.E.Ends.setting c.args.finder.now in
    let tokens = c.args.text.now in
    let start = c.loop-start.start in
    let spans = c.loop-start.spans.items in
    let told = told_reach policy last_in spans c.as_slice.result.now c.spans_reach.result
    start c.is_reached.result c.is_reached.ensures c.spans_reach.ensures
    c.as_slice.ensures.value in
    let ends = c.as_slice-in-loop-start.result.now in
    let best = c.best_ends.result.now in
    let are = subst (λ (s : Setting). AreEndsFor policy s start c.find_ends_for.new.ends.items)
    c.loop-start.invariant.same c.in_ok-find_ends_for.ensures.ends in
    record {
      same = c.find_ends_for.ensures.same ∙ c.loop-start.invariant.same;
      spans = subst (AreKept policy first_in last_in
          (IsFoundBefore tokens (IsSpanFrom setting) (start + 1)))
          (sym c.in_ok-push_spans.ensures)
          (kept_next policy first_in last_in tokens (IsSpanFrom setting)
          (begins setting tokens c.requires) start spans c.loop-start.invariant.spans
          (told.1 c.if-is_reached.false) (c.may_find.ensures.starts c.if-not-may_find.false)
          (map (span_to start) best)
          (spans_best setting start policy best
          (best_of_asked setting start policy ends best
          (subst (AreEndsFor policy setting start) (sym c.as_slice-in-loop-start.ensures.value) are)
          c.best_ends.ensures)));
    }

pub returns : goal.returns
returns g c =
    kept_all c.args.policy first_in last_in c.args.text.now (IsSpanFrom (g.E.Ends.setting c.args.finder.now))
    (begins (g.E.Ends.setting c.args.finder.now) c.args.text.now c.requires) c.loop-start.start
    c.loop-start.spans.items
    (omega (arith, c.loop-start-test.false, c.len-start-end.ensures.len))
    c.loop-start.invariant.spans
