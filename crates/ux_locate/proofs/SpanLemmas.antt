-- Where outputs are ignored, the hits are the spans from starts up to the ends of derivations, and the
-- kept hits are the kept spans.
use Rattle.std.proofs.Common.{arith, ◌≡◌, ℕ, zero, suc, ◌+◌, ◌-◌, ◌<◌, List, [], ◌∷◌, refl, sym, ◌∙◌, ap, subst, inl, inr, map, get_or}
use Rattle.std.specs.Prelude.{◌↔◌, All, Contains, Some, slice_get}
use Rattle.std.proofs.lemmas.Option.{same_Some}
use Rattle.std.proofs.lemmas.List.Elements.{Contains-get_or}
use Rattle.ux_base.specs.declared.settings.Mode.TheVariants.{Ignore}
use Rattle.ux_base.specs.declared.settings.NoVar.{NoVar}
use Rattle.ux_base.specs.declared.settings.Policy.{Policy}
use Rattle.ux_base.specs.declared.settings.Policy.TheVariants.{Shortest, Longest}
use Rattle.ux_base.specs.declared.settings.Policy.TheVariants as policies
use Rattle.ux_lexical_tables.specs.Belonging.{Belongs}
use Rattle.ux_net.specs.Nets.{CutNothing, net_grammar}
use Rattle.ux_outputs.specs.declared.hit.Hit.{Hit}
use Rattle.ux_outputs.specs.declared.span.Span.{Span}
use Rattle.ux_outputs.specs.Rendering.{text_between}
use Rattle.ux_outputs.proofs.TakesLemmas.{hit_between, renders_uncut}
use Rattle.ux_walk.specs.Ends.{AreEnds}
use Rattle.ux_walk.specs.Settings.{Setting}
use Rattle.ux_locate.specs.Finding.{EndsAt, IsFound, IsSpanFrom, span_to}
use Rattle.ux_locate.specs.Hits.{IsHit, IsStart}
use Rattle.ux_locate.specs.Index.{IsKeptListing, StandsBefore}
use Rattle.ux_locate.specs.Keeping.{AreBest, AreKept, IsAsGood, IsKept, first_in, first_of, last_in, last_of}
use Rattle.ux_locate.specs.Order.{AreInOrder, Precedes}
use Rattle.ux_locate.specs.Spans.{LiesIn, hit_at}
use Rattle.ux_locate.proofs.CutLaws.{derivation_uncut}
use Rattle.ux_locate.proofs.FoundLemmas.{ends_after, followed, nothing_in}
use Rattle.ux_locate.proofs.KeptLemmas.{keeps, kept_by}

module _ {A B : Type 0} (f : A → B) where
  mapped : (xs : List A) (x : A) → Contains xs x → Contains (map f xs) (f x)
  mapped [] x c = absurd (omega (arith, c.1))
  mapped (y ∷ xs) x (zero, lt, is) = (0, omega arith, ap f is)
  mapped (y ∷ xs) x (suc k, lt, is) =
      let h = mapped xs x (k, omega (arith, lt), is) in (suc h.0, omega (arith, h.1), h.2)

  origin : (xs : List A) (y : B) → Contains (map f xs) y → (x : A) × Contains xs x × (y ≡ f x)
  origin [] y c = absurd (omega (arith, c.1))
  origin (x ∷ xs) y (zero, lt, is) = (x, (0, omega arith, refl), sym is)
  origin (x ∷ xs) y (suc k, lt, is) =
      let h = origin xs y (k, omega (arith, lt), is) in
      (h.0, (suc h.1.0, omega (arith, h.1.1), h.1.2), h.2)

  origin_at : (xs : List A) (k : ℕ) (y : B) → slice_get (map f xs) k ≡ Some y → (x : A) ×
      (slice_get xs k ≡ Some x) × (y ≡ f x)
  origin_at [] k y e = cc
  origin_at (x ∷ xs) zero y e = (x, refl, sym (same_Some (f x) y e))
  origin_at (x ∷ xs) (suc k) y e = origin_at xs k y e

module _ (setting : Setting) (start : ℕ) where
  -- a later end gives a longer span
  ends_good : (policy : Policy) (a b : ℕ) → start < a → start < b → IsAsGood policy a b →
      IsAsGood policy (a - 1) (b - 1)
  ends_good policies.All a b la lb good = tt
  ends_good Longest a b la lb good = omega (arith, good)
  ends_good Shortest a b la lb good = omega (arith, good)

  spans_good : (policy : Policy) (a b : ℕ) → start < a → start < b →
      IsAsGood policy (a - 1) (b - 1) → IsAsGood policy a b
  spans_good policies.All a b la lb good = tt
  spans_good Longest a b la lb good = omega (arith, good, la, lb)
  spans_good Shortest a b la lb good = omega (arith, good, la, lb)

  -- the spans to the best ends are the best spans from the start
  pub spans_best : (policy : Policy) (best : List ℕ) →
      AreBest policy (λ end. end) (EndsAt setting start) best →
      AreBest policy last_in (IsSpanFrom setting start) (map (span_to start) best)
  spans_best policy best bests = record {
    exactly = λ span. (
      λ c.
          let o = origin (span_to start) best span c in
          let f = (bests.exactly o.0).0 o.1 in
          subst (λ (s : Span). IsSpanFrom setting start s × ((other : Span) →
          IsSpanFrom setting start other → IsAsGood policy s.last other.last)) (sym o.2) (
            (o.0, f.0, refl),
            λ other from. subst (λ (s : Span). IsAsGood policy (o.0 - 1) s.last) (sym from.2)
                (ends_good policy o.0 from.0 f.0.0 from.1.0 (f.1 from.0 from.1)),
          ),
      λ f.
          let end = f.0.0 in
          subst (Contains (map (span_to start) best)) (sym f.0.2)
          (mapped (span_to start) best end ((bests.exactly end).1 (
            f.0.1,
            λ other is.
                let good = f.1 (span_to start other) (other, is, refl) in
                spans_good policy end other f.0.1.0 is.0
                (subst (λ (s : Span). IsAsGood policy s.last (other - 1)) f.0.2 good),
          ))),
    );
    some = λ span f.
        let y = bests.some f.0 f.1 in (span_to start y.0, mapped (span_to start) best y.0 y.1);
  }

  -- where there are no ends no span comes from the start
  pub no_spans : AreEnds setting start [] → (span : Span) → IsSpanFrom setting start span → ⊥
  no_spans are span f = nothing_in f.0 ((are.exactly f.0).1 f.1)

-- a span from a start begins there
pub span_begins : (setting : Setting) (start : ℕ) → IsStart setting.tokens start → (span : Span) →
    IsSpanFrom setting start span → first_in span ≡ start
span_begins setting start starts span f = ap (λ (s : Span). s.first) f.2

module _ (setting : Setting) (belongs : Belongs setting.alphabet setting.tokens setting.tables)
    (uncut : CutNothing setting.net) where
  -- a span comes from some start
  abbrev IsSpan : Span → Type 0
  IsSpan span = IsFound setting.tokens (IsSpanFrom setting) span

  abbrev IsIgnoringHit : NoVar → Hit → Type 0
  IsIgnoringHit novar hit =
      IsHit setting.alphabet setting.tokens setting.tables (net_grammar setting.net) Ignore novar hit

  -- the tokens up to an end are those of the span
  between_is : (start end : ℕ) (novar : NoVar) → start < end →
      hit_between setting.tokens novar start end ≡ hit_at setting.tokens (span_to start end)
  between_is start end novar lt =
      let back : end ≡ (end - 1) + 1 = omega (arith, lt) in
      ap (λ n. record {
        first = start;
        last = end - 1;
        text = text_between setting.tokens start n;
      }) back

  -- a span is that of a hit
  span_hit : (novar : NoVar) (span : Span) → IsSpan span →
      IsIgnoringHit novar (hit_at setting.tokens span)
  span_hit novar span (start, starts, (end, (lt, events, derives), is)) =
      subst (λ (s : Span). IsIgnoringHit novar (hit_at setting.tokens s)) (sym is) (record {
        start = start;
        starts = starts;
        end = end;
        events = events;
        derived = derives;
        rendered =
            let follow = followed setting belongs start end events starts derives in
            renders_uncut setting.tokens novar start end events starts follow.0 lt
            (derivation_uncut setting uncut start end events derives)
            ∙ ap Some (between_is start end novar lt);
      })

  -- a hit is that of a span
  hit_span : (novar : NoVar) (hit : Hit) → IsIgnoringHit novar hit →
      (span : Span) × IsSpan span × (hit ≡ hit_at setting.tokens span)
  hit_span novar hit h =
      let follow = followed setting belongs h.start h.end h.events h.starts h.derived in
      let lt = ends_after setting belongs h.start h.end h.events h.starts h.derived Ignore novar hit
      h.rendered in
      let is = renders_uncut setting.tokens novar h.start h.end h.events h.starts follow.0 lt
      (derivation_uncut setting uncut h.start h.end h.events h.derived) in
      let same : hit ≡ hit_between setting.tokens novar h.start h.end =
      same_Some hit (hit_between setting.tokens novar h.start h.end) (sym h.rendered ∙ is) in (
        span_to h.start h.end,
        (h.start, h.starts, (h.end, (lt, h.events, h.derived), refl)),
        same ∙ between_is h.start h.end novar lt,
      )

  -- the span of a derivation lies in the text
  span_lies : (span : Span) → IsSpan span → LiesIn setting.tokens span
  span_lies span (start, starts, (end, (lt, events, derives), is)) =
      let within = (followed setting belongs start end events starts derives).1 in
      subst (LiesIn setting.tokens) (sym is)
      (record { in_order = omega (arith, lt); within = omega (arith, lt, within) })

  stands_before : (a b : Span) → Precedes a b →
      StandsBefore (hit_at setting.tokens a) (hit_at setting.tokens b)
  stands_before a b (inl first) = inl first
  stands_before a b (inr last) = inr (inl last)

  module _ (policy : Policy) (kept spans : List Span)
      (are : AreKept policy first_in last_in IsSpan kept)
      (same : (span : Span) → Contains spans span ↔ Contains kept span) where
    is_span : (span : Span) → Contains spans span → IsSpan span
    is_span span c = ((are.exactly span).0 ((same span).0 c)).is

    pub spans_lie : All (LiesIn setting.tokens) spans
    spans_lie = λ k d lt. span_lies (get_or spans k d)
        (is_span (get_or spans k d) (Contains-get_or spans k d lt))

    abbrev hits : List Hit
    hits = map (hit_at setting.tokens) spans

    -- a kept span is that of a kept hit
    span_kept : (novar : NoVar) (span : Span) → IsKept policy first_in last_in IsSpan kept span →
        IsKept policy first_of last_of (IsIgnoringHit novar) hits (hit_at setting.tokens span)
    span_kept novar span k = record {
      is = span_hit novar span k.is;
      best = λ hit h at.
          let s = hit_span novar hit h in
          subst (λ (x : Hit). IsAsGood policy span.last x.last) (sym s.2)
          (k.best s.0 s.1 (sym (ap (λ (x : Hit). x.first) s.2) ∙ at));
      apart = λ single hit c lt.
          let o = origin (hit_at setting.tokens) spans hit c in
          let low = subst (λ (x : Hit). x.first < span.first) o.2 lt in
          subst (λ (x : Hit). x.last < span.first) (sym o.2)
          (k.apart single o.0 ((same o.0).0 o.1) low);
    }

    -- and the other way round
    hit_kept : (novar : NoVar) (span : Span) → IsSpan span →
        IsKept policy first_of last_of (IsIgnoringHit novar) hits (hit_at setting.tokens span) →
        IsKept policy first_in last_in IsSpan kept span
    hit_kept novar span is k = record {
      is = is;
      best = λ other s at. k.best (hit_at setting.tokens other) (span_hit novar other s) at;
      apart = λ single other c lt. k.apart single (hit_at setting.tokens other)
          (mapped (hit_at setting.tokens) spans other ((same other).1 c)) lt;
    }

    -- the hits of the kept spans are listed, each once and by place
    pub spans_listing : AreInOrder Precedes spans → (novar : NoVar) →
        IsKeptListing policy (IsIgnoringHit novar) hits
    spans_listing ordered novar = record {
      exactly = λ hit. (
        λ c.
            let o = origin (hit_at setting.tokens) spans hit c in
            keeps (IsIgnoringHit novar) hits hit policy
            (subst (IsKept policy first_of last_of (IsIgnoringHit novar) hits) (sym o.2)
            (span_kept novar o.0 ((are.exactly o.0).0 ((same o.0).0 o.1)))),
        λ h.
            let k = kept_by (IsIgnoringHit novar) hits hit policy h in
            let s = hit_span novar hit k.is in
            let at = subst (IsKept policy first_of last_of (IsIgnoringHit novar) hits) s.2 k in
            subst (Contains hits) (sym s.2)
            (mapped (hit_at setting.tokens) spans s.0 ((same s.0).1
            ((are.exactly s.0).1 (hit_kept novar s.0 s.1 at)))),
      );
      ordered = λ k a b first second.
          let x = origin_at (hit_at setting.tokens) spans k a first in
          let y = origin_at (hit_at setting.tokens) spans (k + 1) b second in
          subst (λ (f : Hit). StandsBefore f b) (sym x.2)
          (subst (λ (f : Hit). StandsBefore (hit_at setting.tokens x.0) f) (sym y.2)
          (stands_before x.0 y.0 (ordered k x.0 y.0 x.1 y.1)));
    }
