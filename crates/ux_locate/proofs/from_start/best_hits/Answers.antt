use Rattle.std.proofs.Common.{ℕ, List, arith, sym, subst}
use Rattle.std.specs.Prelude.{◌↔◌, Contains}
use Rattle.std.proofs.lemmas.Result.{IfOk-weaker}
use Rattle.ux_outputs.specs.declared.event.Event.{Event}
use Rattle.ux_walk.specs.Settings.{Derives}
use Rattle.ux_outputs.specs.declared.hit.Hit.{Hit}
use Rattle.ux_locate.specs.Finding.{IsHitFrom, IsRendered, setting_in}
use Rattle.ux_locate.specs.Keeping.{AreBest, last_of}
use Rattle.ux_locate.proofs.HitLemmas.{hits_best}
use Rattle.ux_locate.proofs.StartLemmas.{start_within}
use Rattle.ux_locate.proofs.from_start.best_hits.Goals as goal

pub walk_through-requires : goal.walk_through-requires
walk_through-requires g c = record {
  measured = c.is_measured.ensures;
  table = c.requires.masks;
  sound = c.requires.kept;
  told = c.requires.told;
  inside =
      let low = start_within c.args.search.now.masked.now.text.now c.args.start c.requires.starts in
      omega (arith, low);
}

pub best_rendered-requires : goal.best_rendered-requires
best_rendered-requires g c end events inside =
    let found = c.in_ok-found.ensures.follows end events
    (subst (λ (l : List (ℕ × List Event)). Contains l (end, events)) c.as_slice.ensures.value
    inside) in
    record { end = end; follows = found.0; within = found.1 }

pub returns-clause-best : goal.returns-clause-best
returns-clause-best g c =
    let search = c.args.search.now in
    let start = c.args.start in
    let found = c.as_slice.result.now in
    let rendered : Hit → Type 0 = λ hit. (derivation : ℕ × List Event) × Contains found derivation
    × IsRendered search start derivation hit in
    IfOk-weaker c.best_rendered.result
    (λ best. AreBest c.args.policy last_of rendered best.items)
    (λ best. AreBest c.args.policy last_of (IsHitFrom search start) best.items)
    (λ best. hits_best search start c.args.policy found
    (λ end events. subst (λ (l : List (ℕ × List Event)). Contains l (end, events)
    ↔ Derives (setting_in search) start end events) (sym c.as_slice.ensures.value)
    (c.in_ok-found.ensures.exactly end events)) best.items) c.best_rendered.ensures
