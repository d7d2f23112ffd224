use Rattle.std.proofs.Common.{arith, ◌≡◌, ◌∙◌, ℕ, ◌<◌, ◌≤◌, List, [], ◌++◌, Vec, Global, ap, inl, inr, refl, subst, sym, ◌⊎◌}
use Rattle.std.specs.Prelude.{Contains}
use Rattle.std.proofs.lemmas.Iterator.Adapters.{YieldsList-from_vec}
use Rattle.std.proofs.lemmas.Iterator.Consumers.{YieldsList-end, YieldsList-so_far, YieldsList-turn}
use Rattle.std.proofs.lemmas.List.{map-id}
use Rattle.std.proofs.lemmas.List.Elements.{Contains-push}
use Rattle.ux_base.specs.declared.settings.Policy.{Policy}
use Rattle.ux_outputs.specs.declared.hit.Hit.{Hit}
use Rattle.ux_locate.specs.Keeping.{AreKept, IsReached, first_of, last_of, reach_of}
use Rattle.ux_locate.proofs.PassLemmas.{IsPending, no_later, pending_all, pending_hit, pending_start, pending_turn}
use Rattle.ux_locate.proofs.keeping.kept_of.Goals.{then-hit-first+in_ok-append, else-hit-first}
use Rattle.ux_locate.proofs.keeping.kept_of.Goals as goal

pub loop-hit-init : goal.loop-hit-init
loop-hit-init c = record {
  pending = subst (λ (l : List Hit). IsPending c.args.policy [] 0 l c.new-best.result.items)
      (sym c.new-kept.ensures.items)
      (subst (λ (l : List Hit). IsPending c.args.policy [] 0 [] l) (sym c.new-best.ensures.items)
      (pending_start c.args.policy));
  from = inl refl;
}

-- the next hit begins no earlier than the token
no_earlier : (seen : List Hit) (first next : ℕ) →
    ((first ≡ 0) ⊎ ((x : Hit) × Contains seen x × (x.first ≡ first))) →
    ((x : Hit) → Contains seen x → x.first ≤ next) → first ≤ next
no_earlier seen first next (inl zero) low = omega (arith, zero)
no_earlier seen first next (inr (x, c, at)) low =
    let le = low x c in
    omega (arith, le, at)

pending_as : (policy : Policy) (seen : List Hit) (first token : ℕ) (kept held best top : List Hit) →
    token ≡ first → held ≡ kept → top ≡ best → IsPending policy seen first kept best →
    IsPending policy seen token held top
pending_as policy seen first token kept held best top f k b pending =
    subst (λ (n : ℕ). IsPending policy seen n held top) (sym f)
    (subst (λ (l : List Hit). IsPending policy seen first l top) (sym k)
    (subst (λ (l : List Hit). IsPending policy seen first kept l) (sym b) pending))

reached_at : (policy : Policy) (kept held : List Hit) (first token : ℕ) → kept ≡ held →
    first ≡ token → IsReached policy (reach_of last_of kept) first →
    IsReached policy (reach_of last_of held) token
reached_at policy kept held first token k f reached =
    subst (λ (n : ℕ). IsReached policy (reach_of last_of held) n) f
    (subst (λ (l : List Hit). IsReached policy (reach_of last_of l) first) k reached)

pub loop-hit-preserved : goal.loop-hit-preserved
loop-hit-preserved c =
    let policy = c.args.policy in
    let hit = c.in-Some.hit in
    let seen = c.loop-hit.yielded in
    let first = c.loop-hit.first in
    let kept = c.loop-hit.kept.items in
    let best = c.loop-hit.best.items in
    let pending = c.loop-hit.invariant.pending in
    let gives = c.into_iter-hit-iterator.ensures.into_iter_gives in
    let list = YieldsList-from_vec c.args.hits.items gives.0 (gives.1 ∙ c.args.hits.ok.0) in
    let turn = YieldsList-turn list seen _ c.loop-hit.yielded_by c.next.result c.next.new.self hit
    c.in-Some.is c.next.ensures.steps in
    let so_far = sym (map-id seen) ∙ YieldsList-so_far list seen _ c.loop-hit.yielded_by in
    let le = no_earlier seen first hit.first c.loop-hit.invariant.from
    (no_later c.args.hits.items seen hit c.requires so_far turn.0 turn.1) in
    let joined : IsPending policy seen c.if-hit-first.first c.if-hit-first.kept.items
    c.if-hit-first.best.items × (hit.first ≡ c.if-hit-first.first) =
    elim c.if-hit-first.branch [
      | then-hit-first+in_ok-append w ↦
          let lt : first < hit.first = omega (arith, le, w.if-hit-first.true) in (
            pending_as policy seen hit.first c.if-hit-first.first (kept ++ best)
                c.if-hit-first.kept.items [] c.if-hit-first.best.items w.first-is
                (ap (λ (v : Vec Hit Global). v.items) w.kept-is ∙ w.in_ok-append.ensures.items)
                (ap (λ (v : Vec Hit Global). v.items) w.best-is
                ∙ w.in_ok-append.ensures.other_items)
                (pending_turn policy seen first kept best pending hit.first lt),
            sym w.first-is,
          )
      | else-hit-first w ↦ (
        pending_as policy seen first c.if-hit-first.first kept c.if-hit-first.kept.items best
            c.if-hit-first.best.items w.first-is
            (ap (λ (v : Vec Hit Global). v.items) w.kept-is)
            (ap (λ (v : Vec Hit Global). v.items) w.best-is) pending,
        w.if-hit-first.false ∙ sym w.first-is,
      )
    ] in
    record {
      pending = pending_hit policy seen c.if-hit-first.first c.if-hit-first.kept.items
          c.if-hit-first.best.items joined.0 hit joined.1 c.add_apart.new.best.items
          (λ r. c.in_ok-add_apart.ensures.out
          (reached_at policy c.if-hit-first.kept.items c.as_slice.result.now
          c.if-hit-first.first hit.first (sym c.as_slice.ensures.value) (sym joined.1) r))
          (λ free. c.in_ok-add_apart.ensures.added (λ r. free
          (reached_at policy c.as_slice.result.now c.if-hit-first.kept.items hit.first
          c.if-hit-first.first c.as_slice.ensures.value joined.1 r)));
      from = inr (hit, Contains-push seen hit, joined.1);
    }

pub returns : goal.returns
returns c =
    let policy = c.args.policy in
    let listed = c.args.hits.items in
    let gives = c.into_iter-hit-iterator.ensures.into_iter_gives in
    let all =
    YieldsList-end (YieldsList-from_vec listed gives.0 (gives.1 ∙ c.args.hits.ok.0))
    c.loop-hit.yielded _ c.loop-hit.yielded_by c.next.result c.next.new.self c.in-None.is
    c.next.ensures.steps in
    let same : c.loop-hit.yielded ≡ listed = sym (map-id c.loop-hit.yielded) ∙ all.0 in
    subst (λ (l : List Hit). AreKept policy first_of last_of (Contains l)
    c.append-2.new.self.items) same
    (subst (λ (l : List Hit). AreKept policy first_of last_of (Contains c.loop-hit.yielded) l)
    (sym c.in_ok-append-2.ensures.items)
    (pending_all policy c.loop-hit.yielded c.loop-hit.first c.loop-hit.kept.items
    c.loop-hit.best.items c.loop-hit.invariant.pending))
