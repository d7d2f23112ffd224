use Rattle.std.proofs.Common.{◌∙◌, List, [], ◌+◌, arith, sym, ap, subst}
use Rattle.std.proofs.lemmas.Bool.Decides.{Decides-eqb}
use Rattle.std.proofs.lemmas.List.{nil_from_length}
use Rattle.ux_tokens.specs.Tokens.{Token}
use Rattle.ux_walk.specs.Ends.{AreEnds}
use Rattle.ux_walk.specs.Settings.{Setting}
use Rattle.ux_walker.specs.FirstEnds.{IsFirstEnd}
use Rattle.ux_locate.specs.Finding.{IsFoundBefore, IsHitFrom, setting_in}
use Rattle.ux_locate.specs.Hits.{IsStart}
use Rattle.ux_locate.specs.Keeping.{AreKept, first_of, last_of}
use Rattle.ux_locate.proofs.FirstEndsLemmas.{first_none}
use Rattle.ux_locate.proofs.HitLemmas.{hit_begins, no_hits}
use Rattle.ux_locate.proofs.KeepingLemmas.{told_reach}
use Rattle.ux_locate.proofs.StartLemmas.{kept_all, kept_inside, kept_next, kept_skip, kept_start}
use Rattle.ux_locate.proofs.by_start.hits_from_starts.Goals as goal

pub loop-start-init : goal.loop-start-init
loop-start-init g c =
    let search = c.args.search.now in
    let From = IsHitFrom search in
    record {
      same = c.requires.made;
      kept = c.requires.kept;
      hits = subst (AreKept search.policy first_of last_of (IsFoundBefore search.masked.now.text.now From 0))
          (sym c.new-hits.ensures.items)
          (kept_start search.policy first_of last_of search.masked.now.text.now From
          (λ start. hit_begins search start c.requires.masks c.requires.uncut));
    }

pub find_first_end-requires : goal.find_first_end-requires
find_first_end-requires g c =
    let text = ap (λ (s : Setting). s.tokens) c.loop-start.invariant.same in
    subst (λ (tokens : List Token). IsStart tokens c.loop-start.start) (sym text)
    (c.may_find.ensures.starts c.if-not-may_find.false)

pub loop-start-preserved-then-is_reached : goal.loop-start-preserved-then-is_reached
loop-start-preserved-then-is_reached g c =
    let search = c.args.search.now in
    let hits = c.loop-start.hits.items in
    let told = told_reach search.policy last_of hits c.as_slice.result.now c.hits_reach.result
    c.loop-start.start c.is_reached.result c.is_reached.ensures c.hits_reach.ensures
    c.as_slice.ensures.value in
    record {
      same = c.loop-start.invariant.same;
      kept = c.loop-start.invariant.kept;
      hits = kept_inside search.policy first_of last_of search.masked.now.text.now (IsHitFrom search)
          (λ start. hit_begins search start c.requires.masks c.requires.uncut)
          c.loop-start.start hits c.loop-start.invariant.hits (told.0 c.if-is_reached.true);
    }

pub loop-start-preserved-then-not-may_find : goal.loop-start-preserved-then-not-may_find
loop-start-preserved-then-not-may_find g c =
    let search = c.args.search.now in
    let start = c.loop-start.start in
    record {
      same = c.loop-start.invariant.same;
      kept = c.loop-start.invariant.kept;
      hits = kept_skip search.policy first_of last_of search.masked.now.text.now (IsHitFrom search)
          (λ start. hit_begins search start c.requires.masks c.requires.uncut)
          start c.loop-start.hits.items c.loop-start.invariant.hits
          (λ starts. no_hits search start c.requires.masks
          (subst (λ (s : Setting). AreEnds s start []) c.loop-start.invariant.same
          (c.may_find.ensures.nothing c.if-not-may_find.true starts)) starts);
    }

pub loop-start-preserved-then-is_empty : goal.loop-start-preserved-then-is_empty
loop-start-preserved-then-is_empty g c =
    let search = c.args.search.now in
    let start = c.loop-start.start in
    let ends = c.find_first_end.new.ends in
    let none = nil_from_length ends.items
    (sym ends.ok.0 ∙ (Decides-eqb ends.len 0).0 (sym c.if-is_empty.ensures)) in
    let first = subst (λ (s : Setting). IsFirstEnd s start ends.items)
    c.loop-start.invariant.same c.in_ok-find_first_end.ensures.first in
    record {
      same = c.find_first_end.ensures.same ∙ c.loop-start.invariant.same;
      kept = c.loop-start.invariant.kept;
      hits = kept_skip search.policy first_of last_of search.masked.now.text.now (IsHitFrom search)
          (λ start. hit_begins search start c.requires.masks c.requires.uncut)
          start c.loop-start.hits.items c.loop-start.invariant.hits
          (λ starts. no_hits search start c.requires.masks
          (first_none (setting_in search) start
          (subst (IsFirstEnd (setting_in search) start) none first)) starts);
    }

pub loop-start-preserved : goal.loop-start-preserved
loop-start-preserved g c =
    let search = c.args.search.now in
    let start = c.loop-start.start in
    let hits = c.loop-start.hits.items in
    let told = told_reach search.policy last_of hits c.as_slice.result.now c.hits_reach.result
    start c.is_reached.result c.is_reached.ensures c.hits_reach.ensures
    c.as_slice.ensures.value in
    record {
      same = c.find_first_end.ensures.same ∙ c.loop-start.invariant.same;
      kept = c.best_hits.ensures.kept;
      hits = subst (AreKept search.policy first_of last_of
          (IsFoundBefore search.masked.now.text.now (IsHitFrom search) (start + 1)))
          (sym c.in_ok-append.ensures.items)
          (kept_next search.policy first_of last_of search.masked.now.text.now (IsHitFrom search)
          (λ start. hit_begins search start c.requires.masks c.requires.uncut)
          start hits c.loop-start.invariant.hits (told.1 c.if-is_reached.false)
          (c.may_find.ensures.starts c.if-not-may_find.false)
          c.in_ok-best.best.items c.in_ok-best.ensures.best);
    }

pub returns : goal.returns
returns g c =
    let search = c.args.search.now in
    kept_all search.policy first_of last_of search.masked.now.text.now (IsHitFrom search)
    (λ start. hit_begins search start c.requires.masks c.requires.uncut)
    c.loop-start.start c.loop-start.hits.items
    (omega (arith, c.loop-start-test.false, c.len-start-end.ensures.len))
    c.loop-start.invariant.hits
