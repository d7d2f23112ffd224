-- The least text of the ways through what a search found is that of the walks of the net.
use Rattle.std.proofs.Common.{arith, ◌≡◌, ℕ, zero, suc, ◌<◌, List, [], ◌∷◌, ◌++◌, refl, sym, ◌∙◌, ap, subst, length, get_or, inl, inr, ◌↔◌, Bool, true, Some, None}
use Rattle.std.specs.Prelude.{Contains, Option, slice_get}
use Rattle.std.proofs.lemmas.Option.{slice_get_within, slice_get-get_or, get_or_from_slice_get}
use Rattle.std.proofs.lemmas.List.{get_or_past}
use Rattle.ux_base.proofs.Lists.{nothing_in, less_or}
use Rattle.ux_digraph.specs.Rules.{is_marked_at}
use Rattle.ux_net.specs.declared.net_graph.NetGraph.{NetGraph}
use Rattle.ux_inflect.specs.declared.classes.Ranks.{Ranks}
use Rattle.ux_inflect.specs.declared.config.Config.{Config}
use Rattle.ux_inflect.specs.declared.exploring.Link.{Link}
use Rattle.ux_inflect.specs.declared.refusing.Fault.{Fault}
use Rattle.ux_inflect.specs.declared.stroke.Detail.{Detail}
use Rattle.ux_inflect.specs.Endings.{AreRanks}
use Rattle.ux_inflect.specs.Faults.{HasFault, IsFaultyAt, IsFaulty}
use Rattle.ux_inflect.specs.Places.{Place, next, place_of}
use Rattle.ux_inflect.specs.Searches.{Walk, here, step, IsAt, IsExplored}
use Rattle.ux_inflect.specs.Ways.{Way, stay, go, Goes, IsBest, IsLeastOf, AreFalling}
use Rattle.ux_inflect.specs.Weights.{weight}
use Rattle.ux_inflect.proofs.OrderLemmas.{least_same}
use Rattle.ux_inflect.proofs.WeightLemmas.{lower_step}

module _ (detail : Detail) (net : List NetGraph) (start : Place) (keys : List Config)
    (links : List (List Link)) (known : IsExplored detail net start keys links) where
  -- a link leaves a configuration that is there, and is a step from its place
  link_from : (u : ℕ) (link : Link) → Contains (get_or links u []) link →
      (config : Config) × (slice_get keys u ≡ Some config)
      × ((q : Place) × Contains (next detail net (place_of config)) (link.text, q) × IsAt keys link.to q)
  link_from u link c = by (slice_get keys u) refl
    where
      by : (o : Option Config) → slice_get keys u ≡ o →
          (config : Config) × (slice_get keys u ≡ Some config)
          × ((q : Place) × Contains (next detail net (place_of config)) (link.text, q) × IsAt keys link.to q)
      by (Some config) e =
          let l = known.linked u config e in
          let same : get_or links u [] ≡ l.row = get_or_from_slice_get links u l.row [] l.found in
          (config, e, l.are.only link (subst (λ (row : List Link). Contains row link) same c))
      by None e = elim (less_or u (length links)) [
        | inl less ↦
            let within : u < length keys = (let n = known.len in omega (arith, n, less)) in
            absurd (never within e)
        | inr past ↦ absurd (nothing_in (subst (λ (row : List Link). Contains row link)
            (get_or_past links u [] past) c))
      ]
        where
          never : u < length keys → slice_get keys u ≡ None → ⊥
          never = go keys u
            where
              go : (xs : List Config) (u : ℕ) → u < length xs → slice_get xs u ≡ None → ⊥
              go [] u less e = absurd (omega arith)
              go (x ∷ xs) zero less e = cc
              go (x ∷ xs) (suc u) less e = go xs u (omega arith) e

  -- weights fall along the links
  module _ (ranks : Ranks) (are : AreRanks net ranks) where
    abbrev weight_in : Option Config → ℕ
    weight_in None = 0
    weight_in (Some config) = weight ranks (place_of config).frames

    pub falling : AreFalling links
    falling = record {
      rank = λ u. weight_in (slice_get keys u);
      falls = λ u link c.
          let f = link_from u link c in
          let s = f.2 in
          let lower = (lower_step detail net ranks are (place_of f.0) link.text s.0
          (known.met u f.0 f.1) s.1).1 in
          let there : (place_of s.2.0) ≡ s.0 = s.2.2 in
          subst (λ n. weight_in (slice_get keys link.to) < n) (sym (ap weight_in f.1))
          (subst (λ n. n < weight ranks (place_of f.0).frames) (sym (ap weight_in s.2.1))
          (subst (λ (p : Place). weight ranks p.frames < weight ranks (place_of f.0).frames)
          (sym there) lower));
      inside = λ u link c.
          let f = link_from u link c in
          let w = slice_get_within keys link.to f.2.2.0 f.2.2.1 in
          let n = known.len in omega (arith, n, w);
    }

  -- a way is a walk
  way_walk : {u w : ℕ} {text : List ℕ} → Way links u text w → (p : Place) → IsAt keys u p →
      (q : Place) × Walk detail net p text q × IsAt keys w q
  way_walk stay p at = (p, here, at)
  way_walk (go {u = u} {rest = rest} link c way) p at =
      let f = link_from u link c in
      let same : f.0 ≡ at.0 = cc (f.1, at.1) in
      let there : place_of f.0 ≡ p = ap place_of same ∙ at.2 in
      let s = f.2 in
      let r = way_walk way s.0 s.2 in
      (r.0, subst (λ (p : Place). Walk detail net p (link.text ++ rest) r.0) there (step s.1 r.1), r.2)

  -- and a walk is a way
  pub walk_way : {p q : Place} {text : List ℕ} → Walk detail net p text q → (u : ℕ) → IsAt keys u p →
      (w : ℕ) × Way links u text w × IsAt keys w q
  walk_way here u at = (u, stay, at)
  walk_way (step {p = p} {q = q} {text = text} {rest = rest} c walk) u at =
      let l = known.linked u at.0 at.1 in
      let w = l.are.whole text q (subst (λ (x : Place). Contains (next detail net x) (text, q))
      (sym at.2) c) in
      let r = walk_way walk w.0.to w.3 in
      let inside : Contains (get_or links u []) w.0 = subst (λ (row : List Link). Contains row w.0)
      (sym (get_or_from_slice_get links u l.row [] l.found)) w.1 in
      (r.0, subst (λ (t : List ℕ). Way links u (t ++ rest) r.0) w.2 (go w.0 inside r.1), r.2)

  module _ (fault : Fault) (marks : List Bool)
      (marked : (n : ℕ) → (is_marked_at marks n ≡ true) ↔ IsFaultyAt fault keys n) where
    goes_faulty : (text : List ℕ) → Goes links marks 0 text → IsFaulty detail net start fault text
    goes_faulty text goes =
        let w = way_walk goes.way start known.first in
        let f = (marked goes.last).0 goes.is_wanted in
        let same : f.config ≡ w.2.0 = cc (f.found, w.2.1) in
        record {
          place = w.0;
          walk = w.1;
          has = subst (λ (p : Place). HasFault fault p) (ap place_of same ∙ w.2.2) f.has;
        }

    faulty_goes : (text : List ℕ) → IsFaulty detail net start fault text → Goes links marks 0 text
    faulty_goes text f =
        let w = walk_way f.walk 0 known.first in
        record {
          last = w.0;
          way = w.1;
          is_wanted = (marked w.0).1 (record {
            config = w.2.0;
            found = w.2.1;
            has = subst (λ (p : Place). HasFault fault p) (sym w.2.2) f.has;
          });
        }

    -- the least text of a way to a marked configuration is that of a walk with the fault
    pub best_faulty : (path : Option (List ℕ)) → IsBest links marks 0 path →
        IsLeastOf (IsFaulty detail net start fault) path
    best_faulty path best = least_same (Goes links marks 0) (IsFaulty detail net start fault) path
        goes_faulty faulty_goes best

    pub none_faulty : ((n : ℕ) → is_marked_at marks n ≡ true → ⊥) →
        IsLeastOf (IsFaulty detail net start fault) None
    none_faulty none = λ text f. let g = faulty_goes text f in none g.last g.is_wanted

-- whether the configuration of a number has the fault
pub faulty_at : (fault : Fault) (configs : List Config) (n : ℕ) (config : Config) → n < length configs →
    config ≡ get_or configs n config → (b : Bool) → (b ≡ true) ↔ HasFault fault (place_of config) →
    (b ≡ true) ↔ IsFaultyAt fault configs n
faulty_at fault configs n config less is b has =
    let found = slice_get-get_or configs n config less ∙ ap Some (sym is) in (
      λ t. record { config = config; found = found; has = has.0 t },
      λ f.
          let same : f.config ≡ config = cc (f.found, found) in
          has.1 (subst (λ (x : Config). HasFault fault (place_of x)) same f.has),
    )
