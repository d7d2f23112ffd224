-- A visit begins and ends with no open node, and when all nodes were met their numbers are those of
-- the components.
use Rattle.std.proofs.Common.{arith, ◌≡◌, ◌≢◌, ℕ, ◌<◌, ◌≤◌, List, [], ◌∷◌, ◌++◌, refl, sym, ◌∙◌, ap, subst, length, get_or, set}
use Rattle.std.specs.Prelude.{Contains, map}
use Rattle.std.proofs.lemmas.List.{get_or-map, length-map, get_or-set_same}
use Rattle.ux_base.proofs.Lists.{nothing_in}
use Rattle.ux_digraph.proofs.PathsLemmas.{edge_from, path_apart}
use Rattle.ux_digraph.proofs.MarksLemmas.{settled_still, opened_keeps, new_is_not_open}
use Rattle.ux_digraph.proofs.GroupingLemmas.{target_opened}
use Rattle.ux_digraph.specs.declared.grouping.Mark.{Mark}
use Rattle.ux_digraph.specs.declared.grouping.Mark.TheVariants.{New, Open, Done}
use Rattle.ux_digraph.specs.declared.grouping.Group.{Group}
use Rattle.ux_digraph.specs.Paths.{row_of, Path, one, more, Reaches, IsInside}
use Rattle.ux_digraph.specs.Components.{AreComponents}
use Rattle.ux_digraph.specs.Grouping.{mark_at, number_of, IsDone, Opened, Searching, Resting, KeepsMet}

-- with no open node the lists are empty
rests_empty : (edges : List (List ℕ)) (marks : List Mark) (count node : ℕ) →
    Resting edges marks count → Opened edges marks [] [] [] (λ v. node ≡ v)
rests_empty edges marks count node r = record {
  places = record {
    placed = λ i h. absurd (omega arith);
    listed = λ u i e. absurd (r.none u i e);
  };
  leads = λ i j h k level. absurd (omega arith);
  children = λ i h v e. absurd (omega arith);
  source = λ t h. absurd (omega arith);
  rises = tt;
  bounded = λ g c. absurd (nothing_in c);
  bottom = λ h. absurd (omega arith);
}

module _ (edges : List (List ℕ)) (marks : List Mark) (count node : ℕ)
    (r : Resting edges marks count) (inside : node < length marks)
    (fresh : mark_at marks node ≡ New) where
  pub visit_begins : (trail ahead : List ℕ) (groups : List Group) (new : List Mark)
      (longer further : List ℕ) (cut : List Group) → trail ≡ [] → ahead ≡ [] → groups ≡ [] →
      new ≡ set marks node (Open (length trail)) → longer ≡ trail ++ node ∷ [] →
      further ≡ ahead ++ row_of edges node →
      cut ≡ groups ++ record { first = length trail; ahead = length ahead } ∷ [] →
      Searching edges new longer further cut count
  visit_begins trail ahead groups new longer further cut no_node no_target no_group a b d e =
      rw (a, b, d, e, no_node, no_target, no_group) (record {
        settled = settled_still marks node 0 inside fresh edges count r.settled;
        opened = target_opened edges marks [] [] [] node (rests_empty edges marks count node r)
            inside fresh (λ i h. absurd (omega arith));
      })

  pub visit_keeps : (place : ℕ) (new : List Mark) → new ≡ set marks node (Open place) →
      KeepsMet marks new
  visit_keeps place new is = rw is (opened_keeps marks node place inside fresh)

  pub visit_meets : (place : ℕ) (new : List Mark) → new ≡ set marks node (Open place) →
      mark_at new node ≢ New
  visit_meets place new is e = new_is_not_open
      (sym e ∙ (ap (λ (m : List Mark). mark_at m node) is
      ∙ get_or-set_same marks node (Open place) New inside))

-- with no group no node is open
pub visit_ends : (edges : List (List ℕ)) (marks : List Mark) (trail ahead : List ℕ)
    (groups : List Group) (count : ℕ) → groups ≡ [] →
    Searching edges marks trail ahead groups count → Resting edges marks count
visit_ends edges marks trail ahead groups count none s = record {
  settled = s.settled;
  none = λ u i e.
      let l = (s.opened.places.listed u i e).0 in
      let b = s.opened.bottom (omega arith) in
      nothing_in (subst (λ (x : List Group). Contains x b.0) none b.1);
}

-- all nodes were met
module _ (edges : List (List ℕ)) (inside : IsInside edges) (marks : List Mark) (count : ℕ)
    (r : Resting edges marks count) (met : (u : ℕ) → u < length edges → mark_at marks u ≢ New) where
  all_done : (u : ℕ) → u < length edges → IsDone marks u
  all_done u h = go (mark_at marks u) refl
    where
      go : (m : Mark) → mark_at marks u ≡ m → IsDone marks u
      go New e = absurd (met u h e)
      go (Open i) e = absurd (r.none u i e)
      go (Done k) e = (k, e)

  abbrev numbers : List ℕ
  numbers = map number_of marks

  number_at : (u k : ℕ) → u < length edges → mark_at marks u ≡ Done k → get_or numbers u 0 ≡ k
  number_at u k h e =
      let l = r.settled.len in
      get_or-map number_of marks u New 0 (omega arith) ∙ ap number_of e

  below : (u : ℕ) → u < length edges → get_or numbers u 0 < length edges
  below u h =
      let d = all_done u h in
      let is = number_at u d.0 h d.1 in
      let less = r.settled.below u d.0 d.1 in
      let room = r.settled.room in
      omega arith

  leads : (u v : ℕ) → u < length edges → v < length edges →
      get_or numbers u 0 ≡ get_or numbers v 0 → Reaches edges u v
  leads u v hu hv same =
      let a = all_done u hu in
      let b = all_done v hv in
      let k : b.0 ≡ a.0 = sym (number_at v b.0 hv b.1) ∙ (sym same ∙ number_at u a.0 hu a.1) in
      r.settled.joined u v a.0 a.1 (b.1 ∙ ap (λ n. Done n) k)

  falls : (u v : ℕ) → Contains (row_of edges u) v → get_or numbers v 0 ≤ get_or numbers u 0
  falls u v c =
      let hu = edge_from edges u v c in
      let d = all_done u hu in
      let f = r.settled.falls u d.0 d.1 v c in
      let a = number_at u d.0 hu d.1 in
      let b = number_at v f.0 (inside.inside u v c) f.1 in
      let least = f.2 in
      omega arith

  falls_along : {u v : ℕ} → Path edges u v → get_or numbers v 0 ≤ get_or numbers u 0
  falls_along (one {u = u} {v = v} c) = falls u v c
  falls_along (more {u = u} {v = w} {w = v} c p) =
      let first = falls u w c in
      let rest = falls_along p in
      omega arith

  pub components_found : AreComponents edges (map number_of marks)
  components_found = record {
    len = length-map marks number_of ∙ r.settled.len;
    below = below;
    joined = λ u v hu hv same n. (
      path_apart edges (leads u v hu hv same) n,
      path_apart edges (leads v u hv hu (sym same)) (λ e. n (sym e)),
    );
    apart = λ u v p q.
        let down = falls_along p in
        let up = falls_along q in
        omega arith;
    falls = falls;
  }
