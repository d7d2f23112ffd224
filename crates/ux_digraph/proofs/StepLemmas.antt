-- One step of the search, as its function answers it.
use Rattle.std.proofs.Common.{arith, ◌≡◌, ℕ, ◌<◌, ◌≤◌, List, [], ◌∷◌, ◌++◌, sym, ◌∙◌, subst, length, get_or, set}
use Rattle.std.proofs.lemmas.List.{get_or_default}
use Rattle.ux_digraph.proofs.MarksLemmas.{settled_still}
use Rattle.ux_digraph.proofs.GroupingLemmas.{target_taken, all_lead, target_inside, target_done, target_open, target_opened}
use Rattle.ux_digraph.specs.declared.grouping.Mark.{Mark}
use Rattle.ux_digraph.specs.declared.grouping.Mark.TheVariants.{New, Open, Done}
use Rattle.ux_digraph.specs.declared.grouping.Group.{Group}
use Rattle.ux_digraph.specs.Paths.{row_of, IsInside}
use Rattle.ux_digraph.specs.Grouping.{mark_at, Opened, Searching, AreJoined}

-- what was read of the marks is the mark
pub mark_read : (marks : List Mark) (i : ℕ) (r m : Mark) → i < length marks →
    r ≡ get_or marks i r → r ≡ m → mark_at marks i ≡ m
mark_read marks i r m inside read is = get_or_default marks i New r inside ∙ (sym read ∙ is)

-- the last target of the last group was taken
module _ (edges : List (List ℕ)) (inside : IsInside edges) (marks : List Mark)
    (trail now ahead : List ℕ) (gs : List Group) (g : Group) (target count : ℕ)
    (is : now ≡ ahead ++ target ∷ []) (some : g.ahead ≤ length ahead)
    (s : Searching edges marks trail now (gs ++ g ∷ []) count) where
  taken : Opened edges marks trail ahead (gs ++ g ∷ []) (λ v. target ≡ v)
  taken = target_taken edges marks trail now ahead gs g target is some s.opened

  pub target_below : target < length edges
  target_below = target_inside edges marks trail now ahead gs g target is some s.opened inside

  pub target_marked : target < length marks
  target_marked =
      let below = target_below in
      let len = s.settled.len in omega arith

  pub new_followed : (read : Mark) → read ≡ get_or marks target read → read ≡ New →
      (new : List Mark) (longer further : List ℕ) (groups more : List Group) →
      new ≡ set marks target (Open (length trail)) → longer ≡ trail ++ target ∷ [] →
      further ≡ ahead ++ row_of edges target → groups ≡ gs ++ g ∷ [] →
      more ≡ groups ++ record { first = length trail; ahead = length ahead } ∷ [] →
      Searching edges new longer further more count
  new_followed read at fresh new longer further groups more one two three back four =
      let is_new = mark_read marks target read New target_marked at fresh in
      rw (one, two, three, four, back) (record {
        settled = settled_still marks target (length trail) target_marked is_new edges count
            s.settled;
        opened = target_opened edges marks trail ahead (gs ++ g ∷ []) target taken target_marked
            is_new (all_lead edges marks trail now ahead gs g target is some s.opened);
      })

  pub open_followed : (read : Mark) (place : ℕ) → read ≡ get_or marks target read →
      read ≡ Open place → (groups rest : List Group) → groups ≡ gs ++ g ∷ [] →
      AreJoined groups place rest → Searching edges marks trail ahead rest count
  open_followed read place at is_open groups rest back joined = record {
    settled = s.settled;
    opened = target_open edges marks trail ahead (gs ++ g ∷ []) target taken rest place
        (subst (λ (x : List Group). AreJoined x place rest) back joined)
        (mark_read marks target read (Open place) target_marked at is_open)
        (all_lead edges marks trail now ahead gs g target is some s.opened);
  }

  pub done_followed : (read : Mark) (number : ℕ) → read ≡ get_or marks target read →
      read ≡ Done number → (groups : List Group) → groups ≡ gs ++ g ∷ [] →
      Searching edges marks trail ahead groups count
  done_followed read number at is_done groups back = rw back (record {
    settled = s.settled;
    opened = target_done edges marks trail ahead (gs ++ g ∷ []) target taken
        (number, mark_read marks target read (Done number) target_marked at is_done);
  })
