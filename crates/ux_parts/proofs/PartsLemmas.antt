-- The parts that are made of a net's entries are its parts: a net with marks can be searched in their
-- order.
use Rattle.std.proofs.Common.{arith, ◌≡◌, ℕ, zero, suc, ◌<◌, ◌≤◌, List, [], ◌∷◌, refl, sym, ap, subst, ◌∙◌, length, map, true, cond}
use Rattle.std.specs.Prelude.{Option, Some, None, slice_get, Contains}
use Rattle.std.specs.List.{flat_map}
use Rattle.std.proofs.lemmas.Option.{slice_get-get_or, slice_get_within}
use Rattle.ux_net.specs.declared.label.Label.{Label}
use Rattle.ux_net.specs.declared.label.Label.TheVariants as label
use Rattle.ux_net.specs.declared.net_graph.NetGraph.{NetGraph}
use Rattle.ux_net.specs.declared.state.Edge.{Edge}
use Rattle.ux_net.specs.declared.state.State.{State}
use Rattle.ux_net.specs.Closings.{closing_of as told_of, TellsClosings}
use Rattle.ux_net.specs.Marked.{IsMarked}
use Rattle.ux_net.specs.Measured.{rank_of}
use Rattle.ux_net.specs.Nets.{states_in, states_of, net_grammar}
use Rattle.ux_base.proofs.FirstsLemmas.{Contains-from_place}
use Rattle.ux_base.proofs.Lists.{contains_first, contains_later}
use Rattle.ux_base.proofs.JoinedLists.{contains_joined}
use Rattle.ux_parts.specs.declared.part.Part.{Part}
use Rattle.ux_parts.specs.declared.parts.Parts.{Parts}
use Rattle.ux_parts.specs.Order.{Entry, entry_of, is_opening, entries_by, entries_from, entries_at, all_entries, IsOrderOf, part_of, AreNumbers}
use Rattle.ux_parts.specs.Ordered.{IsOrdered}
use Rattle.ux_parts.specs.Parts.{number_of, closing_in, closing_at, closing_of, closing_list, Begins, TellsClosing, Opens, IsNamed, ArePartsOf}
use Rattle.ux_parts.proofs.Mapped.{mapped_at, map_at}
use Rattle.ux_parts.proofs.Marked.{is_ordered, has_levels}
use Rattle.ux_parts.proofs.OrderingLemmas.{among, graph_entry, one_place, by_rank}

module _ (net : List NetGraph) (parts : Parts) (order : List Entry) (marked : IsMarked net)
    (told : TellsClosings net) (is : IsOrderOf (all_entries net (length net)) order)
    (list : parts.list ≡ map (part_of net) order)
    (numbers : AreNumbers order (length order) parts.numbers) where
  -- an entry has a number
  begins : (g state : ℕ) → 1 ≤ g → g ≤ length net →
      Contains (entries_at net g) (entry_of net g state) → Begins parts g state
  begins g state from to there =
      let entry = entry_of net g state in
      let c = graph_entry net order is g from to entry there in
      let at : slice_get order c.0 ≡ Some entry =
      slice_get-get_or order c.0 entry c.1 ∙ ap Some c.2 in
      numbers.each c.0 entry (slice_get_within order c.0 entry at) at

  -- the part at a state
  part_at : (g state number : ℕ) → number_of parts g state ≡ Some number →
      (entry : Entry) × (slice_get parts.list number ≡ Some (part_of net entry)) × (entry.2 ≡ g)
      × (entry.3 ≡ state)
  part_at g state number at =
      let r = numbers.right g state number at in (
        r.0,
        subst (λ (l : List Part). slice_get l number ≡ Some (part_of net r.0)) (sym list)
            (map_at (part_of net) order number r.0 r.1),
        r.2,
        r.3,
      )

  -- and where it is closed
  closing_told : (g state : ℕ) → Begins parts g state →
      closing_of parts g state ≡ closing_list (told_of net g state)
  closing_told g state b =
      let p = part_at g state b.0 b.1 in
      ap (closing_at parts) b.1 ∙ (ap closing_in p.1
      ∙ (ap (λ n. closing_list (told_of net n p.0.3)) p.2
      ∙ ap (λ n. closing_list (told_of net g n)) p.3))

  -- a part of the list is that of an entry, whose number is the part's own, since no entry comes twice
  named : (number : ℕ) (part : Part) → slice_get parts.list number ≡ Some part →
      IsNamed net parts number part
  named number part at =
      let m = mapped_at (part_of net) order number part
      (subst (λ (l : List Part). slice_get l number ≡ Some part) list at) in
      let entry = m.0 in
      let told = numbers.each number entry (slice_get_within order number entry m.1) m.1 in
      let other = numbers.right entry.2 entry.3 told.0 told.1 in
      let here = (among net order is entry (Contains-from_place order number entry m.1)).of_state in
      let there = (among net order is other.0 (Contains-from_place order told.0 other.0 other.1)).of_state in
      let same : other.0 ≡ entry =
      there ∙ (ap (λ g. entry_of net g other.0.3) other.2
      ∙ (ap (λ n. entry_of net entry.2 n) other.3 ∙ sym here)) in
      let one : told.0 ≡ number =
      one_place net order is told.0 number entry
      (subst (λ (e : Entry). slice_get order told.0 ≡ Some e) same other.1) m.1 in
      subst (IsNamed net parts number) m.2
      (record { at_first = told.1 ∙ ap Some one; closing = refl })

  -- a graph with a state is there
  graph_there : (g n : ℕ) (state : State) → slice_get (states_of net g) n ≡ Some state →
      (1 ≤ g) × (g ≤ length net)
  graph_there zero n state found =
      absurd (let w = slice_get_within [] n state found in omega (arith, w))
  graph_there (suc k) n state found = go (slice_get net k) refl found
    where
      go : (o : Option NetGraph) → slice_get net k ≡ o →
          slice_get (states_in o) n ≡ Some state → (1 ≤ suc k) × (suc k ≤ length net)
      go None is found = absurd (let w = slice_get_within [] n state found in omega (arith, w))
      go (Some graph) is found =
          let w = slice_get_within net k graph is in (omega arith, omega (arith, w))

  module _ (g n : ℕ) (state : State) (edge : Edge)
      (found : slice_get (states_of net g) n ≡ Some state)
      (inside : Contains state.edges edge) where
    opened : is_opening edge.label ≡ true → Begins parts g edge.target
    opened opens =
        let there = graph_there g n state found in
        let entry = entry_of net g edge.target in
        let by_edge : Contains (entries_by net g edge) entry =
        subst (λ (t : _). Contains (cond t (entry ∷ []) []) entry) (sym opens)
        (contains_first entry []) in
        let by_state : Contains (entries_from net g state) entry =
        contains_joined (entries_by net g) state.edges edge entry inside by_edge in
        begins g edge.target there.0 there.1
        (contains_later (entry_of net g 0) (flat_map (entries_from net g) (states_of net g)) entry
        (contains_joined (entries_from net g) (states_of net g) state entry
        (Contains-from_place (states_of net g) n state found) by_state))

    refused : edge.label ≡ label.Negative →
        TellsClosing net g edge.target (closing_of parts g edge.target)
    refused is_negative =
        let b = opened (ap is_opening is_negative) in
        let c = told g n state edge found inside is_negative in
        record {
          target = c.0;
          told = closing_told g edge.target b ∙ ap closing_list c.1;
          closed = c.2;
        }

    opens : (x : Label) → edge.label ≡ x → Opens net parts g edge.target x
    opens label.Positive is = opened (ap is_opening is)
    opens label.Negative is = (opened (ap is_opening is), refused is)
    opens x is = tt

  -- the law
  pub are_parts : 4294967295 ≤ parts.levels → ArePartsOf net parts
  are_parts high = record {
    graphs = λ g from to.
        begins g 0 from to
        (contains_first (entry_of net g 0) (flat_map (entries_from net g) (states_of net g)));
    contexts = λ g n state edge found inside. opens g n state edge found inside edge.label refl;
    numbers = λ g state number at.
        let p = part_at g state number at in
        record { part = part_of net p.0; found = p.1; graph = p.2; first = p.3 };
    named = named;
    rank = rank_of net;
    sorted = λ u v p q at_u at_v lower.
        let x = mapped_at (part_of net) order u p
        (subst (λ (l : List Part). slice_get l u ≡ Some p) list at_u) in
        let y = mapped_at (part_of net) order v q
        (subst (λ (l : List Part). slice_get l v ≡ Some q) list at_v) in
        by_rank net order is u v x.0 y.0 x.1 y.1
        (subst (λ (r : Part). rank_of net x.0.2 x.0.3 < rank_of net r.graph r.first) (sym y.2)
        (subst (λ (r : Part). rank_of net r.graph r.first < rank_of net q.graph q.first) (sym x.2)
        lower));
    ordered = subst (λ (rank : ℕ → ℕ → ℕ). IsOrdered (net_grammar net) rank) same_rank
        (is_ordered net marked.top marked.marks marked.are);
    level = marked.marks.level;
    levels =
        let levels = has_levels net marked.top marked.marks marked.are in
        record {
          of_graphs = levels.of_graphs;
          of_bodies = levels.of_bodies;
          below = λ g opening.
              let less = levels.below g opening in
              let few = marked.few in
              omega (arith, less, few, high);
        };
  }
    where
      same_rank : marked.marks.rank ≡ rank_of net
      same_rank = λ i. λ g. λ state. marked.ranked g state i
