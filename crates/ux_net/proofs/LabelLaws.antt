-- A net in which each label passes the test is plain, or cuts nothing off.
use Rattle.std.proofs.Common.{arith, ◌≡◌, ℕ, zero, suc, List, [], ◌∷◌, Bool, true, false, refl, sym, ◌∙◌, ap, subst, ◌&&◌, ◌<◌, ◌≤◌, length, get_or, None, Some, ◌⊎◌, inl, inr, ◌↔◌}
use Rattle.std.specs.Prelude.{slice_get, Contains}
use Rattle.std.specs.List.{list_all}
use Rattle.ux_base.proofs.FirstsLemmas.{Contains-from_place}
use Rattle.ux_net.specs.declared.label.Label.{Label}
use Rattle.ux_net.specs.declared.label.Label.TheVariants.{Empty, CaseFolded, CaseExact, Mask, Brace, Space, NoSpace, Begin, End, Positive, Negative, ContextEnd, Cut, Call}
use Rattle.ux_net.specs.declared.state.Edge.{Edge}
use Rattle.ux_net.specs.declared.state.State.{State}
use Rattle.ux_net.specs.declared.net_graph.NetGraph.{NetGraph}
use Rattle.ux_net.specs.Nets.{ArePlain, CutNothing, CutsNothing, EachLabel, IsPlain, each_in_graph, each_in_state, is_plain, is_uncut, states_in}
use Rattle.ux_net.specs.Words.{closes, mark_of}
use Rattle.std.proofs.lemmas.Bool.{and_parts, false≢true}
use Rattle.std.proofs.lemmas.Option.{slice_get_cases, slice_get_read}
use Rattle.std.specs.Bool.{IsTrue}

-- what closes a context is a closing label
pub closing_label : (x : Label) → mark_of (x ∷ []) ≡ closes → x ≡ ContextEnd
closing_label ContextEnd e = refl
closing_label x e = cc

module _ {X : Type 0} (p : X → Bool) where
  -- what all pass, each passes
  all_told : (xs : List X) (x : X) → list_all p xs ≡ true → Contains xs x → p x ≡ true
  all_told [] x all c = absurd (omega (arith, c.1))
  all_told (y ∷ xs) x all (zero, lt, e) =
      ap p (sym e) ∙ (and_parts (p y) (list_all p xs) all).0
  all_told (y ∷ xs) x all (suc k, lt, e) =
      all_told xs x (and_parts (p y) (list_all p xs) all).1 (k, omega (arith, lt), e)

  -- and what each passes, all pass
  all_shown : (xs : List X) → ((x : X) → Contains xs x → p x ≡ true) → list_all p xs ≡ true
  all_shown [] each = refl
  all_shown (y ∷ xs) each =
      ap (λ (b : Bool). b && list_all p xs) (each y (0, omega arith, refl))
      ∙ all_shown xs (λ x c. each x (suc c.0, (let lt = c.1 in omega (arith, lt)), c.2))

-- a label that passes the test is plain
plain_told : (x : Label) → is_plain x ≡ true → IsPlain x
plain_told Empty is = tt
plain_told (CaseFolded text) is = tt
plain_told (CaseExact text) is = tt
plain_told (Mask mask) is = tt
plain_told (Brace text) is = tt
plain_told Space is = tt
plain_told NoSpace is = tt
plain_told (Begin name) is = tt
plain_told (End name) is = tt
plain_told Positive is = absurd (false≢true is)
plain_told Negative is = absurd (false≢true is)
plain_told ContextEnd is = absurd (false≢true is)
plain_told Cut is = absurd (false≢true is)
plain_told (Call graph) is = tt

-- and a plain one passes it
plain_shown : (x : Label) → IsPlain x → is_plain x ≡ true
plain_shown Empty is = refl
plain_shown (CaseFolded text) is = refl
plain_shown (CaseExact text) is = refl
plain_shown (Mask mask) is = refl
plain_shown (Brace text) is = refl
plain_shown Space is = refl
plain_shown NoSpace is = refl
plain_shown (Begin name) is = refl
plain_shown (End name) is = refl
plain_shown Positive is = absurd is
plain_shown Negative is = absurd is
plain_shown ContextEnd is = absurd is
plain_shown Cut is = absurd is
plain_shown (Call graph) is = refl

-- a label that passes the test cuts nothing
uncut_told : (x : Label) → is_uncut x ≡ true → CutsNothing x
uncut_told Empty is = tt
uncut_told (CaseFolded text) is = tt
uncut_told (CaseExact text) is = tt
uncut_told (Mask mask) is = tt
uncut_told (Brace text) is = tt
uncut_told Space is = tt
uncut_told NoSpace is = tt
uncut_told (Begin name) is = tt
uncut_told (End name) is = tt
uncut_told Positive is = tt
uncut_told Negative is = tt
uncut_told ContextEnd is = tt
uncut_told Cut is = absurd (false≢true is)
uncut_told (Call graph) is = tt

-- and one that cuts nothing passes it
uncut_shown : (x : Label) → CutsNothing x → is_uncut x ≡ true
uncut_shown Empty is = refl
uncut_shown (CaseFolded text) is = refl
uncut_shown (CaseExact text) is = refl
uncut_shown (Mask mask) is = refl
uncut_shown (Brace text) is = refl
uncut_shown Space is = refl
uncut_shown NoSpace is = refl
uncut_shown (Begin name) is = refl
uncut_shown (End name) is = refl
uncut_shown Positive is = refl
uncut_shown Negative is = refl
uncut_shown ContextEnd is = refl
uncut_shown Cut is = absurd is
uncut_shown (Call graph) is = refl

module _ (test : Label → Bool) (Is : Label → Type 0) (told : (x : Label) → test x ≡ true → Is x)
    (shown : (x : Label) → Is x → test x ≡ true) (graphs : List NetGraph) where
  -- each label of a graph that passes is so
  in_graph : list_all (each_in_graph test) graphs ≡ true → (graph : NetGraph) →
      Contains graphs graph → (n : ℕ) (state : State) (edge : Edge) →
      slice_get graph.states n ≡ Some state → Contains state.edges edge → Is edge.label
  in_graph all graph there n state edge found inside =
      let states = all_told (each_in_graph test) graphs graph all there in
      let edges = all_told (each_in_state test) graph.states state states
      (Contains-from_place graph.states n state found) in
      told edge.label
      (all_told (λ (e : Edge). test e.label) state.edges edge edges inside)

  -- and so is each of a net
  are_so : list_all (each_in_graph test) graphs ≡ true → EachLabel Is graphs
  are_so all zero n state edge found inside = cc
  are_so all (suc g) n state edge found inside = by (slice_get_cases graphs g).1
    where
      by : ((graph : NetGraph) × (g < length graphs) × (slice_get graphs g ≡ Some graph)
          × (get_or graphs g graph ≡ graph))
          ⊎ ((length graphs ≤ g) × (slice_get graphs g ≡ None)) → Is edge.label
      by (inl h) =
          in_graph all h.0 (Contains-from_place graphs g h.0 h.2) n state edge
          (subst (λ o. slice_get (states_in o) n ≡ Some state) h.2 found) inside
      by (inr past) =
          let none = subst (λ o. slice_get (states_in o) n ≡ Some state) past.1 found in cc

  -- and each label of such a net does
  all_so : EachLabel Is graphs → list_all (each_in_graph test) graphs ≡ true
  all_so are = all_shown (each_in_graph test) graphs (λ graph (g, lt, is).
      all_shown (each_in_state test) graph.states (λ state (n, below, at).
      all_shown (λ (e : Edge). test e.label) state.edges (λ edge inside.
      shown edge.label (are (suc g) n state edge
      (subst (λ o. slice_get (states_in o) n ≡ Some state)
      (sym (slice_get_read graphs (length graphs) g graph refl lt (sym is)))
      (slice_get_read graph.states (length graph.states) n state refl below (sym at))) inside))))

  -- the test of all labels of a net tells what each is
  label_law : (result : Bool) → result ≡ list_all (each_in_graph test) graphs →
      IsTrue result ↔ EachLabel Is graphs
  label_law true is = (λ t. are_so (sym is), λ are. refl)
  label_law false is = (
    λ never. absurd (false≢true never),
    λ are. absurd (false≢true (is ∙ all_so are)),
  )

module _ (graphs : List NetGraph) where
  -- a net is plain exactly where each label is
  pub plain_law : (result : Bool) → result ≡ list_all (each_in_graph is_plain) graphs →
      IsTrue result ↔ ArePlain graphs
  plain_law = label_law is_plain IsPlain plain_told plain_shown graphs

  -- a net cuts nothing exactly where no label does
  pub uncut_law : (result : Bool) → result ≡ list_all (each_in_graph is_uncut) graphs →
      IsTrue result ↔ CutNothing graphs
  uncut_law = label_law is_uncut CutsNothing uncut_told uncut_shown graphs

-- a net in which each label is plain cuts nothing off
pub plain_uncut : (graphs : List NetGraph) → ArePlain graphs → CutNothing graphs
plain_uncut graphs are g n state edge found inside =
    uncut_of edge.label (are g n state edge found inside)
  where
    uncut_of : (x : Label) → IsPlain x → CutsNothing x
    uncut_of Cut is = absurd is
    uncut_of other is = tt
