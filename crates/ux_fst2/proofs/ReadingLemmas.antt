-- The tags that were read, and the graphs whose edges bear them.
use Rattle.std.proofs.Common.{arith, ◌≡◌, ℕ, ◌+◌, ◌<◌, List, Bool, true, false, length, get_or, refl, sym, ◌∙◌, ap, subst, inl, inr}
use Rattle.std.specs.Prelude.{Some, slice_get, All}
use Rattle.std.specs.List.{AllZip}
use Rattle.std.proofs.lemmas.Bool.{ltb-true, ltb-false}
use Rattle.std.proofs.Math.Dec.{ltb}
use Rattle.std.proofs.lemmas.Option.{same_Some, slice_get-get_or}
use Rattle.ux_grf.specs.declared.item.Piece.{Piece}
use Rattle.ux_net.specs.declared.label.Label.{Label}
use Rattle.ux_net.specs.declared.state.Edge.{Edge}
use Rattle.ux_net.specs.declared.state.State.{State}
use Rattle.ux_fst2_file.specs.declared.file.Fst2Label.{Fst2Label}
use Rattle.ux_fst2_file.specs.declared.file.Fst2Label.TheVariants.{Tag, Call}
use Rattle.ux_fst2_file.specs.declared.file.Fst2Edge.{Fst2Edge}
use Rattle.ux_fst2_file.specs.declared.file.Fst2State.{Fst2State}
use Rattle.ux_fst2_file.specs.declared.file.Fst2Graph.{Fst2Graph}
use Rattle.ux_fst2_file.specs.declared.file.Fst2File.{Fst2File}
use Rattle.ux_fst2_file.specs.Labels.{FitsEdge, FitsLabel, LabelsFit, limits_of}
use Rattle.ux_fst2.specs.Files.{IsEdgeBy, IsGraphBy, IsStateBy}
use Rattle.ux_fst2.specs.Inner.{IsBorneBy, IsReadTag, NamesTag, NamesTagBy, NamesTagsIn}
use Rattle.ux_fst2.specs.Reading.{AreGoodBefore, AreTagsWhole, IsGoodTag, IsSaidBy, StopsAtTag}
use Rattle.ux_net.specs.declared.state_graph.StateGraph.{StateGraph}
use Rattle.ux_fst2.specs.declared.tag.Tag as tags
use Rattle.ux_fst2.proofs.Zips.{zip-lift, zip-back}

module _ (Bears Says : Fst2Label → Label → List Piece → Type 0)
    (lift : (number : Fst2Label) (label : Label) (output : List Piece) → Bears number label output →
    Says number label output) where
  -- what numbers bear in one way, they bear in another
  pub lift_edge : (edge : Fst2Edge) (told : Edge) → IsEdgeBy Bears edge told →
      IsEdgeBy Says edge told
  lift_edge edge told is =
      record {
        label = lift edge.label told.label told.output is.label;
        target = is.target;
      }

  pub lift_state : (state : Fst2State) (told : State) → IsStateBy Bears state told →
      IsStateBy Says state told
  lift_state state told is =
      record {
        ends = is.ends;
        edges = zip-lift (IsEdgeBy Bears) (IsEdgeBy Says) lift_edge state.edges told.edges
            is.edges;
      }

  pub lift_states : (states : List Fst2State) (told : List State) →
      AllZip (IsStateBy Bears) states told → AllZip (IsStateBy Says) states told
  lift_states = zip-lift (IsStateBy Bears) (IsStateBy Says) lift_state

  pub lift_edges : (edges : List Fst2Edge) (told : List Edge) →
      AllZip (IsEdgeBy Bears) edges told → AllZip (IsEdgeBy Says) edges told
  lift_edges = zip-lift (IsEdgeBy Bears) (IsEdgeBy Says) lift_edge

  pub lift_graph : (graph : Fst2Graph) (told : StateGraph) → IsGraphBy Bears graph told →
      IsGraphBy Says graph told
  lift_graph graph told is =
      record { named = is.named; are = lift_states graph.states told.states is.are }

  pub lift_graphs : (graphs : List Fst2Graph) (told : List StateGraph) →
      AllZip (IsGraphBy Bears) graphs told → AllZip (IsGraphBy Says) graphs told
  lift_graphs = zip-lift (IsGraphBy Bears) (IsGraphBy Says) lift_graph

-- what a number bears is what the text of its tag says
pub borne_says : (texts : List (List ℕ)) (read : List tags.Tag) → AllZip IsReadTag texts read →
    (number : Fst2Label) (label : Label) (output : List Piece) → IsBorneBy read number label output →
    IsSaidBy texts number label output
borne_says texts read all (Tag tag) label output is =
    let from = zip-back IsReadTag texts read tag _ all is in
    (from.0, from.1, from.2)
borne_says texts read all (Call graph) label output is = is

-- a label that fits names a tag that is there
names_if_fits : (file : Fst2File) (graph : Fst2Graph) (count : ℕ) (edge : Fst2Edge) →
    count ≡ length file.tags → FitsEdge (limits_of file graph) edge → NamesTag count edge
names_if_fits file graph count edge many fits = by edge.label fits.0
  where
    by : (number : Fst2Label) → FitsLabel (limits_of file graph) number → NamesTagBy count number
    by (Tag tag) below = omega (arith, below, many)
    by (Call called) below = tt

-- labels that fit name tags that are there
pub fitting_names : (file : Fst2File) (count : ℕ) → count ≡ length file.tags → LabelsFit file →
    All (NamesTagsIn count) file.graphs
fitting_names file count many fits =
    λ g graph inside n state there k edge at.
    names_if_fits file (get_or file.graphs g graph) count
    (get_or (get_or (get_or file.graphs g graph).states n state).edges k edge) many
    (fits g graph inside n state there k edge at)

-- the tag of this number, if the tags before it are good, is the first bad one
pub stops_here : (texts : List (List ℕ)) (is_ended : Bool) (n : ℕ) (text : List ℕ) →
    n < length texts → text ≡ get_or texts n text → AreGoodBefore n texts →
    (IsGoodTag n text → ⊥) → StopsAtTag texts is_ended n
stops_here texts is_ended n text lt at before bad =
    record {
      before = before;
      bad = inl (text, slice_get-get_or texts n text lt ∙ ap Some (sym at), bad);
    }

-- one good tag more
pub good_more : (texts : List (List ℕ)) (n : ℕ) (text : List ℕ) → text ≡ get_or texts n text →
    n < length texts → AreGoodBefore n texts → IsGoodTag n text → AreGoodBefore (n + 1) texts
good_more texts n text at lt before good k other below there = by (ltb k n) refl
  where
    by : (b : Bool) → ltb k n ≡ b → IsGoodTag k other
    by true is = before k other (ltb-true k n is) there
    by false is =
        let here : k ≡ n = omega (arith, below, ltb-false k n is) in
        let same : other ≡ text =
        same_Some other text (sym there ∙ ap (slice_get texts) here
        ∙ slice_get-get_or texts n text lt ∙ ap Some (sym at)) in
        subst (λ (m : ℕ). IsGoodTag m other) (sym here)
        (subst (IsGoodTag n) (sym same) good)

-- no tag is there
pub stops_at_none : (texts : List (List ℕ)) (is_ended : Bool) → length texts ≡ 0 →
    StopsAtTag texts is_ended 0
stops_at_none texts is_ended none =
    record {
      before = λ k text below at. absurd (omega (arith, below));
      bad = inr (sym none, inl refl);
    }

-- all tags are good, but the last `f` isn't there
pub stops_at_end : (texts : List (List ℕ)) (is_ended : Bool) (n : ℕ) → n ≡ length texts →
    AreGoodBefore n texts → is_ended ≡ false → StopsAtTag texts is_ended (length texts)
stops_at_end texts is_ended n many before open_end =
    record {
      before = subst (λ (m : ℕ). AreGoodBefore m texts) many before;
      bad = inr (refl, inr open_end);
    }

-- all tags are good
pub tags_whole : (texts : List (List ℕ)) (is_ended : Bool) (n : ℕ) → n ≡ length texts →
    AreGoodBefore n texts → (length texts ≡ 0 → ⊥) → is_ended ≡ true → AreTagsWhole texts is_ended
tags_whole texts is_ended n many before some ended =
    record {
      some = omega (arith, some);
      good = subst (λ (m : ℕ). AreGoodBefore m texts) many before;
      ended = ended;
    }
