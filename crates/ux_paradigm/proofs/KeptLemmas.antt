-- What is found at an ending is kept for it, and makes the lines of each lemma with the ending.
use Rattle.std.proofs.Common.{◌≡◌, ℕ, List, [], ◌∷◌, ◌++◌, IsCharBoundary, IsUtf8, Bool, true, false, Some, Global, String, Vec, All, ap, cond, map, refl, sym, ◌∙◌, subst, bytes_eq, drop, string_bytes, take}
use Rattle.std.proofs.lemmas.List.{take-append-drop}
use Rattle.std.proofs.lemmas.List.Elements.{All-cons, All-head, All-tail}
use Rattle.std.proofs.lemmas.Option.{none-some, same_Some}
use Rattle.std.proofs.lemmas.Slice.Eq.{bytes_eq-Decides}
use Rattle.std.proofs.lemmas.Str.{IsUtf8-take}
use Rattle.std.specs.Map.{lookup}
use Rattle.indexmap.specs.IndexMap.{insert_entry}
use Rattle.ux_dela.specs.declared.entry.Stem.{Stem}
use Rattle.ux_inflect.specs.Refusing.{IsAccepted}
use Rattle.ux_net.specs.declared.net_graph.NetGraph.{NetGraph}
use Rattle.ux_paradigm.proofs.LineLemmas.{lines_apart}
use Rattle.ux_paradigm.proofs.Locality.{accepted_behind, inflected_behind}
use Rattle.ux_paradigm.specs.Behind.{EndsAs, behind}
use Rattle.ux_paradigm.specs.Kept.{IsKept, alone, lines_by}
use Rattle.ux_paradigm.specs.Lines.{AreLines}
use Rattle.ux_paradigm.specs.declared.tail.Tail.{Tail}

-- a lemma that is cut ends as what is behind the cut
pub ends_cut : (stem : Stem) (place : ℕ) (front ending : List ℕ) → IsUtf8 stem.lemma →
    IsCharBoundary stem.lemma place → front ≡ take place stem.lemma → ending ≡ drop place stem.lemma →
    EndsAs front stem (alone ending)
ends_cut stem place front ending utf8 boundary front_is ending_is = record {
  text = subst IsUtf8 (sym front_is) (IsUtf8-take stem.lemma place utf8 boundary);
  lemma = sym (take-append-drop place stem.lemma)
      ∙ (ap (λ (l : List ℕ). l ++ drop place stem.lemma) (sym front_is)
      ∙ ap (λ (l : List ℕ). front ++ l) (sym ending_is));
}

module _ (net : List NetGraph) where
  -- an ending with the ends of its lines
  abbrev pub IsKeptEntry : String Global × Vec Tail Global → Type 0
  IsKeptEntry entry = IsKept net (string_bytes entry.0) entry.1.items

  abbrev Entries : Type 0
  Entries = List (String Global × Vec Tail Global)

  -- what is found
  pub kept_found : (ending : List ℕ) (tails : Vec Tail Global) (entries : Entries) →
      All IsKeptEntry entries →
      lookup (λ key. bytes_eq ending (string_bytes key)) entries ≡ Some tails →
      IsKept net ending tails.items
  kept_found ending tails [] kept is = absurd (none-some tails is)
  kept_found ending tails (entry ∷ entries) kept is =
      by (bytes_eq ending (string_bytes entry.0)) refl
      (kept_found ending tails entries (All-tail IsKeptEntry entry entries kept)) is
    where
      by : (b : Bool) → bytes_eq ending (string_bytes entry.0) ≡ b →
          (lookup (λ key. bytes_eq ending (string_bytes key)) entries ≡ Some tails →
          IsKept net ending tails.items) →
          cond b (Some entry.1) (lookup (λ key. bytes_eq ending (string_bytes key)) entries)
          ≡ Some tails → IsKept net ending tails.items
      by true same later is =
          let here : IsKept net ending entry.1.items =
          subst (λ (text : List ℕ). IsKept net text entry.1.items)
          (sym ((bytes_eq-Decides ending (string_bytes entry.0)).0 same))
          (All-head IsKeptEntry entry entries kept) in
          subst (λ (found : Vec Tail Global). IsKept net ending found.items)
          (same_Some entry.1 tails is) here
      by false other later is = later is

  -- what is put
  pub kept_more : (key : String Global) (tails : Vec Tail Global) →
      IsKept net (string_bytes key) tails.items → (entries : Entries) → All IsKeptEntry entries →
      All IsKeptEntry (insert_entry
      (λ key other. bytes_eq (string_bytes key) (string_bytes other)) entries key tails)
  kept_more key tails is [] kept = All-cons IsKeptEntry (key, tails) [] is kept
  kept_more key tails is (entry ∷ entries) kept =
      by (bytes_eq (string_bytes key) (string_bytes entry.0)) refl
      (kept_more key tails is entries (All-tail IsKeptEntry entry entries kept))
    where
      more : Entries
      more = insert_entry (λ key other. bytes_eq (string_bytes key) (string_bytes other)) entries key
          tails

      by : (b : Bool) → bytes_eq (string_bytes key) (string_bytes entry.0) ≡ b →
          All IsKeptEntry more → All IsKeptEntry (cond b ((entry.0, tails) ∷ entries) (entry ∷ more))
      by true same later =
          All-cons IsKeptEntry (entry.0, tails) entries
          (subst (λ (text : List ℕ). IsKept net text tails.items)
          ((bytes_eq-Decides (string_bytes key) (string_bytes entry.0)).0 same) is)
          (All-tail IsKeptEntry entry entries kept)
      by false other later =
          All-cons IsKeptEntry entry more (All-head IsKeptEntry entry entries kept) later

  module _ (front ending : List ℕ) (stem : Stem) (tails : List Tail)
      (ends : EndsAs front stem (alone ending)) (kept : IsKept net ending tails) where
    -- the class accepts the lemma
    pub known_accepted : IsAccepted stem net
    known_accepted = accepted_behind front stem (alone ending) ends net kept.accepted

    -- and its lines are those of the ending behind the front
    pub known_lines : (text : List ℕ) → text ≡ lines_by front stem tails → AreLines stem net text
    known_lines text is = record {
      entries = map (behind front stem) kept.entries;
      are = inflected_behind front stem (alone ending) ends net kept.entries kept.accepted kept.are
          kept.bare;
      lines = is ∙ (ap (lines_by front stem) kept.made
          ∙ sym (lines_apart front ending stem ends.lemma kept.entries kept.bare));
    }
