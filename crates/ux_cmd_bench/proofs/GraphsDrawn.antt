-- The graphs that are made up are accepted: their texts draw these boxes.
use Rattle.std.proofs.Common.{arith, ◌≡◌, ◌≢◌, ℕ, zero, suc, ◌<◌, ◌↔◌, true, false, List, [], ◌∷◌, drop, refl}
use Rattle.std.specs.Prelude.{AllPairs, codes}
use Rattle.ux_base.specs.Distinct.{AreFirsts}
use Rattle.ux_base.specs.Lines.{lines_of}
use Rattle.ux_base.proofs.FirstsLemmas.{AreFirsts-itself, AreFirsts-nil, Contains-after, Contains-first}
use Rattle.ux_grf.specs.declared.graph.GraphKind.TheVariants.{Plain}
use Rattle.ux_grf.specs.BoxLine.{BoxText}
use Rattle.ux_grf.specs.Content.{IsBoxOf, is_read}
use Rattle.ux_grf.specs.File.{Draws, HasTexts, IsGraphOf, ways_in}
use Rattle.ux_grf.specs.Items.{item_then, line_over}
use Rattle.ux_grf.specs.Lines.{AreLines, last_line, of_items, of_mark}
use Rattle.ux_grf.specs.Output.{chars_only, pieces_put}
use Rattle.ux_grf.specs.Protection.{resolved}
use Rattle.ux_grf.specs.declared.protection.Layer.TheVariants.{File}
use Rattle.ux_grf.specs.Reached.{Reached, start, step}
use Rattle.ux_grf.specs.declared.graph.Graph.{Graph}
use Rattle.ux_grf.specs.declared.graph.GrfBox.{GrfBox}
use Rattle.ux_grf.specs.declared.item.Item.{Item}
use Rattle.ux_grf.specs.declared.item.Item.TheVariants.{Call, Mask}
use Rattle.ux_cmd_bench.specs.Bench.{AP, NP}

-- what holds of each of the first numbers
below_four : (P : ℕ → Type 0) → P 0 → P 1 → P 2 → P 3 → (n : ℕ) → n < 4 → P n
below_four P p0 p1 p2 p3 zero low = p0
below_four P p0 p1 p2 p3 (suc zero) low = p1
below_four P p0 p1 p2 p3 (suc (suc zero)) low = p2
below_four P p0 p1 p2 p3 (suc (suc (suc zero))) low = p3
below_four P p0 p1 p2 p3 (suc (suc (suc (suc n)))) low = absurd (omega (arith, low))

below_five : (P : ℕ → Type 0) → P 0 → P 1 → P 2 → P 3 → P 4 → (n : ℕ) → n < 5 → P n
below_five P p0 p1 p2 p3 p4 zero low = p0
below_five P p0 p1 p2 p3 p4 (suc n) low =
    below_four (λ m. P (suc m)) p1 p2 p3 p4 n (omega (arith, low))

-- one target, or two that differ
one_target : (a : ℕ) → AreFirsts (a ∷ []) (a ∷ [])
one_target a =
    AreFirsts-itself (a ∷ []) (λ i j d lt inside. absurd (omega (arith, lt, inside)))

two_targets : (a b : ℕ) → a ≢ b → AreFirsts (a ∷ b ∷ []) (a ∷ b ∷ [])
two_targets a b apart = AreFirsts-itself (a ∷ b ∷ []) each
  where
    each : AllPairs (λ x y. x ≢ y) (a ∷ b ∷ [])
    each zero zero d lt inside = absurd (omega (arith, lt))
    each zero (suc zero) d lt inside = apart
    each zero (suc (suc j)) d lt inside = absurd (omega (arith, inside))
    each (suc i) zero d lt inside = absurd (omega (arith, lt))
    each (suc i) (suc zero) d lt inside = absurd (omega (arith, lt))
    each (suc i) (suc (suc j)) d lt inside = absurd (omega (arith, inside))

-- a box with these lines and these targets
abbrev drawn_box : List (List Item) → List ℕ → GrfBox
drawn_box lines targets =
    record { reached = true; lines = lines; output = []; targets = targets }

-- the text of a box
abbrev written_box : (content targets : List ℕ) → BoxText
written_box content targets = record { content = content; targets = targets }

-- the boxes of a noun phrase
abbrev pub np_graph : Graph
np_graph = record {
  boxes = drawn_box [] (2 ∷ []) ∷ drawn_box [] []
      ∷ drawn_box ((Mask (codes "DET") ∷ []) ∷ []) (3 ∷ 4 ∷ [])
      ∷ drawn_box ((Mask (codes "N") ∷ []) ∷ []) (1 ∷ [])
      ∷ drawn_box ((Call (codes "AP") ∷ []) ∷ []) (3 ∷ []) ∷ [];
}

abbrev np_texts : List BoxText
np_texts = written_box (codes "<E>") (2 ∷ []) ∷ written_box [] []
    ∷ written_box (codes "<DET>") (3 ∷ 4 ∷ []) ∷ written_box (codes "<N>") (1 ∷ [])
    ∷ written_box (codes ":AP") (3 ∷ []) ∷ []

-- the boxes of an adjective phrase
abbrev pub ap_graph : Graph
ap_graph = record {
  boxes = drawn_box [] (2 ∷ []) ∷ drawn_box [] []
      ∷ drawn_box ((Mask (codes "A") ∷ []) ∷ []) (1 ∷ 3 ∷ [])
      ∷ drawn_box ((Call (codes "AP") ∷ []) ∷ []) (1 ∷ []) ∷ [];
}

abbrev ap_texts : List BoxText
ap_texts = written_box (codes "<E>") (2 ∷ []) ∷ written_box [] []
    ∷ written_box (codes "<A>") (1 ∷ 3 ∷ []) ∷ written_box (codes ":AP") (1 ∷ []) ∷ []

has_np_texts : HasTexts NP np_texts
has_np_texts = record {
  count = 5;
  lines = drop 3 (lines_of NP);
  has = record { first = codes "5"; header = refl; told = refl };
  good = below_five _ refl refl refl refl refl;
  told = record {
    len = refl;
    each = below_five _ (refl, one_target 2) (refl, AreFirsts-nil)
        (refl, two_targets 3 4 (omega arith)) (refl, one_target 1) (refl, one_target 3);
  };
}

has_ap_texts : HasTexts AP ap_texts
has_ap_texts = record {
  count = 4;
  lines = drop 3 (lines_of AP);
  has = record { first = codes "4"; header = refl; told = refl };
  good = below_four _ refl refl refl refl;
  told = record {
    len = refl;
    each = below_four _ (refl, one_target 2) (refl, AreFirsts-nil)
        (refl, two_targets 1 3 (omega arith)) (refl, one_target 1);
  };
}

-- the contents of the start and the end are not read
outer_box : (content targets : List ℕ) (node : ℕ) → is_read node true ≡ false →
    IsBoxOf Plain (written_box content targets) node (drawn_box [] targets)
outer_box content targets node outer =
    record { targets = refl; read = λ inner. cc; bare = λ _. (refl, refl) }

-- that of another box is read, and is one line with no output
inner_box : (content targets : List ℕ) (line : List Item) (node : ℕ) → is_read node true ≡ true →
    AreLines Plain (resolved File false content) (line ∷ []) [] →
    IsBoxOf Plain (written_box content targets) node (drawn_box (line ∷ []) targets)
inner_box content targets line node inner lines = record {
  targets = refl;
  read = λ _. record {
    written = [];
    lines = lines;
    closed = refl;
    output = pieces_put refl (chars_only refl);
  };
  bare = λ outer. cc;
}

-- a box that is reached is marked so
marked : (texts : List BoxText) (node : ℕ) → Reached (ways_in texts) node →
    (true ≡ true) ↔ Reached (ways_in texts) node
marked texts node reached = (λ _. reached, λ _. refl)

-- the paths of a noun phrase
np_2 : Reached (ways_in np_texts) 2
np_2 = step start (Contains-first 2 [])

np_3 : Reached (ways_in np_texts) 3
np_3 = step np_2 (Contains-first 3 (4 ∷ []))

np_4 : Reached (ways_in np_texts) 4
np_4 = step np_2 (Contains-after 3 4 (4 ∷ []) (Contains-first 4 []))

np_1 : Reached (ways_in np_texts) 1
np_1 = step np_3 (Contains-first 1 [])

drawn_np : Draws Plain np_texts np_graph
drawn_np = record {
  len = refl;
  reached = below_five _ (marked np_texts 0 start) (marked np_texts 1 np_1)
      (marked np_texts 2 np_2) (marked np_texts 3 np_3) (marked np_texts 4 np_4);
  boxes = below_five _ (outer_box (codes "<E>") (2 ∷ []) 0 refl) (outer_box [] [] 1 refl)
      (inner_box (codes "<DET>") (3 ∷ 4 ∷ []) (Mask (codes "DET") ∷ []) 2 refl
      (last_line (of_items refl (item_then refl (line_over refl)))))
      (inner_box (codes "<N>") (1 ∷ []) (Mask (codes "N") ∷ []) 3 refl
      (last_line (of_items refl (item_then refl (line_over refl)))))
      (inner_box (codes ":AP") (3 ∷ []) (Call (codes "AP") ∷ []) 4 refl
      (last_line (of_mark refl refl)));
}

-- the paths of an adjective phrase
ap_2 : Reached (ways_in ap_texts) 2
ap_2 = step start (Contains-first 2 [])

ap_1 : Reached (ways_in ap_texts) 1
ap_1 = step ap_2 (Contains-first 1 (3 ∷ []))

ap_3 : Reached (ways_in ap_texts) 3
ap_3 = step ap_2 (Contains-after 1 3 (3 ∷ []) (Contains-first 3 []))

drawn_ap : Draws Plain ap_texts ap_graph
drawn_ap = record {
  len = refl;
  reached = below_four _ (marked ap_texts 0 start) (marked ap_texts 1 ap_1)
      (marked ap_texts 2 ap_2) (marked ap_texts 3 ap_3);
  boxes = below_four _ (outer_box (codes "<E>") (2 ∷ []) 0 refl) (outer_box [] [] 1 refl)
      (inner_box (codes "<A>") (1 ∷ 3 ∷ []) (Mask (codes "A") ∷ []) 2 refl
      (last_line (of_items refl (item_then refl (line_over refl)))))
      (inner_box (codes ":AP") (1 ∷ []) (Call (codes "AP") ∷ []) 3 refl
      (last_line (of_mark refl refl)));
}

pub np_drawn : IsGraphOf Plain NP np_graph
np_drawn = (np_texts, has_np_texts, drawn_np)

pub ap_drawn : IsGraphOf Plain AP ap_graph
ap_drawn = (ap_texts, has_ap_texts, drawn_ap)
