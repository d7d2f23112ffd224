-- A text that draws a graph draws no other, and is not refused.
use Rattle.std.proofs.Common.{arith, ◌≡◌, ◌≢◌, ℕ, suc, ◌<◌, ◌↔◌, Bool, true, false, length, get_or, List, [], ◌∷◌, Option, Some, None, refl, sym, ap, ◌∙◌, subst}
use Rattle.std.proofs.lemmas.Bool.{false≢true, both_ways, lt-ltb}
use Rattle.std.proofs.lemmas.Option.{none-some, same_Some}
use Rattle.ux_grf.specs.declared.graph.GraphKind.{GraphKind}
use Rattle.ux_grf.specs.declared.error.GrfError.{GrfError}
use Rattle.ux_grf.specs.declared.error.GrfError.TheVariants.{NoHeader, BadCount, BadBoxLine, BadTarget, BadContent, NoMemory}
use Rattle.ux_grf.specs.declared.graph.Graph.{Graph}
use Rattle.ux_grf.specs.BoxLine.{BoxText}
use Rattle.ux_grf.specs.Boxes.{box_at, text_at, is_good, HasBadTarget}
use Rattle.ux_grf.specs.Content.{content_of, is_read, IsBoxOf}
use Rattle.ux_grf.specs.File.{IsGraphOf, Refuses, Draws, IsFirstBad, count_at, ways_in}
use Rattle.ux_grf.specs.Reached.{Reached}
use Rattle.ux_grf.specs.WellFormed.{box_of_graph}
use Rattle.ux_grf.specs.declared.graph.GrfBox.{GrfBox}
use Rattle.ux_grf.specs.declared.item.Item.{Item}
use Rattle.ux_grf.specs.declared.item.Piece.{Piece}
use Rattle.ux_grf.proofs.TextsLemmas.{HasTexts-once, count_same, lines_same}
use Rattle.ux_grf.proofs.UniqueLemmas.{IsContent-once, IsContent-IsFault}

-- a line that is missing or is no box line isn't good
no_line : (count : ℕ) (box : Option BoxText) → is_good count box ≡ true → box ≡ None → ⊥
no_line count None good none = false≢true good
no_line count (Some text) good none = none-some text (sym none)

-- a line with a bad target isn't good
no_target : (count : ℕ) (box : Option BoxText) → is_good count box ≡ true →
    HasBadTarget count box → ⊥
no_target count None good bad = bad
no_target count (Some text) good bad = both_ways _ bad good

-- a text that draws a graph is refused for want of memory alone
pub drawn_not_refused : (kind : GraphKind) (text : List ℕ) (graph : Graph) (error : GrfError) →
    IsGraphOf kind text graph → error ≢ NoMemory → Refuses kind text error → ⊥
drawn_not_refused kind text graph NoHeader is other refused =
    none-some (is.1.has.first ∷ is.1.lines) (sym refused ∙ is.1.has.header)
drawn_not_refused kind text graph BadCount is other refused =
    let same =
    same_Some refused.0 (is.1.has.first ∷ is.1.lines) (sym refused.1 ∙ is.1.has.header) in
    none-some is.1.count (sym refused.2 ∙ (ap count_at same ∙ is.1.has.told))
drawn_not_refused kind text graph (BadBoxLine node) is other refused =
    let count = is.1.count in
    let lines = is.1.lines in
    let same_count = count_same text count refused.0 lines refused.1 is.1.has refused.2 in
    let same_lines = lines_same text count refused.0 lines refused.1 is.1.has refused.2 in
    let inside : node < count = subst (λ (n : ℕ). node < n) same_count refused.3.0 in
    let none : box_at lines node ≡ None =
    subst (λ (ls : List (List ℕ)). box_at ls node ≡ None) same_lines refused.3.2 in
    no_line count (box_at lines node) (is.1.good node inside) none
drawn_not_refused kind text graph (BadTarget node) is other refused =
    let count = is.1.count in
    let lines = is.1.lines in
    let same_count = count_same text count refused.0 lines refused.1 is.1.has refused.2 in
    let same_lines = lines_same text count refused.0 lines refused.1 is.1.has refused.2 in
    let inside : node < count = subst (λ (n : ℕ). node < n) same_count refused.3.0 in
    let bad : HasBadTarget count (box_at lines node) =
    subst (λ (ls : List (List ℕ)). HasBadTarget count (box_at ls node)) same_lines
    (subst (λ (n : ℕ). HasBadTarget n (box_at refused.1 node)) same_count refused.3.2) in
    no_target count (box_at lines node) (is.1.good node inside) bad
drawn_not_refused kind text graph (BadContent node place) is other refused =
    let texts = is.0 in
    let first : IsFirstBad kind texts node place =
    subst (λ (ts : List BoxText). IsFirstBad kind ts node place)
    (HasTexts-once text refused.0 texts refused.1 is.1) refused.2 in
    let read = (is.2.reached node first.box.inside).1 first.box.reached in
    let inner = lt-ltb 1 node first.box.inner in
    let content = (is.2.boxes node first.box.inside).read (rw read inner) in
    IsContent-IsFault (content_of (text_at texts node)) first.bad.left
    (record { lines = (box_of_graph graph node).lines; output = (box_of_graph graph node).output })
    content first.bad.fault
drawn_not_refused kind text graph NoMemory is other refused = other refl

-- two tests of one thing are the same
same_test : (b c : Bool) (P : Type 0) → (b ≡ true) ↔ P → (c ≡ true) ↔ P → b ≡ c
same_test true true P f g = refl
same_test true false P f g = let c = g.1 (f.0 refl) in cc
same_test false true P f g = let b = f.1 (g.0 refl) in cc
same_test false false P f g = refl

made_of : (r s : Bool) (l m : List (List Item)) (o p : List Piece) (t u : List ℕ) → r ≡ s → l ≡ m →
    o ≡ p → t ≡ u →
    ◌≡◌ {A = GrfBox} (record { reached = r; lines = l; output = o; targets = t })
    (record { reached = s; lines = m; output = p; targets = u })
made_of r s l m o p t u e f g h =
    ap (λ (x : Bool). record { reached = x; lines = l; output = o; targets = t }) e
    ∙ (ap (λ (x : List (List Item)). record { reached = s; lines = x; output = o; targets = t }) f
    ∙ (ap (λ (x : List Piece). record { reached = s; lines = m; output = x; targets = t }) g
    ∙ ap (λ (x : List ℕ). record { reached = s; lines = m; output = p; targets = x }) h))

-- a text draws one box
box_once : (kind : GraphKind) (text : BoxText) (node : ℕ) (a b : GrfBox) → a.reached ≡ b.reached →
    IsBoxOf kind text node a → IsBoxOf kind text node b → a ≡ b
box_once kind text node a b same one other = by (is_read node a.reached) refl
  where
    by : (r : Bool) → is_read node a.reached ≡ r → a ≡ b
    by true read =
        let also = ap (is_read node) (sym same) ∙ read in
        let contents = IsContent-once (content_of text)
        (record { lines = a.lines; output = a.output })
        (record { lines = b.lines; output = b.output }) (one.read read) (other.read also) in
        made_of a.reached b.reached a.lines b.lines a.output b.output a.targets b.targets same
        contents.0 contents.1 (one.targets ∙ sym other.targets)
    by false bare =
        let also = ap (is_read node) (sym same) ∙ bare in
        made_of a.reached b.reached a.lines b.lines a.output b.output a.targets b.targets same
        ((one.bare bare).0 ∙ sym (other.bare also).0) ((one.bare bare).1 ∙ sym (other.bare also).1)
        (one.targets ∙ sym other.targets)

-- lists that are the same at each place are the same
same_boxes : (d : GrfBox) (xs ys : List GrfBox) → length xs ≡ length ys →
    ((n : ℕ) → n < length xs → get_or xs n d ≡ get_or ys n d) → xs ≡ ys
same_boxes d [] [] len each = refl
same_boxes d [] (y ∷ ys) len each = absurd (omega (arith, len))
same_boxes d (x ∷ xs) [] len each = absurd (omega (arith, len))
same_boxes d (x ∷ xs) (y ∷ ys) len each =
    ap (λ (z : GrfBox). z ∷ xs) (each 0 (omega arith))
    ∙ ap (λ (l : List GrfBox). y ∷ l)
    (same_boxes d xs ys (omega (arith, len)) (λ n low. each (suc n) (omega (arith, low))))

-- a text draws one graph
pub drawn_once : (kind : GraphKind) (text : List ℕ) (one other : Graph) → IsGraphOf kind text one →
    IsGraphOf kind text other → one ≡ other
drawn_once kind text one other is also =
    let texts = is.0 in
    let draws : Draws kind texts other =
    subst (λ (ts : List BoxText). Draws kind ts other) (HasTexts-once text also.0 texts also.1 is.1) also.2
    in
    ap (λ (boxes : List GrfBox). record { boxes = boxes })
    (same_boxes _ one.boxes other.boxes (is.2.len ∙ sym draws.len) (λ n low.
    let inside : n < length texts = (let len = is.2.len in omega (arith, len, low)) in
    box_once kind (text_at texts n) n (box_of_graph one n) (box_of_graph other n)
    (same_test (box_of_graph one n).reached (box_of_graph other n).reached
    (Reached (ways_in texts) n) (is.2.reached n inside) (draws.reached n inside))
    (is.2.boxes n inside) (draws.boxes n inside)))
