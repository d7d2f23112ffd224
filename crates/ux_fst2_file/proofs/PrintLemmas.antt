-- What is printed piece by piece, and that its lines are those that were printed.
use Rattle.std.proofs.Common.{arith, ◌≡◌, ◌≢◌, ℕ, suc, ◌<◌, ◌-◌, ◌+◌, List, [], ◌∷◌, ◌++◌, Bool, true, false, refl, sym, ◌∙◌, ap, append_assoc, append-nil, eqb, ne_eqb, get_or, length, map, take, flat_map}
use Rattle.std.specs.Prelude.{◌==◌, ◌&&◌, nat_lt, All}
use Rattle.std.specs.List.{list_any}
use Rattle.std.proofs.lemmas.Bool.{or_parts, cond-false}
use Rattle.std.proofs.lemmas.List.{take_more}
use Rattle.std.proofs.lemmas.List.Concat.{flat_map-append}
use Rattle.ux_base.specs.Lines.{LINE_FEED, CARRIAGE_RETURN, lines_behind, lines_of, without_return, ends_in_return}
use Rattle.ux_fst2_file.specs.Lines.{END}
use Rattle.ux_fst2_file.specs.Printed.{zeros, ended, state_text, state_line_text, graph_lines, graphs_lines, IsLineText}
use Rattle.ux_fst2_file.specs.declared.file.Fst2State.{Fst2State}
use Rattle.ux_fst2_file.specs.declared.file.Fst2Graph.{Fst2Graph}

pub zeros_more : (n : ℕ) → n < 10 → zeros (10 - n) ≡ 48 ∷ zeros (10 - (n + 1))
zeros_more n lt =
    let e : 10 - n ≡ suc (10 - (n + 1)) = omega (arith, lt) in
    ap zeros e

states_lines : (states : List Fst2State) → flat_map ended (map state_text states)
    ≡ flat_map state_line_text states
states_lines [] = refl
states_lines (s ∷ states) = ap (λ (t : List ℕ). state_line_text s ++ t) (states_lines states)

pub graph_put : (old mid late new head last : List ℕ) (states : List Fst2State) →
    mid ≡ old ++ ended head → late ≡ mid ++ flat_map state_line_text states →
    new ≡ late ++ ended last →
    new ≡ old ++ flat_map ended (head ∷ (map state_text states ++ last ∷ []))
graph_put old mid late new head last states is_mid is_late is_new =
    let lines = flat_map state_line_text states in
    is_new
    ∙ (ap (λ (t : List ℕ). t ++ ended last) (is_late ∙ ap (λ (t : List ℕ). t ++ lines) is_mid)
    ∙ (ap (λ (t : List ℕ). t ++ ended last) (append_assoc old (ended head) lines)
    ∙ (append_assoc old (ended head ++ lines) (ended last)
    ∙ ap (λ (t : List ℕ). old ++ t) (append_assoc (ended head) lines (ended last)
    ∙ ap (λ (t : List ℕ). ended head ++ t)
    (ap (λ (t : List ℕ). t ++ ended last) (sym (states_lines states))
    ∙ (ap (λ (t : List ℕ). flat_map ended (map state_text states) ++ t)
    (sym (append-nil (ended last)))
    ∙ sym (flat_map-append ended (map state_text states) (last ∷ []))))))))

graphs_lines-push : (number : ℕ) (graphs : List Fst2Graph) (graph : Fst2Graph) →
    graphs_lines number (graphs ++ graph ∷ [])
    ≡ graphs_lines number graphs ++ graph_lines (number + length graphs) graph
graphs_lines-push number [] graph =
    append-nil (graph_lines number graph)
    ∙ ap (λ n. graph_lines n graph) (start number)
  where
    start : (n : ℕ) → n ≡ n + 0
    start n = omega arith
graphs_lines-push number (g ∷ graphs) graph =
    ap (λ (t : List (List ℕ)). graph_lines number g ++ t)
    (graphs_lines-push (number + 1) graphs graph
    ∙ ap (λ n. graphs_lines (number + 1) graphs ++ graph_lines n graph)
    (shift number (length graphs)))
    ∙ sym (append_assoc (graph_lines number g) (graphs_lines (number + 1) graphs)
    (graph_lines (number + length (g ∷ graphs)) graph))
  where
    shift : (n m : ℕ) → n + 1 + m ≡ n + suc m
    shift n m = omega arith

pub graphs_put : (old mid new : List ℕ) (graphs : List Fst2Graph) (i number : ℕ)
    (graph d : Fst2Graph) →
    i < length graphs → get_or graphs i d ≡ graph → number ≡ i + 1 → length (take i graphs) ≡ i →
    mid ≡ old ++ flat_map ended (graphs_lines 1 (take i graphs)) →
    new ≡ mid ++ flat_map ended (graph_lines number graph) →
    new ≡ old ++ flat_map ended (graphs_lines 1 (take (i + 1) graphs))
graphs_put old mid new graphs i number graph d lt is count many is_mid is_new =
    let before = graphs_lines 1 (take i graphs) in
    let n : number ≡ 1 + length (take i graphs) = omega (arith, count, many) in
    let lines : graphs_lines 1 (take (i + 1) graphs) ≡ before ++ graph_lines number graph =
    ap (graphs_lines 1) (take_more graphs i d lt
    ∙ ap (λ (g : Fst2Graph). take i graphs ++ g ∷ []) is)
    ∙ (graphs_lines-push 1 (take i graphs) graph
    ∙ ap (λ m. before ++ graph_lines m graph) (sym n)) in
    is_new
    ∙ (ap (λ (t : List ℕ). t ++ flat_map ended (graph_lines number graph)) is_mid
    ∙ (append_assoc old (flat_map ended before) (flat_map ended (graph_lines number graph))
    ∙ ap (λ (t : List ℕ). old ++ t) (sym (flat_map-append ended before (graph_lines number graph))
    ∙ ap (flat_map ended) (sym lines))))

pub file_put : (first graphs tags : List (List ℕ)) (head : List ℕ) (a b c : List ℕ) →
    a ≡ [] ++ ended head → b ≡ a ++ flat_map ended graphs → c ≡ b ++ flat_map ended tags →
    c ++ ended END ≡ flat_map ended (head ∷ (graphs ++ (tags ++ END ∷ [])))
file_put first graphs tags head a b c is_a is_b is_c =
    let fg = flat_map ended graphs in
    let ft = flat_map ended tags in
    ap (λ (t : List ℕ). t ++ ended END) (is_c ∙ ap (λ (t : List ℕ). t ++ ft)
    (is_b ∙ ap (λ (t : List ℕ). t ++ fg) is_a))
    ∙ (append_assoc (ended head ++ fg) ft (ended END)
    ∙ (append_assoc (ended head) fg (ft ++ ended END)
    ∙ ap (λ (t : List ℕ). ended head ++ t)
    (ap (λ (t : List ℕ). fg ++ (ft ++ t)) (sym (append-nil (ended END)))
    ∙ (ap (λ (t : List ℕ). fg ++ t) (sym (flat_map-append ended tags (END ∷ [])))
    ∙ sym (flat_map-append ended graphs (tags ++ END ∷ []))))))

-- a printed line is read as a line
line_first : (line text front : List ℕ) → list_any (λ b. b == LINE_FEED) line ≡ false →
    lines_behind (line ++ LINE_FEED ∷ text) front ≡ without_return (front ++ line) ∷ lines_of text
line_first [] text front none =
    ap (λ (t : List ℕ). without_return t ∷ lines_of text) (sym (append-nil front))
line_first (b ∷ line) text front none =
    let parts = or_parts (b == LINE_FEED) (list_any (λ c. c == LINE_FEED) line) none in
    cond-false (eqb b LINE_FEED) (without_return front ∷ lines_of (line ++ LINE_FEED ∷ text))
    (lines_behind (line ++ LINE_FEED ∷ text) (front ++ b ∷ [])) parts.0
    ∙ (line_first line text (front ++ b ∷ []) parts.1
    ∙ ap (λ (t : List ℕ). without_return t ∷ lines_of text) (append_assoc front (b ∷ []) line))

and_false : (t u : Bool) → u ≡ false → (t && u) ≡ false
and_false true u e = e
and_false false u e = refl

no_return : (line : List ℕ) → get_or line (length line - 1) 0 ≢ CARRIAGE_RETURN →
    ends_in_return line ≡ false
no_return line other =
    and_false (nat_lt 0 (length line)) (get_or line (length line - 1) 0 == CARRIAGE_RETURN)
    (ne_eqb (get_or line (length line - 1) 0) CARRIAGE_RETURN other)

pub lines_printed : (lines : List (List ℕ)) → All IsLineText lines →
    lines_of (flat_map ended lines) ≡ lines
lines_printed [] all = refl
lines_printed (line ∷ lines) all =
    let is = all 0 [] (omega arith) in
    ap lines_of (append_assoc line (LINE_FEED ∷ []) (flat_map ended lines))
    ∙ (line_first line (flat_map ended lines) [] is.no_feed
    ∙ (ap (λ (t : List ℕ). t ∷ lines_of (flat_map ended lines))
    (cond-false (ends_in_return line) (take (length line - 1) line) line
    (no_return line is.no_return))
    ∙ ap (λ (t : List (List ℕ)). line ∷ t)
    (lines_printed lines (λ k d lt. all (suc k) d (omega (arith, lt))))))
