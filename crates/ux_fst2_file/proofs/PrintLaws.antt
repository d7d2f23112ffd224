-- What is printed says what was printed.
use Rattle.std.proofs.Common.{arith, ◌≡◌, ◌≢◌, ℕ, suc, ◌≤◌, ◌+◌, List, [], ◌∷◌, ◌++◌, Bool, true, false, not, refl, sym, ◌∙◌, ap, subst, append_assoc, cond, eqb, length, length-append, map, decimal, inl, inr}
use Rattle.std.specs.Prelude.{All, AllPairs, Contains}
use Rattle.std.proofs.lemmas.Bool.{false≢true}
use Rattle.std.proofs.lemmas.List.Elements.{Contains-push_cases}
use Rattle.ux_fst2_file.specs.Fields.{SPACE, MOST, IsNumber, begins_with_field, without_spaces, without_end_spaces}
use Rattle.ux_fst2_file.specs.Lines.{END, IsHead}
use Rattle.ux_fst2_file.specs.Files.{BeginGraphs, no_graph, graph_then, AreTags, last_line, tag_line, Says}
use Rattle.ux_fst2_file.specs.Printed.{ten_digits, state_text, head_text, graph_lines, graphs_lines, file_lines, file_text, IsName, IsSpellableGraph, IsSpellableTag, IsSpellable}
use Rattle.ux_fst2_file.specs.declared.file.Fst2Graph.{Fst2Graph}
use Rattle.ux_fst2_file.specs.declared.file.Fst2File.{Fst2File}
use Rattle.ux_fst2_file.proofs.FileLaws.{file_once}
use Rattle.ux_fst2_file.proofs.PrintLemmas.{lines_printed}
use Rattle.ux_fst2_file.proofs.PrintedFields.{plain_from_solid, solid_digits, solid_decimal, number_decimal, cut_solid}
use Rattle.ux_fst2_file.proofs.PrintedStates.{states_say}
use Rattle.ux_fst2_file.proofs.PrintedCount.{count_digits, count_says}
use Rattle.ux_fst2_file.proofs.PrintedLines.{AreLineTexts, each_line, lines-append, plain_line, graphs_are_lines, tags_are_lines}

-- heads
head_says : (number : ℕ) (name : List ℕ) → number ≤ MOST → IsName name →
    IsHead number (head_text number name) name
head_says number name small is =
    let cut = cut_solid (decimal number) name (solid_decimal number small) in
    record {
      behind = decimal number ++ (SPACE ∷ name);
      sign = refl;
      is_number = subst (λ (t : List ℕ). IsNumber t number) (sym cut.0)
          (number_decimal number small);
      is_name = sym (ap (λ (t : List ℕ). without_end_spaces (without_spaces t)) cut.1
          ∙ (ap without_end_spaces (no_front name is.front) ∙ is.back));
      some = some_name name is.front;
    }
  where
    no_front : (name : List ℕ) → begins_with_field name ≡ true → without_spaces name ≡ name
    no_front [] e = refl
    no_front (b ∷ name) e = ap (λ t. cond t (without_spaces name) (b ∷ name)) (flip (eqb b SPACE) e)
      where
        flip : (t : Bool) → not t ≡ true → t ≡ false
        flip true e = sym e
        flip false e = refl

    some_name : (name : List ℕ) → begins_with_field name ≡ true → name ≢ []
    some_name [] front e = false≢true front
    some_name (b ∷ name) front e = omega (arith, ap length e)

-- graphs, each with a new name
graphs_say : (names : List (List ℕ)) (number : ℕ) (graphs : List Fst2Graph)
    (rest : List (List ℕ)) → number ≡ length names + 1 → length names + length graphs ≤ 65535 →
    All IsSpellableGraph graphs →
    AllPairs (λ (one other : Fst2Graph). one.name ≢ other.name) graphs →
    All (λ (g : Fst2Graph). Contains names g.name → ⊥) graphs →
    BeginGraphs names (graphs_lines number graphs ++ rest) graphs rest
graphs_say names number [] rest is fit spelled apart new = no_graph names rest
graphs_say names number (graph ∷ graphs) rest is fit spelled apart new =
    let more = graphs_lines (number + 1) graphs in
    let marks = map state_text graph.states in
    let last = END ++ SPACE ∷ [] in
    let head = head_text number graph.name in
    let here = spelled 0 graph (omega arith) in
    let shape : (graph_lines number graph ++ more) ++ rest
    ≡ head ∷ (marks ++ (last ∷ (more ++ rest))) =
    append_assoc (graph_lines number graph) more rest
    ∙ ap (λ (t : List (List ℕ)). head ∷ t) (append_assoc marks (last ∷ []) (more ++ rest)) in
    subst (λ (t : List (List ℕ)). BeginGraphs names t (graph ∷ graphs) rest) (sym shape)
    (graph_then names head (marks ++ (last ∷ (more ++ rest))) (more ++ rest) rest graph graphs (
      subst (λ n. IsHead n head graph.name) is
          (head_says number graph.name (omega (arith, is, fit)) here.name),
      new 0 graph (omega arith),
    )
    (states_say 0 graph.states (more ++ rest) (omega (arith, here.few)) (omega (arith, here.some))
    here.states)
    (graphs_say (names ++ graph.name ∷ []) (number + 1) graphs rest
    (omega (arith, is, length-append names (graph.name ∷ [])))
    (omega (arith, fit, length-append names (graph.name ∷ [])))
    (λ k d lt. spelled (suc k) d (omega (arith, lt)))
    (λ i j d below lt. apart (suc i) (suc j) d (omega (arith, below)) (omega (arith, lt)))
    (λ k d lt has. elim (Contains-push_cases names graph.name _ has) [
      | inl old ↦ new (suc k) d (omega (arith, lt)) old
      | inr same ↦ apart 0 (suc k) d (omega arith) (omega (arith, lt)) same
    ])))

tags_say : (tags : List (List ℕ)) → All IsSpellableTag tags → AreTags (tags ++ END ∷ []) tags true
tags_say [] spelled = last_line END [] (record { front = refl; are = refl })
tags_say (tag ∷ tags) spelled =
    tag_line tag (tags ++ END ∷ []) tags true (spelled 0 tag (omega arith)).other
    (tags_say tags (λ k d lt. spelled (suc k) d (omega (arith, lt))))

-- what is printed for a file that can be spelled says that file
pub printed_says : (file : Fst2File) → IsSpellable file → Says (file_text file) file true
printed_says file is =
    let count = length file.graphs in
    let digits = count_digits count is.fits in
    let behind = graphs_lines 1 file.graphs ++ (file.tags ++ END ∷ []) in
    let lines : AreLineTexts (file_lines file) = (
      plain_line (ten_digits count)
          (plain_from_solid (ten_digits count) (solid_digits (ten_digits count) digits)),
      lines-append (graphs_lines 1 file.graphs) (file.tags ++ END ∷ [])
          (graphs_are_lines 1 file.graphs (omega (arith, is.fits)) is.graphs)
          (lines-append file.tags (END ∷ []) (tags_are_lines file.tags is.tags)
          (plain_line END ((λ e. omega (arith, e), λ e. omega (arith, e)), tt), tt)),
    ) in
    record {
      rest = file.tags ++ END ∷ [];
      graphs = record {
        lines = behind;
        has_count = record {
          first = ten_digits count;
          whole = lines_printed (file_lines file) (each_line (file_lines file) lines);
          is_count = count_says count is.some is.fits;
        };
        are_graphs = graphs_say [] 1 file.graphs (file.tags ++ END ∷ []) refl
            (omega (arith, is.fits)) is.graphs is.names (λ k d lt has. omega (arith, has.1));
      };
      tags = tags_say file.tags is.tags;
    }

-- so it reads back as that file, and as no other
pub printed_reads_back : (file other : Fst2File) (is_ended : Bool) → IsSpellable file →
    Says (file_text file) other is_ended → (other ≡ file) × (is_ended ≡ true)
printed_reads_back file other is_ended is says =
    file_once (file_text file) other file is_ended true says (printed_says file is)
