-- The parts of a text together: its first line, its graphs and its tags.
use Rattle.std.proofs.Common.{◌≡◌, ℕ, ◌+◌, List, [], sym, ◌∙◌, subst, length, inl, inr}
use Rattle.std.specs.Prelude.{◌⊎◌}
use Rattle.ux_base.specs.Lines.{lines_of}
use Rattle.ux_fst2_file.specs.Files.{BeginGraphs, HasCount, HasGraphs}
use Rattle.ux_fst2_file.specs.Refusals.{StopGraphs, Refuses}
use Rattle.ux_fst2_file.specs.Reading.{IsFirst, StopsAtLine}
use Rattle.ux_fst2_file.specs.declared.file.Fst2Graph.{Fst2Graph}
use Rattle.ux_fst2_file.specs.declared.error.Fst2Error.{Fst2Error}
use Rattle.ux_fst2_file.specs.declared.error.Fst2Error.TheVariants.{BadCount, NoMemory}

module _ (text : List ℕ) (all : List (List ℕ)) (is : all ≡ lines_of text) where
  pub no_count : (error : Fst2Error) → (error ≡ BadCount) ×
      ((count : ℕ) (lines : List (List ℕ)) → IsFirst all lines count → ⊥) → Refuses text error
  no_count error h =
      subst (λ (e : Fst2Error). Refuses text e) (sym h.0) (λ count lines has.
      h.1 count lines
      (record { line = has.first; whole = is ∙ has.whole; is_count = has.is_count }))

  module _ (count : ℕ) (lines : List (List ℕ)) (first : IsFirst all lines count) where
    has_count : HasCount text count lines
    has_count = record {
      first = first.line;
      whole = sym is ∙ first.whole;
      is_count = first.is_count;
    }

    pub no_graphs : (number : ℕ) (error : Fst2Error) → number + 1 ≡ 2 →
        (error ≡ NoMemory) ⊎ StopsAtLine (StopGraphs count [] (number + 1) lines) error →
        (error ≡ NoMemory) ⊎ Refuses text error
    no_graphs number error e (inl none) = inl none
    no_graphs number error e (inr stop) =
        inr (subst (λ (x : Fst2Error). Refuses text x) (sym stop.1) (
          count,
          lines,
          has_count,
          subst (λ n. StopGraphs count [] n lines stop.0) e stop.2,
        ))

    pub has_graphs : (graphs : List Fst2Graph) (rest : List (List ℕ)) → length graphs ≡ count →
        BeginGraphs [] lines graphs rest → HasGraphs text graphs rest
    has_graphs graphs rest many begin = record {
      lines = lines;
      has_count = subst (λ n. HasCount text n lines) (sym many) has_count;
      are_graphs = begin;
    }
