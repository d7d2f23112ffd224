-- Worked examples of the definitions.
use Rattle.std.proofs.Common.{arith, rules, ◌≡◌, ℕ, zero, suc, ◌<◌, [], ◌∷◌, ◌++◌, List, true, false, refl, length, ap, get_or}
use Rattle.std.specs.Prelude.{codes}
use Rattle.std.specs.Fmt.{digits}
use Rattle.ux_base.specs.Lines.{LINE_FEED}
use Rattle.ux_fst2_file.specs.Fields.{MOST, IsNumber, fields_of}
use Rattle.ux_fst2_file.specs.Lines.{IsHead, IsEnd}
use Rattle.ux_fst2_file.specs.Files.{AreTags, no_line, last_line, tag_line}
use Rattle.ux_fst2_file.specs.Refusals.{Refuses}
use Rattle.ux_fst2_file.specs.Refusals.StopStates.{bad_line}
use Rattle.ux_fst2_file.specs.Refusals.StopGraphs.{in_states}
use Rattle.ux_fst2_file.specs.Labels.{FitsEdge, StopsAtLabel, limits_of}
use Rattle.ux_fst2_file.specs.Labels.StopLabels.{this_state, later_state}
use Rattle.ux_fst2_file.specs.Labels.StopGraphLabels.{this_graph}
use Rattle.ux_fst2_file.specs.Printed.{file_lines}
use Rattle.ux_fst2_file.specs.declared.file.Fst2Label.TheVariants.{Tag}
use Rattle.ux_fst2_file.specs.declared.file.Fst2Edge.{Fst2Edge}
use Rattle.ux_fst2_file.specs.declared.file.Fst2State.{Fst2State}
use Rattle.ux_fst2_file.specs.declared.file.Fst2Graph.{Fst2Graph}
use Rattle.ux_fst2_file.specs.declared.file.Fst2File.{Fst2File}
use Rattle.ux_fst2_file.specs.declared.error.Fst2Error.TheVariants.{BadLine}
use Rattle.ux_fst2_file.proofs.LineLaws.{end_no_state}

two_fields : fields_of (codes "1  -2 ") ≡ codes "1" ∷ codes "-2" ∷ []
two_fields = refl

-- needless zeros don't count
twelve : IsNumber (codes "0012") 12
twelve = record { numeral = (omega arith, search rules); value = refl }

-- a number past 32 bits is as the greatest one
too_great : IsNumber (codes "4294967296") MOST
too_great = record { numeral = (omega arith, search rules); value = refl }

a_head : IsHead 1 (codes "-01  the noun ") (codes "the noun")
a_head = record {
  behind = codes "01  the noun ";
  sign = refl;
  is_number = record { numeral = (omega arith, search rules); value = refl };
  is_name = refl;
  some = λ e. omega (arith, ap length e);
}

-- a state of one edge
abbrev step : (tag target : ℕ) → Fst2State
step tag target =
    record { is_final = false; edges = record { label = Tag tag; target = target } ∷ [] }

-- finds `the` and then a noun
abbrev the_noun : Fst2File
the_noun = record {
  graphs = record {
    name = codes "g";
    states = step 1 1 ∷ step 2 2 ∷ record { is_final = true; edges = [] } ∷ [];
  } ∷ [];
  tags = codes "%<E>" ∷ codes "%the" ∷ codes "%<N>/[N]" ∷ [];
}

its_lines : file_lines the_noun
    ≡ codes "0000000001" ∷ codes "-1 g" ∷ codes ": 1 1 " ∷ codes ": 2 2 " ∷ codes "t " ∷ codes "f "
    ∷ codes "%<E>" ∷ codes "%the" ∷ codes "%<N>/[N]" ∷ codes "f" ∷ []
unfolding digits
its_lines = refl

is_end : IsEnd (codes "f")
is_end = record { front = refl; are = refl }

not_end : IsEnd (codes "%a") → ⊥
not_end is = omega (arith, ap (λ (f : List (List ℕ)). get_or (get_or f 0 []) 0 0) is.are)

-- what stands behind the last `f` isn't read, and without it all lines are tags
ended_tags : AreTags (codes "%a" ∷ codes "f" ∷ codes "-" ∷ []) (codes "%a" ∷ []) true
ended_tags =
    tag_line (codes "%a") (codes "f" ∷ codes "-" ∷ []) [] true not_end
    (last_line (codes "f") (codes "-" ∷ []) is_end)

open_tags : AreTags (codes "%a" ∷ []) (codes "%a" ∷ []) false
open_tags = tag_line (codes "%a") [] [] false not_end no_line

-- a graph without states is refused at its `f`
no_states : Refuses (codes "0000000001" ++ LINE_FEED ∷ (codes "-1 g" ++ LINE_FEED ∷ codes "f"))
    (BadLine 3)
no_states = (
  1,
  codes "-1 g" ∷ codes "f" ∷ [],
  record {
    first = codes "0000000001";
    whole = refl;
    is_count = record {
      digits = codes "0000000001";
      fields = record { front = refl; are = refl };
      ten = refl;
      number = record { numeral = (omega arith, search rules); value = refl };
      some = omega arith;
      fits = omega arith;
    };
  },
  in_states 1 [] 2 3 (codes "-1 g") (codes "g") (codes "f" ∷ []) (omega arith) (
    record {
      behind = codes "1 g";
      sign = refl;
      is_number = record { numeral = (omega arith, search rules); value = refl };
      is_name = refl;
      some = λ e. omega (arith, ap length e);
    },
    λ has. omega (arith, has.1),
  )
      (bad_line 0 3 (codes "f") [] (λ ends. omega (arith, ends.1))
      (λ state adds. end_no_state (codes "f") state is_end adds.0)),
)

-- of two states the second leads to a third
abbrev loose : Fst2Graph
loose = record { name = codes "g"; states = step 1 1 ∷ step 0 2 ∷ [] }

abbrev loose_file : Fst2File
loose_file = record { graphs = loose ∷ []; tags = codes "%<E>" ∷ codes "%a" ∷ [] }

first_fits : (k : ℕ) (d : Fst2Edge) → k < 1 →
    FitsEdge (limits_of loose_file loose) (get_or (step 1 1).edges k d)
first_fits zero d lt = (omega arith, omega arith)
first_fits (suc k) d lt = absurd (omega (arith, lt))

-- and the line of the second is the fourth
no_third_state : StopsAtLabel loose_file 4
no_third_state =
    this_graph 2 4 loose []
    (later_state 3 4 (step 1 1) (step 0 2 ∷ []) first_fits
    (this_state 4 (step 0 2) []
    (λ fits. omega (arith, (fits 0 (record { label = Tag 0; target = 2 }) (omega arith)).1))))
