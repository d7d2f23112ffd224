-- From the bytes of a graph's file to the graph that they draw, or to what stops the reading.
use Rattle.std.proofs.Common.{◌≡◌, ◌⊎◌, inl, inr, ℕ, ◌<◌, ◌≤◌, List, Option, String, Global, refl}
use Rattle.std.specs.Prelude.{string_bytes}
use Rattle.ux_base.specs.Outside.{Files, Seen}
use Rattle.ux_plan.specs.declared.stop.Stop.{Stop}
use Rattle.ux_plan.specs.declared.stop.Stop.TheVariants.{Absent, ReadFault, TooLarge, Refused, NoMemory}
use Rattle.ux_plan.specs.Plans.{HasFile, IsLong, Reads, StopsFile, StopsTest, bytes_format, refusing}
use Rattle.ux_reasons.specs.declared.reason.Reason.{Reason}
use Rattle.ux_reasons.specs.declared.reason.Reason.TheVariants.{TooManyGraphs}
use Rattle.ux_grf.specs.declared.graph.Graph.{Graph}
use Rattle.ux_grf.specs.declared.graph.GraphKind.{GraphKind}
use Rattle.ux_boxes.specs.Refusing.{drawn_of}
use Rattle.ux_grammars.specs.Graphs.{MOST_GRAPHS, drawing_of, graph_format}

-- The file of a graph after so many others.
module _ (kind : GraphKind) (count : ℕ) (name file : List ℕ) where
  -- the file's bytes are not read
  pub bytes_stop : (old new : Seen) (stop : Stop Reason) → StopsFile bytes_format file old new stop →
      StopsFile (graph_format kind count name) file old new stop
  bytes_stop old new (Absent named) stops = stops
  bytes_stop old new (ReadFault named) stops = stops
  bytes_stop old new (TooLarge named) stops = (stops.0, long stops.1)
    where
      long : IsLong {R = Reason} bytes_format file old new →
          IsLong (graph_format kind count name) file old new
      long (inl rose) = inl rose
      long (inr (bytes, has, large)) = absurd large
  bytes_stop old new (Refused named reason) stops = absurd stops.1.2
  bytes_stop old new NoMemory stops = tt

  -- there are as many graphs as there may be
  pub too_many_stop : (old new : Seen) (bytes : List ℕ) → MOST_GRAPHS ≤ count →
      HasFile old.files file bytes → (stop : Stop Reason) →
      (stop ≡ Refused file TooManyGraphs) ⊎ (stop ≡ NoMemory) →
      StopsFile (graph_format kind count name) file old new stop
  too_many_stop old new bytes many has stop (inl is) = rw is (refl, (bytes, has, inr (many, refl)))
  too_many_stop old new bytes many has stop (inr is) = rw is tt

  module _ (few : count < MOST_GRAPHS) (bytes : List ℕ) where
    -- the bytes draw the graph
    pub drawing_reads : (told : Option Files) (graph : String Global × Graph) →
        HasFile told file bytes → (drawing_of kind).Is bytes graph.1 →
        string_bytes graph.0 ≡ name →
        Reads (graph_format kind count name) file told (drawn_of graph)
    drawing_reads told graph has drawing is = record {
      file = bytes;
      has = has;
      is = (few, is, drawing);
    }

    -- the bytes are refused
    pub drawing_stops : (old new : Seen) (stop : Stop Reason) → HasFile old.files file bytes →
        StopsTest (refusing (λ named reason. (named ≡ file)
        × (drawing_of kind).Refuses bytes reason)) stop →
        StopsFile (graph_format kind count name) file old new stop
    drawing_stops old new (Absent named) has stops = absurd stops
    drawing_stops old new (ReadFault named) has stops = absurd stops
    drawing_stops old new (TooLarge named) has stops = absurd stops
    drawing_stops old new (Refused named reason) has stops =
        (stops.0, (bytes, has, inl (few, stops.1)))
    drawing_stops old new NoMemory has stops = tt

pub ruleset drawings = (bytes_stop, too_many_stop, drawing_reads, drawing_stops)
