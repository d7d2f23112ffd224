-- Which contexts apply and which calls do, as the chart of a text tells it. Public: the crate's public
-- contracts speak of it.
use Rattle.std.specs.Prelude.{ℕ, ◌≤◌, List, length}
use Rattle.ux_net.specs.declared.state.Edge.{Edge}
use Rattle.ux_net.specs.Nets.{net_grammar}
use Rattle.ux_meaning.specs.Contexts.{Applies, IsOpening}
use Rattle.ux_outputs.specs.declared.event.Event.{Event}
use Rattle.ux_meaning.specs.Meaning.{Der}
use Rattle.ux_text_chart.specs.declared.text_chart.TextChart.{TextChart}
use Rattle.ux_text_chart.specs.Leading.{input_of}
use Rattle.ux_text_chart.specs.TextCharts.{chart_setting, parts_of}
use Rattle.ux_walk.specs.Contexts.{Applying}
use Rattle.ux_walk.specs.Settings.{Setting}

-- what a chart is made for, and how many levels of negative contexts its net has
pub record Levelled : Type 0 where
  pub setting : Setting
  pub levels : ℕ

-- those of a chart
abbrev pub levelled : TextChart → Levelled
levelled chart = record { setting = chart_setting chart; levels = (parts_of chart).levels }

-- the chart may be asked of an edge that opens a context, at a position in its text
pub record AsksChart (told : Levelled) (g : ℕ) (edge : Edge) (at : ℕ) : Type 0 where
  pub opening : IsOpening told.setting.net g edge
  pub inside : at ≤ length told.setting.tokens

-- the net has the graph, and the text the position
pub record IsAskedOf (setting : Setting) (graph at : ℕ) : Type 0 where
  pub from : 1 ≤ graph
  pub to : graph ≤ length setting.net
  pub inside : at ≤ length setting.tokens

-- the graph derives something from the position
abbrev pub DerivesSome : Setting → (graph at : ℕ) → Type 0
DerivesSome setting graph at = (end : ℕ) × (events : List Event)
    × Der (input_of setting) (net_grammar setting.net) graph at end events

-- it tells those contexts that apply by the levels of its net; and a graph that it may be asked of is
-- entered where that derives something
abbrev pub tells_in : Levelled → Applying
tells_in told = record {
  contexts = λ g label opening at c. Applies (input_of told.setting)
      (net_grammar told.setting.net) told.levels g label opening at c;
  enters = λ graph at. IsAskedOf told.setting graph at → DerivesSome told.setting graph at;
}
