-- What a chart tells of contexts and calls is what is meant.
use Rattle.std.proofs.Common.{arith, ◌≡◌, ℕ, List, [], ◌∷◌, length, refl, sym, subst}
use Rattle.std.specs.Prelude.{Contains}
use Rattle.ux_meaning.proofs.Levels.{in_the_end}
use Rattle.ux_net.specs.Nets.{net_grammar}
use Rattle.ux_text_chart.specs.declared.text_chart.TextChart.{TextChart}
use Rattle.ux_text_chart.specs.Leading.{input_of}
use Rattle.ux_text_chart.specs.TextCharts.{IsTextChart, chart_setting, parts_of}
use Rattle.ux_walk.specs.Contexts.{ContextsTold}
use Rattle.ux_walk.specs.Settings.{Setting}
use Rattle.ux_chart_contexts.specs.Telling.{AsksChart, Levelled, levelled, tells_in}

-- the contexts that a chart of a setting tells are those that are meant
pub chart_told : (chart : TextChart) (setting : Setting) → IsTextChart chart →
    chart_setting chart ≡ setting → (told : Levelled) → told ≡ levelled chart →
    ContextsTold setting (AsksChart told) (tells_in told)
chart_told chart setting filled made told is =
    subst (λ (t : Levelled). ContextsTold setting (AsksChart t) (tells_in t)) (sym is)
    (subst (λ (s : Setting). ContextsTold s (AsksChart (levelled chart)) (tells_in (levelled chart)))
    made (record {
      asked = λ g edge at opening inside. record { opening = opening; inside = inside };
      meant = record {
        level = filled.parts.level;
        levels = (parts_of chart).levels;
        nested = filled.parts.levels;
        exact = λ g label opening at c opens. (λ applies. applies, λ applies. applies);
        entered = λ h at end events derives asked. (
          end,
          events,
          (in_the_end (input_of (chart_setting chart)) (net_grammar (chart_setting chart).net)
              filled.parts.level (parts_of chart).levels filled.parts.levels h at end events).0 derives,
        );
      };
    }))

-- a list that isn't empty has an item
pub some_item : (items : List ℕ) → (length items ≡ 0 → ⊥) → (item : ℕ) × Contains items item
some_item [] some = absurd (some refl)
some_item (x ∷ items) some = (x, (0, omega arith, refl))
