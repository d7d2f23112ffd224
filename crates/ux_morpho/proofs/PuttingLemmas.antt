-- What is put out for all letters, by the derivations from the first.
use Rattle.std.proofs.Common.{◌≡◌, ◌≢◌, ◌∙◌, inl, inr, ℕ, List, [], ap, length, refl, subst, sym}
use Rattle.std.specs.Prelude.{◌↔◌, Contains, None, Option, Some}
use Rattle.std.proofs.lemmas.Option.{none-some, same_Some}
use Rattle.ux_alphabet.specs.Letters.{Letters}
use Rattle.ux_base.specs.declared.settings.Mode.TheVariants.{Replace}
use Rattle.ux_base.specs.declared.settings.NoVar.TheVariants.{Nothing}
use Rattle.ux_lexical_tables.specs.Tables.{Tables}
use Rattle.ux_mask_table.specs.declared.masked_text.MaskedText.{MaskedText}
use Rattle.ux_mask_table.specs.MaskedTexts.{IsOver}
use Rattle.ux_net.specs.declared.net_graph.NetGraph.{NetGraph}
use Rattle.ux_outputs.specs.declared.event.Event.{Event}
use Rattle.ux_outputs.specs.declared.hit.Hit.{Hit}
use Rattle.ux_outputs.specs.Rendering.{render}
use Rattle.ux_tokens.specs.Tokens.{Token}
use Rattle.ux_walk.specs.Noting.{Includes}
use Rattle.ux_text_chart.specs.NetTables.{AreTablesFor}
use Rattle.ux_text_chart.specs.declared.net_tables.NetTables.{NetTables}
use Rattle.ux_walk.specs.Settings.{Derives, Setting, masked_setting, setting_of}
use Rattle.ux_walk.proofs.Collecting.{Among, none_in}
use Rattle.ux_morpho.specs.Analyses.{RendersAs}
use Rattle.ux_morpho.specs.Putting.{PutsIn, RendersWhole}

module _ (letters : List Token) (events : List Event) where
  -- the output of events that render a hit is its text
  pub renders_hit : (hit : Hit) → render letters Replace Nothing 0 events ≡ Some hit →
      (output : List ℕ) → (Some hit.text ≡ Some output) ↔ RendersAs letters events output
  renders_hit hit rendered output = (
    λ same. record {
      hit = hit;
      rendered = rendered;
      is = sym (same_Some hit.text output same);
    },
    λ renders.
        let one = same_Some hit renders.hit (sym rendered ∙ renders.rendered) in
        ap (λ (h : Hit). Some h.text) one ∙ ap Some (sym renders.is),
  )

  -- those that render none have none
  pub renders_none : render letters Replace Nothing 0 events ≡ None → (output : List ℕ) →
      (let none : Option (List ℕ) = None in none ≡ Some output) ↔ RendersAs letters events output
  renders_none rendered output = (
    λ same. absurd (none-some output same),
    λ renders. absurd (none-some renders.hit (sym rendered ∙ renders.rendered)),
  )

  -- the output was added
  pub output_added : (end : ℕ) (found : Option (List ℕ)) (old new : List (List ℕ)) →
      end ≡ length letters →
      ((output : List ℕ) → (found ≡ Some output) ↔ RendersAs letters events output) →
      Includes (λ text. found ≡ Some text) old new →
      Includes (RendersWhole letters (end, events)) old new
  output_added end found old new whole is more = record {
    kept = more.kept;
    only = λ output here. elim (more.only output here) [
      | inl before ↦ inl before
      | inr same ↦ inr (whole, (is output).0 same)
    ];
    has = λ output renders. more.has output ((is output).1 renders.1);
  }

-- a list of derivations that holds those of a setting renders what its net puts out
pub puts_out : (setting : Setting) (found : List (ℕ × List Event)) →
    ((end : ℕ) (events : List Event) → Contains found (end, events) ↔ Derives setting 0 end events) →
    (outputs : List (List ℕ)) → ((output : List ℕ) → Contains outputs output
    ↔ Among (RendersWhole setting.tokens) found output) → (output : List ℕ) →
    Contains outputs output ↔ PutsIn setting output
puts_out setting found exactly outputs are output = (
  λ here.
      let of = (are output).0 here in
      let derives = (exactly of.0.0 of.0.1).0 of.1 in
      record {
        events = of.0.1;
        derived = subst (λ (end : ℕ). Derives setting 0 end of.0.1) of.2.0 derives;
        renders = of.2.1;
      },
  λ puts.
      let whole = length setting.tokens in
      (are output).1 (
        (whole, puts.events),
        (exactly whole puts.events).1 puts.derived,
        (refl, puts.renders),
      ),
)

-- where nothing takes all letters, nothing is put out
pub puts_nothing : (setting : Setting) →
    (((events : List Event) × Derives setting 0 (length setting.tokens) events) → ⊥) →
    (outputs : List (List ℕ)) → outputs ≡ [] → (output : List ℕ) →
    Contains outputs output ↔ PutsIn setting output
puts_nothing setting never outputs empty output = (
  λ here. absurd (none_in output (subst (λ (l : List (List ℕ)). Contains l output) empty here)),
  λ puts. absurd (never (puts.events, puts.derived)),
)

-- a text with its masks has the setting of what it is made of
pub over_setting : (net : List NetGraph) (tokens : List Token) (alphabet : Letters) (tables : Tables)
    (text : MaskedText) → IsOver net tokens alphabet tables text →
    masked_setting text ≡ setting_of net tokens alphabet tables
over_setting net tokens alphabet tables text over =
    ap (λ n. setting_of n text.text.now text.alphabet.now text.applied.now) over.net_is
    ∙ (ap (λ t. setting_of net t text.alphabet.now text.applied.now) over.text_is
    ∙ (ap (λ a. setting_of net tokens a text.applied.now) over.alphabet_is
    ∙ ap (λ t. setting_of net tokens alphabet t) over.applied_is))

-- tables for a text serve it with its masks
pub over_tables : (net : List NetGraph) (tokens : List Token) (alphabet : Letters) (tables : Tables)
    (text : MaskedText) → IsOver net tokens alphabet tables text → (looked : NetTables) →
    AreTablesFor alphabet tokens net looked →
    AreTablesFor text.alphabet.now text.text.now text.net.now looked
over_tables net tokens alphabet tables text over looked are =
    subst (λ (n : List NetGraph). AreTablesFor text.alphabet.now text.text.now n looked)
    (sym over.net_is)
    (subst (λ (t : List Token). AreTablesFor text.alphabet.now t net looked) (sym over.text_is)
    (subst (λ (a : Letters). AreTablesFor a tokens net looked) (sym over.alphabet_is) are))
