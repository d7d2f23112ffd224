-- The hits of a cascade's steps. The manual, on cascades of graphs. Public, through `Cascade`.
use Rattle.std.specs.Prelude.{ℕ, List, IsSomeAnd, slice_get}
use Rattle.ux_alphabet.specs.Letters.{Letters}
use Rattle.ux_apply.specs.Applied.{AreApplied}
use Rattle.ux_apply.specs.declared.priority.Priority.{Priority}
use Rattle.ux_base.specs.declared.settings.Mode.{Mode}
use Rattle.ux_base.specs.declared.settings.NoVar.TheVariants.{Nothing}
use Rattle.ux_base.specs.declared.settings.Policy.TheVariants.{Longest}
use Rattle.ux_command_line.specs.declared.request.CascadeStep.{CascadeStep}
use Rattle.ux_dela.specs.declared.entry.Entry.{Entry}
use Rattle.ux_grammars.specs.Sources.{Source, grammar_of}
use Rattle.ux_lexical_tables.specs.Tables.{Tables}
use Rattle.ux_locate.specs.Hits.{IsHit}
use Rattle.ux_locate.specs.Index.{IsKeptListing}
use Rattle.ux_net.specs.Nets.{net_grammar}
use Rattle.ux_net.specs.Words.{Grammar}
use Rattle.ux_outputs.specs.declared.hit.Hit.{Hit}
use Rattle.ux_tokens.specs.Tokens.{Token}
use Rattle.ux_cmd_cascade.specs.declared.files.StepNet.{StepNet}

-- the longest hits of a grammar in a text to which the dictionaries' entries are applied, by place; an
-- output without its variable puts nothing
pub record AreStepHits (letters : Letters) (dics : List (Priority × List Entry)) (grammar : Grammar)
    (mode : Mode) (tokens : List Token) (hits : List Hit) : Type 0 where
  pub tables : Tables
  pub applied : AreApplied letters dics tokens tables
  pub listing : IsKeptListing Longest (IsHit letters tokens tables grammar mode Nothing) hits

-- these are the hits of a step in a text
abbrev pub FindsIn : Letters → List (Priority × List Entry) → List CascadeStep → List Source →
    (step : ℕ) → List Token → List Hit → Type 0
FindsIn letters dics steps sources step tokens hits =
    IsSomeAnd (slice_get steps step) (λ asked.
    IsSomeAnd (slice_get sources step) (λ source.
    AreStepHits letters dics (grammar_of letters source) asked.mode tokens hits))

-- the same, by the nets of the steps
abbrev pub FindsByNet : Letters → List (Priority × List Entry) → List StepNet → (step : ℕ) →
    List Token → List Hit → Type 0
FindsByNet letters dics nets step tokens hits =
    IsSomeAnd (slice_get nets step) (λ net.
    AreStepHits letters dics (net_grammar net.net) net.mode tokens hits)
