-- The hits of a net lie in the text.
use Rattle.std.proofs.Common.{List, get_or}
use Rattle.std.specs.Prelude.{All}
use Rattle.std.proofs.lemmas.List.Elements.{Contains-get_or}
use Rattle.ux_base.specs.declared.settings.Mode.{Mode}
use Rattle.ux_base.specs.declared.settings.NoVar.{NoVar}
use Rattle.ux_base.specs.declared.settings.Policy.{Policy}
use Rattle.ux_base.specs.declared.settings.Policy.TheVariants.{Shortest, Longest, All as Every}
use Rattle.ux_alphabet.specs.Letters.{Letters}
use Rattle.ux_tokens.specs.Tokens.{Token}
use Rattle.ux_lexical_tables.specs.Belonging.{Belongs}
use Rattle.ux_lexical_tables.specs.Tables.{Tables}
use Rattle.ux_net.specs.Nets.{net_grammar}
use Rattle.ux_net.specs.declared.net_graph.NetGraph.{NetGraph}
use Rattle.ux_outputs.specs.declared.hit.Hit.{Hit}
use Rattle.ux_walk.specs.Settings.{setting_of}
use Rattle.ux_locate.specs.Hits.{IsHit}
use Rattle.ux_locate.specs.Index.{IsKeptListing}
use Rattle.ux_locate.specs.Policies.{Keeps}
use Rattle.ux_locate.proofs.FoundLemmas.{followed}
use Rattle.ux_concordance.specs.Concordance.{LiesIn}
use Rattle.ux_concordance.proofs.LyingLemmas.{rendered_lies}

module _ (net : List NetGraph) (alphabet : Letters) (tokens : List Token) (tables : Tables)
    (belongs : Belongs alphabet tokens tables) (mode : Mode) (novar : NoVar) where
  hit_lies : (hit : Hit) → IsHit alphabet tokens tables (net_grammar net) mode novar hit →
      LiesIn tokens hit
  hit_lies hit h =
      let follow = followed (setting_of net tokens alphabet tables) belongs h.start h.end h.events
      h.starts h.derived in
      rendered_lies tokens mode novar hit h.start h.events
      (record { end = h.end; follows = follow.0; within = follow.1 }) h.rendered

  -- what a policy keeps is a hit
  kept_is : (policy : Policy) (kept : List Hit) (hit : Hit) →
      Keeps policy (IsHit alphabet tokens tables (net_grammar net) mode novar) kept hit →
      IsHit alphabet tokens tables (net_grammar net) mode novar hit
  kept_is Every kept hit k = k
  kept_is Longest kept hit k = k.0
  kept_is Shortest kept hit k = k.0

  -- and so each that is listed
  pub hits_lie : (policy : Policy) (hits : List Hit) →
      IsKeptListing policy (IsHit alphabet tokens tables (net_grammar net) mode novar) hits →
      All (LiesIn tokens) hits
  hits_lie policy hits listing = λ k d within.
      let hit = get_or hits k d in
      hit_lies hit (kept_is policy hits hit ((listing.exactly hit).0 (Contains-get_or hits k d within)))
