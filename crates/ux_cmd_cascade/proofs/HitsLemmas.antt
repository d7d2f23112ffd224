-- The hits that a step keeps can be rewritten.
use Rattle.std.proofs.Common.{arith, ◌<◌, List, get_or, inl, inr, length}
use Rattle.std.specs.Prelude.{Contains}
use Rattle.std.proofs.lemmas.List.Elements.{Contains-get_or}
use Rattle.ux_alphabet.specs.Letters.{Letters}
use Rattle.ux_base.specs.declared.settings.Mode.{Mode}
use Rattle.ux_base.specs.declared.settings.NoVar.TheVariants.{Nothing}
use Rattle.ux_base.specs.declared.settings.Policy.TheVariants.{Longest}
use Rattle.ux_cascade.specs.Rewriting.{CanRewrite, IsInOrder, LiesIn}
use Rattle.ux_cascade.proofs.LyingLemmas.{rendered_lies}
use Rattle.ux_lexical_tables.specs.Belonging.{Belongs}
use Rattle.ux_lexical_tables.specs.Tables.{Tables}
use Rattle.ux_locate.specs.Hits.{IsHit}
use Rattle.ux_locate.specs.Index.{IsKeptListing, StandsBefore}
use Rattle.ux_locate.specs.Policies.{IsApart}
use Rattle.ux_locate.proofs.FoundLemmas.{followed}
use Rattle.ux_net.specs.Nets.{net_grammar}
use Rattle.ux_net.specs.declared.net_graph.NetGraph.{NetGraph}
use Rattle.ux_outputs.specs.declared.hit.Hit.{Hit}
use Rattle.ux_tokens.specs.Tokens.{Token}
use Rattle.ux_walk.specs.Settings.{setting_of}
use Rattle.ux_cmd_cascade.specs.OneList.{all_before}

module _ (net : List NetGraph) (alphabet : Letters) (tokens : List Token) (tables : Tables)
    (belongs : Belongs alphabet tokens tables) (mode : Mode) where
  hit_lies : (hit : Hit) → IsHit alphabet tokens tables (net_grammar net) mode Nothing hit →
      LiesIn tokens hit
  hit_lies hit h =
      let follow = followed (setting_of net tokens alphabet tables) belongs h.start h.end h.events
      h.starts h.derived in
      rendered_lies tokens mode Nothing hit h.start h.events
      (record { end = h.end; follows = follow.0; within = follow.1 }) h.rendered

  -- of two that are kept the first ends before the other begins, or they begin together
  ordered : (hits : List Hit) (hit other : Hit) → IsApart hits other → Contains hits hit →
      StandsBefore hit other → IsInOrder hit other
  ordered hits hit other apart member (inl before) = inr (apart hit member before)
  ordered hits hit other apart member (inr (inl same)) = inl same.0
  ordered hits hit other apart member (inr (inr same)) = inl same.0

  pub can_rewrite : (hits : List Hit) →
      IsKeptListing Longest (IsHit alphabet tokens tables (net_grammar net) mode Nothing) hits →
      CanRewrite tokens hits
  can_rewrite hits listing = record {
    lie = λ k d within.
        let hit = get_or hits k d in
        hit_lies hit ((listing.exactly hit).0 (Contains-get_or hits k d within)).0;
    in_order = λ i j d lt within.
        let low : i < length hits = omega (arith, lt, within) in
        let other = get_or hits j d in
        ordered hits (get_or hits i d) other
        ((listing.exactly other).0 (Contains-get_or hits j d within)).2
        (Contains-get_or hits i d low) (all_before hits listing.ordered i j d lt within);
  }
