-- The index of a net's hits is that of the hits of the grammar from which it was compiled.
use Rattle.std.proofs.Common.{ℕ, Bool, List, Option, ◌↔◌}
use Rattle.ux_base.specs.Outside.{Files}
use Rattle.ux_base.specs.declared.settings.Mode.{Mode}
use Rattle.ux_base.specs.declared.settings.NoVar.{NoVar}
use Rattle.ux_base.specs.declared.settings.Policy.{Policy}
use Rattle.ux_base.specs.declared.settings.Policy.TheVariants.{Shortest, Longest, All}
use Rattle.ux_tokens.specs.Tokens.{Token}
use Rattle.ux_grammars.specs.Sources.{grammar_of}
use Rattle.ux_net.specs.Nets.{net_grammar}
use Rattle.ux_net.specs.Words.{Grammar}
use Rattle.ux_net.specs.declared.net_graph.NetGraph.{NetGraph}
use Rattle.ux_outputs.specs.declared.event.Event.{Event}
use Rattle.ux_outputs.specs.declared.hit.Hit.{Hit}
use Rattle.ux_meaning.specs.Meaning.{Der}
use Rattle.ux_walk.specs.Settings.{applied_text}
use Rattle.ux_meaning.proofs.Renaming.{same_meaning}
use Rattle.ux_plan.specs.Commands.{Answers}
use Rattle.ux_alphabet.specs.Letters.{Letters}
use Rattle.ux_locate.specs.Hits.{IsHit}
use Rattle.ux_locate.specs.Index.{IsIndex, IsKeptListing}
use Rattle.ux_locate.specs.Policies.{Keeps}
use Rattle.ux_cmd_locate.specs.Indexes.{IsAppliedIndex}
use Rattle.ux_cmd_locate.specs.Locate.{locate}
use Rattle.ux_cmd_locate.specs.Reading.{AreFiles, search_plan}
use Rattle.ux_lexical_tables.specs.Tables.{Tables}
use Rattle.ux_apply.specs.declared.priority.Priority.{Priority}
use Rattle.ux_dela.specs.declared.entry.Entry.{Entry}

module _ (alphabet : Letters) (tokens : List Token) (tables : Tables) (mode : Mode)
    (novar : NoVar) where
  -- grammars that derive the same give the same hits
  hit_alike : (old new : Grammar) → ((i j : ℕ) (events : List Event) →
      Der (applied_text alphabet tokens tables) old 1 i j events → Der (applied_text alphabet tokens tables) new 1 i j events) →
      (hit : Hit) → IsHit alphabet tokens tables old mode novar hit →
      IsHit alphabet tokens tables new mode novar hit
  hit_alike old new same hit h = record {
    start = h.start;
    starts = h.starts;
    end = h.end;
    events = h.events;
    derived = same h.start h.end h.events h.derived;
    rendered = h.rendered;
  }

  -- what a policy keeps of them is the same
  kept_alike : (old new : Grammar) → ((hit : Hit) → IsHit alphabet tokens tables old mode novar hit →
      IsHit alphabet tokens tables new mode novar hit) →
      ((hit : Hit) → IsHit alphabet tokens tables new mode novar hit →
      IsHit alphabet tokens tables old mode novar hit) → (policy : Policy) (kept : List Hit)
      (hit : Hit) → Keeps policy (IsHit alphabet tokens tables old mode novar) kept hit →
      Keeps policy (IsHit alphabet tokens tables new mode novar) kept hit
  kept_alike old new to from All kept hit k = to hit k
  kept_alike old new to from Longest kept hit k =
      (to hit k.0, λ other h. k.1 other (from other h), k.2)
  kept_alike old new to from Shortest kept hit k =
      (to hit k.0, λ other h. k.1 other (from other h), k.2)

  -- and so the same list of hits
  pub listing_alike : (old new : Grammar) → ((i j : ℕ) (events : List Event) →
      Der (applied_text alphabet tokens tables) old 1 i j events ↔ Der (applied_text alphabet tokens tables) new 1 i j events) →
      (policy : Policy) (kept : List Hit) →
      IsKeptListing policy (IsHit alphabet tokens tables old mode novar) kept →
      IsKeptListing policy (IsHit alphabet tokens tables new mode novar) kept
  listing_alike old new same policy kept listing =
      let to = hit_alike old new (λ i j events. (same i j events).0) in
      let from = hit_alike new old (λ i j events. (same i j events).1) in
      record {
        exactly = λ hit. (
          λ c. kept_alike old new to from policy kept hit ((listing.exactly hit).0 c),
          λ h. (listing.exactly hit).1 (kept_alike new old from to policy kept hit h),
        );
        ordered = listing.ordered;
      }

  -- and the same index
  index_alike : (old new : Grammar) → ((i j : ℕ) (events : List Event) →
      Der (applied_text alphabet tokens tables) old 1 i j events ↔ Der (applied_text alphabet tokens tables) new 1 i j events) →
      (policy : Policy) (text : List ℕ) →
      IsIndex mode policy (IsHit alphabet tokens tables old mode novar) text →
      IsIndex mode policy (IsHit alphabet tokens tables new mode novar) text
  index_alike old new same policy text index = record {
    hits = index.hits;
    listing = listing_alike old new same policy index.hits index.listing;
    written = index.written;
  }

-- the index of the net's hits answers the search
pub answered : (graph text alphabet : List ℕ) (names : List (List ℕ)) (mode : Mode) (policy : Policy)
    (novar : NoVar) (chars : Bool) (told : Option Files) (letters : Letters) (net : List NetGraph)
    (tokens : List Token) (dics : List (Priority × List Entry)) (answer : List ℕ) →
    AreFiles (search_plan graph text alphabet names chars) told letters net tokens dics →
    IsAppliedIndex letters tokens dics (net_grammar net) mode policy novar answer →
    Answers (locate graph text alphabet names mode policy novar chars) told answer
answered graph text alphabet names mode policy novar chars told letters net tokens dics answer files
    index = record {
      read = record { letters = letters; source = files.source; tokens = tokens; dics = dics };
      comes = files.comes;
      answers = record {
        tables = index.tables;
        applied = index.applied;
        is = index_alike letters tokens index.tables mode novar (net_grammar net)
            (grammar_of letters files.source)
            (λ i j events. let same = same_meaning (applied_text letters tokens index.tables)
            (grammar_of letters files.source) (net_grammar net) files.compiles.same 1 i j events in
            (same.1, same.0)) policy answer index.is;
      };
    }
