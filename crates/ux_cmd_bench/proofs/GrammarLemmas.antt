-- What is told of a net's hits is told of those of the grammar from which it was compiled.
use Rattle.std.proofs.Common.{ℕ, List, [], ◌∷◌}
use Rattle.ux_base.specs.declared.settings.Mode.TheVariants.{Ignore}
use Rattle.ux_base.specs.declared.settings.NoVar.TheVariants.{Nothing}
use Rattle.ux_alphabet.specs.Letters.{Letters}
use Rattle.ux_lexical_tables.specs.Tables.{Tables}
use Rattle.ux_apply.specs.declared.priority.Priority.TheVariants.{Normal}
use Rattle.ux_dela.specs.declared.entry.Entry.{Entry}
use Rattle.ux_dict.specs.FileContent.{IsFileContent}
use Rattle.ux_tokens.specs.Tokens.{Token}
use Rattle.ux_boxes.specs.Boxes.{box_grammar}
use Rattle.ux_net.specs.Nets.{net_grammar}
use Rattle.ux_net.specs.Words.{Grammar, SayTheSame}
use Rattle.ux_net.specs.declared.net_graph.NetGraph.{NetGraph}
use Rattle.ux_outputs.specs.declared.event.Event.{Event}
use Rattle.ux_outputs.specs.declared.hit.Hit.{Hit}
use Rattle.ux_meaning.specs.Meaning.{Der}
use Rattle.ux_meaning.proofs.Renaming.{same_meaning}
use Rattle.ux_walk.specs.Settings.{applied_text}
use Rattle.ux_locate.specs.Hits.{IsHit}
use Rattle.ux_locate.specs.Index.{IsListing}
use Rattle.ux_cmd_bench.specs.Bench.{AreLetters, DICTIONARY, IsSummaryOf}
use Rattle.ux_cmd_bench.specs.Compiled.{IsPhraseNet}
use Rattle.ux_cmd_bench.specs.Summaries.{IsSummary}

module _ (letters : Letters) (tokens : List Token) (tables : Tables) where
  -- grammars that derive the same give the same hits
  hit_alike : (old new : Grammar) → ((i j : ℕ) (events : List Event) →
      Der (applied_text letters tokens tables) old 1 i j events →
      Der (applied_text letters tokens tables) new 1 i j events) →
      (hit : Hit) → IsHit letters tokens tables old Ignore Nothing hit →
      IsHit letters tokens tables new Ignore Nothing hit
  hit_alike old new same hit h = record {
    start = h.start;
    starts = h.starts;
    end = h.end;
    events = h.events;
    derived = same h.start h.end h.events h.derived;
    rendered = h.rendered;
  }

  -- and so the same list of hits
  listing_alike : (old new : Grammar) → SayTheSame new old → (hits : List Hit) →
      IsListing (IsHit letters tokens tables old Ignore Nothing) hits →
      IsListing (IsHit letters tokens tables new Ignore Nothing) hits
  listing_alike old new say hits listing =
      let input = applied_text letters tokens tables in
      record {
        exactly = λ hit. (
          λ c. hit_alike old new
              (λ i j events. (same_meaning input new old say 1 i j events).1) hit
              ((listing.exactly hit).0 c),
          λ h. (listing.exactly hit).1 (hit_alike new old
              (λ i j events. (same_meaning input new old say 1 i j events).0) hit h),
        );
        ordered = listing.ordered;
      }

-- what is told of the net's hits answers the command
pub told_of_net : (n : ℕ) (letters : Letters) (content : List Entry) (net : List NetGraph)
    (text : List ℕ) → AreLetters letters → IsFileContent DICTIONARY content →
    IsPhraseNet letters net →
    IsSummary n letters ((Normal, content) ∷ []) (net_grammar net) text → IsSummaryOf n text
told_of_net n letters content net text are dictionary phrases told = record {
  made = record { letters = letters; content = content; graphs = phrases.graphs };
  are = record {
    letters = are;
    content = dictionary;
    graphs = phrases.are;
    compilable = phrases.compilable;
  };
  tells = record {
    tokens = told.tokens;
    of_text = told.of_text;
    tables = told.tables;
    applied = told.applied;
    hits = told.hits;
    listing = listing_alike letters told.tokens told.tables (net_grammar net)
        (box_grammar letters phrases.graphs) phrases.compiles.same told.hits told.listing;
    written = told.written;
  };
}
