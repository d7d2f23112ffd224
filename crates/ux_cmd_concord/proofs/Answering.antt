-- The concordance of a net's hits is that of the hits of the grammar from which it was compiled.
use Rattle.std.proofs.Common.{ℕ, Bool, List, Option}
use Rattle.ux_base.specs.Outside.{Files}
use Rattle.ux_base.specs.declared.settings.Mode.{Mode}
use Rattle.ux_base.specs.declared.settings.NoVar.{NoVar}
use Rattle.ux_base.specs.declared.settings.Policy.{Policy}
use Rattle.ux_tokens.specs.Tokens.{Token}
use Rattle.ux_grammars.specs.Sources.{grammar_of}
use Rattle.ux_net.specs.Nets.{net_grammar}
use Rattle.ux_net.specs.declared.net_graph.NetGraph.{NetGraph}
use Rattle.ux_walk.specs.Settings.{applied_text}
use Rattle.ux_meaning.proofs.Renaming.{same_meaning}
use Rattle.ux_plan.specs.Commands.{Answers}
use Rattle.ux_alphabet.specs.Letters.{Letters}
use Rattle.ux_apply.specs.declared.priority.Priority.{Priority}
use Rattle.ux_dela.specs.declared.entry.Entry.{Entry}
use Rattle.ux_cmd_locate.specs.Reading.{AreFiles, search_plan}
use Rattle.ux_cmd_locate.proofs.Answering.{listing_alike}
use Rattle.ux_cmd_concord.specs.Applied.{IsAppliedConcordance}
use Rattle.ux_cmd_concord.specs.Concord.{concord}
use Rattle.ux_cmd_concord.specs.declared.layout.Layout.{Layout}

-- the concordance of the net's hits answers the command
pub answered : (graph text alphabet : List ℕ) (names : List (List ℕ)) (mode : Mode) (policy : Policy)
    (novar : NoVar) (chars : Bool) (layout : Layout) (told : Option Files) (letters : Letters)
    (net : List NetGraph) (tokens : List Token) (dics : List (Priority × List Entry)) (answer : List ℕ) →
    AreFiles (search_plan graph text alphabet names chars) told letters net tokens dics →
    IsAppliedConcordance letters tokens dics (net_grammar net) mode policy novar layout answer →
    Answers (concord graph text alphabet names mode policy novar chars layout) told answer
answered graph text alphabet names mode policy novar chars layout told letters net tokens dics answer files
    concordance = record {
      read = record { letters = letters; source = files.source; tokens = tokens; dics = dics };
      comes = files.comes;
      answers = record {
        tables = concordance.tables;
        applied = concordance.applied;
        hits = concordance.hits;
        listing = listing_alike letters tokens concordance.tables mode novar (net_grammar net)
            (grammar_of letters files.source)
            (λ i j events. let same = same_meaning (applied_text letters tokens concordance.tables)
            (grammar_of letters files.source) (net_grammar net) files.compiles.same 1 i j events in
            (same.1, same.0)) policy concordance.hits concordance.listing;
        is = concordance.is;
      };
    }
