-- What a net gives to words is what the grammar gives from which it was compiled.
use Rattle.std.proofs.Common.{ℕ, List, Option, subst, sym}
use Rattle.std.specs.Prelude.{◌↔◌, Contains}
use Rattle.ux_alphabet.specs.Letters.{Letters}
use Rattle.ux_apply.specs.declared.priority.Priority.{Priority}
use Rattle.ux_base.specs.Outside.{Files, IsLater, Seen}
use Rattle.ux_dela.specs.declared.entry.Entry.{Entry}
use Rattle.ux_meaning.specs.Meaning.{Der}
use Rattle.ux_meaning.proofs.Renaming.{same_meaning}
use Rattle.ux_morpho.specs.Analyses.{GivesBadLine, IsEntryLine, PutsOut}
use Rattle.ux_net.specs.Nets.{net_grammar}
use Rattle.ux_net.specs.Words.{Grammar, SayTheSame}
use Rattle.ux_net.specs.declared.net_graph.NetGraph.{NetGraph}
use Rattle.ux_plan.specs.Commands.{Answers}
use Rattle.ux_plan.specs.Plans.{Halts, StopsTest, refusing}
use Rattle.ux_plan.specs.declared.stop.Stop.{Stop}
use Rattle.ux_plan.specs.declared.stop.Stop.TheVariants.{Absent, NoMemory, ReadFault, Refused, TooLarge}
use Rattle.ux_plan.proofs.PlanSteps.{comes_gives, comes_test, comes_then, halts_second, halts_test}
use Rattle.ux_reasons.specs.declared.reason.Reason.{Reason}
use Rattle.ux_tokens.specs.Tokens.{Token}
use Rattle.ux_walk.specs.Settings.{applied_text}
use Rattle.ux_cmd_morpho.specs.Answering.{IsFileOfWords, IsFirstBad, NoneIsBad, RefusesWords}
use Rattle.ux_cmd_morpho.specs.Files.{AreFiles}
use Rattle.ux_cmd_morpho.specs.Morpho.{morpho}
use Rattle.ux_cmd_morpho.specs.Reading.{Analysed, files_plan, single_of}
use Rattle.ux_cmd_morpho.specs.Testing.{IsBadWord, IsLineOfRead, grammar_in, morpho_plan, test_plan}

module _ (alphabet : Letters) (dics : List (Priority × List Entry)) (old new : Grammar)
    (same : SayTheSame old new) (word : List ℕ) where
  -- grammars that say the same put the same out
  puts_new : (output : List ℕ) → PutsOut alphabet dics old word output →
      PutsOut alphabet dics new word output
  puts_new output puts = record {
    letters = puts.letters;
    cut = puts.cut;
    tables = puts.tables;
    applied = puts.applied;
    puts = record {
      events = puts.puts.events;
      derived = (same_meaning (applied_text alphabet puts.letters puts.tables) old new same 1 0 _
          puts.puts.events).0 puts.puts.derived;
      renders = puts.puts.renders;
    };
  }

  puts_old : (output : List ℕ) → PutsOut alphabet dics new word output →
      PutsOut alphabet dics old word output
  puts_old output puts = record {
    letters = puts.letters;
    cut = puts.cut;
    tables = puts.tables;
    applied = puts.applied;
    puts = record {
      events = puts.puts.events;
      derived = (same_meaning (applied_text alphabet puts.letters puts.tables) old new same 1 0 _
          puts.puts.events).1 puts.puts.derived;
      renders = puts.puts.renders;
    };
  }

  -- so they give the same lines
  lines_old : (line : List ℕ) → IsEntryLine alphabet dics new word line →
      IsEntryLine alphabet dics old word line
  lines_old line of = (of.0, puts_old of.0 of.1, of.2)

  lines_new : (line : List ℕ) → IsEntryLine alphabet dics old word line →
      IsEntryLine alphabet dics new word line
  lines_new line of = (of.0, puts_new of.0 of.1, of.2)

  bad_old : GivesBadLine alphabet dics new word → GivesBadLine alphabet dics old word
  bad_old bad = (bad.0, puts_old bad.0 bad.1, bad.2)

  bad_new : GivesBadLine alphabet dics old word → GivesBadLine alphabet dics new word
  bad_new bad = (bad.0, puts_new bad.0 bad.1, bad.2)

module _ (graph text alphabet : List ℕ) (names : List (List ℕ)) (told : Option Files)
    (single : Letters) (net : List NetGraph) (tokens : List Token)
    (dics : List (Priority × List Entry))
    (files : AreFiles graph text alphabet names told single net tokens dics) where
  -- what was read
  abbrev read : Analysed
  read = record {
    letters = files.letters;
    graphs = files.graphs;
    tokens = tokens;
    dics = dics;
  }

  same_says : SayTheSame (grammar_in read) (net_grammar net)
  same_says = rw files.is_single at files.compiles.same

  line_read : (word line : List ℕ) → IsEntryLine single dics (net_grammar net) word line →
      IsLineOfRead read word line
  line_read word line of =
      lines_old (single_of files.letters) dics (grammar_in read) (net_grammar net) same_says word line
      (subst (λ (l : Letters). IsEntryLine l dics (net_grammar net) word line) files.is_single of)

  line_net : (word line : List ℕ) → IsLineOfRead read word line →
      IsEntryLine single dics (net_grammar net) word line
  line_net word line of =
      subst (λ (l : Letters). IsEntryLine l dics (net_grammar net) word line) (sym files.is_single)
      (lines_new (single_of files.letters) dics (grammar_in read) (net_grammar net) same_says word line
      of)

  bad_read : (word : List ℕ) → GivesBadLine single dics (net_grammar net) word → IsBadWord read word
  bad_read word bad =
      bad_old (single_of files.letters) dics (grammar_in read) (net_grammar net) same_says word
      (subst (λ (l : Letters). GivesBadLine l dics (net_grammar net) word) files.is_single bad)

  bad_net : (word : List ℕ) → IsBadWord read word → GivesBadLine single dics (net_grammar net) word
  bad_net word bad =
      subst (λ (l : Letters). GivesBadLine l dics (net_grammar net) word) (sym files.is_single)
      (bad_new (single_of files.letters) dics (grammar_in read) (net_grammar net) same_says word bad)

  -- the lines by the net answer the command
  pub answered : (answer : List ℕ) →
      IsFileOfWords tokens (IsEntryLine single dics (net_grammar net)) answer →
      NoneIsBad tokens (GivesBadLine single dics (net_grammar net)) →
      Answers (morpho graph text alphabet names) told answer
  answered answer file good = record {
    read = read;
    comes = comes_then (files_plan graph text alphabet names) (test_plan graph) told read read
        files.comes
        (comes_test _ _ _ told read (λ word of bad. good word of (bad_net word bad))
        (comes_gives Reason read told));
    answers = record {
      lines = file.lines;
      exactly = λ line. (
        λ here. let of = (file.exactly line).0 here in (of.0, of.1, line_read of.0 line of.2),
        λ of. (file.exactly line).1 (of.0, of.1, line_net of.0 line of.2),
      );
      ordered = file.ordered;
      is = file.is;
    };
  }

  first_read : (word : List ℕ) →
      IsFirstBad tokens (GivesBadLine single dics (net_grammar net)) word →
      IsFirstBad tokens (IsBadWord read) word
  first_read word first = record {
    place = first.place;
    at = first.at;
    bad = bad_read word first.bad;
    before = λ k other low at bad. first.before k other low at (bad_net other bad);
  }

  pub tested : (stop : Stop Reason) →
      StopsTest (refusing (RefusesWords tokens (GivesBadLine single dics (net_grammar net)) graph)) stop →
      StopsTest (refusing (RefusesWords tokens (IsBadWord read) graph)) stop
  tested (Absent name) stops = stops
  tested (ReadFault name) stops = stops
  tested (TooLarge name) stops = stops
  tested (Refused name reason) stops = (stops.0, first_read stops.0 stops.1, stops.2, stops.3)
  tested NoMemory stops = tt

-- and the word that is refused stops its plan
pub stopped : (graph text alphabet : List ℕ) (names : List (List ℕ)) (single : Letters)
    (net : List NetGraph) (tokens : List Token) (dics : List (Priority × List Entry)) (old new : Seen)
    (stop : Stop Reason) →
    AreFiles graph text alphabet names old.files single net tokens dics → IsLater old new →
    StopsTest (refusing (RefusesWords tokens (GivesBadLine single dics (net_grammar net)) graph)) stop →
    Halts (morpho_plan graph text alphabet names) old new stop
stopped graph text alphabet names single net tokens dics old new stop files later stops =
    halts_second (files_plan graph text alphabet names) (test_plan graph) old new new stop
    (read graph text alphabet names old.files single net tokens dics files) files.comes later
    (halts_test _ _ _ new new stop
    (tested graph text alphabet names old.files single net tokens dics files stop stops))
