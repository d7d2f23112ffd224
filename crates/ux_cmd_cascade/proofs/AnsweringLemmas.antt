-- What answers a cascade by the nets of its steps answers it by their grammars.
use Rattle.std.proofs.Common.{ℕ, zero, suc, Bool, List, [], ◌∷◌, Option, subst, sym}
use Rattle.ux_alphabet.specs.Letters.{Letters}
use Rattle.ux_apply.specs.declared.priority.Priority.{Priority}
use Rattle.ux_base.specs.Outside.{Files, Seen, IsLater}
use Rattle.ux_base.specs.declared.settings.Mode.{Mode}
use Rattle.ux_base.specs.declared.settings.NoVar.TheVariants.{Nothing}
use Rattle.ux_base.specs.declared.settings.Policy.TheVariants.{Longest}
use Rattle.ux_cascade.proofs.AlikeLemmas.{cascade_alike, long_alike}
use Rattle.ux_cmd_locate.proofs.Answering.{listing_alike}
use Rattle.ux_command_line.specs.declared.request.CascadeStep.{CascadeStep}
use Rattle.ux_dela.specs.declared.entry.Entry.{Entry}
use Rattle.ux_grammars.specs.Sources.{Source, grammar_of}
use Rattle.ux_meaning.proofs.Renaming.{same_meaning}
use Rattle.ux_net.specs.Nets.{net_grammar}
use Rattle.ux_outputs.specs.declared.hit.Hit.{Hit}
use Rattle.ux_plan.specs.Commands.{Answers}
use Rattle.ux_plan.specs.Plans.{Halts, StopsTest}
use Rattle.ux_plan.specs.declared.stop.Stop.{Stop}
use Rattle.ux_plan.specs.declared.stop.Stop.TheVariants.{Absent, NoMemory, ReadFault, Refused, TooLarge}
use Rattle.ux_plan.proofs.PlanSteps.{comes_gives, comes_test, comes_then, halts_second, halts_test}
use Rattle.ux_reasons.specs.declared.reason.Reason.{Reason}
use Rattle.ux_tokens.specs.Tokens.{Token}
use Rattle.ux_walk.specs.Settings.{applied_text}
use Rattle.ux_cmd_cascade.specs.declared.files.StepNet.{StepNet}
use Rattle.ux_cmd_cascade.specs.Answering.{LeavesTooManyIn, StopsRound, times_in}
use Rattle.ux_cmd_cascade.specs.ByNets.{IsTextByNets, LeavesTooManyByNets, StopsByNets}
use Rattle.ux_cmd_cascade.specs.Cascade.{cascade}
use Rattle.ux_cmd_cascade.specs.Files.{AreFiles, AreNetsOf, IsNetOf}
use Rattle.ux_cmd_cascade.specs.Finding.{AreStepHits, FindsByNet, FindsIn}
use Rattle.ux_cmd_cascade.specs.Reading.{Cascaded, files_plan}
use Rattle.ux_cmd_cascade.specs.Testing.{cascade_plan, test_plan}

module _ (letters : Letters) (dics : List (Priority × List Entry)) where
  module _ (tokens : List Token) (hits : List Hit) where
    module _ (step : CascadeStep) (source : Source) (net : StepNet)
        (is : IsNetOf letters step source net) where
      by_source : AreStepHits letters dics (net_grammar net.net) net.mode tokens hits →
          AreStepHits letters dics (grammar_of letters source) step.mode tokens hits
      by_source are =
          subst (λ (m : Mode). AreStepHits letters dics (grammar_of letters source) m tokens hits)
          is.mode (record {
            tables = are.tables;
            applied = are.applied;
            listing = listing_alike letters tokens are.tables net.mode Nothing (net_grammar net.net)
                (grammar_of letters source)
                (λ i j events. let same = same_meaning (applied_text letters tokens are.tables)
                (grammar_of letters source) (net_grammar net.net) is.compiles.same 1 i j events in
                (same.1, same.0)) Longest hits are.listing;
          })

      by_net : AreStepHits letters dics (grammar_of letters source) step.mode tokens hits →
          AreStepHits letters dics (net_grammar net.net) net.mode tokens hits
      by_net are =
          subst (λ (m : Mode). AreStepHits letters dics (net_grammar net.net) m tokens hits)
          (sym is.mode) (record {
            tables = are.tables;
            applied = are.applied;
            listing = listing_alike letters tokens are.tables step.mode Nothing
                (grammar_of letters source) (net_grammar net.net)
                (λ i j events. same_meaning (applied_text letters tokens are.tables)
                (grammar_of letters source) (net_grammar net.net) is.compiles.same 1 i j events)
                Longest hits are.listing;
          })

    -- the hits of a step are those that its net finds
    in_sources : (steps : List CascadeStep) (sources : List Source) (nets : List StepNet)
        (step : ℕ) → AreNetsOf letters steps sources nets →
        FindsByNet letters dics nets step tokens hits →
        FindsIn letters dics steps sources step tokens hits
    in_sources [] [] [] step are found = absurd found
    in_sources [] [] (net ∷ nets) step are found = absurd are
    in_sources [] (source ∷ sources) nets step are found = absurd are
    in_sources (step ∷ steps) [] nets k are found = absurd are
    in_sources (step ∷ steps) (source ∷ sources) [] k are found = absurd are
    in_sources (step ∷ steps) (source ∷ sources) (net ∷ nets) zero are found =
        by_source step source net are.0 found
    in_sources (step ∷ steps) (source ∷ sources) (net ∷ nets) (suc k) are found =
        in_sources steps sources nets k are.1 found

    in_nets : (steps : List CascadeStep) (sources : List Source) (nets : List StepNet)
        (step : ℕ) → AreNetsOf letters steps sources nets →
        FindsIn letters dics steps sources step tokens hits →
        FindsByNet letters dics nets step tokens hits
    in_nets [] [] [] step are found = absurd found
    in_nets [] [] (net ∷ nets) step are found = absurd are
    in_nets [] (source ∷ sources) nets step are found = absurd are
    in_nets (step ∷ steps) [] nets k are found = absurd are
    in_nets (step ∷ steps) (source ∷ sources) [] k are found = absurd are
    in_nets (step ∷ steps) (source ∷ sources) (net ∷ nets) zero are found =
        by_net step source net are.0 found
    in_nets (step ∷ steps) (source ∷ sources) (net ∷ nets) (suc k) are found =
        in_nets steps sources nets k are.1 found

module _ (text alphabet : List ℕ) (steps : List CascadeStep) (names : List (List ℕ))
    (told : Option Files) (letters : Letters) (nets : List StepNet) (tokens : List Token)
    (dics : List (Priority × List Entry))
    (files : AreFiles text alphabet steps names told letters nets tokens dics) where
  -- what was read
  abbrev read : Cascaded
  read = record { letters = letters; sources = files.sources; tokens = tokens; dics = dics }

  long_by_nets : LeavesTooManyIn steps read → LeavesTooManyByNets letters dics nets steps tokens
  long_by_nets long =
      long_alike letters (FindsIn letters dics steps files.sources) (FindsByNet letters dics nets)
      (λ step t hits found. in_nets letters dics t hits steps files.sources nets step files.are found)
      (times_in steps) tokens long

  long_by_sources : LeavesTooManyByNets letters dics nets steps tokens → LeavesTooManyIn steps read
  long_by_sources long =
      long_alike letters (FindsByNet letters dics nets) (FindsIn letters dics steps files.sources)
      (λ step t hits found. in_sources letters dics t hits steps files.sources nets step files.are found)
      (times_in steps) tokens long

  -- the text by the nets answers the cascade
  pub answered : (trace : Bool) (answer : List ℕ) →
      IsTextByNets letters dics nets steps tokens trace answer →
      Answers (cascade text alphabet steps names trace) told answer
  answered trace answer made = record {
    read = read;
    comes = comes_then (files_plan text alphabet steps names) (test_plan text steps) told read read
        files.comes
        (comes_test _ _ _ told read (λ long. made.few (long_by_nets long))
        (comes_gives Reason read told));
    answers = record {
      outcome = made.outcome;
      comes_to = cascade_alike letters (FindsByNet letters dics nets)
          (FindsIn letters dics steps files.sources)
          (λ step t hits found.
          in_sources letters dics t hits steps files.sources nets step files.are found)
          (times_in steps) tokens made.outcome made.comes_to;
      is = made.is;
    };
  }

  tested : (by : Stop Reason) → StopsByNets letters dics nets steps tokens text by →
      StopsTest (StopsRound text steps read) by
  tested (Absent name) stops = (stops.0, long_by_sources stops.1)
  tested (ReadFault name) stops = (stops.0, long_by_sources stops.1)
  tested (TooLarge name) stops = (stops.0, long_by_sources stops.1)
  tested (Refused name reason) stops = (stops.0, long_by_sources stops.1)
  tested NoMemory stops = tt

-- and what stops it by the nets stops its plan
pub stopped : (text alphabet : List ℕ) (steps : List CascadeStep) (names : List (List ℕ))
    (letters : Letters) (nets : List StepNet) (tokens : List Token)
    (dics : List (Priority × List Entry)) (old new : Seen) (by : Stop Reason) →
    AreFiles text alphabet steps names old.files letters nets tokens dics → IsLater old new →
    StopsByNets letters dics nets steps tokens text by →
    Halts (cascade_plan text alphabet steps names) old new by
stopped text alphabet steps names letters nets tokens dics old new by files later stops =
    halts_second (files_plan text alphabet steps names) (test_plan text steps) old new new by
    (read text alphabet steps names old.files letters nets tokens dics files) files.comes later
    (halts_test _ _ _ new new by
    (tested text alphabet steps names old.files letters nets tokens dics files by stops))
