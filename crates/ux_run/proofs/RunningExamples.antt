-- What words of the command line ask for, at small values.
use Rattle.std.proofs.Common.{◌≡◌, ℕ, [], ◌∷◌, Some, codes, inl, refl}
use Rattle.ux_base.specs.Outside.{Seen}
use Rattle.ux_plan.specs.declared.stop.Stop.{Stop}
use Rattle.ux_plan.specs.declared.stop.Stop.TheVariants as stop
use Rattle.ux_plan.specs.Plans.{Halts, IsMemory}
use Rattle.ux_plan.specs.Stopping.{Stopped}
use Rattle.ux_command_line.specs.declared.request.Request.TheVariants.{Bench}
use Rattle.ux_reasons.specs.declared.reason.Reason.{Reason}
use Rattle.ux_status.specs.declared.status.Status.{Status}
use Rattle.ux_status.specs.declared.status.Status.TheVariants.{NoMemory}
use Rattle.ux_run.specs.Running.{Denies, IsAsked, IsStopped, asked_by, asked_of, status_of}

-- a compiled grammar is searched by
compiled_graph :
    IsAsked (asked_by (codes "locate" ∷ codes "g.fst2" ∷ codes "t.txt" ∷ codes "a.txt" ∷ []))
compiled_graph = tt

-- a dictionary that is a text is
a_dictionary : IsAsked (asked_by (codes "locate" ∷ codes "g.grf" ∷ codes "t.txt" ∷ codes "a.txt"
    ∷ codes "d.dic" ∷ []))
a_dictionary = tt

-- and so is an image
a_searched_image : IsAsked (asked_by (codes "locate" ∷ codes "g.grf" ∷ codes "t.txt" ∷ codes "a.txt"
    ∷ codes "d.dic" ∷ codes "e.udi" ∷ []))
a_searched_image = tt

-- a search is in any mode, and may drop hits for want of a value
a_mode : IsAsked (asked_by (codes "locate" ∷ codes "--mode=replace" ∷ codes "--novar"
    ∷ codes "g.grf" ∷ codes "t.txt" ∷ codes "a.txt" ∷ []))
a_mode = tt

-- and by any policy
a_policy : IsAsked (asked_by (codes "locate" ∷ codes "--policy" ∷ codes "longest"
    ∷ codes "g.grf" ∷ codes "t.txt" ∷ codes "a.txt" ∷ []))
a_policy = tt

-- a concordance is written by the same searches
a_concordance : IsAsked (asked_by (codes "concord" ∷ codes "--left=5" ∷ codes "--sort" ∷ codes "LC"
    ∷ codes "g.grf" ∷ codes "t.txt" ∷ codes "a.txt" ∷ []))
a_concordance = tt

a_compiled_concordance :
    IsAsked (asked_by (codes "concord" ∷ codes "g.fst2" ∷ codes "t.txt" ∷ codes "a.txt" ∷ []))
a_compiled_concordance = tt

some_tokens : IsAsked (asked_by (codes "tokenize" ∷ codes "t.txt" ∷ codes "a.txt" ∷ []))
some_tokens = tt

-- a grammar is compiled from drawn graphs
a_compiled_grammar :
    IsAsked (asked_by (codes "fst2" ∷ codes "--chars" ∷ codes "g.grf" ∷ codes "a.txt" ∷ []))
a_compiled_grammar = tt

-- or read from a file of one
a_compiled_file : IsAsked (asked_by (codes "fst2" ∷ codes "g.fst2" ∷ codes "a.txt" ∷ []))
a_compiled_file = tt

-- a grammar of either kind is flattened, to a depth that needn't be named
a_flat_grammar :
    IsAsked (asked_by (codes "flatten" ∷ codes "--depth=3" ∷ codes "g.grf" ∷ codes "a.txt" ∷ []))
a_flat_grammar = tt

a_flat_file : IsAsked (asked_by (codes "flatten" ∷ codes "g.fst2" ∷ codes "a.txt" ∷ []))
a_flat_file = tt

-- a grammar of either kind is searched in the automata of sentences
a_searched_file :
    IsAsked (asked_by (codes "tfind" ∷ codes "g.grf" ∷ codes "t.tfst" ∷ codes "a.txt" ∷ []))
a_searched_file = tt

-- lemmas of a file of any name are inflected
some_forms : IsAsked (asked_by (codes "inflect" ∷ codes "s.dic" ∷ []))
some_forms = tt

an_image : IsAsked (asked_by (codes "check" ∷ codes "d.udi" ∷ []))
an_image = tt

-- an image is written of a dictionary of any kind
a_written_image : IsAsked (asked_by (codes "compress" ∷ codes "d.udi" ∷ []))
a_written_image = tt

-- a dictionary that isn't there is what is told of it
a_missing_dictionary : (seen : Seen) → seen.files ≡ Some [] →
    IsStopped (asked_by (codes "check" ∷ codes "d.dic" ∷ [])) seen (stop.Absent (codes "d.dic"))
unfolding Stopped
a_missing_dictionary seen tells =
    record { files = []; tells = tells; stopped = inl (refl, refl) }

-- lemmas stand in a file of any name
some_lemmas : IsAsked (asked_by (codes "check" ∷ codes "--delas" ∷ codes "d.udi" ∷ []))
some_lemmas = tt

-- images are applied beside texts
images : IsAsked (asked_by (codes "dico" ∷ codes "t.txt" ∷ codes "a.txt" ∷ codes "d.dic"
    ∷ codes "d.udi" ∷ []))
images = tt

-- the automata of a text's sentences, and rules over them
some_sentences : IsAsked (asked_by (codes "txt2tfst" ∷ codes "t.txt" ∷ codes "a.txt"
    ∷ codes "d.dic" ∷ []))
some_sentences = tt

some_rules : IsAsked (asked_by (codes "elag" ∷ codes "t.tfst" ∷ codes "r.grf" ∷ codes "s.grf" ∷ []))
some_rules = tt

-- there has to be a rule
no_rule : IsAsked (asked_by (codes "elag" ∷ codes "t.tfst" ∷ [])) → ⊥
no_rule is = is

a_made_text : IsAsked (asked_by (codes "bench" ∷ codes "5" ∷ []))
a_made_text = tt

-- it is refused by nothing: want of memory alone stops its search
stopped_by_memory : (n : ℕ) (old new : Seen) (status : Status) →
    Denies (asked_of (Bench n)) old new status → status ≡ NoMemory
unfolding Halts
stopped_by_memory n old new status denies = by denies.by denies.halts denies.is
  where
    by : (why : Stop Reason) → IsMemory why → status ≡ status_of why → status ≡ NoMemory
    by (stop.Absent name) memory is = absurd memory
    by (stop.ReadFault name) memory is = absurd memory
    by (stop.TooLarge name) memory is = absurd memory
    by (stop.Refused name reason) memory is = absurd memory
    by stop.NoMemory memory is = is

-- a text is rewritten by steps, and dictionaries count for them
a_cascade : IsAsked (asked_by (codes "cascade" ∷ codes "--trace" ∷ codes "t.txt" ∷ codes "a.txt"
    ∷ codes "dic:d.dic" ∷ codes "merge:g.grf" ∷ codes "replace12:h.fst2" ∷ []))
a_cascade = tt

-- there has to be a step that rewrites
no_step : IsAsked (asked_by (codes "cascade" ∷ codes "t.txt" ∷ codes "a.txt"
    ∷ codes "dic:d.dic" ∷ [])) → ⊥
no_step is = is

-- and each is applied once at least
never_applied : IsAsked (asked_by (codes "cascade" ∷ codes "t.txt" ∷ codes "a.txt"
    ∷ codes "merge0:g.grf" ∷ [])) → ⊥
never_applied is = is

-- words are analysed by a drawn graph, and not by a compiled one
a_morphological_graph : IsAsked (asked_by (codes "morpho" ∷ codes "g.grf" ∷ codes "t.txt"
    ∷ codes "a.txt" ∷ codes "d.dic" ∷ []))
a_morphological_graph = tt

a_compiled_graph : IsAsked (asked_by (codes "morpho" ∷ codes "g.fst2" ∷ codes "t.txt"
    ∷ codes "a.txt" ∷ [])) → ⊥
a_compiled_graph is = is

some_help : IsAsked (asked_by (codes "--help" ∷ []))
some_help = tt
