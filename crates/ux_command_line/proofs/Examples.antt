-- Words whose request was told by hand from the manual's rules.
use Rattle.std.proofs.Common.{◌≡◌, [], ◌∷◌, Some, None, codes, refl, true, false}
use Rattle.ux_base.specs.declared.settings.Mode.TheVariants.{Ignore, Merge, Replace}
use Rattle.ux_base.specs.declared.settings.Policy.TheVariants.{All, Longest}
use Rattle.ux_base.specs.declared.settings.NoVar.TheVariants.{Nothing, Drop}
use Rattle.ux_base.specs.declared.settings.Sort.TheVariants.{LC}
use Rattle.ux_command_line.specs.declared.request.Request.TheVariants as request
use Rattle.ux_command_line.specs.Requests.{request_of}

-- LOCATE

a_search :
    request_of (codes "locate" ∷ codes "g" ∷ codes "t" ∷ codes "a" ∷ [])
    ≡ Some (request.Locate (record {
      graph = codes "g";
      text = codes "t";
      alphabet = codes "a";
      dics = [];
      mode = Ignore;
      policy = All;
      novar = Nothing;
      chars = false;
    }))
a_search = refl

-- options and names in any order, dictionaries in theirs
a_search_with_options :
    request_of (codes "locate" ∷ codes "--novar" ∷ codes "g" ∷ codes "--chars" ∷ codes "--mode=merge" ∷ codes "t"
    ∷ codes "a" ∷ codes "--policy" ∷ codes "longest" ∷ codes "d" ∷ codes "-" ∷ [])
    ≡ Some (request.Locate (record {
      graph = codes "g";
      text = codes "t";
      alphabet = codes "a";
      dics = codes "d" ∷ codes "-" ∷ [];
      mode = Merge;
      policy = Longest;
      novar = Drop;
      chars = true;
    }))
a_search_with_options = refl

an_option_twice :
    request_of (codes "locate" ∷ codes "--mode=ignore" ∷ codes "--mode" ∷ codes "ignore"
    ∷ codes "g" ∷ codes "t" ∷ codes "a" ∷ []) ≡ None
an_option_twice = refl

a_flag_with_a_value :
    request_of (codes "locate" ∷ codes "--novar=" ∷ codes "g" ∷ codes "t" ∷ codes "a" ∷ []) ≡ None
a_flag_with_a_value = refl

a_shortened_name :
    request_of (codes "locate" ∷ codes "--mod=merge" ∷ codes "g" ∷ codes "t" ∷ codes "a" ∷ [])
    ≡ None
a_shortened_name = refl

two_names :
    request_of (codes "locate" ∷ codes "g" ∷ codes "t" ∷ []) ≡ None
two_names = refl

-- CONCORD

a_concordance :
    request_of (codes "concord" ∷ codes "--left" ∷ codes "0005" ∷ codes "--sort=LC" ∷ codes "g"
    ∷ codes "t" ∷ codes "a" ∷ [])
    ≡ Some (request.Concord (record {
      graph = codes "g";
      text = codes "t";
      alphabet = codes "a";
      dics = [];
      mode = Ignore;
      policy = All;
      novar = Nothing;
      chars = false;
    }) 5 40 LC)
a_concordance = refl

too_wide :
    request_of (codes "concord" ∷ codes "--left=1001" ∷ codes "g" ∷ codes "t" ∷ codes "a" ∷ [])
    ≡ None
too_wide = refl

five_digits :
    request_of (codes "concord" ∷ codes "--left=00005" ∷ codes "g" ∷ codes "t" ∷ codes "a" ∷ [])
    ≡ None
five_digits = refl

-- THE OTHER COMMANDS

-- after `--` what looks like an option is a name
a_text : request_of (codes "tokenize" ∷ codes "--" ∷ codes "--x" ∷ codes "--" ∷ [])
    ≡ Some (request.Tokenize (codes "--x") (codes "--") false)
a_text = refl

no_option : request_of (codes "tokenize" ∷ codes "--x" ∷ codes "t" ∷ codes "a" ∷ []) ≡ None
no_option = refl

no_name : request_of (codes "tokenize" ∷ codes "t" ∷ codes "--" ∷ [] ∷ []) ≡ None
no_name = refl

stems : request_of (codes "check" ∷ codes "--delas" ∷ codes "d.udi" ∷ [])
    ≡ Some (request.Check true (codes "d.udi"))
stems = refl

entries : request_of (codes "check" ∷ codes "d.dic" ∷ [])
    ≡ Some (request.Check false (codes "d.dic"))
entries = refl

dictionaries : request_of (codes "dico" ∷ codes "t" ∷ codes "a" ∷ codes "d" ∷ codes "e" ∷ [])
    ≡ Some (request.Dico (codes "t") (codes "a") (codes "d" ∷ codes "e" ∷ []) false)
dictionaries = refl

a_grammar : request_of (codes "fst2" ∷ codes "g" ∷ codes "a" ∷ codes "--chars" ∷ [])
    ≡ Some (request.Fst2 (codes "g") (codes "a") true)
a_grammar = refl

forms : request_of (codes "inflect" ∷ codes "s" ∷ []) ≡ Some (request.Inflect (codes "s"))
forms = refl

an_image : request_of (codes "compress" ∷ codes "d" ∷ []) ≡ Some (request.Compress (codes "d"))
an_image = refl

sentences : request_of (codes "txt2tfst" ∷ codes "t" ∷ codes "a" ∷ [])
    ≡ Some (request.Tfst (codes "t") (codes "a") [] false)
sentences = refl

a_rule : request_of (codes "elag" ∷ codes "f" ∷ codes "r" ∷ [])
    ≡ Some (request.Elag (codes "f") (codes "r" ∷ []))
a_rule = refl

no_rule : request_of (codes "elag" ∷ codes "f" ∷ []) ≡ None
no_rule = refl

many_words : request_of (codes "bench" ∷ codes "200000" ∷ []) ≡ Some (request.Bench 200000)
many_words = refl

too_many_words : request_of (codes "bench" ∷ codes "200001" ∷ []) ≡ None
too_many_words = refl

no_words : request_of (codes "bench" ∷ codes "0" ∷ []) ≡ None
no_words = refl

steps : request_of (codes "cascade" ∷ codes "t" ∷ codes "a" ∷ codes "dic:d"
    ∷ codes "merge07:g" ∷ codes "--trace" ∷ codes "replace:h:i" ∷ codes "dic:e" ∷ [])
    ≡ Some (request.Cascade (codes "t") (codes "a") (record {
      graph = codes "g";
      mode = Merge;
      times = 7;
    } ∷ record {
      graph = codes "h:i";
      mode = Replace;
      times = 1;
    } ∷ []) (codes "d" ∷ codes "e" ∷ []) true)
steps = refl

no_step : request_of (codes "cascade" ∷ codes "t" ∷ codes "a" ∷ codes "dic:d" ∷ []) ≡ None
no_step = refl

no_times : request_of (codes "cascade" ∷ codes "t" ∷ codes "a" ∷ codes "merge0:g" ∷ []) ≡ None
no_times = refl

many_times : request_of (codes "cascade" ∷ codes "t" ∷ codes "a" ∷ codes "merge100:g" ∷ [])
    ≡ None
many_times = refl

no_graph : request_of (codes "cascade" ∷ codes "t" ∷ codes "a" ∷ codes "merge:" ∷ []) ≡ None
no_graph = refl

a_flat_grammar : request_of (codes "flatten" ∷ codes "g" ∷ codes "--depth=0" ∷ codes "a" ∷ [])
    ≡ Some (request.Flatten (codes "g") (codes "a") 0)
a_flat_grammar = refl

ten_deep : request_of (codes "flatten" ∷ codes "g" ∷ codes "a" ∷ [])
    ≡ Some (request.Flatten (codes "g") (codes "a") 10)
ten_deep = refl

too_deep : request_of (codes "flatten" ∷ codes "g" ∷ codes "--depth=101" ∷ codes "a" ∷ []) ≡ None
too_deep = refl

places : request_of (codes "tfind" ∷ codes "g" ∷ codes "f" ∷ codes "a" ∷ [])
    ≡ Some (request.Tfind (codes "g") (codes "f") (codes "a"))
places = refl

inside_words : request_of (codes "morpho" ∷ codes "g" ∷ codes "t" ∷ codes "a" ∷ codes "d" ∷ [])
    ≡ Some (request.Morpho (codes "g") (codes "t") (codes "a") (codes "d" ∷ []))
inside_words = refl

a_compiled_graph : request_of (codes "morpho" ∷ codes "g.fst2" ∷ codes "t" ∷ codes "a" ∷ [])
    ≡ None
a_compiled_graph = refl

-- THE PROGRAM ITSELF

help : request_of (codes "--help" ∷ []) ≡ Some request.Help
help = refl

help_and_more : request_of (codes "--help" ∷ codes "locate" ∷ []) ≡ None
help_and_more = refl

version : request_of (codes "--version" ∷ []) ≡ Some request.Version
version = refl

nothing : request_of [] ≡ None
nothing = refl
