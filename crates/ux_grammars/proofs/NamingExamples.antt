-- The names of graphs and of their files at small values.
use Rattle.std.proofs.Common.{◌≡◌, [], ◌∷◌, codes, refl}
use Rattle.ux_grammars.specs.Naming.{callee_file, file_of, main_name, named_file, names_after}

a_main_name : main_name (codes "graphs/noun.grf") ≡ codes "noun"
a_main_name = refl

-- another ending belongs to the name
another_ending : main_name (codes "noun.txt") ≡ codes "noun.txt"
another_ending = refl

a_callee : callee_file (codes "graphs/noun.grf") (codes "colour") ≡ codes "graphs/colour.grf"
a_callee = refl

no_folder : callee_file (codes "noun.grf") (codes "colour") ≡ codes "colour.grf"
no_folder = refl

-- the word names the main graph's file, whatever its ending
first_file : file_of (codes "graphs/noun.txt") 0 (codes "noun.txt") ≡ codes "graphs/noun.txt"
first_file = refl

the_main_graph : named_file (codes "graphs/noun.txt") (codes "noun.txt") ≡ codes "graphs/noun.txt"
the_main_graph = refl

another_graph : named_file (codes "graphs/noun.grf") (codes "colour") ≡ codes "graphs/colour.grf"
another_graph = refl

first_names : names_after (codes "graphs/noun.grf") [] ≡ codes "noun" ∷ []
first_names = refl
