-- What is kept of the entries of an ending: the ends of their lines. Inner: the crate's own functions
-- alone speak of it.
use Rattle.std.specs.Prelude.{◌≡◌, ℕ, ◌==◌, Bool, false, List, [], ◌∷◌, ◌++◌, codes, cond, map, bytes_eq}
use Rattle.std.specs.List.{flat_map, list_any}
use Rattle.ux_dela.specs.Printed.{printed_list, shielded_form, shielded_lemma}
use Rattle.ux_dela.specs.Signs.{COMMA, DOT, SLASH}
use Rattle.ux_dela.specs.Written.{written}
use Rattle.ux_dela.specs.declared.entry.Entry.{Entry}
use Rattle.ux_dela.specs.declared.entry.Stem.{Stem}
use Rattle.ux_inflect.specs.Inflected.{AreInflected}
use Rattle.ux_inflect.specs.Refusing.{IsAccepted}
use Rattle.ux_net.specs.declared.net_graph.NetGraph.{NetGraph}
use Rattle.ux_paradigm.specs.declared.tail.Tail.{Tail}

-- a lemma without a class and codes
abbrev pub alone : List ℕ → Stem
alone lemma = record { lemma = lemma; class = []; gram = []; sem = [] }

-- a `/` begins the text
abbrev pub is_slashed : List ℕ → Bool
is_slashed [] = false
is_slashed (b ∷ text) = b == SLASH

-- the form of some entry begins so
abbrev pub is_any_slashed : List Entry → Bool
is_any_slashed entries = list_any (λ (entry : Entry). is_slashed entry.form) entries

-- a form as it is printed
abbrev pub form_text : List ℕ → List ℕ
form_text form = written (shielded_form form)

-- what stands between a form and its own codes, where the form isn't the lemma, and where it is
abbrev pub middle : Stem → (lemma : List ℕ) → List ℕ
middle stem lemma =
    COMMA ∷ (written (shielded_lemma [] lemma) ++ (DOT ∷ printed_list stem.gram stem.sem []))

abbrev pub middle_for : Stem → Bool → List ℕ
middle_for stem is_lemma = cond is_lemma (middle stem []) (middle stem stem.lemma)

-- the end of an entry's line, of a lemma of which only the ending is known
abbrev pub tail_of : (ending : List ℕ) → Entry → Tail
tail_of ending entry = record {
  form = form_text entry.form;
  is_lemma = bytes_eq ending entry.form;
  codes = printed_list [] [] entry.infl ++ codes "\n";
}

-- the line of a stem whose lemma begins with the front
abbrev pub line_by : (front : List ℕ) → Stem → Tail → List ℕ
line_by front stem tail =
    form_text front ++ (tail.form ++ (middle_for stem tail.is_lemma ++ tail.codes))

abbrev pub lines_by : (front : List ℕ) → Stem → List Tail → List ℕ
lines_by front stem tails = flat_map (line_by front stem) tails

-- the class accepts the ending, and these are the ends of its lines
pub record IsKept (net : List NetGraph) (ending : List ℕ) (tails : List Tail) : Type 0 where
  pub entries : List Entry
  pub accepted : IsAccepted (alone ending) net
  pub are : AreInflected (alone ending) net entries
  pub bare : is_any_slashed entries ≡ false
  pub made : tails ≡ map (tail_of ending) entries
