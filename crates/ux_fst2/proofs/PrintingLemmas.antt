-- The table of tags as it grows: what a number bears stays.
use Rattle.std.proofs.Common.{◌≡◌, ℕ, ◌+◌, ◌<◌, List, [], ◌∷◌, ◌++◌, length, map, take, get_or, refl, sym, ◌∙◌, ap, append_assoc, subst}
use Rattle.std.specs.Prelude.{IsSomeAnd, None, Option, Some, slice_get}
use Rattle.std.specs.List.{flat_map}
use Rattle.std.proofs.lemmas.List.{append-nil, take_more}
use Rattle.std.proofs.lemmas.List.Concat.{flat_map-append}
use Rattle.std.proofs.Common.{add-one}
use Rattle.std.proofs.Math.Nat.{suc-ne-zero}
use Rattle.std.proofs.lemmas.Option.{get_or_from_slice_get, slice_get-map}
use Rattle.std.specs.Option.{option_map}
use Rattle.ux_net.specs.Nets.{graph_at, states_in, states_of}
use Rattle.ux_net.specs.Whole.{whole_in, whole_states_of}
use Rattle.ux_net.proofs.WholeLemmas.{length_whole}
use Rattle.ux_net.specs.declared.net_graph.NetGraph.{NetGraph}
use Rattle.ux_base.specs.Distinct.{each_once, with_text}
use Rattle.ux_base.proofs.DistinctLemmas.{each_once-push, with_text-keeps}
use Rattle.ux_grf.specs.declared.item.Piece.{Piece}
use Rattle.ux_net.specs.declared.label.Label.{Label}
use Rattle.ux_fst2_file.specs.declared.file.Fst2Label.{Fst2Label}
use Rattle.ux_fst2_file.specs.declared.file.Fst2Label.TheVariants.{Tag, Call}
use Rattle.ux_fst2.specs.Files.{IsPrintedBy}
use Rattle.ux_net.specs.Whole.{told_graph}
use Rattle.ux_fst2.specs.Inner.{with_texts}

-- a table that has more tags keeps the numbers of those that it had
pub with_texts-keeps : (texts more : List (List ℕ)) (n : ℕ) (text : List ℕ) →
    slice_get texts n ≡ Some text → slice_get (with_texts texts more) n ≡ Some text
with_texts-keeps texts [] n text at = at
with_texts-keeps texts (next ∷ more) n text at =
    with_texts-keeps (with_text texts next) more n text (with_text-keeps texts next n text at)

-- more texts in two parts
pub with_texts-append : (texts more last : List (List ℕ)) →
    with_texts texts (more ++ last) ≡ with_texts (with_texts texts more) last
with_texts-append texts [] last = refl
with_texts-append texts (next ∷ more) last = with_texts-append (with_text texts next) more last

-- each text once, and more of them
pub each_once-with_texts : (texts more : List (List ℕ)) →
    with_texts (each_once texts) more ≡ each_once (texts ++ more)
each_once-with_texts texts [] = ap each_once (sym (append-nil texts))
each_once-with_texts texts (next ∷ more) =
    ap (λ (t : List (List ℕ)). with_texts t more) (sym (each_once-push texts next))
    ∙ each_once-with_texts (texts ++ next ∷ []) more
    ∙ ap each_once (append_assoc texts (next ∷ []) more)

-- what a number stands for in a table, it stands for in one that has more
pub printed_keeps : (texts more : List (List ℕ)) (number : Fst2Label) (label : Label)
    (output : List Piece) → IsPrintedBy texts number label output →
    IsPrintedBy (with_texts texts more) number label output
printed_keeps texts more (Tag tag) label output is =
    (is.0, with_texts-keeps texts more tag _ is.1, is.2)
printed_keeps texts more (Call graph) label output is = is

-- the texts of one element more
pub texts_more : {A : Type 0} (texts_of : A → List (List ℕ)) (old now new : List (List ℕ))
    (xs : List A) (i : ℕ) (x : A) → i < length xs → x ≡ get_or xs i x →
    now ≡ with_texts old (flat_map texts_of (take i xs)) → new ≡ with_texts now (texts_of x) →
    new ≡ with_texts old (flat_map texts_of (take (i + 1) xs))
texts_more {A} texts_of old now new xs i x lt at so_far one =
    let front : take (i + 1) xs ≡ take i xs ++ x ∷ [] =
    take_more xs i x lt ∙ ap (λ (z : A). take i xs ++ z ∷ []) (sym at) in
    let before = flat_map texts_of (take i xs) in
    let texts : flat_map texts_of (take (i + 1) xs) ≡ before ++ texts_of x =
    ap (flat_map texts_of) front ∙ flat_map-append texts_of (take i xs) (x ∷ [])
    ∙ ap (λ (t : List (List ℕ)). before ++ t) (append-nil (texts_of x)) in
    one ∙ ap (λ (t : List (List ℕ)). with_texts t (texts_of x)) so_far
    ∙ sym (with_texts-append old before (texts_of x)) ∙ ap (with_texts old) (sym texts)

-- four texts are put one behind the other
pub four_put : (old first second third fourth a b d e : List ℕ) → first ≡ old ++ a →
    second ≡ first ++ b → third ≡ second ++ d → fourth ≡ third ++ e →
    fourth ≡ old ++ (a ++ (b ++ (d ++ e)))
four_put old first second third fourth a b d e one two three four =
    four ∙ ap (λ (t : List ℕ). t ++ e) (three ∙ ap (λ (t : List ℕ). t ++ d)
    (two ∙ ap (λ (t : List ℕ). t ++ b) one))
    ∙ append_assoc ((old ++ a) ++ b) d e ∙ append_assoc (old ++ a) b (d ++ e)
    ∙ append_assoc old a (b ++ (d ++ e))

-- what is told of a value that is there
pub both_told : {A : Type 0} (o : Option A) (P Q : A → Type 0) → IsSomeAnd o P → IsSomeAnd o Q →
    (x : A) × (o ≡ Some x) × P x × Q x
both_told None P Q one other = absurd one
both_told (Some x) P Q one other = (x, refl, one, other)

-- the graph behind so many
graph_next : (net : List NetGraph) (i : ℕ) → graph_at net (i + 1) ≡ slice_get net i
graph_next net i = subst (λ (n : ℕ). graph_at net n ≡ slice_get net i) (sym (add-one i)) refl

-- and what is told of it
pub graph_told : (net : List NetGraph) (i : ℕ) (P Q : NetGraph → Type 0) →
    IsSomeAnd (graph_at net (i + 1)) P → IsSomeAnd (graph_at net (i + 1)) Q →
    (g : NetGraph) × (slice_get (map told_graph net) i ≡ Some (told_graph g)) × P g × Q g
graph_told net i P Q one other =
    let both = both_told (graph_at net (i + 1)) P Q one other in
    let g = both.0 in
    let at : slice_get net i ≡ Some g = sym (graph_next net i) ∙ both.1 in
    (g, slice_get-map told_graph net i ∙ ap (option_map told_graph) at, both.2, both.3)

-- a member that is found is read
pub found_at : {A : Type 0} (xs : List A) (i : ℕ) (x : A) → slice_get xs i ≡ Some x →
    x ≡ get_or xs i x
found_at xs i x at = sym (get_or_from_slice_get xs i x x at)

-- the table as it was made, with tag 0, and then the tags of graphs
pub table_whole : (first : List ℕ) (tags more : List (List ℕ)) (start : List (List ℕ)) →
    start ≡ first ∷ [] → tags ≡ with_texts start more → tags ≡ each_once (first ∷ more)
table_whole first tags more start one is =
    is ∙ ap (λ (t : List (List ℕ)). with_texts t more) one ∙ each_once-with_texts (first ∷ []) more

-- the same of a table that was made of another by more
pub printed_grown : (old new more : List (List ℕ)) → new ≡ with_texts old more →
    (number : Fst2Label) (label : Label) (output : List Piece) → IsPrintedBy old number label output →
    IsPrintedBy new number label output
printed_grown old new more is number label output printed =
    subst (λ (t : List (List ℕ)). IsPrintedBy t number label output) (sym is)
    (printed_keeps old more number label output printed)

-- a text that is put into an empty table
pub table_first : (old new : List (List ℕ)) (text : List ℕ) → old ≡ [] → new ≡ with_text old text →
    (other : List ℕ) → text ≡ other → new ≡ other ∷ []
table_first old new text none is other same =
    is ∙ ap (λ (t : List (List ℕ)). with_text t text) none ∙ ap (λ (t : List ℕ). t ∷ []) same

-- a list without members is empty
pub none_left : (texts : List (List ℕ)) → length texts ≡ 0 → texts ≡ []
none_left [] none = refl
none_left (text ∷ texts) none = absurd (suc-ne-zero (length texts) none)

-- a graph has as many states as a file has them, with what is kept aside
length_in : (graph : Option NetGraph) → length (states_in graph) ≡ length (whole_in graph)
length_in None = refl
length_in (Some graph) = sym (length_whole graph.unmet 0 graph.states)

pub as_many : (net : List NetGraph) (graph count : ℕ) → count ≡ length (states_of net graph) →
    count ≡ length (whole_states_of net graph)
as_many net graph count many = many ∙ length_in (graph_at net graph)
