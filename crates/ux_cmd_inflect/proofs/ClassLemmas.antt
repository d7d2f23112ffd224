-- The classes of lemmas are numbered as the lemmas come.
use Rattle.std.proofs.Common.{arith, ◌≡◌, ℕ, zero, suc, ◌+◌, ◌<◌, ◌≤◌, List, [], ◌∷◌, ◌++◌, Some, length, get_or, map, set, take, refl, sym, ap, ◌∙◌, subst}
use Rattle.std.specs.Prelude.{slice_get}
use Rattle.std.specs.List.{AllZip}
use Rattle.std.proofs.lemmas.List.{map-append, set-get_or, take_all}
use Rattle.std.proofs.lemmas.Option.{none-some, same_Some, slice_get_read, slice_get_within}
use Rattle.ux_base.specs.Distinct.{each_once, with_text}
use Rattle.ux_base.proofs.DistinctLemmas.{each_once-push, with_text-keeps}
use Rattle.ux_boxes.proofs.SplittingLemmas.{AllZip-grown, take-next}
use Rattle.ux_dela.specs.declared.entry.Stem.{Stem}
use Rattle.ux_cmd_inflect.specs.Classes.{AreClassed, HasNumber}
use Rattle.ux_net.specs.declared.net_graph.NetGraph.{NetGraph}
use Rattle.ux_cmd_inflect.specs.Files.{IsNetAt}
use Rattle.ux_cmd_inflect.specs.Reading.{classes_of}

pub classed_none : AreClassed [] [] []
classed_none = record { are = refl; numbered = tt }

module _ (names : List (List ℕ)) (class : List ℕ) where
  -- as more classes come, numbers stay
  numbers_stay : (stems : List Stem) (numbers : List ℕ) → AllZip (HasNumber names) stems numbers →
      AllZip (HasNumber (with_text names class)) stems numbers
  numbers_stay [] [] each = tt
  numbers_stay [] (n ∷ numbers) each = absurd each
  numbers_stay (stem ∷ stems) [] each = absurd each
  numbers_stay (stem ∷ stems) (n ∷ numbers) each =
      (with_text-keeps names class n stem.class each.0, numbers_stay stems numbers each.1)

-- the number of a lemma is that of its class
pub class_of_number : (names : List (List ℕ)) (stems : List Stem) (numbers : List ℕ) (place : ℕ)
    (stem : Stem) (number : ℕ) → AllZip (HasNumber names) stems numbers →
    slice_get stems place ≡ Some stem → slice_get numbers place ≡ Some number →
    slice_get names number ≡ Some stem.class
class_of_number names [] numbers place stem number each at also = absurd (none-some stem at)
class_of_number names (s ∷ stems) [] place stem number each at also = absurd each
class_of_number names (s ∷ stems) (n ∷ numbers) zero stem number each at also =
    let named = ap (λ (x : Stem). Some x.class) (same_Some s stem at) in
    ap (slice_get names) (sym (same_Some n number also)) ∙ (each.0 ∙ named)
class_of_number names (s ∷ stems) (n ∷ numbers) (suc place) stem number each at also =
    class_of_number names stems numbers place stem number each.1 at also

-- A lemma at its place, the number of its class, and the nets of all classes.
module _ (stems : List Stem) (names : List (List ℕ)) (numbers : List ℕ)
    (classed : AreClassed stems names numbers) (place : ℕ) (stem : Stem) (number : ℕ)
    (within : place < length stems) (is : stem ≡ get_or stems place stem)
    (at : slice_get numbers place ≡ Some number) (nets old : List (List NetGraph))
    (same : old ≡ nets) (long : length nets ≡ length names) where
  class_here : slice_get names number ≡ Some stem.class
  class_here = class_of_number names stems numbers place stem number classed.numbered
      (slice_get_read stems (length stems) place stem refl within is) at

  pub number_within : number < length old
  number_within =
      let below = slice_get_within names number stem.class class_here in
      let count : length old ≡ length nets = ap length same in
      omega (arith, below, count, long)

  module _ (net : List NetGraph) (has : net ≡ get_or old number net) where
    -- the net at the number is that of the class
    pub net_here : IsNetAt names nets stem.class net
    net_here = record {
      number = number;
      is_class = class_here;
      is_net = ap (λ (l : List (List NetGraph)). slice_get l number) (sym same)
          ∙ slice_get_read old (length old) number net refl number_within has;
    }

    -- what is written back in its place changes nothing
    pub nets_stay : (new : List NetGraph) → new ≡ net → set old number new ≡ nets
    nets_stay new stays =
        ap (set old number) (stays ∙ has) ∙ (set-get_or old number net ∙ same)

-- one more lemma
pub classed_more : (stems : List Stem) (i : ℕ) (stem : Stem) (names more : List (List ℕ))
    (numbers : List ℕ) (number : ℕ) → i < length stems → stem ≡ get_or stems i stem →
    AreClassed (take i stems) names numbers → more ≡ with_text names stem.class →
    slice_get more number ≡ Some stem.class →
    AreClassed (take (i + 1) stems) more (numbers ++ number ∷ [])
classed_more stems i stem names more numbers number within is so_far grown at =
    let next : take i stems ++ stem ∷ [] ≡ take (i + 1) stems = take-next stems i stem within is in
    let are : more ≡ classes_of (take i stems ++ stem ∷ []) =
    grown ∙ (ap (λ (l : List (List ℕ)). with_text l stem.class) so_far.are
    ∙ (sym (each_once-push (map (λ (s : Stem). s.class) (take i stems)) stem.class)
    ∙ ap each_once (sym (map-append (λ (s : Stem). s.class) (take i stems) (stem ∷ []))))) in
    let old : AllZip (HasNumber more) (take i stems) numbers =
    subst (λ (l : List (List ℕ)). AllZip (HasNumber l) (take i stems) numbers) (sym grown)
    (numbers_stay names stem.class (take i stems) numbers so_far.numbered) in
    subst (λ (l : List Stem). AreClassed l more (numbers ++ number ∷ [])) next (record {
      are = are;
      numbered = AllZip-grown (HasNumber more) (take i stems) numbers stem number old at;
    })

-- all of them
pub classed_all : (stems : List Stem) (i : ℕ) (names : List (List ℕ)) (numbers : List ℕ) →
    length stems ≤ i → AreClassed (take i stems) names numbers → AreClassed stems names numbers
classed_all stems i names numbers past so_far =
    subst (λ (l : List Stem). AreClassed l names numbers) (take_all i stems past) so_far
