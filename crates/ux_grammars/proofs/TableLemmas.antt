-- The table of names as it grows: each name once, and those that are there keep their places.
use Rattle.std.proofs.Common.{◌≡◌, ℕ, List, [], ◌∷◌, ◌++◌, refl, sym, ◌∙◌, ap, subst, append-nil, Some}
use Rattle.std.specs.Prelude.{Contains, fold, slice_get}
use Rattle.std.specs.List.{flat_map}
use Rattle.std.proofs.lemmas.Grind.{flat_map-append}
use Rattle.ux_base.specs.Distinct.{AreFirsts, GrowsBy, each_once, with_text}
use Rattle.ux_base.proofs.DistinctLemmas.{each_once-keeps}
use Rattle.ux_base.proofs.FirstTextsLemmas.{each_once-AreFirsts, each_once-is}
use Rattle.ux_boxes.specs.Boxes.{Drawn}
use Rattle.ux_boxes.specs.Refusing.{calls_of}
use Rattle.ux_grammars.specs.Naming.{main_name, names_after}

-- one text more is added last
pub fold_push : (texts more : List (List ℕ)) (x : List ℕ) →
    fold with_text texts (more ++ x ∷ []) ≡ with_text (fold with_text texts more) x
fold_push texts [] x = refl
fold_push texts (y ∷ more) x = fold_push (with_text texts y) more x

module _ (word : List ℕ) (graphs : List Drawn) (graph : Drawn) (names table : List (List ℕ))
    (are : names ≡ names_after word graphs) (grows : GrowsBy (calls_of graph) names table) where
  abbrev seen : List (List ℕ)
  seen = main_name word ∷ flat_map calls_of graphs

  grown : table ≡ each_once (seen ++ calls_of graph)
  grown =
      each_once-is (seen ++ calls_of graph) table
      (grows seen (subst (AreFirsts seen) (sym are) (each_once-AreFirsts seen)))

  -- the names after one more graph
  pub names_grow : table ≡ names_after word (graphs ++ graph ∷ [])
  names_grow =
      grown
      ∙ ap (λ (more : List (List ℕ)). each_once (main_name word ∷ more))
      (ap (λ (last : List (List ℕ)). flat_map calls_of graphs ++ last)
      (sym (append-nil (calls_of graph)))
      ∙ sym (flat_map-append calls_of graphs (graph ∷ [])))

  -- a name keeps its place
  pub name_stays : (k : ℕ) (x : List ℕ) → slice_get names k ≡ Some x → slice_get table k ≡ Some x
  name_stays k x at =
      subst (λ (l : List (List ℕ)). slice_get l k ≡ Some x) (sym grown)
      (each_once-keeps seen (calls_of graph) k x
      (subst (λ (l : List (List ℕ)). slice_get l k ≡ Some x) are at))

-- each text is one of those that stand once
pub each_once-has : (texts : List (List ℕ)) (x : List ℕ) → Contains texts x →
    Contains (each_once texts) x
each_once-has texts x has = ((each_once-AreFirsts texts).same x).1 has
