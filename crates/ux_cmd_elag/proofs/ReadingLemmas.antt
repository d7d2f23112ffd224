-- Rules that are read one after the other.
use Rattle.std.proofs.Common.{◌≡◌, ℕ, ◌+◌, List, [], ◌∷◌, ◌++◌, length, length-append, Option, Some, ap, refl, sym, subst, ◌∙◌}
use Rattle.std.specs.Prelude.{slice_get}
use Rattle.std.specs.List.{AllZip}
use Rattle.ux_base.specs.Outside.{Files, Seen, IsLater}
use Rattle.ux_grf.specs.declared.graph.Graph.{Graph}
use Rattle.ux_plan.proofs.Growing.{IsRest, each_ends, each_from, each_more}
use Rattle.ux_plan.specs.Plans.{each}
use Rattle.ux_rules.specs.Rules.{IsRuleOf, RuleSteps}
use Rattle.ux_cmd_elag.specs.Files.{AreRead, ReadsRule}
use Rattle.ux_cmd_elag.specs.Reading.{named_format}

-- one more at the end of both
zip_push : {A B : Type 0} (R : A → B → Type 0) (xs : List A) (ys : List B) (x : A) (y : B) →
    AllZip R xs ys → R x y → AllZip R (xs ++ x ∷ []) (ys ++ y ∷ [])
zip_push R [] [] x y zip is = (is, tt)
zip_push R [] (b ∷ ys) x y zip is = absurd zip
zip_push R (a ∷ xs) [] x y zip is = absurd zip
zip_push R (a ∷ xs) (b ∷ ys) x y zip is = (zip.0, zip_push R xs ys x y zip.1 is)

module _ (names : List (List ℕ)) (told : Option Files) where
  -- the rules are those of the first files, and the others are still to come
  pub record AreReadTo (place : ℕ) (rules : List RuleSteps) : Type 0 where
    pub graphs : List Graph
    pub are : AllZip IsRuleOf graphs rules
    pub count : length graphs ≡ place
    pub rest : IsRest told (each_from named_format names graphs) (each named_format names)

  -- one more rule was read
  pub read_more : (start mid : Seen) → start.files ≡ told → IsLater start mid → (place : ℕ)
      (rules more : List RuleSteps) (name : List ℕ) (rule : RuleSteps) → AreReadTo place rules →
      slice_get names place ≡ Some name → ReadsRule name mid.files rule →
      more ≡ rules ++ rule ∷ [] → AreReadTo (place + 1) more
  read_more start mid is later place rules more name rule read at one grown =
      let graphs = read.graphs in
      let all = graphs ++ one.graph ∷ [] in
      let next : slice_get names (length graphs) ≡ Some name =
      subst (λ n. slice_get names n ≡ Some name) (sym read.count) at in
      let rest = subst (λ (t : Option Files). IsRest t (each_from named_format names graphs)
      (each named_format names)) (sym is) read.rest in
      let more_rest = each_more named_format names start mid later graphs rest name next one.graph
      all refl one.has in
      record {
        graphs = all;
        are = subst (λ (l : List RuleSteps). AllZip IsRuleOf all l) (sym grown)
            (zip_push IsRuleOf graphs rules one.graph rule read.are one.is);
        count = length-append graphs (one.graph ∷ []) ∙ ap (λ n. n + 1) read.count;
        rest = subst (λ (t : Option Files). IsRest t (each_from named_format names all)
            (each named_format names)) is more_rest;
      }

  -- all were read
  pub read_all : (rules : List RuleSteps) → AreReadTo (length names) rules →
      AreRead names told rules
  read_all rules read = record {
    graphs = read.graphs;
    comes = each_ends named_format names told read.graphs read.count read.rest;
    are = read.are;
  }
