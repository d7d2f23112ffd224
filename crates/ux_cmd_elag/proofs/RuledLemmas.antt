-- What rules leave of a sentence is what their graphs leave.
use Rattle.std.proofs.Common.{arith, zero, suc, List, [], ◌∷◌, refl, subst}
use Rattle.std.specs.Prelude.{◌↔◌, Contains}
use Rattle.std.specs.List.{AllZip}
use Rattle.ux_elag.specs.Left.{AreLeft, Keeps, SatisfiesEach}
use Rattle.ux_grf.specs.declared.graph.Graph.{Graph}
use Rattle.ux_rules.specs.Rules.{IsRuleOf, RuleSteps}
use Rattle.ux_rules.proofs.SatisfyLemmas.{rule_same}
use Rattle.ux_sentence.specs.declared.sentence.Reading.{Reading}
use Rattle.ux_sentence.specs.declared.sentence.Sentence.{Sentence}
use Rattle.ux_cmd_elag.specs.Elag.{SatisfiesEachGraph}

-- what is kept depends on which lists are so alone
keeps_same : (A B : List Reading → Type 0) (old new : Sentence) →
    ((readings : List Reading) → A readings ↔ B readings) → Keeps A old new → Keeps B old new
keeps_same A B old new same keeps = record {
  number = keeps.number;
  exact = λ readings. (
    (λ is. let both = (keeps.exact readings).0 is in (both.0, (same readings).0 both.1)),
    (λ is. (keeps.exact readings).1 (is.0, (same readings).1 is.1)),
  );
  once = keeps.once;
  on_path = keeps.on_path;
  apart = keeps.apart;
  apart_before = keeps.apart_before;
  formed = keeps.formed;
  ordered = keeps.ordered;
  none = λ no. keeps.none (λ readings is so. no readings is ((same readings).0 so));
}

-- the other at the place of the one
zip_right : {A B : Type 0} (R : A → B → Type 0) (xs : List A) (ys : List B) (y : B) →
    AllZip R xs ys → Contains ys y → (x : A) × Contains xs x × R x y
zip_right R xs [] y zip (k, low, at) = absurd (omega (arith, low))
zip_right R [] (b ∷ ys) y zip has = absurd zip
zip_right R (a ∷ xs) (b ∷ ys) y zip (zero, low, at) =
    (a, (zero, omega arith, refl), subst (λ z. R a z) at zip.0)
zip_right R (a ∷ xs) (b ∷ ys) y zip (suc k, low, at) =
    let rest = zip_right R xs ys y zip.1 (k, omega (arith, low), at) in
    (rest.0, (suc rest.1.0, omega (arith, rest.1.1), rest.1.2), rest.2)

zip_left : {A B : Type 0} (R : A → B → Type 0) (xs : List A) (ys : List B) (x : A) →
    AllZip R xs ys → Contains xs x → (y : B) × Contains ys y × R x y
zip_left R [] ys x zip (k, low, at) = absurd (omega (arith, low))
zip_left R (a ∷ xs) [] x zip has = absurd zip
zip_left R (a ∷ xs) (b ∷ ys) x zip (zero, low, at) =
    (b, (zero, omega arith, refl), subst (λ z. R z b) at zip.0)
zip_left R (a ∷ xs) (b ∷ ys) x zip (suc k, low, at) =
    let rest = zip_left R xs ys x zip.1 (k, omega (arith, low), at) in
    (rest.0, (suc rest.1.0, omega (arith, rest.1.1), rest.1.2), rest.2)

-- and so for all rules
module _ (graphs : List Graph) (rules : List RuleSteps) (are : AllZip IsRuleOf graphs rules) where
  each_graph : (readings : List Reading) →
      SatisfiesEach rules readings ↔ SatisfiesEachGraph graphs readings
  each_graph readings = (
    (λ each graph has. let one = zip_left IsRuleOf graphs rules graph are has in
        (rule_same graph one.0 one.2 readings).0 (each one.0 one.1)),
    (λ each rule has. let one = zip_right IsRuleOf graphs rules rule are has in
        (rule_same one.0 rule one.2 readings).1 (each one.0 one.1)),
  )

  -- what the rules leave of each sentence is what their graphs do
  pub left_by_graphs : (sentences left : List Sentence) → AllZip (AreLeft rules) sentences left →
      AllZip (Keeps (SatisfiesEachGraph graphs)) sentences left
  left_by_graphs [] [] all = tt
  left_by_graphs [] (new ∷ left) all = absurd all
  left_by_graphs (old ∷ sentences) [] all = absurd all
  left_by_graphs (old ∷ sentences) (new ∷ left) all = (
    keeps_same (SatisfiesEach rules) (SatisfiesEachGraph graphs) old new each_graph all.0,
    left_by_graphs sentences left all.1,
  )
