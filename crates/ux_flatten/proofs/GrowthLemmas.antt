-- Lists that grow by what each element of another list gives.
use Rattle.std.proofs.Common.{◌≡◌, ℕ, ◌+◌, ◌<◌, ◌≤◌, List, [], ◌∷◌, ◌++◌, sym, subst, ap, ◌∙◌, append-nil, drop, get_or, length, map}
use Rattle.std.specs.List.{flat_map}
use Rattle.ux_base.proofs.Lists.{drop_whole}
use Rattle.ux_digraph.specs.declared.closing.Rule.{Rule}
use Rattle.ux_net.specs.declared.state.State.{State}
use Rattle.ux_flatten.specs.Negative.{rules_from, rules_of_state}
use Rattle.ux_flatten.proofs.MakingLemmas.{dropped, one_more, some_more}

module _ {A B : Type 0} where
  pub flat_more : (f : A → List B) (xs : List A) (i : ℕ) (x : A) (list now whole : List B) →
      i < length xs → x ≡ get_or xs i x → list ++ flat_map f (drop i xs) ≡ whole →
      now ≡ list ++ f x → now ++ flat_map f (drop (i + 1) xs) ≡ whole
  flat_more f xs i x list now whole lt at so_far grown =
      some_more list now (f x) (flat_map f (drop (i + 1) xs)) whole grown
      (subst (λ l. list ++ flat_map f l ≡ whole) (dropped xs i x lt at) so_far)

  pub flat_all : (f : A → List B) (xs : List A) (i : ℕ) (list whole : List B) → length xs ≤ i →
      list ++ flat_map f (drop i xs) ≡ whole → list ≡ whole
  flat_all f xs i list whole le so_far =
      sym (append-nil list)
      ∙ (ap (λ l. list ++ flat_map f l) (sym (drop_whole xs i le)) ∙ so_far)

  pub map_more : (f : A → B) (xs : List A) (i : ℕ) (x : A) (list now whole : List B) →
      i < length xs → x ≡ get_or xs i x → list ++ map f (drop i xs) ≡ whole →
      now ≡ list ++ f x ∷ [] → now ++ map f (drop (i + 1) xs) ≡ whole
  map_more f xs i x list now whole lt at so_far grown =
      one_more list now (map f (drop (i + 1) xs)) whole (f x) grown
      (subst (λ l. list ++ map f l ≡ whole) (dropped xs i x lt at) so_far)

  pub map_all : (f : A → B) (xs : List A) (i : ℕ) (list whole : List B) → length xs ≤ i →
      list ++ map f (drop i xs) ≡ whole → list ≡ whole
  map_all f xs i list whole le so_far =
      sym (append-nil list)
      ∙ (ap (λ l. list ++ map f l) (sym (drop_whole xs i le)) ∙ so_far)

-- the rules of one state more
pub rules_more : (count a : ℕ) (states : List State) (state : State) (list now whole : List Rule) →
    a < length states → state ≡ get_or states a state →
    list ++ rules_from count a (drop a states) ≡ whole →
    now ≡ list ++ rules_of_state count a state →
    now ++ rules_from count (a + 1) (drop (a + 1) states) ≡ whole
rules_more count a states state list now whole lt at so_far grown =
    some_more list now (rules_of_state count a state) (rules_from count (a + 1) (drop (a + 1) states))
    whole grown
    (subst (λ l. list ++ rules_from count a l ≡ whole) (dropped states a state lt at) so_far)

pub rules_all : (count a : ℕ) (states : List State) (list whole : List Rule) → length states ≤ a →
    list ++ rules_from count a (drop a states) ≡ whole → list ≡ whole
rules_all count a states list whole le so_far =
    sym (append-nil list)
    ∙ (ap (λ l. list ++ rules_from count a l) (sym (drop_whole states a le)) ∙ so_far)
