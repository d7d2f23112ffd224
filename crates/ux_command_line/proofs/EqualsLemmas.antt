-- A word, cut at its first `=`.
use Rattle.std.proofs.Common.{◌≡◌, ◌∙◌, ap, refl, ℕ, Bool, true, false, ◌==◌, List, ◌∷◌, ◌++◌, Some, None}
use Rattle.std.specs.List.{after_first}
use Rattle.clap.proofs.CutLemmas.{list_any-at, before_first-at, before_first-Lacks, after_first-at}
use Rattle.ux_command_line.specs.Arguments.{EQUALS, name_in, value_in}
use Rattle.ux_command_line.proofs.CutLemmas.{cut, has, lacks}

abbrev has_equals : List ℕ → Bool
has_equals = has EQUALS

-- a name and a value, joined
module _ (name value : List ℕ) (none : has_equals name ≡ false) where
  pub name_in-joined : name_in (name ++ EQUALS ∷ value) ≡ name
  name_in-joined = before_first-at EQUALS name value (lacks EQUALS name none)

  pub value_in-joined : value_in (name ++ EQUALS ∷ value) ≡ Some value
  value_in-joined = rw (list_any-at EQUALS name value)
      (ap (λ v. Some v) (after_first-at EQUALS name value (lacks EQUALS name none)))

-- a name alone
module _ (name : List ℕ) (none : has_equals name ≡ false) where
  pub name_in-alone : name_in name ≡ name
  name_in-alone = before_first-Lacks EQUALS name (lacks EQUALS name none)

  pub value_in-alone : value_in name ≡ None
  value_in-alone = rw none refl

-- AGAIN

pub joined_again : (text value : List ℕ) → value_in text ≡ Some value →
    text ≡ name_in text ++ EQUALS ∷ value
joined_again text value is = by_case (has_equals text) refl
  where
    by_case : (b : Bool) → has_equals text ≡ b → text ≡ name_in text ++ EQUALS ∷ value
    by_case true e =
        let found : Some (after_first (λ b. b == EQUALS) text) ≡ Some value = rw e at is in
        let same : after_first (λ b. b == EQUALS) text ≡ value = cc in
        cut EQUALS text e ∙ ap (λ v. name_in text ++ EQUALS ∷ v) same
    by_case false e = let wrong : None ≡ Some value = rw e at is in cc

pub alone_again : (text : List ℕ) → value_in text ≡ None → name_in text ≡ text
alone_again text is = by_case (has_equals text) refl
  where
    by_case : (b : Bool) → has_equals text ≡ b → name_in text ≡ text
    by_case false e = name_in-alone text e
    by_case true e =
        let wrong : Some (after_first (λ b. b == EQUALS) text) ≡ None = rw e at is in cc
