-- Rules that are put to the rows of both of their premises are found there.
use Rattle.std.proofs.Common.{arith, ◌≡◌, ℕ, ◌<◌, List, [], ◌∷◌, ◌++◌, sym, subst, ◌⊎◌, inl, inr, length, get_or, set}
use Rattle.std.specs.Prelude.{Contains}
use Rattle.std.proofs.lemmas.List.{get_or-set_same, get_or-set_other}
use Rattle.std.proofs.lemmas.List.Elements.{Contains-get_or, Contains-append_left, Contains-push, Contains-push_cases}
use Rattle.ux_base.proofs.Lists.{nothing_in, same_or}
use Rattle.ux_digraph.specs.declared.closing.Rule.{Rule}
use Rattle.ux_digraph.specs.Rules.{AreRulesInside}
use Rattle.ux_digraph.specs.Marking.{HaveUses}

abbrev pub with_rule : List (List Rule) → ℕ → Rule → List (List Rule)
with_rule uses p r = set uses p (get_or uses p [] ++ r ∷ [])

module _ (uses : List (List Rule)) (p : ℕ) (r : Rule) (inside : p < length uses) where
  kept : (x : ℕ) (q : Rule) → Contains (get_or uses x []) q →
      Contains (get_or (with_rule uses p r) x []) q
  kept x q h = elim (same_or x p) [
    | inl e ↦ subst (λ n. Contains (get_or (with_rule uses p r) n []) q) (sym e)
        (subst (λ (qs : List Rule). Contains qs q) (sym (get_or-set_same uses p _ [] inside))
        (Contains-append_left (get_or uses p []) (r ∷ []) q
        (subst (λ n. Contains (get_or uses n []) q) e h)))
    | inr n ↦ subst (λ (qs : List Rule). Contains qs q)
        (sym (get_or-set_other uses p x _ [] n)) h
  ]

  found : Contains (get_or (with_rule uses p r) p []) r
  found = subst (λ (qs : List Rule). Contains qs r) (sym (get_or-set_same uses p _ [] inside))
      (Contains-push (get_or uses p []) r)

  old_or : (x : ℕ) (q : Rule) → Contains (get_or (with_rule uses p r) x []) q →
      Contains (get_or uses x []) q ⊎ (r ≡ q)
  old_or x q h = elim (same_or x p) [
    | inl e ↦ elim (Contains-push_cases (get_or uses p []) r q
        (subst (λ (qs : List Rule). Contains qs q) (get_or-set_same uses p _ [] inside)
        (subst (λ n. Contains (get_or (with_rule uses p r) n []) q) e h))) [
          | inl o ↦ inl (subst (λ n. Contains (get_or uses n []) q) (sym e) o)
          | inr s ↦ inr s
        ]
    | inr n ↦ inl (subst (λ (qs : List Rule). Contains qs q)
        (get_or-set_other uses p x _ [] n) h)
  ]

pub no_uses : (uses : List (List Rule)) → ((x : ℕ) → get_or uses x [] ≡ []) → HaveUses [] uses
no_uses uses none = record {
  only = λ x r h. absurd (nothing_in (subst (λ (qs : List Rule). Contains qs r) (none x) h));
  first = λ r h. absurd (nothing_in h);
  second = λ r h. absurd (nothing_in h);
}

-- one more rule, put to both rows
pub more_uses : (rules all : List Rule) (r : Rule) (uses between after : List (List Rule)) →
    all ≡ rules ++ r ∷ [] → r.first < length uses → r.second < length between →
    between ≡ with_rule uses r.first r → after ≡ with_rule between r.second r →
    HaveUses rules uses → HaveUses all after
more_uses rules all r uses between after is first second once twice have =
    subst (λ (rs : List Rule). HaveUses rs after) (sym is)
    (subst (λ (us : List (List Rule)). HaveUses (rules ++ r ∷ []) us) (sym twice) (record {
      only = λ x q h. elim (old_or between r.second r second x q h) [
        | inl o ↦ elim (old_or uses r.first r first x q
            (subst (λ (us : List (List Rule)). Contains (get_or us x []) q) once o)) [
              | inl o ↦ Contains-append_left rules (r ∷ []) q (have.only x q o)
              | inr e ↦ subst (λ z. Contains (rules ++ r ∷ []) z) e (Contains-push rules r)
            ]
        | inr e ↦ subst (λ z. Contains (rules ++ r ∷ []) z) e (Contains-push rules r)
      ];
      first = λ q h. kept between r.second r second q.first q
          (subst (λ (us : List (List Rule)). Contains (get_or us q.first []) q) (sym once)
          (elim (Contains-push_cases rules r q h) [
            | inl o ↦ kept uses r.first r first q.first q (have.first q o)
            | inr e ↦ subst (λ (z : Rule).
                Contains (get_or (with_rule uses r.first r) z.first []) z)
                e (found uses r.first r first)
          ]));
      second = λ q h. elim (Contains-push_cases rules r q h) [
        | inl o ↦ kept between r.second r second q.second q
            (subst (λ (us : List (List Rule)). Contains (get_or us q.second []) q) (sym once)
            (kept uses r.first r first q.second q (have.second q o)))
        | inr e ↦ subst (λ (z : Rule). Contains
            (get_or (with_rule between r.second r) z.second []) z) e
            (found between r.second r second)
      ];
    }))

module _ (rules : List Rule) where
  -- a row of uses has rules that are known
  pub uses_known : (uses : List (List Rule)) (x : ℕ) (row : List Rule) → HaveUses rules uses →
      row ≡ get_or uses x [] → (r : Rule) → Contains row r → Contains rules r
  uses_known uses x row have is r h =
      have.only x r (subst (λ (rs : List Rule). Contains rs r) is h)

  pub uses_inside : (facts : List ℕ) (uses : List (List Rule)) (x : ℕ) (row : List Rule)
      (size now : ℕ) → HaveUses rules uses → row ≡ get_or uses x [] →
      AreRulesInside size rules facts → now ≡ size → AreRulesInside now row []
  uses_inside facts uses x row size now have is inside len = record {
    rule = λ r h. let i = inside.rule r (uses_known uses x row have is r h) in (
      let a = i.0 in omega arith,
      let a = i.1 in omega arith,
      let a = i.2 in omega arith,
    );
    start = λ y h. absurd (nothing_in h);
  }

-- the premises of each rule are places
pub premises_inside : (rules : List Rule) (size now i : ℕ) (d : Rule) →
    AreRulesInside size rules [] → now ≡ size → i < length rules →
    ((get_or rules i d).first < now) × ((get_or rules i d).second < now)
premises_inside rules size now i d inside is h =
    let x = inside.rule (get_or rules i d) (Contains-get_or rules i d h) in
    (let a = x.1 in omega arith, let a = x.2 in omega arith)
