-- When a table of entries takes two for one: where all of their parts are equal. Inner: the crate's
-- own functions alone speak of it.
use Rattle.std.proofs.Common.{◌≡◌, Bool, true, false, ◌&&◌, ℕ, List, ◌++◌, refl, sym, ap}
use Rattle.std.specs.Prelude.{Decides, bytes_eq}
use Rattle.std.specs.Cmp.{IsEquivalence}
use Rattle.std.specs.Hash as fed
use lib.Pointwise.{pointwise, pointwise_decides, bytes_decides}
use Rattle.ux_dela.specs.Printed.{printed_codes}
use Rattle.ux_dela.specs.declared.entry.Codes.{Codes}
use Rattle.ux_dela.specs.declared.entry.Entry.{Entry}

-- whether two entries are equal, part by part
abbrev pub entry_eq : (entry other : Entry) → Bool
entry_eq entry other = bytes_eq entry.form other.form && (bytes_eq entry.lemma other.lemma
    && (bytes_eq entry.gram other.gram && (pointwise bytes_eq entry.sem other.sem
    && pointwise bytes_eq entry.infl other.infl)))

-- whether two lists of codes are equal, part by part
abbrev pub codes_eq : (codes other : Codes) → Bool
codes_eq codes other = bytes_eq codes.gram other.gram && (pointwise bytes_eq codes.sem other.sem
    && pointwise bytes_eq codes.infl other.infl)

first : (s t : Bool) → (s && t) ≡ true → s ≡ true
first true t h = refl
first false t h = h

second : (s t : Bool) → (s && t) ≡ true → t ≡ true
second true t h = h
second false t h = cc

both : (s t : Bool) → s ≡ true → t ≡ true → (s && t) ≡ true
both true t h k = k
both false t h k = h

parts_same : (x y : Entry) → x.form ≡ y.form → x.lemma ≡ y.lemma → x.gram ≡ y.gram →
    x.sem ≡ y.sem → x.infl ≡ y.infl → x ≡ y
parts_same x y form lemma gram sem infl =
    λ i. record { form = form i; lemma = lemma i; gram = gram i; sem = sem i; infl = infl i }

codes_same : (x y : Codes) → x.gram ≡ y.gram → x.sem ≡ y.sem → x.infl ≡ y.infl → x ≡ y
codes_same x y gram sem infl = λ i. record { gram = gram i; sem = sem i; infl = infl i }

-- what codes feed a hash: each of their parts
abbrev pub codes_writes_of : Codes → List (List ℕ)
codes_writes_of codes = fed.str codes.gram
    ++ (fed.slice fed.str codes.sem ++ fed.slice fed.str codes.infl)

-- what an entry feeds a hash: each of its parts
abbrev pub writes_of : Entry → List (List ℕ)
writes_of entry = fed.str entry.form ++ (fed.str entry.lemma ++ (fed.str entry.gram
    ++ (fed.slice fed.str entry.sem ++ fed.slice fed.str entry.infl)))

-- what an entry feeds a hash where its codes are there as they are printed
abbrev pub stored_writes_of : Entry → List (List ℕ)
stored_writes_of entry =
    fed.str entry.form ++ (fed.str entry.lemma ++ fed.str (printed_codes entry))

-- they are equal exactly where the test says so
pub entry_eq-Decides : (x y : Entry) → Decides (entry_eq x y) (x ≡ y)
entry_eq-Decides x y =
    let forms = bytes_decides x.form y.form in
    let lemmas = bytes_decides x.lemma y.lemma in
    let grams = bytes_decides x.gram y.gram in
    let sems = pointwise_decides bytes_decides x.sem y.sem in
    let infls = pointwise_decides bytes_decides x.infl y.infl in
    let a = bytes_eq x.form y.form in
    let b = bytes_eq x.lemma y.lemma in
    let d = bytes_eq x.gram y.gram in
    let e = pointwise bytes_eq x.sem y.sem in
    let f = pointwise bytes_eq x.infl y.infl in (
      λ h.
          let h1 = second a (b && (d && (e && f))) h in
          let h2 = second b (d && (e && f)) h1 in
          let h3 = second d (e && f) h2 in
          parts_same x y (forms.0 (first a (b && (d && (e && f))) h))
          (lemmas.0 (first b (d && (e && f)) h1)) (grams.0 (first d (e && f) h2))
          (sems.0 (first e f h3)) (infls.0 (second e f h3)),
      λ is.
          both a (b && (d && (e && f))) (forms.1 (ap (λ (z : Entry). z.form) is))
          (both b (d && (e && f)) (lemmas.1 (ap (λ (z : Entry). z.lemma) is))
          (both d (e && f) (grams.1 (ap (λ (z : Entry). z.gram) is))
          (both e f (sems.1 (ap (λ (z : Entry). z.sem) is))
          (infls.1 (ap (λ (z : Entry). z.infl) is))))),
    )

-- codes are equal exactly where the test says so
pub codes_eq-Decides : (x y : Codes) → Decides (codes_eq x y) (x ≡ y)
codes_eq-Decides x y =
    let grams = bytes_decides x.gram y.gram in
    let sems = pointwise_decides bytes_decides x.sem y.sem in
    let infls = pointwise_decides bytes_decides x.infl y.infl in
    let d = bytes_eq x.gram y.gram in
    let e = pointwise bytes_eq x.sem y.sem in
    let f = pointwise bytes_eq x.infl y.infl in (
      λ h.
          let rest = second d (e && f) h in
          codes_same x y (grams.0 (first d (e && f) h)) (sems.0 (first e f rest))
          (infls.0 (second e f rest)),
      λ is.
          both d (e && f) (grams.1 (ap (λ (z : Codes). z.gram) is))
          (both e f (sems.1 (ap (λ (z : Codes). z.sem) is))
          (infls.1 (ap (λ (z : Codes). z.infl) is))),
    )

module _ {K : Type 0} {E : K → K → Bool} (decides : (x y : K) → Decides (E x y) (x ≡ y)) where
  same_tests : (s t : Bool) → (s ≡ true → t ≡ true) → (t ≡ true → s ≡ true) → s ≡ t
  same_tests true t f g = sym (f refl)
  same_tests false true f g = g refl
  same_tests false false f g = refl

  pub IsEquivalence-decided : IsEquivalence E
  IsEquivalence-decided = record {
    refl = λ x. (decides x x).1 refl;
    symm = λ x y. same_tests (E x y) (E y x) (λ h. (decides y x).1 (sym ((decides x y).0 h)))
        (λ h. (decides x y).1 (sym ((decides y x).0 h)));
    congr = λ x y z h. ap (λ k. E k z) ((decides x y).0 h);
  }

-- so it is an equivalence
pub entry_equiv : IsEquivalence entry_eq
entry_equiv = IsEquivalence-decided entry_eq-Decides

-- and the test of codes is one
pub codes_equiv : IsEquivalence codes_eq
codes_equiv = IsEquivalence-decided codes_eq-Decides
