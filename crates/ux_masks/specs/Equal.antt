-- When two masks ask for the same, and what they feed a hash. Inner: the crate's own functions alone
-- speak of it.
use Rattle.std.proofs.Common.{◌≡◌, Bool, true, false, ◌&&◌, ℕ, List, [], ◌++◌, Option, None, Some, refl, sym, ◌∙◌, ap, eq-eqb}
use Rattle.std.specs.Prelude.{◌==◌, Decides, bytes_eq, if◌then◌else◌}
use Rattle.std.specs.Cmp.{IsEquivalence}
use Rattle.std.specs.Hash as fed
use Rattle.std.proofs.lemmas.Bool.{eqb-true}
use lib.Pointwise.{pointwise, pointwise_decides, bytes_decides}
use Rattle.ux_masks.specs.declared.lexical.Parts.{Parts}
use Rattle.ux_masks.specs.declared.mask.Mask.{Mask}
use Rattle.ux_masks.specs.declared.mask.Mask.TheVariants.{Word, NotWord, Lower, NotLower, Upper, NotUpper, First, NotFirst, Dic, NotDic, SDic, NotSDic, CDic, TDic, Nb, Token, Lexical, NotLexical}

-- whether two texts that may be missing are equal
abbrev pub told_eq : (told other : Option (List ℕ)) → Bool
told_eq None None = true
told_eq None (Some other) = false
told_eq (Some text) None = false
told_eq (Some text) (Some other) = bytes_eq text other

-- whether the same is asked, part by part
abbrev pub parts_eq : (parts other : Parts) → Bool
parts_eq parts other = told_eq parts.form other.form && (told_eq parts.lemma other.lemma
    && (pointwise bytes_eq parts.need other.need && (pointwise bytes_eq parts.forbid other.forbid
    && pointwise bytes_eq parts.infl other.infl)))

-- the number of the variant, in their order
abbrev pub number_of : Mask → ℕ
number_of Word = 0
number_of NotWord = 1
number_of Lower = 2
number_of NotLower = 3
number_of Upper = 4
number_of NotUpper = 5
number_of First = 6
number_of NotFirst = 7
number_of Dic = 8
number_of NotDic = 9
number_of SDic = 10
number_of NotSDic = 11
number_of CDic = 12
number_of TDic = 13
number_of Nb = 14
number_of Token = 15
number_of (Lexical parts) = 16
number_of (NotLexical parts) = 17

-- what a lexical mask asks for, if the mask is one
abbrev pub parts_in : Mask → Option Parts
parts_in Word = None
parts_in NotWord = None
parts_in Lower = None
parts_in NotLower = None
parts_in Upper = None
parts_in NotUpper = None
parts_in First = None
parts_in NotFirst = None
parts_in Dic = None
parts_in NotDic = None
parts_in SDic = None
parts_in NotSDic = None
parts_in CDic = None
parts_in TDic = None
parts_in Nb = None
parts_in Token = None
parts_in (Lexical parts) = Some parts
parts_in (NotLexical parts) = Some parts

-- whether the same is asked, where something is
abbrev pub asked_eq : (parts other : Option Parts) → Bool
asked_eq None None = true
asked_eq None (Some other) = false
asked_eq (Some parts) None = false
asked_eq (Some parts) (Some other) = parts_eq parts other

-- whether two masks are equal: by their variants, and by what they ask for
abbrev pub mask_eq : (mask other : Mask) → Bool
mask_eq mask other = (number_of mask == number_of other) && asked_eq (parts_in mask) (parts_in other)

-- what parts feed a hash: each of them
abbrev pub parts_writes : Parts → List (List ℕ)
parts_writes parts = fed.option fed.str parts.form ++ (fed.option fed.str parts.lemma
    ++ (fed.slice fed.str parts.need ++ (fed.slice fed.str parts.forbid
    ++ fed.slice fed.str parts.infl)))

abbrev pub asked_writes : Option Parts → List (List ℕ)
asked_writes None = []
asked_writes (Some parts) = parts_writes parts

-- what a mask feeds a hash: the number of its variant, and what it asks for
abbrev pub mask_writes : Mask → List (List ℕ)
mask_writes mask = fed.u8 (number_of mask) ++ asked_writes (parts_in mask)

first : (s t : Bool) → (s && t) ≡ true → s ≡ true
first true t h = refl
first false t h = h

second : (s t : Bool) → (s && t) ≡ true → t ≡ true
second true t h = h
second false t h = cc

both : (s t : Bool) → s ≡ true → t ≡ true → (s && t) ≡ true
both true t h k = k
both false t h k = h

parts_same : (x y : Parts) → x.form ≡ y.form → x.lemma ≡ y.lemma → x.need ≡ y.need →
    x.forbid ≡ y.forbid → x.infl ≡ y.infl → x ≡ y
parts_same x y form lemma need forbid infl =
    λ i. record { form = form i; lemma = lemma i; need = need i; forbid = forbid i; infl = infl i }

pub told_eq-Decides : (x y : Option (List ℕ)) → Decides (told_eq x y) (x ≡ y)
told_eq-Decides None None = (λ h. refl, λ h. refl)
told_eq-Decides None (Some y) = (λ h. cc, λ h. cc)
told_eq-Decides (Some x) None = (λ h. cc, λ h. cc)
told_eq-Decides (Some x) (Some y) =
    let texts = bytes_decides x y in
    (λ h. ap Some (texts.0 h), λ h. texts.1 (let same : x ≡ y = cc in same))

-- the same is asked exactly where the test says so
pub parts_eq-Decides : (x y : Parts) → Decides (parts_eq x y) (x ≡ y)
parts_eq-Decides x y =
    let forms = told_eq-Decides x.form y.form in
    let lemmas = told_eq-Decides x.lemma y.lemma in
    let needs = pointwise_decides bytes_decides x.need y.need in
    let forbids = pointwise_decides bytes_decides x.forbid y.forbid in
    let infls = pointwise_decides bytes_decides x.infl y.infl in
    let a = told_eq x.form y.form in
    let b = told_eq x.lemma y.lemma in
    let d = pointwise bytes_eq x.need y.need in
    let e = pointwise bytes_eq x.forbid y.forbid in
    let f = pointwise bytes_eq x.infl y.infl in (
      λ h.
          let h1 = second a (b && (d && (e && f))) h in
          let h2 = second b (d && (e && f)) h1 in
          let h3 = second d (e && f) h2 in
          parts_same x y (forms.0 (first a (b && (d && (e && f))) h))
          (lemmas.0 (first b (d && (e && f)) h1)) (needs.0 (first d (e && f) h2))
          (forbids.0 (first e f h3)) (infls.0 (second e f h3)),
      λ is.
          both a (b && (d && (e && f))) (forms.1 (ap (λ (z : Parts). z.form) is))
          (both b (d && (e && f)) (lemmas.1 (ap (λ (z : Parts). z.lemma) is))
          (both d (e && f) (needs.1 (ap (λ (z : Parts). z.need) is))
          (both e f (forbids.1 (ap (λ (z : Parts). z.forbid) is))
          (infls.1 (ap (λ (z : Parts). z.infl) is))))),
    )

pub asked_eq-Decides : (x y : Option Parts) → Decides (asked_eq x y) (x ≡ y)
asked_eq-Decides None None = (λ h. refl, λ h. refl)
asked_eq-Decides None (Some y) = (λ h. cc, λ h. cc)
asked_eq-Decides (Some x) None = (λ h. cc, λ h. cc)
asked_eq-Decides (Some x) (Some y) =
    let parts = parts_eq-Decides x y in
    (λ h. ap Some (parts.0 h), λ h. parts.1 (let same : x ≡ y = cc in same))

-- the mask of this number that asks for these parts
abbrev with_parts : Bool → Option Parts → Option Mask
with_parts negated None = None
with_parts false (Some parts) = Some (Lexical parts)
with_parts true (Some parts) = Some (NotLexical parts)

abbrev made : ℕ → Option Parts → Option Mask
made n parts =
    if n == 0 then Some Word else (
    if n == 1 then Some NotWord else (
    if n == 2 then Some Lower else (
    if n == 3 then Some NotLower else (
    if n == 4 then Some Upper else (
    if n == 5 then Some NotUpper else (
    if n == 6 then Some First else (
    if n == 7 then Some NotFirst else (
    if n == 8 then Some Dic else (
    if n == 9 then Some NotDic else (
    if n == 10 then Some SDic else (
    if n == 11 then Some NotSDic else (
    if n == 12 then Some CDic else (
    if n == 13 then Some TDic else (
    if n == 14 then Some Nb else (
    if n == 15 then Some Token else (
    with_parts (n == 17) parts))))))))))))))))

made_again : (mask : Mask) → made (number_of mask) (parts_in mask) ≡ Some mask
made_again Word = refl
made_again NotWord = refl
made_again Lower = refl
made_again NotLower = refl
made_again Upper = refl
made_again NotUpper = refl
made_again First = refl
made_again NotFirst = refl
made_again Dic = refl
made_again NotDic = refl
made_again SDic = refl
made_again NotSDic = refl
made_again CDic = refl
made_again TDic = refl
made_again Nb = refl
made_again Token = refl
made_again (Lexical parts) = refl
made_again (NotLexical parts) = refl

same_mask : (x y : Mask) → number_of x ≡ number_of y → parts_in x ≡ parts_in y → x ≡ y
same_mask x y n p =
    let told : Some x ≡ Some y =
    sym (made_again x) ∙ ap (λ k. made k (parts_in x)) n ∙ ap (made (number_of y)) p
    ∙ made_again y in
    cc

-- masks are equal exactly where the test says so
pub mask_eq-Decides : (x y : Mask) → Decides (mask_eq x y) (x ≡ y)
mask_eq-Decides x y =
    let asked = asked_eq-Decides (parts_in x) (parts_in y) in
    let n = number_of x == number_of y in
    let p = asked_eq (parts_in x) (parts_in y) in (
      λ h. same_mask x y (eqb-true (number_of x) (number_of y) (first n p h)) (asked.0 (second n p h)),
      λ is. both n p (eq-eqb (number_of x) (number_of y) (ap number_of is)) (asked.1 (ap parts_in is)),
    )

module _ {K : Type 0} {E : K → K → Bool} (decides : (x y : K) → Decides (E x y) (x ≡ y)) where
  same_tests : (s t : Bool) → (s ≡ true → t ≡ true) → (t ≡ true → s ≡ true) → s ≡ t
  same_tests true t f g = sym (f refl)
  same_tests false true f g = g refl
  same_tests false false f g = refl

  pub IsEquivalence-decided : IsEquivalence E
  IsEquivalence-decided = record {
    refl = λ x. (decides x x).1 refl;
    symm = λ x y. same_tests (E x y) (E y x) (λ h. (decides y x).1 (sym ((decides x y).0 h)))
        (λ h. (decides x y).1 (sym ((decides y x).0 h)));
    congr = λ x y z h. ap (λ k. E k z) ((decides x y).0 h);
  }

-- so these tests are equivalences
pub parts_equiv : IsEquivalence parts_eq
parts_equiv = IsEquivalence-decided parts_eq-Decides

pub mask_equiv : IsEquivalence mask_eq
mask_equiv = IsEquivalence-decided mask_eq-Decides
