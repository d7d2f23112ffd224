-- An output read byte by byte has codes exactly where it ends before a code or in one.
use Rattle.std.proofs.Common.{arith, ◌≡◌, ◌≢◌, ℕ, zero, suc, ◌<◌, List, [], ◌∷◌, ◌++◌, refl, sym, ◌∙◌, ap, subst, inl, inr, Bool, false, cond, get_or, length}
use Rattle.std.specs.Prelude.{Contains, All, nat_eq}
use Rattle.std.proofs.lemmas.Bool.{cases_Bool, false≢true, eqb-true, eq-eqb}
use Rattle.ux_base.proofs.Lists.{nothing_in, first_or_later, contains_first, contains_later}
use Rattle.ux_dela.specs.Signs.{COLON}
use Rattle.ux_inflect.specs.declared.codes.CodeState.TheVariants.{Nothing, AtColon, InCode, Broken}
use Rattle.ux_inflect.specs.Faults.{IsUncodedAt}
use Rattle.ux_inflect.specs.Inflected.{behind_colons, IsCode, HasCodes}
use Rattle.ux_inflect.specs.Places.{after_text}

-- codes that each have characters and no colon, as a list without indices
abbrev pub EachCode : List (List ℕ) → Type 0
EachCode [] = Unit {0}
EachCode (code ∷ codes) = IsCode code × EachCode codes

abbrev NoColon : List ℕ → Type 0
NoColon code = Contains code COLON → ⊥

pub no_colon_first : (b : ℕ) (code : List ℕ) → NoColon (b ∷ code) → nat_eq b COLON ≡ false
no_colon_first b code lacks = elim (cases_Bool (nat_eq b COLON)) [
  | inl is ↦ absurd (lacks (subst (λ n. Contains (b ∷ code) n) (eqb-true b COLON is)
      (contains_first b code)))
  | inr is ↦ is
]

pub no_colon_rest : (b : ℕ) (code : List ℕ) → NoColon (b ∷ code) → NoColon code
no_colon_rest b code lacks = λ c. lacks (contains_later b code COLON c)

broken_stays : (text : List ℕ) → after_text Broken text ≡ Broken
broken_stays [] = refl
broken_stays (b ∷ text) = broken_stays text

-- through a code without a colon
through : (code rest : List ℕ) → NoColon code →
    after_text InCode (code ++ rest) ≡ after_text InCode rest
through [] rest lacks = refl
through (b ∷ code) rest lacks =
    ap (λ (c : Bool). after_text (cond c AtColon InCode) (code ++ rest)) (no_colon_first b code lacks)
    ∙ through code rest (no_colon_rest b code lacks)

into : (code rest : List ℕ) → IsCode code → after_text AtColon (code ++ rest) ≡ after_text InCode rest
into [] rest is = absurd (is.some refl)
into (b ∷ code) rest is =
    ap (λ (c : Bool). after_text (cond c Broken InCode) (code ++ rest))
    (no_colon_first b code is.no_colon)
    ∙ through code rest (no_colon_rest b code is.no_colon)

in_code : (codes : List (List ℕ)) → EachCode codes → after_text InCode (behind_colons codes) ≡ InCode
in_code [] each = refl
in_code (code ∷ codes) each = into code (behind_colons codes) each.0 ∙ in_code codes each.1

-- an output with codes ends before a code or in one
coded_state : (codes : List (List ℕ)) → EachCode codes →
    IsUncodedAt (after_text Nothing (behind_colons codes)) → ⊥
coded_state [] each h = h
coded_state (code ∷ codes) each h = subst IsUncodedAt
    (into code (behind_colons codes) each.0 ∙ in_code codes each.1) h

-- a code, or its rest, and the codes behind it
record Read (text : List ℕ) : Type 0 where
  code : List ℕ
  codes : List (List ℕ)
  joined : text ≡ code ++ behind_colons codes
  no_colon : Contains code COLON → ⊥
  each : EachCode codes

no_colon_more : (b : ℕ) (code : List ℕ) → nat_eq b COLON ≡ false → NoColon code → NoColon (b ∷ code)
no_colon_more b code is lacks = λ c. elim (first_or_later b code COLON c) [
  | inl e ↦ absurd (false≢true (sym is ∙ eq-eqb b COLON e))
  | inr l ↦ lacks l
]

-- what is read to an end in a code, and behind a colon
abbrev ReadBoth : List ℕ → Type 0
ReadBoth text = ((IsUncodedAt (after_text InCode text) → ⊥) → Read text)
    × ((IsUncodedAt (after_text AtColon text) → ⊥) → (read : Read text) × (read.code ≢ []))

longer : (b : ℕ) (text : List ℕ) → nat_eq b COLON ≡ false → Read text →
    (read : Read (b ∷ text)) × (read.code ≢ [])
longer b text is r = (
  record {
    code = b ∷ r.code;
    codes = r.codes;
    joined = ap (λ (t : List ℕ). b ∷ t) r.joined;
    no_colon = no_colon_more b r.code is r.no_colon;
    each = r.each;
  },
  λ e. cc,
)

read_in : (b : ℕ) (text : List ℕ) → ReadBoth text →
    (IsUncodedAt (after_text InCode (b ∷ text)) → ⊥) → Read (b ∷ text)
read_in b text rest h = elim (cases_Bool (nat_eq b COLON)) [
  | inl is ↦ (
      let r = rest.1 (subst
      (λ (c : Bool). IsUncodedAt (after_text (cond c AtColon InCode) text) → ⊥) is h) in
      record {
        code = [];
        codes = r.0.code ∷ r.0.codes;
        joined = ap (λ n. n ∷ text) (eqb-true b COLON is)
            ∙ ap (λ (t : List ℕ). COLON ∷ t) r.0.joined;
        no_colon = λ c. nothing_in c;
        each = (record { some = r.1; no_colon = r.0.no_colon }, r.0.each);
      })
  | inr is ↦ (longer b text is (rest.0 (subst
      (λ (c : Bool). IsUncodedAt (after_text (cond c AtColon InCode) text) → ⊥) is h))).0
]

read_at : (b : ℕ) (text : List ℕ) → ReadBoth text →
    (IsUncodedAt (after_text AtColon (b ∷ text)) → ⊥) → (read : Read (b ∷ text)) × (read.code ≢ [])
read_at b text rest h = elim (cases_Bool (nat_eq b COLON)) [
  | inl is ↦ absurd (h (subst
      (λ (c : Bool). IsUncodedAt (after_text (cond c Broken InCode) text)) (sym is)
      (subst IsUncodedAt (sym (broken_stays text)) tt)))
  | inr is ↦ longer b text is (rest.0 (subst
      (λ (c : Bool). IsUncodedAt (after_text (cond c Broken InCode) text) → ⊥) is h))
]

both_read : (text : List ℕ) → ReadBoth text
both_read [] = (
  λ h. record {
    code = [];
    codes = [];
    joined = refl;
    no_colon = λ c. nothing_in c;
    each = tt;
  },
  λ h. absurd (h tt),
)
both_read (b ∷ text) = (read_in b text (both_read text), read_at b text (both_read text))

-- an output that ends before a code or in one has codes
read_all : (output : List ℕ) → (IsUncodedAt (after_text Nothing output) → ⊥) →
    (codes : List (List ℕ)) × (output ≡ behind_colons codes) × EachCode codes
read_all [] h = ([], refl, tt)
read_all (b ∷ output) h = elim (cases_Bool (nat_eq b COLON)) [
  | inl is ↦ (
      let r = (both_read output).1 (subst
      (λ (c : Bool). IsUncodedAt (after_text (cond c AtColon Broken) output) → ⊥) is h) in (
        r.0.code ∷ r.0.codes,
        ap (λ n. n ∷ output) (eqb-true b COLON is) ∙ ap (λ (t : List ℕ). COLON ∷ t) r.0.joined,
        (record { some = r.1; no_colon = r.0.no_colon }, r.0.each),
      ))
  | inr is ↦ absurd (h (subst
      (λ (c : Bool). IsUncodedAt (after_text (cond c AtColon Broken) output)) (sym is)
      (subst IsUncodedAt (sym (broken_stays output)) tt)))
]

each_at : (codes : List (List ℕ)) → EachCode codes → (k : ℕ) (d : List ℕ) → k < length codes →
    IsCode (get_or codes k d)
each_at [] each k d lt = absurd (omega (arith, lt))
each_at (code ∷ codes) each zero d lt = each.0
each_at (code ∷ codes) each (suc k) d lt = each_at codes each.1 k d (omega (arith, lt))

pub each_all : (codes : List (List ℕ)) → EachCode codes → All IsCode codes
each_all codes each = each_at codes each

pub all_each : (codes : List (List ℕ)) → All IsCode codes → EachCode codes
all_each [] all = tt
all_each (code ∷ codes) all =
    (all 0 code (omega arith), all_each codes (λ k d lt. all (suc k) d (omega (arith, lt))))

-- codes are read exactly where there are some
pub has_codes : (output : List ℕ) → (IsUncodedAt (after_text Nothing output) → ⊥) →
    (codes : List (List ℕ)) × HasCodes output codes
has_codes output h =
    let r = read_all output h in
    (r.0, record { joined = r.1; each = each_all r.0 r.2 })

pub codes_read : (output : List ℕ) (codes : List (List ℕ)) → HasCodes output codes →
    IsUncodedAt (after_text Nothing output) → ⊥
codes_read output codes has h = coded_state codes (all_each codes has.each)
    (subst (λ (o : List ℕ). IsUncodedAt (after_text Nothing o)) has.joined h)
