-- Each list that forms have has a shortest form.
use Rattle.std.proofs.Common.{arith, ◌≡◌, ℕ, zero, suc, ◌<◌, ◌≤◌, List, [], ◌∷◌, ◌++◌, ◌⊎◌, inl, inr, refl, sym, ap, subst, length, get_or}
use Rattle.std.specs.Prelude.{Contains}
use Rattle.std.proofs.lemmas.Bool.{cases_eq, cases_lt}
use Rattle.std.proofs.lemmas.List.{get_or_append_left, get_or_push, length_push}
use Rattle.ux_dawg.specs.Automaton.{IsAutomaton}
use Rattle.ux_dawg.specs.Forms.{form_of}
use Rattle.ux_dawg.specs.Paths.{IsPath}
use Rattle.ux_dawg.specs.declared.state.Form.{Form}
use Rattle.ux_dawg.specs.declared.state.State.{State}
use Rattle.ux_dawg.proofs.PathLemmas.{behind as later, in_front, of_cons}
use Rattle.ux_image_lists.specs.Shortest.{AreShortest, IsShortest}

-- a form with the list, and none that is shorter
abbrev IsLeast : List Form → (list : ℕ) → List ℕ → Type 0
IsLeast forms list w =
    Contains forms (form_of w list)
    × ((v : List ℕ) → Contains forms (form_of v list) → length w ≤ length v)

least_of : (forms : List Form) (list : ℕ) →
    ((w : List ℕ) → Contains forms (form_of w list) → ⊥) ⊎ ((w : List ℕ) × IsLeast forms list w)
least_of [] list = inl (λ w has. let low = has.1 in omega (arith, low))
least_of (f ∷ forms) list = by (least_of forms list) (cases_eq f.code list)
  where
    moved : f.code ≡ list → f ≡ form_of f.letters list
    moved same = ap (λ c. form_of f.letters c) same

    stands : f.code ≡ list → Contains (f ∷ forms) (form_of f.letters list)
    stands same = subst (Contains (f ∷ forms)) (moved same) (in_front f forms)

    letters : (v : List ℕ) → f ≡ form_of v list → length v ≡ length f.letters
    letters v same = sym (ap (λ (x : Form). length x.letters) same)

    by : ((w : List ℕ) → Contains forms (form_of w list) → ⊥)
        ⊎ ((w : List ℕ) × IsLeast forms list w) → (f.code ≡ list) ⊎ (f.code ≡ list → ⊥) →
        ((w : List ℕ) → Contains (f ∷ forms) (form_of w list) → ⊥)
        ⊎ ((w : List ℕ) × IsLeast (f ∷ forms) list w)
    by (inl none) (inl same) = inr (
      f.letters,
      (
        stands same,
        λ v has. elim (of_cons f forms (form_of v list) has) [
          | inl here ↦ let l = letters v here in omega (arith, l)
          | inr there ↦ absurd (none v there)
        ],
      ),
    )
    by (inl none) (inr other) = inl (λ w has. elim (of_cons f forms (form_of w list) has) [
      | inl here ↦ other (ap (λ (x : Form). x.code) here)
      | inr there ↦ none w there
    ])
    by (inr least) (inr other) = inr (
      least.0,
      (
        later f forms (form_of least.0 list) least.1.0,
        λ v has. elim (of_cons f forms (form_of v list) has) [
          | inl here ↦ absurd (other (ap (λ (x : Form). x.code) here))
          | inr there ↦ least.1.1 v there
        ],
      ),
    )
    by (inr least) (inl same) = elim (cases_lt (length f.letters) (length least.0)) [
      | inl shorter ↦ inr (
        f.letters,
        (
          stands same,
          λ v has. elim (of_cons f forms (form_of v list) has) [
            | inl here ↦ let l = letters v here in omega (arith, l)
            | inr there ↦ let low = least.1.1 v there in omega (arith, low, shorter)
          ],
        ),
      )
      | inr longer ↦ inr (
        least.0,
        (
          later f forms (form_of least.0 list) least.1.0,
          λ v has. elim (of_cons f forms (form_of v list) has) [
            | inl here ↦ let l = letters v here in omega (arith, l, longer)
            | inr there ↦ least.1.1 v there
          ],
        ),
      )
    ]

-- a list of numbers, one for each
record Numbers (P : ℕ → ℕ → Type 0) (n : ℕ) : Type 0 where
  all : List ℕ
  many : length all ≡ n
  each : (k : ℕ) → k < n → P k (get_or all k 0)

numbers_of : (P : ℕ → ℕ → Type 0) (n : ℕ) → ((k : ℕ) → k < n → (m : ℕ) × P k m) → Numbers P n
numbers_of P zero each =
    record { all = []; many = refl; each = λ k less. absurd (omega (arith, less)) }
numbers_of P (suc n) each =
    let before = numbers_of P n (λ k less. each k (omega (arith, less))) in
    let next = each n (omega arith) in
    let many = before.many in
    record {
      all = before.all ++ next.0 ∷ [];
      many = let long = length_push before.all next.0 in omega (arith, long, many);
      each = λ k less. elim (cases_lt k n) [
        | inl old ↦ subst (P k)
            (sym (get_or_append_left before.all (next.0 ∷ []) 0 k (omega (arith, old, many))))
            (before.each k old)
        | inr new ↦
            let same : k ≡ n = omega (arith, less, new) in
            subst (λ i. P i (get_or (before.all ++ next.0 ∷ []) k 0)) (sym same)
            (subst (P n) (sym (get_or_push before.all next.0 0 k (omega (arith, same, many))))
            next.1)
      ];
    }

pub shortest_are : (forms : List Form) (states : List State) (root lists : ℕ) →
    IsAutomaton forms states root →
    ((list : ℕ) → list < lists → (w : List ℕ) × Contains forms (form_of w list)) →
    (shortest : List ℕ) × AreShortest states lists shortest
shortest_are forms states root lists is have =
    let all = numbers_of (IsShortest states) lists (λ list less.
    shortest list (have list less) (least_of forms list)) in
    (all.all, record { many = all.many; each = all.each })
  where
    shortest : (list : ℕ) → ((w : List ℕ) × Contains forms (form_of w list)) →
        ((w : List ℕ) → Contains forms (form_of w list) → ⊥)
        ⊎ ((w : List ℕ) × IsLeast forms list w) → (m : ℕ) × IsShortest states list m
    shortest list has (inl none) = absurd (none has.0 has.1)
    shortest list has (inr least) = (
      length least.0,
      record {
        form = least.0;
        accepted = (root, is.last, (is.exact least.0 list).1 least.1.0);
        is = refl;
        least = λ other accepted.
            let where_root = accepted.1 in
            let last = is.last in
            let same : accepted.0 ≡ root = omega (arith, where_root, last) in
            least.1.1 other ((is.exact other list).0
            (subst (λ r. IsPath states r other list) same accepted.2));
      },
    )
