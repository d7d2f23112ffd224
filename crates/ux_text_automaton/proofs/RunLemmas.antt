-- A run ends where a mark or the end of the text comes, and it is the only sentence that ends there.
use Rattle.std.proofs.Common.{arith, below_more, ◌≡◌, ◌⊎◌, ℕ, ◌+◌, ◌<◌, ◌≤◌, Bool, true, false, cond, List, [], ◌∷◌, ◌++◌, length, get_or, length-append, refl, sym, subst, inl, inr}
use Rattle.std.specs.Prelude.{Contains, IsSomeAnd, slice_get}
use Rattle.std.proofs.lemmas.Bool.{cases_lt, cases_order, false≢true}
use Rattle.std.proofs.lemmas.List.Elements.{All-contains_itself, Contains-append_left, Contains-push, Contains-push_cases}
use Rattle.std.proofs.lemmas.List.Quantifiers.{all_pairs_push}
use Rattle.ux_base.proofs.FirstsLemmas.{Contains-none}
use Rattle.ux_tokens.specs.declared.kind.Kind.{Kind}
use Rattle.ux_tokens.specs.declared.kind.Kind.TheVariants.{Word, Space, Other, Sentence, Stop, Tag}
use Rattle.ux_tokens.specs.Tokens.{Token}
use Rattle.ux_text_automaton.specs.declared.run.Run.{Run}
use Rattle.ux_text_automaton.specs.declared.runs_of.Begun.{Begun}
use Rattle.ux_text_automaton.specs.Candidates.{AreRunsBefore, HasBegun, next_begun, next_runs, run_to, with_run}
use Rattle.ux_text_automaton.specs.Runs.{AreRuns, EndsSentence, IsEndAt, IsNoSpaceAt, IsRun, is_no_space}
use Rattle.ux_text_automaton.proofs.KindLemmas.{of_token, to_token}

module _ (tokens : List Token) where
  -- THE SENTENCE THAT ENDS AT A PLACE

  module _ (place : ℕ) (begun : Begun) (has : HasBegun tokens place begun)
      (inside : place ≤ length tokens) where
    module _ (run : Run) (is : IsRun tokens run) (from : begun.first ≤ run.end)
        (to : run.end ≤ place) where
      end_at : (run.end ≡ length tokens) ⊎ IsEndAt tokens run.end → run.end ≡ place
      end_at (inl whole) = omega (arith, whole, inside, to)
      end_at (inr mark) = elim (cases_lt run.end place) [
        | inl before ↦ absurd (has.inside run.end from before mark)
        | inr at ↦ omega (arith, at, to)
      ]

      not_before : run.first < begun.first →
          (begun.first ≡ 0) ⊎ ((before : ℕ) × (begun.first ≡ before + 1) × IsEndAt tokens before) → ⊥
      not_before less (inl zero_first) = absurd (omega (arith, less, zero_first))
      not_before less (inr (before, next, mark)) =
          is.inside before (omega (arith, less, next)) (omega (arith, next, from)) mark

      not_behind : begun.first < run.first →
          (run.first ≡ 0) ⊎ ((before : ℕ) × (run.first ≡ before + 1) × IsEndAt tokens before) → ⊥
      not_behind more (inl zero_first) = absurd (omega (arith, more, zero_first))
      not_behind more (inr (before, next, mark)) =
          let low = is.some.1 in
          let high = is.some.2 in
          has.inside before (omega (arith, more, next)) (omega (arith, next, low, high, to)) mark

      first_at : (run.first ≡ begun.first) ⊎ ((run.first < begun.first) ⊎ (begun.first < run.first)) →
          run.first ≡ begun.first
      first_at (inl same) = same
      first_at (inr (inl less)) = absurd (not_before less has.begins)
      first_at (inr (inr more)) = absurd (not_behind more is.begins)

      -- it is the run that has begun
      pub same_run : run_to begun place ≡ run
      same_run =
          let first : begun.first ≡ run.first =
          sym (first_at (cases_order run.first begun.first)) in
          let last : place ≡ run.end = sym (end_at is.ends) in
          λ i. record { first = first i; end = last i }

    -- and that one is a sentence, if it has a token other than a space
    pub is_run : (place ≡ length tokens) ⊎ IsEndAt tokens place → begun.some ≡ true →
        IsRun tokens (run_to begun place)
    is_run ends some = record {
      within = inside;
      begins = has.begins;
      inside = has.inside;
      ends = ends;
      some = has.some some;
    }

    module _ (runs : List Run) (before : AreRunsBefore tokens begun.first runs)
        (ends : (place ≡ length tokens) ⊎ IsEndAt tokens place) where
      old_member : (run : Run) → Contains runs run → IsRun tokens run × (run.end < place + 1)
      old_member run member =
          let is = (before.exact run).0 member in
          (is.0, omega (arith, is.1, has.in_order))

      new_run : begun.some ≡ true → (run : Run) → run_to begun place ≡ run →
          IsRun tokens run × (run.end < place + 1)
      new_run some run same =
          subst (λ (r : Run). IsRun tokens r × (r.end < place + 1)) same
          (is_run ends some, omega arith)

      no_run : begun.some ≡ false → (run : Run) → IsRun tokens run → run_to begun place ≡ run → ⊥
      no_run none run is same =
          let at : (place' : ℕ) × (begun.first ≤ place') × (place' < place) × IsNoSpaceAt tokens place' =
          subst (λ (r : Run). (p : ℕ) × (r.first ≤ p) × (p < r.end) × IsNoSpaceAt tokens p) (sym same)
          is.some in
          has.none none at.0 at.1 at.2 at.3

      in_or_new : (run : Run) → IsRun tokens run → run.end < place + 1 →
          Contains runs run ⊎ (run_to begun place ≡ run)
      in_or_new run is lt = elim (cases_lt run.end begun.first) [
        | inl old ↦ inl ((before.exact run).1 (is, old))
        | inr new ↦ inr (same_run run is new (omega (arith, lt)))
      ]

      grown : begun.some ≡ true → AreRunsBefore tokens (place + 1) (runs ++ run_to begun place ∷ [])
      grown some = record {
        exact = λ run. (
          λ member. elim (Contains-push_cases runs (run_to begun place) run member) [
            | inl old ↦ old_member run old
            | inr same ↦ new_run some run same
          ],
          λ is. elim (in_or_new run is.0 is.1) [
            | inl old ↦ Contains-append_left runs (run_to begun place ∷ []) run old
            | inr same ↦ subst (Contains (runs ++ run_to begun place ∷ [])) same
                (Contains-push runs (run_to begun place))
          ],
        );
        in_order = all_pairs_push (λ (run later : Run). run.end < later.first) runs
            (run_to begun place) before.in_order
            (λ k d lt. ((before.exact (get_or runs k d)).0 (All-contains_itself runs k d lt)).1);
      }

      kept : begun.some ≡ false → AreRunsBefore tokens (place + 1) runs
      kept none = record {
        exact = λ run. (
          old_member run,
          λ is. elim (in_or_new run is.0 is.1) [
            | inl old ↦ old
            | inr same ↦ absurd (no_run none run is.0 same)
          ],
        );
        in_order = before.in_order;
      }

      by_some : (b : Bool) → begun.some ≡ b →
          AreRunsBefore tokens (place + 1) (cond b (runs ++ run_to begun place ∷ []) runs)
      by_some true some = grown some
      by_some false none = kept none

      -- so the runs before the next token are known
      pub ended : AreRunsBefore tokens (place + 1) (with_run runs begun place)
      ended = by_some begun.some refl

  -- A TOKEN MORE

  up_to : (P : ℕ → Type 0) (from place : ℕ) → ((i : ℕ) → from ≤ i → i < place → P i) → P place →
      (i : ℕ) → from ≤ i → i < place + 1 → P i
  up_to P from place old here i le lt =
      below_more (λ (k : ℕ). from ≤ k → P k) place (λ k less above. old k above less) (λ above. here) i
      lt le

  module _ (place : ℕ) (begun : Begun) (has : HasBegun tokens place begun) where
    counted : (IsEndAt tokens place → ⊥) → IsNoSpaceAt tokens place →
        HasBegun tokens (place + 1) (record { first = begun.first; some = true })
    counted no_mark some = record {
      in_order = omega (arith, has.in_order);
      begins = has.begins;
      inside = up_to (λ i. IsEndAt tokens i → ⊥) begun.first place has.inside no_mark;
      some = λ _. (place, has.in_order, omega arith, some);
      none = λ is. absurd (false≢true (sym is));
    }

    spaced : (IsEndAt tokens place → ⊥) → (IsNoSpaceAt tokens place → ⊥) →
        HasBegun tokens (place + 1) begun
    spaced no_mark space = record {
      in_order = omega (arith, has.in_order);
      begins = has.begins;
      inside = up_to (λ i. IsEndAt tokens i → ⊥) begun.first place has.inside no_mark;
      some = λ is. (let at = has.some is in (at.0, at.1, omega (arith, at.2), at.3));
      none = λ is. up_to (λ i. IsNoSpaceAt tokens i → ⊥) begun.first place (has.none is) space;
    }

    marked : IsEndAt tokens place →
        HasBegun tokens (place + 1) (record { first = place + 1; some = false })
    marked mark = record {
      in_order = omega arith;
      begins = inr (place, refl, mark);
      inside = λ i from to. absurd (omega (arith, from, to));
      some = λ is. absurd (false≢true is);
      none = λ is i from to. absurd (omega (arith, from, to));
    }

    counts : Kind → Type 0
    counts kind = is_no_space kind ≡ true

    -- what has begun after the token
    pub has_next : (kind : Kind) → IsSomeAnd (slice_get tokens place) (λ token. kind ≡ token.kind) →
        HasBegun tokens (place + 1) (next_begun kind place begun)
    unfolding counts
    has_next Word is = counted (of_token EndsSentence (slice_get tokens place) Word is)
        (to_token counts (slice_get tokens place) Word is refl)
    has_next Space is = spaced (of_token EndsSentence (slice_get tokens place) Space is)
        (λ some. false≢true (of_token counts (slice_get tokens place) Space is some))
    has_next Other is = counted (of_token EndsSentence (slice_get tokens place) Other is)
        (to_token counts (slice_get tokens place) Other is refl)
    has_next Sentence is = marked (to_token EndsSentence (slice_get tokens place) Sentence is tt)
    has_next Stop is = marked (to_token EndsSentence (slice_get tokens place) Stop is tt)
    has_next Tag is = counted (of_token EndsSentence (slice_get tokens place) Tag is)
        (to_token counts (slice_get tokens place) Tag is refl)

    -- and the runs before it
    pub runs_next : (runs : List Run) → place ≤ length tokens →
        AreRunsBefore tokens begun.first runs → (kind : Kind) →
        IsSomeAnd (slice_get tokens place) (λ token. kind ≡ token.kind) →
        AreRunsBefore tokens (next_begun kind place begun).first (next_runs kind place begun runs)
    runs_next runs inside before Word is = before
    runs_next runs inside before Space is = before
    runs_next runs inside before Other is = before
    runs_next runs inside before Sentence is =
        ended place begun has inside runs before
        (inr (to_token EndsSentence (slice_get tokens place) Sentence is tt))
    runs_next runs inside before Stop is =
        ended place begun has inside runs before
        (inr (to_token EndsSentence (slice_get tokens place) Stop is tt))
    runs_next runs inside before Tag is = before

  -- THE WHOLE TEXT

  -- at the start nothing has begun
  pub has_none : HasBegun tokens 0 (record { first = 0; some = false })
  has_none = record {
    in_order = omega arith;
    begins = inl refl;
    inside = λ i from to. absurd (omega (arith, to));
    some = λ is. absurd (false≢true is);
    none = λ is i from to. absurd (omega (arith, to));
  }

  pub runs_none : AreRunsBefore tokens 0 []
  runs_none = record {
    exact = λ run. (
      λ member. absurd (Contains-none run member),
      λ is. absurd (omega (arith, is.1)),
    );
    in_order = λ i j d before within. absurd (omega (arith, within));
  }

  -- at the end the runs are all sentences
  pub runs_are : (place : ℕ) (begun : Begun) (runs : List Run) → place ≡ length tokens →
      HasBegun tokens place begun → AreRunsBefore tokens begun.first runs →
      AreRuns tokens (with_run runs begun place)
  runs_are place begun runs at has before =
      let all = ended place begun has (omega (arith, at)) runs before (inl at) in
      record {
        exact = λ run. (
          λ member. ((all.exact run).0 member).0,
          λ is. (all.exact run).1 (is, omega (arith, at, is.within)),
        );
        in_order = all.in_order;
      }

-- there are at most as many runs as marks, and one more
few_by : (b : Bool) (runs : List Run) (run : Run) (n : ℕ) → length runs ≤ n →
    length (cond b (runs ++ run ∷ []) runs) ≤ n + 1
few_by true runs run n few = omega (arith, length-append runs (run ∷ []), few)
few_by false runs run n few = omega (arith, few)

pub few_ended : (runs : List Run) (begun : Begun) (place n : ℕ) → length runs ≤ n →
    length (with_run runs begun place) ≤ n + 1
few_ended runs begun place n few = few_by begun.some runs (run_to begun place) n few

pub few_next : (kind : Kind) (place : ℕ) (begun : Begun) (runs : List Run) (n : ℕ) →
    length runs ≤ n → length (next_runs kind place begun runs) ≤ n + 1
few_next Word place begun runs n few = omega (arith, few)
few_next Space place begun runs n few = omega (arith, few)
few_next Other place begun runs n few = omega (arith, few)
few_next Sentence place begun runs n few = few_ended runs begun place n few
few_next Stop place begun runs n few = few_ended runs begun place n few
few_next Tag place begun runs n few = omega (arith, few)
