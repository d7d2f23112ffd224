-- Grammars of one small graph, with and without a negative recursion.
use Rattle.std.proofs.Common.{arith, ◌≡◌, ℕ, ◌<◌, List, [], ◌∷◌, inl, inr, refl, subst, sym, ◌∙◌}
use Rattle.std.specs.Prelude.{Contains}
use Rattle.std.proofs.lemmas.List.Elements.{All-nil, All-cons, All-contains, Contains-push_cases}
use Rattle.ux_base.proofs.Lists.{nothing_in}
use Rattle.ux_net.specs.declared.label.Label.{Label}
use Rattle.ux_net.specs.declared.label.Label.TheVariants.{CaseFolded, Positive, Negative, ContextEnd, Call}
use Rattle.ux_net.specs.Words.{Letter, negative, opens, mark_of, Step, Grammar, Run, stop, along, across}
use Rattle.ux_admission.specs.NegativeRecursion.{Uses, called, opened, UsesInTurns, once, more, IsNegativeRecursive, HasNoNegativeRecursion}

abbrev bare : (from to : ℕ) → List Label → Step
bare from to labels = record { from = from; to = to; output = []; labels = labels }

-- a context around one line: 0 mark 1 line 2 $] 3
abbrev ending : List Step
ending = bare 2 3 (ContextEnd ∷ []) ∷ []

abbrev body : Label → List Step
body line = bare 1 2 (line ∷ []) ∷ ending

abbrev around : (mark line : Label) → List Step
around mark line = bare 0 1 (mark ∷ []) ∷ body line

-- the grammar of this graph
abbrev lone : List Step → Grammar
lone steps = record {
  count = 1;
  graph = λ g. record {
    start = 0;
    IsPlace = λ n. n < 4;
    IsEnd = λ n. n ≡ 3;
    IsStep = Contains steps;
  };
}

-- what holds of the three steps
each : (mark line : Label) (P : Step → Type 0) → P (bare 0 1 (mark ∷ [])) →
    P (bare 1 2 (line ∷ [])) → P (bare 2 3 (ContextEnd ∷ [])) →
    (s : Step) → Contains (around mark line) s → P s
each mark line P opening inner closing s i =
    All-contains P (around mark line) s
    (All-cons P (bare 0 1 (mark ∷ [])) (body line) opening
    (All-cons P (bare 1 2 (line ∷ [])) ending inner
    (All-cons P (bare 2 3 (ContextEnd ∷ [])) [] closing (All-nil P)))) i

-- 0 $![ 1 :self 2 $] 3: the graph may not follow where it follows
pub self_negative : IsNegativeRecursive (lone (around Negative (Call 1))) 1
self_negative = record {
  first = 0;
  opening = 1;
  has = record {
    step = bare 0 1 (Negative ∷ []);
    leads = record { of_graph = (0, omega arith, refl); word = []; run = stop };
    to = refl;
    refuses = refl;
  };
  uses = once (called (bare 1 2 (Call 1 ∷ []))
      (record { of_graph = (1, omega arith, refl); word = []; run = stop })
      (0, omega arith, refl));
}

-- 0 $[ 1 :self 2 $] 3: no context is negative
pub self_positive : HasNoNegativeRecursion (lone (around Positive (Call 1)))
self_positive g r =
    each Positive (Call 1) (λ s. mark_of s.labels ≡ opens negative → ⊥) (λ e. cc) (λ e. cc)
    (λ e. cc) r.has.step r.has.leads.of_graph r.has.refuses

-- 0 $![ 1 text 2 $] 3: the body uses nothing
module _ (text : List ℕ) where
  abbrev plain_body : List Step
  plain_body = around Negative (CaseFolded text)

  -- no step leads back to place 0
  after_start : (g : ℕ) {a b : ℕ} {word : List Letter} →
      Run g ((lone plain_body).graph g) a b word → 0 < a → 0 < b
  after_start g stop h = h
  after_start g (along s i m r) h =
      after_start g r (each Negative (CaseFolded text) (λ s. 0 < s.to) (omega arith) (omega arith)
      (omega arith) s i)
  after_start g (across sign s t i m run j n r) h =
      after_start g r (each Negative (CaseFolded text) (λ s. 0 < s.to) (omega arith) (omega arith)
      (omega arith) t j)

  -- no line is a call
  no_call : (h : ℕ) (s : Step) → Contains plain_body s → Contains s.labels (Call h) → ⊥
  no_call h s i =
      each Negative (CaseFolded text) (λ s. Contains s.labels (Call h) → ⊥)
      (λ c. let e : Negative ≡ Call h = alone Negative c in cc)
      (λ c. let e : CaseFolded text ≡ Call h = alone (CaseFolded text) c in cc)
      (λ c. let e : ContextEnd ≡ Call h = alone ContextEnd c in cc) s i
    where
      alone : (x : Label) → Contains (x ∷ []) (Call h) → x ≡ Call h
      alone x c = elim (Contains-push_cases [] x (Call h) c) [
        | inl a ↦ absurd (nothing_in a)
        | inr e ↦ e
      ]

  body_uses_nothing : (g : ℕ) {h next : ℕ} → Uses (lone plain_body) g 1 h next → ⊥
  body_uses_nothing g (called {h = h} s l stands) = no_call h s l.of_graph stands
  body_uses_nothing g (opened {sign = sign} s l m) =
      let later = after_start g l.run (omega arith) in
      let first = each Negative (CaseFolded text) (λ s. mark_of s.labels ≡ opens sign → s.from ≡ 0)
      (λ e. refl) (λ e. cc) (λ e. cc) s l.of_graph m in
      omega (arith, later, first)

  nothing_in_turns : (g : ℕ) {h next : ℕ} → UsesInTurns (lone plain_body) g 1 h next → ⊥
  nothing_in_turns g (once u) = body_uses_nothing g u
  nothing_in_turns g (more u t) = body_uses_nothing g u

  pub plain_negative : HasNoNegativeRecursion (lone plain_body)
  plain_negative g r =
      let s = r.has.step in
      let at = each Negative (CaseFolded text) (λ s. mark_of s.labels ≡ opens negative → s.to ≡ 1)
      (λ e. refl) (λ e. cc) (λ e. cc) s r.has.leads.of_graph r.has.refuses in
      nothing_in_turns g (subst (λ n. UsesInTurns (lone plain_body) g n g r.first)
      (sym r.has.to ∙ at) r.uses)
