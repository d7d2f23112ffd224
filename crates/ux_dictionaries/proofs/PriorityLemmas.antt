-- The name of a dictionary gives one priority.
use Rattle.std.proofs.Common.{arith, ◌≡◌, inl, inr, ℕ, List, [], ◌∷◌, ◌++◌, length, length-append, drop, get_or, refl, sym, ap, ◌∙◌, subst}
use Rattle.std.specs.Prelude.{Contains}
use Rattle.std.proofs.lemmas.List.Elements.{Contains-append_right}
use Rattle.ux_apply.specs.Names.{DOT, HYPHEN, PLUS, EndsIn, Gives, IsPriorityOf, IsStem}
use Rattle.ux_apply.specs.declared.priority.Priority.{Priority}
use Rattle.ux_apply.specs.declared.priority.Priority.TheVariants.{High, Normal, Low}

-- a text that goes on with the sign has it
has_sign : (front rest : List ℕ) (sign : ℕ) → Contains (front ++ sign ∷ rest) sign
has_sign front rest sign =
    Contains-append_right front (sign ∷ rest) sign (0, omega arith, refl)

-- a name is cut at its last dot in one way
cut_once : (front back other rest : List ℕ) → front ++ DOT ∷ back ≡ other ++ DOT ∷ rest →
    (Contains back DOT → ⊥) → (Contains rest DOT → ⊥) → front ≡ other
cut_once [] back [] rest same none lacks = refl
cut_once [] back (b ∷ other) rest same none lacks =
    absurd (none (subst (λ (l : List ℕ). Contains l DOT) (sym (ap (λ l. drop 1 l) same))
    (has_sign other rest DOT)))
cut_once (a ∷ front) back [] rest same none lacks =
    absurd (lacks (subst (λ (l : List ℕ). Contains l DOT) (ap (λ l. drop 1 l) same)
    (has_sign front back DOT)))
cut_once (a ∷ front) back (b ∷ other) rest same none lacks =
    let heads : a ≡ b = ap (λ l. get_or l 0 0) same in
    let tails = cut_once front back other rest (ap (λ l. drop 1 l) same) none lacks in
    ap (λ c. c ∷ front) heads ∙ ap (λ l. b ∷ l) tails

-- so it has one stem
one_stem : (name stem other : List ℕ) → IsStem name stem → IsStem name other → stem ≡ other
one_stem name stem other (inl a) (inl b) =
    cut_once stem a.0 other b.0 (sym a.1 ∙ b.1) a.2 b.2
one_stem name stem other (inl a) (inr b) =
    absurd (b.1 (subst (λ (l : List ℕ). Contains l DOT) (sym a.1) (has_sign stem a.0 DOT)))
one_stem name stem other (inr a) (inl b) =
    absurd (a.1 (subst (λ (l : List ℕ). Contains l DOT) (sym b.1) (has_sign other b.0 DOT)))
one_stem name stem other (inr a) (inr b) = sym a.0 ∙ b.0

-- a text has one last sign
one_end : (front other : List ℕ) (a b : ℕ) → front ++ a ∷ [] ≡ other ++ b ∷ [] → a ≡ b
one_end [] [] a b same = ap (λ l. get_or l 0 0) same
one_end [] (c ∷ other) a b same =
    absurd (omega (arith, ap length same, length-append other (b ∷ [])))
one_end (c ∷ front) [] a b same =
    absurd (omega (arith, ap length same, length-append front (a ∷ [])))
one_end (c ∷ front) (d ∷ other) a b same = one_end front other a b (ap (λ l. drop 1 l) same)

both_signs : (stem : List ℕ) → EndsIn HYPHEN stem → EndsIn PLUS stem → ⊥
both_signs stem a b =
    let same : HYPHEN ≡ PLUS = one_end a.0 b.0 HYPHEN PLUS (sym a.1 ∙ b.1) in omega (arith, same)

-- so a stem gives one priority
one_given : (stem : List ℕ) (priority other : Priority) → Gives stem priority →
    Gives stem other → priority ≡ other
one_given stem High High a b = refl
one_given stem High Normal a b = absurd (b.0 a)
one_given stem High Low a b = absurd (both_signs stem a b)
one_given stem Normal High a b = absurd (a.0 b)
one_given stem Normal Normal a b = refl
one_given stem Normal Low a b = absurd (a.1 b)
one_given stem Low High a b = absurd (both_signs stem b a)
one_given stem Low Normal a b = absurd (b.1 a)
one_given stem Low Low a b = refl

-- and a name does
pub one_priority : (name : List ℕ) (priority other : Priority) → IsPriorityOf name priority →
    IsPriorityOf name other → priority ≡ other
one_priority name priority other a b =
    one_given a.0 priority other a.2
    (subst (λ (s : List ℕ). Gives s other) (sym (one_stem name a.0 b.0 a.1 b.1)) b.2)
