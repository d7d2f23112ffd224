-- A rule and its kinds are told by their name.
use Rattle.std.proofs.Common.{arith, ◌≡◌, ℕ, List, [], ◌∷◌, ◌++◌, refl, ap, ◌∙◌, length, map}
use Rattle.ux_monitor.specs.declared.rule.Sign.{Sign}
use Rattle.ux_monitor.specs.declared.rule.Sign.TheVariants.{Free, If, Then, Read}
use Rattle.ux_monitor.specs.declared.rule.Step.{Step}
use Rattle.ux_monitor.specs.Monitors.{Monitored}
use Rattle.ux_monitor.specs.Naming.{sign_number, joined, parts_of, name_of}

same_sign : (a b : Sign) → sign_number a ≡ sign_number b → a ≡ b
same_sign Free Free e = refl
same_sign Free If e = absurd (omega (arith, e))
same_sign Free Then e = absurd (omega (arith, e))
same_sign Free (Read t) e = absurd (omega (arith, e))
same_sign If Free e = absurd (omega (arith, e))
same_sign If If e = refl
same_sign If Then e = absurd (omega (arith, e))
same_sign If (Read t) e = absurd (omega (arith, e))
same_sign Then Free e = absurd (omega (arith, e))
same_sign Then If e = absurd (omega (arith, e))
same_sign Then Then e = refl
same_sign Then (Read t) e = absurd (omega (arith, e))
same_sign (Read s) Free e = absurd (omega (arith, e))
same_sign (Read s) If e = absurd (omega (arith, e))
same_sign (Read s) Then e = absurd (omega (arith, e))
same_sign (Read s) (Read t) e = ap Read (let is : s ≡ t = omega (arith, e) in is)

same_step : (x y : Step) → x.from ≡ y.from → x.to ≡ y.to → x.sign ≡ y.sign → x ≡ y
same_step x y from to sign =
    let first : (f : ℕ) → Step = λ f. record { from = f; to = x.to; sign = x.sign } in
    let second : (t : ℕ) → Step = λ t. record { from = y.from; to = t; sign = x.sign } in
    let third : (s : Sign) → Step = λ s. record { from = y.from; to = y.to; sign = s } in
    ap first from ∙ ap second to ∙ ap third sign

same_steps : (xs ys : List Step) → map (λ (s : Step). s.from) xs ≡ map (λ (s : Step). s.from) ys →
    map (λ (s : Step). s.to) xs ≡ map (λ (s : Step). s.to) ys →
    map (λ (s : Step). sign_number s.sign) xs ≡ map (λ (s : Step). sign_number s.sign) ys → xs ≡ ys
same_steps [] [] from to sign = refl
same_steps [] (y ∷ ys) from to sign = cc
same_steps (x ∷ xs) [] from to sign = cc
same_steps (x ∷ xs) (y ∷ ys) from to sign =
    let head_from : x.from ≡ y.from = cc in
    let head_to : x.to ≡ y.to = cc in
    let head_sign : sign_number x.sign ≡ sign_number y.sign = cc in
    let rest_from : map (λ (s : Step). s.from) xs ≡ map (λ (s : Step). s.from) ys = cc in
    let rest_to : map (λ (s : Step). s.to) xs ≡ map (λ (s : Step). s.to) ys = cc in
    let rest_sign : map (λ (s : Step). sign_number s.sign) xs
    ≡ map (λ (s : Step). sign_number s.sign) ys = cc in
    ap (λ (s : Step). s ∷ xs) (same_step x y head_from head_to (same_sign x.sign y.sign head_sign))
    ∙ ap (λ (ss : List Step). y ∷ ss) (same_steps xs ys rest_from rest_to rest_sign)

-- lists of one length before others
split_same : (a b c d : List ℕ) → length a ≡ length b → a ++ c ≡ b ++ d → (a ≡ b) × (c ≡ d)
split_same [] [] c d len e = (refl, e)
split_same [] (y ∷ b) c d len e = absurd (omega (arith, len))
split_same (x ∷ a) [] c d len e = absurd (omega (arith, len))
split_same (x ∷ a) (y ∷ b) c d len e =
    let head : x ≡ y = cc in
    let rest : a ++ c ≡ b ++ d = cc in
    let s = split_same a b c d (omega (arith, len)) rest in
    (ap (λ (z : ℕ). z ∷ a) head ∙ ap (λ (zs : List ℕ). y ∷ zs) s.0, s.1)

pub same_joined : (xs ys : List (List ℕ)) → joined xs ≡ joined ys → xs ≡ ys
same_joined [] [] e = refl
same_joined [] (y ∷ ys) e = cc
same_joined (x ∷ xs) [] e = cc
same_joined (x ∷ xs) (y ∷ ys) e =
    let len : length x ≡ length y = cc in
    let rest : x ++ joined xs ≡ y ++ joined ys = cc in
    let s = split_same x y (joined xs) (joined ys) len rest in
    ap (λ (z : List ℕ). z ∷ xs) s.0
    ∙ ap (λ (zs : List (List ℕ)). y ∷ zs) (same_joined xs ys s.1)

pub same_name : (a b : Monitored) → name_of a ≡ name_of b → a ≡ b
same_name a b e =
    let parts : parts_of a ≡ parts_of b = same_joined (parts_of a) (parts_of b) e in
    let from : map (λ (s : Step). s.from) a.rule.steps ≡ map (λ (s : Step). s.from) b.rule.steps =
    cc in
    let to : map (λ (s : Step). s.to) a.rule.steps ≡ map (λ (s : Step). s.to) b.rule.steps = cc in
    let sign : map (λ (s : Step). sign_number s.sign) a.rule.steps
    ≡ map (λ (s : Step). sign_number s.sign) b.rule.steps = cc in
    let ends : a.rule.ends ≡ b.rule.ends = cc in
    let kinds : a.kinds ≡ b.kinds = cc in
    let of_steps : List Step → Monitored = λ ss. record {
      rule = record { steps = ss; ends = a.rule.ends };
      kinds = a.kinds;
    } in
    let of_ends : List ℕ → Monitored = λ es. record {
      rule = record { steps = b.rule.steps; ends = es };
      kinds = a.kinds;
    } in
    let of_kinds : List (List ℕ) → Monitored = λ ks. record { rule = b.rule; kinds = ks } in
    ap of_steps (same_steps a.rule.steps b.rule.steps from to sign)
    ∙ ap of_ends ends ∙ ap of_kinds kinds
