-- Numbered readings satisfy a rule, as its monitor tells, where the readings themselves do.
use Rattle.std.proofs.Common.{arith, ◌≡◌, ◌≢◌, ℕ, zero, suc, ◌+◌, ◌↔◌, List, [], ◌∷◌, ◌++◌, inl, inr, refl, sym, ◌∙◌, ap, subst, length}
use Rattle.std.specs.Prelude.{Contains, Some, map, slice_get}
use Rattle.std.proofs.lemmas.List.Elements.{Contains-append_left, Contains-append_right}
use Rattle.std.proofs.lemmas.Option.{same_Some}
use Rattle.ux_base.proofs.Lists.{nothing_in, first_or_later, contains_first, contains_later}
use Rattle.ux_base.proofs.OrderedLists.{Contains-at, place_of}
use Rattle.ux_sentence.specs.declared.sentence.Reading.{Reading}
use Rattle.ux_rules.specs.declared.test.Test.{Test}
use Rattle.ux_rules.specs.declared.step.Sign.{Sign}
use Rattle.ux_rules.specs.declared.step.Sign.TheVariants.{Free, If, Then, Read}
use Rattle.ux_rules.specs.declared.step.Step.{Step}
use Rattle.ux_rules.specs.Runs.{IsFound, IsPair, Matches, Run, Satisfies, pair_word}
use Rattle.ux_rules.specs.Runs.Run.{stop, free, along}
use Rattle.ux_rules.specs.Tests.{Passes}
use Rattle.ux_monitor.specs.declared.rule.Sign as numbered
use Rattle.ux_monitor.specs.declared.rule.Sign.TheVariants as sign
use Rattle.ux_monitor.specs.declared.rule.Step as numbered_step
use Rattle.ux_monitor.specs.Rules as monitored
use Rattle.ux_elag.specs.Numbers.{reading_at}
use Rattle.ux_elag.specs.Ready.{IsPassedBy, IsTable, IsTestAt, PassesTest, numbered_one, numbered_sign, numbered_steps}
use Rattle.ux_elag.proofs.NamedPaths.{AreSmall}

-- a numbered step is that of the step with its number
numbered-from : (steps : List Step) (count : ℕ) (one : numbered_step.Step) →
    Contains (numbered_steps count steps) one →
    (k : ℕ) × (step : Step) × (slice_get steps k ≡ Some step) × (numbered_one (count + k) step ≡ one)
numbered-from [] count one h = absurd (nothing_in h)
numbered-from (step ∷ steps) count one h =
    elim (first_or_later (numbered_one count step) (numbered_steps (count + 1) steps) one h) [
      | inl is ↦ (
        0,
        step,
        refl,
        (let e : count + 0 ≡ count = omega arith in ap (λ (n : ℕ). numbered_one n step) e ∙ is),
      )
      | inr later ↦ let r = numbered-from steps (count + 1) one later in (
        suc r.0,
        r.1,
        r.2,
        (let e : count + suc r.0 ≡ count + 1 + r.0 = omega arith in
            ap (λ (n : ℕ). numbered_one n r.1) e ∙ r.3),
      )
    ]

numbered-to : (steps : List Step) (count k : ℕ) (step : Step) → slice_get steps k ≡ Some step →
    Contains (numbered_steps count steps) (numbered_one (count + k) step)
numbered-to [] count k step h = cc
numbered-to (first ∷ steps) count zero step h =
    let e : count + 0 ≡ count = omega arith in
    let is : first ≡ step = same_Some first step h in
    subst (λ (n : ℕ). Contains (numbered_steps count (first ∷ steps)) (numbered_one n step)) (sym e)
    (subst (λ (s : Step). Contains (numbered_steps count (first ∷ steps)) (numbered_one count s)) is
    (contains_first (numbered_one count first) (numbered_steps (count + 1) steps)))
numbered-to (first ∷ steps) count (suc k) step h =
    let e : count + suc k ≡ count + 1 + k = omega arith in
    subst (λ (n : ℕ). Contains (numbered_steps count (first ∷ steps)) (numbered_one n step)) (sym e)
    (contains_later (numbered_one count first) (numbered_steps (count + 1) steps)
    (numbered_one (count + 1 + k) step) (numbered-to steps (count + 1) k step h))

not_free : (number : ℕ) (s : Sign) → s ≢ Free → numbered_sign number s ≢ sign.Free
not_free number Free other e = other refl
not_free number If other e = cc
not_free number Then other e = cc
not_free number (Read test) other e = cc

was_free : (number : ℕ) (s : Sign) → numbered_sign number s ≡ sign.Free → s ≡ Free
was_free number Free e = refl
was_free number If e = cc
was_free number Then e = cc
was_free number (Read test) e = cc

module _ (steps : List Step) where
  -- a numbered sign tells a sign
  abbrev pub TellsSign : Sign → numbered.Sign → Type 0
  TellsSign Free sign.Free = Unit {0}
  TellsSign If sign.If = Unit {0}
  TellsSign Then sign.Then = Unit {0}
  TellsSign (Read test) (sign.Read number) = IsTestAt steps number test
  TellsSign s n = ⊥

  abbrev pub Tells : List Sign → List numbered.Sign → Type 0
  Tells [] [] = Unit {0}
  Tells (s ∷ word) (n ∷ told) = TellsSign s n × Tells word told
  Tells word told = ⊥

  abbrev pub TellsTests : List Test → List ℕ → Type 0
  TellsTests [] [] = Unit {0}
  TellsTests (test ∷ tests) (n ∷ told) = IsTestAt steps n test × TellsTests tests told
  TellsTests tests told = ⊥

  tells-numbered : (k : ℕ) (step : Step) → slice_get steps k ≡ Some step → (s : Sign) →
      step.sign ≡ s → TellsSign s (numbered_sign k s)
  tells-numbered k step at Free e = tt
  tells-numbered k step at If e = tt
  tells-numbered k step at Then e = tt
  tells-numbered k step at (Read test) e = (step, at, e)

  -- a run has a numbered one
  pub run-numbered : (a b : ℕ) (word : List Sign) → Run steps a b word →
      (told : List numbered.Sign) × Tells word told × monitored.Run (numbered_steps 0 steps) a b told
  run-numbered a b word stop = ([], tt, monitored.Run.stop)
  run-numbered a b word (free s has is rest) =
      let r = run-numbered s.to b word rest in
      let at = place_of steps s has in
      let there = numbered-to steps 0 at.0 s at.1 in (
        r.0,
        r.1,
        monitored.Run.free (numbered_one (0 + at.0) s) there
            (ap (numbered_sign (0 + at.0)) is) r.2,
      )
  run-numbered a b word (along {word = rest} s has other more) =
      let r = run-numbered s.to b rest more in
      let at = place_of steps s has in
      let there = numbered-to steps 0 at.0 s at.1 in
      let e : 0 + at.0 ≡ at.0 = omega arith in
      let told : TellsSign s.sign (numbered_sign (0 + at.0) s.sign) =
      subst (λ (n : ℕ). TellsSign s.sign (numbered_sign n s.sign)) (sym e)
      (tells-numbered at.0 s at.1 s.sign refl) in (
        numbered_sign (0 + at.0) s.sign ∷ r.0,
        (told, r.1),
        monitored.Run.along (numbered_one (0 + at.0) s) there
            (not_free (0 + at.0) s.sign other) r.2,
      )

  -- a numbered run has one that it tells
  pub run-told : (a b : ℕ) (told : List numbered.Sign) →
      monitored.Run (numbered_steps 0 steps) a b told →
      (word : List Sign) × Tells word told × Run steps a b word
  run-told a b told monitored.Run.stop = ([], tt, stop)
  run-told a b told (monitored.Run.free n has is rest) =
      let r = run-told n.to b told rest in
      let from = numbered-from steps 0 n has in
      let s = from.1 in
      let step_there : Contains steps s = Contains-at steps s from.0 from.2 in
      let is_free : s.sign ≡ Free = was_free (0 + from.0) s.sign
      (ap (λ (x : numbered_step.Step). x.sign) from.3 ∙ is) in
      let rest_run = subst (λ (p : ℕ). Run steps p b r.0)
      (sym (ap (λ (x : numbered_step.Step). x.to) from.3)) r.2 in (
        r.0,
        r.1,
        subst (λ (p : ℕ). Run steps p b r.0)
            (ap (λ (x : numbered_step.Step). x.from) from.3) (free s step_there is_free rest_run),
      )
  run-told a b told (monitored.Run.along {word = more} n has other rest) =
      let r = run-told n.to b more rest in
      let from = numbered-from steps 0 n has in
      let s = from.1 in
      let step_there : Contains steps s = Contains-at steps s from.0 from.2 in
      let e : 0 + from.0 ≡ from.0 = omega arith in
      let sign_is : numbered_sign (0 + from.0) s.sign ≡ n.sign =
      ap (λ (x : numbered_step.Step). x.sign) from.3 in
      let is_no : s.sign ≢ Free = λ is. other (sym sign_is ∙ ap (numbered_sign (0 + from.0)) is) in
      let rest_run = subst (λ (p : ℕ). Run steps p b r.0)
      (sym (ap (λ (x : numbered_step.Step). x.to) from.3)) r.2 in
      let told_one : TellsSign s.sign n.sign = subst (TellsSign s.sign) sign_is
      (subst (λ (k : ℕ). TellsSign s.sign (numbered_sign k s.sign)) (sym e)
      (tells-numbered from.0 s from.2 s.sign refl)) in (
        s.sign ∷ r.0,
        (told_one, r.1),
        subst (λ (p : ℕ). Run steps p b (s.sign ∷ r.0))
            (ap (λ (x : numbered_step.Step). x.from) from.3) (along s step_there is_no rest_run),
      )

  -- words of tests, with their numbers
  tests-numbered : (tests : List Test) (told : List numbered.Sign) → Tells (map Read tests) told →
      (numbers : List ℕ) × TellsTests tests numbers × (map sign.Read numbers ≡ told)
  tests-numbered [] [] t = ([], tt, refl)
  tests-numbered [] (n ∷ told) t = absurd t
  tests-numbered (test ∷ tests) [] t = absurd t
  tests-numbered (test ∷ tests) (sign.Read k ∷ told) t =
      let r = tests-numbered tests told t.1 in
      (k ∷ r.0, (t.0, r.1), ap (λ (rest : List numbered.Sign). sign.Read k ∷ rest) r.2)
  tests-numbered (test ∷ tests) (sign.Free ∷ told) t = absurd t.0
  tests-numbered (test ∷ tests) (sign.If ∷ told) t = absurd t.0
  tests-numbered (test ∷ tests) (sign.Then ∷ told) t = absurd t.0

  tests-told : (word : List Sign) (numbers : List ℕ) → Tells word (map sign.Read numbers) →
      (tests : List Test) × TellsTests tests numbers × (map Read tests ≡ word)
  tests-told [] [] t = ([], tt, refl)
  tests-told [] (k ∷ numbers) t = absurd t
  tests-told (s ∷ word) [] t = absurd t
  tests-told (Read test ∷ word) (k ∷ numbers) t =
      let r = tests-told word numbers t.1 in
      (test ∷ r.0, (t.0, r.1), ap (λ (rest : List Sign). Read test ∷ rest) r.2)
  tests-told (Free ∷ word) (k ∷ numbers) t = absurd t.0
  tests-told (If ∷ word) (k ∷ numbers) t = absurd t.0
  tests-told (Then ∷ word) (k ∷ numbers) t = absurd t.0

  -- a word in two parts is told in two parts
  tells-split : (xs ys : List Sign) (told : List numbered.Sign) → Tells (xs ++ ys) told →
      (front back : List numbered.Sign) × Tells xs front × Tells ys back × (front ++ back ≡ told)
  tells-split [] ys told t = ([], told, tt, t, refl)
  tells-split (s ∷ xs) ys [] t = absurd t
  tells-split (s ∷ xs) ys (n ∷ told) t =
      let r = tells-split xs ys told t.1 in
      (n ∷ r.0, r.1, (t.0, r.2), r.3, ap (λ (rest : List numbered.Sign). n ∷ rest) r.4)

  told-split : (word : List Sign) (xs ys : List numbered.Sign) → Tells word (xs ++ ys) →
      (front back : List Sign) × Tells front xs × Tells back ys × (front ++ back ≡ word)
  told-split word [] ys t = ([], word, tt, t, refl)
  told-split [] (n ∷ xs) ys t = absurd t
  told-split (s ∷ word) (n ∷ xs) ys t =
      let r = told-split word xs ys t.1 in
      (s ∷ r.0, r.1, (t.0, r.2), r.3, ap (λ (rest : List Sign). s ∷ rest) r.4)

  module _ (mark : Sign) (told_mark : numbered.Sign)
      (mark_told : (n : numbered.Sign) → TellsSign mark n → n ≡ told_mark)
      (mark_tells : (s : Sign) → TellsSign s told_mark → s ≡ mark) where
    one-told : (told : List numbered.Sign) → Tells (mark ∷ []) told → told ≡ told_mark ∷ []
    one-told [] t = absurd t
    one-told (n ∷ []) t = ap (λ (x : numbered.Sign). x ∷ []) (mark_told n t.0)
    one-told (n ∷ more ∷ told) t = absurd t.1

    one-tells : (word : List Sign) → Tells word (told_mark ∷ []) → word ≡ mark ∷ []
    one-tells [] t = absurd t
    one-tells (s ∷ []) t = ap (λ (x : Sign). x ∷ []) (mark_tells s t.0)
    one-tells (s ∷ more ∷ word) t = absurd t.1

    headed : (word : List Sign) (told : List numbered.Sign) → Tells (mark ∷ word) told →
        (rest : List numbered.Sign) × Tells word rest × (told ≡ told_mark ∷ rest)
    headed word [] t = absurd t
    headed word (n ∷ told) t =
        (told, t.1, ap (λ (x : numbered.Sign). x ∷ told) (mark_told n t.0))

    heading : (word : List Sign) (told : List numbered.Sign) → Tells word (told_mark ∷ told) →
        (rest : List Sign) × Tells rest told × (word ≡ mark ∷ rest)
    heading [] told t = absurd t
    heading (s ∷ word) told t = (word, t.1, ap (λ (x : Sign). x ∷ word) (mark_tells s t.0))

    -- the pair of the rule has a numbered one
    pub pair-numbered : (left right : List Test) → IsPair steps mark left right →
        (lefts rights : List ℕ) × TellsTests left lefts × TellsTests right rights
        × monitored.Run (numbered_steps 0 steps) 0 1
        ((told_mark ∷ map sign.Read lefts) ++ (told_mark ∷ (map sign.Read rights ++ told_mark ∷ [])))
    pair-numbered left right pair =
        let run = run-numbered 0 1 (pair_word mark left right) pair in
        let parts = tells-split (mark ∷ map Read left) (mark ∷ (map Read right ++ mark ∷ [])) run.0 run.1 in
        let front = headed (map Read left) parts.0 parts.2 in
        let back = headed (map Read right ++ mark ∷ []) parts.1 parts.3 in
        let ends = tells-split (map Read right) (mark ∷ []) back.0 back.1 in
        let lefts = tests-numbered left front.0 front.1 in
        let rights = tests-numbered right ends.0 ends.2 in
        let last = one-told ends.1 ends.3 in
        let end_is : map sign.Read rights.0 ++ told_mark ∷ [] ≡ back.0 =
        ap (λ (xs : List numbered.Sign). xs ++ told_mark ∷ []) rights.2
        ∙ (ap (λ (xs : List numbered.Sign). ends.0 ++ xs) (sym last) ∙ ends.4) in
        let is : (told_mark ∷ map sign.Read lefts.0) ++ (told_mark ∷ (map sign.Read rights.0 ++ told_mark ∷ []))
        ≡ run.0 =
        ap (λ (xs : List numbered.Sign). (told_mark ∷ xs) ++ (told_mark ∷ (map sign.Read rights.0 ++ told_mark ∷ []))) lefts.2
        ∙ (ap (λ (xs : List numbered.Sign). (told_mark ∷ front.0) ++ (told_mark ∷ xs)) end_is
        ∙ (ap (λ (xs : List numbered.Sign). xs ++ (told_mark ∷ back.0)) (sym front.2)
        ∙ (ap (λ (xs : List numbered.Sign). parts.0 ++ xs) (sym back.2) ∙ parts.4))) in (
          lefts.0,
          rights.0,
          lefts.1,
          rights.1,
          subst (λ (w : List numbered.Sign). monitored.Run (numbered_steps 0 steps) 0 1 w) (sym is) run.2,
        )

    -- and the other way round
    pub pair-told : (lefts rights : List ℕ) → monitored.Run (numbered_steps 0 steps) 0 1
        ((told_mark ∷ map sign.Read lefts) ++ (told_mark ∷ (map sign.Read rights ++ told_mark ∷ []))) →
        (left right : List Test) × TellsTests left lefts × TellsTests right rights
        × IsPair steps mark left right
    pair-told lefts rights numbered_run =
        let run = run-told 0 1 ((told_mark ∷ map sign.Read lefts)
        ++ (told_mark ∷ (map sign.Read rights ++ told_mark ∷ []))) numbered_run in
        let parts = told-split run.0 (told_mark ∷ map sign.Read lefts)
        (told_mark ∷ (map sign.Read rights ++ told_mark ∷ [])) run.1 in
        let front = heading parts.0 (map sign.Read lefts) parts.2 in
        let back = heading parts.1 (map sign.Read rights ++ told_mark ∷ []) parts.3 in
        let ends = told-split back.0 (map sign.Read rights) (told_mark ∷ []) back.1 in
        let left = tests-told front.0 lefts front.1 in
        let right = tests-told ends.0 rights ends.2 in
        let last = one-tells ends.1 ends.3 in
        let end_is : map Read right.0 ++ mark ∷ [] ≡ back.0 =
        ap (λ (xs : List Sign). xs ++ mark ∷ []) right.2
        ∙ (ap (λ (xs : List Sign). ends.0 ++ xs) (sym last) ∙ ends.4) in
        let is : pair_word mark left.0 right.0 ≡ run.0 =
        ap (λ (xs : List Sign). (mark ∷ xs) ++ (mark ∷ (map Read right.0 ++ mark ∷ []))) left.2
        ∙ (ap (λ (xs : List Sign). (mark ∷ front.0) ++ (mark ∷ xs)) end_is
        ∙ (ap (λ (xs : List Sign). xs ++ (mark ∷ back.0)) (sym front.2)
        ∙ (ap (λ (xs : List Sign). parts.0 ++ xs) (sym back.2) ∙ parts.4))) in
        (left.0, right.0, left.1, right.1, subst (λ (w : List Sign). Run steps 0 1 w) (sym is) run.2)

-- a list that is told in two parts
split-read : (f : ℕ → Reading) (word : List ℕ) (xs ys : List Reading) → map f word ≡ xs ++ ys →
    (front back : List ℕ) × (word ≡ front ++ back) × (map f front ≡ xs) × (map f back ≡ ys)
split-read f word [] ys e = ([], word, refl, refl, e)
split-read f [] (x ∷ xs) ys e = cc
split-read f (r ∷ word) (x ∷ xs) ys e =
    let first : f r ≡ x = cc in
    let later : map f word ≡ xs ++ ys = cc in
    let s = split-read f word xs ys later in
    let front : f r ∷ map f s.0 ≡ x ∷ xs = ap (λ (y : Reading). y ∷ map f s.0) first
    ∙ ap (λ (rest : List Reading). x ∷ rest) s.3 in
    (r ∷ s.0, s.1, ap (λ (rest : List ℕ). r ∷ rest) s.2, front, s.4)

module _ (steps : List Step) where
  if_told : (n : numbered.Sign) → TellsSign steps If n → n ≡ sign.If
  if_told sign.If t = refl
  if_told sign.Free t = absurd t
  if_told sign.Then t = absurd t
  if_told (sign.Read k) t = absurd t

  if_tells : (s : Sign) → TellsSign steps s sign.If → s ≡ If
  if_tells If t = refl
  if_tells Free t = absurd t
  if_tells Then t = absurd t
  if_tells (Read test) t = absurd t

  then_told : (n : numbered.Sign) → TellsSign steps Then n → n ≡ sign.Then
  then_told sign.Then t = refl
  then_told sign.Free t = absurd t
  then_told sign.If t = absurd t
  then_told (sign.Read k) t = absurd t

  then_tells : (s : Sign) → TellsSign steps s sign.Then → s ≡ Then
  then_tells Then t = refl
  then_tells Free t = absurd t
  then_tells If t = absurd t
  then_tells (Read test) t = absurd t

-- an end of the numbered rule is the place 1
only_end : (end : ℕ) → Contains (1 ∷ []) end → end ≡ 1
only_end end h = elim (first_or_later 1 [] end h) [
  | inl is ↦ sym is
  | inr later ↦ absurd (nothing_in later)
]

map-append : (f : ℕ → Reading) (xs ys : List ℕ) → map f (xs ++ ys) ≡ map f xs ++ map f ys
map-append f [] ys = refl
map-append f (x ∷ xs) ys = ap (λ (rest : List Reading). f x ∷ rest) (map-append f xs ys)

module _ (steps : List Step) (readings : List Reading) (table : List (List ℕ))
    (is : IsTable steps readings table) where
  abbrev read : List ℕ → List Reading
  read word = map (reading_at readings) word

  -- a step has one test
  one_test : (k : ℕ) (test other : Test) → IsTestAt steps k test → IsTestAt steps k other →
      test ≡ other
  one_test k test other a b =
      let same : a.0 ≡ b.0 = same_Some a.0 b.0 (sym a.1 ∙ b.1) in
      let signs : Read test ≡ Read other =
      sym a.2 ∙ (ap (λ (s : Step). s.sign) same ∙ b.2) in cc

  passed-from : (k : ℕ) (test : Test) (reading : Reading) → IsTestAt steps k test →
      Passes test reading → PassesTest steps k reading
  passed-from k test reading at passes =
      (at.0, at.1, subst (IsPassedBy reading) (sym at.2) passes)

  passed-to : (k : ℕ) (test : Test) (reading : Reading) → IsTestAt steps k test →
      PassesTest steps k reading → Passes test reading
  passed-to k test reading at passes =
      let same : passes.0 ≡ at.0 = same_Some passes.0 at.0 (sym passes.1 ∙ at.1) in
      subst (IsPassedBy reading) (ap (λ (s : Step). s.sign) same ∙ at.2) passes.2

  matches-numbered : (tests : List Test) (numbers word : List ℕ) → TellsTests steps tests numbers →
      AreSmall (length readings) word → Matches tests (read word) →
      monitored.Matches (numbered_steps 0 steps) (1 ∷ []) (monitored.PassesAt table) numbers word
  matches-numbered [] [] [] t below m = tt
  matches-numbered [] [] (r ∷ word) t below m = absurd m
  matches-numbered [] (k ∷ numbers) word t below m = absurd t
  matches-numbered (test ∷ tests) [] word t below m = absurd t
  matches-numbered (test ∷ tests) (k ∷ numbers) [] t below m = absurd m
  matches-numbered (test ∷ tests) (k ∷ numbers) (r ∷ word) t below m = (
    (is.rows r k (below r (contains_first r word))).1
        (passed-from k test (reading_at readings r) t.0 m.0),
    matches-numbered tests numbers word t.1 (λ x h. below x (contains_later r word x h)) m.1,
  )

  matches-told : (tests : List Test) (numbers word : List ℕ) → TellsTests steps tests numbers →
      AreSmall (length readings) word →
      monitored.Matches (numbered_steps 0 steps) (1 ∷ []) (monitored.PassesAt table) numbers word →
      Matches tests (read word)
  matches-told [] [] [] t below m = tt
  matches-told [] [] (r ∷ word) t below m = absurd m
  matches-told [] (k ∷ numbers) word t below m = absurd t
  matches-told (test ∷ tests) [] word t below m = absurd t
  matches-told (test ∷ tests) (k ∷ numbers) [] t below m = absurd m
  matches-told (test ∷ tests) (k ∷ numbers) (r ∷ word) t below m = (
    passed-to k test (reading_at readings r) t.0
        ((is.rows r k (below r (contains_first r word))).0 m.0),
    matches-told tests numbers word t.1 (λ x h. below x (contains_later r word x h)) m.1,
  )

  module _ (mark : Sign) (told_mark : numbered.Sign)
      (mark_told : (n : numbered.Sign) → TellsSign steps mark n → n ≡ told_mark)
      (mark_tells : (s : Sign) → TellsSign steps s told_mark → s ≡ mark) where
    found-numbered : (u v : List ℕ) → AreSmall (length readings) u → AreSmall (length readings) v →
        IsFound (IsPair steps mark) (read u) (read v) →
        monitored.IsFound (numbered_steps 0 steps) (1 ∷ []) (monitored.PassesAt table) told_mark u v
    found-numbered u v bu bv f =
        let p = pair-numbered steps mark told_mark mark_told mark_tells f.left f.right f.pair in
        let before = split-read (reading_at readings) u f.head f.here f.ends_here in
        let after = split-read (reading_at readings) v f.there f.tail f.begins_here in
        let below_here : AreSmall (length readings) before.1 = λ x h.
        bu x (subst (λ (w : List ℕ). Contains w x) (sym before.2)
        (Contains-append_right before.0 before.1 x h)) in
        let below_there : AreSmall (length readings) after.0 = λ x h.
        bv x (subst (λ (w : List ℕ). Contains w x) (sym after.2)
        (Contains-append_left after.0 after.1 x h)) in
        record {
          left = p.0;
          right = p.1;
          pair = (1, contains_first 1 [], p.4);
          head = before.0;
          here = before.1;
          ends_here = before.2;
          matches_left = matches-numbered f.left p.0 before.1 p.2 below_here
              (subst (Matches f.left) (sym before.4) f.matches_left);
          there = after.0;
          tail = after.1;
          begins_here = after.2;
          matches_right = matches-numbered f.right p.1 after.0 p.3 below_there
              (subst (Matches f.right) (sym after.3) f.matches_right);
        }

    found-told : (u v : List ℕ) → AreSmall (length readings) u → AreSmall (length readings) v →
        monitored.IsFound (numbered_steps 0 steps) (1 ∷ []) (monitored.PassesAt table) told_mark u v →
        IsFound (IsPair steps mark) (read u) (read v)
    found-told u v bu bv f =
        let end_is : f.pair.0 ≡ 1 = only_end f.pair.0 f.pair.1 in
        let p = pair-told steps mark told_mark mark_told mark_tells f.left f.right
        (subst (λ (e : ℕ). monitored.Run (numbered_steps 0 steps) 0 e
        ((told_mark ∷ map sign.Read f.left) ++ (told_mark ∷ (map sign.Read f.right ++ told_mark ∷ []))))
        end_is f.pair.2) in
        let below_here : AreSmall (length readings) f.here = λ x h.
        bu x (subst (λ (w : List ℕ). Contains w x) (sym f.ends_here)
        (Contains-append_right f.head f.here x h)) in
        let below_there : AreSmall (length readings) f.there = λ x h.
        bv x (subst (λ (w : List ℕ). Contains w x) (sym f.begins_here)
        (Contains-append_left f.there f.tail x h)) in
        record {
          left = p.0;
          right = p.1;
          pair = p.4;
          head = read f.head;
          here = read f.here;
          ends_here = ap (map (reading_at readings)) f.ends_here
              ∙ map-append (reading_at readings) f.head f.here;
          matches_left = matches-told p.0 f.left f.here p.2 below_here f.matches_left;
          there = read f.there;
          tail = read f.tail;
          begins_here = ap (map (reading_at readings)) f.begins_here
              ∙ map-append (reading_at readings) f.there f.tail;
          matches_right = matches-told p.1 f.right f.there p.3 below_there f.matches_right;
        }

  -- numbered readings satisfy the numbered rule where the readings satisfy the rule
  pub satisfies-numbered : (word : List ℕ) → AreSmall (length readings) word →
      monitored.Satisfies (numbered_steps 0 steps) (1 ∷ []) (monitored.PassesAt table) word
      ↔ Satisfies (IsPair steps If) (IsPair steps Then) (map (reading_at readings) word)
  satisfies-numbered word below = (
    λ so before after e found.
        let s = split-read (reading_at readings) word before after e in
        let bu : AreSmall (length readings) s.0 = λ x h. below x
        (subst (λ (w : List ℕ). Contains w x) (sym s.2) (Contains-append_left s.0 s.1 x h)) in
        let bv : AreSmall (length readings) s.1 = λ x h. below x
        (subst (λ (w : List ℕ). Contains w x) (sym s.2) (Contains-append_right s.0 s.1 x h)) in
        let here = subst (λ (xs : List Reading). IsFound (IsPair steps If) xs (read s.1)) (sym s.3)
        (subst (λ (ys : List Reading). IsFound (IsPair steps If) before ys) (sym s.4) found) in
        let paid = found-told Then sign.Then (then_told steps) (then_tells steps) s.0 s.1 bu bv
        (so s.0 s.1 s.2 (found-numbered If sign.If (if_told steps) (if_tells steps) s.0 s.1 bu bv here)) in
        subst (λ (xs : List Reading). IsFound (IsPair steps Then) xs after) s.3
        (subst (λ (ys : List Reading). IsFound (IsPair steps Then) (read s.0) ys) s.4 paid),
    λ so u v e found.
        let bu : AreSmall (length readings) u = λ x h. below x
        (subst (λ (w : List ℕ). Contains w x) (sym e) (Contains-append_left u v x h)) in
        let bv : AreSmall (length readings) v = λ x h. below x
        (subst (λ (w : List ℕ). Contains w x) (sym e) (Contains-append_right u v x h)) in
        found-numbered Then sign.Then (then_told steps) (then_tells steps) u v bu bv
        (so (read u) (read v)
        (ap (map (reading_at readings)) e ∙ map-append (reading_at readings) u v)
        (found-told If sign.If (if_told steps) (if_tells steps) u v bu bv found)),
  )
