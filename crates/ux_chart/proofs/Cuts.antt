-- Stretches of lists that grow at their ends.
use Rattle.std.proofs.Common.{arith, ◌≡◌, ℕ, ◌+◌, ◌-◌, ◌≤◌, List, [], ◌∷◌, ◌++◌, sym, ap, subst, ◌∙◌, length, take, drop, length-append, length-drop}
use Rattle.std.specs.Prelude.{Contains}
use Rattle.std.proofs.lemmas.List.{take-append-le, take_all, drop-append-le, take-append-drop}
use Rattle.std.proofs.lemmas.List.Elements.{Contains-append_left, Contains-append_right}
use Rattle.std.proofs.Math.Seq.{drop-append_seam}
use Rattle.ux_chart.specs.declared.table.Stretch.{Stretch}
use Rattle.ux_chart.specs.Tables.{cut, IsStretchOf}

-- what stood in a list stands there still
pub cut_old : {A : Type 0} (xs more ys : List A) (s : Stretch) → ys ≡ xs ++ more →
    IsStretchOf (length xs) s → cut ys s ≡ cut xs s
cut_old {A} xs more ys s is within =
    let a = within.from in
    let b = within.to in
    let front : drop s.from (xs ++ more) ≡ drop s.from xs ++ more =
    drop-append-le s.from xs more (omega arith) in
    let len = length-drop s.from xs in
    ap (λ (l : List A). cut l s) is
    ∙ (ap (λ (l : List A). take (s.to - s.from) l) front
    ∙ take-append-le (s.to - s.from) (drop s.from xs) more (omega arith))

-- what was added stands at the end
pub cut_new : {A : Type 0} (xs more ys : List A) → ys ≡ xs ++ more →
    cut ys (record { from = length xs; to = length xs + length more }) ≡ more
cut_new {A} xs more ys is =
    let s : Stretch = record { from = length xs; to = length xs + length more } in
    ap (λ (l : List A). cut l s) is
    ∙ (ap (λ (l : List A). take (length xs + length more - length xs) l) (drop-append_seam xs more)
    ∙ take_all (length xs + length more - length xs) more (omega arith))

-- a stretch up to the end, and one item more
pub cut_more : {A : Type 0} (xs : List A) (y : A) (ys : List A) (from : ℕ) → ys ≡ xs ++ y ∷ [] →
    from ≤ length xs →
    cut ys (record { from = from; to = length ys })
    ≡ cut xs (record { from = from; to = length xs }) ++ y ∷ []
cut_more {A} xs y ys from is inside =
    let long = length-append xs (y ∷ []) in
    let all = ap length is in
    let front : drop from (xs ++ y ∷ []) ≡ drop from xs ++ y ∷ [] =
    drop-append-le from xs (y ∷ []) inside in
    let len = length-drop from xs in
    let len_more = length-append (drop from xs) (y ∷ []) in
    let new : cut ys (record { from = from; to = length ys }) ≡ drop from xs ++ y ∷ [] =
    ap (λ (l : List A). take (length ys - from) (drop from l)) is
    ∙ (ap (λ (l : List A). take (length ys - from) l) front
    ∙ take_all (length ys - from) (drop from xs ++ y ∷ []) (omega arith)) in
    let old : cut xs (record { from = from; to = length xs }) ≡ drop from xs =
    take_all (length xs - from) (drop from xs) (omega arith) in
    new ∙ ap (λ (l : List A). l ++ y ∷ []) (sym old)

-- an empty stretch
pub cut_none : {A : Type 0} (xs : List A) (n : ℕ) → cut xs (record { from = n; to = n }) ≡ []
cut_none xs n = take_none (drop n xs) (n - n) (omega arith)
  where
    take_none : {A : Type 0} (l : List A) (k : ℕ) → k ≡ 0 → take k l ≡ []
    take_none {A} l k e = ap (λ i. take i l) e

-- what stands in a stretch stands in the list
pub cut_contains : {A : Type 0} (xs : List A) (s : Stretch) (x : A) → Contains (cut xs s) x →
    Contains xs x
cut_contains {A} xs s x h =
    let in_drop : Contains (drop s.from xs) x =
    subst (λ (l : List A). Contains l x) (take-append-drop (s.to - s.from) (drop s.from xs))
    (Contains-append_left (cut xs s) (drop (s.to - s.from) (drop s.from xs)) x h) in
    subst (λ (l : List A). Contains l x) (take-append-drop s.from xs)
    (Contains-append_right (take s.from xs) (drop s.from xs) x in_drop)
