-- Where contexts are closed is told in ascending order, and so what is told is found by its state.
use Rattle.std.proofs.Common.{arith, ◌≡◌, ℕ, ◌+◌, ◌<◌, ◌≤◌, List, [], ◌∷◌, ◌++◌, ◌∙◌, ap, inl, inr, length, length-append, get_or, Some}
use Rattle.std.proofs.Math.Seq.{get_or-append_seam}
use Rattle.std.proofs.lemmas.List.{get_or_append_left}
use Rattle.ux_net.specs.declared.net_graph.Closing.{Closing}
use Rattle.ux_net.specs.Closings.{closing_in, Ascend}
use Rattle.ux_base.proofs.Lists.{less_or}
use Rattle.ux_net.proofs.KeysLemmas.{first_at}

-- what stands for an entry where a list has none
abbrev nothing : Closing
nothing = record { opening = 0; closing = 0 }

-- the state for which the entry at an index tells
abbrev pub opening_at : List Closing → ℕ → ℕ
opening_at entries i = (get_or entries i nothing).opening

-- an empty list ascends
pub none_ascend : Ascend []
none_ascend = record { by_opening = λ i j lt within. absurd (omega (arith, within)) }

-- what an entry tells is found for its state
pub told_at : (entries : List Closing) → Ascend entries → (i : ℕ) → i < length entries →
    closing_in entries (opening_at entries i) ≡ Some (get_or entries i nothing).closing
told_at entries up i lt =
    first_at (λ (e : Closing). e.opening) (λ (e : Closing). e.closing) nothing entries up.by_opening
    i lt

-- Entries that ascend, for states below a number.
pub record Below (entries : List Closing) (most : ℕ) : Type 0 where
  pub up : Ascend entries
  pub below : (i : ℕ) → i < length entries → opening_at entries i < most

-- what lies below fewer lies below more
pub wider : (entries : List Closing) (few more : ℕ) → few ≤ more → Below entries few →
    Below entries more
wider entries few more le b =
    record { up = b.up; below = λ i lt. let less = b.below i lt in omega (arith, less, le) }

-- one entry more, behind them
pub one_more : (entries : List Closing) (e : Closing) → Below entries e.opening →
    Below (entries ++ e ∷ []) (e.opening + 1)
one_more entries e b = record {
  up = record {
    by_opening = λ i j lt within. elim (less_or j (length entries)) [
      | inl inner ↦
          let x = front i (omega (arith, lt, inner)) in
          let y = front j inner in
          let less = b.up.by_opening i j lt inner in
          omega (arith, x, y, less)
      | inr outer ↦
          let len = length-append entries (e ∷ []) in
          let same : j ≡ length entries = omega (arith, within, outer, len) in
          let x = front i (omega (arith, lt, same)) in
          let y = ap (opening_at (entries ++ e ∷ [])) same ∙ last in
          let less = b.below i (omega (arith, lt, same)) in
          omega (arith, x, y, less)
    ];
  };
  below = λ i lt. elim (less_or i (length entries)) [
    | inl inner ↦
        let x = front i inner in let less = b.below i inner in omega (arith, x, less)
    | inr outer ↦
        let len = length-append entries (e ∷ []) in
        let same : i ≡ length entries = omega (arith, lt, outer, len) in
        let y = ap (opening_at (entries ++ e ∷ [])) same ∙ last in
        omega (arith, y)
  ];
}
  where
    front : (i : ℕ) → i < length entries →
        opening_at (entries ++ e ∷ []) i ≡ opening_at entries i
    front i lt = ap (λ (c : Closing). c.opening) (get_or_append_left entries (e ∷ []) nothing i lt)

    last : opening_at (entries ++ e ∷ []) (length entries) ≡ e.opening
    last = ap (λ (c : Closing). c.opening) (get_or-append_seam entries e [] nothing)
