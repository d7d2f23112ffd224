-- The bytes of a layout read back: its magic, its numbers, and where its lists begin.
use Rattle.std.proofs.Common.{arith, ◌≡◌, ℕ, ◌*◌, ◌^◌, ◌<◌, List, [], ◌∷◌, ◌++◌, refl, sym, ◌∙◌, ap, length, length-append, take, drop}
use Rattle.std.specs.Prelude.{All, Option, None, Some, flat_map}
use Rattle.std.proofs.lemmas.List.{append_assoc}
use Rattle.std.proofs.lemmas.List.Elements.{All-head, All-tail}
use Rattle.std.proofs.lemmas.Nat.{from_le_bytes-to_le_bytes_4}
use Rattle.ux_dawg.specs.declared.state.Edge.{Edge}
use Rattle.ux_dawg.specs.declared.state.State.{State}
use Rattle.ux_image.specs.Layout.{MAGIC_BYTES, edge_bytes, layout, list_bytes, number_bytes, state_bytes, AllFit, EdgeFits, StateFits}
use Rattle.ux_image.specs.Layout.{final_number as final_of}
use Rattle.ux_image.specs.declared.code.CodeList.{CodeList}
use Rattle.ux_image_reader.specs.Fronts.{AreAccepted, IsFrontOf}
use Rattle.ux_image_reader.specs.Layout.{final_number, numbers_behind, place_behind, written, written_all, written_edges, HasMagic}
use Rattle.ux_image_reader.specs.Numbers.{numbers_of}
use Rattle.ux_image_reader.specs.declared.front.Front.{Front}
use Rattle.ux_image_reader.specs.declared.front.Version.TheVariants.{Two}

-- a number
numbers-number : (n : ℕ) (rest : List ℕ) → n < 2 ^ 32 →
    numbers_of (number_bytes n ++ rest) ≡ n ∷ numbers_of rest
numbers-number n rest fits = ap (λ k. k ∷ numbers_of rest) (from_le_bytes-to_le_bytes_4 n fits)

-- edges
numbers-edges : (edges : List Edge) (rest : List ℕ) → All EdgeFits edges →
    numbers_of (flat_map edge_bytes edges ++ rest) ≡ written_edges edges ++ numbers_of rest
numbers-edges [] rest fit = refl
numbers-edges (e ∷ edges) rest fit =
    let here = All-head EdgeFits e edges fit in
    let more = flat_map edge_bytes edges ++ rest in
    ap numbers_of (append_assoc (edge_bytes e) (flat_map edge_bytes edges) rest
    ∙ append_assoc (number_bytes e.letter) (number_bytes e.target) more)
    ∙ numbers-number e.letter (number_bytes e.target ++ more) here.0
    ∙ ap (λ (l : List ℕ). e.letter ∷ l) (numbers-number e.target more here.1
    ∙ ap (λ (l : List ℕ). e.target ∷ l) (numbers-edges edges rest (All-tail EdgeFits e edges fit)))

final_same : (code : Option ℕ) → final_of code ≡ final_number code
final_same None = refl
final_same (Some c) = refl

-- a state
numbers-state : (s : State) (rest : List ℕ) → StateFits s →
    numbers_of (state_bytes s ++ rest) ≡ written s ++ numbers_of rest
numbers-state s rest fits =
    let edges = flat_map edge_bytes s.edges in
    ap numbers_of (append_assoc (number_bytes (final_of s.code))
    (number_bytes (length s.edges) ++ edges) rest
    ∙ ap (λ (l : List ℕ). number_bytes (final_of s.code) ++ l)
    (append_assoc (number_bytes (length s.edges)) edges rest))
    ∙ numbers-number (final_of s.code) (number_bytes (length s.edges) ++ (edges ++ rest)) fits.0
    ∙ ap (λ n. n ∷ numbers_of (number_bytes (length s.edges) ++ (edges ++ rest)))
    (final_same s.code)
    ∙ ap (λ (l : List ℕ). final_number s.code ∷ l)
    (numbers-number (length s.edges) (edges ++ rest) fits.1.0
    ∙ ap (λ (l : List ℕ). length s.edges ∷ l) (numbers-edges s.edges rest fits.1.1))

-- states
numbers-states : (states : List State) (rest : List ℕ) → All StateFits states →
    numbers_of (flat_map state_bytes states ++ rest) ≡ written_all states ++ numbers_of rest
numbers-states [] rest fit = refl
numbers-states (s ∷ states) rest fit =
    ap numbers_of (append_assoc (state_bytes s) (flat_map state_bytes states) rest)
    ∙ numbers-state s (flat_map state_bytes states ++ rest) (All-head StateFits s states fit)
    ∙ ap (λ (l : List ℕ). written s ++ l)
    (numbers-states states rest (All-tail StateFits s states fit))
    ∙ sym (append_assoc (written s) (written_all states) (numbers_of rest))

-- each number takes four bytes
length-number : (n : ℕ) → length (number_bytes n) ≡ 4
length-number n = refl

edges_long : (edges : List Edge) →
    length (flat_map edge_bytes edges) ≡ 4 * length (written_edges edges)
edges_long [] = refl
edges_long (e ∷ edges) =
    let more = edges_long edges in
    let parts = length-append (edge_bytes e) (flat_map edge_bytes edges) in
    let two = length-append (number_bytes e.letter) (number_bytes e.target) in
    let one = length-number e.letter in
    let other = length-number e.target in
    omega (arith, more, parts, two, one, other)

states_long : (states : List State) →
    length (flat_map state_bytes states) ≡ 4 * length (written_all states)
states_long [] = refl
states_long (s ∷ states) =
    let more = states_long states in
    let edges = edges_long s.edges in
    let parts = length-append (state_bytes s) (flat_map state_bytes states) in
    let code = length-append (number_bytes (final_of s.code))
    (number_bytes (length s.edges) ++ flat_map edge_bytes s.edges) in
    let many = length-append (number_bytes (length s.edges)) (flat_map edge_bytes s.edges) in
    let one = length-number (final_of s.code) in
    let other = length-number (length s.edges) in
    let all = length-append (written s) (written_all states) in
    omega (arith, more, edges, parts, code, many, one, other, all)

drop_front : (xs ys : List ℕ) (n : ℕ) → n ≡ length xs → drop n (xs ++ ys) ≡ ys
drop_front [] ys n is = ap (λ k. drop k ys) (let e : n ≡ 0 = is in e)
drop_front (x ∷ xs) ys n is =
    ap (λ k. drop k (x ∷ (xs ++ ys))) (let e : n ≡ length (x ∷ xs) = is in e)
    ∙ drop_front xs ys (length xs) refl

module _ (bytes : List ℕ) (states : List State) (lists : List CodeList)
    (states_fit : AllFit StateFits states) (few : length lists < 2 ^ 32)
    (is : bytes ≡ layout states lists) where
  abbrev pub behind : List ℕ
  behind = flat_map list_bytes lists

  -- the front of the file
  abbrev pub front_of : Front
  front_of = record {
    version = Two;
    states = states;
    lists = length lists;
    end = place_behind states;
  }

  numbers : numbers_behind bytes
      ≡ length states ∷ (length lists ∷ (written_all states ++ numbers_of (flat_map list_bytes lists)))
  numbers =
      let rest = flat_map state_bytes states ++ flat_map list_bytes lists in
      ap numbers_behind is
      ∙ numbers-number (length states) (number_bytes (length lists) ++ rest) states_fit.0
      ∙ ap (λ (l : List ℕ). length states ∷ l) (numbers-number (length lists) rest few
      ∙ ap (λ (l : List ℕ). length lists ∷ l)
      (numbers-states states (flat_map list_bytes lists) states_fit.1))

  magic : HasMagic Two bytes
  magic = ap (take 8) is

  pub is_front : AreAccepted (length lists) states → IsFrontOf bytes front_of
  is_front accepted = record {
    rest = numbers_of (flat_map list_bytes lists);
    begins = record { magic = magic; numbers = numbers; passed = accepted.passed };
    accepted = accepted;
    place = refl;
  }

  -- and what stands behind it
  pub lists_there : drop (place_behind states) bytes ≡ flat_map list_bytes lists
  lists_there =
      let state_part = flat_map state_bytes states in
      let many = number_bytes (length states) in
      let lists_many = number_bytes (length lists) in
      let front = MAGIC_BYTES ++ (many ++ (lists_many ++ state_part)) in
      let long = states_long states in
      let one = length-append MAGIC_BYTES (many ++ (lists_many ++ state_part)) in
      let two = length-append many (lists_many ++ state_part) in
      let three = length-append lists_many state_part in
      let four = length-number (length states) in
      let five = length-number (length lists) in
      let eight : length MAGIC_BYTES ≡ 8 = refl in
      ap (drop (place_behind states)) is
      ∙ drop_front front (flat_map list_bytes lists) (place_behind states)
      (omega (arith, long, one, two, three, four, five, eight))
