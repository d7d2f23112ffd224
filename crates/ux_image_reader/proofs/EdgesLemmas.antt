-- The edges that were read pass, and what stands behind them passes as the next edge, exactly where
-- all of it passes as edges.
use Rattle.std.proofs.Common.{arith, ◌≡◌, ℕ, suc, ◌+◌, ◌-◌, ◌*◌, ◌<◌, ◌≤◌, List, [], ◌∷◌, ◌++◌, inl, inr, refl, sym, ◌∙◌, ap, subst, length, take, get_or, length-append}
use Rattle.std.specs.Prelude.{All, Some, slice_get}
use Rattle.std.specs.List.Sorted.{IsStrictlyIncreasing}
use Rattle.std.proofs.lemmas.Grind.{flat_map-append}
use Rattle.std.proofs.lemmas.List.{append-nil, append_assoc, get_or_append_left, get_or_at, get_or_push, get_or-map, length-map, length_push, map_push, take_all}
use Rattle.std.proofs.lemmas.Bool.{cases_lt}
use Rattle.std.proofs.lemmas.List.Elements.{All-push, All-get_or}
use Rattle.std.proofs.lemmas.Option.{get_or_from_slice_get, slice_get_within}
use Rattle.std.proofs.Math.Seq.{take-append-add}
use Rattle.ux_dawg.specs.declared.state.Edge.{Edge}
use Rattle.ux_image_reader.specs.declared.cursor.Cursor.{Cursor}
use Rattle.ux_image_reader.specs.declared.error.ImageError.{ImageError}
use Rattle.ux_image_reader.specs.declared.error.ImageError.TheVariants.{BadMagic, Short, BadState, BadCode, Trailing, TooMany, NoMemory}
use Rattle.ux_image_reader.specs.Layout.{written_edge, written_edges}
use Rattle.ux_image_reader.specs.Tests.{letters_in, targets_in, EdgesPass, IsLetter, PassAsEdges}
use Rattle.ux_image_reader.specs.Reading.{letters_of, targets_of, ArePassed, EdgePasses, IsAbove, IsNextLetter, numbers_left, Passes, ReadsEdges, Stops}

-- why a part isn't read tells it of the whole
pub Stops-from : (error : ImageError) (pass whole pass' whole' : Type 0) (offset : ℕ) →
    Stops pass whole offset error → (pass → (whole → ⊥) → pass') → (pass' → pass) →
    (whole' → whole) → Stops pass' whole' offset error
Stops-from BadMagic pass whole pass' whole' offset h up down all = h
Stops-from Short pass whole pass' whole' offset h up down all =
    (up h.0 h.1, λ w. h.1 (all w))
Stops-from (BadState place) pass whole pass' whole' offset h up down all =
    (λ p. h.0 (down p), h.1)
Stops-from (BadCode n) pass whole pass' whole' offset h up down all = h
Stops-from Trailing pass whole pass' whole' offset h up down all = h
Stops-from TooMany pass whole pass' whole' offset h up down all = h
Stops-from NoMemory pass whole pass' whole' offset h up down all = h

letters_in-append : (edges : List Edge) (numbers : List ℕ) →
    letters_in (written_edges edges ++ numbers) ≡ letters_of edges ++ letters_in numbers
letters_in-append [] numbers = refl
letters_in-append (e ∷ edges) numbers =
    ap (λ (l : List ℕ). e.letter ∷ l) (letters_in-append edges numbers)

targets_in-append : (edges : List Edge) (numbers : List ℕ) →
    targets_in (written_edges edges ++ numbers) ≡ targets_of edges ++ targets_in numbers
targets_in-append [] numbers = refl
targets_in-append (e ∷ edges) numbers =
    ap (λ (l : List ℕ). e.target ∷ l) (targets_in-append edges numbers)

pub length-written_edges : (edges : List Edge) → length (written_edges edges) ≡ 2 * length edges
length-written_edges [] = refl
length-written_edges (e ∷ edges) = let more = length-written_edges edges in omega (arith, more)

-- the first letters and targets of edges and of what stands behind them
module _ (edges : List Edge) (numbers : List ℕ) (m : ℕ) where
  letters_taken : take (length edges + m) (letters_in (written_edges edges ++ numbers))
      ≡ letters_of edges ++ take m (letters_in numbers)
  letters_taken =
      ap (λ (l : List ℕ). take (length edges + m) l) (letters_in-append edges numbers)
      ∙ ap (λ n. take (n + m) (letters_of edges ++ letters_in numbers))
      (sym (length-map edges (λ (e : Edge). e.letter)))
      ∙ take-append-add (letters_of edges) (letters_in numbers) m

  targets_taken : take (length edges + m) (targets_in (written_edges edges ++ numbers))
      ≡ targets_of edges ++ take m (targets_in numbers)
  targets_taken =
      ap (λ (l : List ℕ). take (length edges + m) l) (targets_in-append edges numbers)
      ∙ ap (λ n. take (n + m) (targets_of edges ++ targets_in numbers))
      (sym (length-map edges (λ (e : Edge). e.target)))
      ∙ take-append-add (targets_of edges) (targets_in numbers) m

  taken_as : (n : ℕ) → PassAsEdges n (length edges + m) (written_edges edges ++ numbers) →
      EdgesPass n (letters_of edges ++ take m (letters_in numbers))
      (targets_of edges ++ take m (targets_in numbers))
  taken_as n pass =
      subst (λ (l : List ℕ). EdgesPass n (letters_of edges ++ take m (letters_in numbers)) l)
      targets_taken
      (subst (λ (l : List ℕ). EdgesPass n l
      (take (length edges + m) (targets_in (written_edges edges ++ numbers)))) letters_taken pass)

  taken_from : (n : ℕ) → EdgesPass n (letters_of edges ++ take m (letters_in numbers))
      (targets_of edges ++ take m (targets_in numbers)) →
      PassAsEdges n (length edges + m) (written_edges edges ++ numbers)
  taken_from n pass =
      subst (λ (l : List ℕ). EdgesPass n l
      (take (length edges + m) (targets_in (written_edges edges ++ numbers))))
      (sym letters_taken)
      (subst (λ (l : List ℕ). EdgesPass n (letters_of edges ++ take m (letters_in numbers)) l)
      (sym targets_taken) pass)

-- a number above the last one may stand behind
module _ (xs : List ℕ) (x : ℕ) where
  increasing_push : IsStrictlyIncreasing xs → IsAbove xs x → IsStrictlyIncreasing (xs ++ x ∷ [])
  increasing_push up above k less =
      elim (cases_lt (k + 1) (length xs)) [
        | inl inside ↦ there k inside
        | inr past ↦ here k (let long = length_push xs x in omega (arith, less, past, long))
      ]
    where
      here : (k : ℕ) → k + 1 ≡ length xs → get_or (xs ++ x ∷ []) k 0 < get_or (xs ++ x ∷ []) (k + 1) 0
      here k last =
          let low = above k last in
          let old = get_or_append_left xs (x ∷ []) 0 k (omega (arith, last)) in
          let new = get_or_push xs x 0 (k + 1) (sym last) in
          omega (arith, low, old, new)

      there : (k : ℕ) → k + 1 < length xs → get_or (xs ++ x ∷ []) k 0 < get_or (xs ++ x ∷ []) (k + 1) 0
      there k less =
          let low = up k less in
          let old = get_or_append_left xs (x ∷ []) 0 k (omega (arith, less)) in
          let new = get_or_append_left xs (x ∷ []) 0 (k + 1) less in
          omega (arith, low, old, new)

  -- and stands above it where it does
  above_from : (more : List ℕ) → IsStrictlyIncreasing (xs ++ x ∷ more) → IsAbove xs x
  above_from more up k last =
      let long = length-append xs (x ∷ more) in
      let low = up k (omega (arith, last, long)) in
      let old = get_or_append_left xs (x ∷ more) 0 k (omega (arith, last)) in
      let new = get_or_at xs x more 0 (k + 1) (sym last) in
      omega (arith, low, old, new)

-- what stands in a list has what each has
pub standing : {A : Type 0} (P : A → Type 0) (xs : List A) (x : A) (more : List A) →
    All P (xs ++ x ∷ more) → P x
standing P xs x more all =
    subst P (get_or_at xs x more x (length xs) refl)
    (All-get_or P (xs ++ x ∷ more) (length xs) x
    (let long = length-append xs (x ∷ more) in omega (arith, long)) all)

letter_next : (n : ℕ) (edges : List Edge) (c : ℕ) (more targets : List ℕ) →
    EdgesPass n (letters_of edges ++ c ∷ more) targets → IsNextLetter edges c
letter_next n edges c more targets pass = (
  standing IsLetter (letters_of edges) c more pass.each,
  above_from (letters_of edges) c more pass.ascending,
)

-- a number behind the edges, of which there are more
behind_by : (i many : ℕ) → i < many → many ≡ i + suc (many - (i + 1))
behind_by i many less = omega (arith, less)

-- what passes as edges passes as the next edge
pub edge_from_edges : (n many : ℕ) (edges : List Edge) (numbers : List ℕ) →
    length edges < many → PassAsEdges n many (written_edges edges ++ numbers) →
    EdgePasses n edges numbers
edge_from_edges n many edges [] less pass = tt
edge_from_edges n many edges (c ∷ []) less pass =
    let m = many - (length edges + 1) in
    letter_next n edges c (take m []) _
    (taken_as edges (c ∷ []) (suc m) n
    (subst (λ k. PassAsEdges n k (written_edges edges ++ c ∷ []))
    (behind_by (length edges) many less) pass))
edge_from_edges n many edges (c ∷ (t ∷ numbers)) less pass =
    let m = many - (length edges + 1) in
    let h = taken_as edges (c ∷ (t ∷ numbers)) (suc m) n
    (subst (λ k. PassAsEdges n k (written_edges edges ++ c ∷ (t ∷ numbers)))
    (behind_by (length edges) many less) pass) in (
      letter_next n edges c (take m (letters_in numbers)) _ h,
      standing (λ target. target < n) (targets_of edges) t (take m (targets_in numbers)) h.below,
    )

module _ (n : ℕ) (edges : List Edge) (passed : ArePassed n edges) where
  with_letter : (c : ℕ) → IsNextLetter edges c →
      EdgesPass n (letters_of edges ++ c ∷ []) (targets_of edges)
  with_letter c next = record {
    each = All-push IsLetter (letters_of edges) c passed.each next.0;
    ascending = increasing_push (letters_of edges) c passed.ascending next.1;
    below = passed.below;
  }

  -- what passes as the next edge, and isn't whole, passes as edges
  pub edges_from_edge : (many : ℕ) (numbers : List ℕ) → length edges < many →
      EdgePasses n edges numbers → length numbers < 2 →
      PassAsEdges n many (written_edges edges ++ numbers)
  edges_from_edge many [] less pass few =
      let m = many - (length edges + 1) in
      subst (λ k. PassAsEdges n k (written_edges edges ++ []))
      (sym (behind_by (length edges) many less))
      (taken_from edges [] (suc m) n
      (subst (λ (l : List ℕ). EdgesPass n l (targets_of edges ++ []))
      (sym (append-nil (letters_of edges)))
      (subst (λ (l : List ℕ). EdgesPass n (letters_of edges) l)
      (sym (append-nil (targets_of edges))) passed)))
  edges_from_edge many (c ∷ []) less pass few =
      let m = many - (length edges + 1) in
      subst (λ k. PassAsEdges n k (written_edges edges ++ c ∷ []))
      (sym (behind_by (length edges) many less))
      (taken_from edges (c ∷ []) (suc m) n
      (subst (λ (l : List ℕ). EdgesPass n (letters_of edges ++ c ∷ l) (targets_of edges ++ []))
      (sym (take_all m [] (omega arith)))
      (subst (λ (l : List ℕ). EdgesPass n (letters_of edges ++ c ∷ []) l)
      (sym (append-nil (targets_of edges))) (with_letter c pass))))
  edges_from_edge many (c ∷ (t ∷ numbers)) less pass few = absurd (omega (arith, few))

  -- one more edge passes behind them
  pub edge_joins : (e : Edge) → EdgePasses n edges (written_edge e) →
      ArePassed n (edges ++ e ∷ [])
  edge_joins e pass =
      let more = with_letter e.letter pass.0 in
      subst (λ (l : List ℕ). EdgesPass n l (targets_of (edges ++ e ∷ [])))
      (sym (map_push (λ (d : Edge). d.letter) edges e))
      (subst (λ (l : List ℕ). EdgesPass n (letters_of edges ++ e.letter ∷ []) l)
      (sym (map_push (λ (d : Edge). d.target) edges e))
      (record {
        each = more.each;
        ascending = more.ascending;
        below = All-push (λ target. target < n) (targets_of edges) e.target passed.below pass.1;
      }))

  -- in the end they pass as so many
  pub edges_end : (many : ℕ) → length edges ≡ many → PassAsEdges n many (written_edges edges)
  edges_end many same =
      let whole : length edges + 0 ≡ many = omega (arith, same) in
      subst (λ k. PassAsEdges n k (written_edges edges)) whole
      (subst (λ (l : List ℕ). PassAsEdges n (length edges + 0) l)
      (append-nil (written_edges edges))
      (taken_from edges [] 0 n
      (subst (λ (l : List ℕ). EdgesPass n l (targets_of edges ++ []))
      (sym (append-nil (letters_of edges)))
      (subst (λ (l : List ℕ). EdgesPass n (letters_of edges) l)
      (sym (append-nil (targets_of edges))) passed))))

-- edges whose numbers pass, pass
pub edges_back : (n : ℕ) (edges : List Edge) (numbers : List ℕ) →
    PassAsEdges n (length edges) (written_edges edges ++ numbers) → ArePassed n edges
edges_back n edges numbers pass =
    let none : length edges ≡ length edges + 0 = omega arith in
    let h = taken_as edges numbers 0 n
    (subst (λ k. PassAsEdges n k (written_edges edges ++ numbers)) none pass) in
    subst (λ (l : List ℕ). EdgesPass n l (targets_of edges)) (append-nil (letters_of edges))
    (subst (λ (l : List ℕ). EdgesPass n (letters_of edges ++ []) l) (append-nil (targets_of edges))
    h)

-- the last letter tells of all
pub above_last : (edges : List Edge) (e : Edge) (c : ℕ) →
    slice_get edges (length edges - 1) ≡ Some e →
    (e.letter < c → IsAbove (letters_of edges) c) × (IsAbove (letters_of edges) c → e.letter < c)
above_last edges e c last =
    let i = length edges - 1 in
    let some = slice_get_within edges i e last in
    let long = length-map edges (λ (d : Edge). d.letter) in
    let is : get_or (letters_of edges) i 0 ≡ e.letter =
    get_or-map (λ (d : Edge). d.letter) edges i e 0 (omega (arith, some))
    ∙ ap (λ (d : Edge). d.letter) (get_or_from_slice_get edges i e e last) in (
      λ less k at.
          let same : k ≡ i = omega (arith, at, long) in
          subst (λ j. get_or (letters_of edges) j 0 < c) (sym same)
          (subst (λ v. v < c) (sym is) less),
      λ above. subst (λ v. v < c) is (above i (omega (arith, long, some))),
    )

pub written_edges-push : (edges : List Edge) (e : Edge) →
    written_edges (edges ++ e ∷ []) ≡ written_edges edges ++ written_edge e
written_edges-push edges e =
    flat_map-append written_edge edges (e ∷ [])
    ∙ ap (λ (l : List ℕ). written_edges edges ++ l) (append-nil (written_edge e))

-- a cursor that moved twice
pub passes_on : (old mid new : Cursor) (xs ys : List ℕ) → Passes old mid xs → Passes mid new ys →
    Passes old new (xs ++ ys)
passes_on old mid new xs ys first then = record {
  same = then.same ∙ first.same;
  past = first.past ∙ ap (λ (l : List ℕ). xs ++ l) then.past
      ∙ sym (append_assoc xs ys (numbers_left new));
  place = let long = length-append xs ys in
      let one = first.place in let two = then.place in omega (arith, long, one, two);
}

-- one more edge is read
pub edges_more : (n i : ℕ) (old mid new : Cursor) (edges more : List Edge) (e : Edge) →
    ReadsEdges n i old mid edges → Passes mid new (written_edge e) →
    EdgePasses n edges (written_edge e) → more ≡ edges ++ e ∷ [] → ReadsEdges n (i + 1) old new more
edges_more n i old mid new edges more e reads moves pass is =
    subst (λ (l : List Edge). ReadsEdges n (i + 1) old new l) (sym is) (record {
      read = subst (Passes old new) (sym (written_edges-push edges e))
          (passes_on old mid new (written_edges edges) (written_edge e) reads.read moves);
      many_are = let many = reads.many_are in let long = length_push edges e in
          omega (arith, many, long);
      passed = edge_joins n edges reads.passed e pass;
    })

-- the edge behind them isn't read, and so they aren't
pub edges_stop : (n many i offset : ℕ) (error : ImageError) (old mid : Cursor) (edges : List Edge) →
    ReadsEdges n i old mid edges → i < many →
    Stops (EdgePasses n edges (numbers_left mid)) (2 ≤ length (numbers_left mid)) offset error →
    Stops (PassAsEdges n many (numbers_left old)) (2 * many ≤ length (numbers_left old)) offset error
edges_stop n many i offset error old mid edges reads less stops =
    let numbers = numbers_left mid in
    let are = reads.many_are in
    let long = length-append (written_edges edges) numbers in
    let twice = length-written_edges edges in
    subst (λ (l : List ℕ). Stops (PassAsEdges n many l) (2 * many ≤ length l) offset error)
    (sym reads.read.past)
    (Stops-from error (EdgePasses n edges numbers) (2 ≤ length numbers)
    (PassAsEdges n many (written_edges edges ++ numbers))
    (2 * many ≤ length (written_edges edges ++ numbers)) offset stops
    (λ pass part. edges_from_edge n edges reads.passed many numbers (omega (arith, are, less)) pass
    (few (length numbers) part))
    (λ pass. edge_from_edges n many edges numbers (omega (arith, are, less)) pass)
    (λ whole. omega (arith, whole, long, twice, are, less)))
  where
    few : (k : ℕ) → (2 ≤ k → ⊥) → k < 2
    few k part = omega (arith, part)

-- edges that pass, pass whatever stands behind them
pub passed_before : (n : ℕ) (edges : List Edge) (numbers : List ℕ) → ArePassed n edges →
    PassAsEdges n (length edges) (written_edges edges ++ numbers)
passed_before n edges numbers pass =
    let none : length edges + 0 ≡ length edges = omega arith in
    subst (λ k. PassAsEdges n k (written_edges edges ++ numbers)) none
    (taken_from edges numbers 0 n
    (subst (λ (l : List ℕ). EdgesPass n l (targets_of edges ++ []))
    (sym (append-nil (letters_of edges)))
    (subst (λ (l : List ℕ). EdgesPass n (letters_of edges) l)
    (sym (append-nil (targets_of edges))) pass)))
