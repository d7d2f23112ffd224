-- Sentences and their lattice: a derivation over a sentence is one over its positions, and a path of
-- links is one of arcs.
use Rattle.std.proofs.Common.{◌≡◌, ℕ, ◌↔◌, ◌⊎◌, List, [], ◌∷◌, ◌++◌, inl, inr, refl, sym, ◌∙◌, ap, subst}
use Rattle.std.specs.Prelude.{Contains, Some, flat_map, map, slice_get}
use Rattle.std.proofs.lemmas.Option.{same_Some}
use Rattle.ux_alphabet.specs.Letters.{Letters}
use Rattle.ux_reading_match.specs.Matching.{Matches}
use Rattle.ux_reading_table.specs.declared.numbered.NumberedSentence.{NumberedSentence}
use Rattle.ux_sentence.specs.declared.sentence.Link.{Link}
use Rattle.ux_sentence.specs.declared.sentence.Reading.{Reading}
use Rattle.ux_sentence.specs.declared.sentence.Sentence.{Sentence}
use Rattle.ux_sentence.specs.Paths.{IsPath, last_of}
use Rattle.ux_sentence.specs.Written.{reading_text}
use Rattle.ux_tfst_locate.specs.declared.lattice.Arc.{Arc}
use Rattle.ux_tfst_locate.specs.declared.lattice.Lattice.{Lattice}
use Rattle.ux_tfst_locate.specs.declared.lattice.Place.{Place}
use Rattle.ux_tfst_locate.specs.Inputs.{lattice_input, sentence_input}
use Rattle.ux_tfst_locate.specs.Lattices.{IsAt, IsLattice, from_of, row_at, rows_of, to_of}
use Rattle.ux_tfst_locate.specs.Reaching.{IsLeading, IsReached}
use Rattle.ux_tfst_locate.specs.Sought.{AreSpellable, AreTold, links_of}
use Rattle.ux_tfst_locate.specs.Spans.{Leads}
use Rattle.ux_tfst_locate.proofs.Meanings.{IsAlike}
use Rattle.ux_tfst_locate.proofs.PlacesLemmas.{at_once}
use Rattle.ux_tfst_locate.proofs.SentencesLemmas.{StandsFor, link_back, link_forth, one_number}

-- a state of a sentence as a place
abbrev pub place_of : Sentence → (state : ℕ) → Place
place_of sentence state =
    record { sentence = sentence.number; state = state; last = last_of sentence }

-- a link behind a path
path_more : (links path : List Link) (from middle : ℕ) (link : Link) → IsPath links from middle path →
    Contains links link → link.from ≡ middle → IsPath links from link.to (path ++ link ∷ [])
path_more links [] from middle link is has at = (has, at ∙ sym is, refl)
path_more links (first ∷ path) from middle link is has at =
    (is.0, is.1, path_more links path first.to middle link is.2 has at)

module _ (letters : Letters) (readings : List Reading) (spellable : AreSpellable readings)
    (sentences : List Sentence) (numbered : List NumberedSentence)
    (are : AreTold (map reading_text readings) sentences numbered) (lattice : Lattice)
    (is : IsLattice (flat_map links_of numbered) lattice) (sentence : Sentence)
    (inside : Contains sentences sentence) where
  -- the position stands for a state of the sentence
  abbrev pub Stands : (state position : ℕ) → Type 0
  Stands p i = IsAt lattice.places.items i (place_of sentence p)

  -- a link of the sentence is an arc from the position of its state
  arc_of : (link : Link) → Contains sentence.links link → (i : ℕ) × (arc : Arc)
      × Contains (row_at (rows_of lattice) i) arc × Stands link.from i × Stands link.to arc.to
      × (slice_get readings arc.reading ≡ Some link.reading)
  arc_of link has =
      let told = link_forth readings spellable sentences numbered are sentence link inside has in
      let one = is.arcs.all told.0 told.1 in
      let stands = told.2 in
      let from : from_of told.0 ≡ place_of sentence link.from =
      λ k. record { sentence = stands.number k; state = stands.from k; last = stands.last k } in
      let to : to_of told.0 ≡ place_of sentence link.to =
      λ k. record { sentence = stands.number k; state = stands.to k; last = stands.last k } in (
        one.0,
        one.1,
        one.2,
        subst (λ (p : Place). IsAt lattice.places.items one.0 p) from one.3.from,
        subst (λ (p : Place). IsAt lattice.places.items one.1.to p) to one.3.to,
        subst (λ n. slice_get readings n ≡ Some link.reading) (sym one.3.reading) stands.reading,
      )

  -- an arc from a position of the sentence, or to one, is a link of it
  link_of_arc : (i : ℕ) (arc : Arc) → Contains (row_at (rows_of lattice) i) arc →
      ((p : ℕ) × Stands p i) ⊎ ((p : ℕ) × Stands p arc.to) → (link : Link)
      × Contains sentence.links link × Stands link.from i × Stands link.to arc.to
      × (slice_get readings arc.reading ≡ Some link.reading)
  link_of_arc i arc has at =
      let one = is.arcs.each i arc has in
      let back = link_back readings spellable sentences numbered are one.0 one.1 in
      let stands = back.4 in
      let number : back.0.number ≡ sentence.number = sym stands.number ∙ elim at [
        | inl (p, there) ↦ ap (λ (x : Place). x.sentence)
            (same_Some (from_of one.0) (place_of sentence p) (sym one.2.from ∙ there))
        | inr (p, there) ↦ ap (λ (x : Place). x.sentence)
            (same_Some (to_of one.0) (place_of sentence p) (sym one.2.to ∙ there))
      ] in
      let same : back.0 ≡ sentence =
      one_number are.first sentences back.0 sentence are.in_order back.2 inside number in
      let stood : StandsFor readings sentence back.1 one.0 =
      subst (λ (s : Sentence). StandsFor readings s back.1 one.0) same stands in
      let from : from_of one.0 ≡ place_of sentence back.1.from =
      λ k. record { sentence = stood.number k; state = stood.from k; last = stood.last k } in
      let to : to_of one.0 ≡ place_of sentence back.1.to =
      λ k. record { sentence = stood.number k; state = stood.to k; last = stood.last k } in (
        back.1,
        subst (λ (s : Sentence). Contains s.links back.1) same back.3,
        subst (λ (p : Place). IsAt lattice.places.items i p) from one.2.from,
        subst (λ (p : Place). IsAt lattice.places.items arc.to p) to one.2.to,
        subst (λ n. slice_get readings n ≡ Some back.1.reading) (sym one.2.reading) stood.reading,
      )

  same_state : (p q i : ℕ) → Stands p i → Stands q i → p ≡ q
  same_state p q i here there =
      ap (λ (x : Place). x.state) (same_Some (place_of sentence p) (place_of sentence q)
      (sym here ∙ there))

  once : (p q i j : ℕ) → Stands p i → Stands q j → p ≡ q → i ≡ j
  once p q i j here there e =
      at_once lattice.places.items is.rising i j (place_of sentence q)
      (subst (λ n. Stands n i) e here) there

  -- what a label takes from a state it takes from the position
  pub alike_forth : IsAlike (sentence_input letters sentence.links)
      (lattice_input letters readings (rows_of lattice)) Stands
  alike_forth = record {
    over = λ x p k i here (link, has, from, to, matches).
        let one = arc_of link has in
        let e : one.0 ≡ i = once link.from p one.0 i one.3 here from in (
          one.1.to,
          subst (λ n. Stands n one.1.to) to one.4,
          (
            one.1,
            subst (λ n. Contains (row_at (rows_of lattice) n) one.1) e one.2,
            refl,
            (link.reading, one.5, matches),
          ),
        );
    unspaced = λ p i here never space. space;
  }

  -- and the other way round
  pub alike_back : IsAlike (lattice_input letters readings (rows_of lattice))
      (sentence_input letters sentence.links) (λ i p. Stands p i)
  alike_back = record {
    over = λ x i j p here (arc, has, to, (reading, at, matches)).
        let one = link_of_arc i arc has (inl (p, here)) in (
          one.0.to,
          subst (λ n. Stands one.0.to n) to one.3,
          (
            one.0,
            one.1,
            same_state one.0.from p i one.2 here,
            refl,
            subst (λ (r : Reading). Matches letters x r)
                (same_Some reading one.0.reading (sym at ∙ one.4)) matches,
          ),
        );
    unspaced = λ i p here never space. space;
  }

  -- a position is reached where links lead to its state
  reached_forth : (j : ℕ) → IsReached lattice.places.items (rows_of lattice) j → (p : ℕ) → Stands p j →
      Leads sentence.links 0 p
  reached_forth j (IsReached.begins (place, at, first)) p here =
      let e : place ≡ place_of sentence p = same_Some place (place_of sentence p) (sym at ∙ here) in
      ([], sym first ∙ ap (λ (x : Place). x.state) e)
  reached_forth j (IsReached.goes_on {i} arc has before) p here =
      let one = link_of_arc i arc has (inr (p, here)) in
      let path = reached_forth i before one.0.from one.2 in (
        path.0 ++ one.0 ∷ [],
        subst (λ n. IsPath sentence.links 0 n (path.0 ++ one.0 ∷ []))
            (same_state one.0.to p arc.to one.3 here)
            (path_more sentence.links path.0 0 one.0.from one.0 path.1 one.1 refl),
      )

  reached_along : (path : List Link) (q p iq i : ℕ) → IsPath sentence.links q p path → Stands q iq →
      IsReached lattice.places.items (rows_of lattice) iq → Stands p i →
      IsReached lattice.places.items (rows_of lattice) i
  reached_along [] q p iq i is_path there reached here =
      subst (IsReached lattice.places.items (rows_of lattice)) (once q p iq i there here is_path)
      reached
  reached_along (link ∷ path) q p iq i is_path there reached here =
      let one = arc_of link is_path.0 in
      let e : one.0 ≡ iq = once link.from q one.0 iq one.3 there is_path.1 in
      reached_along path link.to p one.1.to i is_path.2 one.4
      (IsReached.goes_on one.1 one.2
      (subst (IsReached lattice.places.items (rows_of lattice)) (sym e) reached)) here

  pub reached_where : (i p : ℕ) → Stands p i →
      IsReached lattice.places.items (rows_of lattice) i ↔ Leads sentence.links 0 p
  reached_where i p here = (
    λ reached. reached_forth i reached p here,
    λ (path, is_path). from_first path is_path,
  )
    where
      from_first : (path : List Link) → IsPath sentence.links 0 p path →
          IsReached lattice.places.items (rows_of lattice) i
      from_first [] is_path = IsReached.begins (place_of sentence p, here, sym is_path)
      from_first (link ∷ path) is_path =
          let one = arc_of link is_path.0 in
          reached_along (link ∷ path) link.from p one.0 i (is_path.0, refl, is_path.2) one.3
          (IsReached.begins (place_of sentence link.from, one.3, is_path.1)) here

  -- and it leads on where they lead from there to the last state
  leading_forth : (j : ℕ) → IsLeading lattice.places.items (rows_of lattice) j → (p : ℕ) → Stands p j →
      Leads sentence.links p (last_of sentence)
  leading_forth j (IsLeading.ends (place, at, last)) p here =
      let e : place ≡ place_of sentence p = same_Some place (place_of sentence p) (sym at ∙ here) in
      ([], sym (ap (λ (x : Place). x.state) e) ∙ (last ∙ ap (λ (x : Place). x.last) e))
  leading_forth j (IsLeading.leads_on arc has later) p here =
      let one = link_of_arc j arc has (inl (p, here)) in
      let path = leading_forth arc.to later one.0.to one.3 in
      (one.0 ∷ path.0, (one.1, same_state one.0.from p j one.2 here, path.1))

  leading_back : (path : List Link) (p i : ℕ) → IsPath sentence.links p (last_of sentence) path →
      Stands p i → IsLeading lattice.places.items (rows_of lattice) i
  leading_back [] p i is_path here = IsLeading.ends (place_of sentence p, here, is_path)
  leading_back (link ∷ path) p i is_path here =
      let one = arc_of link is_path.0 in
      let e : one.0 ≡ i = once link.from p one.0 i one.3 here is_path.1 in
      IsLeading.leads_on one.1 (subst (λ n. Contains (row_at (rows_of lattice) n) one.1) e one.2)
      (leading_back path link.to one.1.to is_path.2 one.4)

  pub leading_where : (i p : ℕ) → Stands p i →
      IsLeading lattice.places.items (rows_of lattice) i ↔ Leads sentence.links p (last_of sentence)
  leading_where i p here =
      (λ leading. leading_forth i leading p here, λ path. leading_back path.0 p i path.1 here)

  -- the state from which a link leads has a position
  pub position_of : (link : Link) → Contains sentence.links link → (i : ℕ) × Stands link.from i
  position_of link has = let one = arc_of link has in (one.0, one.3)
