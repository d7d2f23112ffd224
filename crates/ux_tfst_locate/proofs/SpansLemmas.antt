-- What is listed of a lattice are the spans of its sentences.
use Rattle.std.proofs.Common.{arith, ◌≡◌, ℕ, ◌<◌, ◌↔◌, List, [], ◌∷◌, Bool, inl, inr, refl, sym, ◌∙◌, ap, subst, length, get_or}
use Rattle.std.specs.Prelude.{All, Contains, IsTrue, flat_map, map}
use Rattle.std.proofs.lemmas.List.{get_or-map, length-map}
use Rattle.std.proofs.lemmas.List.Elements.{Contains-get_or}
use Rattle.std.proofs.lemmas.Option.{get_or_from_slice_get, same_Some, slice_get_within}
use Rattle.ux_base.proofs.JoinedLists.{contained_mapped, contains_mapped}
use Rattle.ux_base.proofs.Lists.{first_or_later, nothing_in}
use Rattle.ux_alphabet.specs.Letters.{Letters}
use Rattle.ux_net.specs.declared.net_graph.NetGraph.{NetGraph}
use Rattle.ux_net.specs.Levels.{HasLevels}
use Rattle.ux_net.specs.Nets.{net_grammar}
use Rattle.ux_outputs.specs.declared.event.Event.{Event}
use Rattle.ux_meaning.specs.Meaning.{Der}
use Rattle.ux_reading_table.specs.declared.numbered.NumberedSentence.{NumberedSentence}
use Rattle.ux_sentence.specs.declared.sentence.Reading.{Reading}
use Rattle.ux_sentence.specs.declared.sentence.Sentence.{Sentence}
use Rattle.ux_sentence.specs.Written.{reading_text}
use Rattle.ux_tfst_locate.specs.declared.lattice.Lattice.{Lattice}
use Rattle.ux_tfst_locate.specs.declared.lattice.Place.{Place}
use Rattle.ux_tfst_locate.specs.declared.listing.Stretch.{Stretch}
use Rattle.ux_tfst_locate.specs.declared.span.Span.{Span}
use Rattle.ux_tfst_locate.specs.Inputs.{lattice_input, sentence_input}
use Rattle.ux_tfst_locate.specs.Lattices.{IsAt, IsLattice, from_of, rows_of, to_of}
use Rattle.ux_tfst_locate.specs.Listing.{AreListed, ComesFirst, IsFound, place_at, span_of}
use Rattle.ux_tfst_locate.specs.Reaching.{IsLeading, IsReached, is_marked}
use Rattle.ux_tfst_locate.specs.Sought.{AreSpellable, AreTold, links_of}
use Rattle.ux_tfst_locate.specs.Spans.{AreSpans, IsSpanIn, Precedes}
use Rattle.ux_tfst_locate.proofs.LatticeMeanings.{Stands, alike_back, alike_forth, leading_where, place_of, position_of, reached_where}
use Rattle.ux_tfst_locate.proofs.Meanings.{derives_alike, derives_some}
use Rattle.ux_tfst_locate.proofs.PlacesLemmas.{before_state, less_place, state_before}
use Rattle.ux_tfst_locate.proofs.SentencesLemmas.{link_back, one_number}

module _ (letters : Letters) (net : List NetGraph) (level : ℕ → ℕ → ℕ) (top : ℕ)
    (has_levels : HasLevels (net_grammar net) level top) (readings : List Reading)
    (spellable : AreSpellable readings) (sentences : List Sentence)
    (numbered : List NumberedSentence)
    (are : AreTold (map reading_text readings) sentences numbered) (lattice : Lattice)
    (is : IsLattice (flat_map links_of numbered) lattice) (reached leading : List Bool)
    (reached_is : (i : ℕ) → IsTrue (is_marked reached i)
    ↔ IsReached lattice.places.items (rows_of lattice) i)
    (leading_is : (i : ℕ) → IsTrue (is_marked leading i)
    ↔ IsLeading lattice.places.items (rows_of lattice) i) where
  abbrev places : List Place
  places = lattice.places.items

  -- the main graph derives something from a position to a position
  abbrev pub Ends : (from to : ℕ) → Type 0
  Ends from to = (events : List Event)
      × Der (lattice_input letters readings (rows_of lattice)) (net_grammar net) 1 from to events

  abbrev Found : Stretch → Type 0
  Found = IsFound reached leading Ends

  -- a position is that of a state of a sentence
  owner : (i : ℕ) (place : Place) → IsAt places i place → (sentence : Sentence) × (state : ℕ)
      × Contains sentences sentence × (place ≡ place_of sentence state)
  owner i place at =
      let link = is.owned i place at in
      let back = link_back readings spellable sentences numbered are link.0 link.1 in
      let stands = back.4 in
      elim (first_or_later (from_of link.0) (to_of link.0 ∷ []) place link.2) [
        | inl e ↦ (
          back.0,
          link.0.from,
          back.2,
          sym e ∙ (λ k. record {
            sentence = stands.number k;
            state = link.0.from;
            last = stands.last k;
          }),
        )
        | inr later ↦ elim (first_or_later (to_of link.0) [] place later) [
          | inl e ↦ (
            back.0,
            link.0.to,
            back.2,
            sym e ∙ (λ k. record {
              sentence = stands.number k;
              state = link.0.to;
              last = stands.last k;
            }),
          )
          | inr never ↦ absurd (nothing_in never)
        ]
      ]

  -- what is found begins and ends at states of one sentence
  pub record HasStates (stretch : Stretch) : Type 0 where
    pub sentence : Sentence
    pub inside : Contains sentences sentence
    pub from : ℕ
    pub to : ℕ
    pub begins : IsAt places stretch.from (place_of sentence from)
    pub ends : IsAt places stretch.to (place_of sentence to)
    pub derived : (events : List Event)
        × Der (sentence_input letters sentence.links) (net_grammar net) 1 from to events

  marked_inside : (n : ℕ) → IsReached places (rows_of lattice) n →
      (place : Place) × IsAt places n place
  marked_inside n (IsReached.begins (place, at, first)) = (place, at)
  marked_inside n (IsReached.goes_on {i} arc has before) =
      let one = is.arcs.each i arc has in (to_of one.0, one.2.to)

  pub states_of : (stretch : Stretch) → Found stretch → HasStates stretch
  states_of stretch found =
      let at = marked_inside stretch.from ((reached_is stretch.from).0 found.is_reached) in
      let of = owner stretch.from at.0 at.1 in
      let begins = subst (λ (p : Place). IsAt places stretch.from p) of.3 at.1 in
      let sentence = of.0 in
      let der = found.ends in
      let forth = alike_forth letters readings spellable sentences numbered are lattice is sentence of.2
      in
      let back = alike_back letters readings spellable sentences numbered are lattice is sentence of.2
      in
      let over = derives_alike (net_grammar net)
      (lattice_input letters readings (rows_of lattice))
      (sentence_input letters sentence.links)
      (λ i p. Stands letters readings spellable sentences numbered are lattice is sentence of.2 p i)
      back forth level top has_levels 1 stretch.from stretch.to of.1 der.0 begins der.1 in
      record {
        sentence = sentence;
        inside = of.2;
        from = of.1;
        to = over.0;
        begins = begins;
        ends = over.1;
        derived = (over.2, over.3);
      }

  -- the span of a stretch, by the states where it begins and ends
  abbrev named : (sentence : Sentence) (from to : ℕ) → Span
  named sentence from to = record { sentence = sentence.number; from = from; to = to }

  span_is : (stretch : Stretch) (sentence : Sentence) (from to : ℕ) →
      IsAt places stretch.from (place_of sentence from) →
      IsAt places stretch.to (place_of sentence to) →
      span_of places stretch ≡ named sentence from to
  span_is stretch sentence from to begins ends =
      let one : place_at places stretch.from ≡ place_of sentence from =
      get_or_from_slice_get places stretch.from (place_of sentence from) _ begins in
      let other : place_at places stretch.to ≡ place_of sentence to =
      get_or_from_slice_get places stretch.to (place_of sentence to) _ ends in
      λ k. record { sentence = (one k).sentence; from = (one k).state; to = (other k).state }

  -- a stretch that is found is a span
  is_span : (stretch : Stretch) → Found stretch → IsSpanIn letters (net_grammar net) sentences (span_of places stretch)
  is_span stretch found =
      let h = states_of stretch found in
      let whole : IsSpanIn letters (net_grammar net) sentences (named h.sentence h.from h.to) = (
        h.sentence,
        h.inside,
        refl,
        record {
          some = state_before places is.rising stretch.from stretch.to (place_of h.sentence h.from)
              (place_of h.sentence h.to) h.begins h.ends refl refl found.some;
          derived = h.derived;
          reached = (reached_where letters readings spellable sentences numbered are lattice is
              h.sentence h.inside stretch.from h.from h.begins).0
              ((reached_is stretch.from).0 found.is_reached);
          leads = (leading_where letters readings spellable sentences numbered are lattice is
              h.sentence h.inside stretch.to h.to h.ends).0
              ((leading_is stretch.to).0 found.is_leading);
        },
      ) in
      subst (IsSpanIn letters (net_grammar net) sentences)
      (sym (span_is stretch h.sentence h.from h.to h.begins h.ends)) whole

  -- and a span is found
  is_found : (span : Span) → IsSpanIn letters (net_grammar net) sentences span →
      (stretch : Stretch) × Found stretch × (span_of places stretch ≡ span)
  is_found span (sentence, inside, number, spans) =
      elim (derives_some (net_grammar net) (sentence_input letters sentence.links) 1 span.from span.to
      spans.derived.0 spans.derived.1) [
        | inl same ↦ let some = spans.some in absurd (omega (arith, same, some))
        | inr (x, q, (link, has, from, to, matches)) ↦
            let at = position_of letters readings spellable sentences numbered are lattice is sentence
            inside link has in
            let begins = subst (λ n. IsAt places at.0 (place_of sentence n)) from at.1 in
            let forth = alike_forth letters readings spellable sentences numbered are lattice is
            sentence inside in
            let back = alike_back letters readings spellable sentences numbered are lattice is
            sentence inside in
            let over = derives_alike (net_grammar net) (sentence_input letters sentence.links)
            (lattice_input letters readings (rows_of lattice))
            (Stands letters readings spellable sentences numbered are lattice is sentence inside)
            forth back level top has_levels 1 span.from span.to at.0 spans.derived.0 begins
            spans.derived.1 in
            let stretch : Stretch = record { from = at.0; to = over.0 } in (
              stretch,
              record {
                some = before_state places is.rising at.0 over.0 (place_of sentence span.from)
                    (place_of sentence span.to) begins over.1 refl refl spans.some;
                is_reached = (reached_is at.0).1 ((reached_where letters readings spellable sentences
                    numbered are lattice is sentence inside at.0 span.from begins).1 spans.reached);
                is_leading = (leading_is over.0).1 ((leading_where letters readings spellable sentences
                    numbered are lattice is sentence inside over.0 span.to over.1).1 spans.leads);
                ends = (over.2, over.3);
              },
              span_is stretch sentence span.from span.to begins over.1
                  ∙ ap (λ n. record { sentence = n; from = span.from; to = span.to }) number,
            )
      ]

  -- stretches in order are spans in order
  precedes : (one other : Stretch) → Found one → Found other → ComesFirst one other →
      Precedes (span_of places one) (span_of places other)
  precedes one other found also first =
      let h = states_of one found in
      let k = states_of other also in
      subst (λ (s : Span). Precedes s (span_of places other))
      (sym (span_is one h.sentence h.from h.to h.begins h.ends))
      (subst (λ (s : Span). Precedes (named h.sentence h.from h.to) s)
      (sym (span_is other k.sentence k.from k.to k.begins k.ends)) (elim first [
        | inl earlier ↦ elim (less_place (place_of h.sentence h.from) (place_of k.sentence k.from)
            (is.rising one.from other.from (place_of h.sentence h.from) (place_of k.sentence k.from)
            earlier h.begins k.begins)) [
              | inl low ↦ inl low
              | inr rest ↦ inr (
                rest.0,
                elim rest.1 [
                  | inl low ↦ inl low
                  | inr last ↦ absurd (let no = last_same h k rest.0 in let low = last.1 in
                      omega (arith, no, low))
                ],
              )
            ]
        | inr (same, later) ↦
            let e : place_of h.sentence h.from ≡ place_of k.sentence k.from =
            same_Some (place_of h.sentence h.from) (place_of k.sentence k.from) (sym h.begins
            ∙ subst (λ n. IsAt places n (place_of k.sentence k.from)) (sym same) k.begins) in inr (
              ap (λ (p : Place). p.sentence) e,
              inr (
                ap (λ (p : Place). p.state) e,
                state_before places is.rising one.to other.to (place_of h.sentence h.to)
                    (place_of k.sentence k.to) h.ends k.ends (ap (λ (p : Place). p.sentence) e)
                    (ap (λ (p : Place). p.last) e) later,
              ),
            )
      ]))
    where
      last_same : {one other : Stretch} (h : HasStates one) (k : HasStates other) →
          h.sentence.number ≡ k.sentence.number →
          (place_of h.sentence h.from).last ≡ (place_of k.sentence k.from).last
      last_same h k number =
          ap (λ (s : Sentence). (place_of s 0).last)
          (one_number are.first sentences h.sentence k.sentence are.in_order h.inside k.inside number)

  pub are_spans : (stretches : List Stretch) → AreListed Found stretches →
      AreSpans letters (net_grammar net) sentences (map (span_of places) stretches)
  are_spans stretches listed = record {
    ascend = λ i j d less inside.
        let long = length-map stretches (span_of places) in
        let within : j < length stretches = omega (arith, inside, long) in
        let first : i < length stretches = omega (arith, less, within) in
        let none : Stretch = record { from = 0; to = 0 } in
        let one = get_or stretches i none in
        let other = get_or stretches j none in
        subst (λ (s : Span). Precedes s (get_or (map (span_of places) stretches) j d))
        (sym (get_or-map (span_of places) stretches i none d first))
        (subst (λ (s : Span). Precedes (span_of places one) s)
        (sym (get_or-map (span_of places) stretches j none d within))
        (precedes one other ((listed.exact one).0 (Contains-get_or stretches i none first))
        ((listed.exact other).0 (Contains-get_or stretches j none within))
        (listed.ascend i j none less within)));
    exact = λ span. (
      λ has.
          let one = contained_mapped (span_of places) stretches span has in
          subst (IsSpanIn letters (net_grammar net) sentences) one.2 (is_span one.0 ((listed.exact one.0).0 one.1)),
      λ span_in.
          let one = is_found span span_in in
          subst (λ (s : Span). Contains (map (span_of places) stretches) s) one.2
          (contains_mapped (span_of places) stretches one.0 ((listed.exact one.0).1 one.1)),
    );
  }

  -- and all begin and end inside
  pub from_inside : (stretches : List Stretch) → AreListed Found stretches →
      All (λ (stretch : Stretch). stretch.from < length places) stretches
  from_inside stretches listed k d less =
      let one = get_or stretches k d in
      let h = states_of one ((listed.exact one).0 (Contains-get_or stretches k d less)) in
      slice_get_within places one.from (place_of h.sentence h.from) h.begins

  pub to_inside : (stretches : List Stretch) → AreListed Found stretches →
      All (λ (stretch : Stretch). stretch.to < length places) stretches
  to_inside stretches listed k d less =
      let one = get_or stretches k d in
      let h = states_of one ((listed.exact one).0 (Contains-get_or stretches k d less)) in
      slice_get_within places one.to (place_of h.sentence h.to) h.ends
