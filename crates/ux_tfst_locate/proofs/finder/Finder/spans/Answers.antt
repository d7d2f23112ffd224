use Rattle.std.proofs.Common.{arith, ℕ, ◌<◌, ◌≡◌, ◌∙◌, ◌↔◌, List, Bool, ap, length, map, subst, sym}
use Rattle.std.specs.Prelude.{All, IsTrue, flat_map}
use Rattle.std.proofs.lemmas.Result.{IfOk-weaker}
use Rattle.ux_net.specs.Nets.{net_grammar}
use Rattle.ux_reading_table.specs.declared.numbered.NumberedSentence.{NumberedSentence}
use Rattle.ux_sentence.specs.declared.sentence.Sentence.{Sentence}
use Rattle.ux_sentence.specs.Written.{reading_text}
use Rattle.ux_tfst_locate.specs.declared.lattice.Lattice.{Lattice}
use Rattle.ux_tfst_locate.specs.declared.lattice.Place.{Place}
use Rattle.ux_tfst_locate.specs.declared.lattice.SentenceLink.{SentenceLink}
use Rattle.ux_tfst_locate.specs.declared.listing.Stretch.{Stretch}
use Rattle.ux_tfst_locate.specs.declared.span.Span.{Span}
use Rattle.ux_tfst_locate.specs.Lattices.{IsLattice, rows_of}
use Rattle.ux_tfst_locate.specs.Listing.{span_of}
use Rattle.ux_tfst_locate.specs.Reaching.{IsLeading, IsReached, is_marked}
use Rattle.ux_tfst_locate.specs.Sought.{AreTold, Sought, links_of}
use Rattle.ux_tfst_locate.specs.Spans.{AreSpans}
use Rattle.ux_tfst_locate.proofs.AheadLemmas.{arcs_ahead}
use Rattle.ux_tfst_locate.proofs.BasisLemmas.{goes_ahead}
use Rattle.ux_tfst_locate.proofs.SpansLemmas.{are_spans, from_inside, to_inside}
use Rattle.ux_tfst_locate.proofs.finder.Finder.spans.Goals as goal

-- the lattice is that of the sentences' links
lattice_of : (links slice : List SentenceLink) (numbered : List NumberedSentence)
    (lattice : Lattice) → slice ≡ links → links ≡ flat_map links_of numbered →
    IsLattice slice lattice → IsLattice (flat_map links_of numbered) lattice
lattice_of links slice numbered lattice same is has =
    subst (λ (l : List SentenceLink). IsLattice l lattice) (same ∙ is) has

-- what is told by the texts of the readings
told_by : (self : Sought) (texts : List (List ℕ)) (old : List Sentence)
    (numbered : List NumberedSentence) → texts ≡ self.texts → AreTold self.texts old numbered →
    AreTold texts old numbered
told_by self texts old numbered same told =
    subst (λ (ts : List (List ℕ)). AreTold ts old numbered) (sym same) told

pub fill-requires-clause-ahead : goal.fill-requires-clause-ahead
fill-requires-clause-ahead c =
    let readings = c.self.inside.readings in
    let numbered = c.args.sentences.now in
    let lattice = c.in_ok-lattice.lattice in
    let is = lattice_of c.in_ok-links.links.items c.as_slice.result.now numbered lattice
    c.as_slice.ensures.value c.in_ok-links.ensures c.in_ok-lattice.ensures in
    let told = told_by c.args.self.now (map reading_text readings) c.requires.0 numbered
    (ap (λ (s : Sought). s.texts) c.self.view_is) c.requires.1 in
    goes_ahead c.self.inside.alphabet.now readings (rows_of lattice) (length lattice.places.items)
    (arcs_ahead readings c.self.invariant.1 c.requires.0 numbered told lattice is)

pub fill-requires-clause-serves : goal.fill-requires-clause-serves
fill-requires-clause-serves c =
    let readings = c.self.inside.readings in
    let numbered = c.args.sentences.now in
    let lattice = c.in_ok-lattice.lattice in
    let is = lattice_of c.in_ok-links.links.items c.as_slice.result.now numbered lattice
    c.as_slice.ensures.value c.in_ok-links.ensures c.in_ok-lattice.ensures in
    let told = told_by c.args.self.now (map reading_text readings) c.requires.0 numbered
    (ap (λ (s : Sought). s.texts) c.self.view_is) c.requires.1 in (
      c.self.invariant.0.parts,
      goes_ahead c.self.inside.alphabet.now readings (rows_of lattice) (length lattice.places.items)
          (arcs_ahead readings c.self.invariant.1 c.requires.0 numbered told lattice is),
    )

pub reached-requires : goal.reached-requires
reached-requires c =
    let readings = c.self.inside.readings in
    let numbered = c.args.sentences.now in
    let lattice = c.in_ok-lattice.lattice in
    let is = lattice_of c.in_ok-links.links.items c.as_slice.result.now numbered lattice
    c.as_slice.ensures.value c.in_ok-links.ensures c.in_ok-lattice.ensures in
    let told = told_by c.args.self.now (map reading_text readings) c.requires.0 numbered
    (ap (λ (s : Sought). s.texts) c.self.view_is) c.requires.1 in
    record { ahead = arcs_ahead readings c.self.invariant.1 c.requires.0 numbered told lattice is }

pub leading-requires : goal.leading-requires
leading-requires c =
    let readings = c.self.inside.readings in
    let numbered = c.args.sentences.now in
    let lattice = c.in_ok-lattice.lattice in
    let is = lattice_of c.in_ok-links.links.items c.as_slice.result.now numbered lattice
    c.as_slice.ensures.value c.in_ok-links.ensures c.in_ok-lattice.ensures in
    let told = told_by c.args.self.now (map reading_text readings) c.requires.0 numbered
    (ap (λ (s : Sought). s.texts) c.self.view_is) c.requires.1 in
    record { ahead = arcs_ahead readings c.self.invariant.1 c.requires.0 numbered told lattice is }

pub stretches-requires-clause-count : goal.stretches-requires-clause-count
stretches-requires-clause-count c =
    let same = ap (λ (ms : List Bool). length ms) c.as_slice-2.ensures.value in
    let marks = c.in_ok-reached.ensures.count in
    omega (arith, same, marks)

-- where stretches begin and end, told by the slices that are handed on
pub spans_of-requires-clause-from : goal.spans_of-requires-clause-from
spans_of-requires-clause-from c =
    let readings = c.self.inside.readings in
    let numbered = c.args.sentences.now in
    let lattice = c.in_ok-lattice.lattice in
    let is = lattice_of c.in_ok-links.links.items c.as_slice.result.now numbered lattice
    c.as_slice.ensures.value c.in_ok-links.ensures c.in_ok-lattice.ensures in
    let told = told_by c.args.self.now (map reading_text readings) c.requires.0 numbered
    (ap (λ (s : Sought). s.texts) c.self.view_is) c.requires.1 in
    let parts = c.self.invariant.0.parts in
    subst (λ (ps : List Place). All (λ (s : Stretch). s.from < length ps) c.as_slice-5.result.now)
    (sym c.as_slice-4.ensures.value)
    (subst (λ (ss : List Stretch). All (λ (s : Stretch). s.from < length lattice.places.items) ss)
    (sym c.as_slice-5.ensures.value)
    (from_inside c.self.inside.alphabet.now c.self.inside.net.now parts.level
    c.self.inside.prepared.parts.levels parts.levels readings c.self.invariant.1 c.requires.0 numbered told
    lattice is c.as_slice-2.result.now c.as_slice-3.result.now
    (subst (λ (ms : List Bool). (i : ℕ) → IsTrue (is_marked ms i)
    ↔ IsReached lattice.places.items (rows_of lattice) i) (sym c.as_slice-2.ensures.value)
    c.in_ok-reached.ensures.marks)
    (subst (λ (ms : List Bool). (i : ℕ) → IsTrue (is_marked ms i)
    ↔ IsLeading lattice.places.items (rows_of lattice) i) (sym c.as_slice-3.ensures.value)
    c.in_ok-leading.ensures) c.in_ok-found.found.items c.in_ok-found.ensures))

pub spans_of-requires-clause-to : goal.spans_of-requires-clause-to
spans_of-requires-clause-to c =
    let readings = c.self.inside.readings in
    let numbered = c.args.sentences.now in
    let lattice = c.in_ok-lattice.lattice in
    let is = lattice_of c.in_ok-links.links.items c.as_slice.result.now numbered lattice
    c.as_slice.ensures.value c.in_ok-links.ensures c.in_ok-lattice.ensures in
    let told = told_by c.args.self.now (map reading_text readings) c.requires.0 numbered
    (ap (λ (s : Sought). s.texts) c.self.view_is) c.requires.1 in
    let parts = c.self.invariant.0.parts in
    subst (λ (ps : List Place). All (λ (s : Stretch). s.to < length ps) c.as_slice-5.result.now)
    (sym c.as_slice-4.ensures.value)
    (subst (λ (ss : List Stretch). All (λ (s : Stretch). s.to < length lattice.places.items) ss)
    (sym c.as_slice-5.ensures.value)
    (to_inside c.self.inside.alphabet.now c.self.inside.net.now parts.level
    c.self.inside.prepared.parts.levels parts.levels readings c.self.invariant.1 c.requires.0 numbered told
    lattice is c.as_slice-2.result.now c.as_slice-3.result.now
    (subst (λ (ms : List Bool). (i : ℕ) → IsTrue (is_marked ms i)
    ↔ IsReached lattice.places.items (rows_of lattice) i) (sym c.as_slice-2.ensures.value)
    c.in_ok-reached.ensures.marks)
    (subst (λ (ms : List Bool). (i : ℕ) → IsTrue (is_marked ms i)
    ↔ IsLeading lattice.places.items (rows_of lattice) i) (sym c.as_slice-3.ensures.value)
    c.in_ok-leading.ensures) c.in_ok-found.found.items c.in_ok-found.ensures))

pub returns : goal.returns
returns c =
    let readings = c.self.inside.readings in
    let numbered = c.args.sentences.now in
    let lattice = c.in_ok-lattice.lattice in
    let letters = c.self.inside.alphabet.now in
    let net = c.self.inside.net.now in
    let found = c.in_ok-found.found.items in
    let is = lattice_of c.in_ok-links.links.items c.as_slice.result.now numbered lattice
    c.as_slice.ensures.value c.in_ok-links.ensures c.in_ok-lattice.ensures in
    let parts = c.self.invariant.0.parts in
    IfOk-weaker c.spans_of.result _ _ (λ spans listed old told.
    let whole : spans.items ≡ map (span_of lattice.places.items) found =
    listed ∙ (ap (λ (ps : List Place). map (span_of ps) c.as_slice-5.result.now)
    c.as_slice-4.ensures.value
    ∙ ap (λ (ss : List Stretch). map (span_of lattice.places.items) ss) c.as_slice-5.ensures.value)
    in
    subst (λ (s : Sought). AreSpans s.letters (net_grammar s.net) old spans.items) c.self.view_is
    (subst (λ (l : List Span). AreSpans letters (net_grammar net) old l) (sym whole)
    (are_spans letters net parts.level c.self.inside.prepared.parts.levels parts.levels readings
    c.self.invariant.1 old numbered
    (told_by c.args.self.now (map reading_text readings) old numbered
    (ap (λ (s : Sought). s.texts) c.self.view_is) told) lattice is c.as_slice-2.result.now
    c.as_slice-3.result.now
    (subst (λ (ms : List Bool). (i : ℕ) → IsTrue (is_marked ms i)
    ↔ IsReached lattice.places.items (rows_of lattice) i) (sym c.as_slice-2.ensures.value)
    c.in_ok-reached.ensures.marks)
    (subst (λ (ms : List Bool). (i : ℕ) → IsTrue (is_marked ms i)
    ↔ IsLeading lattice.places.items (rows_of lattice) i) (sym c.as_slice-3.ensures.value)
    c.in_ok-leading.ensures) found c.in_ok-found.ensures))) c.spans_of.ensures
