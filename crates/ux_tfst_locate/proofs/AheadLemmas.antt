-- The arcs of a lattice lead ahead, since the links of sentences lead to greater states.
use Rattle.std.proofs.Common.{arith, ◌<◌, List, inl, inr, refl, subst, length}
use Rattle.std.specs.Prelude.{Contains, flat_map, map}
use Rattle.std.proofs.lemmas.List.Elements.{All-contains}
use Rattle.std.proofs.lemmas.Option.{slice_get_within}
use Rattle.ux_base.proofs.Lists.{nothing_in}
use Rattle.ux_reading_table.specs.declared.numbered.NumberedSentence.{NumberedSentence}
use Rattle.ux_sentence.specs.declared.sentence.Link.{Link}
use Rattle.ux_sentence.specs.declared.sentence.Reading.{Reading}
use Rattle.ux_sentence.specs.declared.sentence.Sentence.{Sentence}
use Rattle.ux_sentence.specs.Paths.{IsWellFormed, LeadsOn}
use Rattle.ux_sentence.specs.Valid.{IsWritable}
use Rattle.ux_sentence.specs.Written.{reading_text}
use Rattle.ux_tfst_locate.specs.declared.lattice.Lattice.{Lattice}
use Rattle.ux_tfst_locate.specs.Lattices.{IsLattice, from_of, rows_of, to_of}
use Rattle.ux_tfst_locate.specs.Reaching.{AreAhead}
use Rattle.ux_tfst_locate.specs.Sought.{AreSpellable, AreTold, links_of}
use Rattle.ux_tfst_locate.proofs.PlacesLemmas.{before_state}
use Rattle.ux_tfst_locate.proofs.SentencesLemmas.{link_back}

-- a link of a well formed sentence leads to a greater state
leads_up : (sentence : Sentence) (link : Link) → IsWellFormed sentence →
    Contains sentence.links link → link.from < link.to
leads_up sentence link (inl none) has =
    absurd (nothing_in (subst (λ (links : List Link). Contains links link) none.1 has))
leads_up sentence link (inr both) has =
    (All-contains (LeadsOn sentence.states) sentence.links link both.1 has).0

module _ (readings : List Reading) (spellable : AreSpellable readings) (sentences : List Sentence)
    (numbered : List NumberedSentence)
    (are : AreTold (map reading_text readings) sentences numbered) (lattice : Lattice)
    (is : IsLattice (flat_map links_of numbered) lattice) where
  pub arcs_ahead : AreAhead (length lattice.places.items) (rows_of lattice)
  arcs_ahead i arc has =
      let one = is.arcs.each i arc has in
      let back = link_back readings spellable sentences numbered are one.0 one.1 in
      let up = leads_up back.0 back.1
      (All-contains IsWritable sentences back.0 are.writable back.2).well_formed back.3 in
      let from = back.4.from in
      let to = back.4.to in (
        before_state lattice.places.items is.rising i arc.to (from_of one.0) (to_of one.0)
            one.2.from one.2.to refl refl (omega (arith, up, from, to)),
        slice_get_within lattice.places.items arc.to (to_of one.0) one.2.to,
      )
