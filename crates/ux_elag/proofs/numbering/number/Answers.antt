use Rattle.std.proofs.Common.{ℕ, List, ◌≡◌, ◌↔◌, ◌<◌, ◌∙◌, ap, refl, sym, subst, length}
use Rattle.std.specs.Prelude.{All, Contains, map}
use Rattle.ux_sentence.specs.declared.sentence.Link.{Link}
use Rattle.ux_sentence.specs.Valid.{HasSpellable}
use Rattle.ux_reading_table.specs.Numbered.{text_of}
use Rattle.ux_elag.specs.Numbering.{AreToldBy, IsShownBy, link_at}
use Rattle.ux_elag.proofs.NumberedLemmas.{numbered-whole, shown-within, text-from_eq, texts-there}
use Rattle.ux_elag.proofs.numbering.number.Goals as goal

pub places_of-requires-clause-there : goal.places_of-requires-clause-there
places_of-requires-clause-there c =
    let links = c.as_slice-links.result.now in
    let texts = c.in_order-texts.result.items in
    subst (λ (ts : List (List ℕ)). All (λ (l : Link). Contains ts (text_of l)) links)
    (sym c.as_slice.ensures.value)
    (texts-there links (subst (All HasSpellable) (sym c.as_slice-links.ensures) c.requires)
    texts c.in_order-texts.ensures.in_order
    (λ text. subst (λ (xs : List (List ℕ)). Contains texts text ↔ Contains xs text)
    c.in_ok-texts_of.ensures (c.in_order-texts.ensures.same text-from_eq text)))

pub readings_of-requires : goal.readings_of-requires
readings_of-requires c =
    let links = c.as_slice-links.result.now in
    let texts = c.in_order-texts.result.items in
    let places = c.in_ok-places.places.items in
    let shown = c.in_ok-shown.shown.items in
    let told : AreToldBy texts links places = subst (λ (ts : List (List ℕ)). AreToldBy ts links places)
    c.as_slice.ensures.value c.in_ok-places.ensures in
    let count : c.len-2.result ≡ length texts =
    c.len-2.ensures ∙ (sym c.as_slice.ensures.len ∙ ap length c.as_slice.ensures.value) in
    let are : IsShownBy places (length texts) shown = subst (λ (n : ℕ). IsShownBy places n shown) count
    (subst (λ (ps : List ℕ). IsShownBy ps c.len-2.result shown) c.as_slice-2.ensures.value
    c.in_ok-shown.ensures) in
    subst (All (λ (index : ℕ). index < length links)) (sym c.as_slice-3.ensures.value)
    (shown-within links (subst (All HasSpellable) (sym c.as_slice-links.ensures) c.requires)
    texts c.in_order-texts.ensures.in_order
    (λ text. subst (λ (xs : List (List ℕ)). Contains texts text ↔ Contains xs text)
    c.in_ok-texts_of.ensures (c.in_order-texts.ensures.same text-from_eq text)) places told shown are)

pub returns : goal.returns
returns c =
    let links = c.as_slice-links.result.now in
    let texts = c.in_order-texts.result.items in
    let places = c.in_ok-places.places.items in
    let shown = c.in_ok-shown.shown.items in
    let readings = c.in_ok-readings.readings.items in
    let told : AreToldBy texts links places = subst (λ (ts : List (List ℕ)). AreToldBy ts links places)
    c.as_slice.ensures.value c.in_ok-places.ensures in
    let count : c.len-2.result ≡ length texts =
    c.len-2.ensures ∙ (sym c.as_slice.ensures.len ∙ ap length c.as_slice.ensures.value) in
    let are : IsShownBy places (length texts) shown = subst (λ (n : ℕ). IsShownBy places n shown) count
    (subst (λ (ps : List ℕ). IsShownBy ps c.len-2.result shown) c.as_slice-2.ensures.value
    c.in_ok-shown.ensures) in
    let readings_are : readings ≡ map (λ (index : ℕ). (link_at links index).reading) shown =
    c.in_ok-readings.ensures
    ∙ ap (map (λ (index : ℕ). (link_at links index).reading)) c.as_slice-3.ensures.value in
    numbered-whole c.args.sentence.now links c.as_slice-links.ensures
    (subst (All HasSpellable) (sym c.as_slice-links.ensures) c.requires)
    texts c.in_order-texts.ensures.in_order
    (λ text. subst (λ (xs : List (List ℕ)). Contains texts text ↔ Contains xs text)
    c.in_ok-texts_of.ensures (c.in_order-texts.ensures.same text-from_eq text)) places told shown are
    readings readings_are (record {
      number = c.args.sentence.now.number;
      states = c.args.sentence.now.states;
      links = c.in_ok-links.links;
    }) refl refl c.in_ok-links.ensures.froms c.in_ok-links.ensures.tos
    (c.in_ok-links.ensures.readings ∙ c.as_slice-4.ensures.value)
