use Rattle.std.proofs.Common.{[], ◌≡◌, ◌∙◌, ap, sym, subst, get_or}
use Rattle.std.specs.Prelude.{Contains}
use Rattle.std.proofs.lemmas.List.Elements.{All-contains, Contains-get_or}
use Rattle.ux_sentence.specs.declared.sentence.Link.{Link}
use Rattle.ux_reading_table.specs.Numbered.{text_of}
use Rattle.ux_elag.proofs.LinksLemmas.{told-more}
use Rattle.ux_elag.proofs.NumberedLemmas.{text-from_cmp}
use Rattle.ux_elag.proofs.numbering.places_of.Goals as goal

pub place_of-requires-clause-there : goal.place_of-requires-clause-there
place_of-requires-clause-there c =
    let links = c.args.links.now in
    let texts = c.args.texts.now in
    let link = c.link-item.result in
    let has : Contains links link = subst (Contains links) (sym c.link-item.is)
    (Contains-get_or links c.loop-link.link-index link c.loop-link-test.true) in
    let is : c.new-text.result ≡ text_of link = c.new-text.ensures ∙ c.in_ok-print_reading.ensures in
    subst (Contains texts) (sym is)
    (All-contains (λ (l : Link). Contains texts (text_of l)) links link c.requires.there has)

pub loop-link-preserved : goal.loop-link-preserved
loop-link-preserved c =
    let links = c.args.links.now in
    let texts = c.args.texts.now in
    let link = c.link-item.result in
    let place = c.place_of.result in
    let is : c.new-text.result ≡ text_of link = c.new-text.ensures ∙ c.in_ok-print_reading.ensures in
    told-more texts links c.loop-link.places.items c.push.new.self.items place c.loop-link.link-index link
    c.loop-link-test.true c.in_ok-push.ensures.items
    (text-from_cmp (get_or texts place []) c.new-text.result (c.place_of.ensures.equal [])
    ∙ (is ∙ ap text_of c.link-item.is)) c.place_of.ensures.inside c.loop-link.invariant
