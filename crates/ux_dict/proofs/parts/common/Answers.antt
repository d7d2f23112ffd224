use Rattle.std.proofs.Common.{◌≡◌, take, sym, ◌∙◌}
use Rattle.std.proofs.lemmas.List.Elements.{All-contains}
use lib.Utf8.{encodes}
use Rattle.ux_dela.specs.declared.entry.Entry.{Entry}
use Rattle.ux_dict.proofs.NearLemmas.{front_bytes}
use Rattle.ux_base.proofs.OrderedLists.{Contains-at}
use Rattle.ux_dict.proofs.parts.common.Goals as goal

pub returns-in-Some : goal.returns-in-Some
returns-in-Some c front is some =
    let part = c.args.part.now in
    let entries = part.entries.now in
    let first = c.in-Some.entry.now in
    let member = Contains-at entries first 0 (sym c.in-Some.ensures.value) in
    c.front_of.ensures
    ∙ All-contains (λ (e : Entry). take part.len e.form ≡ encodes front) entries first
    (front_bytes front part is) member
