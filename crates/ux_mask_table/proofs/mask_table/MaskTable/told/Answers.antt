use Rattle.std.proofs.Common.{arith, ◌≡◌, sym, subst, ap, ◌∙◌, Some}
use Rattle.std.specs.Option.{is_some}
use Rattle.std.specs.Prelude.{slice_get}
use Rattle.std.proofs.lemmas.Option.{get_or_from_slice_get, slice_get_within}
use Rattle.ux_net.specs.Masks.{masks_in}
use Rattle.ux_mask_table.specs.declared.rows.Row.{Row}
use Rattle.ux_mask_table.specs.MaskTables.{AreAlike}
use Rattle.ux_mask_table.proofs.MaskTableLemmas.{number_at, number_there, tells_ends}
use Rattle.ux_mask_table.proofs.mask_table.MaskTable.told.Goals as goal

pub index-requires : goal.index-requires
index-requires c =
    let told = c.requires.table.told c.args.mask.now c.requires.mask c.args.place c.requires.inside in
    let numbers = c.args.self.now.numbers in
    let inside = slice_get_within numbers.items c.args.place told.0 told.1 in
    let len = numbers.ok.0 in
    omega (arith, inside, len)

pub index-row-requires : goal.index-row-requires
index-row-requires c =
    let told = c.requires.table.told c.args.mask.now c.requires.mask c.args.place c.requires.inside in
    let numbers = c.args.self.now.numbers in
    let rows = c.args.self.now.rows.list in
    let is = c.index.ensures
    ∙ get_or_from_slice_get numbers.items c.args.place told.0 c.index.result.now told.1 in
    let inside = slice_get_within rows.items told.0 told.2.row told.2.found in
    let len = rows.ok.0 in
    omega (arith, is, inside, len)

pub ends_of-requires : goal.ends_of-requires
ends_of-requires c =
    let told = c.requires.table.told c.args.mask.now c.requires.mask c.args.place c.requires.inside in
    let numbers = c.args.self.now.numbers in
    let rows = c.args.self.now.rows.list in
    let is = c.index.ensures
    ∙ get_or_from_slice_get numbers.items c.args.place told.0 c.index.result.now told.1 in
    let row_is : c.index-row.result.now ≡ told.2.row = c.index-row.ensures
    ∙ get_or_from_slice_get rows.items c.index.result.now told.2.row c.index-row.result.now
    (ap (λ n. slice_get rows.items n) is ∙ told.2.found) in
    (c.requires.table.rows told.0 c.index-row.result.now
    (told.2.found ∙ ap (λ (r : Row). Some r) (sym row_is))).ordered

pub unreachable-requires : goal.unreachable-requires
unreachable-requires c =
    let found = number_there c.args.self.now.masks.now.set.keys c.args.mask
    ((c.requires.table.masks.same c.args.mask.now).1 c.requires.mask) in
    let none = ap is_some c.in-None.is in
    let both = sym none ∙ (c.get_index_of.ensures.found ∙ found) in
    cc

pub returns : goal.returns
returns c =
    let self = c.args.self.now in
    let told = c.requires.table.told c.args.mask.now c.requires.mask c.args.place c.requires.inside in
    let rows = self.rows.list in
    let is = c.index.ensures
    ∙ get_or_from_slice_get self.numbers.items c.args.place told.0 c.index.result.now told.1 in
    let row = c.index-row.result.now in
    let row_is : row ≡ told.2.row = c.index-row.ensures
    ∙ get_or_from_slice_get rows.items c.index.result.now told.2.row row
    (ap (λ n. slice_get rows.items n) is ∙ told.2.found) in
    tells_ends c.args.alphabet.now c.args.text.now c.args.applied.now c.requires.belongs
    (masks_in self.masks.now.set) self.rows.spans row c.args.mask.now c.in-Some.number c.args.place
    c.ends_of.result.now
    (number_at self.masks.now.set.keys c.args.mask c.in-Some.number
    (sym c.get_index_of.ensures.index ∙ c.in-Some.is))
    (c.requires.table.rows told.0 row (told.2.found ∙ ap (λ (r : Row). Some r) (sym row_is)))
    (subst (λ (r : Row). AreAlike c.args.alphabet.now c.args.text.now c.args.applied.now r.place
    c.args.place) (sym row_is) told.2.alike)
    c.ends_of.ensures.exactly c.ends_of.ensures.ascending
