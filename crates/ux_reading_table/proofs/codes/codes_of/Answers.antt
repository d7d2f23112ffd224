use Rattle.std.proofs.Common.{arith, sym, subst}
use Rattle.ux_dela.specs.Printed.{IsCodesText}
use Rattle.ux_dela.specs.declared.entry.Codes.{Codes}
use Rattle.ux_reading_table.specs.Noting.{spellings}
use Rattle.ux_reading_table.proofs.BareLemmas.{known_at, known_within}
use Rattle.ux_reading_table.proofs.codes.codes_of.Goals as goal

pub index-requires : goal.index-requires
index-requires c =
    let within = known_within (spellings c.args.known.now.texts) c.args.known.now.codes.items
    c.in_ok-place.place c.args.text.now c.requires c.in_ok-place.ensures.some in
    omega (arith, within, c.args.known.now.codes.ok.0)

pub returns : goal.returns
returns c =
    subst (λ (one : Codes). IsCodesText c.args.text.now one) (sym c.index.ensures)
    (known_at (spellings c.args.known.now.texts) c.args.known.now.codes.items
    c.in_ok-place.place c.args.text.now c.index.result.now c.requires
    c.in_ok-place.ensures.some)
