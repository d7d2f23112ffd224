use Rattle.std.proofs.Common.{arith, ◌≡◌, [], ap, map, drop}
use Rattle.std.proofs.lemmas.Bool.{false≢true}
use Rattle.std.proofs.lemmas.List.{drop_all}
use Rattle.ux_image.specs.Codes.{entry_code}
use Rattle.ux_image.proofs.ComparingLemmas.{goes_on, differ, compared, is_empty, codes_from}
use Rattle.ux_image.proofs.comparing.are_codes_of.Goals as goal

pub loop-entry-preserved : goal.loop-entry-preserved
loop-entry-preserved c =
    let entries = c.args.entries.now in
    let i = c.loop-entry.entry-index in
    goes_on (c.args.codes.now ≡ map entry_code entries) _ c.loop-entry.codes_left.now
    (map entry_code (drop i entries)) _
    (codes_from entries i c.entry-item.result (omega arith) c.entry-item.is)
    c.loop-entry.invariant c.in-Some.later.now c.in-Some.ensures

pub returns-in_default : goal.returns-in_default
returns-in_default c =
    let entries = c.args.entries.now in
    let i = c.loop-entry.entry-index in (
      λ h. absurd (false≢true h),
      λ same. absurd (differ (c.args.codes.now ≡ map entry_code entries) _
          c.loop-entry.codes_left.now (map entry_code (drop i entries)) _
          (codes_from entries i c.entry-item.result (omega arith) c.entry-item.is)
          c.loop-entry.invariant c.in_default.ensures same),
    )

pub returns : goal.returns
returns c =
    let entries = c.args.entries.now in
    let i = c.loop-entry.entry-index in
    compared (c.args.codes.now ≡ map entry_code entries) c.is_empty.result
    c.loop-entry.codes_left.now (map entry_code (drop i entries)) []
    (ap (map entry_code) (drop_all i entries (omega arith)))
    c.loop-entry.invariant
    (is_empty c.loop-entry.codes_left.now c.is_empty.result c.is_empty.ensures)
