use Rattle.std.proofs.Common.{arith, [], length, map, take_all, ap, ◌∙◌}
use Rattle.indexmap.specs.IndexSet.{insert_all}
use Rattle.ux_dela.specs.declared.entry.Entry.{Entry}
use Rattle.ux_dict.specs.Equal.{entry_eq}
use Rattle.ux_image_lexicon.specs.Counting.{bare_of}
use Rattle.ux_image_lexicon.proofs.ApartLemmas.{apart_is}
use Rattle.ux_image_lexicon.proofs.OnceLemmas.{different_is}
use Rattle.ux_image_lexicon.proofs.apart.is_apart.Goals as goal

pub returns : goal.returns
returns c apart form =
    let codes = c.args.codes.now in
    let past = c.loop-code-test.false in
    let all = take_all c.loop-code.code-index codes (omega (arith, past)) in
    let same = ap (length {A = Entry}) (different_is c.loop-code.bare.items
    c.in_ok-different.field-0.items c.in_ok-different.ensures
    ∙ ap (insert_all entry_eq []) (c.loop-code.invariant ∙ ap (map bare_of) all)) in
    apart_is codes c.len.result apart (omega (arith, c.len.ensures, same)) form
