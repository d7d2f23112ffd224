use Rattle.std.proofs.Common.{ℕ, List, Option, sym, subst}
use Rattle.ux_mask_table.specs.declared.rows.Row.{Row}
use Rattle.ux_mask_table.specs.MaskTables.{AreKnown, IsFirst, IsLike}
use Rattle.ux_mask_table.proofs.MaskTableLemmas.{adds_grows, first_added, known_grown, known_more, like_own, numbered_at}
use Rattle.ux_mask_table.proofs.mask_table.row_for.Goals as goal

pub returns-then-not-is_alone-clause-known : goal.returns-then-not-is_alone-clause-known
returns-then-not-is_alone-clause-known g c =
    let old = c.args.rows.now.list.items in
    let new = c.own_row.new.rows.list.items in
    known_grown c.args.text.now c.args.applied.now old new c.args.known.now.items
    (adds_grows old new c.args.place c.in_ok-number.ensures.added) c.requires.known

pub returns-then-not-is_alone-clause-told : goal.returns-then-not-is_alone-clause-told
returns-then-not-is_alone-clause-told g c =
    let old = c.args.rows.now.list.items in
    let new = c.own_row.new.rows.list.items in
    subst (λ n. IsLike c.args.alphabet.now c.args.text.now c.args.applied.now new n c.args.place)
    (sym c.in_ok-number.ensures.number)
    (like_own c.args.alphabet.now c.args.text.now c.args.applied.now old new c.args.place
    c.in_ok-number.ensures.added)

pub returns-in-Some-clause-told : goal.returns-in-Some-clause-told
returns-in-Some-clause-told g c =
    let tokens = c.args.text.now in
    let tables = c.args.applied.now in
    let known = subst (λ (l : List Row). AreKnown tokens tables l c.as_slice-2.result.now)
    (sym c.as_slice.ensures.value)
    (subst (λ (l : List (Option ℕ)). AreKnown tokens tables c.args.rows.now.list.items l)
    (sym c.as_slice-2.ensures.value) c.requires.known) in
    subst (λ (l : List Row). IsLike c.args.alphabet.now tokens tables l c.in-Some.number c.args.place)
    c.as_slice.ensures.value
    (c.in-Some.ensures c.args.alphabet.now tables c.requires.belongs known
    (numbered_at tokens c.args.place c.number-token.result c.number-token.ensures.place)
    (c.is_alone.ensures c.if-not-is_alone.false c.args.alphabet.now c.requires.belongs))

pub returns-in-Some-get_mut-clause-known : goal.returns-in-Some-get_mut-clause-known
returns-in-Some-get_mut-clause-known g c =
    let tokens = c.args.text.now in
    let tables = c.args.applied.now in
    let old = c.args.rows.now.list.items in
    let new = c.own_row-2.new.rows.list.items in
    let added = c.in_ok-number-2.ensures.added in
    known_more tokens tables new c.args.known.now.items c.number-token.result c.in_ok-number-2.number
    (subst (λ n. IsFirst tokens tables new c.number-token.result n)
    (sym c.in_ok-number-2.ensures.number)
    (first_added tokens tables old new c.args.place c.number-token.result added
    (numbered_at tokens c.args.place c.number-token.result c.number-token.ensures.place)
    (c.is_alone.ensures c.if-not-is_alone.false c.args.alphabet.now c.requires.belongs)))
    (known_grown tokens tables old new c.args.known.now.items
    (adds_grows old new c.args.place added) c.requires.known)

pub returns-in-Some-get_mut-clause-told : goal.returns-in-Some-get_mut-clause-told
returns-in-Some-get_mut-clause-told g c =
    let old = c.args.rows.now.list.items in
    let new = c.own_row-2.new.rows.list.items in
    subst (λ n. IsLike c.args.alphabet.now c.args.text.now c.args.applied.now new n c.args.place)
    (sym c.in_ok-number-2.ensures.number)
    (like_own c.args.alphabet.now c.args.text.now c.args.applied.now old new c.args.place
    c.in_ok-number-2.ensures.added)

pub returns-in_default-get_mut-clause-known : goal.returns-in_default-get_mut-clause-known
returns-in_default-get_mut-clause-known g c =
    let old = c.args.rows.now.list.items in
    let new = c.own_row-2.new.rows.list.items in
    known_grown c.args.text.now c.args.applied.now old new c.args.known.now.items
    (adds_grows old new c.args.place c.in_ok-number-2.ensures.added) c.requires.known

pub returns-in_default-get_mut-clause-told : goal.returns-in_default-get_mut-clause-told
returns-in_default-get_mut-clause-told g c =
    let old = c.args.rows.now.list.items in
    let new = c.own_row-2.new.rows.list.items in
    subst (λ n. IsLike c.args.alphabet.now c.args.text.now c.args.applied.now new n c.args.place)
    (sym c.in_ok-number-2.ensures.number)
    (like_own c.args.alphabet.now c.args.text.now c.args.applied.now old new c.args.place
    c.in_ok-number-2.ensures.added)
