use Rattle.std.proofs.Common.{refl}
use Rattle.ux_dela.proofs.ClassLemmas.{class_cut, letters_cut, no_class_behind}
use Rattle.ux_dela.proofs.delas.letters_of.Goals as goal

pub range-requires-clause-end_boundary : goal.range-requires-clause-end_boundary
range-requires-clause-end_boundary c =
    letters_cut c.args.text.now c.as_bytes-bytes.result.now c.letters_len-end.result
    c.as_bytes-bytes.ensures.value c.letters_len-end.ensures.within
    (c.if-is_class_behind.ensures.0 refl).1

pub returns-then-is_class_behind : goal.returns-then-is_class_behind
returns-then-is_class_behind c =
    let both = c.if-is_class_behind.ensures.0 refl in
    class_cut c.args.text.now c.as_bytes-bytes.result.now c.range.result.now
    c.letters_len-end.result c.as_bytes-bytes.ensures.value c.letters_len-end.ensures.len
    c.letters_len-end.ensures.within both.0 both.1 c.range.ensures.value

pub returns : goal.returns
returns c =
    λ letters is.
    (let t =
    c.is_class_behind.ensures.1
    (no_class_behind c.args.text.now c.as_bytes-bytes.result.now letters c.letters_len-end.result
    c.as_bytes-bytes.ensures.value c.letters_len-end.ensures.len is) in
    let f = c.if-is_class_behind in cc)
