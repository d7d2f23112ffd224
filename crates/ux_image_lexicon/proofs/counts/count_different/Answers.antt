use Rattle.std.proofs.Common.{arith, ℕ, List, ◌++◌, [], ◌∙◌, ap, length, map}
use Rattle.std.specs.Str.{encode_utf8_all}
use Rattle.indexmap.specs.IndexSet.{insert_all}
use Rattle.ux_dela.specs.declared.entry.Entry.{Entry}
use Rattle.ux_dict.specs.Equal.{entry_eq}
use Rattle.ux_image_lexicon.specs.Told.{entry_by}
use Rattle.ux_image_lexicon.proofs.OnceLemmas.{different_is}
use Rattle.ux_image_lexicon.proofs.counts.count_different.Goals as goal

pub returns : goal.returns
returns c =
    let entries = c.push_codes.new.entries.items in
    let found = c.in_ok-different.field-0.items in
    let form = encode_utf8_all c.args.letters.now in
    let made = map (entry_by form) c.args.codes.now in
    let is = c.in_ok-push_codes.ensures
    ∙ ap (λ (l : List Entry). l ++ map (entry_by c.as_str.result.now) c.args.codes.now)
    c.new-entries.ensures.items
    ∙ ap (λ (l : List ℕ). map (entry_by l) c.args.codes.now) (c.as_str.ensures.value ∙ c.in_ok-form.ensures)
    in
    let same = ap (length {A = Entry}) (different_is entries found c.in_ok-different.ensures
    ∙ ap (insert_all entry_eq []) is) in
    omega (arith, c.len.ensures, same)
