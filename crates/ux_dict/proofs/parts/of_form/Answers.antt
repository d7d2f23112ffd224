use Rattle.std.proofs.Common.{[], ap, ◌∙◌}
use Rattle.std.specs.Prelude.{bytes_eq, filter}
use Rattle.std.proofs.lemmas.List.{append-nil}
use Rattle.ux_dela.specs.declared.entry.Entry.{Entry}
use Rattle.ux_dict.specs.Keys.{low_key, is_between}
use Rattle.ux_dict.proofs.KeyLemmas.{keys_rise}
use Rattle.ux_dict.proofs.NearLemmas.{filter-form}
use Rattle.ux_dict.proofs.PartLemmas.{IsPart-sifted}
use Rattle.ux_dict.proofs.parts.of_form.Goals as goal

pub returns : goal.returns
returns c =
    let form = c.args.form.now in
    let whole = c.args.whole.now in
    let is = c.requires in
    let key = c.lowest-key.result in
    let sift = c.between.ensures (keys_rise whole.entries.now is.utf8 is.ordered) is.keyed in
    let few = IsPart-sifted [] (is_between key key) whole c.between.result is sift in
    c.same_form.ensures few.ordered
    ∙ ap (filter (λ (e : Entry). bytes_eq e.form form)) sift.entries
    ∙ filter-form form key whole.entries.now
    (c.lowest-key.ensures ∙ ap low_key (append-nil c.as_bytes.result.now ∙ c.as_bytes.ensures.value))
