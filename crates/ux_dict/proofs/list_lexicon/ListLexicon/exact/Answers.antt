use Rattle.std.proofs.Common.{◌≡◌, List, ℕ, length, sym, ap, ◌∙◌, arith}
use Rattle.std.specs.Prelude.{filter, bytes_eq}
use Rattle.std.proofs.lemmas.List.Sums.{length-filter}
use Rattle.ux_dela.specs.declared.entry.Entry.{Entry}
use Rattle.ux_dict.specs.Forms.{count_of}
use Rattle.ux_dict.proofs.list_lexicon.ListLexicon.exact.Goals as goal

-- as many are found as the content has
counted : (form : List ℕ) (found entries content : List Entry) →
    found ≡ filter (λ (e : Entry). bytes_eq e.form form) entries → entries ≡ content →
    length found ≡ count_of form content
counted form found entries content is same =
    ap length is ∙ length-filter (λ (e : Entry). bytes_eq e.form form) entries
    ∙ ap (count_of form) same

pub returns-in-0 : goal.returns-in-0
returns-in-0 c =
    let count = counted c.args.form.now c.of_form.result.now c.whole.result.entries.now
    c.args.self.now c.of_form.ensures c.whole.ensures.entries in
    sym count ∙ c.in-0.is

pub returns-in_default : goal.returns-in_default
returns-in_default c =
    let count = counted c.args.form.now c.of_form.result.now c.whole.result.entries.now
    c.args.self.now c.of_form.ensures c.whole.ensures.entries in
    (count, omega arith)
