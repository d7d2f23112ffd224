use Rattle.std.proofs.Common.{refl, ◌∙◌, ap, ◌++◌, string_bytes}
use Rattle.std.proofs.lemmas.Result.{on_ok_weaker}
use Rattle.ux_dela.specs.Signs.{PLUS, COLON, is_printed_code_sign}
use Rattle.ux_dela.proofs.ShieldLemmas.{shown, shown_list}
use Rattle.ux_dela.proofs.printing.put_codes.Goals as goal

pub returns : goal.returns
returns c =
    let old = string_bytes c.args.text.now in
    let first = string_bytes c.put_shielded.new.text in
    let second = string_bytes c.put_all.new.text in
    on_ok_weaker c.put_all-2.result
    (λ e. shown_list c.args.gram.now old first second (string_bytes c.put_all-2.new.text)
    c.args.sem.now c.args.infl.now
    (c.in_ok-put_shielded.ensures ∙ ap (λ t. old ++ shown is_printed_code_sign t) c.as_str.ensures)
    (c.in_ok-put_all.ensures PLUS refl) e)
    (c.put_all-2.ensures COLON refl)
