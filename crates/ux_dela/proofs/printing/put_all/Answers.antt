use Rattle.std.proofs.Common.{◌∙◌, ◌<◌, [], ap, ◌++◌, arith, get_or, length, string_bytes}
use Rattle.std.proofs.lemmas.List.{get_or_default}
use Rattle.ux_dela.specs.Signs.{is_printed_code_sign}
use Rattle.ux_dela.proofs.ShieldLemmas.{shown, shown_all_more}
use Rattle.ux_dela.proofs.printing.put_all.Goals as goal

pub loop-number-preserved : goal.loop-number-preserved
loop-number-preserved c =
    let codes = c.args.codes.now in
    let number = c.loop-number.number in
    let below : number < length codes =
    omega (arith, c.loop-number-test.true, c.len-number-end.ensures) in
    let code = get_or codes number [] in
    let mid = string_bytes c.push_str.new.self in
    record {
      within = omega (arith, below);
      put = λ byte one. shown_all_more byte codes number code (string_bytes c.args.text.now)
          (string_bytes c.loop-number.text) mid (string_bytes c.put_shielded.new.text)
          c.args.sign.now below (get_or_default codes number [] code below)
          (c.loop-number.invariant.put byte one) one c.in_ok-push_str.ensures.bytes
          (c.in_ok-put_shielded.ensures
          ∙ ap (λ t. mid ++ shown is_printed_code_sign t) c.text.ensures);
    }
