use Rattle.std.proofs.Common.{◌∙◌, ℕ, List, ap, subst, sym}
use Rattle.std.specs.Prelude.{encode_utf8_all, option_map}
use Rattle.std.proofs.lemmas.Bool.{false≢true}
use Rattle.std.proofs.lemmas.List.{reverse-reverse}
use Rattle.ux_inflect.specs.Inflected.{HasCodes}
use Rattle.ux_inflect.specs.Places.{cursor_of, place_of}
use Rattle.ux_inflect.proofs.OutcomeLemmas.{only_line}
use Rattle.ux_inflect.proofs.outcomes.line_of.Goals as goal

pub returns-then-not-is_over : goal.returns-then-not-is_over
returns-then-not-is_over c = λ line is.
    absurd (false≢true (sym c.if-not-is_over.true ∙ c.is_over.ensures.1 is.over))

pub returns-in_ok-line-in-Some : goal.returns-in_ok-line-in-Some
returns-in_ok-line-in-Some c =
    let config = c.args.config.now in
    let form = c.in-Some.form in
    let line = c.in_ok-line-in-Some.ensures in
    let output = c.as_str.ensures.value in
    let over = c.is_over.ensures.0 c.if-not-is_over.false in
    only_line c.args.stem.now (place_of config) (cursor_of form) c.in_ok-line-in-Some.line over
    (ap (option_map cursor_of) c.in-Some.is) c.requires
    (line.form ∙ ap encode_utf8_all (sym (reverse-reverse form.left.items))) (line.output ∙ output)
    (λ codes has. line.text codes (subst (λ (o : List ℕ). HasCodes o codes) (sym output) has))

pub returns-in-None : goal.returns-in-None
returns-in-None c = λ line is. (
    let lost = ap (option_map cursor_of) c.in-None.is in
    cc (lost, is.at))
