use Rattle.std.proofs.Common.{List, ℕ, ◌≡◌, refl, subst}
use Rattle.std.specs.Prelude.{OnOk}
use Rattle.std.proofs.lemmas.Option.{none-some}
use Rattle.std.proofs.lemmas.Result.{on_ok_weaker}
use Rattle.ux_report.specs.Lines.{HasMore, IsText}
use Rattle.ux_report.proofs.LinesLemmas.{more-nothing}
use Rattle.ux_report.proofs.PlacesLemmas.{text-there}
use Rattle.ux_report.proofs.lines.put_word.Goals as goal

pub token-requires : goal.token-requires
token-requires c =
    c.requires c.args.number c.in-Some.place ((c.in-Some.ensures c.in-Some.place).0 refl)

pub returns-in_ok-from_str-in-Some : goal.returns-in_ok-from_str-in-Some
returns-in_ok-from_str-in-Some c =
    on_ok_weaker c.put_line.result
    (text-there c.args.text.now c.args.places.now c.args.number c.in-Some.place
    c.token.result.now c.args.lines.now.keys c.put_line.new.lines.keys
    ((c.in-Some.ensures c.in-Some.place).0 refl) c.token.ensures)
    (subst
    (λ (text : List ℕ). OnOk c.put_line.result
    (HasMore c.args.lines.now.keys (λ (line : List ℕ). line ≡ text) c.put_line.new.lines.keys))
    c.in_ok-from_str-in-Some.ensures c.put_line.ensures)

pub returns-in-None : goal.returns-in-None
returns-in-None c =
    more-nothing (IsText c.args.text.now c.args.places.now c.args.number) c.args.lines.now.keys
    (λ line is. none-some is.0 ((c.in-None.ensures is.0).1 is.1))
