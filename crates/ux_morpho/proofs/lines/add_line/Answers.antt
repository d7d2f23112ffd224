use Rattle.std.proofs.Common.{inl, inr}
use Rattle.ux_morpho.proofs.LineLemmas.{line_added, line_pushed, said_back, said_here}
use Rattle.ux_morpho.proofs.lines.add_line.Goals as goal

pub returns-in_ok-push-in-Some-clause-lines : goal.returns-in_ok-push-in-Some-clause-lines
returns-in_ok-push-in-Some-clause-lines c =
    let token = c.args.token.now in
    let output = c.args.output.now in
    let old = c.args.lines.now.items in
    let new = c.push.new.self.items in
    let line = c.in-Some.line in
    let said = rw c.in-Some.is at c.in_ok-line.ensures in
    line_added token output line said.0 old new
    (said_here token c.args.front.now output c.requires.front said.0 said.1) said.2
    (line_pushed old new line c.in_ok-push-in-Some.ensures.items)

pub returns-in-None-clause-err : goal.returns-in-None-clause-err
returns-in-None-clause-err c =
    let none = rw c.in-None.is at c.in_ok-line.ensures in
    elim c.bad_output.ensures [
      | inl memory ↦ inl memory
      | inr bad ↦ inr (
        bad,
        λ entry says. none entry
            (said_back c.args.token.now c.args.front.now c.args.output.now c.requires.front entry says),
      )
    ]
