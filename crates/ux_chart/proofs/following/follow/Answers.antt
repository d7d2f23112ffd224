use Rattle.std.proofs.Common.{refl, subst, sym}
use Rattle.ux_net.specs.declared.label.Label.TheVariants as label
use Rattle.ux_parts.specs.Parts.{TellsClosing}
use Rattle.ux_chart.proofs.Entering.{laid_out, never_rises, opens, entered_answer, call_ends}
use Rattle.ux_parts.specs.Runs.{Plain}
use Rattle.ux_chart.proofs.FollowingLemmas.{from_none, followed_empty, followed_call, followed_positive, followed_negative, followed_close, followed_plain}
use Rattle.ux_chart.proofs.following.follow.Goals as goal

pub returns-in-Empty : goal.returns-in-Empty
returns-in-Empty g c =
    followed_empty (g.B.Basis.input c.args.basis.now) c.args.chart.now.last c.requires.ahead
    c.args.net.now c.args.parts.now c.requires.parts c.args.graph c.args.edge.now.target
    c.args.from.at c.args.found.now.items c.push.new.self.items c.args.edge.now.label
    c.in-Empty.is c.in_ok-push-in-Empty.ensures.items

pub entered-reached-requires-clause-laid : goal.entered-reached-requires-clause-laid
entered-reached-requires-clause-laid g c =
    laid_out (g.B.Basis.input c.args.basis.now) c.args.net.now c.args.parts.now
    c.args.chart.now c.requires.filled.table_is c.requires.filled.done

pub returns-in-Call : goal.returns-in-Call
returns-in-Call g c =
    let input = g.B.Basis.input c.args.basis.now in
    let chart = c.args.chart.now in
    let called = c.in-Call.called in
    let told = c.entered-reached.ensures in
    let js = c.entered-reached.result.ends.now in
    let cs = c.entered-reached.result.closers.now in
    let lower = (never_rises c.args.net.now c.args.parts.now c.requires.parts c.args.graph
    c.args.from.state c.args.edge.now c.requires.inside (label.Call called) c.in-Call.is).0 in
    followed_call input chart.last c.requires.ahead c.args.net.now c.args.parts.now
    c.requires.parts c.args.graph c.args.edge.now.target c.args.from.at c.args.found.now.items
    c.push_positions.new.found.items c.args.edge.now.label called c.in-Call.is js
    (call_ends input c.args.net.now c.args.parts.now c.requires.parts called c.args.from.at told.0
    chart js cs told.2
    (λ number is. entered_answer input c.args.net.now c.args.parts.now c.requires.parts chart
    c.args.begun c.args.graph c.args.from c.requires.filled c.requires.ready called 0 number is
    lower told.0 js cs told.1 told.2))
    c.in_ok-push_positions-in-Call.ensures

pub entered-reached-requires-in-Positive-clause-laid :
    goal.entered-reached-requires-in-Positive-clause-laid
entered-reached-requires-in-Positive-clause-laid g c =
    laid_out (g.B.Basis.input c.args.basis.now) c.args.net.now c.args.parts.now
    c.args.chart.now c.requires.filled.table_is c.requires.filled.done

pub returns-in-Positive : goal.returns-in-Positive
returns-in-Positive g c =
    let input = g.B.Basis.input c.args.basis.now in
    let chart = c.args.chart.now in
    let told = c.entered-reached-in-Positive.ensures in
    let js = c.entered-reached-in-Positive.result.ends.now in
    let cs = c.entered-reached-in-Positive.result.closers.now in
    let lower = (never_rises c.args.net.now c.args.parts.now c.requires.parts c.args.graph
    c.args.from.state c.args.edge.now c.requires.inside label.Positive c.in-Positive.is).0 in
    let begins = opens c.args.net.now c.args.parts.now c.requires.parts c.args.graph
    c.args.from.state c.args.edge.now c.requires.inside label.Positive c.in-Positive.is in
    followed_positive input chart.last c.requires.ahead c.args.net.now c.args.parts.now
    c.requires.parts c.args.graph c.args.edge.now.target c.args.from.at c.args.found.now.items
    c.push_states.new.found.items c.args.edge.now.label c.in-Positive.is js cs
    (entered_answer input c.args.net.now c.args.parts.now c.requires.parts chart
    c.args.begun c.args.graph c.args.from c.requires.filled c.requires.ready c.args.graph
    c.args.edge.now.target begins.0 begins.1 lower told.0 js cs told.1 told.2)
    c.in_ok-push_states-in-Positive.ensures

pub entered-reached-requires-in-Negative-clause-laid :
    goal.entered-reached-requires-in-Negative-clause-laid
entered-reached-requires-in-Negative-clause-laid g c =
    laid_out (g.B.Basis.input c.args.basis.now) c.args.net.now c.args.parts.now
    c.args.chart.now c.requires.filled.table_is c.requires.filled.done

pub returns-in-Negative : goal.returns-in-Negative
returns-in-Negative g c =
    let input = g.B.Basis.input c.args.basis.now in
    let chart = c.args.chart.now in
    let told = c.entered-reached-in-Negative.ensures in
    let js = c.entered-reached-in-Negative.result.ends.now in
    let cs = c.entered-reached-in-Negative.result.closers.now in
    let lower = (never_rises c.args.net.now c.args.parts.now c.requires.parts c.args.graph
    c.args.from.state c.args.edge.now c.requires.inside label.Negative c.in-Negative.is).0 in
    let part = opens c.args.net.now c.args.parts.now c.requires.parts c.args.graph
    c.args.from.state c.args.edge.now c.requires.inside label.Negative c.in-Negative.is in
    let into = c.refused_into.ensures in
    followed_negative input chart.last c.requires.ahead c.args.net.now c.args.parts.now
    c.requires.parts c.args.graph c.args.edge.now.target c.args.from.at c.args.found.now.items
    c.push_states-in-Negative.new.found.items c.args.edge.now.label c.in-Negative.is
    c.closing-closing.result.now
    (subst (λ l. TellsClosing c.args.net.now c.args.graph c.args.edge.now.target l)
    (sym c.closing-closing.ensures) part.1) js cs
    (entered_answer input c.args.net.now c.args.parts.now c.requires.parts chart
    c.args.begun c.args.graph c.args.from c.requires.filled c.requires.ready c.args.graph
    c.args.edge.now.target part.0.0 part.0.1 lower told.0 js cs told.1 told.2)
    c.refused_into.result.now into c.in_ok-push_states-in-Negative.ensures

pub returns-in-ContextEnd : goal.returns-in-ContextEnd
returns-in-ContextEnd g c =
    followed_close (g.B.Basis.input c.args.basis.now) c.args.chart.now.last c.requires.ahead
    c.args.net.now c.args.parts.now c.requires.parts c.args.graph c.args.edge.now.target
    c.args.from.at c.args.found.now.items c.args.found.now.items c.args.edge.now.label
    c.in-ContextEnd.is refl

pub returns-in_default : goal.returns-in_default
returns-in_default g c =
    let input = g.B.Basis.input c.args.basis.now in
    followed_plain input c.args.chart.now.last c.requires.ahead c.args.net.now c.args.parts.now
    c.requires.parts c.args.graph c.args.edge.now.target c.args.from.at c.args.found.now.items
    c.push_positions-in_default.new.found.items c.args.edge.now.label (
      c.in_default.not-Empty,
      c.in_default.not-Call,
      c.in_default.not-Positive,
      c.in_default.not-Negative,
      c.in_default.not-ContextEnd,
    )
    c.as_slice.result.now
    (from_none (λ k. Plain input c.args.edge.now.label c.args.from.at k) c.clear.new.self.items
    c.plain.new.positions.items c.as_slice.result.now c.clear.ensures.items
    c.as_slice.ensures.value c.in_ok-plain-in_default.ensures)
    c.in_ok-push_positions-in_default.ensures
