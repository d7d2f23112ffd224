use Rattle.std.proofs.Common.{arith, get_or, refl}
use Rattle.std.proofs.lemmas.List.Elements.{Contains-get_or}
use Rattle.ux_automaton.specs.declared.step.Landing.{Landing}
use Rattle.ux_walker.proofs.WalkLemmas.{keeps_both, keeps_itself, lead_all, lead_more, lead_none, may_kept, ready_from}
use Rattle.ux_walker.proofs.walking.put_landings.Goals as goal

abbrev no_landing : Landing
no_landing = record { at = 0; front = 0 }

pub loop-landing-init : goal.loop-landing-init
loop-landing-init c = record {
  keeps = keeps_itself c.args.automaton.now;
  ready = c.requires.ready;
  leads = lead_none c.args.automaton.now c.args.agenda.now c.args.landings.now;
}

pub put-requires : goal.put-requires
put-requires c =
    let landing = get_or c.args.landings.now c.loop-landing.landing-index no_landing in
    let may = c.requires.landings landing (Contains-get_or c.args.landings.now
    c.loop-landing.landing-index no_landing c.loop-landing-test.true) in
    record {
      may = may_kept c.args.automaton.now c.loop-landing.automaton c.loop-landing.invariant.keeps
          landing.front landing.at may.0;
      ready = ready_from c.loop-landing.automaton 0 c.args.low c.loop-landing.agenda (omega arith)
          c.loop-landing.invariant.ready;
    }

pub loop-landing-preserved : goal.loop-landing-preserved
loop-landing-preserved c =
    let index = c.loop-landing.landing-index in
    let landing = get_or c.args.landings.now index no_landing in
    let may = c.requires.landings landing (Contains-get_or c.args.landings.now index no_landing
    c.loop-landing-test.true) in
    record {
      keeps = keeps_both c.args.automaton.now c.loop-landing.automaton c.put.new.automaton
          c.loop-landing.invariant.keeps c.in_ok-put.ensures.keeps;
      ready = c.in_ok-put.ensures.ready c.args.low may.1 c.loop-landing.invariant.ready;
      leads = lead_more c.args.automaton.now c.args.agenda.now c.args.landings.now
          c.loop-landing.automaton c.put.new.automaton c.loop-landing.agenda c.put.new.agenda index
          landing no_landing c.loop-landing-test.true refl c.loop-landing.invariant.keeps may.0.is
          c.loop-landing.invariant.leads c.in_ok-put.ensures.leads;
    }

pub returns : goal.returns
returns c = record {
  keeps = c.loop-landing.invariant.keeps;
  ready = c.loop-landing.invariant.ready;
  leads = lead_all c.args.automaton.now c.args.agenda.now c.args.landings.now
      c.loop-landing.automaton c.loop-landing.agenda c.loop-landing.landing-index
      c.loop-landing-test.false c.loop-landing.invariant.leads;
}
