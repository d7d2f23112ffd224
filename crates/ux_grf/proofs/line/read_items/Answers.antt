use Rattle.std.proofs.Common.{rules, sym, ◌∙◌, ap, ◌≡◌}
use Rattle.ux_grf.specs.Items.{begin_by, begin_of, part, fault, fault_here, fault_later}
use Rattle.ux_grf.proofs.LinesLemmas.{reads_more, reads_all}
use Rattle.ux_grf.proofs.line.read_items.Goals as goal

pub returns-in-Over-clause-line : goal.returns-in-Over-clause-line
returns-in-Over-clause-line c =
    reads_all c.args.text.now c.loop-items.items.items c.loop-items.rest.now
    c.loop-items.invariant.reads
    (sym c.in_ok-read_start.ensures.begins ∙ ap begin_by c.in-Over.is)

pub returns-in-Bad-clause-bad : goal.returns-in-Bad-clause-bad
returns-in-Bad-clause-bad c =
    let is : begin_of c.loop-items.rest.now ≡ fault c.in-Bad.left.now =
    sym c.in_ok-read_start.ensures.begins ∙ ap begin_by c.in-Bad.is in
    c.loop-items.invariant.fails c.in-Bad.left.now (fault_here is)

pub loop-items-preserved : goal.loop-items-preserved
loop-items-preserved c =
    let is : begin_of c.loop-items.rest.now ≡ part c.in-Written.item c.in-Written.after.now =
    sym c.in_ok-read_start.ensures.begins ∙ ap begin_by c.in-Written.is in
    record {
      text = search rules;
      reads = reads_more c.args.text.now c.loop-items.items.items c.loop-items.rest.now
          c.loop-items.invariant.reads c.in-Written.item c.in-Written.after.now
          c.put.new.items.items is c.in_ok-put-in-Written.ensures;
      fails = λ left h. c.loop-items.invariant.fails left (fault_later is h);
      shorter = search rules;
    }
