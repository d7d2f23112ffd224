use Rattle.std.proofs.Common.{arith, ap, length, string_bytes}
use Rattle.std.proofs.lemmas.Result.{err_from_is_err_and}
use Rattle.std.proofs.lemmas.Slice.Zip.{AllZip-long}
use Rattle.ux_tokens.specs.Numbers.{texts_in}
use Rattle.ux_cmd_inflect.specs.Classes.{HasNumber}
use Rattle.ux_cmd_inflect.specs.Files.{IsNetAt}
use Rattle.ux_cmd_inflect.proofs.ClassLemmas.{net_here, nets_stay, number_within}
use Rattle.ux_cmd_inflect.proofs.FormLemmas.{forms_more, inflectable_more, stem_stops}
use Rattle.ux_cmd_inflect.proofs.inflecting.inflected.Goals as goal

pub number_at-number-requires : goal.number_at-number-requires
number_at-number-requires c =
    let long = AllZip-long (HasNumber (texts_in c.args.classes.now.names)) c.args.stems.now
    c.args.classes.now.numbers.items c.requires.classed.numbered in
    omega (arith, long, c.loop-place-test.true)

pub index_mut-requires : goal.index_mut-requires
index_mut-requires c =
    let within = number_within c.args.stems.now (texts_in c.args.classes.now.names)
    c.args.classes.now.numbers.items c.requires.classed c.loop-place.place
    c.index-stems-place.result c.number_at-number.result c.loop-place-test.true
    c.index-stems-place.is c.number_at-number.ensures c.args.paradigms.items
    c.loop-place.paradigms.items c.loop-place.invariant.nets c.requires.nets in
    omega (arith, within, c.loop-place.paradigms.ok)

-- this lemma is refused
pub returns-in_err-put_forms-clause-err : goal.returns-in_err-put_forms-clause-err
returns-in_err-put_forms-clause-err c =
    let p = err_from_is_err_and c.from_residual.result c.from_residual.ensures.1 in
    let names = texts_in c.args.classes.now.names in
    let stem = c.index-stems-place.result in
    let net = c.index_mut.result.now in
    let is_net = net_here c.args.stems.now names c.args.classes.now.numbers.items
    c.requires.classed c.loop-place.place stem c.number_at-number.result c.loop-place-test.true
    c.index-stems-place.is c.number_at-number.ensures c.args.paradigms.items
    c.loop-place.paradigms.items c.loop-place.invariant.nets c.requires.nets net
    c.index_mut.ensures.value in
    rw (p.1, p.2) (stem_stops (IsNetAt names c.args.paradigms.items) c.args.stems.now
    c.loop-place.place stem c.loop-place-test.true c.index-stems-place.is c.args.word.now net
    c.in_err-put_forms.field-0.0 c.loop-place.invariant.inflectable is_net
    c.in_err-put_forms.ensures.err)

-- this lemma was inflected
pub loop-place-preserved : goal.loop-place-preserved
loop-place-preserved c =
    let names = texts_in c.args.classes.now.names in
    let nets = c.args.paradigms.items in
    let stem = c.index-stems-place.result in
    let net = c.index_mut.result.now in
    let is_net = net_here c.args.stems.now names c.args.classes.now.numbers.items
    c.requires.classed c.loop-place.place stem c.number_at-number.result c.loop-place-test.true
    c.index-stems-place.is c.number_at-number.ensures nets c.loop-place.paradigms.items
    c.loop-place.invariant.nets c.requires.nets net c.index_mut.ensures.value in
    record {
      nets = nets_stay c.args.stems.now names c.args.classes.now.numbers.items c.requires.classed
          c.loop-place.place stem c.number_at-number.result c.loop-place-test.true
          c.index-stems-place.is c.number_at-number.ensures nets c.loop-place.paradigms.items
          c.loop-place.invariant.nets c.requires.nets net c.index_mut.ensures.value
          c.put_forms.new.paradigm c.in_ok-put_forms.ensures.same;
      forms = forms_more (IsNetAt names nets) c.args.stems.now c.loop-place.place stem
          c.loop-place-test.true c.index-stems-place.is net (string_bytes c.loop-place.lines)
          (string_bytes c.put_forms.new.lines) c.loop-place.invariant.forms is_net
          c.in_ok-put_forms.ensures.ok;
      inflectable = inflectable_more (IsNetAt names nets) c.args.stems.now c.loop-place.place stem
          c.loop-place-test.true c.index-stems-place.is net c.loop-place.invariant.inflectable
          is_net c.in_ok-put_forms.ensures.accepted;
    }
