use Rattle.std.proofs.Common.{◌≡◌, ◌+◌, List, sym, subst, take, ap, ◌∙◌, arith}
use Rattle.std.specs.List.{AllZip, flat_map}
use Rattle.std.proofs.lemmas.List.{take_all}
use Rattle.std.specs.Prelude.{slice_get}
use Rattle.std.proofs.lemmas.Option.{slice_get_within}
use Rattle.ux_net.specs.Whole.{whole_states_of}
use Rattle.ux_net.specs.declared.state.State.{State}
use Rattle.ux_fst2_file.specs.declared.file.Fst2State.{Fst2State}
use Rattle.ux_fst2.specs.Files.{IsStateBy, IsPrintedBy, tags_of_state}
use Rattle.ux_fst2.specs.Inner.{with_texts}
use Rattle.ux_fst2.proofs.PrintingLemmas.{as_many, both_told, found_at, printed_grown, texts_more}
use Rattle.ux_fst2.proofs.ReadingLemmas.{lift_states}
use Rattle.ux_fst2.proofs.Zips.{zip-more_right}
use Rattle.ux_fst2.proofs.printing.states_of.Goals as goal

pub loop-state-preserved : goal.loop-state-preserved
loop-state-preserved c =
    let states : List State = whole_states_of c.args.net.now c.args.graph in
    let i = c.loop-state.state in
    let old = c.loop-state.tags.keys in
    let new = c.state_of.new.tags.keys in
    let told : List Fst2State = c.loop-state.told.items in
    let one = c.in_ok-state_of.ensures in
    let both = both_told (slice_get states i)
    (λ (s : State). new ≡ with_texts old (tags_of_state s))
    (IsStateBy (IsPrintedBy new) c.in_ok-state_of.field-0) one.tags one.state in
    let state = both.0 in
    let below = slice_get_within states i state both.1 in
    let at = found_at states i state both.1 in
    record {
      tags = texts_more tags_of_state c.args.tags.now.keys old new states i state below at
          c.loop-state.invariant.tags both.2;
      states = subst (λ (l : List Fst2State).
          AllZip (IsStateBy (IsPrintedBy new)) l (take (i + 1) states))
          (sym {A = List Fst2State} c.in_ok-push.ensures.items)
          (zip-more_right (IsStateBy (IsPrintedBy new)) told states i c.in_ok-state_of.field-0 state
          below at
          (lift_states (IsPrintedBy old) (IsPrintedBy new)
          (printed_grown old new (tags_of_state state) both.2) told (take i states)
          c.loop-state.invariant.states) both.3);
    }

pub returns : goal.returns
returns c =
    let states : List State = whole_states_of c.args.net.now c.args.graph in
    let count = c.states-count.result in
    let many = as_many c.args.net.now c.args.graph count c.states-count.ensures.count in
    let whole : take c.loop-state.state states ≡ states =
    take_all c.loop-state.state states (omega (arith, many, c.loop-state-test.false)) in
    let at = c.loop-state.invariant in
    let new = c.loop-state.tags.keys in
    record {
      tags = at.tags ∙ ap (λ (s : List State). with_texts c.args.tags.now.keys
          (flat_map tags_of_state s)) whole;
      states = subst (AllZip (IsStateBy (IsPrintedBy new)) c.loop-state.told.items) whole at.states;
    }
