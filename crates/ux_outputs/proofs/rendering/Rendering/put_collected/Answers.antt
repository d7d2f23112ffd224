use Rattle.std.specs.Prelude.{◌≡◌, ◌++◌, List, ℕ, slice_range, string_bytes}
use Rattle.std.proofs.Common.{◌∙◌, ap}
use Rattle.std.proofs.lemmas.Str.{IsUtf8-string_bytes}
use Rattle.ux_outputs.specs.Rendering.{State, after_put}
use Rattle.ux_outputs.proofs.KeptLemmas.{IsCut-boundary, IsKept-written, collected-written, state_of-put, state_of-written, unwritten-written}
use Rattle.ux_outputs.proofs.rendering.Rendering.put_collected.Goals as goal

pub range-requires-clause-start_boundary : goal.range-requires-clause-start_boundary
range-requires-clause-start_boundary c some =
    IsCut-boundary (string_bytes c.args.self.now.collected) c.as_str.result.now c.args.from
    (IsUtf8-string_bytes c.args.self.now.collected) c.requires.place.1
    (c.as_str.ensures.value
    ∙ collected-written c.args.mode c.args.text.now c.args.self.now c.write.new.self
    c.in_ok-write.ensures)

pub range-requires-clause-end_boundary : goal.range-requires-clause-end_boundary
range-requires-clause-end_boundary c =
    IsCut-boundary (string_bytes c.args.self.now.collected) c.as_str.result.now c.args.to
    (IsUtf8-string_bytes c.args.self.now.collected) c.requires.place.2
    (c.as_str.ensures.value
    ∙ collected-written c.args.mode c.args.text.now c.args.self.now c.write.new.self
    c.in_ok-write.ensures)

pub extend_from_within-requires-clause-start_boundary : goal.extend_from_within-requires-clause-start_boundary
extend_from_within-requires-clause-start_boundary c =
    let cut = IsCut-boundary (string_bytes c.args.self.now.collected)
    (string_bytes c.write.new.self.collected) c.args.from
    (IsUtf8-string_bytes c.args.self.now.collected) c.requires.place.1
    (collected-written c.args.mode c.args.text.now c.args.self.now c.write.new.self
    c.in_ok-write.ensures) in
    (cut.0, λ some. cut.1)

pub extend_from_within-requires-clause-end_boundary : goal.extend_from_within-requires-clause-end_boundary
extend_from_within-requires-clause-end_boundary c =
    let cut = IsCut-boundary (string_bytes c.args.self.now.collected)
    (string_bytes c.write.new.self.collected) c.args.to
    (IsUtf8-string_bytes c.args.self.now.collected) c.requires.place.2
    (collected-written c.args.mode c.args.text.now c.args.self.now c.write.new.self
    c.in_ok-write.ensures) in
    (cut.0, λ some. cut.1)

pub returns-clause-state : goal.returns-clause-state
returns-clause-state c =
    let mode = c.args.mode in
    let tokens = c.args.text.now in
    let old = c.args.self.now in
    let written = c.write.new.self in
    let same = collected-written mode tokens old written c.in_ok-write.ensures in
    let part = slice_range (string_bytes old.collected) c.args.from c.args.to in
    let put : c.range.result.now ≡ part =
    c.range.ensures.value ∙ ap (λ (l : List ℕ). slice_range l c.args.from c.args.to)
    (c.as_str.ensures.value ∙ same) in
    let collected : string_bytes c.extend_from_within.new.self
    ≡ string_bytes written.collected ++ part =
    c.in_ok-extend_from_within.ensures.bytes
    ∙ ap (λ (l : List ℕ). string_bytes written.collected ++ slice_range l c.args.from c.args.to)
    same in
    state_of-put mode tokens written
    (record written { written = c.push_str.new.self; collected = c.extend_from_within.new.self })
    part (IsKept-written mode tokens old written c.in_ok-write.ensures c.requires.kept)
    (unwritten-written mode tokens old written c.in_ok-write.ensures)
    (c.in_ok-push_str.ensures.bytes
    ∙ ap (λ (l : List ℕ). string_bytes written.written ++ l) put)
    collected
    ∙ ap (λ (s : State). after_put s part)
    (state_of-written mode tokens old written c.in_ok-write.ensures)
