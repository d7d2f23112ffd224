use Rattle.std.proofs.Common.{◌∙◌, ◌∷◌, length, ap, arith, get_or, string_bytes}
use Rattle.std.proofs.lemmas.List.{get_or_read}
use Rattle.std.proofs.lemmas.Str.{IsUtf8-string_bytes}
use Rattle.ux_dela.proofs.TextsLemmas.{number_below, text_at, text_cut}
use Rattle.ux_dela.proofs.joined.Joined.text.Goals as goal

pub begin_of-begin-requires : goal.begin_of-begin-requires
begin_of-begin-requires c =
    let below = number_below c.self.inside.ends.items (string_bytes c.self.inside.text)
    c.args.self.now c.args.number c.self.view_is c.requires in
    omega (arith, below, ap length c.as_slice.ensures.value)

pub index-requires : goal.index-requires
index-requires c =
    let below = number_below c.self.inside.ends.items (string_bytes c.self.inside.text)
    c.args.self.now c.args.number c.self.view_is c.requires in
    omega (arith, below, c.self.inside.ends.ok.0)

pub range-requires : goal.range-requires
range-requires c =
    let ends = c.self.inside.ends.items in
    let number = c.args.number in
    let below = number_below ends (string_bytes c.self.inside.text) c.args.self.now number
    c.self.view_is c.requires in
    let cut = text_cut ends (string_bytes c.self.inside.text) c.as_str.result.now number
    c.begin_of-begin.result c.index.result.now (IsUtf8-string_bytes c.self.inside.text)
    c.self.invariant below
    (c.begin_of-begin.ensures ∙ ap (λ e. get_or (0 ∷ e) number 0) c.as_slice.ensures.value)
    (get_or_read ends number c.index.result.now below c.index.ensures 0)
    c.as_str.ensures.value in
    record { start_le_end = cut.0; start_boundary = λ _. cut.1; end_boundary = cut.2 }

pub returns : goal.returns
returns c =
    let ends = c.self.inside.ends.items in
    let number = c.args.number in
    let below = number_below ends (string_bytes c.self.inside.text) c.args.self.now number
    c.self.view_is c.requires in
    c.range.ensures.value
    ∙ text_at ends (string_bytes c.self.inside.text) c.as_str.result.now c.args.self.now number
    c.begin_of-begin.result c.index.result.now below
    (c.begin_of-begin.ensures ∙ ap (λ e. get_or (0 ∷ e) number 0) c.as_slice.ensures.value)
    (get_or_read ends number c.index.result.now below c.index.ensures 0)
    c.as_str.ensures.value c.self.view_is
