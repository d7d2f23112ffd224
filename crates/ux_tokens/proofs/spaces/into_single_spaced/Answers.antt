use Rattle.std.proofs.Common.{◌≡◌, string_bytes, take, sym, ◌∙◌, ap, subst, rules}
use Rattle.std.specs.Str.{IsUtf8}
use Rattle.std.proofs.lemmas.Str.{IsUtf8-string_bytes}
use Rattle.std.proofs.lemmas.Bool.{false≢true}
use Rattle.std.proofs.lemmas.List.{with_items_is, places}
use Rattle.ux_tokens.specs.Tokens.{with_single_spaces}
use Rattle.ux_tokens.proofs.SpacedLemmas.{spaced_utf8}
use Rattle.ux_tokens.proofs.spaces.into_single_spaced.Goals as goal

pub unreachable-requires : goal.unreachable-requires
unreachable-requires c =
    let text = string_bytes c.args.text in
    let bytes = rw c.into_bytes-bytes.ensures.value at c.as_mut_slice.ensures.value in
    let joined = c.join_white_space-len in
    let same = with_items_is c.into_bytes-bytes.result joined.new.bytes (search (rules, places)) in
    let spaced : c.truncate.new.self.items ≡ with_single_spaces text =
    c.truncate.ensures.items ∙ ap (take joined.result) same ∙ joined.ensures.joined
    ∙ ap with_single_spaces bytes in
    false≢true (c.in-Err.ensures.succeeds
    (subst IsUtf8 (sym spaced) (spaced_utf8 text (IsUtf8-string_bytes c.args.text))))
