use Rattle.std.proofs.Common.{◌≡◌, ◌+◌, ◌∙◌, ◌++◌, ◌∷◌, [], ap, length, string_bytes}
use Rattle.ux_dela.proofs.TextsLemmas.{AreEnds-push, texts_from-push}
use Rattle.ux_dela.proofs.joined.Joined.push.Goals as goal

pub invariant_of-self-2 : goal.invariant_of-self-2
invariant_of-self-2 c =
    let ends = c.self.inside.ends.items in
    let text = string_bytes c.self.inside.text in
    let more = c.args.text.now in
    let behind : c.push.new.self.items ≡ ends ++ (length text + length more) ∷ [] =
    c.in_ok-push.ensures.items
    ∙ ap (λ e. e ++ c.in_ok-end.end ∷ []) c.in_ok-reserve.ensures.items
    ∙ ap (λ n. ends ++ n ∷ [])
    (c.in_ok-end.ensures ∙ ap (λ b. length b + length more) c.as_str.ensures.value) in
    rw (behind, c.in_ok-push_str.ensures.bytes)
    (AreEnds-push 0 ends text more c.utf8.text c.self.invariant)

pub returns : goal.returns
returns c =
    let ends = c.self.inside.ends.items in
    let text = string_bytes c.self.inside.text in
    let more = c.args.text.now in
    let behind : c.push.new.self.items ≡ ends ++ (length text + length more) ∷ [] =
    c.in_ok-push.ensures.items
    ∙ ap (λ e. e ++ c.in_ok-end.end ∷ []) c.in_ok-reserve.ensures.items
    ∙ ap (λ n. ends ++ n ∷ [])
    (c.in_ok-end.ensures ∙ ap (λ b. length b + length more) c.as_str.ensures.value) in
    rw (behind, c.in_ok-push_str.ensures.bytes, ← c.self.view_is)
    (texts_from-push 0 ends text more c.self.invariant)
