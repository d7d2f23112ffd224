use Rattle.std.proofs.Common.{List, ℕ, length, ap, sym, ◌∙◌, subst, refl, arith, ◌<◌, ◌^◌}
use Rattle.std.specs.Prelude.{option_copied}
use Rattle.std.specs.Str.{chars}
use Rattle.std.proofs.lemmas.Str.{encodes-chars}
use Rattle.ux_dict.specs.Parts.{goes_on, IsSifted}
use Rattle.ux_dict.proofs.PartLemmas.{IsFollowed-pushed, IsFollowed-none, front_fits}
use Rattle.ux_base.proofs.OrderedLists.{Contains-at, nil_from_first}
use Rattle.ux_dict.proofs.continuing.push_going_on.Goals as goal

pub returns-in_default : goal.returns-in_default
returns-in_default c front is =
    let part = c.args.part.now in
    let text = c.args.more.now in
    let same = sym (encodes-chars text c.utf8.more) in
    let next = c.going_on-next.result in
    let sift = subst (λ (b : List ℕ). IsSifted (goes_on part.len b) part next)
    c.as_bytes.ensures.value (c.going_on-next.ensures front is) in
    let first = sym c.first.ensures.value ∙ ap option_copied c.in_default.is in
    IsFollowed-none front (chars text) text part same is next sift c.args.parts.now.items
    (nil_from_first next.entries.now first)

pub returns-in_ok-push : goal.returns-in_ok-push
returns-in_ok-push c front is =
    let part = c.args.part.now in
    let text = c.args.more.now in
    let same = sym (encodes-chars text c.utf8.more) in
    let next = c.going_on-next.result in
    let sift = subst (λ (b : List ℕ). IsSifted (goes_on part.len b) part next)
    c.as_bytes.ensures.value (c.going_on-next.ensures front is) in
    let member = Contains-at next.entries.now c.in-Some.first.now 0 (sym c.in-Some.ensures.value) in
    let fits = front_fits front (chars text) text part same is next sift c.in-Some.first.now member in
    let small : length c.in-Some.first.now.form < 2 ^ 64 =
    omega (arith, c.form_len-len.ensures, c.form_len-len.type_inv) in
    IsFollowed-pushed front (chars text) text part same is next sift _ c.args.parts.now.items
    c.push.new.self.items refl refl
    (c.saturating_add.ensures ∙ omega (arith, fits, small)) c.in_ok-push.ensures.items
