use Rattle.std.proofs.Common.{◌≡◌, List, ℕ, [], ◌∷◌, refl, subst, sym, ap, ◌∙◌}
use Rattle.std.specs.Prelude.{string_bytes}
use Rattle.std.specs.Str.{chars}
use Rattle.std.proofs.lemmas.Iterator.{YieldsList-from_chars}
use Rattle.std.proofs.lemmas.Iterator.Consumers.{YieldsList-end}
use Rattle.std.proofs.lemmas.List.{map-id}
use Rattle.std.proofs.lemmas.Result.{IfOk-weaker}
use Rattle.std.proofs.lemmas.Str.{chars-nil, IsUtf8-string_bytes}
use Rattle.ux_dict.specs.declared.parts.Part.{Part}
use Rattle.ux_dict.specs.Parts.{GoOn, GoOnAlone}
use Rattle.ux_dict.proofs.RunLemmas.{but_start, but_longer, but_other, but_end, chars-pushed}
use Rattle.ux_dict.proofs.continuing.gone_on_by_runs.Goals as goal

pub loop-c-init : goal.loop-c-init
loop-c-init c =
    but_start c.args.alphabet.now c.args.letters.now c.args.parts.now
    (chars (string_bytes c.in_ok-run.run')) c.in_ok-next.next.items
    (ap chars c.in_ok-run.ensures.bytes ∙ chars-nil) c.in_ok-next.ensures.items

-- a character that no other fits is put behind the run
pub loop-c-preserved-then-fits_alone : goal.loop-c-preserved-then-fits_alone
loop-c-preserved-then-fits_alone c =
    let old = string_bytes c.loop-c.run in
    let new = string_bytes c.push.new.self in
    but_longer c.args.alphabet.now c.args.letters.now c.args.parts.now c.loop-c.yielded (chars old)
    (chars new) c.in-Some.c c.loop-c.next.items c.loop-c.invariant
    (c.if-fits_alone.ensures.0 refl)
    (chars-pushed old new c.in-Some.c (IsUtf8-string_bytes c.loop-c.run)
    (IsUtf8-string_bytes c.push.new.self) c.in_ok-push.ensures.bytes)

-- another one ends the run
pub loop-c-preserved : goal.loop-c-preserved
loop-c-preserved c =
    let lines = c.args.alphabet.now in
    let letters = c.args.letters.now in
    let parts = c.loop-c.next.items in
    let behind = c.in_ok-behind.behind.items in
    let next = c.in_ok-next-2.next.items in
    let goes = subst (λ (l : List ℕ). GoOnAlone l parts behind) (ap chars c.as_str.ensures.value)
    c.in_ok-behind.ensures in
    let on = subst (λ (l : List Part). GoOn lines letters (c.in-Some.c ∷ []) l next)
    c.deref.ensures.value c.in_ok-next-2.ensures in
    but_other lines letters c.args.parts.now c.loop-c.yielded (chars (string_bytes c.loop-c.run))
    (chars (string_bytes c.clear.new.self)) c.in-Some.c parts behind next c.loop-c.invariant goes on
    (ap chars c.clear.ensures.bytes ∙ chars-nil)

-- all characters were met
pub returns : goal.returns
returns c =
    let lines = c.args.alphabet.now in
    let letters = c.args.letters.now in
    let first = c.args.parts.now in
    let parts = c.loop-c.next.items in
    let t = YieldsList-end (YieldsList-from_chars c.args.text.now c.utf8.text cc) c.loop-c.yielded _
    c.loop-c.yielded_by _ _ c.in-None.is c.next.ensures.steps in
    let whole : c.loop-c.yielded ≡ chars c.args.text.now =
    sym (map-id c.loop-c.yielded) ∙ t.0 in
    IfOk-weaker c.behind_run-2.result _ _
    (λ last goes.
    subst (λ (l : List ℕ). GoOn lines letters l first last.items) whole
    (but_end lines letters first c.loop-c.yielded (chars (string_bytes c.loop-c.run)) parts
    last.items c.loop-c.invariant (subst (λ (l : List ℕ). GoOnAlone l parts last.items)
    (ap chars c.as_str-2.ensures.value) goes))) c.behind_run-2.ensures
