use Rattle.std.proofs.Common.{◌≡◌, ◌∙◌, List, ℕ, [], ◌∷◌, ◌++◌, ap, map, sym}
use Rattle.std.specs.Prelude.{reverse}
use Rattle.std.specs.Str.{chars}
use Rattle.std.proofs.lemmas.Iterator.{YieldsList-from_chars}
use Rattle.std.proofs.lemmas.Iterator.Consumers.{YieldsList-end}
use Rattle.std.proofs.lemmas.List.{map-id}
use Rattle.indexmap.proofs.ReorderLemmas.{map-reverse}
use Rattle.ux_inflect.specs.Places.{kept_by}
use Rattle.ux_inflect.specs.Strokes.{Cursor}
use Rattle.ux_inflect.proofs.ListLemmas.{map_push}
use Rattle.ux_inflect.proofs.form.form_of.Goals as goal

pub loop-c-preserved : goal.loop-c-preserved
loop-c-preserved c =
    c.in_ok-push.ensures.items
    ∙ (ap (λ (l : List ℕ). l ++ c.kept.result ∷ []) c.loop-c.invariant
    ∙ (ap (λ (x : ℕ). map (kept_by c.args.detail) c.loop-c.yielded ++ x ∷ []) c.kept.ensures
    ∙ sym (map_push (kept_by c.args.detail) c.loop-c.yielded c.in-Some.c)))

pub returns : goal.returns
returns c =
    let t = YieldsList-end (YieldsList-from_chars c.args.lemma.now c.utf8.lemma cc)
    c.loop-c.yielded _ c.loop-c.yielded_by _ _ c.in-None.is c.next.ensures.steps in
    let whole : c.loop-c.yielded ≡ chars c.args.lemma.now =
    sym (map-id c.loop-c.yielded) ∙ t.0 in
    let left : reverse c.loop-c.left.items ≡
    map (kept_by c.args.detail) (reverse (chars c.args.lemma.now)) =
    ap (λ (l : List ℕ). reverse l) (c.loop-c.invariant
    ∙ ap (λ (l : List ℕ). map (kept_by c.args.detail) l) whole)
    ∙ sym (map-reverse (kept_by c.args.detail) (chars c.args.lemma.now)) in
    let right : reverse c.new.result.items ≡ [] = ap (λ (l : List ℕ). reverse l) c.new.ensures.items in
    let made : List ℕ → List ℕ → Cursor = λ l r. record { left = l; right = r } in
    λ i. made (left i) (right i)
