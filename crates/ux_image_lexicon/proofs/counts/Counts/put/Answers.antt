use Rattle.std.proofs.Common.{◌≡◌, ◌∙◌, ℕ, List, ap, cond, inr, subst, string_bytes}
use Rattle.std.specs.Prelude.{Some, bytes_eq}
use Rattle.std.proofs.lemmas.Map.Text.{hash_map_updates_text}
use Rattle.indexmap.specs.IndexMap.{get_by_text}
use Rattle.ux_image_lexicon.proofs.counts.Counts.put.Goals as goal

pub returns-in_ok-insert : goal.returns-in_ok-insert
returns-in_ok-insert c =
    let old = c.args.self.now.fewer in
    let new = c.insert.new.self in
    let made = c.args.made in
    let form = string_bytes c.in_ok-text_of.field-0 in
    let updated = hash_map_updates_text form c.add.new.self.fewer new (Some made)
    c.in_ok-insert.ensures.updates in
    record {
      total = c.add.ensures.total;
      fewer = inr (subst (λ (l : List ℕ). (text : List ℕ) →
          get_by_text new text ≡ cond (bytes_eq l text) (Some made) (get_by_text old text))
          c.in_ok-text_of.ensures (λ text.
          updated text
          ∙ ap (λ m. cond (bytes_eq form text) (Some made) (get_by_text m text)) c.add.ensures.fewer));
    }
