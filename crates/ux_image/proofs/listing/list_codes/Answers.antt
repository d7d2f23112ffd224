use Rattle.std.proofs.Common.{ℕ, List, [], ◌∷◌, ◌++◌, ◌∙◌, ap}
use Rattle.std.specs.Str.{chars}
use Rattle.std.specs.Prelude.{slice_get}
use Rattle.ux_dawg.specs.Forms.{form_of}
use Rattle.ux_dela.specs.declared.entry.Entry.{Entry}
use Rattle.ux_image.proofs.GroupLemmas.{comes_next, grouped_start, grouped_step, behind_shorter, grouped_end}
use Rattle.ux_image.proofs.listing.list_codes.Goals as goal

pub loop-first-init : goal.loop-first-init
loop-first-init c =
    grouped_start c.args.content.now _ _ c.requires c.new-register.ensures c.new-builder.ensures

pub loop-first-smaller : goal.loop-first-smaller
loop-first-smaller c =
    behind_shorter c.args.content.now c.loop-first.rest.now c.split_at.result.0.now
    c.split_at.result.1.now c.in-Some.first.now c.in-Some.later.now c.form-form.result.now
    c.run_len.result c.in-Some.ensures.cases.0 c.form-form.ensures c.run_len.ensures
    c.split_at.ensures.front c.split_at.ensures.back

pub with_form-requires : goal.with_form-requires
with_form-requires c =
    comes_next c.args.content.now c.loop-first.rest.now _ c.loop-first.builder c.in-Some.first.now _
    c.loop-first.invariant (ap (λ (entries : List Entry). slice_get entries 0)
    c.in-Some.ensures.cases.0)
    (c.deref.ensures.value ∙ c.in_ok-spell.ensures ∙ ap chars c.form-form.ensures)

pub loop-first-preserved : goal.loop-first-preserved
loop-first-preserved c =
    grouped_step c.args.content.now c.loop-first.rest.now c.split_at.result.0.now
    c.split_at.result.1.now c.in-Some.first.now c.in-Some.later.now c.form-form.result.now
    c.run_len.result c.in-Some.ensures.cases.0 c.form-form.ensures c.run_len.ensures
    c.split_at.ensures.front c.split_at.ensures.back c.loop-first.register.lists.keys
    c.keep.new.self.lists.keys c.loop-first.builder c.in_ok-builder.builder c.loop-first.invariant
    (record {
      number = c.in_ok-number.number;
      kept = c.in_ok-number.ensures;
      pushed = c.in_ok-builder.ensures ∙ ap (λ (letters : List ℕ). c.loop-first.builder
          ++ form_of letters c.in_ok-number.number ∷ [])
          (c.deref.ensures.value ∙ c.in_ok-spell.ensures);
    })

pub returns : goal.returns
returns c =
    grouped_end c.args.content.now c.loop-first.rest.now _ _ c.loop-first.invariant
    c.in_default.ensures.cases
