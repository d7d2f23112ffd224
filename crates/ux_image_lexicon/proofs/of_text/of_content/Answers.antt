use Rattle.std.proofs.Common.{arith, ◌≡◌, List, length, subst, sym, ap, ◌∙◌}
use Rattle.std.specs.Prelude.{All}
use Rattle.std.proofs.lemmas.Result.{IfOk-weaker}
use Rattle.ux_dela.specs.declared.entry.Entry.{Entry}
use Rattle.ux_image.specs.Contents.{AreForms, HasTexts, IsContent}
use Rattle.ux_image_lexicon.specs.Counting.{TellsEach}
use Rattle.ux_image_lexicon.specs.Told.{content_in, CodedForms}
use Rattle.ux_image_lexicon.proofs.TextLemmas.{lists_are, text_told}
use Rattle.ux_image_lexicon.proofs.of_text.of_content.Goals as goal

pub list_codes-requires : goal.list_codes-requires
list_codes-requires c =
    subst IsContent (c.deref.ensures.value ∙ sym c.deref-2.ensures.value)
    c.dictionary_is_content.ensures.content

pub read_lists-requires : goal.read_lists-requires
read_lists-requires c =
    let listing = c.in_ok-builder.field-0 in
    lists_are c.args.content.items c.requires
    (subst (λ (l : List Entry). All HasTexts l) c.deref.ensures.value
    c.dictionary_is_content.ensures.texts) listing.lists.keys listing.builder
    (subst (λ (l : List Entry). AreForms l listing.lists.keys listing.builder)
    c.deref-2.ensures.value c.in_ok-builder.ensures)

pub new-requires : goal.new-requires
new-requires c =
    (text_told c.args.content.items c.deref.result.now c.deref-2.result.now c.deref.ensures.value
    c.deref-2.ensures.value c.requires c.dictionary_is_content.ensures.content
    c.dictionary_is_content.ensures.texts c.in_ok-builder.field-0.lists.keys
    c.in_ok-builder.field-0.builder c.in_ok-builder.ensures c.in_ok-states.states
    c.in_ok-states.ensures.minimal c.in_ok-states.ensures.few
    (omega (arith, c.len-total.ensures, c.len-total.type_inv)) c.in_ok-read.read.items
    c.in_ok-read.ensures).is

pub of_counted-requires : goal.of_counted-requires
of_counted-requires c =
    let told = text_told c.args.content.items c.deref.result.now c.deref-2.result.now c.deref.ensures.value
    c.deref-2.ensures.value c.requires c.dictionary_is_content.ensures.content
    c.dictionary_is_content.ensures.texts c.in_ok-builder.field-0.lists.keys
    c.in_ok-builder.field-0.builder c.in_ok-builder.ensures c.in_ok-states.states
    c.in_ok-states.ensures.minimal c.in_ok-states.ensures.few
    (omega (arith, c.len-total.ensures, c.len-total.type_inv)) c.in_ok-read.read.items
    c.in_ok-read.ensures in
    let same : record { states = c.in_ok-states.states; lists = c.in_ok-read.read.items }
    ≡ c.new.result =
    λ i. record { states = sym c.new.ensures.states i; lists = sym c.new.ensures.lists i } in
    subst (TellsEach c.new.result)
    (sym (ap (length {A = Entry}) c.deref.ensures.value) ∙ c.deref.ensures.len
    ∙ sym c.len-total.ensures)
    (subst (λ (x : CodedForms). TellsEach x (length c.args.content.items)) same told.each)

pub returns : goal.returns
returns c =
    let told = text_told c.args.content.items c.deref.result.now c.deref-2.result.now c.deref.ensures.value
    c.deref-2.ensures.value c.requires c.dictionary_is_content.ensures.content
    c.dictionary_is_content.ensures.texts c.in_ok-builder.field-0.lists.keys
    c.in_ok-builder.field-0.builder c.in_ok-builder.ensures c.in_ok-states.states
    c.in_ok-states.ensures.minimal c.in_ok-states.ensures.few
    (omega (arith, c.len-total.ensures, c.len-total.type_inv)) c.in_ok-read.read.items
    c.in_ok-read.ensures in
    let same : c.new.result
    ≡ record { states = c.in_ok-states.states; lists = c.in_ok-read.read.items } =
    λ i. record { states = c.new.ensures.states i; lists = c.new.ensures.lists i } in
    IfOk-weaker c.of_counted.result _ _
    (λ lexicon is. is ∙ ap content_in same ∙ told.again) c.of_counted.ensures
