-- How many entries have exactly a form, by the list to which its letters lead.
use Rattle.std.proofs.Common.{◌≡◌, ℕ, ◌<◌, List, Contains, length, map, sym, ◌∙◌, ap, subst, arith}
use Rattle.std.specs.Prelude.{IsUtf8, slice_get}
use Rattle.std.specs.Str.{chars}
use Rattle.std.proofs.lemmas.List.{length-map}
use Rattle.std.proofs.lemmas.List.Elements.{All-contains}
use Rattle.std.proofs.lemmas.Str.{encodes-chars}
use Rattle.ux_dawg.specs.Forms.{form_of}
use Rattle.ux_dawg.specs.Paths.{Accepts}
use Rattle.ux_dawg.specs.declared.state.Form.{Form}
use Rattle.ux_dict.specs.Forms.{count_of}
use Rattle.ux_image_lists.specs.Sizes.{forms_of}
use Rattle.ux_image_lexicon.specs.Counting.{told_of, AreCounts}
use Rattle.ux_image_lexicon.specs.Told.{content_in, entry_by, read_in, CodedForms, IsCoded, IsTold}
use Rattle.ux_image_lexicon.specs.declared.counts.Counts.{Counts}
use Rattle.ux_image_lexicon.proofs.CountLemmas.{count_at, count_none, different_made, once_some, text_of}
use Rattle.ux_image_lexicon.proofs.FindLemmas.{accepts_is}
use Rattle.ux_image_lexicon.proofs.FoundLemmas.{letters_are}

module _ (coded : CodedForms) (is : IsCoded coded) (text : List ℕ) (utf8 : IsUtf8 text) where
  -- as many as are told of the form, where its letters lead to a list
  pub exact_some : (counts : Counts) → AreCounts coded counts → (c : ℕ) →
      Accepts coded.states (chars text) c → (codes : ℕ) →
      codes ≡ length (read_in (slice_get coded.lists c)) →
      (told_of counts text codes ≡ count_of text (content_in coded))
      × (0 < told_of counts text codes)
  exact_some counts are c path codes many =
      let form : Form = form_of (chars text) c in
      let has = (accepts_is coded.states is.automaton (chars text) c).0 path in
      let same : text_of form ≡ text = encodes-chars text utf8 in
      let told = ap (told_of counts text) many
      ∙ ap (λ (l : List ℕ). told_of counts l (length (read_in (slice_get coded.lists c)))) (sym same)
      ∙ are.each form has in
      let counted = sym (count_at coded is form has)
      ∙ ap (λ (l : List ℕ). count_of l (content_in coded)) same in
      let list = read_in (slice_get coded.lists c) in
      let some = (All-contains (IsTold coded.lists) (forms_of coded.states) form is.told has).some in
      let long = length-map list (entry_by (text_of form)) in
      let made = once_some (map (entry_by (text_of form)) list) (omega (arith, some, long)) in
      let whole = different_made coded.lists form in
      (told ∙ counted, omega (arith, told, made, whole))

  -- and none, where they lead to none
  pub exact_none : ((c : ℕ) → Accepts coded.states (chars text) c → ⊥) →
      count_of text (content_in coded) ≡ 0
  exact_none stuck =
      count_none coded is text (λ f has same.
      let told = All-contains (IsTold coded.lists) (forms_of coded.states) f is.told has in
      let letters = letters_are coded.lists f told ∙ ap chars same in
      stuck f.code ((accepts_is coded.states is.automaton (chars text) f.code).1
      (subst (λ (l : List ℕ). Contains (forms_of coded.states) (form_of l f.code)) letters has)))
