use Rattle.std.proofs.Common.{ℕ, List, string_bytes, subst}
use Rattle.ux_tokens.specs.Numbers.{texts_in}
use Rattle.ux_tokens.specs.Cutting.{IsListing, RefusesCut}
use Rattle.ux_tokens.specs.Reading.{Refuses}
use Rattle.ux_tokens.proofs.ReadingLemmas.{exit, file_is, no_longer, refused}
use Rattle.ux_tokens.proofs.listing.token_file_of.Goals as goal

pub returns-in_err-texts-clause-refused : goal.returns-in_err-texts-clause-refused
returns-in_err-texts-clause-refused c =
    let alphabet = c.args.alphabet.now in
    let text = string_bytes c.args.text in
    let error = c.in_err-texts.field-0.0 in
    exit c.from_residual.result error (Refuses alphabet text)
    c.from_residual.ensures.1
    (refused alphabet text (string_bytes c.into_single_spaced-text.result)
    c.into_single_spaced-text.ensures error
    (subst (λ (bytes : List ℕ). RefusesCut alphabet bytes error) c.as_str.ensures.value
    c.in_err-texts.ensures.err))

pub returns-clause-ok : goal.returns-clause-ok
returns-clause-ok c =
    let spaced = string_bytes c.into_single_spaced-text.result in
    let texts = texts_in c.in_ok-texts.texts in
    let listing : IsListing c.args.alphabet.now spaced texts =
    subst (λ (bytes : List ℕ). IsListing c.args.alphabet.now bytes texts)
    c.as_str.ensures.value c.in_ok-texts.ensures.ok in
    file_is c.args.alphabet.now (string_bytes c.args.text) spaced c.into_single_spaced-text.ensures
    texts (string_bytes c.in_ok-print_texts.field-0) listing c.in_ok-print_texts.ensures

pub returns-clause-not_too_many : goal.returns-clause-not_too_many
returns-clause-not_too_many c =
    let spaced = string_bytes c.into_single_spaced-text.result in
    let texts = texts_in c.in_ok-texts.texts in
    let listing : IsListing c.args.alphabet.now spaced texts =
    subst (λ (bytes : List ℕ). IsListing c.args.alphabet.now bytes texts)
    c.as_str.ensures.value c.in_ok-texts.ensures.ok in
    no_longer c.args.alphabet.now (string_bytes c.args.text) spaced c.into_single_spaced-text.ensures
    listing.tokens listing.cut listing.few
