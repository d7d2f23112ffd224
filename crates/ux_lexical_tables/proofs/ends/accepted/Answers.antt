use Rattle.std.proofs.Common.{◌≡◌}
use Rattle.ux_masks.specs.Meets.{MeetsParts}
use Rattle.ux_tokens.specs.declared.kind.Kind.TheVariants.{Word, Other, Tag}
use Rattle.ux_lexical_tables.specs.declared.spelling.Case.TheVariants.{Lower, Upper, First}
use Rattle.ux_lexical_tables.specs.Accepting.{IsAny, IsTokenKind, IsWordSo}
use Rattle.ux_lexical_tables.specs.Ends.{IsOfCase}
use Rattle.ux_lexical_tables.proofs.EndsLemmas.{compound_answers, entry_answers, for_mask, members_within, refuse_answers, row_is, simple_ends, token_ends, without_ends}
use Rattle.ux_lexical_tables.proofs.ends.accepted.Goals as goal

pub returns-in-Word-clause-ends : goal.returns-in-Word-clause-ends
returns-in-Word-clause-ends c =
    for_mask c.args.text.now c.args.tables.now c.args.i c.one.result c.args.alphabet.now
    c.args.mask.now _ c.in-Word.is
    (token_ends c.args.text.now c.args.tables.now c.args.i c.one.result
    (λ t. t.kind ≡ Word) c.is_kind.result c.is_kind.ensures c.one.ensures)

pub returns-in-NotWord-clause-ends : goal.returns-in-NotWord-clause-ends
returns-in-NotWord-clause-ends c =
    for_mask c.args.text.now c.args.tables.now c.args.i c.one-in-NotWord.result c.args.alphabet.now
    c.args.mask.now _ c.in-NotWord.is
    (token_ends c.args.text.now c.args.tables.now c.args.i c.one-in-NotWord.result
    (λ t. t.kind ≡ Other) c.is_kind-in-NotWord.result c.is_kind-in-NotWord.ensures c.one-in-NotWord.ensures)

pub returns-in-Lower-clause-ends : goal.returns-in-Lower-clause-ends
returns-in-Lower-clause-ends c =
    for_mask c.args.text.now c.args.tables.now c.args.i c.one-in-Lower.result c.args.alphabet.now
    c.args.mask.now _ c.in-Lower.is
    (token_ends c.args.text.now c.args.tables.now c.args.i c.one-in-Lower.result
    (IsWordSo (IsOfCase c.args.alphabet.now Lower)) c.is_word_of.result c.is_word_of.ensures c.one-in-Lower.ensures)

pub returns-in-NotLower-clause-ends : goal.returns-in-NotLower-clause-ends
returns-in-NotLower-clause-ends c =
    for_mask c.args.text.now c.args.tables.now c.args.i c.one-in-NotLower.result c.args.alphabet.now
    c.args.mask.now _ c.in-NotLower.is
    (token_ends c.args.text.now c.args.tables.now c.args.i c.one-in-NotLower.result
    (IsWordSo (λ word. IsOfCase c.args.alphabet.now Lower word → ⊥)) c.is_word_beyond.result c.is_word_beyond.ensures c.one-in-NotLower.ensures)

pub returns-in-Upper-clause-ends : goal.returns-in-Upper-clause-ends
returns-in-Upper-clause-ends c =
    for_mask c.args.text.now c.args.tables.now c.args.i c.one-in-Upper.result c.args.alphabet.now
    c.args.mask.now _ c.in-Upper.is
    (token_ends c.args.text.now c.args.tables.now c.args.i c.one-in-Upper.result
    (IsWordSo (IsOfCase c.args.alphabet.now Upper)) c.is_word_of-in-Upper.result c.is_word_of-in-Upper.ensures c.one-in-Upper.ensures)

pub returns-in-NotUpper-clause-ends : goal.returns-in-NotUpper-clause-ends
returns-in-NotUpper-clause-ends c =
    for_mask c.args.text.now c.args.tables.now c.args.i c.one-in-NotUpper.result c.args.alphabet.now
    c.args.mask.now _ c.in-NotUpper.is
    (token_ends c.args.text.now c.args.tables.now c.args.i c.one-in-NotUpper.result
    (IsWordSo (λ word. IsOfCase c.args.alphabet.now Upper word → ⊥)) c.is_word_beyond-in-NotUpper.result c.is_word_beyond-in-NotUpper.ensures c.one-in-NotUpper.ensures)

pub returns-in-First-clause-ends : goal.returns-in-First-clause-ends
returns-in-First-clause-ends c =
    for_mask c.args.text.now c.args.tables.now c.args.i c.one-in-First.result c.args.alphabet.now
    c.args.mask.now _ c.in-First.is
    (token_ends c.args.text.now c.args.tables.now c.args.i c.one-in-First.result
    (IsWordSo (IsOfCase c.args.alphabet.now First)) c.is_word_of-in-First.result c.is_word_of-in-First.ensures c.one-in-First.ensures)

pub returns-in-NotFirst-clause-ends : goal.returns-in-NotFirst-clause-ends
returns-in-NotFirst-clause-ends c =
    for_mask c.args.text.now c.args.tables.now c.args.i c.one-in-NotFirst.result c.args.alphabet.now
    c.args.mask.now _ c.in-NotFirst.is
    (token_ends c.args.text.now c.args.tables.now c.args.i c.one-in-NotFirst.result
    (IsWordSo (λ word. IsOfCase c.args.alphabet.now First word → ⊥)) c.is_word_beyond-in-NotFirst.result c.is_word_beyond-in-NotFirst.ensures c.one-in-NotFirst.ensures)

pub returns-in-Dic-clause-ends : goal.returns-in-Dic-clause-ends
returns-in-Dic-clause-ends c =
    for_mask c.args.text.now c.args.tables.now c.args.i c.entry_ends.result c.args.alphabet.now
    c.args.mask.now _ c.in-Dic.is
    (entry_answers c.args.text.now c.args.tables.now c.args.i c.entry_ends.result c.simple-simple.result.now (row_is _ _ c.simple-simple.ensures)
    IsAny c.compounds-compounds.result.now (row_is _ _ c.compounds-compounds.ensures) c.entry_ends.ensures)

pub returns-in-NotDic-clause-ends : goal.returns-in-NotDic-clause-ends
returns-in-NotDic-clause-ends c =
    for_mask c.args.text.now c.args.tables.now c.args.i c.one-in-NotDic.result c.args.alphabet.now
    c.args.mask.now _ c.in-NotDic.is
    (without_ends c.args.text.now c.args.tables.now c.args.i c.one-in-NotDic.result c.simple-simple.result.now (row_is _ _ c.simple-simple.ensures)
    IsAny c.is_word_without.result c.is_word_without.ensures c.one-in-NotDic.ensures)

pub returns-in-SDic-clause-ends : goal.returns-in-SDic-clause-ends
returns-in-SDic-clause-ends c =
    for_mask c.args.text.now c.args.tables.now c.args.i c.one-in-SDic.result c.args.alphabet.now
    c.args.mask.now _ c.in-SDic.is
    (simple_ends c.args.text.now c.args.tables.now c.args.i c.one-in-SDic.result c.simple-simple.result.now (row_is _ _ c.simple-simple.ensures)
    IsAny c.has_entry.result c.has_entry.ensures c.one-in-SDic.ensures)

pub returns-in-NotSDic-clause-ends : goal.returns-in-NotSDic-clause-ends
returns-in-NotSDic-clause-ends c =
    for_mask c.args.text.now c.args.tables.now c.args.i c.one-in-NotSDic.result c.args.alphabet.now
    c.args.mask.now _ c.in-NotSDic.is
    (without_ends c.args.text.now c.args.tables.now c.args.i c.one-in-NotSDic.result c.simple-simple.result.now (row_is _ _ c.simple-simple.ensures)
    IsAny c.is_word_without-in-NotSDic.result c.is_word_without-in-NotSDic.ensures c.one-in-NotSDic.ensures)

pub returns-in-CDic-clause-ends : goal.returns-in-CDic-clause-ends
returns-in-CDic-clause-ends c =
    for_mask c.args.text.now c.args.tables.now c.args.i c.entry_ends-in-CDic.result c.args.alphabet.now
    c.args.mask.now _ c.in-CDic.is
    (compound_answers c.args.text.now c.args.tables.now c.args.i c.entry_ends-in-CDic.result c.simple-simple.result.now (row_is _ _ c.simple-simple.ensures)
    IsAny c.compounds-compounds.result.now (row_is _ _ c.compounds-compounds.ensures) c.entry_ends-in-CDic.ensures)

pub returns-in-TDic-clause-ends : goal.returns-in-TDic-clause-ends
returns-in-TDic-clause-ends c =
    for_mask c.args.text.now c.args.tables.now c.args.i c.one-in-TDic.result c.args.alphabet.now
    c.args.mask.now _ c.in-TDic.is
    (token_ends c.args.text.now c.args.tables.now c.args.i c.one-in-TDic.result
    (λ t. t.kind ≡ Tag) c.is_kind-in-TDic.result c.is_kind-in-TDic.ensures c.one-in-TDic.ensures)

pub returns-in-Nb-clause-ends : goal.returns-in-Nb-clause-ends
returns-in-Nb-clause-ends c =
    for_mask c.args.text.now c.args.tables.now c.args.i c.digit_ends.result c.args.alphabet.now
    c.args.mask.now _ c.in-Nb.is
    (c.digit_ends.ensures.ends)

pub returns-in-Token-clause-ends : goal.returns-in-Token-clause-ends
returns-in-Token-clause-ends c =
    for_mask c.args.text.now c.args.tables.now c.args.i c.one-in-Token.result c.args.alphabet.now
    c.args.mask.now _ c.in-Token.is
    (token_ends c.args.text.now c.args.tables.now c.args.i c.one-in-Token.result
    (λ t. IsTokenKind t.kind) c.is_token.result c.is_token.ensures c.one-in-Token.ensures)

pub returns-in-Lexical-clause-ends : goal.returns-in-Lexical-clause-ends
returns-in-Lexical-clause-ends c =
    for_mask c.args.text.now c.args.tables.now c.args.i c.entry_ends-in-Lexical.result c.args.alphabet.now
    c.args.mask.now _ c.in-Lexical.is
    (entry_answers c.args.text.now c.args.tables.now c.args.i c.entry_ends-in-Lexical.result c.simple-simple.result.now (row_is _ _ c.simple-simple.ensures)
    (MeetsParts c.in-Lexical.lexical) c.compounds-compounds.result.now (row_is _ _ c.compounds-compounds.ensures) c.entry_ends-in-Lexical.ensures)

pub returns-in-NotLexical-clause-ends : goal.returns-in-NotLexical-clause-ends
returns-in-NotLexical-clause-ends c =
    for_mask c.args.text.now c.args.tables.now c.args.i c.one-in-NotLexical.result c.args.alphabet.now
    c.args.mask.now _ c.in-NotLexical.is
    (refuse_answers c.args.text.now c.args.tables.now c.args.i c.one-in-NotLexical.result c.simple-simple.result.now (row_is _ _ c.simple-simple.ensures)
    (MeetsParts c.in-NotLexical.lexical) c.compounds-compounds.result.now (row_is _ _ c.compounds-compounds.ensures) c.refuses.result c.refuses.ensures c.one-in-NotLexical.ensures)

pub entry_ends-requires-clause-within : goal.entry_ends-requires-clause-within
entry_ends-requires-clause-within c =
    members_within c.args.alphabet.now c.args.text.now c.args.tables.now c.requires.belongs
    c.args.i c.compounds-compounds.result.now (row_is _ _ c.compounds-compounds.ensures)

pub entry_ends-requires-in-CDic-clause-within : goal.entry_ends-requires-in-CDic-clause-within
entry_ends-requires-in-CDic-clause-within c =
    members_within c.args.alphabet.now c.args.text.now c.args.tables.now c.requires.belongs
    c.args.i c.compounds-compounds.result.now (row_is _ _ c.compounds-compounds.ensures)

pub entry_ends-requires-in-Lexical-clause-within : goal.entry_ends-requires-in-Lexical-clause-within
entry_ends-requires-in-Lexical-clause-within c =
    members_within c.args.alphabet.now c.args.text.now c.args.tables.now c.requires.belongs
    c.args.i c.compounds-compounds.result.now (row_is _ _ c.compounds-compounds.ensures)
