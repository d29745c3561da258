use Rattle.asm80_text.proofs.FirstToken.{finds_string, shorter_by_one, shorter_behind}
use Rattle.asm80_text.proofs.Symbols.{symbol_lawful, symbols_lawful}
use Rattle.asm80_text.proofs.tokens.token_at.Goals as goal

pub returns-in-39-clause-value : goal.returns-in-39-clause-value
returns-in-39-clause-value g c = finds_string g.N.Notation.spelling c.args.bytes.now c.in-Some.rest.now c.in-Some.b c.string_at.result c.in-Some.ensures c.in-39.is c.string_at.ensures.value

pub returns-in-39-clause-lawful : goal.returns-in-39-clause-lawful
returns-in-39-clause-lawful g c = symbols_lawful g.N.Notation.spelling c.string_at.result c.string_at.ensures.lawful

pub returns-in-39-clause-shorter : goal.returns-in-39-clause-shorter
returns-in-39-clause-shorter g c = shorter_behind c.args.bytes.now c.in-Some.rest.now c.in-Some.b c.string_at.result c.in-Some.ensures c.string_at.ensures.shorter

pub returns-in-48-to-57-clause-lawful : goal.returns-in-48-to-57-clause-lawful
returns-in-48-to-57-clause-lawful g c = symbols_lawful g.N.Notation.spelling c.number_at.result c.number_at.ensures.lawful

pub returns-in-65-to-90-clause-lawful : goal.returns-in-65-to-90-clause-lawful
returns-in-65-to-90-clause-lawful g c = c.word_at.ensures.lawful

pub returns-in-32-to-126-clause-lawful : goal.returns-in-32-to-126-clause-lawful
returns-in-32-to-126-clause-lawful g c = symbol_lawful g.N.Notation.spelling c.sign_token.result c.sign_token.ensures.lawful

pub returns-in-32-to-126-clause-shorter : goal.returns-in-32-to-126-clause-shorter
returns-in-32-to-126-clause-shorter g c = shorter_by_one c.args.bytes.now c.in-Some.rest.now c.in-Some.b c.in-Some.ensures
