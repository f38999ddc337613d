use Rattle.std.proofs.Common.{sym, ◌∙◌}
use Rattle.text_source.proofs.LexicalFronts.{kept_gap, kept_token, is_lexed, is_stopped}
use Rattle.text_source.proofs.lexer.tokens_of.Goals as goal

pub lex-preserved : goal.lex-preserved
lex-preserved c =
    kept_gap c.args.text.now c.lex.rest.now c.in-Ok-None-default.after.now c.lex.tokens.items c.in-Ok-None-default.field-0-0 c.lex.invariant c.in-Ok-None-default.ensures.0 c.in-Ok-None-default.field-0-0-is

pub lex-preserved-in-Ok-Some-default : goal.lex-preserved-in-Ok-Some-default
lex-preserved-in-Ok-Some-default c =
    kept_token c.args.text.now c.lex.rest.now c.in-Ok-Some-default.after.now c.lex.tokens.items c.push.new.self.items c.in-Ok-Some-default.field-0-0 c.in-Ok-Some-default.kind c.span_of-span.result c.lex.invariant
    c.in-Ok-Some-default.ensures.0 c.in-Ok-Some-default.field-0-0-is c.span_of-span.ensures c.in_ok-push-in-Ok-Some-default.ensures.items

pub returns-clause-lexed : goal.returns-clause-lexed
returns-clause-lexed c = is_lexed c.args.text.now c.lex.rest.now c.lex.tokens.items c.lex.invariant (sym c.is_empty.ensures ∙ c.lex-test.false)

pub returns-in-Err-clause-fault : goal.returns-in-Err-clause-fault
returns-in-Err-clause-fault c = is_stopped c.args.text.now c.lex.rest.now c.lex.tokens.items c.in-Err.stop c.span_of.result c.lex.invariant c.in-Err.ensures c.span_of.ensures
