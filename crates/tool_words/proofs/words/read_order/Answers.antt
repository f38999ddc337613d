use Rattle.std.proofs.Common.{map, Some, None}
use Rattle.clap.specs.Words.{app_of, kind_of, subcommand_rows_of}
use Rattle.tool_words.specs.Words.{asked}
use Rattle.tool_words.proofs.WordsLemmas.{asked_found, faultless_asks_no_help, words_refused}
use Rattle.tool_words.proofs.words.read_order.Goals as goal

pub returns-in-Some-clause-order : goal.returns-in-Some-clause-order
returns-in-Some-clause-order c =
    asked_found (app_of c.in_ok-command.command) (map (λ word. word.now) c.args.words.now) (subcommand_rows_of c.in-Ok.matches) (Some (asked c.in-Some.order)) c.in_ok-command.ensures c.in-Ok.ensures.kinds (λ simple. (c.in-Ok.ensures.matches simple).1) c.in-Some.ensures

pub returns-in-Ok-clause-refused : goal.returns-in-Ok-clause-refused
returns-in-Ok-clause-refused c = (
  asked_found (app_of c.in_ok-command.command) (map (λ word. word.now) c.args.words.now) (subcommand_rows_of c.in-Ok.matches) None c.in_ok-command.ensures c.in-Ok.ensures.kinds (λ simple. (c.in-Ok.ensures.matches simple).1) c.in-None.ensures,
  faultless_asks_no_help (app_of c.in_ok-command.command) (map (λ word. word.now) c.args.words.now) c.in_ok-command.ensures c.in-Ok.ensures.kinds,
)

pub returns-clause-refused : goal.returns-clause-refused
returns-clause-refused c =
    words_refused (app_of c.in_ok-command.command) (map (λ word. word.now) c.args.words.now) (kind_of c.in-Err.error) c.in_ok-refusal-in-Err.field-0 c.in_ok-command.ensures c.in-Err.ensures.kinds c.in_ok-refusal-in-Err.ensures
