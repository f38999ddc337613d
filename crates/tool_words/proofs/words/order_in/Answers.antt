use Rattle.std.proofs.Common.{◌≡◌, ◌∙◌, ap, Some, option_map}
use Rattle.clap.specs.Words.{found_of, rows_of, subcommand_rows_of}
use Rattle.clap.specs.declared.parser.matches.ArgMatches.TheViews.{out-ArgMatches}
use Rattle.tool_words.specs.Words.{asked, form_asked, text_or_empty, version_asked}
use Rattle.tool_words.proofs.WordsLemmas.{asked_whole, no_top, subcommand_read}
use Rattle.tool_words.proofs.words.order_in.Goals as goal

pub returns : goal.returns
returns c =
    let met : subcommand_rows_of c.args.matches.now ≡ Some (c.in_ok-name.name.now, rows_of (found_of c.in_ok-name.flags.now)) =
    subcommand_read (out-ArgMatches c.args.matches.now).subcommand (Some (c.in_ok-name.name, c.in_ok-name.flags)) c.in_ok-name.ensures.name c.in_ok-name.ensures.rows in
    asked_whole _ _ _ c.in_ok-command.command c.in_ok-top.top.now c.has.result c.version_asked.result c.has-3.result c.has-4.result c.form_asked.result c.text_or_empty.result.now met c.in_ok-command.ensures c.in_ok-top.ensures c.has.ensures (c.version_asked.ensures ∙ ap version_asked c.has-2.ensures) c.has-3.ensures c.has-4.ensures (c.form_asked.ensures ∙ ap form_asked c.has-5.ensures) (c.text_or_empty.ensures ∙ ap text_or_empty c.text_of-2.ensures)

pub returns-in_err-top : goal.returns-in_err-top
returns-in_err-top c =
    let met : subcommand_rows_of c.args.matches.now ≡ Some (c.in_ok-name.name.now, rows_of (found_of c.in_ok-name.flags.now)) =
    subcommand_read (out-ArgMatches c.args.matches.now).subcommand (Some (c.in_ok-name.name, c.in_ok-name.flags)) c.in_ok-name.ensures.name c.in_ok-name.ensures.rows in
    ap (option_map asked) c.from_residual-in_err-top.ensures ∙ no_top _ _ _ c.in_ok-command.command met c.in_ok-command.ensures (c.in_err-top.ensures {u = tt})
