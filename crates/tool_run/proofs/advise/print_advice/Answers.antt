use Rattle.tool_run.proofs.PrintedAdvising.{advice_printed}
use Rattle.tool_run.proofs.advise.print_advice.Goals as goal

pub returns : goal.returns
returns c =
    advice_printed c.args.form c.args.trends.now c.in_ok-advice.advice _ c.args.refused.now c.push_line.new.output c.in_ok-advice.ensures.items c.in_ok-advice.ensures.lost c.in_ok-output.ensures c.in_ok-push_line.ensures
