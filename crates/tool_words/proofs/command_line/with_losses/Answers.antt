use Rattle.tool_words.proofs.command_line.with_losses.Goals as goal

pub returns : goal.returns
returns c = c.taking.ensures _ _ c.with_lost.ensures c.option.ensures.rule
