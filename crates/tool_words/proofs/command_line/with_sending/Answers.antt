use Rattle.tool_words.proofs.command_line.with_sending.Goals as goal

pub returns : goal.returns
returns c = c.taking.ensures _ _ c.with_flags.ensures c.option.ensures.rule
