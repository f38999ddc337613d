use Rattle.tool_words.proofs.command_line.with_wide.Goals as goal

pub returns : goal.returns
returns c = c.taking.ensures _ _ c.with_receive.ensures c.flag.ensures.rule
