use Rattle.tool_words.proofs.command_line.with_frames.Goals as goal

pub returns : goal.returns
returns c = c.taking.ensures _ _ c.with_wide.ensures c.flag.ensures.rule
