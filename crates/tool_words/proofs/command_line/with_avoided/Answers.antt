use Rattle.tool_words.proofs.command_line.with_avoided.Goals as goal

pub returns : goal.returns
returns c = c.taking.ensures _ _ c.with_items.ensures c.option.ensures.rule
