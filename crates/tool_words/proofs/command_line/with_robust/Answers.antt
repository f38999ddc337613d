use Rattle.tool_words.proofs.command_line.with_robust.Goals as goal

pub returns : goal.returns
returns c = c.taking.ensures _ _ c.with_json.ensures c.option.ensures.rule
