use Rattle.tool_run.proofs.ProgramEndings.{large_replied}
use Rattle.tool_run.proofs.program.reply_from.Goals as goal

pub returns-in_ok-refused_input-in-Large-clause-replies : goal.returns-in_ok-refused_input-in-Large-clause-replies
returns-in_ok-refused_input-in-Large-clause-replies g c =
    large_replied _ _ c.read_input.result c.in_ok-input.field-0 c.in_ok-refused_input-in-Large.field-0 c.read_input.ensures.all c.in_ok-input.was c.in-Large.is c.in_ok-refused_input-in-Large.ensures
