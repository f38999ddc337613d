use Rattle.std.specs.Prelude.{string_bytes}
use Rattle.tool_run.proofs.FrameFlowing.{item_given, on_ok, refusal_given}
use Rattle.tool_run.proofs.frames.push_given.Goals as goal

pub returns-in-Item : goal.returns-in-Item
returns-in-Item c = on_ok c.push_item.result (item_given c.args.methods.now c.args.flow c.args.given.now _ _ _ c.in-Item.is) c.push_item.ensures

pub returns-in-Refused : goal.returns-in-Refused
returns-in-Refused c = on_ok c.push_refusal.result (refusal_given c.args.methods.now c.args.flow c.args.given.now _ _ _ c.in-Refused.is) c.push_refusal.ensures
