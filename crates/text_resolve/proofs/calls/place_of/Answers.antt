use Rattle.std.proofs.Common.{◌∙◌, sym}
use Rattle.text_resolve.proofs.CallsOwn.{no_place}
use Rattle.text_resolve.proofs.calls.place_of.Goals as goal

pub returns-then-is_library : goal.returns-then-is_library
returns-then-is_library c = no_place c.args.name.now c.args.methods.now (sym c.is_library.ensures ∙ c.if-is_library.true) c.requires
