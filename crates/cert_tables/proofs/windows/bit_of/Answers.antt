use Rattle.cert_tables.proofs.WindowsNumbered.{bit_there, bit_past}
use Rattle.cert_tables.proofs.windows.bit_of.Goals as goal

pub returns-then-place-width : goal.returns-then-place-width
returns-then-place-width c = bit_there c.args.width c.args.number c.args.place c.if-place-width.true

pub returns-else-place-width : goal.returns-else-place-width
returns-else-place-width c = bit_past c.args.width c.args.number c.args.place c.if-place-width.false
