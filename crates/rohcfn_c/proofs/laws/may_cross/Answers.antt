use Rattle.rohcfn_c.proofs.handle.Handle.TheSendSync.{the_send}
use Rattle.rohcfn_c.proofs.laws.may_cross.Goals as goal

pub returns : goal.returns
returns c = the_send
