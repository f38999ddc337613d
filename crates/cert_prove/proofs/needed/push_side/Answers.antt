use Rattle.cert_prove.proofs.needed.push_side.Goals as goal

pub returns-in-This : goal.returns-in-This
returns-in-This c = rw c.in-This.is c.push_whole.ensures
