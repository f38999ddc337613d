use Rattle.std.proofs.Common.{subst}
use Rattle.std.specs.Prelude.{IfOk}
use Rattle.cert_compiled.specs.Single.{AreLinesTold}
use Rattle.cert_compiled.proofs.Telling.{all_singles}
use Rattle.cert_compiled.proofs.singles.singles_of.Goals as goal

pub returns : goal.returns
returns c =
    let methods = c.args.methods.now in
    let cert = c.args.entries.now in
    all_singles c.in_ok-tellers.tellers methods cert c.singles_by.result c.in_ok-tellers.ensures (subst (λ z. IfOk c.singles_by.result (AreLinesTold z methods cert)) c.as_slice.ensures c.singles_by.ensures)
