use Rattle.std.proofs.Common.{sym, rules}
use Rattle.cert_check.proofs.JudgedRefusing.{filled, entry_refuses, entry_stands, no_method_refuses}
use Rattle.cert_check.proofs.validity.method_fault.Goals as goal

pub returns-in-Some-entry_at-clause-found : goal.returns-in-Some-entry_at-clause-found
returns-in-Some-entry_at-clause-found c =
    let m = c.in-Some.method.now in
    let s = c.in-Some-at.bounds.now in
    let some = filled m.formats c.is_empty.result c.is_empty.ensures c.if-is_empty.false in
    let stands = entry_stands c.args.methods.now c.args.sizes.now c.args.entries.now c.args.k m s c.in-Some-entry_at.entry.now (search rules) (search rules) some (sym c.in-Some-entry_at.ensures) in
    entry_refuses c.args.version c.args.methods.now c.args.sizes.now c.args.entries.now c.args.k m s c.in-Some-entry_at.entry.now c.entry_fault.result stands c.requires.before c.entry_fault.ensures.found

pub returns-in-None-clause-found : goal.returns-in-None-clause-found
returns-in-None-clause-found c =
    let m = c.in-Some.method.now in
    let some = filled m.formats c.is_empty.result c.is_empty.ensures c.if-is_empty.false in
    no_method_refuses c.args.version c.args.methods.now c.args.sizes.now c.args.entries.now c.args.k m (search rules) some (sym c.in-None.ensures) c.requires.before
