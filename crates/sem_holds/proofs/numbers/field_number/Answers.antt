use Rattle.std.proofs.Common.{rules, ◌∙◌, sym, ap}
use Rattle.sem_expr.specs.Known.{measured}
use Rattle.sem_holds.proofs.NumbersSeeing.{field_seen}
use Rattle.sem_holds.proofs.numbers.field_number.Goals as goal

pub returns-in-Uncompressed : goal.returns-in-Uncompressed
returns-in-Uncompressed c =
    rw c.in-Uncompressed.is (c.number_of.ensures ∙ ap (λ s. measured s.uncompressed c.args.measure) (sym (field_seen c.args.filling.now c.args.index c.in_ok-filled.filled.now (search rules))))

pub returns-in-Compressed : goal.returns-in-Compressed
returns-in-Compressed c =
    rw c.in-Compressed.is (c.number_of-in-Compressed.ensures ∙ ap (λ s. measured s.compressed c.args.measure) (sym (field_seen c.args.filling.now c.args.index c.in_ok-filled.filled.now (search rules))))
