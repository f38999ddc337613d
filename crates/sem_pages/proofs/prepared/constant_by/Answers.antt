use Rattle.std.proofs.Common.{sym, subst}
use Rattle.sem_pages.specs.Pages.{IsCodedOn, numbers_seen}
use Rattle.sem_pages.proofs.CodedSides.{constant_down_on, constant_up_on}
use Rattle.sem_pages.proofs.prepared.constant_by.Goals as goal

pub returns-in_ok-spelled-in-UncompressedValue : goal.returns-in_ok-spelled-in-UncompressedValue
returns-in_ok-spelled-in-UncompressedValue c = λ ctx path v d.
    let word = c.in_ok-spelled-in-UncompressedValue.field-0 in
    subst (λ z. IsCodedOn ctx path v d z word c.new.result) (sym c.in-UncompressedValue.is)
    (constant_up_on v ctx path d word c.new.result c.in-UncompressedValue.length c.in-UncompressedValue.value (c.in_ok-spelled-in-UncompressedValue.ensures (numbers_seen v)) c.new.ensures)

pub returns-in_ok-spelled-in-CompressedValue : goal.returns-in_ok-spelled-in-CompressedValue
returns-in_ok-spelled-in-CompressedValue c = λ ctx path v d.
    let word = c.in_ok-spelled-in-CompressedValue.field-0 in
    subst (λ z. IsCodedOn ctx path v d z c.new-in-CompressedValue.result word) (sym c.in-CompressedValue.is)
    (constant_down_on v ctx path d c.new-in-CompressedValue.result word c.in-CompressedValue.length c.in-CompressedValue.value (c.in_ok-spelled-in-CompressedValue.ensures (numbers_seen v)) c.new-in-CompressedValue.ensures)
