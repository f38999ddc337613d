use Rattle.std.proofs.Common.{◌∙◌, sym, nat_eq}
use Rattle.std.specs.HashMap.{get}
use Rattle.cert_trees.proofs.TablesNoting.{noted_bits, noted_gap, noted_nothing}
use Rattle.cert_trees.proofs.tables.note_field.Goals as goal

pub returns-in-Some : goal.returns-in-Some
returns-in-Some c =
    let moved = rw c.len.ensures.value at c.moved.ensures in
    noted_bits (get nat_eq c.args.known.now) (get nat_eq c.note_bits.new.known) c.args.offset _ _ c.in-Some.bits c.moved.result (sym c.in_ok-literal.ensures ∙ c.in-Some.is) c.in_ok-note_bits.ensures moved

pub returns-in-Some-fixed_at : goal.returns-in-Some-fixed_at
returns-in-Some-fixed_at c =
    noted_gap (get nat_eq c.args.known.now) c.args.offset _ _ c.in-Some-fixed_at.width c.moved-in-Some-fixed_at.result (sym c.in_ok-literal.ensures ∙ c.in_default.is) (sym c.fixed_at.ensures ∙ c.in-Some-fixed_at.is) c.moved-in-Some-fixed_at.ensures

pub returns-in-None : goal.returns-in-None
returns-in-None c = noted_nothing (get nat_eq c.args.known.now) c.args.offset _ _ (sym c.in_ok-literal.ensures ∙ c.in_default.is) (sym c.fixed_at.ensures ∙ c.in-None.is)
