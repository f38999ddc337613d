use Rattle.std.proofs.Common.{◌∙◌, sym, arith}
use Rattle.cert_tables.proofs.Sized.{at_front}
use Rattle.cert_tables.proofs.GrowthLaid.{after_parameter, after_reference, after_leaf, after_nowhere, after_full, after_other}
use Rattle.cert_tables.proofs.maker.table_at.Goals as goal

pub returns-then-making-clause-next : goal.returns-then-making-clause-next
returns-then-making-clause-next c = λ named marked. after_full c.args.making.now c.args.marks.now named c.args.place c.args.nodes.now marked c.if-making.true

pub returns-in-Parameter-clause-next : goal.returns-in-Parameter-clause-next
returns-in-Parameter-clause-next c = λ named marked.
    after_parameter c.args.making.now c.args.marks.now named c.args.place c.args.nodes.now marked c.in-Parameter.field-0 c.in-Parameter.field-1
    (at_front c.args.nodes.now c.args.place _ _ c.requires.within c.in-Parameter.is)

pub returns-in-Reference-clause-next : goal.returns-in-Reference-clause-next
returns-in-Reference-clause-next c = λ named marked.
    after_reference c.args.making.now c.args.marks.now named c.args.place c.args.nodes.now marked c.in-Reference.field-0 c.in-Reference.field-1
    (at_front c.args.nodes.now c.args.place _ _ c.requires.within c.in-Reference.is)

pub returns-in-Leaf-clause-next : goal.returns-in-Leaf-clause-next
returns-in-Leaf-clause-next c = λ named marked.
    after_leaf c.args.making.now c.args.marks.now named c.args.place c.args.nodes.now marked c.in-Leaf.field-0 (at_front c.args.nodes.now c.args.place _ _ c.requires.within c.in-Leaf.is)

pub returns-in-Nowhere-clause-next : goal.returns-in-Nowhere-clause-next
returns-in-Nowhere-clause-next c = λ named marked.
    after_nowhere c.args.making.now c.args.marks.now named c.args.place c.args.nodes.now marked (at_front c.args.nodes.now c.args.place _ _ c.requires.within c.in-Nowhere.is)

pub returns-else-is_marked-clause-next : goal.returns-else-is_marked-clause-next
returns-else-is_marked-clause-next c = λ named marked.
    after_other c.args.making.now c.args.marks.now named c.args.place c.args.nodes.now marked c.in-Bit.offset (at_front c.args.nodes.now c.args.place _ _ c.requires.within c.in-Bit.is)
    (sym (c.is_marked.ensures named marked (omega (arith, c.requires.markable, c.requires.within))) ∙ c.if-is_marked.false)
