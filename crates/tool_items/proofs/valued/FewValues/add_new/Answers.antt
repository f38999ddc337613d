use Rattle.std.proofs.Common.{refl, arith}
use Rattle.tool_items.proofs.ValuesCounting.{added_new}
use Rattle.tool_items.proofs.valued.FewValues.add_new.Goals as goal

pub returns : goal.returns
returns c =
    added_new c.args.value.now c.args.self.now _ _ c.requires (λ eight. absurd (omega (arith, eight, c.len.ensures, c.if-len-eq-MOST.false))) c.in_ok-bits.ensures refl c.in_ok-push.ensures.ok refl
