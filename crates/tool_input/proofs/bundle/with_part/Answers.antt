use Rattle.std.proofs.Common.{◌∙◌, sym}
use Rattle.tool_input.proofs.BundleHeld.{held_words, held_profile, held_certificate, held_context, held_items, held_packets, held_events, held_octets}
use Rattle.tool_input.proofs.bundle.with_part.Goals as goal

pub returns-then-is_none-clause-held : goal.returns-then-is_none-clause-held
returns-then-is_none-clause-held c = λ before held. held_words c.args.parts before c.args.name.now c.args.text held (sym c.eq.ensures ∙ c.if-eq.true) c.if-is_none.ensures

pub returns-then-is_none-2-clause-held : goal.returns-then-is_none-2-clause-held
returns-then-is_none-2-clause-held c = λ before held. held_profile c.args.parts before c.args.name.now c.args.text held (sym c.eq-else-eq.ensures ∙ c.if-eq-2.true) c.if-is_none-2.ensures

pub returns-then-is_none-3-clause-held : goal.returns-then-is_none-3-clause-held
returns-then-is_none-3-clause-held c = λ before held. held_certificate c.args.parts before c.args.name.now c.args.text held (sym c.eq-else-eq-2.ensures ∙ c.if-eq-3.true) c.if-is_none-3.ensures

pub returns-then-is_none-4-clause-held : goal.returns-then-is_none-4-clause-held
returns-then-is_none-4-clause-held c = λ before held. held_context c.args.parts before c.args.name.now c.args.text held (sym c.eq-else-eq-3.ensures ∙ c.if-eq-4.true) c.if-is_none-4.ensures

pub returns-then-is_none-5-clause-held : goal.returns-then-is_none-5-clause-held
returns-then-is_none-5-clause-held c = λ before held. held_items c.args.parts before c.args.name.now c.args.text held (sym c.eq-else-eq-4.ensures ∙ c.if-eq-5.true) c.if-is_none-5.ensures

pub returns-then-is_none-6-clause-held : goal.returns-then-is_none-6-clause-held
returns-then-is_none-6-clause-held c = λ before held. held_packets c.args.parts before c.args.name.now c.args.text held (sym c.eq-else-eq-5.ensures ∙ c.if-eq-6.true) c.if-is_none-6.ensures

pub returns-then-is_none-7-clause-held : goal.returns-then-is_none-7-clause-held
returns-then-is_none-7-clause-held c = λ before held. held_events c.args.parts before c.args.name.now c.args.text held (sym c.eq-else-eq-6.ensures ∙ c.if-eq-7.true) c.if-is_none-7.ensures

pub returns-then-is_none-8-clause-held : goal.returns-then-is_none-8-clause-held
returns-then-is_none-8-clause-held c = λ before held. held_octets c.args.parts before c.args.name.now c.args.text held (sym c.eq-else-eq-7.ensures ∙ c.if-eq-8.true) c.if-is_none-8.ensures
