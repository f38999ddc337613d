use Rattle.std.proofs.Common.{◌∙◌, ap, sym, map, string_bytes}
use Rattle.std.specs.Prelude.{is_some}
use Rattle.sem_bits.specs.Lines.{numbered_lines}
use Rattle.sem_context.specs.Entries.{bits_at}
use Rattle.sem_context.proofs.EntriesReadings.{nothing_read, reading_more, fault_at, repeated, copied_some}
use Rattle.sem_context.proofs.EntriesOverrides.{with_entry-absent}
use Rattle.sem_context.proofs.PlacingMissing.{path_missing}
use Rattle.sem_context.proofs.context.Context.read_text.Goals as goal

pub loop-line-init : goal.loop-line-init
loop-line-init c = nothing_read c.new-context.result c.new-context.ensures

pub returns-in_default-clause-fault : goal.returns-in_default-clause-fault
returns-in_default-clause-fault c =
    let none = rw c.in_default.is at c.in_ok-path.ensures.none in
    fault_at (λ x. (x.number, x.text.now)) c.deref-line-items.result.now (numbered_lines c.args.text.now) c.loop-line.line-index _ c.loop-line.context c.loop-line-test.true
    (ap (map (λ x. (x.number, x.text.now))) c.deref-line-items.ensures.value ∙ c.in_ok-found.ensures) c.loop-line.invariant (λ e s. absurd (none e s))

pub returns-then-is_some-clause-fault : goal.returns-then-is_some-clause-fault
returns-then-is_some-clause-fault c =
    let found = rw c.in-Some.is at c.in_ok-path.ensures.found in
    let there = ap is_some (sym (c.get.ensures ∙ ap (bits_at c.loop-line.context) c.as_str.ensures.value)) ∙ copied_some c.get.result ∙ sym c.is_some.ensures ∙ c.if-is_some.true in
    fault_at (λ x. (x.number, x.text.now)) c.deref-line-items.result.now (numbered_lines c.args.text.now) c.loop-line.line-index _ c.loop-line.context c.loop-line-test.true
    (ap (map (λ x. (x.number, x.text.now))) c.deref-line-items.ensures.value ∙ c.in_ok-found.ensures) c.loop-line.invariant
    (repeated _ c.loop-line.context (string_bytes c.in-Some.path) c.in-Some.bits found there)

pub push_new-requires : goal.push_new-requires
push_new-requires c =
    let absent = ap is_some (sym (c.get.ensures ∙ ap (bits_at c.loop-line.context) c.as_str.ensures.value)) ∙ copied_some c.get.result ∙ sym c.is_some.ensures ∙ c.if-is_some.false in
    path_missing c.loop-line.context (string_bytes c.in-Some.path) absent

pub loop-line-preserved : goal.loop-line-preserved
loop-line-preserved c =
    let found = rw c.in-Some.is at c.in_ok-path.ensures.found in
    let absent = ap is_some (sym (c.get.ensures ∙ ap (bits_at c.loop-line.context) c.as_str.ensures.value)) ∙ copied_some c.get.result ∙ sym c.is_some.ensures ∙ c.if-is_some.false in
    let none = path_missing c.loop-line.context (string_bytes c.in-Some.path) absent in
    reading_more (λ x. (x.number, x.text.now)) c.deref-line-items.result.now c.loop-line.line-index _ c.loop-line.context c.push_new.new.self (string_bytes c.in-Some.path) c.in-Some.bits c.loop-line-test.true
    c.loop-line.invariant found absent (c.in_ok-push_new.ensures.ok ∙ sym (with_entry-absent c.loop-line.context (string_bytes c.in-Some.path) c.in-Some.bits none))
