use Rattle.std.proofs.Common.{arith, sym, ◌∙◌, subst}
use Rattle.sem_graph.specs.Calls.{Has}
use Rattle.sem_graph.proofs.Measuring.{read_row}
use Rattle.text_resolve.proofs.CallDepthEnds.{called_none, called_more, called_same, called_all}
use Rattle.text_resolve.proofs.call_depth.called_by.Goals.{then-is_marked_at, else-is_marked_at}
use Rattle.text_resolve.proofs.call_depth.called_by.Goals as goal

pub loop-caller-init : goal.loop-caller-init
loop-caller-init c = called_none c.args.calls.now c.args.callers.now _ c.in_ok-called.ensures

pub mark-requires : goal.mark-requires
mark-requires c = λ k has.
    let row = c.as_slice.ensures ∙ read_row c.args.calls.now c.loop-caller.caller c.index-calls-caller.result c.loop-caller-test.true c.index-calls-caller.is in
    omega (arith, c.loop-caller.invariant.each, c.requires c.loop-caller.caller k (c.loop-caller-test.true, subst (λ xs. Has xs k) row has))

pub loop-caller-preserved : goal.loop-caller-preserved
loop-caller-preserved c =
    let row = read_row c.args.calls.now c.loop-caller.caller c.index-calls-caller.result c.loop-caller-test.true c.index-calls-caller.is in
    elim c.if-is_marked_at.branch [
      | then-is_marked_at w ↦
          rw w.called-is
          (called_more c.args.calls.now c.args.callers.now c.loop-caller.caller _ c.loop-caller.called _ c.loop-caller.invariant c.loop-caller-test.true (w.as_slice.ensures ∙ row)
          (sym c.is_marked_at.ensures ∙ w.if-is_marked_at.true) w.mark.ensures.each w.mark.ensures.kept w.mark.ensures.all w.mark.ensures.only)
      | else-is_marked_at w ↦
          rw w.called-is (called_same c.args.calls.now c.args.callers.now c.loop-caller.caller c.loop-caller.called c.loop-caller.invariant (sym c.is_marked_at.ensures ∙ w.if-is_marked_at.false))
    ]

pub returns : goal.returns
returns c = called_all c.args.calls.now c.args.callers.now c.loop-caller.caller c.loop-caller.called c.loop-caller.invariant (omega arith)
