-- Expressions and conditions may cross threads, and threads may share them. Each holds others of its kind in boxes: a layer has the law where what its boxes
-- hold has it, and so all layers have (`FixSend` of the logic).
use denote.RattleType.{RattleType}
use denote.Struct.Field.{row_field}
use denote.Param.Send.{IsSend, IsSync, sendable}
use denote.Param.SendFields.{as_row_send, as_row_sync, variants_send, variants_sync}
use denote.Hole.{as_row}
use denote.Hole.Fix.{holes}
use denote.Hole.FixSend.{Sends, Syncs, fix_send, fix_sync}
use Rattle.std.proofs.Crossing.{Box-send, Box-sync}
use Rattle.std.specs.contracts.boxed.Box as Box
use Rattle.std.specs.contracts.alloc.Global as Global
use Rattle.std.specs.contracts.impls.GlobalAllocator.TheImpl.{ghosts}
use Rattle.sem_expr.specs.contracts.expr.Expr as expr
use Rattle.sem_expr.specs.contracts.expr.Expr.TheKnot as expr_knot
use Rattle.sem_expr.specs.contracts.expr.Cond as cond
use Rattle.sem_expr.specs.contracts.expr.Cond.TheKnot as cond_knot

-- a box in a layer, and as a field
layer_box_send : (R : RattleType) → IsSend R → IsSend (as_row (row_field (Box.the_row R Global.the_row ghosts)))
layer_box_send R s = as_row_send (row_field (Box.the_row R Global.the_row ghosts)) (Box-send R s)

box_send : (R : RattleType) → IsSend R → IsSend (as_row (Box.the_field R Global.the_row ghosts))
box_send R s = as_row_send (Box.the_field R Global.the_row ghosts) (Box-send R s)

expr_hole_send : IsSend (holes expr.the_ring expr.the_member)
expr_hole_send = fix_send expr.the_ring (expr.by_members (Sends expr.the_ring) record {
  send = λ h all. let R = h expr.the_member in let one = layer_box_send R (all expr.the_member) in variants_send (expr_knot.type-Expr R R) (
    (search sendable depth 20, (search sendable depth 20, tt)),
    (
      (search sendable depth 20, (search sendable depth 20, tt)),
      (
        (search sendable depth 20, (search sendable depth 20, tt)),
        (
          (search sendable depth 20, (search sendable depth 20, (one, (one, tt)))),
          tt,
        ),
      ),
    ),
  );
}) expr.the_member

pub Expr-send : IsSend expr.the_row
Expr-send = let one = box_send expr.the_hole expr_hole_send in variants_send expr.enum (
  (search sendable depth 20, (search sendable depth 20, tt)),
  (
    (search sendable depth 20, (search sendable depth 20, tt)),
    (
      (search sendable depth 20, (search sendable depth 20, tt)),
      (
        (search sendable depth 20, (search sendable depth 20, (one, (one, tt)))),
        tt,
      ),
    ),
  ),
)

cond_hole_send : IsSend (holes cond.the_ring cond.the_member)
cond_hole_send = fix_send cond.the_ring (cond.by_members (Sends cond.the_ring) record {
  send = λ h all. let R = h cond.the_member in let one = layer_box_send R (all cond.the_member) in
      let e = as_row_send (row_field (as_row expr.the_field)) Expr-send in variants_send (cond_knot.type-Cond R R R R R) (
        (search sendable depth 20, (search sendable depth 20, tt)),
        (
          (search sendable depth 20, (search sendable depth 20, (e, (e, tt)))),
          (
            (search sendable depth 20, (one, tt)),
            (
              (search sendable depth 20, (one, (one, tt))),
              (
                (search sendable depth 20, (one, (one, tt))),
                tt,
              ),
            ),
          ),
        ),
      );
}) cond.the_member

pub Cond-send : IsSend cond.the_row
Cond-send = let one = box_send cond.the_hole cond_hole_send in let e = Expr-send in variants_send cond.enum (
  (search sendable depth 20, (search sendable depth 20, tt)),
  (
    (search sendable depth 20, (search sendable depth 20, (e, (e, tt)))),
    (
      (search sendable depth 20, (one, tt)),
      (
        (search sendable depth 20, (one, (one, tt))),
        (
          (search sendable depth 20, (one, (one, tt))),
          tt,
        ),
      ),
    ),
  ),
)

-- a box in a layer, and as a field
layer_box_sync : (R : RattleType) → IsSync R → IsSync (as_row (row_field (Box.the_row R Global.the_row ghosts)))
layer_box_sync R s = as_row_sync (row_field (Box.the_row R Global.the_row ghosts)) (Box-sync R s)

box_sync : (R : RattleType) → IsSync R → IsSync (as_row (Box.the_field R Global.the_row ghosts))
box_sync R s = as_row_sync (Box.the_field R Global.the_row ghosts) (Box-sync R s)

expr_hole_sync : IsSync (holes expr.the_ring expr.the_member)
expr_hole_sync = fix_sync expr.the_ring (expr.by_members (Syncs expr.the_ring) record {
  sync = λ h all. let R = h expr.the_member in let one = layer_box_sync R (all expr.the_member) in variants_sync (expr_knot.type-Expr R R) (
    (search sendable depth 20, (search sendable depth 20, tt)),
    (
      (search sendable depth 20, (search sendable depth 20, tt)),
      (
        (search sendable depth 20, (search sendable depth 20, tt)),
        (
          (search sendable depth 20, (search sendable depth 20, (one, (one, tt)))),
          tt,
        ),
      ),
    ),
  );
}) expr.the_member

pub Expr-sync : IsSync expr.the_row
Expr-sync = let one = box_sync expr.the_hole expr_hole_sync in variants_sync expr.enum (
  (search sendable depth 20, (search sendable depth 20, tt)),
  (
    (search sendable depth 20, (search sendable depth 20, tt)),
    (
      (search sendable depth 20, (search sendable depth 20, tt)),
      (
        (search sendable depth 20, (search sendable depth 20, (one, (one, tt)))),
        tt,
      ),
    ),
  ),
)

cond_hole_sync : IsSync (holes cond.the_ring cond.the_member)
cond_hole_sync = fix_sync cond.the_ring (cond.by_members (Syncs cond.the_ring) record {
  sync = λ h all. let R = h cond.the_member in let one = layer_box_sync R (all cond.the_member) in
      let e = as_row_sync (row_field (as_row expr.the_field)) Expr-sync in variants_sync (cond_knot.type-Cond R R R R R) (
        (search sendable depth 20, (search sendable depth 20, tt)),
        (
          (search sendable depth 20, (search sendable depth 20, (e, (e, tt)))),
          (
            (search sendable depth 20, (one, tt)),
            (
              (search sendable depth 20, (one, (one, tt))),
              (
                (search sendable depth 20, (one, (one, tt))),
                tt,
              ),
            ),
          ),
        ),
      );
}) cond.the_member

pub Cond-sync : IsSync cond.the_row
Cond-sync = let one = box_sync cond.the_hole cond_hole_sync in let e = Expr-sync in variants_sync cond.enum (
  (search sendable depth 20, (search sendable depth 20, tt)),
  (
    (search sendable depth 20, (search sendable depth 20, (e, (e, tt)))),
    (
      (search sendable depth 20, (one, tt)),
      (
        (search sendable depth 20, (one, (one, tt))),
        (
          (search sendable depth 20, (one, (one, tt))),
          tt,
        ),
      ),
    ),
  ),
)
