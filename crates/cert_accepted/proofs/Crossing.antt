-- An accepted profile may cross threads.
use denote.Builtin.{u64}
use denote.Hole.{as_row}
use denote.RattleType.{RattleType}
use denote.Struct.Field.{bool-field}
use denote.Param.Send.{IsSend, sendable, view_send}
use denote.Param.SendFields.{as_row_send, declared_send}
use Rattle.sqlite_items.proofs.items.Items.TheSendSync as items_sent
use Rattle.sqlite_items.specs.contracts.items.Items as Items
use Rattle.sem_profile.proofs.Crossing.{Profile-send}
use Rattle.cert_types.proofs.certificate.Certificate.TheSendSync as certificate_sent
use Rattle.cert_tables.proofs.table.Tables.TheSendSync as tables_sent
use Rattle.cert_compiled.proofs.plans.CompiledPlans.TheSendSync as plans_sent
use Rattle.cert_accepted.specs.contracts.accepted.Accepted as accepted
use Rattle.cert_accepted.specs.contracts.accepted.Accepted.TheInside as inside

items_send : (R : RattleType) → IsSend R → IsSend (as_row (Items.the_field R))
items_send R s = as_row_send (Items.the_field R) (items_sent.the_send R s)

number_send : IsSend u64
number_send = search sendable depth 20

flag_send : IsSend (as_row bool-field)
flag_send = search sendable depth 20

pub Accepted-send : IsSend accepted.the_row
Accepted-send = let numbers = items_sent.the_send u64 number_send in view_send inside.the_row _ _ _ _ (declared_send inside.the_type (
  Profile-send,
  (certificate_sent.the_send, (items_send u64 number_send, (items_send (Items.the_row u64) numbers, (tables_sent.the_send, (plans_sent.the_send, (flag_send, tt)))))),
))
