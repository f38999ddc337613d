-- What may cross threads: all that a profile holds, as expressions and names may.
use denote.RattleType.{RattleType}
use denote.Builtin.{usize}
use denote.Struct.Field.{usize-field}
use denote.Param.Send.{IsSend, IsSync, sendable, view_send}
use denote.Param.SendFields.{as_row_send, as_row_sync, declared_send, declared_sync, variants_send, variants_sync}
use denote.Hole.{as_row}
use Rattle.std.proofs.option.Option.TheSendSync as option_sent
use Rattle.std.specs.contracts.option.Option as Option
use Rattle.sqlite_items.proofs.items.Items.TheSendSync as items_sent
use Rattle.sqlite_items.proofs.boxed.Boxed.TheSendSync as boxed_sent
use Rattle.sqlite_items.specs.contracts.items.Items as Items
use Rattle.sqlite_items.specs.contracts.boxed.Boxed as Boxed
use Rattle.text_source.proofs.span.Span.TheSendSync as span_sent
use Rattle.sem_bits.proofs.bits.Bits.TheSendSync as bits_sent
use Rattle.sem_bits.specs.contracts.bits.Bits as bits
use Rattle.sem_expr.proofs.Crossing.{Expr-send, Expr-sync, Cond-send, Cond-sync}
use Rattle.sem_expr.proofs.expr.Subject.TheSendSync as subject_sent
use Rattle.sem_expr.proofs.expr.Side.TheSendSync as side_sent
use Rattle.sem_expr.specs.contracts.expr.Expr as expr
use Rattle.sem_expr.specs.contracts.expr.Cond as cond
use Rattle.sem_profile.proofs.shared.Shared.TheSendSync as shared_sent
use Rattle.sem_profile.proofs.name.Name.TheSendSync as name_sent
use Rattle.sem_profile.proofs.profile.Declared.TheSendSync as declared_sent
use Rattle.sem_profile.proofs.profile.MethodSizes.TheSendSync as sizes_sent
use Rattle.sem_profile.proofs.asked.AskedField.TheSendSync as asked_sent
use Rattle.sem_profile.specs.contracts.shared.Shared as Shared
use Rattle.sem_profile.specs.contracts.name.Name as name
use Rattle.sem_profile.specs.contracts.asked.AskedField as asked
use Rattle.sem_profile.specs.contracts.profile.Library as library
use Rattle.sem_profile.specs.contracts.profile.CrcArguments as crc
use Rattle.sem_profile.specs.contracts.profile.Encoding as encoding
use Rattle.sem_profile.specs.contracts.profile.Constraint as constraint
use Rattle.sem_profile.specs.contracts.profile.Field as field
use Rattle.sem_profile.specs.contracts.profile.Format as format
use Rattle.sem_profile.specs.contracts.profile.Method as method
use Rattle.sem_profile.specs.contracts.profile.MethodSizes as sizes
use Rattle.sem_profile.specs.contracts.resolved.Profile as profile
use Rattle.sem_profile.specs.contracts.resolved.Profile.TheInside as inside

usize_send : IsSend usize
usize_send = search sendable depth 20

usize_sync : IsSync usize
usize_sync = search sendable depth 20

number_send : IsSend (as_row usize-field)
number_send = as_row_send usize-field usize_send

number_sync : IsSync (as_row usize-field)
number_sync = as_row_sync usize-field usize_sync

-- a list, what is on the heap, and what is there or not, as fields
items_send : (R : RattleType) → IsSend R → IsSend (as_row (Items.the_field R))
items_send R s = as_row_send (Items.the_field R) (items_sent.the_send R s)

boxed_send : (R : RattleType) → IsSend R → IsSend (as_row (Boxed.the_field R))
boxed_send R s = as_row_send (Boxed.the_field R) (boxed_sent.the_send R s)

CrcArguments-send : IsSend crc.the_row
CrcArguments-send = declared_send crc.the_type (Expr-send, (Expr-send, (Expr-send, (subject_sent.the_send, (side_sent.the_send, (Expr-send, tt))))))

Library-send : IsSend library.the_row
Library-send = variants_send library.enum (
  (Expr-send, (Expr-send, tt)),
  (
    (Expr-send, (Expr-send, tt)),
    (
      (Expr-send, tt),
      (
        tt,
        (
          (Expr-send, (Expr-send, tt)),
          (
            (boxed_send crc.the_row CrcArguments-send, tt),
            tt,
          ),
        ),
      ),
    ),
  ),
)

Encoding-send : IsSend encoding.the_row
Encoding-send = variants_send encoding.enum (tt, ((Library-send, tt), ((number_send, (items_send expr.the_row Expr-send, tt)), tt)))

Constraint-send : IsSend constraint.the_row
Constraint-send = variants_send constraint.enum (
  (number_send, (side_sent.the_send, (items_send expr.the_row Expr-send, (span_sent.the_send, tt)))),
  ((boxed_send cond.the_row Cond-send, (span_sent.the_send, tt)), tt),
)

-- a list, what is on the heap, and what is there or not, as fields
items_sync : (R : RattleType) → IsSync R → IsSync (as_row (Items.the_field R))
items_sync R s = as_row_sync (Items.the_field R) (items_sent.the_sync R s)

boxed_sync : (R : RattleType) → IsSync R → IsSync (as_row (Boxed.the_field R))
boxed_sync R s = as_row_sync (Boxed.the_field R) (boxed_sent.the_sync R s)

CrcArguments-sync : IsSync crc.the_row
CrcArguments-sync = declared_sync crc.the_type (Expr-sync, (Expr-sync, (Expr-sync, (subject_sent.the_sync, (side_sent.the_sync, (Expr-sync, tt))))))

Library-sync : IsSync library.the_row
Library-sync = variants_sync library.enum (
  (Expr-sync, (Expr-sync, tt)),
  (
    (Expr-sync, (Expr-sync, tt)),
    (
      (Expr-sync, tt),
      (
        tt,
        (
          (Expr-sync, (Expr-sync, tt)),
          (
            (boxed_sync crc.the_row CrcArguments-sync, tt),
            tt,
          ),
        ),
      ),
    ),
  ),
)

Encoding-sync : IsSync encoding.the_row
Encoding-sync = variants_sync encoding.enum (tt, ((Library-sync, tt), ((number_sync, (items_sync expr.the_row Expr-sync, tt)), tt)))

Constraint-sync : IsSync constraint.the_row
Constraint-sync = variants_sync constraint.enum (
  (number_sync, (side_sent.the_sync, (items_sync expr.the_row Expr-sync, (span_sent.the_sync, tt)))),
  ((boxed_sync cond.the_row Cond-sync, (span_sent.the_sync, tt)), tt),
)

option_send : (R : RattleType) → IsSend R → IsSend (as_row (Option.the_field R))
option_send R s = as_row_send (Option.the_field R) (option_sent.the_field_send R s)

shared_send : (R : RattleType) → IsSend R → IsSync R → IsSend (as_row (Shared.the_field R))
shared_send R s y = as_row_send (Shared.the_field R) (shared_sent.the_send R s y)

Field-send : IsSend field.the_row
Field-send = declared_send field.the_type (declared_sent.the_send, (shared_send encoding.the_row Encoding-send Encoding-sync, (option_send bits.the_row bits_sent.the_send, tt)))

Format-send : IsSend format.the_row
Format-send = declared_send format.the_type (
  option_send name.the_row name_sent.the_send,
  (
    items_send field.the_row Field-send,
    (
      shared_send (Items.the_row usize) (items_sent.the_send usize usize_send) (items_sent.the_sync usize usize_sync),
      (items_send (Shared.the_row constraint.the_row) (shared_sent.the_send constraint.the_row Constraint-send Constraint-sync), tt),
    ),
  ),
)

Method-send : IsSend method.the_row
Method-send = declared_send method.the_type (name_sent.the_send, (span_sent.the_send, (items_send name.the_row name_sent.the_send, (items_send format.the_row Format-send, tt))))

pub Profile-send : IsSend profile.the_row
Profile-send = view_send inside.the_row _ _ _ _ (declared_send inside.the_type (items_send method.the_row Method-send, (items_send sizes.the_row sizes_sent.the_send, (number_send, (items_send asked.the_row asked_sent.the_send, tt)))))
