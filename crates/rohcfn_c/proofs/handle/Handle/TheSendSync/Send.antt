-- A handle owns a session on the heap, which may cross threads, and the right to free it, which any thread may use.
use mir.Raw.{raw}
use base.Fraction.{full_share}
use base.Shift.{Keyless}
use denote.RattleType.{RattleType}
use denote.Memory.{lone}
use denote.RawPtr.{Ptr, block_ptr, null_ptr}
use denote.Builtin.{RawPtr}
use denote.Param.Send.{IsSend, owning_send, part_keyless, sendable}
use denote.Param.SendFields.{declared_send}
use Rattle.std.specs.declared.alloc.Global.{Global}
use Rattle.std.specs.declared.option.Option.{Option}
use Rattle.std.specs.declared.option.Option.TheVariants.{None, Some}
use Rattle.std.proofs.Crossing.{frees}
use Rattle.std.proofs.alloc.Global.TheSendSync as global_sent
use Rattle.walk_session.proofs.Crossing.{Session-send}
use Rattle.rohcfn_c.proofs.opened.Last.TheSendSync as last_sent
use Rattle.rohcfn_c.specs.Held.{held_at}
use Rattle.rohcfn_c.specs.contracts.handle.Handle.{the_row, the_type}
use Rattle.rohcfn_c.specs.contracts.opened.Opened as opened

pointer_send : IsSend RawPtr
pointer_send = search sendable

opened_send : IsSend opened.the_row
opened_send = declared_send opened.the_type (Session-send, (last_sent.the_send, tt))

held_keyless : (R : RattleType) → IsSend R → (a : Global) (p : Ptr) (o : Option R.Denot) → Keyless (held_at R a p o)
held_keyless R s a null_ptr None = tt
held_keyless R s a null_ptr (Some x) = λ e. tt
held_keyless R s a (block_ptr b n) None = λ e. tt
held_keyless R s a (block_ptr b n) (Some x) = (part_keyless R s full_share x b n, frees.frees a (raw (lone R.mir)) (block_ptr b n))

pub send : IsSend the_row
send = owning_send the_type (pointer_send, (global_sent.the_field_send, tt)) (λ d. held_keyless opened.the_row opened_send d.alloc d.at d.session) (λ k x w. tt)
