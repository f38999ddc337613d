use Rattle.std.proofs.Common.{rules, refl, subst, sym}
use Rattle.sem_context.specs.Entries.{bits_at}
use Rattle.sem_expr.specs.Known.{assignment_of}
use Rattle.sem_profile.specs.declared.profile.CrcArguments.{CrcArguments}
use Rattle.sem_profile.specs.declared.profile.Library.TheVariants as library
use Rattle.sem_profile.specs.BoundsLaws.{library_exprs}
use Rattle.sem_filling.specs.Level.{AllRanged}
use Rattle.sem_filling.proofs.Coded.{argument_ranged, spelled_up, spelled_down, carried_is}
use Rattle.sem_holds.proofs.plain.is_coded.Goals as goal

pub is_spelled-requires-clause-length : goal.is_spelled-requires-clause-length
is_spelled-requires-clause-length c = argument_ranged c.args.level.now.known 0 c.requires.ranged c.in-UncompressedValue.is refl

pub is_spelled-requires-clause-number : goal.is_spelled-requires-clause-number
is_spelled-requires-clause-number c = argument_ranged c.args.level.now.known 1 c.requires.ranged c.in-UncompressedValue.is refl

pub is_spelled-requires-then-is_empty-2-clause-length : goal.is_spelled-requires-then-is_empty-2-clause-length
is_spelled-requires-then-is_empty-2-clause-length c = argument_ranged c.args.level.now.known 0 c.requires.ranged c.in-CompressedValue.is refl

pub is_spelled-requires-then-is_empty-2-clause-number : goal.is_spelled-requires-then-is_empty-2-clause-number
is_spelled-requires-then-is_empty-2-clause-number c = argument_ranged c.args.level.now.known 1 c.requires.ranged c.in-CompressedValue.is refl

pub is_carried-requires : goal.is_carried-requires
is_carried-requires c = argument_ranged c.args.level.now.known 0 c.requires.ranged c.in-Irregular.is refl

pub is_near-requires-clause-bits : goal.is_near-requires-clause-bits
is_near-requires-clause-bits c = argument_ranged c.args.level.now.known 0 c.requires.ranged c.in-Lsb.is refl

pub is_near-requires-clause-offset : goal.is_near-requires-clause-offset
is_near-requires-clause-offset c = argument_ranged c.args.level.now.known 1 c.requires.ranged c.in-Lsb.is refl

pub is_summed-requires-clause-ranged : goal.is_summed-requires-clause-ranged
is_summed-requires-clause-ranged c =
    let ranged = subst (λ l. AllRanged c.args.level.now.known (library_exprs l)) c.in-Crc.is c.requires.ranged in
    subst (λ (crc : CrcArguments). AllRanged c.args.level.now.known (library_exprs (library.Crc crc))) (sym c.get.ensures) ranged

pub returns-then-is_empty : goal.returns-then-is_empty
returns-then-is_empty c =
    let same = spelled_up (bits_at c.args.frame.now.context.now) c.args.frame.now.path.now c.args.level.now.filling.now (assignment_of c.args.level.now.known) c.args.field.now c.args.filled.now
    (search rules) c.in-UncompressedValue.length c.in-UncompressedValue.value in
    rw c.in-UncompressedValue.is (λ t. same.0 (c.is_spelled.ensures.0 t, c.if-is_empty.ensures.0 refl), λ h. c.is_spelled.ensures.1 (same.1 h).0)

pub returns-then-is_empty-2 : goal.returns-then-is_empty-2
returns-then-is_empty-2 c =
    let same = spelled_down (bits_at c.args.frame.now.context.now) c.args.frame.now.path.now c.args.level.now.filling.now (assignment_of c.args.level.now.known) c.args.field.now c.args.filled.now
    (search rules) c.in-CompressedValue.length c.in-CompressedValue.value in
    rw c.in-CompressedValue.is (λ t. same.0 (c.is_spelled-then-is_empty-2.ensures.0 t, c.if-is_empty-2.ensures.0 refl), λ h. c.is_spelled-then-is_empty-2.ensures.1 (same.1 h).0)

pub returns-in-Irregular : goal.returns-in-Irregular
returns-in-Irregular c =
    let same = carried_is (bits_at c.args.frame.now.context.now) c.args.frame.now.path.now c.args.level.now.filling.now (assignment_of c.args.level.now.known) c.args.field.now c.args.filled.now
    (search rules) c.in-Irregular.length in
    rw c.in-Irregular.is (λ t. same.0 (c.is_carried.ensures.0 t), λ h. c.is_carried.ensures.1 (same.1 h))
