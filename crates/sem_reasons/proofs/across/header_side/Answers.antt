use Rattle.std.proofs.Common.{rules, ◌≡◌, IfOk, to_z, of_z}
use mir.Syntax.{w128}
use Rattle.std.specs.Option.{option_copied}
use Rattle.std.proofs.lemmas.Result.{IfOk-weaker}
use Rattle.sem_expr.specs.declared.expr.Side.TheVariants.{Compressed}
use Rattle.sem_library.specs.Methods as lib
use Rattle.sem_library.specs.Methods.{IsOnly}
use Rattle.sem_reasons.specs.Told.{Related}
use Rattle.sem_reasons.proofs.AcrossArms.{one, two, four}
use Rattle.sem_reasons.proofs.across.header_side.Goals as goal

pub returns-in-UncompressedValue : goal.returns-in-UncompressedValue
returns-in-UncompressedValue c =
    let kept_length : to_z w128 (of_z w128 c.in-UncompressedValue.length) ≡ c.in-UncompressedValue.length = (search rules) in
    let kept_value : to_z w128 (of_z w128 c.in-UncompressedValue.value) ≡ c.in-UncompressedValue.value = (search rules) in
    rw c.in-UncompressedValue.is (two lib.uncompressed_value (λ m. IfOk c.uncompressed_value_up.result (IsOnly (Related m (option_copied c.args.reference) Compressed c.args.own.now))) c.in-UncompressedValue.length c.in-UncompressedValue.value (to_z w128 (of_z w128 c.in-UncompressedValue.length)) (to_z w128 (of_z w128 c.in-UncompressedValue.value)) kept_length kept_value (IfOk-weaker c.uncompressed_value_up.result _ _ (λ o h. h (option_copied c.args.reference)) c.uncompressed_value_up.ensures))

pub returns-in-CompressedValue : goal.returns-in-CompressedValue
returns-in-CompressedValue c =
    let kept_length : to_z w128 (of_z w128 c.in-CompressedValue.length) ≡ c.in-CompressedValue.length = (search rules) in
    let kept_value : to_z w128 (of_z w128 c.in-CompressedValue.value) ≡ c.in-CompressedValue.value = (search rules) in
    rw c.in-CompressedValue.is (two lib.compressed_value (λ m. IsOnly (Related m (option_copied c.args.reference) Compressed c.args.own.now) c.compressed_value_up.result) c.in-CompressedValue.length c.in-CompressedValue.value (to_z w128 (of_z w128 c.in-CompressedValue.length)) (to_z w128 (of_z w128 c.in-CompressedValue.value)) kept_length kept_value (c.compressed_value_up.ensures (option_copied c.args.reference)))

pub returns-in-Irregular : goal.returns-in-Irregular
returns-in-Irregular c =
    let kept_length : to_z w128 (of_z w128 c.in-Irregular.length) ≡ c.in-Irregular.length = (search rules) in
    rw c.in-Irregular.is (one lib.irregular (λ m. IfOk c.irregular_up.result (IsOnly (Related m (option_copied c.args.reference) Compressed c.args.own.now))) c.in-Irregular.length (to_z w128 (of_z w128 c.in-Irregular.length)) kept_length (IfOk-weaker c.irregular_up.result _ _ (λ o h. h (option_copied c.args.reference)) c.irregular_up.ensures))

pub returns-in-Lsb : goal.returns-in-Lsb
returns-in-Lsb c =
    let kept_bits : to_z w128 (of_z w128 c.in-Lsb.bits) ≡ c.in-Lsb.bits = (search rules) in
    let kept_offset : to_z w128 (of_z w128 c.in-Lsb.offset) ≡ c.in-Lsb.offset = (search rules) in
    rw c.in-Lsb.is (two lib.lsb (λ m. IfOk c.lsb_up.result (IsOnly (Related m (option_copied c.args.reference) Compressed c.args.own.now))) c.in-Lsb.bits c.in-Lsb.offset (to_z w128 (of_z w128 c.in-Lsb.bits)) (to_z w128 (of_z w128 c.in-Lsb.offset)) kept_bits kept_offset c.lsb_up.ensures)

pub returns-in-Crc : goal.returns-in-Crc
returns-in-Crc c =
    let kept_bits : to_z w128 (of_z w128 c.in-Crc.bits) ≡ c.in-Crc.bits = (search rules) in
    let kept_polynomial : to_z w128 (of_z w128 c.in-Crc.polynomial) ≡ c.in-Crc.polynomial = (search rules) in
    let kept_initial : to_z w128 (of_z w128 c.in-Crc.initial) ≡ c.in-Crc.initial = (search rules) in
    let kept_length : to_z w128 (of_z w128 c.in-Crc.length) ≡ c.in-Crc.length = (search rules) in
    rw c.in-Crc.is (four c.args.covered.now (λ m. IsOnly (Related m (option_copied c.args.reference) Compressed c.args.own.now) c.crc_up.result) c.in-Crc.bits c.in-Crc.polynomial c.in-Crc.initial c.in-Crc.length (to_z w128 (of_z w128 c.in-Crc.bits)) (to_z w128 (of_z w128 c.in-Crc.polynomial)) (to_z w128 (of_z w128 c.in-Crc.initial)) (to_z w128 (of_z w128 c.in-Crc.length)) kept_bits kept_polynomial kept_initial kept_length (c.crc_up.ensures (option_copied c.args.reference)))
