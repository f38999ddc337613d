use Rattle.std.proofs.Common.{◌≡◌, ◌<◌, ◌∙◌, ◌/◌, ◌*◌, ◌-◌, length, drop, ap, sym, arith}
use Rattle.std.specs.Prelude.{fold, reverse}
use Rattle.sem_library.specs.Crc.{crc_step, crc_register, low_bits_first}
use Rattle.sem_library.proofs.CrcRegisters.{octet_there, octet_bits, octets_more, register_fits}
use Rattle.sem_library.proofs.crc.crc_of.Goals as goal

pub loop-place-preserved : goal.loop-place-preserved
loop-place-preserved c =
    let inside : c.loop-place.place < length c.args.covered.now / 8 = omega (arith, c.len-place-end.ensures.value) in
    let octet = octet_there c.octet.result c.args.covered.now c.loop-place.place c.unwrap_or-octet.result (omega arith) c.octet.ensures c.unwrap_or-octet.ensures in
    let bits = octet_bits c.args.covered.now (8 * c.loop-place.place) c.unwrap_or-octet.result (omega arith) octet in
    octets_more c.args.polynomial c.loop-place.register c.after_octet-register.result c.args.covered.now (length c.args.covered.now / 8) c.loop-place.place inside (c.after_octet-register.ensures c.args.polynomial c.table_of-table.ensures ∙ ap (λ b. fold (crc_step c.args.polynomial) c.loop-place.register (reverse b)) bits) ∙ c.loop-place.invariant

pub returns-clause-fits : goal.returns-clause-fits
returns-clause-fits c =
    let all : length c.args.covered.now / 8 - c.loop-place.place ≡ 0 = omega (arith, c.len-place-end.ensures.value) in
    let value : c.loop-place.register ≡ crc_register c.args.polynomial c.args.initial c.args.covered.now =
    ap (λ n. fold (crc_step c.args.polynomial) c.loop-place.register (low_bits_first n (drop (8 * c.loop-place.place) c.args.covered.now))) (sym all) ∙ c.loop-place.invariant in
    register_fits c.args.polynomial c.args.initial c.args.bits c.args.covered.now c.loop-place.register c.requires.polynomial_fits c.requires.initial_fits value
