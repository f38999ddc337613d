use Rattle.std.proofs.Common.{rules, ◌≡◌, ◌<◌, ◌^◌, ℕ, length, get_or}
use Rattle.std.proofs.lemmas.Nat.{be_bytes_8}
use Rattle.sem_bits.proofs.Words.{eight_spelled}
use Rattle.sem_bits.proofs.long.spelled_by.Goals as goal

pub returns : goal.returns
returns c =
    let count : length c.args.octets.now ≡ 8 = (search rules) in
    let small : (i : ℕ) → get_or c.args.octets.now i 0 < 256 = (search rules) in
    let below : c.from_be_bytes.result < 2 ^ 64 = (search rules) in
    eight_spelled c.args.octets.now c.from_be_bytes.result below (be_bytes_8 c.args.octets.now c.from_be_bytes.result count small c.from_be_bytes.ensures)
