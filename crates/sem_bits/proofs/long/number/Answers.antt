use Rattle.std.proofs.Common.{◌≡◌, ◌∙◌, ◌+◌, ◌-◌, ◌*◌, ◌/◌, ◌%◌, ◌^◌, ap, sym, arith}
use Rattle.sem_bits.proofs.NumberWindows.{number_in}
use Rattle.sem_bits.proofs.long.number.Goals as goal

pub returns-in-Some : goal.returns-in-Some
returns-in-Some c =
    let after : 8 * (c.args.place / 8 + 8) - c.args.place - c.args.count ≡ 64 - c.args.place % 8 - c.args.count = omega arith in
    c.part.ensures
    ∙ ap (λ n. (c.in-Some.word / 2 ^ n) % 2 ^ c.args.count) (sym after)
    ∙ number_in c.args.octets.now c.args.place c.args.count (c.args.place / 8) (c.args.place / 8 + 8) c.in-Some.word (omega arith) (omega arith) (omega arith) c.in-Some.ensures.0 c.in-Some.ensures.2
