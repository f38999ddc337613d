use Rattle.std.proofs.Common.{◌≡◌, ◌∙◌, sym, ap, subst, ◌+◌, length, take, drop}
use Rattle.sem_bits.specs.Cursor.{Advances, Place}
use Rattle.sem_bits.proofs.NumberNexts.{next_part}
use Rattle.sem_bits.proofs.cursor.Cursor.skip.Goals as goal

pub returns-clause-skipped : goal.returns-clause-skipped
returns-clause-skipped c t =
    let all = c.self.inside.bits.now in
    let p = c.self.inside.place in
    let b = c.args.bits.now in
    let part : take (length b) (drop p all) ≡ b = ap (λ (z : Place). take (length b) z.left) c.self.view_is ∙ c.begins_with.ensures.0 c.if-not-begins_with.false in
    subst (λ z. Advances z (record { used = take (p + c.len-2.result) all; left = drop (p + c.len-2.result) all }) b) c.self.view_is
    (subst (λ n. Advances (record { used = take p all; left = drop p all }) (record { used = take (p + n) all; left = drop (p + n) all }) b) (sym c.len-2.ensures.value) (next_part all b p part))
