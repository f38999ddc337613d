use Rattle.std.proofs.Common.{drop, subst, arith}
use Rattle.walk_write.specs.Refutation.{Differs}
use Rattle.walk_write.specs.Premises.{told_numbers}
use Rattle.walk_write.proofs.ForesightLemmas.{choice_fails}
use Rattle.walk_write.proofs.WalkingPast.{passed}
use Rattle.walk_write.proofs.foresight.foreseen_choice.Goals as goal

pub alike-requires : goal.alike-requires
alike-requires c =
    let stands = c.requires.stands in
    let seen = c.in_ok-read_choice.ensures stands.later stands.seen in
    record { within = seen.reading.below }

pub overflow_add-number : goal.overflow_add-number
overflow_add-number c =
    let stands = c.requires.stands in
    let seen = c.in_ok-read_choice.ensures stands.later stands.seen in
    let counted = c.requires.counted in
    let room = seen.room counted.count counted.count_is in
    let fits = counted.fits in
    let alike = c.alike.ensures.count in
    omega (arith, room, fits, alike)

pub returns-then-has_other-clause-past : goal.returns-then-has_other-clause-past
returns-then-has_other-clause-past c =
    let place = c.args.outlook.now.place.now in
    let format = c.args.outlook.now.format.now in
    let bits = drop c.args.outlook.now.source.now.from c.args.outlook.now.source.now.cursor.now.left in
    let stands = c.requires.stands in
    let seen = c.in_ok-read_choice.ensures stands.later stands.seen in
    let listed = c.requires.listed in
    let choices = c.read_choice.new.choices.items in
    let differs = subst (λ z. Differs place (told_numbers format place.frame.arguments.now z) format.fields listed.sizes.fields bits) c.as_slice.ensures (c.in_ok-has_other.ensures c.if-has_other.true listed.sizes.fields listed.right) in
    passed place bits c.args.outlook.now.source.now.asked.now c.args.number.now c.alike.result
    (choice_fails place c.args.outlook.now.index format c.args.outlook.now.source.now.asked.now stands.later c.args.number.now c.read_choice.new.digits choices seen listed.sizes listed.sizes_are bits differs c.alike.result c.alike.ensures.count c.alike.ensures.share)

pub returns-then-has_other-clause-over : goal.returns-then-has_other-clause-over
returns-then-has_other-clause-over c = λ is.
    let stands = c.requires.stands in
    let seen = c.in_ok-read_choice.ensures stands.later stands.seen in
    let below = seen.reading.below in
    let alike = c.alike.ensures.count in
    omega (arith, below, alike)
