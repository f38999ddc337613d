use Rattle.std.proofs.Common.{◌≡◌, ◌+◌, ◌-◌, ◌≤◌, ◌<◌, arith}
use Rattle.sem_bits.proofs.NumberWindows.{low_masked}
use Rattle.sem_pages.proofs.Words.{fill_room, filled, left_over, word_length}
use Rattle.sem_pages.proofs.word.Word.filled.Goals as goal

pub overflow_sub-left : goal.overflow_sub-left
overflow_sub-left c =
    left_over c.self.inside.count c.other.inside.count c.args.self.now c.args.other.now (word_length c.self.inside.count c.self.inside.value c.args.self.now c.self.view_is)
    (word_length c.other.inside.count c.other.inside.value c.args.other.now c.other.view_is) c.requires

pub beside-requires-clause-room : goal.beside-requires-clause-room
beside-requires-clause-room c =
    fill_room c.self.inside.count c.self.inside.value c.other.inside.count c.other.inside.value c.self.invariant.1 c.self.invariant.0 c.other.invariant.1
    (left_over c.self.inside.count c.other.inside.count c.args.self.now c.args.other.now (word_length c.self.inside.count c.self.inside.value c.args.self.now c.self.view_is)
    (word_length c.other.inside.count c.other.inside.value c.args.other.now c.other.view_is) c.requires)

pub returns : goal.returns
returns c =
    let n = c.self.inside.count in
    let m = c.other.inside.count in
    let le : 64 - n ≤ m =
    left_over n m c.args.self.now c.args.other.now (word_length n c.self.inside.value c.args.self.now c.self.view_is) (word_length m c.other.inside.value c.args.other.now c.other.view_is) c.requires in
    let short : n ≤ 64 = c.self.invariant.0 in
    let few : m ≤ 64 = c.other.invariant.0 in
    let whole : n + (64 - n) ≡ 64 = omega (arith, short) in
    let sum : m ≡ (64 - n) + (m - (64 - n)) = omega (arith, le) in
    let under : m - (64 - n) < 64 = omega (arith, short, few, le, c.if-room-eq0.false) in
    filled c.args.self.now c.args.other.now c.self.inside.value c.other.inside.value n m (64 - n) (m - (64 - n)) c.beside.result _ c.self.view_is c.other.view_is whole sum c.other.invariant.1 c.beside.ensures
    (low_masked c.other.inside.value (m - (64 - n)) under)
