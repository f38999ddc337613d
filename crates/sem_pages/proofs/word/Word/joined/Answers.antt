use Rattle.std.proofs.Common.{rules, ◌∙◌, ◌++◌, refl}
use Rattle.sem_pages.proofs.Words.{both, over_both, room, word_length}
use Rattle.sem_pages.proofs.word.Word.joined.Goals as goal

pub beside-requires-clause-room : goal.beside-requires-clause-room
beside-requires-clause-room c = room c.self.inside.count c.self.inside.value c.other.inside.count c.other.inside.value _ (search rules) (search rules) refl (search rules)

pub invariant_of-result : goal.invariant_of-result
invariant_of-result c = ((search rules), (both c.self.inside.count c.self.inside.value c.other.inside.count c.other.inside.value _ _ (search rules) (search rules) refl c.beside.ensures).0)

pub returns-clause-both : goal.returns-clause-both
returns-clause-both c =
    (both c.self.inside.count c.self.inside.value c.other.inside.count c.other.inside.value _ _ (search rules) (search rules) refl c.beside.ensures).1
    ∙ λ i. c.self.view_is i ++ c.other.view_is i

pub returns-then-count-gt64-clause-none : goal.returns-then-count-gt64-clause-none
returns-then-count-gt64-clause-none c =
    over_both c.self.inside.count c.other.inside.count c.args.self.now c.args.other.now (word_length c.self.inside.count c.self.inside.value c.args.self.now c.self.view_is)
    (word_length c.other.inside.count c.other.inside.value c.args.other.now c.other.view_is) c.if-count-gt64.true
