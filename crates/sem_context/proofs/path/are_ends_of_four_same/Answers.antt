use Rattle.std.proofs.Common.{rules, ◌≡◌, ◌↔◌, ◌∙◌, IsTrue, sym, ap, drop, length, ◌-◌}
use Rattle.sem_context.proofs.Ends.{ends_same}
use Rattle.sem_context.proofs.path.are_ends_of_four_same.Goals as goal

pub returns-then-eq : goal.returns-then-eq
returns-then-eq c =
    let first_eq : c.in-Some.first.now ≡ c.in-Some-first_chunk.other_first.now = (search rules) in
    let last_eq : IsTrue c.eq-then-eq.result ↔ (c.in-Some-last_chunk.last.now ≡ c.in-Some-last_chunk-2.other_last.now) = (search rules) in
    let first = sym c.in-Some.ensures.cases.same ∙ first_eq ∙ c.in-Some-first_chunk.ensures.cases.same in
    let last = c.in-Some-last_chunk.ensures.cases.1.same in
    let other = c.in-Some-last_chunk-2.ensures.cases.1.same in (
      λ is. ends_same 4 c.args.octets.now c.args.others.now c.requires.same c.requires.least c.requires.most first (sym last ∙ last_eq.0 is ∙ other),
      λ same. last_eq.1 (last ∙ ap (λ xs. drop (length xs - 4) xs) same ∙ sym other),
    )
