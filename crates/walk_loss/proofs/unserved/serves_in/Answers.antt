use Rattle.std.proofs.Common.{rules, ◌≡◌, ◌∙◌, sym, ap, subst, to_z, of_z, IsTrue, ◌↔◌}
use Rattle.std.specs.Option.{option_copied}
use mir.Syntax.{w128}
use Rattle.sem_context.specs.Entries.{bits_at}
use Rattle.sem_elsewhere.specs.Uses.{Use}
use Rattle.sem_filling.specs.Fits.{reference_of}
use Rattle.sem_library.specs.Methods as lib
use Rattle.sem_library.specs.Methods.{Lib}
use Rattle.walk_loss.specs.Uses.{method}
use Rattle.walk_loss.proofs.Walking.{made_relates}
use Rattle.walk_loss.proofs.unserved.serves_in.Goals as goal

pub returns-in_ok-made-in-Lsb : goal.returns-in_ok-made-in-Lsb
returns-in_ok-made-in-Lsb c =
    let p = to_z w128 (of_z w128 c.in-Lsb.bits) in
    let q = to_z w128 (of_z w128 c.in-Lsb.offset) in
    let kept_p : p ≡ c.in-Lsb.bits = (search rules) in
    let kept_q : q ≡ c.in-Lsb.offset = (search rules) in
    let own = c.args.one.now in
    let up = c.one.inside.uncompressed in
    let down = c.one.inside.compressed in
    let ref = reference_of own.part (bits_at c.args.context.now) own.path own.initial in
    let t = c.is_made-in-Lsb.result in
    let made : IsTrue t ↔ Lib (lib.lsb p q) (option_copied c.reference_in-reference.result) up down = made_relates (lib.lsb p q) _ up down c.in_ok-made-in-Lsb.made t c.in_ok-made-in-Lsb.ensures c.is_made-in-Lsb.ensures in
    let here : IsTrue t ↔ Lib (lib.lsb p q) ref up down = subst (λ r. IsTrue t ↔ Lib (lib.lsb p q) r up down) c.reference_in-reference.ensures made in
    let there : IsTrue t ↔ Lib (lib.lsb p q) ref own.uncompressed own.compressed = subst (λ (u : Use). IsTrue t ↔ Lib (lib.lsb p q) ref u.uncompressed u.compressed) c.one.view_is here in
    let method_is : lib.lsb p q ≡ own.method =
    ap (λ x. lib.lsb x q) kept_p ∙ ap (λ x. lib.lsb c.in-Lsb.bits x) kept_q ∙ sym (ap method c.in-Lsb.is) ∙ ap (λ (u : Use). u.method) c.one.view_is in
    subst (λ m. IsTrue t ↔ Lib m ref own.uncompressed own.compressed) method_is there
