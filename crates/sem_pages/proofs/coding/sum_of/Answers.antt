use Rattle.std.proofs.Common.{rules, ◌≡◌, ◌∙◌, [], sym, ap, subst, to_z, of_z, List, Bool}
use Rattle.std.specs.Prelude.{Some, Option}
use mir.Syntax.{w128}
use Rattle.sem_library.specs.Methods.{IsOnly, Lib}
use Rattle.sem_library.specs.Methods as lib
use Rattle.sem_profile.specs.declared.profile.Field.{Field}
use Rattle.sem_profile.specs.declared.profile.Library.TheVariants as library
use Rattle.sem_filling.specs.Entries.{Path}
use Rattle.sem_filling.specs.Fits.{Context}
use Rattle.sem_pages.specs.Pages.{IsCodedOn, seen_side}
use Rattle.sem_pages.proofs.CodedSides.{some_weaker, summed_on}
use Rattle.sem_pages.proofs.coding.sum_of.Goals as goal

pub returns-in-Some-sum : goal.returns-in-Some-sum
returns-in-Some-sum c =
    let p = to_z w128 (of_z w128 c.wide.result) in
    let q = to_z w128 (of_z w128 c.wide-2.result) in
    let r = to_z w128 (of_z w128 c.wide-3.result) in
    let s = to_z w128 (of_z w128 c.wide-4.result) in
    let kept_p : p ≡ c.in-Some.bits = (search rules) in
    let kept_q : q ≡ c.in-Some-value.polynomial = (search rules) in
    let kept_r : r ≡ c.in-Some-value-2.initial = (search rules) in
    let kept_s : s ≡ c.in-Some-value-3.length = (search rules) in
    some_weaker (λ (w : List Bool). w ≡ c.in-Some-sum.bits)
    (λ (w : List Bool). (ctx : Context) (path : Path) (d : Field) → seen_side c.args.view.now c.args.crc.now.subject c.args.crc.now.side ≡ Some c.args.covered.now → IsCodedOn ctx path c.args.view.now d (library.Crc c.args.crc.now) [] w) c.of.result
    (λ w is ctx path d covers.
    summed_on c.args.view.now ctx path d [] w c.args.crc.now p q r s c.args.covered.now c.in_ok-sum.sum
    (c.in-Some.ensures ∙ ap Some (sym kept_p)) (c.in-Some-value.ensures ∙ ap Some (sym kept_q)) (c.in-Some-value-2.ensures ∙ ap Some (sym kept_r)) (c.in-Some-value-3.ensures ∙ ap Some (sym kept_s))
    covers (subst (λ u. (ref : Option (List Bool)) → IsOnly (λ z. Lib (lib.crc p q r c.args.covered.now s) ref u z) c.in_ok-sum.sum) c.new.ensures c.in_ok-sum.ensures) (c.in-Some-sum.is ∙ ap Some (sym is)))
    c.of.ensures
