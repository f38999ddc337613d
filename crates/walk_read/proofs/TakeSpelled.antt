-- Bits that are built from the number that a look shows.
use Rattle.std.proofs.Common.{◌≡◌, sym, ◌∙◌, ap, subst, ℕ, ◌+◌, ◌-◌, ◌<◌, ◌≤◌, ◌^◌, Bool, List, length, take, drop, arith}
use Rattle.std.specs.Prelude.{Option, Some, None, slice_range}
use Rattle.std.specs.Option.{SomeIff}
use Rattle.std.proofs.lemmas.List.{length-drop, length-take-le}
use Rattle.std.proofs.lemmas.Option.{same_Some}
use Rattle.sem_bits.specs.Number.{num, enc}
use Rattle.sem_bits.proofs.Numbers.{enc-num, num-below}

there : {A : Type 0} (o : Option A) (P : Type 0) (x : A) → SomeIff o P x → P → o ≡ Some x
there None P x never p = absurd (never p)
there (Some y) P x is p = ap Some is.1

pub spelled : (left : List Bool) (place count number : ℕ) (o : Option ℕ) (bits : Option (List Bool)) → place + count ≤ length left → count ≤ 64 →
    SomeIff o ((count ≤ 64) × (place + count ≤ length left)) (num (slice_range left place (place + count))) → o ≡ Some number →
    SomeIff bits ((count ≤ 64) × (number < 2 ^ count)) (enc count number) → bits ≡ Some (take count (drop place left))
spelled left place count number o bits within narrow look some built =
    let next = take count (drop place left) in
    let end : (place + count) - place ≡ count = omega arith in
    let long : length next ≡ count = length-take-le count (drop place left) (omega (arith, length-drop place left, within)) in
    let shown : Some number ≡ Some (num (slice_range left place (place + count))) = sym some ∙ there o _ _ look (narrow, within) in
    let is : number ≡ num next = same_Some number _ shown ∙ ap (λ n. num (take n (drop place left))) end in
    let below : number < 2 ^ count = subst (λ n. n < 2 ^ count) (sym is) (subst (λ n. num next < 2 ^ n) long (num-below next)) in
    there bits _ _ built (narrow, below) ∙ ap Some ((λ j. enc (sym long j) (is j)) ∙ enc-num next)
