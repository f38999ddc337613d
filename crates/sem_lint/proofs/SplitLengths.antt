-- Whether a number of whole octets lies within bounds.
use Rattle.std.proofs.Common.{◌≡◌, refl, ◌<◌, ◌≤◌, ◌-◌, ◌%◌, Bool, true, false, nat_lt, arith}
use Rattle.std.proofs.lemmas.Bool.Decides.{nat_tests}
use Rattle.sem_profile.specs.declared.profile.Bounds.{Bounds}
use Rattle.sem_lint.specs.Obstacles.{AreSplit}

pub are_split : (b : Bounds) → nat_lt (b.most - b.most % 8) b.least ≡ true → AreSplit b
are_split b t = record { split = λ n low high whole. let lt : b.most - b.most % 8 < b.least = grind (arith, nat_tests) in omega (arith, lt, low, high, whole) }

pub is_found : (b : Bounds) → AreSplit b → nat_lt (b.most - b.most % 8) b.least ≡ true
is_found b are = by (nat_lt (b.most - b.most % 8) b.least) refl
  where
    by : (t : Bool) → nat_lt (b.most - b.most % 8) b.least ≡ t → nat_lt (b.most - b.most % 8) b.least ≡ true
    by true t = t
    by false t =
        let le : b.least ≤ b.most - b.most % 8 = grind (arith, nat_tests) in
        absurd (are.split (b.most - b.most % 8) le (omega arith) (omega arith))
