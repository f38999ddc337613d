-- Sides that are joined one after the other, as long as they can be held.
use Rattle.std.proofs.Common.{◌≡◌, ◌∙◌, sym, ap, ◌+◌, ◌<◌, ◌≤◌, Bool, true, false, cond, List, [], ◌++◌, length, arith, append_assoc}
use Rattle.std.specs.Prelude.{Option, Some, None, nat_le}
use Rattle.std.specs.Option.{option_map, option_and_then}
use Rattle.std.proofs.lemmas.Bool.Decides.{nat_tests}
use Rattle.std.proofs.lemmas.List.{append-nil, length-append}
use Rattle.sem_reasons.specs.Full.{holdable}

-- these are all of them
pub all_joined : (bits : List Bool) (all : Option (List Bool)) → length bits < 2147483648 → option_map (λ more. bits ++ more) (Some []) ≡ all → Some bits ≡ option_and_then holdable all
all_joined bits all few e =
    let yes : nat_le (length bits) 2147483647 ≡ true = grind (arith, nat_tests, few) in
    sym (ap (option_and_then holdable) (sym e ∙ ap Some (append-nil bits)) ∙ ap (λ t. cond t (Some bits) None) yes)

-- one of them isn't seen
pub not_joined : (bits : List Bool) (all : Option (List Bool)) → option_map (λ more. bits ++ more) None ≡ all → None ≡ option_and_then holdable all
not_joined bits all e = sym (ap (option_and_then holdable) (sym e))

-- one more of them
pub one_joined : (bits own new : List Bool) (rest all : Option (List Bool)) → new ≡ bits ++ own → option_map (λ more. bits ++ more) (option_map (λ more. own ++ more) rest) ≡ all → option_map (λ more. new ++ more) rest ≡ all
one_joined bits own new None all is e = e
one_joined bits own new (Some later) all is e = ap Some (ap (λ z. z ++ later) is ∙ append_assoc bits own later) ∙ e

-- with it they are too many
pub too_many : (bits own : List Bool) (rest all : Option (List Bool)) → 2147483648 ≤ length bits + length own → option_map (λ more. bits ++ more) (option_map (λ more. own ++ more) rest) ≡ all → None ≡ option_and_then holdable all
too_many bits own None all many e = sym (ap (option_and_then holdable) (sym e))
too_many bits own (Some later) all many e =
    let one = length-append bits (own ++ later) in
    let other = length-append own later in
    let long : 2147483648 ≤ length (bits ++ (own ++ later)) = omega (arith, many, one, other) in
    let no : nat_le (length (bits ++ (own ++ later))) 2147483647 ≡ false = grind (arith, nat_tests, long) in
    sym (ap (option_and_then holdable) (sym e) ∙ ap (λ t. cond t (Some (bits ++ (own ++ later))) None) no)
