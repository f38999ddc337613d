-- Tokens that are added piece by piece.
use Rattle.std.proofs.Common.{◌≡◌, ◌∙◌, ap, List, ◌++◌, append_assoc}
use Rattle.std.specs.Prelude.{Result, Ok, Err, OnOk}

pub then_more : {A : Type 0} (o a b m n : List A) → m ≡ o ++ a → n ≡ m ++ b → n ≡ o ++ (a ++ b)
then_more o a b m n e f = f ∙ ap (λ z. z ++ b) e ∙ append_assoc o a b

pub at_last : {A E : Type 0} (o a b m n : List A) (r : Result (Unit {0}) E) → m ≡ o ++ a → OnOk r (n ≡ m ++ b) → OnOk r (n ≡ o ++ (a ++ b))
at_last o a b m n (Err x) e f = tt
at_last o a b m n (Ok x) e f = then_more o a b m n e f
