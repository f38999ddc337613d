-- Lists of which one is made of the other.
use Rattle.std.specs.Prelude.{◌≡◌, ℕ, List, length, Some, slice_get}

-- so many elements of a list, each with what was made of it
pub record AreMade {A B : Type 0} (R : A → B → Type 0) (xs : List A) (ys : List B) (n : ℕ) : Type 0 where
  pub count : length ys ≡ n
  pub each : (i : ℕ) (x : A) (y : B) → slice_get xs i ≡ Some x → slice_get ys i ≡ Some y → R x y
