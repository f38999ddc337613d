-- A method by numbers that the code holds is the one by the numbers themselves.
use Rattle.std.proofs.Common.{◌≡◌, subst, ℤ, List, Bool}
use Rattle.sem_library.specs.Methods as lib

pub one : (make : ℤ → lib.Method) (P : lib.Method → Type 0) (a x : ℤ) → x ≡ a → P (make x) → P (make a)
one make P a x e h = subst (λ z. P (make z)) e h

pub two : (make : ℤ → ℤ → lib.Method) (P : lib.Method → Type 0) (a b x y : ℤ) → x ≡ a → y ≡ b → P (make x y) → P (make a b)
two make P a b x y e f h = subst (λ z. P (make a z)) f (subst (λ z. P (make z y)) e h)

pub four : (covered : List Bool) (P : lib.Method → Type 0) (a b c d x y z w : ℤ) → x ≡ a → y ≡ b → z ≡ c → w ≡ d → P (lib.crc x y z covered w) → P (lib.crc a b c covered d)
four covered P a b c d x y z w e f g i h = subst (λ q. P (lib.crc a b c covered q)) i (subst (λ q. P (lib.crc a b q covered w)) g (subst (λ q. P (lib.crc a q z covered w)) f (subst (λ q. P (lib.crc q y z covered w)) e h)))
