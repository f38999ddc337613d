use Rattle.std.proofs.Common.{◌≡◌, ◌+◌, ◌%◌, ◌^◌, ◌≤◌, Bool, List, length, Option, Some, None, refl, sym, ap, ◌∙◌, arith}
use Rattle.std.specs.Prelude.{ℤ, pos}
use Rattle.std.proofs.lemmas.Option.{same_Some}
use Rattle.sem_bits.specs.Number.{num}
use Rattle.sem_library.specs.Crc.{crc_register}
use Rattle.sem_library.specs.Methods.{Method, Lib, Spells, LsbHolds, CrcHolds, lsb_start, uncompressed_value, compressed_value, irregular, static, lsb, crc}
use Rattle.sem_library.proofs.MethodsSpelling.{same_bits}
use Rattle.sem_library.proofs.LsbModuli.{ahead}
use Rattle.sem_library.proofs.MethodsLasts.{same_pos, up_from}

same_spelled : (len val : ℤ) (x y : List Bool) → Spells len val x → Spells len val y → x ≡ y
same_spelled len val x y s t = same_bits x y (same_pos (length x) (length y) (s.length_is ∙ sym t.length_is)) (same_pos (num x) (num y) (s.number_is ∙ sym t.number_is))

same_lsb_up : (k offset : ℤ) (r u v c : List Bool) → LsbHolds k offset r u c → LsbHolds k offset r v c → u ≡ v
same_lsb_up k offset r u v c s t =
    let short : length r ≤ 64 = omega (arith, s.as_long, s.short) in
    let within : length c ≤ length r = omega (arith, s.as_long, s.within) in
    let only = up_from k offset r c (lsb_start offset r) (num c) ((lsb_start offset r + ahead (2 ^ length c) (lsb_start offset r) (num c)) % 2 ^ length r) short s.bits_are within refl refl refl in
    same_spelled (pos (length r)) (pos ((lsb_start offset r + ahead (2 ^ length c) (lsb_start offset r) (num c)) % 2 ^ length r)) u v (only u s) (only v t)

same_lsb_down : (k offset : ℤ) (r u c d : List Bool) → LsbHolds k offset r u c → LsbHolds k offset r u d → c ≡ d
same_lsb_down k offset r u c d s t =
    let l : length c ≡ length d = same_pos (length c) (length d) (s.bits_are ∙ sym t.bits_are) in
    same_bits c d l (s.low_part ∙ ap (λ n. num u % 2 ^ n) l ∙ sym t.low_part)

same_crc : (bits poly init : ℤ) (covered : List Bool) (len : ℤ) (c d : List Bool) → CrcHolds bits poly init covered len c → CrcHolds bits poly init covered len d → c ≡ d
same_crc bits poly init covered len c d s t =
    let p : s.polynomial ≡ t.polynomial = same_pos s.polynomial t.polynomial (s.polynomial_is ∙ sym t.polynomial_is) in
    let i : s.initial ≡ t.initial = same_pos s.initial t.initial (s.initial_is ∙ sym t.initial_is) in
    same_bits c d (same_pos (length c) (length d) (s.bits_are ∙ sym t.bits_are))
    (s.number_is ∙ (λ j. crc_register (p j) (i j) covered) ∙ sym t.number_is)

pub one_up : (m : Method) (r : Option (List Bool)) (u v c : List Bool) → Lib m r u c → Lib m r v c → u ≡ v
one_up (uncompressed_value len val) r u v c s t = same_spelled len val u v s.0 t.0
one_up (compressed_value len val) r u v c s t = s.0 ∙ sym t.0
one_up (irregular len) r u v c s t = s.0 ∙ sym t.0
one_up static r u v c s t = same_Some u v (sym s.0 ∙ t.0)
one_up (lsb k offset) None u v c s t = absurd s
one_up (lsb k offset) (Some r) u v c s t = same_lsb_up k offset r u v c s t
one_up (crc bits poly init covered len) r u v c s t = s.0 ∙ sym t.0

pub one_down : (m : Method) (r : Option (List Bool)) (u c d : List Bool) → Lib m r u c → Lib m r u d → c ≡ d
one_down (uncompressed_value len val) r u c d s t = s.1 ∙ sym t.1
one_down (compressed_value len val) r u c d s t = same_spelled len val c d s.1 t.1
one_down (irregular len) r u c d s t = sym s.0 ∙ t.0
one_down static r u c d s t = s.2 ∙ sym t.2
one_down (lsb k offset) None u c d s t = absurd s
one_down (lsb k offset) (Some r) u c d s t = same_lsb_down k offset r u c d s t
one_down (crc bits poly init covered len) r u c d s t = same_crc bits poly init covered len c d s.1 t.1
