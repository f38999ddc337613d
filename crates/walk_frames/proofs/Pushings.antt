-- The octets of a frame that are added.
use Rattle.std.proofs.Common.{◌≡◌, ◌∙◌, refl, sym, ap, subst, ℕ, ◌+◌, ◌*◌, ◌-◌, ◌/◌, ◌%◌, ◌<◌, ◌≤◌, ◌^◌, ◌⊎◌, inl, inr, Bool, true, false, nat_lt, List, [], ◌∷◌, ◌++◌, length, replicate, arith, append_assoc}
use Rattle.std.proofs.lemmas.Bool.{lt-ltb, ltb-true}
use Rattle.sem_bits.specs.Octets.{bits_of, Holds}
use Rattle.sem_bits.proofs.Octets.{length-bits_of}
use Rattle.std.proofs.lemmas.List.{length-append, length-replicate}
use Rattle.walk_frames.specs.Frames.{frame_octets, length_octets, packet}

-- how many octets hold bits
pub octets_held : (octets : List ℕ) (bits : List Bool) → Holds octets bits → length octets ≡ (length bits + 7) / 8
octets_held octets bits h =
    let count : 8 * length octets ≡ length bits + h.padding = sym (length-bits_of octets) ∙ ap length h.filled ∙ length-append bits (replicate h.padding false) ∙ ap (λ n. length bits + n) (length-replicate h.padding false) in
    omega (arith, count, h.few)

pub packet_pushed : (flow count : ℕ) (bits : List Bool) (before first second after octets : List ℕ) → Holds octets bits → count ≡ (length bits + 7) / 8 → length bits ≤ 8192 →
    first ≡ before ++ flow ∷ [] → second ≡ first ++ length_octets count → after ≡ second ++ octets → (body : List ℕ) × Holds body bits × (length body < 2 ^ 15) × (after ≡ before ++ frame_octets (packet flow body))
packet_pushed flow count bits before first second after octets held count_is few first_is second_is after_is =
    let long : length octets ≡ (length bits + 7) / 8 = octets_held octets bits held in
    let same : count ≡ length octets = count_is ∙ sym long in (
      octets,
      held,
      omega (arith, long, few),
      after_is ∙ ap (λ z. z ++ octets) second_is ∙ ap (λ z. (z ++ length_octets count) ++ octets) first_is ∙ ap (λ n. ((before ++ flow ∷ []) ++ length_octets n) ++ octets) same
          ∙ append_assoc (before ++ flow ∷ []) (length_octets (length octets)) octets ∙ append_assoc before (flow ∷ []) (length_octets (length octets) ++ octets),
    )
