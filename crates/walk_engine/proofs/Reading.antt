-- What a reading of the top tells.
use Rattle.std.proofs.Common.{◌≡◌, ◌∙◌, sym, ap, subst, ◌<◌, ◌≤◌, ◌^◌, Bool, List, [], ◌++◌, length, take, arith, length-append}
use Rattle.std.specs.Prelude.{◌≢◌}
use Rattle.std.proofs.lemmas.List.{take-append-le, append-nil}
use Rattle.std.proofs.Math.Seq.{take-append_seam}
use Rattle.cert_accepted.specs.Accepted.{Accepting}
use Rattle.sem_context.specs.Entries.{Entries, bits_at}
use Rattle.sem_filling.specs.declared.filling.Filling.{Filling}
use Rattle.sem_filling.specs.Fillings.{packed}
use Rattle.cert_rules.specs.Reading.{IsAhead}
use Rattle.walk_read.specs.Walk.{spot_of}
use Rattle.cert_accepted.specs.declared.frame.AcceptedFrame.{AcceptedFrame}
use Rattle.walk_engine.specs.Top.{IsTop}
use Rattle.walk_engine.specs.Reading.{Fronts, IsAlone, IsTruncated, IsRefused}

-- a filling at the front of the bits and further ones is ahead for the walk
pub ahead_of : (a : Accepting) (ctx : Entries) (place : AcceptedFrame) → IsTop a ctx place → (bits more : List Bool) (f : Filling) → Fronts a ctx (bits ++ more) f →
    IsAhead place.accepted.now.profile.methods (bits_at place.frame.context.now) (spot_of place bits) f
ahead_of a ctx place t bits more f h = record { more = more; in_front = rw (t.accepted_is, t.context_is, t.method_is, t.arguments_are, t.path_is) h }

module _ (a : Accepting) (ctx : Entries) (bits : List Bool) (g : Filling) (only : IsAlone a ctx bits g) (b : List Bool) (same : b ≡ packed g) where
  -- its packed bits begin these, as far as they go
  begun : (more : List Bool) (f : Filling) → Fronts a ctx (bits ++ more) f → (rest : List Bool) × (bits ++ more ≡ b ++ rest)
  begun more f h =
      let is : f ≡ g = only.alone more f h in
      (h.rest, h.front ∙ ap (λ x. packed x ++ h.rest) is ∙ ap (λ x. x ++ h.rest) (sym same))

  pub truncated : length bits < length b → length b ≤ 2 ^ 18 → IsTruncated a ctx bits
  truncated short few = record {
    none = λ f h.
        let s = begun [] f (subst (λ x. Fronts a ctx x f) (sym (append-nil bits)) h) in
        let long : length b ≤ length bits = omega (arith, ap length s.1, length-append bits [], length-append b s.0) in
        absurd (omega (arith, long, short));
    few = omega (arith, short, few);
  }

  pub refused : length b ≤ length bits → take (length b) bits ≢ b → IsRefused a ctx bits
  refused long other more f h =
      let s = begun more f h in
      other (sym (take-append-le (length b) bits more long) ∙ ap (take (length b)) s.1 ∙ take-append_seam b s.0)

-- where none is at the front of the bits and any further ones, none is at their own
pub cut_short : (a : Accepting) (ctx : Entries) (bits : List Bool) → IsRefused a ctx bits → length bits < 2 ^ 23 → IsTruncated a ctx bits
cut_short a ctx bits refused few = record { none = λ f h. refused [] f (subst (λ x. Fronts a ctx x f) (sym (append-nil bits)) h); few = few }
