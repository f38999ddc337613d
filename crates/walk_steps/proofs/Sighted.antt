-- What expressions are evaluated by is clear.
use Rattle.std.proofs.Common.{◌≡◌, subst, ℕ, ◌<◌, ◌^◌, List, length}
use Rattle.std.specs.Prelude.{ℤ}
use Rattle.sem_expr.specs.declared.expr.Side.TheVariants.{Uncompressed, Compressed}
use Rattle.sem_profile.specs.declared.profile.FormatSizes.{FormatSizes}
use Rattle.sem_profile.specs.declared.profile.Format.{Format}
use Rattle.cert_rules.specs.declared.slots.Slot.{Slot}
use Rattle.walk_steps.specs.declared.fronts.Fronts.{Fronts}
use Rattle.walk_steps.specs.declared.values.LevelNumbers.{LevelNumbers}
use Rattle.walk_steps.specs.Fronts.{IsInOrder, AreMeasured}
use Rattle.walk_steps.specs.Joined.{joined_bits}
use Rattle.walk_steps.specs.LevelNumbers.{IsClear}
use Rattle.walk_steps.proofs.JoinedKept.{whole_short}

pub clear_as : (format : Format) (sizes : FormatSizes) (headers : List ℕ) (slots : List Slot) (args : List ℤ) (fronts : Fronts) → IsInOrder format sizes headers slots args fronts → (s : LevelNumbers) →
    slots ≡ s.slots.now → headers ≡ s.headers.now → format.listing ≡ s.listing.now → fronts ≡ s.fronts → IsClear s
clear_as format sizes headers slots args fronts o s slots_are headers_are listing_is fronts_are =
    let short = whole_short format sizes args headers slots o.headers_are o.kept in
    record {
      header = subst (λ b. length b < 2 ^ 31) (λ k. joined_bits (slots_are k) Uncompressed (headers_are k)) short.0;
      packed = subst (λ b. length b < 2 ^ 31) (λ k. joined_bits (slots_are k) Compressed (listing_is k)) short.1;
      fronts_are = subst (λ f. AreMeasured s.slots.now s.headers.now s.listing.now f) fronts_are
          (subst (λ l. AreMeasured s.slots.now s.headers.now l fronts) listing_is (subst (λ h. AreMeasured s.slots.now h format.listing fronts) headers_are
          (subst (λ x. AreMeasured x headers format.listing fronts) slots_are o.fronts_are)));
    }
