-- The order has each step of a format that has a rule; what steps learn until none is next is the closure.
use Rattle.std.proofs.Common.{◌≡◌, ℕ, ◌<◌, List, length, map}
use Rattle.std.specs.Prelude.{◌↔◌, None, true}
use Rattle.std.specs.List.{flat_map, range_with_len}
use Rattle.std.proofs.lemmas.Option.{slice_get_within}
use Rattle.sem_expr.specs.declared.expr.Side.TheVariants.{Uncompressed, Compressed}
use Rattle.sem_profile.specs.declared.profile.Format.{Format}
use Rattle.sem_profile.specs.declared.profile.FormatSizes.{FormatSizes}
use Rattle.sem_profile.specs.declared.profile.MethodSizes.{MethodSizes}
use Rattle.cert_types.specs.Steps.{field_of}
use Rattle.cert_types.specs.declared.certificate.Version.{Version}
use Rattle.cert_types.specs.declared.certificate.Direction.{Direction}
use Rattle.cert_types.specs.declared.certificate.Direction.TheVariants.{Read, Write}
use Rattle.cert_types.specs.declared.certificate.Step.{Step}
use Rattle.cert_types.specs.declared.certificate.Step.TheVariants.{Take, Call, LibraryUp, LibraryDown, MethodLength, ConstraintLength, Solve, Choose, Ask}
use Rattle.cert_types.specs.declared.rule.Fact.{Fact}
use Rattle.cert_types.specs.declared.rule.Rule.{Rule}
use Rattle.cert_rules.specs.Facts.{has}
use Rattle.cert_rules.specs.Plans.{Way, way_of, known_after, all_enabled}
use Rattle.cert_prove.specs.declared.kinds.StepKind.{StepKind}
use Rattle.cert_prove.specs.declared.kinds.StepKind.TheVariants as kind
use Rattle.cert_prove.specs.Closure.{Closure}
use Rattle.cert_prove.specs.Order.{kinds_of, steps_of, in_order, order_of}
use Rattle.cert_prove.specs.Ordered.{next_step}
use Rattle.cert_prove.proofs.ClosureElements.{Among, here, later, among_flat, among_map, among_below}
use Rattle.cert_prove.proofs.ClosureLemmas.{Orderly, stays_in, runs_out}
use Rattle.cert_prove.proofs.OrderShapes.{Shape, IsOfDirection, shape, does_so, one_step, not_at_start}

module _ (version : Version) (sizes : FormatSizes) (format : Format) where
  abbrev fields : List ℕ
  fields = range_with_len 0 (length format.fields)

  abbrev numbers : List ℕ
  numbers = range_with_len 0 (length format.constraints)

  in_kind : (kinds : List StepKind) (k : StepKind) (s : Step) (r : Rule) → Shape format s r → Among k kinds → Among s (steps_of numbers k (field_of s)) → Among s (in_order kinds fields numbers)
  in_kind kinds k s r a h p =
      among_flat (λ k. flat_map (steps_of numbers k) fields) k s kinds h
      (among_flat (steps_of numbers k) (field_of s) s fields (among_below (length format.fields) (field_of s) (slice_get_within format.fields (field_of s) a.field a.is_field)) p)

  numbered : (f : ℕ → Step) (n : ℕ) → n < length format.constraints → Among (f n) (map f numbers)
  numbered f n h = among_map f n numbers (among_below (length format.constraints) n h)

  covers : (direction : Direction) (s : Step) (r : Rule) → Shape format s r → IsOfDirection direction s → Among s (order_of direction format)
  covers Read (Take i) r a d = in_kind (kinds_of Read) kind.TakeOrCall (Take i) r a here here
  covers Read (Call i) r a d = in_kind (kinds_of Read) kind.TakeOrCall (Call i) r a here (later here)
  covers Read (LibraryUp i) r a d = in_kind (kinds_of Read) kind.Up (LibraryUp i) r a (later here) here
  covers Read (Solve i n) r a d = in_kind (kinds_of Read) kind.Solve (Solve i n) r a (later (later here)) (numbered (Solve i) n a.within)
  covers Read (MethodLength i Compressed) r a d = in_kind (kinds_of Read) (kind.Length Compressed) (MethodLength i Compressed) r a (later (later (later here))) here
  covers Read (ConstraintLength i Compressed n) r a d = in_kind (kinds_of Read) (kind.Length Compressed) (ConstraintLength i Compressed n) r a (later (later (later here))) (later (numbered (ConstraintLength i Compressed) n a.within))
  covers Read (MethodLength i Uncompressed) r a d = in_kind (kinds_of Read) (kind.Length Uncompressed) (MethodLength i Uncompressed) r a (later (later (later (later here)))) here
  covers Read (ConstraintLength i Uncompressed n) r a d =
      in_kind (kinds_of Read) (kind.Length Uncompressed) (ConstraintLength i Uncompressed n) r a (later (later (later (later here)))) (later (numbered (ConstraintLength i Uncompressed) n a.within))
  covers Read (LibraryDown i) r a d = in_kind (kinds_of Read) kind.Down (LibraryDown i) r a (later (later (later (later (later here))))) here
  covers Read (Choose i) r a d = absurd d
  covers Read (Ask i) r a d = absurd d
  covers Write (Take i) r a d = in_kind (kinds_of Write) kind.TakeOrCall (Take i) r a here here
  covers Write (Call i) r a d = in_kind (kinds_of Write) kind.TakeOrCall (Call i) r a here (later here)
  covers Write (Ask i) r a d = in_kind (kinds_of Write) kind.Ask (Ask i) r a (later here) here
  covers Write (LibraryDown i) r a d = in_kind (kinds_of Write) kind.Down (LibraryDown i) r a (later (later here)) here
  covers Write (LibraryUp i) r a d = in_kind (kinds_of Write) kind.Up (LibraryUp i) r a (later (later (later here))) here
  covers Write (Solve i n) r a d = in_kind (kinds_of Write) kind.Solve (Solve i n) r a (later (later (later (later here)))) (numbered (Solve i) n a.within)
  covers Write (MethodLength i Uncompressed) r a d = in_kind (kinds_of Write) (kind.Length Uncompressed) (MethodLength i Uncompressed) r a (later (later (later (later (later here))))) here
  covers Write (ConstraintLength i Uncompressed n) r a d =
      in_kind (kinds_of Write) (kind.Length Uncompressed) (ConstraintLength i Uncompressed n) r a (later (later (later (later (later here))))) (later (numbered (ConstraintLength i Uncompressed) n a.within))
  covers Write (MethodLength i Compressed) r a d = in_kind (kinds_of Write) (kind.Length Compressed) (MethodLength i Compressed) r a (later (later (later (later (later (later here)))))) here
  covers Write (ConstraintLength i Compressed n) r a d =
      in_kind (kinds_of Write) (kind.Length Compressed) (ConstraintLength i Compressed n) r a (later (later (later (later (later (later here)))))) (later (numbered (ConstraintLength i Compressed) n a.within))
  covers Write (Choose i) r a d = in_kind (kinds_of Write) kind.Choose (Choose i) r a (later (later (later (later (later (later (later here))))))) here

  module _ (direction : Direction) (table : List MethodSizes) where
    abbrev way : Way
    way = way_of version direction table sizes format

    orderly : Orderly way (order_of direction format)
    orderly = record {
      once = λ s t r q x e f h k. one_step version sizes format s t r q x (shape version sizes format table direction s r e) (shape version sizes format table direction t q f) h k;
      fresh = λ s r x e h k. not_at_start version sizes format s r x (shape version sizes format table direction s r e) h k;
      covers = λ s r e. covers direction s r (shape version sizes format table direction s r e) (does_so version sizes format table direction s r e);
    }

    -- what is known where no step is next is just what the closure has
    pub all_there_is : (steps : List Step) → all_enabled way.rule way.start steps ≡ true → next_step way.rule (order_of direction format) (known_after way.rule way.start steps) ≡ None →
        (x : Fact) → (has (known_after way.rule way.start steps) x ≡ true) ↔ Closure way x
    all_there_is steps e stopped x = (λ h. stays_in way steps e x h, λ h. runs_out way (order_of direction format) orderly steps stopped h)
