-- No more entries are made than the limit allows.
use Rattle.std.proofs.Common.{◌≡◌, ℕ, ◌-◌, ◌^◌, ◌<◌, ◌≤◌, Bool, true, false, cond, List, [], ◌∷◌, ◌++◌, length, map, refl, arith}
use Rattle.std.specs.Prelude.{Option, Some, None, slice_get, nat_le}
use Rattle.std.proofs.lemmas.Bool.{leb-true}
use Rattle.std.proofs.lemmas.List.{length-append}
use Rattle.cert_types.specs.declared.certificate.MethodPlans.{MethodPlans}
use Rattle.cert_types.specs.Kept.{Entries, Certified, AreKept}
use Rattle.cert_tables.specs.Tables.{up_to, all_tables, entries_of, tree_of}

few_up_to : (room : ℕ) (tables : List (List ℕ)) → length (up_to room tables) ≤ room
few_up_to room [] = omega arith
few_up_to room (t ∷ tables) = by (nat_le (length t) room) refl (few_up_to (room - length t) tables)
  where
    by : (b : Bool) → nat_le (length t) room ≡ b → length (up_to (room - length t) tables) ≤ room - length t → length (cond b (t ++ up_to (room - length t) tables) []) ≤ room
    by true e h = omega (arith, leb-true (length t) room e, length-append t (up_to (room - length t) tables), h)
    by false e h = omega arith

pub few_entries : (certificate : Entries) → length (entries_of certificate) ≤ 65536
few_entries certificate = few_up_to 65536 (all_tables (map tree_of certificate))

-- a tree of a certificate has few nodes
pub tree_few : (certificate : Certified) → AreKept certificate → (k : ℕ) (entry : Option MethodPlans) → slice_get certificate.methods k ≡ Some entry → length (tree_of entry) < 2 ^ 16
tree_few certificate kept k None there = omega arith
tree_few certificate kept k (Some entry) there = omega (arith, (kept.each k entry there).tree.few)
