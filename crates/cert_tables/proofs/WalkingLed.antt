-- A step of a walk: by a table, or by the node alone.
use Rattle.std.proofs.Common.{◌≡◌, ℕ, ◌+◌, ◌-◌, ◌^◌, ◌<◌, ◌≤◌, Bool, true, false, not, List, [], ◌∷◌, length, drop, take, get_or, refl, sym, ◌∙◌, ap, subst, arith}
use Rattle.std.specs.Prelude.{Option, Some, slice_get, slice_range, ℤ}
use Rattle.std.proofs.lemmas.List.{length-drop, drop-drop, length-take-le, get_or-take, get_or-drop}
use Rattle.std.proofs.lemmas.Option.{slice_get-get_or, slice_get_within, get_or_from_slice_get, same_Some}
use Rattle.sem_bits.specs.Number.{enc, num}
use Rattle.sem_bits.proofs.Numbers.{length-enc, enc-num, num-below}
use Rattle.cert_types.specs.declared.certificate.Node.{Node}
use Rattle.cert_types.specs.declared.certificate.Node.TheVariants as node
use Rattle.cert_rules.specs.Trees.{way, leads, is_number}
use Rattle.cert_tables.specs.declared.table.TableStart.{TableStart}
use Rattle.cert_tables.specs.Tables.{passed, entry}
use Rattle.cert_tables.specs.Kept.{past, IsStart}
use Rattle.cert_tables.specs.Walking.{Shows, IsOn, IsSame}
use Rattle.cert_tables.proofs.TablesPassing.{by_window, goes_on, way_past}
use Rattle.cert_tables.proofs.Sized.{at_front}

-- ---- what a number of bits shows

module _ (left : List Bool) (from o w v : ℕ) (within : from + o + w ≤ length left) (is : v ≡ num (slice_range left (from + o) (from + o + w))) where
  abbrev bits_there : List Bool
  bits_there = take w (drop (from + o) left)

  there_long : length bits_there ≡ w
  there_long = length-take-le w (drop (from + o) left) (omega (arith, length-drop (from + o) left))

  number_is : v ≡ num bits_there
  number_is = let same : (from + o + w) - (from + o) ≡ w = omega arith in is ∙ ap (λ k. num (take k (drop (from + o) left))) same

  spells : enc w v ≡ bits_there
  spells = let e = enc-num bits_there in ap (enc w) number_is ∙ (subst (λ k. enc k (num bits_there) ≡ bits_there) there_long e)

  pub number_few : v < 2 ^ w
  number_few = let h = num-below bits_there in subst (λ k. k < 2 ^ w) (sym number_is) (subst (λ k. num bits_there < 2 ^ k) there_long h)

  pub number_shows : Shows (drop from left) (enc w v) o
  number_shows = record { each = λ i b e. shown i b (subst (λ x. slice_get x i ≡ Some b) spells e) }
    where
      shown : (i : ℕ) (b : Bool) → slice_get bits_there i ≡ Some b → slice_get (drop from left) (o + i) ≡ Some b
      shown i b e =
          let few : i < w = omega (arith, slice_get_within bits_there i b e, there_long) in
          let is_b : get_or (take w (drop (from + o) left)) i false ≡ b = get_or_from_slice_get bits_there i b false e in
          let at : from + o + i ≡ from + (o + i) = omega arith in
          let long : o + i < length (drop from left) = omega (arith, length-drop from left) in
          slice_get-get_or (drop from left) (o + i) false long ∙
          ap Some (get_or-drop from left (o + i) false ∙ (ap (λ k. get_or left k false) (sym at) ∙ (sym (get_or-drop (from + o) left i false) ∙ (sym (get_or-take w (drop (from + o) left) i false few) ∙ is_b))))

-- ---- by a table

own_passed : (window : List Bool) (o : ℕ) (nodes : List Node) → 1 ≤ length window → 1 ≤ passed window o 0 (node.Bit o ∷ nodes)
own_passed [] o nodes h = absurd (omega arith)
own_passed (b ∷ window) o nodes h = goes_on b window o nodes

same_offset : (p o : ℕ) (a b : List Node) → node.Bit p ∷ a ≡ node.Bit o ∷ b → p ≡ o
same_offset p o a b e = cc

module _ (es : List ℕ) (nodes : List Node) (place o : ℕ) (s : TableStart) (v : ℕ) (bits : List Bool) (starts : IsStart es nodes place s) (here : drop place nodes ≡ node.Bit o ∷ drop (place + 1) nodes)
    (few : v < 2 ^ s.width) where
  pub entry_within : s.first + v < length es
  entry_within = slice_get_within es (s.first + v) (entry s.width starts.offset place (drop place nodes) v) (starts.told v few)

  pub led : Shows bits (enc s.width v) o → (next : ℕ) → slice_get es (s.first + v) ≡ Some next → (refs : ℕ → Option ℤ) (args : List ℤ) → IsOn refs bits args nodes place next
  led shows next is refs args =
      let same : starts.offset ≡ o = same_offset starts.offset o starts.after (drop (place + 1) nodes) (sym starts.test ∙ here) in
      let told : entry s.width starts.offset place (drop place nodes) v ≡ next = same_Some _ _ (sym (starts.told v few) ∙ is) in
      let to : entry s.width o place (drop place nodes) v ≡ next = subst (λ k. entry s.width k place (drop place nodes) v ≡ next) same told in
      let own : 1 ≤ passed (enc s.width v) o 0 (drop place nodes) = rw here (own_passed (enc s.width v) o (drop (place + 1) nodes) (omega (arith, length-enc s.width v, starts.wide))) in
      let on : drop (passed (enc s.width v) o 0 (drop place nodes)) (drop place nodes) ≡ drop next nodes =
      drop-drop (passed (enc s.width v) o 0 (drop place nodes)) place nodes ∙ ap (λ k. drop k nodes) to in
      record {
        further = omega (arith, own, to);
        same = sym (by_window bits (enc s.width v) o shows refs args 0 (drop place nodes) ∙ ap (λ x. way refs bits args 0 x) on);
      }

-- the test that stands at a place
pub test_at : (nodes : List Node) (place o : ℕ) → slice_get nodes place ≡ Some (node.Bit o) → drop place nodes ≡ node.Bit o ∷ drop (place + 1) nodes
test_at nodes place o e = at_front nodes place (node.Bit o) (node.Bit o) (slice_get_within nodes place (node.Bit o) e) (get_or_from_slice_get nodes place (node.Bit o) (node.Bit o) e)

-- the leaf at a place to which the way leads from the first node
pub leaf_told : (refs : ℕ → Option ℤ) (bits : List Bool) (args : List ℤ) (nodes : List Node) (place k : ℕ) → IsSame bits nodes 0 place → slice_get nodes place ≡ Some (node.Leaf k) → way refs bits args 0 nodes ≡ leads k
leaf_told refs bits args nodes place k same e =
    let here : drop place nodes ≡ node.Leaf k ∷ drop (place + 1) nodes =
    at_front nodes place (node.Leaf k) (node.Leaf k) (slice_get_within nodes place (node.Leaf k) e) (get_or_from_slice_get nodes place (node.Leaf k) (node.Leaf k) e) in
    let from_first : way refs bits args 0 (drop place nodes) ≡ way refs bits args 0 nodes = same refs args in
    sym from_first ∙ ap (λ x. way refs bits args 0 x) here

-- ---- by the node alone

module _ (refs : ℕ → Option ℤ) (bits : List Bool) (args : List ℤ) (nodes : List Node) (place next : ℕ) where
  second_on : next ≡ (place + 1) + past 1 (drop (place + 1) nodes) → way refs bits args 0 (drop next nodes) ≡ way refs bits args 1 (drop (place + 1) nodes)
  second_on e =
      let on : drop (past 1 (drop (place + 1) nodes)) (drop (place + 1) nodes) ≡ drop next nodes = drop-drop (past 1 (drop (place + 1) nodes)) (place + 1) nodes ∙ ap (λ k. drop k nodes) (sym e) in
      sym (way_past refs bits args 1 (drop (place + 1) nodes) ∙ ap (λ x. way refs bits args 0 x) on)

  pub by_its_bit : (o : ℕ) (b : Bool) → drop place nodes ≡ node.Bit o ∷ drop (place + 1) nodes → Some b ≡ slice_get bits o → (b ≡ false → next ≡ place + 1) →
      (b ≡ true → next ≡ (place + 1) + past 1 (drop (place + 1) nodes)) → IsOn refs bits args nodes place next
  by_its_bit o false here is first second =
      let e = first refl in
      record { further = omega (arith, e); same = rw (here, e, ← is) refl }
  by_its_bit o true here is first second =
      let e = second refl in
      record { further = omega (arith, e); same = rw (second_on e, here, ← is) refl }

  pub by_its_test : (i : ℕ) (c : ℤ) (t : Bool) → drop place nodes ≡ node.Parameter i c ∷ drop (place + 1) nodes → t ≡ is_number c (slice_get args i) → (not t ≡ false → next ≡ place + 1) →
      (not t ≡ true → next ≡ (place + 1) + past 1 (drop (place + 1) nodes)) → IsOn refs bits args nodes place next
  by_its_test i c true here is first second =
      let e = first refl in
      record { further = omega (arith, e); same = rw (here, e, ← is) refl }
  by_its_test i c false here is first second =
      let e = second refl in
      record { further = omega (arith, e); same = rw (second_on e, here, ← is) refl }

  pub by_its_reference : (i : ℕ) (c : ℤ) (t : Bool) → drop place nodes ≡ node.Reference i c ∷ drop (place + 1) nodes → t ≡ is_number c (refs i) → (not t ≡ false → next ≡ place + 1) →
      (not t ≡ true → next ≡ (place + 1) + past 1 (drop (place + 1) nodes)) → IsOn refs bits args nodes place next
  by_its_reference i c true here is first second =
      let e = first refl in
      record { further = omega (arith, e); same = rw (here, e, ← is) refl }
  by_its_reference i c false here is first second =
      let e = second refl in
      record { further = omega (arith, e); same = rw (second_on e, here, ← is) refl }
