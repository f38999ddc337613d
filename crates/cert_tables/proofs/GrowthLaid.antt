-- The tables that are made are those of the definition, one node after the other.
use Rattle.std.proofs.Common.{get_or, ◌≡◌, ℕ, zero, suc, ◌+◌, ◌-◌, ◌^◌, ◌<◌, ◌≤◌, Bool, true, false, List, [], ◌∷◌, ◌++◌, length, drop, map, refl, sym, ◌∙◌, ap, subst, arith, append_assoc, add-one, replicate}
use Rattle.std.specs.Prelude.{Option, Some, IfSome, slice_get, nat_eq}
use Rattle.std.specs.List.{list_any, range_with_len}
use Rattle.std.proofs.lemmas.Bool.{le-leb, lt-leb}
use Rattle.std.proofs.lemmas.List.{length-append, get_or-append-add, drop_all, drop_more, get_or-replicate, length-replicate}
use Rattle.std.proofs.lemmas.List.FromFn.{length-map-range_with_len, get_or-map-range_with_len, map-range_with_len_more}
use Rattle.std.proofs.lemmas.Option.{slice_get-get_or, slice_get_read, same_Some}
use Rattle.cert_types.specs.declared.certificate.MethodPlans.{MethodPlans}
use Rattle.cert_types.specs.declared.certificate.Node.{Node}
use Rattle.cert_types.specs.Kept.{Entries}
use Rattle.cert_types.specs.declared.certificate.Node.TheVariants as node
use Rattle.cert_tables.specs.declared.maker.Making.{Making}
use Rattle.cert_tables.specs.declared.table.TableStart.{TableStart}
use Rattle.cert_tables.specs.declared.table.TreeTables.{TreeTables}
use Rattle.cert_tables.specs.Tables.{entry, width, table, tables_from, tables_of, all_tables, up_to, entry_limit, tree_of}
use Rattle.cert_tables.specs.Kept.{AreServed, AreStarts, IsStart, Serves}
use Rattle.cert_tables.specs.Growth.{in_the_end, AreNext, Grows, AreMarked, IsNext, IsUnderWay}
use Rattle.cert_tables.proofs.TablesPassing.{width_narrow}

-- ---- room

left_out : (es t : List ℕ) (ts : List (List ℕ)) → entry_limit - length es < length t → up_to (entry_limit - length es) (t ∷ ts) ≡ []
left_out es t ts h = rw (lt-leb (length t) (entry_limit - length es) h) refl

taken_in : (es t : List ℕ) (ts : List (List ℕ)) → length t ≤ entry_limit - length es →
    (es ++ t) ++ up_to (entry_limit - length (es ++ t)) ts ≡ es ++ up_to (entry_limit - length es) (t ∷ ts)
taken_in es t ts h =
    let room : entry_limit - length (es ++ t) ≡ (entry_limit - length es) - length t = omega (arith, length-append es t) in
    rw (le-leb (length t) (entry_limit - length es) h, room, append_assoc) refl

-- ---- the nodes that have no table

module _ (m : Making) (marks : List Bool) (named : List ℕ) (place : ℕ) (nodes : List Node) (marked : AreMarked (length marks) named marks) where
  pub after_parameter : (i : ℕ) (c : _) → drop place nodes ≡ node.Parameter i c ∷ drop (place + 1) nodes → IsNext m m marks named place (drop place nodes) (drop (place + 1) nodes)
  after_parameter i c here = record { now_named = named; marked = marked; same = λ more. rw here refl }

  pub after_reference : (i : ℕ) (c : _) → drop place nodes ≡ node.Reference i c ∷ drop (place + 1) nodes → IsNext m m marks named place (drop place nodes) (drop (place + 1) nodes)
  after_reference i c here = record { now_named = named; marked = marked; same = λ more. rw here refl }

  pub after_leaf : (k : ℕ) → drop place nodes ≡ node.Leaf k ∷ drop (place + 1) nodes → IsNext m m marks named place (drop place nodes) (drop (place + 1) nodes)
  after_leaf k here = record { now_named = named; marked = marked; same = λ more. rw here refl }

  pub after_nowhere : drop place nodes ≡ node.Nowhere ∷ drop (place + 1) nodes → IsNext m m marks named place (drop place nodes) (drop (place + 1) nodes)
  after_nowhere here = record { now_named = named; marked = marked; same = λ more. rw here refl }

  pub after_full : m.is_full ≡ true → IsNext m m marks named place (drop place nodes) (drop (place + 1) nodes)
  after_full full = record { now_named = named; marked = marked; same = λ more. rw full refl }

  pub after_other : (o : ℕ) → drop place nodes ≡ node.Bit o ∷ drop (place + 1) nodes → list_any (nat_eq place) named ≡ false → IsNext m m marks named place (drop place nodes) (drop (place + 1) nodes)
  after_other o here not_named = record { now_named = named; marked = marked; same = λ more. rw (here, not_named) refl }

-- ---- a table

module _ (m : Making) (named : List ℕ) (place o : ℕ) (nodes : List Node) (here : drop place nodes ≡ node.Bit o ∷ drop (place + 1) nodes) (some : m.is_full ≡ false)
    (is_named : list_any (nat_eq place) named ≡ true) where
  opened : (more : List (List ℕ)) → in_the_end m (tables_from named place (drop place nodes) ++ more) ≡
      m.entries ++ up_to (entry_limit - length m.entries) (table o place (drop (place + 1) nodes) ∷ (tables_from (named ++ table o place (drop (place + 1) nodes)) (suc place) (drop (place + 1) nodes) ++ more))
  opened more = rw (here, some, is_named) refl

table_length : (o place : ℕ) (after : List Node) → length (table o place after) ≡ 2 ^ width o after
table_length o place after = length-map-range_with_len (entry (width o after) o place (node.Bit o ∷ after)) 0 (2 ^ width o after)

table_is : (w o place : ℕ) (nodes : List Node) → w ≡ width o (drop (place + 1) nodes) → drop place nodes ≡ node.Bit o ∷ drop (place + 1) nodes →
    map (entry w o place (drop place nodes)) (range_with_len 0 (2 ^ w)) ≡ table o place (drop (place + 1) nodes)
table_is w o place nodes e here = rw (e, here) refl

module _ (m : Making) (place o w : ℕ) (nodes : List Node) (here : drop place nodes ≡ node.Bit o ∷ drop (place + 1) nodes) (some : m.is_full ≡ false)
    (wide : w ≡ width o (drop (place + 1) nodes)) where
  pub filled_up : (marks : List Bool) (named : List ℕ) → AreMarked (length marks) named marks → list_any (nat_eq place) named ≡ true → entry_limit - length m.entries < 2 ^ w →
      IsNext m (record { entries = m.entries; is_full = true }) marks named place (drop place nodes) (drop (place + 1) nodes)
  filled_up marks named marked is_named much = record {
    now_named = named;
    marked = marked;
    same = λ more. ap (λ x. m.entries ++ x) (sym (left_out m.entries (table o place (drop (place + 1) nodes))
        (tables_from (named ++ table o place (drop (place + 1) nodes)) (suc place) (drop (place + 1) nodes) ++ more)
        (omega (arith, much, table_length o place (drop (place + 1) nodes), ap (λ k. 2 ^ k) wide)))) ∙ sym (opened m named place o nodes here some is_named more);
  }

  pub laid : (es : List ℕ) (marks : List Bool) (most : ℕ) (named : List ℕ) → length marks ≡ most → es ≡ m.entries ++ map (entry w o place (drop place nodes)) (range_with_len 0 (2 ^ w)) →
      AreMarked most (named ++ map (entry w o place (drop place nodes)) (range_with_len 0 (2 ^ w))) marks → list_any (nat_eq place) named ≡ true → 2 ^ w ≤ entry_limit - length m.entries →
      IsNext m (record { entries = es; is_full = m.is_full }) marks named place (drop place nodes) (drop (place + 1) nodes)
  laid es marks most named as_many are marked is_named few =
      let t : List ℕ = table o place (drop (place + 1) nodes) in
      let is : map (entry w o place (drop place nodes)) (range_with_len 0 (2 ^ w)) ≡ t = table_is w o place nodes wide here in
      let es_are : es ≡ m.entries ++ t = are ∙ ap (λ x. m.entries ++ x) is in
      let fits : length t ≤ entry_limit - length m.entries = omega (arith, few, table_length o place (drop (place + 1) nodes), ap (λ k. 2 ^ k) wide) in
      let after : List (List ℕ) → List (List ℕ) = λ more. tables_from (named ++ t) (suc place) (drop (place + 1) nodes) ++ more in
      let left : (more : List (List ℕ)) → in_the_end (record { entries = es; is_full = m.is_full }) (after more) ≡ (m.entries ++ t) ++ up_to (entry_limit - length (m.entries ++ t)) (after more) =
      λ more. rw (some, es_are) refl in
      record {
        now_named = named ++ t;
        marked = subst (λ x. AreMarked (length marks) (named ++ x) marks) is (subst (λ k. AreMarked k (named ++ map (entry w o place (drop place nodes)) (range_with_len 0 (2 ^ w))) marks) (sym as_many) marked);
        same = λ more. left more ∙ (taken_in m.entries t (after more) fits ∙ sym (opened m named place o nodes here some is_named more));
      }

-- ---- where a table starts

slice_get_front : (xs ys : List ℕ) (i x : ℕ) → slice_get xs i ≡ Some x → slice_get (xs ++ ys) i ≡ Some x
slice_get_front [] ys i x e = absurd cc
slice_get_front (y ∷ xs) ys zero x e = e
slice_get_front (y ∷ xs) ys (suc i) x e = slice_get_front xs ys i x e

pub starts_on : (es more : List ℕ) (nodes : List Node) (place : ℕ) (s : TableStart) → IsStart es nodes place s → IsStart (es ++ more) nodes place s
starts_on es more nodes place s h = record {
  offset = h.offset;
  after = h.after;
  test = h.test;
  wide = h.wide;
  narrow = h.narrow;
  told = λ v few. slice_get_front es more (s.first + v) (entry s.width h.offset place (drop place nodes) v) (h.told v few);
}

pub started : (es old : List ℕ) (nodes : List Node) (place o w first : ℕ) → drop place nodes ≡ node.Bit o ∷ drop (place + 1) nodes → w ≡ width o (drop (place + 1) nodes) → first ≡ length old →
    es ≡ old ++ map (entry w o place (drop place nodes)) (range_with_len 0 (2 ^ w)) → IsStart es nodes place (record { first = first; width = w })
started es old nodes place o w first here wide at are = record {
  offset = o;
  after = drop (place + 1) nodes;
  test = here;
  wide = omega (arith, wide);
  narrow = omega (arith, wide, width_narrow o (drop (place + 1) nodes));
  told = λ v few. told v few;
}
  where
    told : (v : ℕ) → v < 2 ^ w → slice_get es (first + v) ≡ Some (entry w o place (drop place nodes) v)
    told v few =
        let t : List ℕ = map (entry w o place (drop place nodes)) (range_with_len 0 (2 ^ w)) in
        let long : length t ≡ 2 ^ w = length-map-range_with_len (entry w o place (drop place nodes)) 0 (2 ^ w) in
        let within : length old + v < length (old ++ t) = omega (arith, length-append old t, long, few) in
        rw (are, at) (slice_get-get_or (old ++ t) (length old + v) 0 within ∙ ap Some (get_or-append-add old t v 0 ∙ get_or-map-range_with_len (entry w o place (drop place nodes)) 0 (2 ^ w) v v 0 few (omega arith)))

-- ---- one entry more

module _ (f : ℕ → ℕ) (n : ℕ) where
  pub one_more : (es0 es new : List ℕ) (x : ℕ) → es ≡ es0 ++ map f (range_with_len 0 n) → new ≡ es ++ x ∷ [] → x ≡ f n → new ≡ es0 ++ map f (range_with_len 0 (n + 1))
  one_more es0 es new x so_far pushed is = rw (map-range_with_len_more f 0 n n (omega arith), pushed, so_far, is) (append_assoc es0 (map f (range_with_len 0 n)) (f n ∷ []))

  pub one_mark : (named : List ℕ) (x : ℕ) → x ≡ f n → (named ++ map f (range_with_len 0 n)) ++ x ∷ [] ≡ named ++ map f (range_with_len 0 (n + 1))
  one_mark named x is = rw (map-range_with_len_more f 0 n n (omega arith), is) (append_assoc named (map f (range_with_len 0 n)) (f n ∷ []))

  pub marked_on : (now old : ℕ) (marks new : List Bool) (named : List ℕ) (x : ℕ) → now ≡ old → x ≡ f n → AreMarked old (named ++ map f (range_with_len 0 n)) marks →
      ((ns : List ℕ) → AreMarked now ns marks → AreMarked now (ns ++ x ∷ []) new) → AreMarked old (named ++ map f (range_with_len 0 (n + 1))) new
  marked_on now old marks new named x same is marked step =
      let so_far : List ℕ = named ++ map f (range_with_len 0 n) in
      let next : AreMarked now (so_far ++ x ∷ []) new = step so_far (subst (λ k. AreMarked k so_far marks) (sym same) marked) in
      subst (λ ns. AreMarked old ns new) (one_mark named x is) (subst (λ k. AreMarked k (so_far ++ x ∷ []) new) same next)

-- ---- a tree, node by node

pub beginning : (m : Making) (marks : List Bool) (nodes : List Node) → AreMarked (length marks) (0 ∷ []) marks → IsUnderWay m m marks nodes 0
beginning m marks nodes marked = record { named = 0 ∷ []; marked = marked; same = λ more. refl }

module _ (old now new : Making) (marks next : List Bool) (nodes : List Node) (place : ℕ) where
  pub one_on : IsUnderWay old now marks nodes place →
      ((named : List ℕ) → AreMarked (length marks) named marks → IsNext now new next named place (drop place nodes) (drop (place + 1) nodes)) → IsUnderWay old new next nodes (place + 1)
  one_on way step =
      let h = step way.named way.marked in
      record {
        named = h.now_named;
        marked = h.marked;
        same = λ more. (rw add-one (rw add-one at (h.same more))) ∙ way.same more;
      }

pub all_made : (old now : Making) (marks : List Bool) (nodes : List Node) (place : ℕ) → length nodes ≤ place → IsUnderWay old now marks nodes place → AreNext old now (tables_of nodes)
all_made old now marks nodes place past way = λ more. (rw (drop_all place nodes past) at (way.same more))

-- ---- each start

module _ (o : Option TableStart) where
  pub each_more : (P : ℕ → TableStart → Type 0) (starts : List (Option TableStart)) → ((n : ℕ) (s : TableStart) → slice_get starts n ≡ Some (Some s) → P n s) → IfSome o (P (length starts)) →
      (n : ℕ) (s : TableStart) → slice_get (starts ++ o ∷ []) n ≡ Some (Some s) → P n s
  each_more P [] all here zero s e = let same : o ≡ Some s = same_Some o (Some s) e in subst (λ x. IfSome x (P 0)) same here
  each_more P [] all here (suc n) s e = absurd cc
  each_more P (x ∷ starts) all here zero s e = all zero s e
  each_more P (x ∷ starts) all here (suc n) s e = each_more (λ m. P (suc m)) starts (λ m t q. all (suc m) t q) here n s e

pub starts_more : (es new : List ℕ) (nodes : List Node) (place : ℕ) (starts after : List (Option TableStart)) (o : Option TableStart) → Grows es new → length starts ≡ place → after ≡ starts ++ o ∷ [] →
    AreStarts es nodes starts → IfSome o (IsStart new nodes place) → AreStarts new nodes after
starts_more es new nodes place starts after o (more, are) as_many pushed all here =
    let old : AreStarts new nodes starts = λ n s e. subst (λ x. IsStart x nodes n s) (sym are) (starts_on es more nodes n s (all n s e)) in
    let own : IfSome o (IsStart new nodes (length starts)) = subst (λ k. IfSome o (IsStart new nodes k)) (sym as_many) here in
    subst (AreStarts new nodes) (sym pushed) (each_more o (IsStart new nodes) starts old own)

pub grows_on : (a b c : List ℕ) → Grows a b → Grows b c → Grows a c
grows_on a b c (x, e) (y, f) = (x ++ y, f ∙ (ap (λ z. z ++ y) e ∙ append_assoc a x y))

pub is_clear : (n : ℕ) (marks : List Bool) → marks ≡ replicate n false → AreMarked (length marks) [] marks
is_clear n marks are = λ m within. rw are (get_or-replicate n m false false (omega (arith, ap length are, length-replicate n false)))

-- ---- tree after tree

front_is : (certificate : Entries) (k : ℕ) (e : Option MethodPlans) → k < length certificate → e ≡ get_or certificate k e → drop k certificate ≡ e ∷ drop (k + 1) certificate
front_is certificate k e within is = drop_more certificate k e within ∙ ap (λ x. x ∷ drop (k + 1) certificate) (sym is)

pub next_tree : (old new : Making) (certificate : Entries) (k : ℕ) (e : Option MethodPlans) (all : List ℕ) → k < length certificate → e ≡ get_or certificate k e →
    in_the_end old (all_tables (map tree_of (drop k certificate))) ≡ all → AreNext old new (tables_of (tree_of e)) → in_the_end new (all_tables (map tree_of (drop (k + 1) certificate))) ≡ all
next_tree old new certificate k e all within is so_far next =
    let front = ap (λ x. in_the_end old (all_tables (map tree_of x))) (front_is certificate k e within is) in
    next (all_tables (map tree_of (drop (k + 1) certificate))) ∙ (sym front ∙ so_far)

each_after : (P : ℕ → TreeTables → Type 0) (xs : List TreeTables) (x : TreeTables) → ((n : ℕ) (y : TreeTables) → slice_get xs n ≡ Some y → P n y) → P (length xs) x →
    (n : ℕ) (y : TreeTables) → slice_get (xs ++ x ∷ []) n ≡ Some y → P n y
each_after P [] x all here zero y e = subst (P 0) (same_Some x y e) here
each_after P [] x all here (suc n) y e = absurd cc
each_after P (z ∷ xs) x all here zero y e = all zero y e
each_after P (z ∷ xs) x all here (suc n) y e = each_after (λ m. P (suc m)) xs x (λ m t q. all (suc m) t q) here n y e

serves_on : (es new : List ℕ) (nodes : List Node) (t : TreeTables) → Grows es new → Serves es nodes t → Serves new nodes t
serves_on es new nodes t (more, are) h = record {
  sized = h.sized;
  started = λ n s e. subst (λ x. IsStart x nodes n s) (sym are) (starts_on es more nodes n s (h.started n s e));
}

pub served_more : (es new : List ℕ) (certificate : Entries) (k : ℕ) (e : Option MethodPlans) (trees after : List TreeTables) (t : TreeTables) → k < length certificate → e ≡ get_or certificate k e →
    Grows es new → length trees ≡ k → after ≡ trees ++ t ∷ [] → AreServed es certificate trees → Serves new (tree_of e) t → AreServed new certificate after
served_more es new certificate k e trees after t within is grows as_many pushed all here = λ n entry tree there kept.
    each_after (λ m y. (x : Option MethodPlans) → slice_get certificate m ≡ Some x → Serves new (tree_of x) y) trees t
    (λ m y q x p. serves_on es new (tree_of x) y grows (all m x y p q))
    (λ x p. let same : e ≡ x = same_Some e x (sym (slice_get_read certificate (length certificate) k e refl within is) ∙ subst (λ m. slice_get certificate m ≡ Some x) as_many p) in subst (λ z. Serves new (tree_of z) t) same here)
    n tree (subst (λ x. slice_get x n ≡ Some tree) pushed kept) entry there
