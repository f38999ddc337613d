-- A line has one code.
use Rattle.std.proofs.Common.{◌≡◌, ◌∙◌, sym, ap, subst, cond, ℕ, List, [], ◌∷◌}
use Rattle.std.specs.Prelude.{codes}
use Rattle.std.specs.List.{AllZip}
use Rattle.std.specs.Str.{bytes_eq}
use Rattle.sem_profile.specs.declared.profile.Method.{Method}
use Rattle.cert_text.specs.Due.{Due}
use Rattle.cert_text.specs.Laws.{OneCode}
use Rattle.cert_text.specs.Table.{exactly, either, a_constraint, a_field, Row, first_row, method_row, bit_row, param_row, ref_row, leaf_row, none_row, format_row, read_row, write_row, take_row, call_row, library_row, length_row, length_by_row, solve_row, choose_row, ask_row, end_row, kinds, LooksLike, IsInRange, HasShape}
use Rattle.cert_text.specs.Tells.{IsKnown, MayFollow, shapeless, out_of_range, unknown, misplaced, one_too_many}
use Rattle.cert_text.proofs.ShapesBlaming.{words_begin}
use Rattle.cert_text.proofs.Shaped.{of_four, no_method_word}

-- the line that words look like

abbrev length_of : List (List ℕ) → Row
length_of (a ∷ b ∷ c ∷ more) = cond (bytes_eq c (codes "method")) length_row length_by_row
length_of _ = length_row

abbrev row_of : List (List ℕ) → Row
row_of [] = none_row
row_of (w ∷ more) = cond (bytes_eq w (codes "rohcfn-certificate")) first_row (cond (bytes_eq w (codes "method")) method_row (cond (bytes_eq w (codes "bit")) bit_row (cond (bytes_eq w (codes "param")) param_row (cond (bytes_eq w (codes "ref")) ref_row (cond (bytes_eq w (codes "leaf")) leaf_row (cond (bytes_eq w (codes "none")) none_row (cond (bytes_eq w (codes "format")) format_row (cond (bytes_eq w (codes "read")) read_row (cond (bytes_eq w (codes "write")) write_row (cond (bytes_eq w (codes "take")) take_row (cond (bytes_eq w (codes "call")) call_row (cond (bytes_eq w (codes "library")) library_row (cond (bytes_eq w (codes "solve")) solve_row (cond (bytes_eq w (codes "choose")) choose_row (cond (bytes_eq w (codes "ask")) ask_row (cond (bytes_eq w (codes "end")) end_row (length_of more)))))))))))))))))

row_is : (row : Row) (ws : List (List ℕ)) → AllZip LooksLike (kinds row) ws → row_of ws ≡ row
row_is first_row ws h = ap row_of (words_begin first_row ws h).1
row_is method_row ws h = ap row_of (words_begin method_row ws h).1
row_is bit_row ws h = ap row_of (words_begin bit_row ws h).1
row_is param_row ws h = ap row_of (words_begin param_row ws h).1
row_is ref_row ws h = ap row_of (words_begin ref_row ws h).1
row_is leaf_row ws h = ap row_of (words_begin leaf_row ws h).1
row_is none_row ws h = ap row_of (words_begin none_row ws h).1
row_is format_row ws h = ap row_of (words_begin format_row ws h).1
row_is read_row ws h = ap row_of (words_begin read_row ws h).1
row_is write_row ws h = ap row_of (words_begin write_row ws h).1
row_is take_row ws h = ap row_of (words_begin take_row ws h).1
row_is call_row ws h = ap row_of (words_begin call_row ws h).1
row_is library_row ws h = ap row_of (words_begin library_row ws h).1
row_is solve_row ws h = ap row_of (words_begin solve_row ws h).1
row_is choose_row ws h = ap row_of (words_begin choose_row ws h).1
row_is ask_row ws h = ap row_of (words_begin ask_row ws h).1
row_is end_row ws h = ap row_of (words_begin end_row ws h).1
row_is length_row ws h =
    let (a, b, c, e, is, p, q, r, s) = of_four LooksLike (exactly (codes "length")) a_field (either (codes "U") (codes "C")) (exactly (codes "method")) ws h in
    ap row_of is ∙ (λ i. row_of (p i ∷ b ∷ c ∷ s i ∷ []))
row_is length_by_row ws h =
    let (a, b, c, e, is, p, q, r, s) = of_four LooksLike (exactly (codes "length")) a_field (either (codes "U") (codes "C")) a_constraint ws h in
    ap row_of is ∙ ap (λ x. row_of (x ∷ b ∷ c ∷ e ∷ [])) p ∙ ap (λ t. cond t length_row length_by_row) (no_method_word e s)

module _ (methods : List Method) (d : Due) (ws : List (List ℕ)) where
  same_row : (one other : Row) → HasShape d.version one ws → HasShape d.version other ws → one ≡ other
  same_row one other h k = sym (row_is one ws h.alike) ∙ row_is other ws k.alike

  ranged_here : (one other : Row) → HasShape d.version one ws → HasShape d.version other ws → AllZip IsInRange (kinds other) ws → AllZip IsInRange (kinds one) ws
  ranged_here one other h k all = subst (λ row. AllZip IsInRange (kinds row) ws) (same_row other one k h) all

  known_here : (one other : Row) → HasShape d.version one ws → HasShape d.version other ws → AllZip (IsKnown methods d) (kinds other) ws → AllZip (IsKnown methods d) (kinds one) ws
  known_here one other h k all = subst (λ row. AllZip (IsKnown methods d) (kinds row) ws) (same_row other one k h) all

  goes_here : (one other : Row) → HasShape d.version one ws → HasShape d.version other ws → MayFollow d.begun other → MayFollow d.begun one
  goes_here one other h k goes = subst (MayFollow d.begun) (same_row other one k h) goes

pub one_code : OneCode
one_code methods d ws f g (shapeless ea an) (shapeless eb bn) = ea ∙ sym eb
one_code methods d ws f g (shapeless ea an) (out_of_range eb br bh bn) = absurd (an br bh)
one_code methods d ws f g (shapeless ea an) (unknown eb br bh bn) = absurd (an br bh.shape)
one_code methods d ws f g (shapeless ea an) (misplaced eb br bh bn) = ea ∙ sym eb
one_code methods d ws f g (shapeless ea an) (one_too_many eb br bh bn bf) = absurd (an br bh.ranged.shape)
one_code methods d ws f g (out_of_range ea ar ah an) (shapeless eb bn) = absurd (bn ar ah)
one_code methods d ws f g (out_of_range ea ar ah an) (out_of_range eb br bh bn) = ea ∙ sym eb
one_code methods d ws f g (out_of_range ea ar ah an) (unknown eb br bh bn) = absurd (an (ranged_here methods d ws ar br ah bh.shape bh.ranged))
one_code methods d ws f g (out_of_range ea ar ah an) (misplaced eb br bh bn) = absurd (an (ranged_here methods d ws ar br ah bh.ranged.shape bh.ranged.ranged))
one_code methods d ws f g (out_of_range ea ar ah an) (one_too_many eb br bh bn bf) = ea ∙ sym eb
one_code methods d ws f g (unknown ea ar ah an) (shapeless eb bn) = absurd (bn ar ah.shape)
one_code methods d ws f g (unknown ea ar ah an) (out_of_range eb br bh bn) = absurd (bn (ranged_here methods d ws br ar bh ah.shape ah.ranged))
one_code methods d ws f g (unknown ea ar ah an) (unknown eb br bh bn) = ea ∙ sym eb
one_code methods d ws f g (unknown ea ar ah an) (misplaced eb br bh bn) = absurd (an (known_here methods d ws ar br ah.shape bh.ranged.shape bh.known))
one_code methods d ws f g (unknown ea ar ah an) (one_too_many eb br bh bn bf) = absurd (an (known_here methods d ws ar br ah.shape bh.ranged.shape bh.known))
one_code methods d ws f g (misplaced ea ar ah an) (shapeless eb bn) = ea ∙ sym eb
one_code methods d ws f g (misplaced ea ar ah an) (out_of_range eb br bh bn) = absurd (bn (ranged_here methods d ws br ar bh ah.ranged.shape ah.ranged.ranged))
one_code methods d ws f g (misplaced ea ar ah an) (unknown eb br bh bn) = absurd (bn (known_here methods d ws br ar bh.shape ah.ranged.shape ah.known))
one_code methods d ws f g (misplaced ea ar ah an) (misplaced eb br bh bn) = ea ∙ sym eb
one_code methods d ws f g (misplaced ea ar ah an) (one_too_many eb br bh bn bf) = absurd (an (goes_here methods d ws ar br ah.ranged.shape bh.ranged.shape bn))
one_code methods d ws f g (one_too_many ea ar ah an af) (shapeless eb bn) = absurd (bn ar ah.ranged.shape)
one_code methods d ws f g (one_too_many ea ar ah an af) (out_of_range eb br bh bn) = ea ∙ sym eb
one_code methods d ws f g (one_too_many ea ar ah an af) (unknown eb br bh bn) = absurd (bn (known_here methods d ws br ar bh.shape ah.ranged.shape ah.known))
one_code methods d ws f g (one_too_many ea ar ah an af) (misplaced eb br bh bn) = absurd (bn (goes_here methods d ws br ar bh.ranged.shape ah.ranged.shape an))
one_code methods d ws f g (one_too_many ea ar ah an af) (one_too_many eb br bh bn bf) = ea ∙ sym eb
