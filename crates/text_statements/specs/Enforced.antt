-- Which fields ENFORCE statements set: those whose UVALUE stands alone on a side of `==` in a conjunct (docs/NOTATION.md).
use Rattle.std.specs.Prelude.{ℕ, List, [], ◌∷◌, ◌++◌, Option, Some, None, fold}
use Rattle.std.specs.List.{flat_map}
use Rattle.text_source.specs.declared.span.Span.{Span}
use Rattle.text_tree.specs.declared.tree.Attribute.{Attribute}
use Rattle.text_tree.specs.declared.tree.Attribute.TheVariants as attributes
use Rattle.text_tree.specs.declared.tree.Expr.{Expr as Tree, fold-Expr}
use Rattle.text_tree.specs.declared.tree.Expr.TheOpen.{Expr-F}
use Rattle.text_tree.specs.declared.tree.Item.{Item}
use Rattle.text_tree.specs.declared.tree.Item.TheVariants as items
use Rattle.text_tree.specs.declared.tree.Operator.TheVariants.{And, Equal}
use Rattle.text_tree.specs.declared.tree.Owner.{Owner}
use Rattle.text_tree.specs.declared.tree.Owner.TheVariants as owners
use Rattle.sem_profile.specs.Words.{word, with_word}

-- what an expression sets; fields by the places of their names
pub record Setting : Type 0 where
  -- the field whose UVALUE it is by itself
  pub alone : Option Span
  -- the fields that it sets as one equation
  pub equation : List Span
  -- the fields that its conjuncts set
  pub conjuncts : List Span

abbrev pub listed : Option Span → List Span
listed (Some name) = name ∷ []
listed None = []

-- the field whose UVALUE the attribute is
abbrev pub value_of : Owner → Attribute → Option Span
value_of (owners.Field name) attributes.Uvalue = Some name
value_of _ _ = None

-- Round brackets change nothing, except that what is in them is one conjunct.
abbrev pub setting_step : Expr-F Setting → Setting
setting_step (Expr-F.Attribute at owner which) = record { alone = value_of owner which; equation = []; conjuncts = [] }
setting_step (Expr-F.Group at x) = record { alone = x.alone; equation = x.equation; conjuncts = x.equation }
setting_step (Expr-F.Binary at Equal sign x y) =
    record { alone = None; equation = listed x.alone ++ listed y.alone; conjuncts = listed x.alone ++ listed y.alone }
setting_step (Expr-F.Binary at And sign x y) = record { alone = None; equation = []; conjuncts = x.conjuncts ++ y.conjuncts }
setting_step _ = record { alone = None; equation = []; conjuncts = [] }

abbrev pub setting : Tree → Setting
setting = fold-Expr Setting setting_step

-- the fields that an ENFORCE sets
abbrev pub set_by : Item → List Span
set_by (items.Enforce at condition) = (setting condition).conjuncts
set_by (items.Field name bracket) = []
set_by (items.Bound b) = []

abbrev pub set_by_items : List Item → List Span
set_by_items statements = flat_map set_by statements

-- the names with those at the places put last, each once
abbrev pub with_words : List ℕ → List (List ℕ) → List Span → List (List ℕ)
with_words text names places = fold (λ names place. with_word names (word text place)) names places

-- the names of the fields that an ENFORCE of the statements sets
abbrev pub set_names : List ℕ → List Item → List (List ℕ)
set_names text statements = with_words text [] (set_by_items statements)
