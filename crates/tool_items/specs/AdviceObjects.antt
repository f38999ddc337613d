-- What `advise` tells of a trace, as objects of JSON (docs/FORMATS.md, JSON lines): of the same values as its text.
use Rattle.std.specs.Prelude.{ℕ, ℤ, List, [], ◌++◌, codes, decimal, flat_map, Option, Some, None}
use Rattle.std.specs.Fmt.{signed_decimal}
use Rattle.json.specs.Token.{Token}
use Rattle.tool_items.specs.declared.trends.Lengths.{Lengths}
use Rattle.tool_items.specs.declared.valued.FewValues.{FewValues}
use Rattle.tool_items.specs.declared.valued.ValueCount.{ValueCount}
use Rattle.tool_items.specs.declared.advice.Advice.{Advice}
use Rattle.tool_items.specs.declared.advice.FieldAdvice.{FieldAdvice}
use Rattle.tool_items.specs.declared.advice.NearAdvice.{NearAdvice}
use Rattle.tool_items.specs.declared.advice.Nearest.{Nearest}
use Rattle.tool_items.specs.declared.advice.Nearest.TheVariants as nearest
use Rattle.tool_items.specs.declared.advice.OwnAdvice.{OwnAdvice}
use Rattle.tool_items.specs.declared.advice.StepRange.{StepRange}
use Rattle.tool_items.specs.declared.advice.Taken.{Taken}
use Rattle.tool_items.specs.declared.advice.Way.{Way}
use Rattle.tool_items.specs.declared.advice.Way.TheVariants as way
use Rattle.tool_names.specs.Objects.{array_closed, array_opened, bits, closed, figure, line, member_opened, null_member, number, opened, optional_text, text}

abbrev pub all_line : ℕ → ℕ → List ℕ
all_line items lost = line (opened ++ text (codes "kind") (codes "all") ++ number (codes "items") items ++ number (codes "lost") lost)

-- ---- how each field goes on

abbrev pub range_members : Lengths → List Token
range_members l = number (codes "least") l.least ++ number (codes "most") l.most

abbrev pub no_range : List Token
no_range = null_member (codes "least") ++ null_member (codes "most")

abbrev pub length_members : Option Lengths → List Token
length_members (Some l) = range_members l
length_members None = no_range

abbrev pub way_word : Way → Option (List ℕ)
way_word way.Unknown = None
way_word way.Constant = Some (codes "constant")
way_word way.Few = Some (codes "values")
way_word way.Steps = Some (codes "steps")
way_word way.Random = Some (codes "random")

abbrev pub value_tokens : ValueCount → List Token
value_tokens v = opened ++ bits (codes "value") v.bits ++ number (codes "items") v.count ++ closed

abbrev pub values_tokens : List ValueCount → List Token
values_tokens vs = flat_map value_tokens vs

-- the values, where they are few
abbrev pub values_of : Way → FewValues → List Token
values_of way.Unknown v = []
values_of way.Constant v = values_tokens v.kept
values_of way.Few v = values_tokens v.kept
values_of way.Steps v = []
values_of way.Random v = []

abbrev pub share_member : List ℕ → Option ℕ → List Token
share_member key (Some n) = figure key (decimal n)
share_member key None = null_member key

-- how often the value is that of the item before, where there are few
abbrev pub same_of : Way → Option ℕ → List Token
same_of way.Unknown s = null_member (codes "as_before")
same_of way.Constant s = null_member (codes "as_before")
same_of way.Few s = share_member (codes "as_before") s
same_of way.Steps s = null_member (codes "as_before")
same_of way.Random s = null_member (codes "as_before")

abbrev pub steps_tokens : StepRange → List Token
steps_tokens r =
    member_opened (codes "steps") ++ figure (codes "least") (signed_decimal r.least) ++ figure (codes "most") (signed_decimal r.most) ++ figure (codes "frequent") (signed_decimal r.frequent)
    ++ figure (codes "share") (decimal r.share) ++ closed

-- the steps, where the field goes on by these
abbrev pub steps_of : Way → StepRange → List Token
steps_of way.Unknown r = null_member (codes "steps")
steps_of way.Constant r = null_member (codes "steps")
steps_of way.Few r = null_member (codes "steps")
steps_of way.Steps r = steps_tokens r
steps_of way.Random r = null_member (codes "steps")

abbrev pub way_members : FieldAdvice → List Token
way_members f =
    optional_text (codes "goes") (way_word f.way) ++ array_opened (codes "values") ++ values_of f.way f.values.now ++ array_closed ++ same_of f.way f.same ++ steps_of f.way f.steps
    ++ number (codes "without") f.without

abbrev pub field_line : FieldAdvice → List ℕ
field_line f = line (opened ++ text (codes "kind") (codes "field") ++ text (codes "field") f.name.now ++ text (codes "part") f.part.now ++ length_members f.lengths ++ way_members f)

abbrev pub field_lines : List FieldAdvice → List ℕ
field_lines fs = flat_map field_line fs

-- ---- which `lsb` takes the steps

abbrev pub lsb_member : List ℕ → ℕ → ℤ → List Token
lsb_member key k p = member_opened key ++ number (codes "k") k ++ figure (codes "offset") (signed_decimal p) ++ closed

abbrev pub irregular_member : List ℕ → List Token
irregular_member key = text key (codes "irregular")

abbrev pub nearest_member : List ℕ → Nearest → List Token
nearest_member key nearest.Unknown = null_member key
nearest_member key nearest.Irregular = irregular_member key
nearest_member key (nearest.Lsb k p) = lsb_member key k p

abbrev pub near_begun : List ℕ → ℕ → List Token
near_begun field lost = opened ++ text (codes "kind") (codes "near") ++ text (codes "field") field ++ number (codes "lost") lost

abbrev pub near_line : NearAdvice → List ℕ
near_line n =
    line (near_begun n.field.now n.lost ++ nearest_member (codes "p90") n.most ++ nearest_member (codes "p99") n.nearly_all
    ++ nearest_member (codes "p100") n.all)

abbrev pub near_lines : List NearAdvice → List ℕ
near_lines ns = flat_map near_line ns

-- ---- what each `lsb` takes

abbrev pub shares_members : Taken → List Token
shares_members t = figure (codes "k") (signed_decimal t.bits) ++ figure (codes "offset") (signed_decimal t.offset) ++ share_member (codes "share_0") t.next ++ share_member (codes "share_lost") t.all

abbrev pub none_taken : List Token
none_taken = null_member (codes "k") ++ null_member (codes "offset") ++ null_member (codes "share_0") ++ null_member (codes "share_lost")

abbrev pub taken_members : Option Taken → List Token
taken_members (Some t) = shares_members t
taken_members None = none_taken

abbrev pub own_begun : List ℕ → List ℕ → List Token
own_begun field format = opened ++ text (codes "kind") (codes "own") ++ text (codes "field") field ++ text (codes "format") format

abbrev pub own_line : OwnAdvice → List ℕ
own_line o = line (own_begun o.field.now o.format.now ++ taken_members o.taken)

abbrev pub own_lines : List OwnAdvice → List ℕ
own_lines os = flat_map own_line os

-- ---- all of it

abbrev pub advice_objects : Advice → List ℕ
advice_objects a = all_line a.items a.lost ++ field_lines a.fields ++ near_lines a.nears ++ own_lines a.owns
