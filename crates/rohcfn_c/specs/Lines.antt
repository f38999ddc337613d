-- Lines of text that are written to a caller's room.
use Rattle.std.specs.Prelude.{◌≡◌, ℕ, min, List, [], ◌++◌, length, take, drop, codes, Some, None, Option}
use Rattle.sem_profile.specs.declared.profile.Method.{Method}
use Rattle.walk_session.specs.declared.refusal.PackRefusal.{PackRefusal}
use Rattle.walk_session.specs.declared.refusal.PackRefusal.TheVariants as pack
use Rattle.walk_session.specs.declared.refusal.UnpackRefusal.{UnpackRefusal}
use Rattle.walk_session.specs.declared.refusal.UnpackRefusal.TheVariants as unpack
use Rattle.tool_names.specs.Names.{method_name, format_name}
use Rattle.rohcfn_c.specs.declared.opened.Last.{Last}
use Rattle.rohcfn_c.specs.declared.opened.Last.TheVariants.{Nothing, Pack, Unpack}

-- as much of the text as fits stands at the start of the room, and its whole length is told
pub record IsCut (text old new : List ℕ) (said : ℕ) : Type 0 where
  pub said_is : said ≡ length text
  pub new_is : new ≡ take (min (length text) (length old)) text ++ drop (min (length text) (length old)) old

abbrev pub pack_words : PackRefusal → List ℕ
pack_words pack.OutOfMemory = []
pack_words pack.Flow = []
pack_words pack.BadBits = []
pack_words pack.Asked = codes "F2 Asked"
pack_words pack.HeaderLength = codes "F1 HeaderLength"
pack_words pack.NoFormat = codes "F3 NoFormat"
pack_words pack.NoReach = codes "F5 NoReach"
pack_words pack.Contexts = codes "F6 Contexts"
pack_words (pack.NoRoom n) = []

-- the method at work, and its format where there is one
abbrev pub refused_text : List Method → ℕ → Option ℕ → List ℕ
refused_text methods method None = codes "U2 Refused " ++ method_name methods method
refused_text methods method (Some format) = codes "U2 Refused " ++ method_name methods method ++ codes "." ++ format_name methods method format

abbrev pub unpack_text : List Method → UnpackRefusal → List ℕ
unpack_text methods unpack.OutOfMemory = []
unpack_text methods unpack.Flow = []
unpack_text methods unpack.BadBits = []
unpack_text methods unpack.Truncated = codes "U1 Truncated"
unpack_text methods (unpack.Refused at) = refused_text methods at.method at.format
unpack_text methods (unpack.NoRoom t) = []

-- what is said of a refusal
abbrev pub why_text : List Method → Last → List ℕ
why_text methods Nothing = []
why_text methods (Pack e) = pack_words e
why_text methods (Unpack e) = unpack_text methods e
