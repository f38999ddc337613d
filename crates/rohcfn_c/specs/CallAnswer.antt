-- What C is given for an answer.
use Rattle.std.specs.Prelude.{ℤ, pos}
use Rattle.walk_session.specs.declared.refusal.PackRefusal.{PackRefusal}
use Rattle.walk_session.specs.declared.refusal.PackRefusal.TheVariants as pack
use Rattle.walk_session.specs.declared.refusal.UnpackRefusal.{UnpackRefusal}
use Rattle.walk_session.specs.declared.refusal.UnpackRefusal.TheVariants as unpack
use Rattle.rohcfn_c.specs.declared.answer.CallAnswer.{CallAnswer}
use Rattle.rohcfn_c.specs.declared.answer.CallAnswer.TheVariants.{Done, NoMemory, Closed, NoRoom, Refused, BadBits, HeaderLength, Asked, NoFormat, Truncated, RefusedPacket, NoSuch, NoReach, Contexts}

abbrev pub code_of : CallAnswer → ℤ
code_of Done = pos 0
code_of NoMemory = pos 1
code_of Closed = pos 2
code_of NoRoom = pos 3
code_of Refused = pos 4
code_of BadBits = pos 5
code_of HeaderLength = pos 6
code_of Asked = pos 7
code_of NoFormat = pos 8
code_of Truncated = pos 9
code_of RefusedPacket = pos 10
code_of NoSuch = pos 11
code_of NoReach = pos 12
code_of Contexts = pos 13

abbrev pub told_of_pack : PackRefusal → CallAnswer
told_of_pack pack.OutOfMemory = NoMemory
told_of_pack pack.Flow = NoSuch
told_of_pack pack.BadBits = BadBits
told_of_pack pack.Asked = Asked
told_of_pack pack.HeaderLength = HeaderLength
told_of_pack pack.NoFormat = NoFormat
told_of_pack pack.NoReach = NoReach
told_of_pack pack.Contexts = Contexts
told_of_pack (pack.NoRoom n) = NoRoom

abbrev pub told_of_unpack : UnpackRefusal → CallAnswer
told_of_unpack unpack.OutOfMemory = NoMemory
told_of_unpack unpack.Flow = NoSuch
told_of_unpack unpack.BadBits = BadBits
told_of_unpack unpack.Truncated = Truncated
told_of_unpack (unpack.Refused at) = RefusedPacket
told_of_unpack (unpack.NoRoom t) = NoRoom
