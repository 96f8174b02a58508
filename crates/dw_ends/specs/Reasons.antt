-- The reasons for which a line is refused, as they are printed.
use Rattle.std.specs.Prelude.{ℕ, List, codes}
use Rattle.dw_ends.specs.declared.reason.Reason.{Reason}
use Rattle.dw_ends.specs.declared.reason.Reason.TheVariants.{BadByte, UnknownWord, BadNumber, BadHex, TooDeep, BadTarget, WrongFields, OrderNotFirst, WrongLength, Twice, NoSuchUnit, NoSuchEntry, BadTag, BadName, NotReserved, ZeroByte, NoLineProgram, EmptyName, NoSuchDirectory, InSequence, NotInSequence, NoSuchFile, AddressBack, BadSymbol, EmptyRange, LiveNotFirst}

-- a reason's text
abbrev pub reason_text : Reason → List ℕ
reason_text BadByte = codes "bad byte"
reason_text UnknownWord = codes "unknown word"
reason_text BadNumber = codes "bad number"
reason_text BadHex = codes "bad hex"
reason_text TooDeep = codes "too deep"
reason_text BadTarget = codes "bad target"
reason_text WrongFields = codes "wrong fields"
reason_text OrderNotFirst = codes "order not first"
reason_text WrongLength = codes "wrong length"
reason_text Twice = codes "twice"
reason_text NoSuchUnit = codes "no such unit"
reason_text NoSuchEntry = codes "no such entry"
reason_text BadTag = codes "bad tag"
reason_text BadName = codes "bad name"
reason_text NotReserved = codes "not reserved"
reason_text ZeroByte = codes "zero byte"
reason_text NoLineProgram = codes "no line program"
reason_text EmptyName = codes "empty name"
reason_text NoSuchDirectory = codes "no such directory"
reason_text InSequence = codes "in sequence"
reason_text NotInSequence = codes "not in sequence"
reason_text NoSuchFile = codes "no such file"
reason_text AddressBack = codes "address back"
reason_text BadSymbol = codes "bad symbol"
reason_text EmptyRange = codes "empty range"
reason_text LiveNotFirst = codes "live not first"
