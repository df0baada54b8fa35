-- The numbers of the refusals.
use Rattle.std.specs.Prelude.{ℕ, ◌==◌, if◌then◌else◌}
use Rattle.foil_spec.specs.declared.refusal.Reason.{Reason}
use Rattle.foil_spec.specs.declared.refusal.Reason.TheVariants as reason

-- the number that documents 01 and 02 give to a refusal
abbrev pub number_of : Reason → ℕ
number_of reason.BadSize = 1
number_of reason.BadReach = 2
number_of reason.BadShape = 3
number_of reason.BadNet = 4
number_of reason.NetOnFoil = 5
number_of reason.NetNotOnFoil = 6
number_of reason.OffFoil = 7
number_of reason.NotFree = 8
number_of reason.NoPath = 9
number_of reason.TableFull = 10
number_of reason.TooManyStrips = 11
number_of reason.LentTooLittle = 12
number_of reason.BrokenState = 13
number_of reason.FileCutShort = 14
number_of reason.UnknownBit = 15
number_of reason.BoardMisplaced = 16
number_of reason.BytesAfterEnd = 17
number_of reason.FileTooLong = 18
number_of reason.NotAWay = 19
number_of reason.BadPen = 20
number_of reason.Crossed = 21
number_of reason.BadInk = 22
number_of reason.NoSuchFoil = 23

-- the refusal that has the number
abbrev pub reason_of : ℕ → Reason
reason_of n =
    if n == 1 then reason.BadSize
    else if n == 2 then reason.BadReach
    else if n == 3 then reason.BadShape
    else if n == 4 then reason.BadNet
    else if n == 5 then reason.NetOnFoil
    else if n == 6 then reason.NetNotOnFoil
    else if n == 7 then reason.OffFoil
    else if n == 8 then reason.NotFree
    else if n == 9 then reason.NoPath
    else if n == 10 then reason.TableFull
    else if n == 11 then reason.TooManyStrips
    else if n == 12 then reason.LentTooLittle
    else if n == 13 then reason.BrokenState
    else if n == 14 then reason.FileCutShort
    else if n == 15 then reason.UnknownBit
    else if n == 16 then reason.BoardMisplaced
    else if n == 17 then reason.BytesAfterEnd
    else if n == 18 then reason.FileTooLong
    else if n == 19 then reason.NotAWay
    else if n == 20 then reason.BadPen
    else if n == 21 then reason.Crossed
    else if n == 22 then reason.BadInk
    else reason.NoSuchFoil
