-- A refusal by its number, and an answer that may be one.
use Rattle.std.specs.Prelude.{ℕ, Ok, Err}
use Rattle.std.specs.declared.result.Result.{Result}
use Rattle.prelude.specs.Answer.{Answer, accepted, refused}
use Rattle.refusal.specs.declared.Refusal.{Refusal}
use Rattle.refusal.specs.declared.Refusal.TheVariants.{CutOff, OutOfTurn, BadLength, NoScreen, OddMark, OffTheScale, Overfull, SheetTooSmall, NoSuchFinger, WrongState}

abbrev pub refusal_number : Refusal → ℕ
refusal_number CutOff = 1
refusal_number OutOfTurn = 2
refusal_number BadLength = 3
refusal_number NoScreen = 4
refusal_number OddMark = 5
refusal_number OffTheScale = 6
refusal_number Overfull = 7
refusal_number SheetTooSmall = 8
refusal_number NoSuchFinger = 9
refusal_number WrongState = 10

-- the value, or the refusal's number
abbrev pub answered : {A : Type 0} → Result A Refusal → Answer A
answered (Ok x) = accepted x
answered (Err r) = refused (refusal_number r)
