-- One digit is the whole text, and else the last comes after those of n / 10.
use mathlib.Core.Path.{◌≡◌, ap}
use Prim.Native.Nat.{◌%◌}
use native.Mathlib.Omega.{arith}
use lib.ListN.{length}
use Rattle.lines.proofs.LineLaws.{length_more, digits_few}
use Rattle.lines.proofs.Puts.{digit, digit_after, put_ends, put_length}
use Rattle.lines.proofs.+put_digits.Goals as goal
use Rattle.lines.proofs.+put_digits.Goals.{then-n-lt10, else-n-lt10}

pub put_digits-last-requires : goal.put_digits-last-requires
put_digits-last-requires t c = (omega arith, omega (arith, length_more _ c.if-n-lt10.false))

pub bounds-out-last : goal.bounds-out-last
bounds-out-last t c =
    elim c.if-n-lt10.branch [
      | then-n-lt10 w ↦ rw (w.out-is, w.last-is) (omega (arith, ap length (digits_few _ w.if-n-lt10.true)))
      | else-n-lt10 w ↦ rw (w.out-is, w.last-is) (omega (arith, put_ends, put_length, length_more _ w.if-n-lt10.false))
    ]

pub overflow_add-result : goal.overflow_add-result
overflow_add-result t c =
    elim c.if-n-lt10.branch [
      | then-n-lt10 w ↦ rw w.last-is (omega (arith, ap length (digits_few _ w.if-n-lt10.true)))
      | else-n-lt10 w ↦ rw w.last-is (omega (arith, put_ends, length_more _ w.if-n-lt10.false))
    ]

pub returns : goal.returns
returns t c =
    elim c.if-n-lt10.branch [
      | then-n-lt10 w ↦ let small : c.args.n % 10 ≡ c.args.n = omega arith in rw (w.out-is, w.last-is, small) (digit _ _ _ w.if-n-lt10.true)
      | else-n-lt10 w ↦ rw (w.out-is, w.last-is) (digit_after _ _ _ w.if-n-lt10.false w.put_digits-last.ensures)
    ]
