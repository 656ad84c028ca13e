-- `fits`: what is left from an input on gives the whole answer.
use Rattle.std.proofs.Common.{◌≡◌, drop}
use Rattle.fits.specs.Fits.{all_fit, fits_of}
use Rattle.fits.proofs.fits.Given as goal

abbrev pub invariant-loop-i : goal.invariant-loop-i
invariant-loop-i l = all_fit l.w l.h l.game l.holes (drop l.i l.inputs) ≡ fits_of l.fn.l l.w l.h l.game l.holes
