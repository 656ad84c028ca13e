-- std's abs and is_finite of f32 are the definitions here.
use Rattle.std.proofs.Common.{◌≡◌, false, refl}
use Rattle.std.specs.Float.{float_with_sign, float_is_finite}
use lib.Ieee.{Float, nan, inf, fin, lt}
use Rattle.float.specs.MinMax.{abs_of, is_finite_of}

pub abs_is : (x : Float) → float_with_sign false x ≡ abs_of x
unfolding float_with_sign abs_of
abs_is nan = refl
abs_is (inf s) = refl
abs_is (fin s m e) = refl

pub is_finite_is : (x : Float) → float_is_finite x ≡ is_finite_of x
unfolding float_is_finite is_finite_of abs_of lt
is_finite_is nan = refl
is_finite_is (inf s) = refl
is_finite_is (fin s m e) = refl
