-- Plus zero has the value of negative zero.
use mathlib.Core.Path.{◌≡◌, refl, ap, sym, ◌∙◌}
use mathlib.Core.Bool.{Bool, true, false}
use Prim.Native.Nat.{◌*◌, ◌/◌, ◌^◌}
use native.Mathlib.Nat.{zero-div}
use lib.IntN.{pos, neg_ℤ}
use lib.Ieee.{Float, nan, inf, fin, down, of_bits, eq}
use Rattle.float.specs.Float.{k0}
use Rattle.numerics.specs.Value.{magnitude, Whole, value}
use Rattle.numerics.proofs.Bounds.{zero_most}
use Rattle.wire.specs.Wire.{plus_zero}
use Rattle.wire.proofs.ReadBack.{plus_zero_ind, zero_size}

zero_value : (x : Float) → eq x k0 ≡ true → value k0 ≡ value x
unfolding eq of_bits magnitude
zero_value nan e = cc
zero_value (inf s) e = cc
zero_value (fin s m g) e = go s (sym (ap (λ n. n * 2 ^ 149 / down g) (zero_size s m g e) ∙ zero-div (down g)))
  where
    go : (t : Bool) → 0 ≡ magnitude (fin t m g) → pos 0 ≡ value (fin t m g)
    go false z = ap pos z
    go true z = ap (λ n. neg_ℤ (pos n)) z

pub plus_zero_value : (x : Float) → value (plus_zero x) ≡ value x
plus_zero_value x = plus_zero_ind (λ y. value y ≡ value x) x (zero_value x) (λ e. refl)

pub plus_zero_whole : (x : Float) → Whole x → Whole (plus_zero x)
plus_zero_whole x p = plus_zero_ind Whole x (λ e. zero_most.whole) (λ e. p)
