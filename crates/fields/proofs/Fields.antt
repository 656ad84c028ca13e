-- How long a field is, what its head and its value put, and what fields put one after the other.
use mathlib.Core.Path.{◌≡◌, ◌∙◌}
use mathlib.Core.Bool.{Bool, true, false}
use mathlib.Core.List.{List, ◌++◌}
use Prim.Native.Nat.{ℕ, ◌+◌}
use native.Mathlib.Omega.{arith}
use lib.ListN.{length, length-append}
use Rattle.prelude.specs.Lists.{stored}
use Rattle.prelude.proofs.Stores.{then}
use Rattle.wire.specs.Wire.{head_bytes}
use Rattle.wire.proofs.Items.{length_field_head}
use Rattle.fields.specs.Fields.{field_unless}

module _ (tag : ℕ) (v : List ℕ) {absent : Bool} where
  pub length_in : absent ≡ false → length (field_unless absent tag v) ≡ 3 + length v
  length_in e = rw e (length-append (head_bytes tag (length v)) v ∙ rw length_field_head)

  pub left_out : (out : List ℕ) (at : ℕ) → absent ≡ true → out ≡ stored out at (field_unless absent tag v)
  unfolding stored
  left_out out at e = rw e

  pub put_in : (out : List ℕ) (at : ℕ) {m end : List ℕ} → absent ≡ false → m ≡ stored out at (head_bytes tag (length v)) → end ≡ stored m (at + 3) v → end ≡ stored out at (field_unless absent tag v)
  put_in out at e p q = rw e (then _ _ _ _ _ p q (omega (arith, length_field_head tag (length v))))

-- From the start of `out` on there are these bytes, to `at`.
pub record Run (out bytes : List ℕ) (at : ℕ) (m : List ℕ) : Type 0 where
  pub is : m ≡ stored out 0 bytes
  pub end : at ≡ length bytes

pub first : (bytes : List ℕ) {out m : List ℕ} {at : ℕ} → at ≡ 0 + length bytes → m ≡ stored out 0 bytes → Run out bytes at m
first bytes n p = record { is = p; end = omega arith }

pub next : (more : List ℕ) {out bytes m end : List ℕ} {at to : ℕ} → Run out bytes at m → to ≡ at + length more → end ≡ stored m at more → Run out (bytes ++ more) to end
next more {bytes = bytes} r n p = record { is = then _ _ _ _ _ r.is p (omega (arith, r.end)); end = omega (arith, r.end, length-append bytes more) }
