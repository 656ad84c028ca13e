-- The rectangles that numbers are: how many, and each one. Saved rectangles as they are written: each one.
use mathlib.Core.Path.{◌≡◌, refl}
use mathlib.Core.List.{List, [], ◌∷◌, map}
use Prim.Native.Nat.{ℕ, zero, suc, ◌+◌, ◌*◌, ◌/◌, ◌<◌, ◌≤◌}
use native.Mathlib.Omega.{arith}
use lib.Ieee.{Float}
use lib.ListN.{length, get_or}
use Rattle.prelude.proofs.ListLaws.{length_tabulate, get_d_tabulate}
use Rattle.geometry.specs.declared.Rect.{Rect}
use Rattle.order_writer.specs.OrderBytes.{writable_of}
use Rattle.order_writer.specs.Numbers.{rect_from, rects_in}

pub length_rects : (numbers : List Float) → length (rects_in numbers) ≡ length numbers / 4
unfolding rects_in
length_rects numbers = length_tabulate (λ i. rect_from numbers (4 * i)) (length numbers / 4)

pub four_more : (numbers : List Float) (i : ℕ) → i < length (rects_in numbers) → 4 * i + 4 ≤ length numbers
four_more numbers i h = omega (arith, length_rects numbers)

pub rects_at : (numbers : List Float) (i : ℕ) (d : Rect) → i < length (rects_in numbers) → get_or (rects_in numbers) i d ≡ rect_from numbers (4 * i)
unfolding rects_in
rects_at numbers i d h = get_d_tabulate (λ k. rect_from numbers (4 * k)) (length numbers / 4) i d (omega (arith, length_tabulate (λ k. rect_from numbers (4 * k)) (length numbers / 4)))

pub saved_at : (l : List Rect) (i : ℕ) {r : Rect} (d : Rect) → i < length l → r ≡ get_or l i r → (get_or l i d ≡ r) × (get_or (map writable_of l) i d ≡ writable_of r)
saved_at [] i d h e = absurd (let z : ⊥ = omega arith in z)
saved_at (x ∷ l) zero d h e = (rw e, rw e)
saved_at (x ∷ l) (suc i) d h e = saved_at l i d (omega arith) e
