-- The cutout pass keeps the range of a layout's elements: an element moves only to where it lies on the screen.
use mathlib.Core.Path.{◌≡◌, refl, sym, ◌∙◌}
use mathlib.Core.Bool.{Bool, true, false, not}
use mathlib.Core.List.{List}
use mathlib.Core.Logic.{◌⊎◌, inl, inr}
use Prim.Native.Nat.{ℕ, ◌+◌, ◌-◌, ◌*◌, ◌^◌, ◌≤◌, ◌<◌}
use native.Mathlib.Nat.{le_of_lt, mul-le-mul_right, mul-pos}
use native.Mathlib.Omega.{arith}
use lib.Dec.{T, leb, ltb, leb→le, nleb→lt, ltb→lt}
use denote.Floats.{passes}
use lib.ListN.{length}
use lib.Pow.{pow_pos}
use lib.Ieee.{Float, nan, inf, fin, binary32, up, down, of_bits, round, sum, add, le, fits}
use lib.Ieee.Fits.{down_pos, add-fits}
use lib.Ieee.Order.{round_mono}
use Rattle.prelude.specs.Each.{Each}
use Rattle.prelude.proofs.Booleans.{either, by_test, all_four}
use Rattle.prelude.specs.Lists.{is_empty}
use Rattle.float.specs.Float.{◌⊕◌, k0, k8192}
use Rattle.geometry.specs.declared.Rect.{Rect}
use Rattle.geometry.specs.Rect.{inside_of}
use Rattle.layout.specs.declared.Layout.{Layout}
use Rattle.layout.proofs.ElementLaws.{length_elements}
use Rattle.numerics.specs.Value.{magnitude, Whole, eps, pos_part, AtMost, P}
use Rattle.numerics.specs.Range.{In, at}
use Rattle.numerics.specs.Rects.{max_corner, max_side, Element}
use Rattle.numerics.proofs.Operations.{fits_whole, less}
use Rattle.numerics.proofs.Bounds.{eps_pos, most_magnitude, magnitude_most, between_most, le_law, zero_most, zero_parts}
use Rattle.numerics.proofs.Ranges.{add_in, most_in, moved_in, range_most, tested}
use Rattle.numerics.proofs.Literals.{lit}
use Rattle.layout_ranges.specs.Bounded.{Bounded}
use Rattle.layout_ranges.proofs.Changes.{set_elements_in, elements_in}
use Rattle.cutouts.specs.Cutouts.{with_area_of, avoid_cutouts_of}
use Rattle.cutouts.specs.Settled.{Settled, AllSettled, none, next}
use Rattle.cutouts.proofs.CutoutLaws.{elements_after, all_after, length_after}

-- ---- a move may be of any length, so the tests alone bound where it ends
-- a sum of 32768 at least and a side
far_sum : (t : Bool) (a b c : ℕ) → 0 < c → 32768 * c ≤ a → b ≤ 8593 * c → T (le (round binary32 false 16384 1) (sum binary32 false a t b c))
unfolding sum
far_sum false a b c C h k = round_mono binary32 16384 1 (a + b) c (omega arith) C (omega arith)
far_sum true a b c C h k =
    by_test (λ z. T (le (round binary32 false 16384 1) z)) (ltb a b) (λ t. let v = ltb→lt a b t in absurd (let y : ⊥ = omega arith in y))
    (λ t. round_mono binary32 16384 1 (a - b) c (omega arith) C (omega arith))

-- fractions over c, by their units
units_of : (k c : ℕ) → k * c * 2 ^ 149 ≡ eps * (256 * k) * c
unfolding eps
units_of k c = go (2 ^ 141)
  where
    go : (e : ℕ) → k * c * (e * 256) ≡ e * (256 * k) * c
    go e = omega arith

-- a number from 0 on, to which a side is added: it is 32768 at most, or the sum is 16384 at least
far : (x r : Float) → T (fits binary32 x) → AtMost r max_side → T (le k0 x) → AtMost x (256 * 32768) ⊎ T (le (k8192 ⊕ k8192) (x ⊕ r))
unfolding of_bits add le
far nan r f R s = absurd s
far (inf true) r f R s = absurd s
far (inf false) nan f R s = absurd R.whole
far (inf false) (inf t) f R s = absurd R.whole
far (inf false) (fin t n d) f R s = inr tt
far (fin true m e) r f R s =
    let W = fits_whole (fin true m e) tt f in
    let l = le_law 1 k0 (fin true m e) zero_most.whole W s in
    let z = zero_parts 1 in
    let p : P 1 (fin true m e) ≡ 0 = unfold P pos_part in refl in
    inl (between_most (fin true m e) (256 * 32768) W (omega (arith, p)) (omega (arith, p, l, z)))
far (fin false m e) nan f R s = absurd R.whole
far (fin false m e) (inf t) f R s = absurd R.whole
far (fin false m e) (fin t n d) f R s = go (leb M (eps * (256 * 32768))) (leb→le M _) (nleb→lt M _)
  where
    M : ℕ
    M = magnitude (fin false m e)

    W : Whole (fin false m e)
    W = fits_whole (fin false m e) tt f

    go : (b : Bool) → (T b → M ≤ eps * (256 * 32768)) → (T (not b) → eps * (256 * 32768) < M) → AtMost (fin false m e) (256 * 32768) ⊎ T (le (k8192 ⊕ k8192) (fin false m e ⊕ fin t n d))
    go true u v = inl (magnitude_most W (u tt))
    go false u v =
        let j = mul-le-mul_right (down d) (less (down e) (eps * (256 * 32768)) M (2 ^ 149) (32768 * down e) (m * up e) (sym (units_of 32768 (down e))) (sym W) (pow_pos 149) (le_of_lt (v tt))) in
        let side = less (down d) (magnitude (fin t n d)) (eps * max_side) (2 ^ 149) (n * up d) (8593 * down d) (sym R.whole) (sym (units_of 8593 (down d))) (pow_pos 149) (most_magnitude R) in
        let k = mul-le-mul_right (down e) side in
        inr (far_sum t (m * up e * down d) (n * up d * down e) (down e * down d) (mul-pos (down_pos e) (down_pos d)) (omega (arith, j)) (omega (arith, k)))

-- one side of an element that was moved
side_in : {x r w : Float} → T (fits binary32 x) → AtMost r max_side → In w (at 0) (at 8192) → T (le k0 x) → T (le (x ⊕ r) w) → AtMost x max_corner
side_in {x} {r} {w} f R W s t = go (far x r f R s)
  where
    go : AtMost x (256 * 32768) ⊎ T (le (k8192 ⊕ k8192) (x ⊕ r)) → AtMost x max_corner
    go (inl n) = range_most max_corner (moved_in n (most_in R tt) W tt tt s t) tt
    go (inr k) = let i = tested (x ⊕ r) (add-fits binary32 x r) (add_in (lit 8192) (lit 8192) tt) W k t in let e = eps_pos in absurd (let y : ⊥ = omega (arith, i.lo, i.hi, e) in y)

module _ {w h : Float} (W : In w (at 0) (at 8192)) (H : In h (at 0) (at 8192)) where
  settled_in : (old new : Rect) → Settled w h old new → Element old → Element new
  unfolding inside_of
  settled_in old new (inl e) E = rw e E
  settled_in old new (inr m) E =
      let s = all_four (le k0 new.x) (le k0 new.y) (le (new.x ⊕ new.w) w) (le (new.y ⊕ new.h) h) (passes _ m.inside) in
      let wide : AtMost new.w max_side = rw m.width E.w in
      let high : AtMost new.h max_side = rw m.height E.h in
      record { x = side_in m.fitsx wide W s.0 s.2; y = side_in m.fitsy high H s.1 s.3; w = wide; h = high }

  all_settled_in : {olds news : List Rect} → AllSettled w h olds news → Each Element olds → Each Element news
  all_settled_in none e = tt
  all_settled_in (next s t) e = (settled_in _ _ s e.0, all_settled_in t e.1)

  pub avoid_bounded : (l : Layout) (cutouts : List Rect) → l.count ≤ length l.controls → l.stickcount ≤ length l.sticks → Bounded l → Bounded (avoid_cutouts_of l w h cutouts)
  unfolding avoid_cutouts_of
  avoid_bounded l cutouts cs ss L =
      let n = length_after w h l cutouts ∙ length_elements l cs ss in
      either Bounded (is_empty (with_area_of cutouts)) L (set_elements_in (elements_after w h l cutouts) (omega (arith, n)) L (all_settled_in (all_after w h l cutouts) (elements_in l L)))
