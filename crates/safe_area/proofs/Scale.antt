-- Document 01's limits keep differences and casts in range.
use mathlib.Core.Path.{◌≡◌, refl, ◌∙◌}
use mathlib.Core.Bool.{true, ◌&&◌, and-true}
use mathlib.Core.List.{List, [], ◌∷◌}
use Prim.Native.Nat.{ℕ, zero, suc, ◌+◌, ◌^◌, ◌≤◌}
use native.Mathlib.Omega.{arith}
use lib.Dec.{T, ltb, lt→ltb, le→leb}
use lib.Signed.{◌≤ℤ◌}
use lib.IntN.{ℤ, pos, negsuc, sub_ℕ, ◌-ℤ◌}
use lib.Signed.{mag, lt_z}
use lib.Ieee.{binary32, in_float}
use borrow.Author.Tests.{leb-true}
use Rattle.std.specs.Int.{int_max, int_min}
use Rattle.std.specs.Ordering.{int_eq}
use Rattle.std.specs.Cmp.Lexicographic.{pointwise}
use Rattle.std.proofs.lemmas.Int.{ints, clamps}
use Rattle.prelude.proofs.Booleans.{either, both}
use Rattle.prelude.proofs.Signed.{back, kept}
use Rattle.safe_area.specs.Safe.{entry, within_limits_of, OnScale, on_scale_of, all_on_scale_of, current_edges_of, clamp_z, start_of, extent_of}

pub small : (n : ℤ) → OnScale n → mag n ≤ 8192
unfolding within_limits_of
small (pos n) h = leb-true n 8192 h
small (negsuc n) h = let k : n ≤ 8191 = leb-true n 8191 (rw and-true at h) in omega arith

casts : (z : ℤ) → mag z ≤ 65536 → T (in_float binary32 z)
unfolding in_float
casts (pos n) h = le→leb n (2 ^ 24) (omega arith)
casts (negsuc n) h = lt→ltb n (2 ^ 24) (omega arith)

pub cast_small : (z : ℤ) → mag z ≤ 65536 → T (in_float binary32 (back z))
cast_small z h = rw (kept z (omega arith)) (casts z h)

mag_subℕ : (a b : ℕ) → mag (sub_ℕ a b) ≤ a + b
mag_subℕ a b = either (λ z. mag z ≤ a + b) (ltb a b) (omega arith) (omega arith)

mag_sub : (a b : ℤ) → mag (a -ℤ b) ≤ mag a + mag b + 2
mag_sub (pos a) (pos zero) = omega arith
mag_sub (pos a) (pos (suc b)) = omega (arith, mag_subℕ a (suc b))
mag_sub (pos a) (negsuc b) = omega arith
mag_sub (negsuc a) (pos zero) = omega (arith, mag_subℕ 0 (suc a))
mag_sub (negsuc a) (pos (suc b)) = omega arith
mag_sub (negsuc a) (negsuc b) = omega (arith, mag_subℕ (suc b) (suc a))

max_small : (a b : ℤ) → mag a ≤ 65536 → mag b ≤ 65536 → mag (int_max a b) ≤ 65536
max_small a b p q = either (λ z. mag z ≤ 65536) (lt_z b a) p q

-- std's clamp is Rust's two tests, where low ≤ high
clamped : (x low high : ℤ) → low ≤ℤ high → int_max low (int_min x high) ≡ clamp_z x low high
unfolding clamp_z
clamped x low high h = grind (arith, ints, clamps)

-- what the machine reads back along an axis is what was stored
pub record Spanned (whole near far start extent : ℤ) : Type 0 where
  pub start_is : start ≡ start_of whole near
  pub extent_is : extent ≡ extent_of whole near far
  pub start_small : mag start ≤ 65536
  pub extent_small : mag extent ≤ 65536

module _ {whole near far least start end extent : ℤ} where
  pub spanned : OnScale whole → OnScale near → OnScale far → least ≡ int_max (back whole) (pos 0) → start ≡ int_max (pos 0) (int_min (back near) (back least))
      → end ≡ int_max (back far) (pos 0) → extent ≡ int_max (back (back (back whole -ℤ back start) -ℤ back end)) (pos 1) → Spanned whole near far start extent
  spanned w n f l s e x =
      let whole_small = small whole w in
      let near_small = small near n in
      let far_small = small far f in
      let whole_back = kept whole (omega arith) in
      let l' : least ≡ int_max whole (pos 0) = l ∙ rw whole_back in
      let least_small : mag least ≤ 8192 = omega (arith, ints, clamps) in
      let s' : start ≡ int_max (pos 0) (int_min near least) = s ∙ rw (kept near (omega arith), kept least (omega arith)) in
      let start_small : mag start ≤ 8192 = omega (arith, ints, clamps) in
      let e' : end ≡ int_max far (pos 0) = e ∙ rw (kept far (omega arith)) in
      let end_small : mag end ≤ 8192 = omega (arith, ints, clamps) in
      let rest_small : mag (whole -ℤ start) ≤ 16386 = omega (arith, mag_sub whole start) in
      let left_small : mag (whole -ℤ start -ℤ end) ≤ 24580 = omega (arith, mag_sub (whole -ℤ start) end) in
      let x' : extent ≡ int_max (whole -ℤ start -ℤ end) (pos 1) =
      x ∙ rw (whole_back, kept start (omega arith), kept (whole -ℤ start) (omega arith), kept end (omega arith), kept (whole -ℤ start -ℤ end) (omega arith)) in
      let c' : start ≡ clamp_z near (pos 0) least = s' ∙ clamped near (pos 0) least (omega (arith, ints, clamps)) in
      record {
        start_is = c' ∙ rw l';
        extent_is = x' ∙ rw (c', l', e');
        start_small = omega arith;
        extent_small = rw x' (max_small (whole -ℤ start -ℤ end) (pos 1) (omega arith) (omega arith));
      }

-- ---- the numbers that `content` passes on
entry_on_scale : (xs : List ℤ) (i : ℕ) → on_scale_of xs ≡ true → OnScale (entry xs i)
unfolding within_limits_of
entry_on_scale [] i h = refl
entry_on_scale (x ∷ xs) zero h = (both (within_limits_of x) (on_scale_of xs) h).0
entry_on_scale (x ∷ xs) (suc i) h = entry_on_scale xs i (both (within_limits_of x) (on_scale_of xs) h).1

pub read_on_scale : (xs : List ℤ) (i : ℕ) → on_scale_of xs ≡ true → OnScale (back (entry xs i))
read_on_scale xs i h =
    let e = entry_on_scale xs i h in
    let s = small (entry xs i) e in
    rw (kept (entry xs i) (omega arith)) e

pub sizes_and_edges : (size inset edges : List ℤ) {current : List ℤ} → all_on_scale_of size inset edges ≡ true → current ≡ current_edges_of size inset edges → (on_scale_of size ≡ true) × (on_scale_of current ≡ true)
unfolding all_on_scale_of current_edges_of within_limits_of
sizes_and_edges size inset edges h e =
    let k = both (on_scale_of size) (on_scale_of inset && on_scale_of edges) h in
    let on : on_scale_of edges ≡ true = (both (on_scale_of inset) (on_scale_of edges) k.1).1 in
    (k.0, rw e (either (λ xs. on_scale_of xs ≡ true) (pointwise int_eq size inset) on refl))
