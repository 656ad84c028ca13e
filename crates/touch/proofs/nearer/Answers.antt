-- `nearer`: what a turn makes of the nearest button, with the margin and without.
use mathlib.Core.Path.{◌≡◌, refl}
use mathlib.Core.Bool.{Bool, true, false, cond, not, ◌&&◌, ◌||◌, and_assoc}
use Prim.Native.Nat.{ℕ}
use lib.Bits.{bit_and}
use lib.Dec.{eqb}
use lib.Ieee.{Float, lt}
use Rattle.geometry.specs.Rect.{contains_of}
use Rattle.layout.specs.declared.Control.{Control}
use Rattle.layout.specs.Label.{mask_of, is_face_of}
use Rattle.touch.specs.declared.Face.{Face}
use Rattle.touch.specs.Touch.{reached_of, distance_of, nearer_of}
use Rattle.touch.proofs.nearer.Goals as goal

-- the button is reached, with its margin or without
abbrev near : Float → Float → Control → Bool → Bool
near x y c free = is_face_of c.label && reached_of c.bounds x y free

-- without its margin, if it is reached in any way and its box holds the touch
bare : (x y : Float) (c : Control) (outside : Bool) {t k : Bool} → t ≡ near x y c outside → k ≡ contains_of c.bounds x y → (t && k) ≡ near x y c false
unfolding reached_of
bare x y c outside p q = rw (p, q) (go (is_face_of c.label) (contains_of c.bounds x y) _)
  where
    go : (f k m : Bool) → ((f && (k || m)) && k) ≡ (f && (k || false))
    go false k m = refl
    go true true m = refl
    go true false true = refl
    go true false false = refl

module _ (x y : Float) (previous : ℕ) (best : Face) (c : Control) (free : Bool) where
  -- a turn at a button that is not reached
  far : {t : Bool} → t ≡ near x y c free → t ≡ false → best ≡ nearer_of x y free previous best c
  unfolding nearer_of
  far p q = rw (← and_assoc, ← p, q)

  -- and at one that is
  turn : {t : Bool} {m : ℕ} {d : Float} {r : Face} → t ≡ near x y c free → t ≡ true → m ≡ mask_of c.label
      → d ≡ distance_of c.bounds x y (not (eqb (bit_and previous m) 0)) → r ≡ cond (lt d best.closest) (record { mask = m; closest = d }) best
      → r ≡ nearer_of x y free previous best c
  unfolding nearer_of
  turn p q m d e = rw (← and_assoc, ← p, q) (rw (d, m) at e)

pub returns-then-contains : goal.returns-then-contains
returns-then-contains c =
    let s = c.args in
    let t = c.face_reached.ensures in
    let k = c.contains.ensures in
    let m = c.mask-mask.ensures in
    let b = bare s.x s.y s.c s.outside t k in (
      turn s.x s.y s.previous s.best.free s.c s.outside t c.if-face_reached.true m c.distance-closest.ensures c.closer-free.ensures,
      turn s.x s.y s.previous s.best.taken s.c false b (rw (c.if-face_reached.true, c.if-contains.true)) m c.distance-closest.ensures c.closer.ensures,
    )

pub returns-then-face_reached : goal.returns-then-face_reached
returns-then-face_reached c =
    let s = c.args in
    let t = c.face_reached.ensures in
    let k = c.contains.ensures in (
      turn s.x s.y s.previous s.best.free s.c s.outside t c.if-face_reached.true c.mask-mask.ensures c.distance-closest.ensures c.closer-free.ensures,
      far s.x s.y s.previous s.best.taken s.c false (bare s.x s.y s.c s.outside t k) (rw (c.if-face_reached.true, c.if-contains.false)),
    )

pub returns : goal.returns
returns c =
    let s = c.args in
    let t = c.face_reached.ensures in (
      far s.x s.y s.previous s.best.free s.c s.outside t c.if-face_reached.false,
      far s.x s.y s.previous s.best.taken s.c false (bare s.x s.y s.c s.outside t refl) (rw c.if-face_reached.false),
    )
