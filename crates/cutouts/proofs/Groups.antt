-- Groups by index: the indices are within the elements, those outside a group, the faces, and a group that moves.
use mathlib.Core.Path.{◌≡◌, ap}
use mathlib.Core.Bool.{Bool, true, false, not, cond}
use mathlib.Core.List.{List, [], ◌∷◌, ◌++◌}
use Prim.Native.Nat.{ℕ, zero, suc, ◌+◌, ◌<◌, ◌≤◌, zero-le}
use native.Mathlib.Omega.{arith}
use lib.Ieee.{Float}
use lib.ListN.{length, take, get_or}
use lib.Seq.{length-take-le, take_all}
use Rattle.prelude.proofs.Booleans.{either}
use Rattle.std.specs.List.{list_any}
use Rattle.prelude.specs.Lists.{filter_map, enumerate_from, range}
use Rattle.prelude.proofs.ListLaws.{length_enumerate, enumerate_at, length_range, range_at}
use Rattle.prelude.proofs.Loops.{one_more, no_more}
use Rattle.geometry.specs.declared.Rect.{Rect}
use Rattle.geometry.specs.Rect.{overlaps_of}
use Rattle.layout.specs.declared.Control.{Control}
use Rattle.layout.specs.declared.Layout.{Layout}
use Rattle.layout.specs.Actions.{action_elements_of}
use Rattle.layout.specs.Label.{is_face_of}
use Rattle.layout.specs.Layout.{any_rect, any_control, control_list}
use Rattle.cutouts.specs.Cutouts.{in_group_of, settle_of, BelowAll}

-- an element on no cutout stays
pub missed : (w h : Float) (holes elements : List Rect) (i : ℕ) → list_any (overlaps_of (get_or elements i any_rect)) holes ≡ false → settle_of w h holes elements (i ∷ []) ≡ elements
unfolding settle_of
missed w h holes elements i e = rw e

-- what f makes of the indices outside a group
abbrev pub outside : {B : Type 0} → List ℕ → (ℕ → B) → List ℕ → List B
outside group f is = filter_map (λ i. not (in_group_of group i)) f is

-- one index more
module _ {B : Type 0} (group : List ℕ) (f : ℕ → B) (n i : ℕ) (h : i < n) {flag : Bool} (e : flag ≡ in_group_of group i) where
  pub outside_one : flag ≡ false → outside group f (take (i + 1) (range 0 n)) ≡ outside group f (take i (range 0 n)) ++ (f i ∷ [])
  outside_one t =
      let at = range_at n i h in
      rw (one_more (λ j. not (in_group_of group j)) f (range 0 n) i 0 (rw length_range h) (rw at (ap not e)) (ap not t), at)

  pub outside_none : flag ≡ true → outside group f (take (i + 1) (range 0 n)) ≡ outside group f (take i (range 0 n))
  outside_none t = let at = range_at n i h in no_more (λ j. not (in_group_of group j)) f (range 0 n) i 0 (rw length_range h) (rw at (ap not e)) (ap not t)

pub outside_all : {B : Type 0} (group : List ℕ) (f : ℕ → B) (n i : ℕ) → n ≤ i → outside group f (take i (range 0 n)) ≡ outside group f (range 0 n)
outside_all group f n i h = ap (outside group f) (take_all i (range 0 n) (rw length_range h))

-- no more pass among the first than among all
pub fewer_passed : {A B : Type 0} (p : A → Bool) (f : A → B) (k : ℕ) (l : List A) → length (filter_map p f (take k l)) ≤ length (filter_map p f l)
fewer_passed p f zero l = zero-le
fewer_passed p f (suc k) [] = zero-le
fewer_passed {A} {B} p f (suc k) (x ∷ l) = go (p x) (fewer_passed p f k l)
  where
    go : (b : Bool) → length (filter_map p f (take k l)) ≤ length (filter_map p f l)
        → length (cond b (f x ∷ filter_map p f (take k l)) (filter_map p f (take k l))) ≤ length (cond b (f x ∷ filter_map p f l) (filter_map p f l))
    go true h = omega arith
    go false h = h

-- ---- the elements' indices of the face controls
abbrev pub faces_of : List (ℕ × Control) → List ℕ
faces_of l = filter_map (λ e. is_face_of e.1.label) (λ e. e.0) l

module _ (cs : List Control) (i : ℕ) (h : i < length cs) {flag : Bool} (e : flag ≡ is_face_of (get_or cs i any_control).label) where
  pub face_one : flag ≡ true → faces_of (take (i + 1) (enumerate_from 1 cs)) ≡ faces_of (take i (enumerate_from 1 cs)) ++ ((i + 1) ∷ [])
  face_one t =
      let q : 1 + i ≡ i + 1 = omega arith in
      let at = enumerate_at 1 cs i any_control h in
      rw (one_more (λ (c : ℕ × Control). is_face_of c.1.label) (λ (c : ℕ × Control). c.0) (enumerate_from 1 cs) i (0, any_control) (rw length_enumerate h) (rw at e) t, at, q)

  pub face_none : flag ≡ false → faces_of (take (i + 1) (enumerate_from 1 cs)) ≡ faces_of (take i (enumerate_from 1 cs))
  face_none t =
      let at = enumerate_at 1 cs i any_control h in
      no_more (λ (c : ℕ × Control). is_face_of c.1.label) (λ (c : ℕ × Control). c.0) (enumerate_from 1 cs) i (0, any_control) (rw length_enumerate h) (rw at e) t

enumerate_below : {A : Type 0} (p : ℕ × A → Bool) (n j : ℕ) (l : List A) → j + length l ≤ n → BelowAll n (filter_map p (λ e. e.0) (enumerate_from j l))
enumerate_below p n j [] h = tt
enumerate_below p n j (x ∷ l) h = let e = enumerate_below p n (suc j) l (omega arith) in either (BelowAll n) (p (j, x)) (omega arith, e) e

pub faces_below : (l : Layout) (n : ℕ) → l.count + 1 ≤ n → l.count ≤ length l.controls → BelowAll n (action_elements_of l)
unfolding action_elements_of
faces_below l n h k =
    let e : length (control_list l) ≡ l.count = length-take-le l.count l.controls k in
    enumerate_below (λ e. is_face_of e.1.label) n 1 (control_list l) (omega arith)
