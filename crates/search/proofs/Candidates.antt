-- Of the candidates on one axis that are not past an exact rectangle's near edge, the last: what the search does there is as good as it can be. For both axes.
use mathlib.Core.List.{List, [], ◌∷◌}
use mathlib.Core.Bool.{Bool, true, false, not, ◌&&◌}
use Prim.Native.Nat.{ℕ, ◌+◌, ◌*◌, ◌≤◌, ◌<◌}
use native.Mathlib.Nat.{le_refl}
use native.Mathlib.Omega.{arith}
use lib.Dec.{T, leb, leb→le, le→leb}
use lib.Ieee.{Float, le, of_bits}
use lib.Ieee.Fits.{and_l, and_r}
use Rattle.prelude.proofs.Booleans.{and_three, last_fails}
use Rattle.prelude.specs.Each.{Each}
use Rattle.float.specs.Float.{◌⊕◌, k0, k0_01}
use Rattle.numerics.specs.Value.{AtMost, P, N, E, Le}
use Rattle.numerics.specs.Rects.{max_area}
use Rattle.numerics.proofs.Bounds.{add_law, add_most, le_law, le_not, E_pos, zero_most}
use Rattle.numerics.proofs.Literals.{hundredth_most, hundredth}
use Rattle.search.specs.Search.{within_of}
use Rattle.search.proofs.Shapes.{edge}

abbrev pub Edge : Float → Type 0
Edge y = AtMost y edge

-- y is not past the rectangle's edge Y0 by more than 2 / 256
abbrev pub Good : ℕ → ℕ → Float → Type 0
Good d Y0 y = P d y ≤ Y0 + N d y + E d * 2

-- b is no better than y: if it is a candidate and good, it is not past y
abbrev pub Under : ℕ → ℕ → Float → Float → Float → Type 0
Under d Y0 h y b = T (within_of b h) → Good d Y0 b → Le d b y

-- the place 0 is a candidate
pub zero_within : (h : Float) → T (le k0 h) → T (within_of k0 h)
unfolding within_of le of_bits
zero_within h t = t

module _ (d : ℕ) {h : Float} (hm : AtMost h max_area) where
  pub within_low : {y : Float} → Edge y → T (within_of y h) → Le d k0 y
  unfolding within_of
  within_low {y} f t = le_law d k0 y zero_most.whole f.whole (and_l (le k0 y) (le y h) t)

  pub within_high : {y : Float} → Edge y → T (within_of y h) → Le d y h
  unfolding within_of
  within_high {y} f t = le_law d y h f.whole hm.whole (and_r (le k0 y) (le y h) t)

module _ (d : ℕ) (D : 0 < d) {h : Float} (hm : AtMost h max_area) (Y0 : ℕ) where
  -- an obstacle's far edge b that is good and not passed over at y lies past the area's end
  pub escape : {y b : Float} → Edge y → Edge b → Le d k0 y → Good d Y0 b → Under d Y0 h y b → T (not (le b (y ⊕ k0_01))) → Le d h b
  unfolding within_of
  escape {y} {b} ym bm low g u n = go (le k0 b) (le b h) (le_not d k0 b zero_most.whole bm.whole) (le_not d b h bm.whole hm.whole) (λ t. u t g)
    where
      never : Le d b y → ⊥
      never k =
          let past = le_not d b (y ⊕ k0_01) bm.whole (add_most ym hundredth_most tt).whole n in
          omega (arith, add_law d ym hundredth_most tt, hundredth d, E_pos d D)

      go : (s t : Bool) → (T (not s) → Le d b k0) → (T (not t) → Le d h b) → (T (s && t) → Le d b y) → Le d h b
      go true true k l m = absurd (never (m tt))
      go false t k l m = absurd (never (let v = k tt in omega arith))
      go true false k l m = l tt

  -- of y and the candidates ys, the last good one: R holds of it, and no good one is past it
  pub record Last (R : Float → Type 0) (ys : List Float) (y : Float) : Type 0 where
    pub last : Float
    pub most : Edge last
    pub within : T (within_of last h)
    pub good : Good d Y0 last
    pub holds : R last
    pub past : Le d y last
    pub others : Each (Under d Y0 h last) ys

  pub find_last : (R : Float → Type 0) (ys : List Float) (y : Float) → Each Edge ys → Each (λ b. T (within_of b h) → R b) ys → Edge y → T (within_of y h) → Good d Y0 y → R y → Last R ys y
  find_last R [] y e r f t g k = record { last = y; most = f; within = t; good = g; holds = k; past = le_refl (P d y + N d y); others = tt }
  find_last R (x ∷ xs) y e r f t g k =
      go (within_of x h && (leb (P d x) (Y0 + N d x + E d * 2) && le y x)) yes no (find_last R xs y e.1 r.1 f t g k) (find_last R xs x e.1 r.1 e.0)
    where
      yes : T (within_of x h && (leb (P d x) (Y0 + N d x + E d * 2) && le y x)) → T (within_of x h) × Good d Y0 x × Le d y x
      yes s =
          let k = and_three (within_of x h) (leb (P d x) (Y0 + N d x + E d * 2)) (le y x) s in
          (k.0, leb→le (P d x) (Y0 + N d x + E d * 2) k.1, le_law d y x f.whole e.0.whole k.2)

      no : T (not (within_of x h && (leb (P d x) (Y0 + N d x + E d * 2) && le y x))) → T (within_of x h) → Good d Y0 x → Le d x y
      no s v b = le_not d y x f.whole e.0.whole (last_fails (within_of x h) (leb (P d x) (Y0 + N d x + E d * 2)) (le y x) s v (le→leb (P d x) (Y0 + N d x + E d * 2) b))

      go : (s : Bool) → (T s → T (within_of x h) × Good d Y0 x × Le d y x) → (T (not s) → T (within_of x h) → Good d Y0 x → Le d x y)
          → Last R xs y → (T (within_of x h) → Good d Y0 x → R x → Last R xs x) → Last R (x ∷ xs) y
      go true u n old new =
          let c = u tt in
          let m = new c.0 c.1 (r.0 c.0) in
          record { last = m.last; most = m.most; within = m.within; good = m.good; holds = m.holds; past = omega (arith, c.2, m.past); others = (λ v b. m.past, m.others) }
      go false u n old new =
          record { last = old.last; most = old.most; within = old.within; good = old.good; holds = old.holds; past = old.past; others = (λ v b. omega (arith, n tt v b, old.past), old.others) }
