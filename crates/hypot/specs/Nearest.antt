-- What "nearest, ties to even" means, apart from how it is computed, and the claims that the definition is that.
use Rattle.std.specs.Prelude.{◌≡◌, false, ℕ, ◌+◌, ◌*◌, ◌%◌, ◌^◌, ◌≤◌, ◌<◌, T, Float}
use Rattle.std.specs.Float.{binary32}
use Rattle.std.specs.Float.Ieee.{fits, of_bits}
use Rattle.std.specs.Float.Ieee.Exact.{HasValue}
use Rattle.hypot.specs.Hypot.{nearest_root, hypot_of}
use Rattle.hypot.specs.Pattern.{unsigned_pattern_of, pattern_value, f32_at}

-- Four times the square of the midpoint of two values.
abbrev pub mid : ℕ → ℕ → ℕ
mid p r = (pattern_value p + pattern_value r) * (pattern_value p + pattern_value r)

-- No value is nearer to the root of n than that of r, and r is even if another one is as near. Of two values the one on the root's side of their
-- midpoint is the nearer. All patterns p count: as IEEE 754 has it, the result is the one that exponents without a limit would give,
-- and infinite if that is 2 ^ 128 or more.
pub record Nearest (n r : ℕ) : Type 0 where
  pub below : (p : ℕ) → pattern_value p < pattern_value r → mid p r ≤ 4 * n
  pub above : (p : ℕ) → pattern_value r < pattern_value p → 4 * n ≤ mid p r
  pub tie : (p : ℕ) → (pattern_value p ≡ pattern_value r → ⊥) → mid p r ≡ 4 * n → r % 2 ≡ 0

-- ---- the claims, proved in proofs/

-- One pattern r is nearest the root of n, no other is, and `nearest_root n` is its f32. (`root_is_nearest`)
pub record RootIsNearest (n : ℕ) : Type 0 where
  pub r : ℕ
  pub is : Nearest n r
  pub only : (s : ℕ) → Nearest n s → s ≡ r
  pub root : nearest_root n ≡ f32_at r

-- The finite f32 with the pattern p is `pattern_value p` units of 2 ^ -149. (`pattern_value_is`)
abbrev pub PatternValueIs : ℕ → Type 0
PatternValueIs p = p < 0x7f80_0000 → HasValue (of_bits binary32 p) false (pattern_value p) (2 ^ 149)

-- Of two finite f32, `hypot_of` is the root of the sum of the squares of their values. (`hypot_is_root`)
abbrev pub HypotIsRoot : Float → Float → Type 0
HypotIsRoot a b = T (fits binary32 a) → T (fits binary32 b) → unsigned_pattern_of a < 0x7f80_0000 → unsigned_pattern_of b < 0x7f80_0000
    → hypot_of a b ≡ nearest_root (pattern_value (unsigned_pattern_of a) * pattern_value (unsigned_pattern_of a) + pattern_value (unsigned_pattern_of b) * pattern_value (unsigned_pattern_of b))
