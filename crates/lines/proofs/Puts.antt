-- Texts put one after the other, and what they leave of the array.
use mathlib.Core.Path.{◌≡◌, refl, ap, ap₂, sym, ◌∙◌}
use mathlib.Core.List.{List, [], ◌∷◌, ◌++◌}
use Prim.Native.Nat.{ℕ, ◌+◌, ◌/◌, ◌%◌, ◌<◌, ◌≤◌}
use native.Mathlib.Nat.{add-zero}
use native.Mathlib.Omega.{arith}
use lib.ListN.{length, set, length-append}
use Rattle.prelude.specs.Lists.{stored}
use Rattle.prelude.proofs.Stores.{then_on, length_stored}
use Rattle.lines.specs.Line.{put_of, digits_of}
use Rattle.lines.proofs.LineLaws.{digits_few, digits_more}

pub none : (l : List ℕ) (at : ℕ) → (l, at) ≡ put_of l at []
unfolding put_of stored
none l at = rw add-zero

pub one : (l : List ℕ) (at b : ℕ) → (set l at b, at + 1) ≡ put_of l at (b ∷ [])
unfolding put_of stored
one l at b = refl

-- where a text ends, and that the array keeps its length: both are rules for `omega`
pub put_ends : (l t : List ℕ) (at : ℕ) {m : List ℕ} {i : ℕ} → (m, i) ≡ put_of l at t → i ≡ at + length t
unfolding put_of
put_ends l t at p = ap (λ (s : List ℕ × ℕ). s.1) p

pub put_length : (l t : List ℕ) (at : ℕ) {m : List ℕ} {i : ℕ} → (m, i) ≡ put_of l at t → length m ≡ length l
unfolding put_of
put_length l t at p = ap (λ (s : List ℕ × ℕ). length s.0) p ∙ length_stored l at t

-- a text, and a text from where it ended
pub onward : (l us vs : List ℕ) (at : ℕ) {m : List ℕ} {i : ℕ} → (m, i) ≡ put_of l at us → put_of l at (us ++ vs) ≡ put_of m i vs
unfolding put_of
onward l us vs at p =
    let e = put_ends l us at p in
    ap₂ (λ (b : List ℕ) (k : ℕ). (b, k)) (then_on l at _ us vs (ap (λ (s : List ℕ × ℕ). s.0) p) (sym e)) (omega (arith, length-append us vs))

pub put_after : (l us vs : List ℕ) (at : ℕ) {m n : List ℕ} {i j : ℕ} → (m, i) ≡ put_of l at us → (n, j) ≡ put_of m i vs → (n, j) ≡ put_of l at (us ++ vs)
put_after l us vs at p q = q ∙ sym (onward l us vs at p)

-- ---- digits
pub digit : (l : List ℕ) (at n : ℕ) → n < 10 → (set l at (48 + n), at + 1) ≡ put_of l at (digits_of n)
digit l at n h = rw (digits_few n h) (one l at (48 + n))

pub digit_after : (l : List ℕ) (at n : ℕ) {m : List ℕ} {i : ℕ} → 10 ≤ n → (m, i) ≡ put_of l at (digits_of (n / 10)) → (set m i (48 + n % 10), i + 1) ≡ put_of l at (digits_of n)
digit_after l at n {m} {i} h p = rw (digits_more n h) (put_after _ _ _ _ p (one m i (48 + n % 10)))
