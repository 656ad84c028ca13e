-- A text that was put at the start of 1,024 zeros is a page.
use mathlib.Core.Path.{◌≡◌, ap, ◌∙◌}
use mathlib.Core.List.{List}
use Prim.Native.Nat.{ℕ, ◌≤◌}
use native.Mathlib.Nat.{zero-add}
use native.Mathlib.Omega.{arith}
use lib.ListN.{length, length-replicate}
use Rattle.std.proofs.lemmas.List.{drop-replicate}
use Rattle.prelude.proofs.Stores.{stored_all}
use Rattle.lines.specs.Line.{put_of}
use Rattle.sheet.specs.Sheet.{zeros, page_of}

pub page_is : (t : List ℕ) {out : List ℕ} {len : ℕ} → (out, len) ≡ put_of (zeros 1024) 0 t → length t ≤ 1024 → record { bytes = out; len = len } ≡ page_of t
unfolding put_of
page_is t p h =
    let k : length (zeros 1024) ≡ 1024 = length-replicate {A = ℕ} 1024 0 in
    ap (λ (s : List ℕ × ℕ). record { bytes = s.0; len = s.1 }) p ∙ rw (stored_all (zeros 1024) t (omega arith), drop-replicate, zero-add)
