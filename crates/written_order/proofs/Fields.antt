-- A field that stands at the front is read, and the fields after it; one that is left out is none.
use mathlib.Core.Path.{◌≡◌, refl, ◌∙◌}
use mathlib.Core.Bool.{Bool, true, false, ◌||◌}
use mathlib.Core.List.{List, [], ◌++◌}
use Prim.Native.Nat.{ℕ, zero, suc, ◌+◌, ◌<◌, ◌≤◌}
use native.Mathlib.Omega.{arith}
use borrow.Author.Tests.{lt-ltb, le-leb}
use lib.Dec.{eqb, leb}
use lib.ListN.{length, length-append}
use lib.Seq.{take_at, drop_at}
use Rattle.prelude.specs.Answer.{Answer, accepted, must, and_then}
use Rattle.settings.specs.declared.Settings.{Settings}
use Rattle.wire.specs.Wire.{short_bytes, head_bytes, field_bytes}
use Rattle.wire.proofs.ReadBack.{short_back}
use Rattle.reader.specs.Order.{from_byte_of, read_field_of, fields}
use Rattle.fields.specs.Fields.{field_unless}
use Rattle.order_writer.proofs.FromNumbers.{tested_then}

-- a test that passes
pub passed : {A : Type 0} (test : Bool) (n : ℕ) (a : Answer A) → test ≡ true → must test n a ≡ a
unfolding must
passed test n a e = rw e

-- ---- a field in its turn
module _ (turns last : ℕ) (screen : Bool) (s : Settings) (tag : ℕ) (v rest : List ℕ) (above : last < tag) (small : tag ≤ 7) where
  one_field : fields (suc turns) last screen s (field_bytes tag v ++ rest) ≡ and_then (read_field_of (from_byte_of tag) v s) (λ t. fields turns tag (screen || eqb tag 1) t rest)
  unfolding fields head_bytes short_bytes must
  one_field =
      let fit : leb (length v) (length (v ++ rest)) ≡ true = le-leb (length v) (length (v ++ rest)) (rw (length-append v rest) (omega arith)) in
      rw (short_back (length v), lt-ltb last tag above, le-leb tag 7 small, fit, take_at v rest (length v) refl, drop_at v rest (length v) refl)

  -- with what its value gives
  pub field_gives : {a : Answer Settings} → read_field_of (from_byte_of tag) v s ≡ a
      → fields (suc turns) last screen s (field_bytes tag v ++ rest) ≡ and_then a (λ t. fields turns tag (screen || eqb tag 1) t rest)
  field_gives e = rw (← e) one_field

  -- with one test
  pub field_tested : (test : Bool) (n : ℕ) (t : Settings) → read_field_of (from_byte_of tag) v s ≡ must test n (accepted t)
      → fields (suc turns) last screen s (field_bytes tag v ++ rest) ≡ must test n (fields turns tag (screen || eqb tag 1) t rest)
  field_tested test n t e = field_gives e ∙ tested_then test n (accepted t) _

-- ---- the fields from a tag on

-- From settings s, the bytes of fields with tags from k on give t, in as many turns as tags are left.
abbrev pub Ends : ℕ → Settings → Settings → List ℕ → Type 0
Ends k s t bytes = (turns last : ℕ) → last < k → 9 ≤ turns + k → fields turns last true s bytes ≡ accepted t

pub ends : (t : Settings) → Ends 8 t t []
unfolding fields must
ends t zero last h i = absurd (let z : ⊥ = omega arith in z)
ends t (suc turns) last h i = refl

-- a field, or none where the settings are as it would make them
pub ends_field : (k : ℕ) (absent : Bool) (v rest : List ℕ) {s next t : Settings} → k ≤ 7
    → (absent ≡ true → next ≡ s) → read_field_of (from_byte_of k) v s ≡ accepted next
    → Ends (suc k) next t rest → Ends k s t (field_unless absent k v ++ rest)
ends_field k true v rest h same reads on turns last i j = rw (← same refl) (on turns last (omega arith) (omega arith))
ends_field k false v rest h same reads on zero last i j = absurd (let z : ⊥ = omega arith in z)
ends_field k false v rest h same reads on (suc turns) last i j = field_gives turns last true _ k v rest i h reads ∙ on turns k (omega arith) (omega arith)
