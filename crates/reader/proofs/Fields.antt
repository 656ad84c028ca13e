-- A turn of the loop over fields: what is left of the bytes, and what it gives.
use mathlib.Core.Path.{◌≡◌, refl, sym, ◌∙◌}
use mathlib.Core.Bool.{Bool, true, false, cond, ◌||◌}
use mathlib.Core.List.{List, [], ◌∷◌}
use Prim.Native.Nat.{ℕ, suc, ◌+◌, ◌-◌, ◌<◌, ◌≤◌}
use native.Mathlib.Omega.{arith}
use borrow.Author.Tests.{leb-true, lt-ltb, le-ltb, le-leb, lt-leb}
use denote.Enum.Bare.{sameb}
use lib.Dec.{eqb, ltb, leb}
use lib.ListN.{length, get_or, take, drop, length-drop}
use lib.Seq.{take_all}
use Rattle.prelude.specs.Answer.{Answer, accepted, refused, must, and_then}
use Rattle.prelude.proofs.AnswerLaws.{must_met}
use Rattle.prelude.proofs.Booleans.{both}
use Rattle.std.specs.List.{IsSplitAt}
use Rattle.settings.specs.declared.Settings.{Settings}
use Rattle.settings.specs.Settings.{absent_of}
use Rattle.wire.specs.Wire.{short_of}
use Rattle.reader.specs.contracts.Tag.{the_type}
use Rattle.reader.specs.declared.Tag.{Tag}
use Rattle.reader.specs.Order.{from_byte_of, tag_of, read_field_of, fields, read_order_of}

-- what is left of the bytes gives the order's answer, in one turn and as many more as tags may follow
pub record Left (bytes rest : List ℕ) (last : ℕ) (screen : Bool) (s : Settings) : Type 0 where
  pub more : ℕ
  pub enough : 6 < more + last
  pub gives : fields (suc more) last screen s rest ≡ read_order_of bytes

pub at_start : (bytes : List ℕ) {s : Settings} → s ≡ absent_of → Left bytes bytes 0 false s
unfolding read_order_of
at_start bytes e = record { more = 7; enough = omega arith; gives = rw e }

-- ---- one turn
then_must : {A B : Type 0} (test : Bool) (k : ℕ) (x : A) (f : A → Answer B) → and_then (must test k (accepted x)) f ≡ must test k (f x)
unfolding must
then_must true k x f = refl
then_must false k x f = refl

module _ (more last : ℕ) (screen : Bool) (s : Settings) where
  no_header : (l : List ℕ) → 0 < length l → length l < 3 → fields (suc more) last screen s l ≡ refused 1
  unfolding fields
  no_header [] h i = absurd (let z : ⊥ = omega arith in z)
  no_header (a ∷ []) h i = refl
  no_header (a ∷ b ∷ []) h i = refl
  no_header (a ∷ b ∷ c ∷ l) h i = absurd (let z : ⊥ = omega arith in z)

  not_above : (l : List ℕ) → 3 ≤ length l → get_or l 0 0 ≤ last → fields (suc more) last screen s l ≡ refused 2
  unfolding fields must
  not_above [] h i = absurd (let z : ⊥ = omega arith in z)
  not_above (a ∷ []) h i = absurd (let z : ⊥ = omega arith in z)
  not_above (a ∷ b ∷ []) h i = absurd (let z : ⊥ = omega arith in z)
  not_above (a ∷ b ∷ c ∷ l) h i = rw (le-ltb last a i)

  -- of the bytes behind a header
  abbrev reads : List ℕ → List ℕ → Answer Settings
  reads l body =
      let tag = get_or l 0 0 in
      let n = short_of (get_or l 1 0) (get_or l 2 0) in
      and_then (tag_of tag) (λ t. must (leb n (length body)) 1 (and_then (read_field_of t (take n body) s) (λ u. fields more tag (screen || eqb tag 1) u (drop n body))))

  above : (l : List ℕ) → 3 ≤ length l → last < get_or l 0 0 → fields (suc more) last screen s l ≡ reads l (drop 3 l)
  unfolding fields tag_of
  above [] h i = absurd (let z : ⊥ = omega arith in z)
  above (a ∷ []) h i = absurd (let z : ⊥ = omega arith in z)
  above (a ∷ b ∷ []) h i = absurd (let z : ⊥ = omega arith in z)
  above (a ∷ b ∷ c ∷ l) h i = rw (lt-ltb last a i, lt-ltb 0 a (omega arith)) (sym (then_must (leb a 7) 2 (from_byte_of a) _))

-- ---- the tag of a screen
first : (a b c d e f : Bool)
    → sameb the_type (cond a Tag.Screen (cond b Tag.Picture (cond c Tag.Mode (cond d Tag.Fit (cond e Tag.Place (cond f Tag.Cutouts Tag.Saved)))))) Tag.Screen ≡ a
first true b c d e f = refl
first false true c d e f = refl
first false false true d e f = refl
first false false false true e f = refl
first false false false false true f = refl
first false false false false false true = refl
first false false false false false false = refl

known : (tag : ℕ) {t : Tag} → accepted t ≡ tag_of tag → (tag ≤ 7) × (sameb the_type t Tag.Screen ≡ eqb tag 1)
unfolding tag_of from_byte_of
known tag {t} e =
    let met = must_met _ _ _ (sym e) in
    let is : t ≡ from_byte_of tag = cc in
    (leb-true tag 7 (both (ltb 0 tag) (leb tag 7) met.0).1, rw is (first (eqb tag 1) (eqb tag 2) (eqb tag 3) (eqb tag 4) (eqb tag 5) (eqb tag 6)))

-- ---- what a turn ends in, or goes on with
module _ {bytes l : List ℕ} {last : ℕ} {screen : Bool} {s : Settings} (left : Left bytes l last screen s) where
  pub at_end : length l ≡ 0 → must screen 4 (accepted s) ≡ read_order_of bytes
  unfolding fields
  at_end h = let none : l ≡ [] = grind arith in rw none at left.gives

  pub cut_header : 0 < length l → length l < 3 → refused 1 ≡ read_order_of bytes
  cut_header h i = sym (no_header left.more last screen s l h i) ∙ left.gives

  module _ (header : 3 ≤ length l) where
    abbrev tag : ℕ
    tag = get_or l 0 0

    abbrev body : List ℕ
    body = take (length l - 3) (drop 3 l)

    pub old_tag : tag ≤ last → refused 2 ≡ read_order_of bytes
    old_tag h = sym (not_above left.more last screen s l header h) ∙ left.gives

    module _ (rises : last < tag) where
      turn : reads left.more last screen s l body ≡ read_order_of bytes
      turn = rw (take_all (length l - 3) (drop 3 l) (simp length-drop (omega arith))) (sym (above left.more last screen s l header rises) ∙ left.gives)

      pub no_tag : {k : ℕ} → refused k ≡ tag_of tag → refused k ≡ read_order_of bytes
      no_tag e = rw (← e) at turn

      module _ {t : Tag} (is : accepted t ≡ tag_of tag) {n : ℕ} (short : n ≡ short_of (get_or l 1 0) (get_or l 2 0)) where
        pub cut_value : length body < n → refused 1 ≡ read_order_of bytes
        unfolding must
        cut_value h = rw (← is, ← short, lt-leb n (length body) h) at turn

        module _ {value after : List ℕ} (split : IsSplitAt body n value after) where
          read : and_then (read_field_of t value s) (λ u. fields left.more tag (screen || eqb tag 1) u after) ≡ read_order_of bytes
          unfolding must
          read = rw (← is, ← short, le-leb n (length body) split.0, ← split.1, ← split.2) at turn

          pub bad_value : {k : ℕ} → refused k ≡ read_field_of t value s → refused k ≡ read_order_of bytes
          bad_value e = rw (← e) at read

          pub next_field : {u : Settings} → accepted u ≡ read_field_of t value s → Left bytes after tag (screen || sameb the_type t Tag.Screen) u
          next_field e =
              let k = known tag is in
              let one : suc (left.more - 1) ≡ left.more = omega arith in
              record { more = left.more - 1; enough = omega arith; gives = rw (one, k.1) (rw (← e) at read) }
