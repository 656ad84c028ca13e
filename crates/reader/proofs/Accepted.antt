-- An accepted order gives settings in document 01's limits, and each number is a value of binary32; a refused one has a number from 1 to 7.
use mathlib.Core.Path.{◌≡◌, refl}
use mathlib.Core.Bool.{Bool, true, false, ◌&&◌, ◌||◌}
use mathlib.Core.List.{List, [], ◌∷◌}
use Prim.Native.Nat.{ℕ, zero, suc, ◌/◌, ◌<◌, ◌≤◌}
use borrow.Author.Tests.{ltb-true, leb-true}
use lib.Dec.{T, eqb, ltb, leb}
use lib.Ieee.{Float, binary32, of_bits, fits, lt, le, eq, ne, neg}
use lib.Ieee.Bits.{is_true}
use lib.ListN.{length, take, drop}
use Rattle.prelude.specs.Answer.{Answer, accepted, refused, must, and_then}
use Rattle.prelude.proofs.Booleans.{either, both}
use Rattle.std.specs.List.{list_all}
use Rattle.float.specs.Float.{k0, k1}
use Rattle.float.specs.MinMax.{max_of}
use Rattle.geometry.specs.declared.Rect.{Rect}
use Rattle.geometry.specs.Rect.{new_of, rect_is_f32}
use Rattle.geometry.specs.declared.Offset.{Offset}
use Rattle.layout.specs.declared.Cutouts.{Cutouts}
use Rattle.layout.specs.Layout.{cutout_list}
use Rattle.settings.specs.declared.Settings.{Settings}
use Rattle.settings.specs.Settings.{default_of, absent_of, least, in_limits_of, screen_in_limits_of, rect_in_limits_of, place_in_limits_of, cutouts_in_limits_of, accepted_of, IsF32}
use Rattle.settings.proofs.Accepted.{parts_accepted}
use Rattle.wire.specs.Wire.{short_of, number_at_of, rect_at_of, filled}
use Rattle.wire.proofs.Rects.{bits_f32, number_f32, rect_f32, filled_f32}
use Rattle.reader.specs.declared.Tag.{Tag}
use Rattle.reader.specs.Order.{read_screen_of, read_picture_of, read_mode_of, read_fit_of, read_place_of, read_cutouts_of, read_saved_of, from_byte_of, read_field_of, fields, read_order_of}

-- ---- a property of the value that an answer accepts, while a refusal has one of the reader's numbers
abbrev of_reader : ℕ → Bool
of_reader n = ltb 0 n && leb n 7

module _ {A : Type 0} (P : A → Type 0) where
  unfoldable Holds : Answer A → Type 0
  Holds (accepted x) = P x
  Holds (refused n) = T (of_reader n)

  holds : (x : A) → P x → Holds (accepted x)
  unfolding Holds
  holds x p = p

  refusal_holds : (n : ℕ) → T (of_reader n) → Holds (refused n)
  unfolding Holds
  refusal_holds n t = t

  holds_must : (test : Bool) (n : ℕ) → T (of_reader n) → (a : Answer A) → (test ≡ true → Holds a) → Holds (must test n a)
  unfolding must
  holds_must true n t a h = h refl
  holds_must false n t a h = refusal_holds n t

  holds_then : (a : Answer A) (f : A → Answer A) → Holds a → ((x : A) → P x → Holds (f x)) → Holds (and_then a f)
  unfolding Holds
  holds_then (accepted x) f p h = h x p
  holds_then (refused n) f p h = p

  holds_of : {a : Answer A} {x : A} → Holds a → a ≡ accepted x → P x
  unfolding Holds
  holds_of h e = rw e at h

  number_of : {a : Answer A} {n : ℕ} → Holds a → a ≡ refused n → T (of_reader n)
  unfolding Holds
  number_of h e = rw e at h

-- what holds of the settings of absent fields, and after each field that is read, holds of the order's
module _ (P : Settings → Type 0) (each : (tag : Tag) (v : List ℕ) (s : Settings) → P s → Holds P (read_field_of tag v s)) where
  fields_hold : (turns last : ℕ) (screen : Bool) (s : Settings) (bytes : List ℕ) → P s → Holds P (fields turns last screen s bytes)
  unfolding fields
  fields_hold zero last screen s bytes p = refusal_holds P 2 tt
  fields_hold (suc turns) last screen s [] p = holds_must P screen 4 tt _ (λ _. holds P s p)
  fields_hold (suc turns) last screen s (a ∷ []) p = refusal_holds P 1 tt
  fields_hold (suc turns) last screen s (a ∷ b ∷ []) p = refusal_holds P 1 tt
  fields_hold (suc turns) last screen s (tag ∷ high ∷ low ∷ rest) p =
      let n = short_of high low in
      holds_must P (ltb last tag && leb tag 7) 2 tt _ (λ _.
      holds_must P (leb n (length rest)) 1 tt _ (λ _.
      holds_then P (read_field_of (from_byte_of tag) (take n rest) s) _ (each (from_byte_of tag) (take n rest) s p)
      (λ t q. fields_hold turns tag (screen || eqb tag 1) t (drop n rest) q)))

  order_holds : P absent_of → (bytes : List ℕ) → Holds P (read_order_of bytes)
  unfolding read_order_of
  order_holds p bytes = fields_hold 8 0 false absent_of bytes p

-- ---- a property of each part of the settings
record Parts (Screen : Float → Float → Type 0) (Picture : Rect → Type 0) (Place : Float → Offset → Type 0) (Cut : Cutouts → Type 0) (Saved : List Rect → ℕ → Type 0) (s : Settings) : Type 0 where
  screen : Screen s.w s.h
  picture : Picture s.picture
  place : Place s.preset.scale s.preset.offset
  cutouts : Cut s.cutouts
  saved : Saved s.preset.elements s.preset.count

-- the numbers of a value for tags 1 and 5
abbrev wide : List ℕ → Float
wide v = number_at_of v 0

abbrev high : List ℕ → Float
high v = number_at_of v 1

abbrev offset_at : List ℕ → Offset
offset_at v = record { x = number_at_of v 1; y = number_at_of v 2 }

abbrev cutouts_at : List ℕ → ℕ → Cutouts
cutouts_at v n = record { at = filled 16 v n; count = n }

-- what holds of the parts of absent fields, and of each value's where its tests are met, holds of the order's
module _ (Screen : Float → Float → Type 0) (Picture : Rect → Type 0) (Place : Float → Offset → Type 0) (Cut : Cutouts → Type 0) (Saved : List Rect → ℕ → Type 0)
    (start : Parts Screen Picture Place Cut Saved absent_of)
    (on-screen : (v : List ℕ) → screen_in_limits_of (wide v) (high v) ≡ true → Screen (wide v) (high v) × Picture (new_of k0 k0 (max_of (wide v) k1) (max_of (high v) k1)))
    (on-picture : (v : List ℕ) → rect_in_limits_of k0 (rect_at_of v 0) ≡ true → Picture (rect_at_of v 0))
    (on-place : (v : List ℕ) → place_in_limits_of (number_at_of v 0) (offset_at v) ≡ true → Place (number_at_of v 0) (offset_at v))
    (on-cutouts : (v : List ℕ) (n : ℕ) → leb n 16 ≡ true → cutouts_in_limits_of (cutouts_at v n) ≡ true → Cut (cutouts_at v n))
    (on-saved : (v : List ℕ) (n : ℕ) → leb n 32 ≡ true → Saved (filled 32 v n) n) where
  abbrev P : Settings → Type 0
  P = Parts Screen Picture Place Cut Saved

  each : (tag : Tag) (v : List ℕ) (s : Settings) → P s → Holds P (read_field_of tag v s)
  unfolding read_field_of read_screen_of read_picture_of read_mode_of read_fit_of read_place_of read_cutouts_of read_saved_of
  each Tag.Screen v s p =
      holds_must P _ 3 tt _ (λ _. holds_must P _ 6 tt _ (λ e. let q = on-screen v e in
      holds P _ (record { screen = q.0; picture = q.1; place = p.place; cutouts = p.cutouts; saved = p.saved })))
  each Tag.Picture v s p =
      holds_must P _ 3 tt _ (λ _. holds_must P _ 6 tt _ (λ e.
      holds P _ (record { screen = p.screen; picture = on-picture v e; place = p.place; cutouts = p.cutouts; saved = p.saved })))
  each Tag.Mode v s p =
      holds_must P _ 3 tt _ (λ _. holds_must P _ 5 tt _ (λ _.
      holds P _ (record { screen = p.screen; picture = p.picture; place = p.place; cutouts = p.cutouts; saved = p.saved })))
  each Tag.Fit v s p =
      holds_must P _ 3 tt _ (λ _. holds_must P _ 5 tt _ (λ _.
      holds P _ (record { screen = p.screen; picture = p.picture; place = p.place; cutouts = p.cutouts; saved = p.saved })))
  each Tag.Place v s p =
      holds_must P _ 3 tt _ (λ _. holds_must P _ 6 tt _ (λ e.
      holds P _ (record { screen = p.screen; picture = p.picture; place = on-place v e; cutouts = p.cutouts; saved = p.saved })))
  each Tag.Cutouts v s p =
      holds_must P _ 3 tt _ (λ _. holds_must P _ 7 tt _ (λ few. holds_must P _ 6 tt _ (λ e.
      holds P _ (record { screen = p.screen; picture = p.picture; place = p.place; cutouts = on-cutouts v (length v / 16) few e; saved = p.saved }))))
  each Tag.Saved v s p =
      holds_must P _ 3 tt _ (λ _. holds_must P _ 7 tt _ (λ few.
      holds P _ (record { screen = p.screen; picture = p.picture; place = p.place; cutouts = p.cutouts; saved = on-saved v (length v / 16) few })))

  parts : (bytes : List ℕ) → Holds P (read_order_of bytes)
  parts bytes = order_holds P each start bytes

-- ---- limits
zero_in_limits : in_limits_of least k0 ≡ true
unfolding in_limits_of le lt eq neg of_bits
zero_in_limits = refl

one_in_limits : in_limits_of k0 k1 ≡ true
unfolding in_limits_of le lt eq of_bits
one_in_limits = refl

raised : (test : Float → Bool) (x : Float) → test k1 ≡ true → test x ≡ true → test (max_of x k1) ≡ true
unfolding max_of
raised test x one e = either (λ y. test y ≡ true) (ne x x) one (either (λ y. test y ≡ true) (lt x k1) one e)

default_picture : (w h : Float) → screen_in_limits_of w h ≡ true → rect_in_limits_of k0 (new_of k0 k0 (max_of w k1) (max_of h k1)) ≡ true
unfolding screen_in_limits_of rect_in_limits_of
default_picture w h e = let b = both _ _ e in rw (zero_in_limits, raised (in_limits_of k0) w one_in_limits b.0, raised (in_limits_of k0) h one_in_limits b.1)

abbrev InLimits : Settings → Type 0
InLimits = Parts (λ w h. screen_in_limits_of w h ≡ true) (λ r. rect_in_limits_of k0 r ≡ true) (λ scale offset. place_in_limits_of scale offset ≡ true)
    (λ c. (leb c.count 16 ≡ true) × (cutouts_in_limits_of c ≡ true)) (λ l n. leb n 32 ≡ true)

absent_limits : InLimits absent_of
unfolding absent_of default_of screen_in_limits_of rect_in_limits_of place_in_limits_of cutouts_in_limits_of in_limits_of le lt eq neg of_bits
absent_limits = record { screen = refl; picture = refl; place = refl; cutouts = (refl, refl); saved = refl }

limits : (bytes : List ℕ) → Holds InLimits (read_order_of bytes)
limits bytes =
    parts _ _ _ _ _ absent_limits (λ v e. (e, default_picture (wide v) (high v) e)) (λ v e. e) (λ v e. e) (λ v n few e. (few, e)) (λ v n few. few) bytes

pub accepted_order : (bytes : List ℕ) {s : Settings} → read_order_of bytes ≡ accepted s → accepted_of s ≡ true
accepted_order bytes {s} e =
    let q = holds_of InLimits (limits bytes) e in
    parts_accepted s (record { screen = q.screen; picture = q.picture; place = q.place; few_cutouts = q.cutouts.0; cutouts = q.cutouts.1; few_saved = q.saved })

pub refused_order : (bytes : List ℕ) {n : ℕ} → read_order_of bytes ≡ refused n → (0 < n) × (n ≤ 7)
refused_order bytes {n} e =
    let b = both (ltb 0 n) (leb n 7) (is_true _ (number_of InLimits (limits bytes) e)) in
    (ltb-true 0 n b.0, leb-true n 7 b.1)

-- ---- values of binary32
default_f32 : (w h : Float) → fits binary32 w ≡ true → fits binary32 h ≡ true → rect_is_f32 (new_of k0 k0 (max_of w k1) (max_of h k1)) ≡ true
unfolding rect_is_f32
default_f32 w h p q = let one = bits_f32 0x3f80_0000 in rw (bits_f32 0, raised (fits binary32) w one p, raised (fits binary32) h one q)

abbrev InF32 : Settings → Type 0
InF32 = Parts (λ w h. (fits binary32 w ≡ true) × (fits binary32 h ≡ true)) (λ r. rect_is_f32 r ≡ true)
    (λ scale offset. (fits binary32 scale ≡ true) × (fits binary32 offset.x ≡ true) × (fits binary32 offset.y ≡ true))
    (λ c. list_all rect_is_f32 (cutout_list c) ≡ true) (λ l n. list_all rect_is_f32 (take n l) ≡ true)

absent_f32 : InF32 absent_of
unfolding absent_of default_of rect_is_f32 fits of_bits
absent_f32 = record { screen = (refl, refl); picture = refl; place = (refl, refl, refl); cutouts = refl; saved = refl }

pub order_f32 : (bytes : List ℕ) {s : Settings} → read_order_of bytes ≡ accepted s → IsF32 s
order_f32 bytes e =
    let q = holds_of InF32
    (parts _ _ _ _ _ absent_f32 (λ v _. ((number_f32 v 0, number_f32 v 1), default_f32 (wide v) (high v) (number_f32 v 0) (number_f32 v 1))) (λ v _. rect_f32 v 0)
    (λ v _. (number_f32 v 0, number_f32 v 1, number_f32 v 2)) (λ v n _ _. filled_f32 16 v n) (λ v n _. filled_f32 32 v n) bytes) e in
    record { w = q.screen.0; h = q.screen.1; picture = q.picture; scale = q.place.0; across = q.place.1; down = q.place.2; cutouts = q.cutouts; saved = q.saved }
