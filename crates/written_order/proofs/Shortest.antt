-- How long orders are that are written: 827 bytes at most, and no longer than other bytes that give the same settings.
use mathlib.Core.Path.{◌≡◌, refl, sym}
use mathlib.Core.Bool.{Bool, true, false, not, ◌&&◌, ◌||◌, cond, or_comm}
use mathlib.Core.List.{List, [], ◌∷◌, ◌++◌, flat_map}
use Prim.Native.Nat.{ℕ, zero, suc, ◌+◌, ◌*◌, ◌/◌, ◌%◌, ◌≤◌, zero-le}
use native.Mathlib.Nat.{min-le_left}
use native.Mathlib.Omega.{arith}
use borrow.Author.Tests.{eqb-true, leb-true}
use lib.Dec.{T, eqb, ltb, leb}
use lib.Ieee.{Float, of_bits, lt, eq, ne}
use lib.ListN.{length, get_or, take, drop, length-append, length-take, length-drop}
use lib.Seq.{length-take-le}
use Rattle.prelude.specs.Answer.{Answer, accepted, refused, must, and_then}
use Rattle.prelude.specs.Lists.{is_empty}
use Rattle.prelude.proofs.AnswerLaws.{never}
use Rattle.prelude.proofs.Booleans.{either, by_test}
use Rattle.float.specs.Float.{k0, k1}
use Rattle.float.specs.MinMax.{max_of}
use Rattle.geometry.specs.declared.Rect.{Rect}
use Rattle.geometry.specs.declared.Offset.{Offset}
use Rattle.layout.specs.Layout.{cutout_list}
use Rattle.settings.specs.declared.Settings.{Settings}
use Rattle.settings.specs.declared.Preset.{Preset}
use Rattle.settings.specs.Settings.{saved_list, default_of, absent_of, screen_picture_of, with_place, with_mode_byte, mode_byte_of, fit_byte_of, fit_mark_of, untouched_of}
use Rattle.settings.proofs.Accepted.{few_settings}
use Rattle.wire.specs.Wire.{short_of, number_at_of, rect_at_of, filled, short_bytes, number_bytes, rect_bytes, head_bytes}
use Rattle.wire.proofs.Items.{length_rect, length_items}
use Rattle.reader.specs.declared.Tag.{Tag}
use Rattle.reader.specs.Order.{read_screen_of, read_picture_of, read_mode_of, read_fit_of, read_place_of, read_cutouts_of, read_saved_of, from_byte_of, read_field_of, fields, read_order_of}
use Rattle.order_writer.specs.OrderBytes.{replaced_preset, replaced_cutouts, replaced_of, fields_of, order_bytes}
use Rattle.fields.specs.Fields.{field_unless}
use Rattle.order_writer.specs.OrderBytes.{screen_field, equal_of, picture_field, byte_field, place_field, rects_field}
use Rattle.written_order.specs.Promises.{Shortest, OrderSmall}

-- ---- the length of fields

-- of all seven, but for the first two where there is no screen
unfoldable length_of : Bool → Settings → ℕ
length_of screen s =
    let p = s.preset in
    cond screen (length (screen_field s.w s.h)) 0
    + (cond screen (length (picture_field s.w s.h s.picture)) 0
    + (length (byte_field (mode_byte_of default_of) 3 (mode_byte_of p))
    + (length (byte_field (fit_byte_of default_of.fit) 4 (fit_byte_of p.fit))
    + (length (place_field p)
    + (length (rects_field 6 (cutout_list s.cutouts))
    + length (rects_field 7 (saved_list p)))))))

length_fields : (s : Settings) → length (fields_of s) ≡ length_of true s
unfolding fields_of length_of
length_fields s = simp length-append (omega arith)

length_screen : (w h : Float) → length (screen_field w h) ≡ 11
unfolding number_bytes head_bytes short_bytes
length_screen w h = refl

-- a field that may be left out is no longer than its head and its value
field_most : (absent : Bool) (tag : ℕ) (value : List ℕ) {n : ℕ} → length value ≡ n → length (field_unless absent tag value) ≤ 3 + n
unfolding head_bytes short_bytes
field_most true tag value e = zero-le
field_most false tag value e = omega arith

picture_most : (w h : Float) (r : Rect) → length (picture_field w h r) ≤ 19
picture_most w h r = field_most (equal_of r (screen_picture_of w h)) 2 (rect_bytes r) (length_rect r)

byte_most : (absent tag b : ℕ) → length (byte_field absent tag b) ≤ 4
byte_most absent tag b = field_most (eqb b absent) tag (b ∷ []) refl

place_most : (p : Preset) → length (place_field p) ≤ 15
unfolding number_bytes
place_most p = field_most (untouched_of p) 5 (number_bytes p.scale ++ (number_bytes p.offset.x ++ number_bytes p.offset.y)) refl

rects_most : (tag n : ℕ) (rs : List Rect) → length (rects_field tag (take n rs)) ≤ 3 + 16 * n
rects_most tag n rs =
    let l = take n rs in
    let few : length l ≤ n = rw (length-take n rs) (min-le_left n (length rs)) in
    omega (arith, field_most (is_empty l) tag (flat_map rect_bytes l) (length_items rect_bytes 16 length_rect l))

-- all fields, where 16 cutouts and 32 saved rectangles are the most
all_most : (s : Settings) → s.cutouts.count ≤ 16 → s.preset.count ≤ 32 → length_of true s ≤ 827
unfolding length_of
all_most s c e =
    let p = s.preset in
    omega (
      arith,
      length_screen s.w s.h,
      picture_most s.w s.h s.picture,
      byte_most (mode_byte_of default_of) 3 (mode_byte_of p),
      byte_most (fit_byte_of default_of.fit) 4 (fit_byte_of p.fit),
      place_most p,
      rects_most 6 s.cutouts.count s.cutouts.at,
      rects_most 7 p.count p.elements,
    )

pub order_small : OrderSmall
unfolding order_bytes replaced_of replaced_preset replaced_cutouts
order_small s a = let few = few_settings s a in rw (length_fields (replaced_of s)) (all_most (replaced_of s) few.1 few.0)

-- ---- the picture that comes with a screen takes no bytes: its numbers equal themselves, as a NaN is raised to 1
zero_itself : eq k0 k0 ≡ true
unfolding eq of_bits
zero_itself = refl

one_itself : eq k1 k1 ≡ true
unfolding eq of_bits
one_itself = refl

raised : (x : Float) → eq (max_of x k1) (max_of x k1) ≡ true
unfolding max_of ne
raised x = by_test (λ y. eq y y ≡ true) (ne x x) (λ _. one_itself) (λ t. either (λ y. eq y y ≡ true) (lt x k1) one_itself (go (eq x x) t))
  where
    go : (b : Bool) → T (not (not b)) → b ≡ true
    go true t = refl
    go false t = absurd t

no_picture : (w h : Float) → length (picture_field w h (screen_picture_of w h)) ≡ 0
unfolding equal_of
no_picture w h = rw (zero_itself, raised w, raised h)

-- ---- if an answer accepts, its settings' fields have n bytes at most
record Most (screen : Bool) (n : ℕ) (a : Answer Settings) : Type 0 where
  most : (t : Settings) → a ≡ accepted t → length_of screen t ≤ n

module _ {screen : Bool} {n : ℕ} where
  most_refused : (k : ℕ) → Most screen n (refused k)
  most_refused k = record { most = λ t e. absurd (never (sym e)) }

  most_accepted : {s : Settings} → length_of screen s ≤ n → Most screen n (accepted s)
  most_accepted {s} h = record { most = λ t e. let same : s ≡ t = cc in rw (← same) h }

  most_must : (test : Bool) (k : ℕ) (a : Answer Settings) → (test ≡ true → Most screen n a) → Most screen n (must test k a)
  unfolding must
  most_must true k a h = h refl
  most_must false k a h = most_refused k

  most_then : {last : Bool} {m : ℕ} (a : Answer Settings) (f : Settings → Answer Settings)
      → Most last m a → ((s : Settings) → length_of last s ≤ m → Most screen n (f s)) → Most screen n (and_then a f)
  most_then (accepted s) f h g = g s (h.most s refl)
  most_then (refused k) f h g = most_refused k

  most_less : {m : ℕ} (a : Answer Settings) → m ≤ n → Most screen m a → Most screen n a
  most_less a h q = record { most = λ t e. omega (arith, q.most t e) }

-- ---- a field that is read makes the fields of the settings longer by no more than its own bytes
unfoldable is_screen : Tag → Bool
is_screen Tag.Screen = true
is_screen Tag.Picture = false
is_screen Tag.Mode = false
is_screen Tag.Fit = false
is_screen Tag.Place = false
is_screen Tag.Cutouts = false
is_screen Tag.Saved = false

byte_screen : (b : ℕ) → is_screen (from_byte_of b) ≡ eqb b 1
unfolding is_screen from_byte_of
byte_screen b = go (eqb b 1) (eqb b 2) (eqb b 3) (eqb b 4) (eqb b 5) (eqb b 6)
  where
    go : (p q r s t u : Bool)
        → is_screen (cond p Tag.Screen (cond q Tag.Picture (cond r Tag.Mode (cond s Tag.Fit (cond t Tag.Place (cond u Tag.Cutouts Tag.Saved)))))) ≡ p
    go true q r s t u = refl
    go false true r s t u = refl
    go false false true s t u = refl
    go false false false true t u = refl
    go false false false false true u = refl
    go false false false false false true = refl
    go false false false false false false = refl

field_brings : (tag : Tag) (screen : Bool) (v : List ℕ) (s : Settings) → Most (is_screen tag || screen) (length_of screen s + (3 + length v)) (read_field_of tag v s)
unfolding is_screen length_of mode_byte_of untouched_of read_field_of read_screen_of read_picture_of read_mode_of read_fit_of read_place_of read_cutouts_of read_saved_of
field_brings Tag.Screen screen v s =
    let w = number_at_of v 0 in
    let h = number_at_of v 1 in
    most_must _ 3 _ (λ e. most_must _ 6 _ (λ _. most_accepted (omega (arith, eqb-true (length v) 8 e, length_screen w h, no_picture w h))))
field_brings Tag.Picture screen v s =
    let most = either (λ n. n ≤ 19) screen (picture_most s.w s.h (rect_at_of v 0)) zero-le in
    most_must _ 3 _ (λ e. most_must _ 6 _ (λ _. most_accepted (omega (arith, eqb-true (length v) 16 e, most))))
field_brings Tag.Mode screen v s =
    let b = mode_byte_of (with_mode_byte s.preset (get_or v 0 0)) in
    most_must _ 3 _ (λ e. most_must _ 5 _ (λ _. most_accepted (omega (arith, eqb-true (length v) 1 e, byte_most (mode_byte_of default_of) 3 b))))
field_brings Tag.Fit screen v s =
    let b = fit_byte_of (fit_mark_of (get_or v 0 0)) in
    most_must _ 3 _ (λ e. most_must _ 5 _ (λ _. most_accepted (omega (arith, eqb-true (length v) 1 e, byte_most (fit_byte_of default_of.fit) 4 b))))
field_brings Tag.Place screen v s =
    let offset : Offset = record { x = number_at_of v 1; y = number_at_of v 2 } in
    most_must _ 3 _ (λ e. most_must _ 6 _ (λ _. most_accepted (omega (arith, eqb-true (length v) 12 e, place_most (with_place s.preset (number_at_of v 0) offset)))))
field_brings Tag.Cutouts screen v s =
    let n = length v / 16 in
    most_must _ 3 _ (λ e. most_must _ 7 _ (λ _. most_must _ 6 _ (λ _. most_accepted (omega (arith, eqb-true (length v % 16) 0 e, rects_most 6 n (filled 16 v n))))))
field_brings Tag.Saved screen v s =
    let n = length v / 16 in
    most_must _ 3 _ (λ e. most_must _ 7 _ (λ _. most_accepted (omega (arith, eqb-true (length v % 16) 0 e, rects_most 7 n (filled 32 v n)))))

-- ---- so do all fields, from none on
fields_bring : (turns last : ℕ) (screen : Bool) (s : Settings) (bytes : List ℕ) → Most true (length_of screen s + length bytes) (fields turns last screen s bytes)
unfolding fields
fields_bring zero last screen s bytes = most_refused 2
fields_bring (suc turns) last screen s [] = most_must screen 4 (accepted s) (λ e. most_accepted (rw e (omega arith)))
fields_bring (suc turns) last screen s (a ∷ []) = most_refused 1
fields_bring (suc turns) last screen s (a ∷ b ∷ []) = most_refused 1
fields_bring (suc turns) last screen s (tag ∷ high ∷ low ∷ rest) =
    let n = short_of high low in
    let v = take n rest in
    most_must (ltb last tag && leb tag 7) 2 _ (λ _.
    most_must (leb n (length rest)) 1 _ (λ whole.
    most_then (read_field_of (from_byte_of tag) v s) _ (field_brings (from_byte_of tag) screen v s)
    (λ t h.
    let sofar = rw (byte_screen tag, or_comm (eqb tag 1) screen) at h in
    let fits = leb-true n (length rest) whole in
    most_less _ (omega (arith, length-take-le n rest fits, length-drop n rest)) (fields_bring turns tag (screen || eqb tag 1) t (drop n rest)))))

none_absent : length_of false absent_of ≡ 0
unfolding length_of absent_of default_of mode_byte_of fit_byte_of untouched_of eq of_bits
none_absent = refl

pub shortest : Shortest
unfolding order_bytes read_order_of
shortest s bytes e = rw (length_fields (replaced_of s)) (omega (arith, (fields_bring 8 0 false absent_of bytes).most (replaced_of s) e, none_absent))
