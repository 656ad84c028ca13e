-- An order's first bytes decide: a value has at most 65,535 bytes, an accepted one at most 512, and there are at most eight headers. So a program need not read more than 70,000.
use mathlib.Core.Path.{◌≡◌, refl, sym, ap, ◌∙◌}
use mathlib.Core.Bool.{Bool, true, false, ◌||◌}
use mathlib.Core.List.{List, [], ◌∷◌, ◌++◌}
use Prim.Native.Nat.{ℕ, zero, suc, ◌+◌, ◌*◌, ◌/◌, ◌%◌, ◌≤◌}
use native.Mathlib.Omega.{arith}
use borrow.Author.Tests.{eqb-true, leb-true, leb-false, le-leb}
use lib.Dec.{eqb, leb, lit≤}
use lib.ListN.{length, take, drop, length-append, length-drop, take-append-drop}
use lib.Seq.{length-take-le, take_all, take-append-le, drop-append-le}
use Rattle.prelude.specs.Answer.{accepted, must}
use Rattle.prelude.proofs.AnswerLaws.{must_met, then_same}
use Rattle.prelude.specs.Each.{Each}
use Rattle.prelude.proofs.EachLaws.{each_take, each_drop}
use Rattle.settings.specs.declared.Settings.{Settings}
use Rattle.wire.specs.Wire.{short_of}
use Rattle.reader.specs.declared.Tag.{Tag}
use Rattle.reader.specs.Order.{read_screen_of, read_picture_of, read_mode_of, read_fit_of, read_place_of, read_cutouts_of, read_saved_of, from_byte_of, read_field_of, fields, read_order_of}
use Rattle.film_sheet.specs.Film.{film_text_of}
use Rattle.film_sheet.specs.Promises.{Byte, FirstBytes}

-- ---- an accepted value is short
exact_short : (v : List ℕ) (n : ℕ) → n ≤ 16 → eqb (length v) n ≡ true → length v ≤ 512
exact_short v n h e = let l = eqb-true (length v) n e in omega arith

items_short : (v : List ℕ) (n : ℕ) → n ≤ 32 → (eqb (length v % 16) 0 ≡ true) → leb (length v / 16) n ≡ true → length v ≤ 512
items_short v n h e f =
    let whole = eqb-true (length v % 16) 0 e in
    let few = leb-true (length v / 16) n f in
    omega arith

short_value : (tag : Tag) (v : List ℕ) (s : Settings) {t : Settings} → read_field_of tag v s ≡ accepted t → length v ≤ 512
unfolding read_field_of read_screen_of read_picture_of read_mode_of read_fit_of read_place_of read_cutouts_of read_saved_of
short_value Tag.Screen v s e = exact_short v 8 (lit≤ tt) (must_met _ _ _ e).0
short_value Tag.Picture v s e = exact_short v 16 (lit≤ tt) (must_met _ _ _ e).0
short_value Tag.Mode v s e = exact_short v 1 (lit≤ tt) (must_met _ _ _ e).0
short_value Tag.Fit v s e = exact_short v 1 (lit≤ tt) (must_met _ _ _ e).0
short_value Tag.Place v s e = exact_short v 12 (lit≤ tt) (must_met _ _ _ e).0
short_value Tag.Cutouts v s e = let m = must_met _ _ _ e in items_short v 16 (lit≤ tt) m.0 (must_met _ _ _ m.1).0
short_value Tag.Saved v s e = let m = must_met _ _ _ e in items_short v 32 (lit≤ tt) m.0 (must_met _ _ _ m.1).0

-- ---- bytes after enough others change nothing
fields_first : (turns last : ℕ) (screen : Bool) (s : Settings) (xs ys : List ℕ) → Each Byte xs → 65538 + 515 * turns ≤ length xs → fields turns last screen s (xs ++ ys) ≡ fields turns last screen s xs
unfolding fields
fields_first zero last screen s xs ys b h = refl
fields_first (suc turns) last screen s [] ys b h = absurd (let z : ⊥ = omega arith in z)
fields_first (suc turns) last screen s (tag ∷ []) ys b h = absurd (let z : ⊥ = omega arith in z)
fields_first (suc turns) last screen s (tag ∷ high ∷ []) ys b h = absurd (let z : ⊥ = omega arith in z)
fields_first (suc turns) last screen s (tag ∷ high ∷ low ∷ xs) ys b h =
    let n = short_of high low in
    let most : n ≤ length xs = omega (arith, b.1.0, b.1.1.0) in
    let more : n ≤ length (xs ++ ys) = omega (arith, length-append xs ys) in
    rw (le-leb n (length xs) most, le-leb n (length (xs ++ ys)) more, take-append-le n xs ys most, drop-append-le n xs ys most)
    (ap (must _ 2) (ap (must true 1) (then_same (read_field_of (from_byte_of tag) (take n xs) s)
    (λ t e. fields_first turns tag (screen || eqb tag 1) t (drop n xs) ys (each_drop Byte n xs b.1.1.1)
    (omega (arith, length-drop n xs, length-take-le n xs most, short_value (from_byte_of tag) (take n xs) s e))))))

first_bytes : (order : List ℕ) → Each Byte order → (n : ℕ) → 69658 ≤ n → read_order_of (take n order) ≡ read_order_of order
unfolding read_order_of
first_bytes order b n h = go (leb n (length order)) refl
  where
    go : (c : Bool) → leb n (length order) ≡ c → read_order_of (take n order) ≡ read_order_of order
    go true e =
        sym (fields_first 8 0 false _ (take n order) (drop n order) (each_take Byte n order b) (omega (arith, length-take-le n order (leb-true n (length order) e))))
        ∙ ap read_order_of (take-append-drop n order)
    go false e = ap read_order_of (take_all n order (omega (arith, leb-false n (length order) e)))

-- for the reader, and for programs that read an order: no proof cites this law
pub first_bytes_film : FirstBytes
unfolding film_text_of
first_bytes_film order b n h = rw (first_bytes order b n h)
