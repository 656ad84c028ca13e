-- What a host may count on, as `specs/Promises.antt` states it. Laws for hosts: proofs cite `layout_small`, `viewport_small`, `tested_small` and `film_small` alone.
use mathlib.Core.Path.{◌≡◌, refl}
use mathlib.Core.Bool.{Bool, true, false}
use mathlib.Core.List.{List}
use mathlib.Core.Logic.{◌⊎◌, inl, inr}
use Prim.Native.Nat.{ℕ, zero, suc, ◌<◌, ◌≤◌}
use native.Mathlib.Omega.{arith}
use lib.Dec.{leb}
use lib.Ieee.{Float}
use lib.IntN.{pos, negsuc, neg_ℤ}
use lib.ListN.{length}
use lib.Signed.{mag}
use Rattle.prelude.specs.Answer.{Answer, accepted, refused, must}
use Rattle.prelude.proofs.AnswerLaws.{never, must_refused, refused_then}
use Rattle.prelude.proofs.Booleans.{either}
use Rattle.settings.specs.declared.Preset.{Preset}
use Rattle.settings.specs.declared.Settings.{Settings}
use Rattle.settings.specs.Settings.{tops_in_limits_of, tested_of, first_fault_of}
use Rattle.settings.proofs.Accepted.{no_fault}
use Rattle.layout.specs.declared.Layout.{Layout}
use Rattle.tracker.specs.declared.Tracker.{Tracker}
use Rattle.tracker.specs.Tracker.{Call, masks_of, kept_or}
use Rattle.tracker.proofs.TrackerLaws.{refusals}
use Rattle.safe_area.specs.Safe.{safe_content_of, safe_edges_of}
use Rattle.reader.proofs.Accepted.{refused_order}
use Rattle.reader.specs.Order.{read_order_of}
use Rattle.wire.specs.Wire.{room_for}
use Rattle.order.specs.Orders.{order_layout, layout_of, order_call_of, order_viewport, viewport_of}
use Rattle.order.specs.Promises.{bytes_for}
use Rattle.order.proofs.OrderLaws.{layout_bytes_lem, viewport_bytes, layout_refused, viewport_refused, touch_refused}
use Rattle.order_writer.specs.OrderBytes.{written_order_of}
use Rattle.written_order.proofs.Shortest.{order_small}
use Rattle.written_order.proofs.Refused.{tested_refused, written_refused}
use Rattle.film_sheet.specs.Film.{film_sheet_of}
use Rattle.film_sheet.proofs.FilmLaws.{film_fits}
use Rattle.thumb_layout.specs.Interface.{number_of, tl_layout_of, tl_touch_of, tl_viewport_layout_of, tl_film_of, status_of, content_from, tl_safe_content_of, tl_safe_content_output_of, edges_from, tl_safe_edges_of, tl_safe_edges_output_of}
use Rattle.thumb_layout.specs.Interface.{masks_numbers, tl_masks_of, tl_tracker_of, tested_from, tl_write_order_of, tl_write_order_output_of}
use Rattle.thumb_layout.specs.Promises.{LayoutSmall, ViewportSmall, WriteOrderSmall, FilmSmall, LayoutBelow, ViewportBelow, TouchBelow, CallBelow, WriteOrderBelow, ContentBelow, EdgesBelow}

-- ---- bytes, as many as there is room for, and the number of a refusal
room_small : (n most : ℕ) (out : List ℕ) → n ≤ most → 8 ≤ most → mag (number_of (room_for n out)) ≤ most
unfolding must
room_small n most out h e = either (λ a. mag (number_of a) ≤ most) (leb n (length out)) h (omega arith)

refusal_small : (n most : ℕ) → n ≤ most → mag (number_of (refused n)) ≤ most
refusal_small zero most h = h
refusal_small (suc n) most h = omega arith

-- ---- of a layout: 353 at most
preset_small : (p : Preset) (out : List ℕ) → mag (number_of (room_for (bytes_for p) out)) ≤ 353
preset_small p out = room_small _ _ out (either (λ n. n ≤ 353) p.psp (omega arith) (either (λ n. n ≤ 353) p.analog (omega arith) (omega arith))) (omega arith)

refused_small : (order : List ℕ) (n : ℕ) → read_order_of order ≡ refused n → mag (number_of (refused n)) ≤ 353
refused_small order n e = refusal_small n 353 (omega (arith, (refused_order order e).1))

pub layout_small : LayoutSmall
unfolding tl_layout_of layout_of order_layout
layout_small order out = go (read_order_of order) refl
  where
    go : (a : Answer Settings) → read_order_of order ≡ a → mag (tl_layout_of order out) ≤ 353
    go (accepted s) e = rw (layout_bytes_lem order s e out) (preset_small s.preset out)
    go (refused n) e = rw e (refused_small order n e)

pub viewport_small : ViewportSmall
unfolding tl_viewport_layout_of viewport_of order_viewport must
viewport_small order out reusable covered = go (read_order_of order) refl (tops_in_limits_of reusable covered) refl
  where
    go : (a : Answer Settings) → read_order_of order ≡ a → (t : Bool) → tops_in_limits_of reusable covered ≡ t → mag (tl_viewport_layout_of order reusable covered out) ≤ 353
    go (accepted s) e true t = rw (viewport_bytes order s e out reusable covered t) (preset_small s.preset out)
    go (accepted s) e false t = rw (e, t) (omega arith)
    go (refused n) e b t = rw e (refused_small order n e)

-- ---- of an order that is written: 827 at most
abbrev WrittenSmall : List ℕ → Answer Settings → Type 0
WrittenSmall out a = mag (number_of (written_order_of a out)) ≤ 827

pub tested_small : (mode fit : ℕ) (s : Settings) (out : List ℕ) → WrittenSmall out (tested_of mode fit s)
unfolding first_fault_of
tested_small mode fit s out = go (tested_of mode fit s) refl
  where
    go : (a : Answer Settings) → tested_of mode fit s ≡ a → WrittenSmall out (tested_of mode fit s)
    go (accepted t) e =
        let faultless : first_fault_of mode fit s ≡ 0 = rw e in
        let a = no_fault mode fit s faultless in
        rw a.0 (room_small _ 827 out (order_small s a.1) (omega arith))
    go (refused n) e = rw e (refusal_small n 827 (omega (arith, (tested_refused mode fit s e).1)))

whole_small : (out : List ℕ) (whole : Bool) (a : Answer Settings) → WrittenSmall out a → WrittenSmall out (must whole 100 a)
unfolding must
whole_small out true a h = h
whole_small out false a h = omega arith

pub write_order_small : WriteOrderSmall
unfolding tl_write_order_of tested_from
write_order_small numbers mode fit cutouts saved out = whole_small out _ _ (whole_small out _ _ (tested_small mode fit _ out))

-- ---- a film sheet's text: 788 bytes at most
pub film_small : FilmSmall
unfolding tl_film_of film_sheet_of
film_small order = film_fits order

-- ---- numbers below 0: minus one of the refusals, and nothing changes
number_refused : (a : Answer ℕ) {n : ℕ} → number_of a ≡ negsuc n → a ≡ refused (suc n)
number_refused (accepted m) e = cc
number_refused (refused zero) e = cc
number_refused (refused (suc m)) e = cc

pub layout_below : LayoutBelow
unfolding tl_layout_of
layout_below order out n e = let r = layout_refused order out (number_refused _ e) in (omega (arith, r.0.1), r.1)

pub viewport_below : ViewportBelow
unfolding tl_viewport_layout_of
viewport_below order out reusable covered n e = let r = viewport_refused order reusable covered out (number_refused _ e) in (omega (arith, r.0.1), r.1)

pub touch_below : TouchBelow
unfolding tl_touch_of
touch_below order x y previous n e = touch_refused order x y previous (number_refused _ e)

-- the order's refusal, or the call's
call_refused : (t : Tracker) (order : List ℕ) (call : Layout → Call) {n : ℕ} → order_call_of t order call ≡ refused (suc n) → (read_order_of order ≡ refused (suc n)) ⊎ ((n ≡ 8) ⊎ (n ≡ 9))
unfolding order_call_of order_layout
call_refused t order call {n} e =
    refused_then _ _ (refused_then _ _ inl (λ s r. absurd (never r)))
    (λ l r. inr (elim (refusals t (call l) (suc n) r) [ inl h ↦ inl (omega (arith, h.0)) | inr h ↦ inr (omega (arith, h.0)) ])) e

pub call_below : CallBelow
unfolding tl_masks_of tl_tracker_of
call_below t order finger call n = go (order_call_of t order call) refl
  where
    go : (a : Answer Tracker) → order_call_of t order call ≡ a → let masks = masks_numbers (masks_of finger a) in (masks.mask ≡ negsuc n) ⊎ (masks.combined ≡ negsuc n)
        → ((read_order_of order ≡ refused (suc n)) ⊎ ((n ≡ 8) ⊎ (n ≡ 9))) × (masks.mask ≡ negsuc n) × (masks.combined ≡ negsuc n) × (kept_or t a ≡ t)
    go (accepted u) e h = absurd (elim h [ inl p ↦ never (number_refused (accepted _) p) | inr p ↦ never (number_refused (accepted _) p) ])
    go (refused k) e h =
        let p : neg_ℤ (pos k) ≡ negsuc n = elim h [ inl q ↦ q | inr q ↦ q ] in
        let r = number_refused (refused k) p in
        let same : k ≡ suc n = cc in
        (call_refused t order call (rw same at e), p, p, refl)

-- the number of a refusal that writing gives
abbrev OfWriting : ℕ → Type 0
OfWriting k = (k ≡ 100) ⊎ ((5 ≤ k) × (k ≤ 8))

from_refused : (numbers : List Float) (mode fit : ℕ) (cutouts saved : List Float) {k : ℕ} → tested_from numbers mode fit cutouts saved ≡ refused k → OfWriting k
unfolding tested_from
from_refused numbers mode fit cutouts saved =
    must_refused OfWriting _ 100 _ (inl refl)
    (must_refused OfWriting _ 100 _ (inl refl)
    (λ r. let b = tested_refused mode fit _ r in inr (b.0, omega (arith, b.1))))

pub write_order_below : WriteOrderBelow
unfolding tl_write_order_of tl_write_order_output_of
write_order_below numbers mode fit cutouts saved out n e =
    let r = written_refused OfWriting _ out (inr (omega arith, omega arith)) (from_refused numbers mode fit cutouts saved) (number_refused _ e) in
    (less_one r.0, r.1)
  where
    less_one : OfWriting (suc n) → (n ≡ 99) ⊎ ((4 ≤ n) × (n < 8))
    less_one (inl h) = inl (omega arith)
    less_one (inr h) = inr (omega arith, omega arith)

-- the safe area is refused for a number off the scale alone
scale_below : {A : Type 0} (onScale : Bool) (x : A) {n : ℕ} → let a = must onScale 6 (accepted x) in status_of a ≡ negsuc n → (n ≡ 5) × (a ≡ refused 6)
unfolding must
scale_below true x e = (cc, cc)
scale_below false x e = (cc, refl)

pub content_below : ContentBelow
unfolding tl_safe_content_of tl_safe_content_output_of content_from safe_content_of
content_below numbers area n e = let r = scale_below _ _ e in (r.0, rw r.1)

pub edges_below : EdgesBelow
unfolding tl_safe_edges_of tl_safe_edges_output_of edges_from safe_edges_of
edges_below numbers local edges n e = let r = scale_below _ _ e in (r.0, rw r.1)
