-- What the functions over orders give: so many bytes for each mode, one of eight refusals, which changes nothing, and the widest picture.
use mathlib.Core.Path.{◌≡◌, refl, ◌∙◌}
use mathlib.Core.Bool.{Bool, true, false, cond, ◌||◌}
use mathlib.Core.List.{List, ◌++◌}
use Prim.Native.Nat.{ℕ, ◌<◌, ◌≤◌}
use native.Mathlib.Omega.{arith}
use lib.Dec.{leb}
use lib.Ieee.{Float}
use lib.ListN.{length, drop}
use Rattle.prelude.specs.Answer.{Answer, accepted, refused, must}
use Rattle.prelude.proofs.AnswerLaws.{never, refused_then}
use Rattle.prelude.proofs.Booleans.{either}
use Rattle.layout.specs.declared.Layout.{Layout}
use Rattle.layout.specs.Labels.{mode_labels, mode_sticks, OfMode}
use Rattle.layout.proofs.LabelLaws.{few}
use Rattle.settings_ranges.proofs.SettingsRanges.{accepted_in_range}
use Rattle.settings.specs.declared.Preset.{Preset}
use Rattle.settings.specs.declared.Settings.{Settings}
use Rattle.settings.specs.Settings.{tops_in_limits_of}
use Rattle.reader.proofs.Accepted.{accepted_order, refused_order, order_f32}
use Rattle.reader.specs.Order.{read_order_of}
use Rattle.wire.specs.Wire.{room_for}
use Rattle.writer.specs.Bytes.{layout_bytes, write_layout_of, output_of}
use Rattle.writer.proofs.Length.{length_for, length_layout}
use Rattle.written_layout.specs.Written.{LayoutIsF32}
use Rattle.written_layout.proofs.WidestWritten.{widest_written}
use Rattle.preset.specs.Preset.{analog_of, settings_layout_of}
use Rattle.preset.proofs.PresetLabels.{settings_mode, settings_viewport_mode}
use Rattle.preset.proofs.PresetWidest.{settings_widest}
use Rattle.order.specs.Orders.{order_layout, written_answer, written_output, layout_of, layout_output_of, touch_of, order_viewport, viewport_of, viewport_output_of}
use Rattle.order.specs.Demands.{WidestWritten}
use Rattle.order.specs.Promises.{bytes_for, LayoutBytes, ViewportBytes}

-- ---- so many bytes for each mode
mode_bytes : (marked psp : Bool) → length_for (length (mode_labels (marked || psp) psp)) (mode_sticks (marked || psp) psp) ≡ cond psp 265 (cond marked 353 285)
mode_bytes true true = refl
mode_bytes false true = refl
mode_bytes true false = refl
mode_bytes false false = refl

mode_length : (p : Preset) (l : Layout) → OfMode (analog_of p) p.psp l → length (layout_bytes l) ≡ bytes_for p
mode_length p l f =
    let n = few (analog_of p) p.psp l f in
    length_layout l (omega (arith, f.1.0)) (omega (arith, f.1.1)) ∙ rw (f.0.1, f.0.2) (mode_bytes p.analog p.psp)

mode_answer : (p : Preset) (l : Layout) → OfMode (analog_of p) p.psp l → (out : List ℕ) → write_layout_of l out ≡ room_for (bytes_for p) out
unfolding write_layout_of
mode_answer p l f out = rw (mode_length p l f)

pub layout_bytes_lem : LayoutBytes
unfolding layout_of order_layout
layout_bytes_lem order s e out = rw e (mode_answer s.preset _ (settings_mode s) out)

pub viewport_bytes : ViewportBytes
unfolding viewport_of order_viewport must
viewport_bytes order s e out reusable covered t = rw (e, t) (mode_answer s.preset _ (settings_viewport_mode s reusable covered) out)

-- ---- the bytes that are written, or none
module _ (l : Layout) (out : List ℕ) where
  written_case : (C : Answer ℕ → List ℕ → Type 0) → C (accepted (length (layout_bytes l))) (layout_bytes l ++ drop (length (layout_bytes l)) out) → C (refused 8) out → C (write_layout_of l out) (output_of l out)
  unfolding write_layout_of output_of must
  written_case C p q = go (leb (length (layout_bytes l)) (length out))
    where
      go : (b : Bool) → C (cond b (accepted (length (layout_bytes l))) (refused 8)) (cond b (layout_bytes l ++ drop (length (layout_bytes l)) out) out)
      go true = p
      go false = q

  written_bytes : {n : ℕ} → write_layout_of l out ≡ accepted n → output_of l out ≡ layout_bytes l ++ drop (length (layout_bytes l)) out
  written_bytes {n} = written_case (λ a after. a ≡ accepted n → after ≡ layout_bytes l ++ drop (length (layout_bytes l)) out) (λ e. refl) (λ e. cc)

  refused_bytes : {n : ℕ} → write_layout_of l out ≡ refused n → (n ≡ 8) × (output_of l out ≡ out)
  refused_bytes {n} = written_case (λ a after. a ≡ refused n → (n ≡ 8) × (after ≡ out)) (λ e. absurd (never e)) (λ e. (cc, refl))

-- ---- demand 1: one of the eight refusals, and "a refused order changes no byte of the lent output"
-- "the same refusal"
pub touch_refused : (order : List ℕ) (x y : Float) (previous : ℕ) {n : ℕ} → touch_of order x y previous ≡ refused n → read_order_of order ≡ refused n
unfolding touch_of order_layout
touch_refused order x y previous e = refused_then _ _ (refused_then _ _ (λ r. r) (λ s r. cc)) (λ l r. cc) e

abbrev Number : ℕ → Type 0
Number n = (0 < n) × (n ≤ 8)

read_number : (order : List ℕ) {n : ℕ} → read_order_of order ≡ refused n → Number n
read_number order r = let b = refused_order order r in (b.0, omega arith)

-- of a layout that is written where it is not refused
written_refused : (a : Answer Layout) {n : ℕ} → (a ≡ refused n → Number n) → (out : List ℕ) → written_answer a out ≡ refused n → Number n × (written_output a out ≡ out)
written_refused (accepted l) g out e = let b = refused_bytes l out e in ((omega arith, omega arith), b.1)
written_refused (refused n) g out e = (g (cc), refl)

pub layout_refused : (order out : List ℕ) {n : ℕ} → layout_of order out ≡ refused n → Number n × (layout_output_of order out ≡ out)
unfolding layout_of layout_output_of order_layout
layout_refused order out e = written_refused _ (refused_then _ _ (read_number order) (λ s r. absurd (never r))) out e

pub viewport_refused : (order : List ℕ) (reusable covered : Float) (out : List ℕ) {n : ℕ} → viewport_of order reusable covered out ≡ refused n → Number n × (viewport_output_of order reusable covered out ≡ out)
unfolding viewport_of viewport_output_of order_viewport must
viewport_refused order reusable covered out {n} e =
    written_refused _ (refused_then _ _ (read_number order) (λ s. either (λ a. a ≡ refused n → Number n) (tops_in_limits_of reusable covered) (λ r. absurd (never r)) (λ r. let six : n ≡ 6 = cc in (omega arith, omega arith)))) out e

-- ---- demand 3
pub order_widest : (order : List ℕ) {s : Settings} → read_order_of order ≡ accepted s → LayoutIsF32 (settings_layout_of s) → (out : List ℕ) → WidestWritten order (write_layout_of (settings_layout_of s) out) (output_of (settings_layout_of s) out)
order_widest order {s} e f out t n r a k =
    let same : t ≡ s = cc in
    let d = accepted_in_range s (accepted_order order e) (order_f32 order e) in
    rw (same, written_bytes (settings_layout_of s) out a) (widest_written (settings_layout_of s) f _ (settings_widest s d (rw same at k)))
