-- How long a written layout is.
use mathlib.Core.Path.{◌≡◌, refl, ap, ◌∙◌}
use mathlib.Core.List.{flat_map}
use Prim.Native.Nat.{ℕ, ◌+◌, ◌*◌, ◌≤◌}
use native.Mathlib.Omega.{arith}
use lib.ListN.{length, length-append}
use lib.Seq.{length-take-le}
use Rattle.layout.specs.declared.Control.{Control}
use Rattle.layout.specs.declared.Layout.{Layout}
use Rattle.layout.proofs.ElementLaws.{length_elements}
use Rattle.layout.specs.Layout.{element_count_of, elements_of, control_list}
use Rattle.wire.specs.Wire.{short_bytes, rect_bytes}
use Rattle.wire.proofs.Items.{length_rect, length_field_head, length_items}
use Rattle.writer.specs.Bytes.{mask_bytes, layout_bytes}

length_mask : (c : Control) → length (mask_bytes c) ≡ 2
unfolding mask_bytes short_bytes
length_mask c = refl

-- by the counts of controls and sticks
abbrev pub length_for : ℕ → ℕ → ℕ
length_for count sticks = 25 + 16 * (count + 5 + sticks) + 2 * count

module _ (l : Layout) (cs : l.count ≤ length l.controls) (ss : l.stickcount ≤ length l.sticks) where
  pub length_element_bytes : length (flat_map rect_bytes (elements_of l)) ≡ 16 * element_count_of l
  length_element_bytes = length_items rect_bytes 16 length_rect (elements_of l) ∙ ap (λ (n : ℕ). 16 * n) (length_elements l cs ss)

  pub length_mask_bytes : length (flat_map mask_bytes (control_list l)) ≡ 2 * l.count
  length_mask_bytes = length_items mask_bytes 2 length_mask (control_list l) ∙ ap (λ (n : ℕ). 2 * n) (length-take-le l.count l.controls cs)

  pub length_layout : length (layout_bytes l) ≡ length_for l.count l.stickcount
  unfolding layout_bytes
  length_layout =
      simp (length-append, length_field_head) (omega (arith, length_rect l.game, length_element_bytes, length_mask_bytes))
