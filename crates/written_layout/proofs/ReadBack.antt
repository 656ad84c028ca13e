-- What is written reads back: a layout's game and elements, with plus zeros for negative ones.
use mathlib.Core.Path.{◌≡◌, refl, ◌∙◌}
use mathlib.Core.List.{List, [], ◌++◌, map, flat_map, append-nil, append_assoc}
use Prim.Native.Nat.{ℕ, ◌/◌}
use native.Mathlib.Omega.{arith}
use lib.ListN.{length}
use Rattle.layout.specs.declared.Layout.{Layout}
use Rattle.layout.specs.Layout.{elements_of}
use Rattle.wire.specs.Wire.{field_value, rect_bytes, plus_zero_rect}
use Rattle.wire.proofs.Items.{length_rect, length_items}
use Rattle.wire.proofs.ReadBack.{rect_back, rects_back, value_here, value_later}
use Rattle.writer.specs.Bytes.{layout_bytes}
use Rattle.written_layout.specs.Written.{written_game, written_elements, LayoutIsF32}

module _ (l : Layout) (rest : List ℕ) where
  game_value : field_value 3 1 (layout_bytes l ++ rest) ≡ rect_bytes l.game
  unfolding layout_bytes
  game_value = simp append_assoc (value_here 2 1 (rect_bytes l.game) _)

  elements_value : field_value 3 2 (layout_bytes l ++ rest) ≡ flat_map rect_bytes (elements_of l)
  unfolding layout_bytes
  elements_value = simp append_assoc (value_later 2 2 (rect_bytes l.game) _ 1 refl ∙ value_here 1 2 (flat_map rect_bytes (elements_of l)) _)

  module _ (f : LayoutIsF32 l) where
    pub game_back : written_game (layout_bytes l ++ rest) ≡ plus_zero_rect l.game
    unfolding written_game
    game_back = rw (game_value, ← append-nil (rect_bytes l.game)) (rect_back l.game [] f.game)

    pub elements_back : written_elements (layout_bytes l ++ rest) ≡ map plus_zero_rect (elements_of l)
    unfolding written_elements
    elements_back =
        let e : length (flat_map rect_bytes (elements_of l)) / 16 ≡ length (elements_of l) = omega (arith, length_items rect_bytes 16 length_rect (elements_of l)) in
        rw (elements_value, e) (rects_back (elements_of l) f.elements)
