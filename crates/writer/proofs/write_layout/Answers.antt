-- Either the output is too small and nothing is put, or the three fields are put one after the other.
use mathlib.Core.Path.{◌≡◌, ap}
use mathlib.Core.List.{List, ◌++◌, map, flat_map}
use Prim.Native.Nat.{ℕ, ◌+◌, ◌<◌}
use native.Mathlib.Omega.{arith}
use lib.ListN.{length, length-append}
use Rattle.layout.proofs.ArrayLaws.{array_lengths}
use Rattle.layout.specs.declared.Control.{Control}
use Rattle.layout.specs.Label.{mask_of}
use Rattle.wire.specs.Wire.{short_bytes, rect_bytes}
use Rattle.wire.proofs.Items.{length_rect}
use Rattle.wire.proofs.Output.{too_small, has_room}
use Rattle.fields.specs.Fields.{field_unless}
use Rattle.fields.proofs.Fields.{first, next}
use Rattle.writer.specs.Bytes.{layout_bytes, write_layout_of, output_of}
use Rattle.writer.proofs.Length.{length_element_bytes, length_mask_bytes}
use Rattle.writer.proofs.Made.{masks_same, layout_is}
use Rattle.writer.proofs.write_layout.Goals as goal
use Rattle.writer.proofs.write_layout.Goals.{After-new-masks, After-length-3}

-- their values are short
module _ (c : After-new-masks) where
  game_short : length (rect_bytes c.new-game.result.value.0) < 65536
  game_short = omega (arith, length_rect c.new-game.result.value.0)

  elements_short : length (flat_map rect_bytes c.new-elements.result.value.0.now) < 65536
  elements_short =
      let arrays = array_lengths c.args.l c.well_formed.0 in
      rw (c.new-elements.ensures, c.as_slice.ensures, c.elements-all.ensures.items)
      (omega (arith, length_element_bytes c.args.l (omega (arith, c.requires.0)) (omega (arith, c.requires.1)), c.requires.0, c.requires.1))

  masks_short : length (flat_map short_bytes (map (λ (k : Control). mask_of k.label) c.new-masks.result.value.0.0.now)) < 65536
  masks_short =
      let arrays = array_lengths c.args.l c.well_formed.0 in
      rw (c.new-masks.ensures, c.control_list.ensures, masks_same)
      (omega (arith, length_mask_bytes c.args.l (omega (arith, c.requires.0)) (omega (arith, c.requires.1)), c.requires.0))

pub length-requires : goal.length-requires
length-requires c = game_short (goal.at.length-requires c).After-new-masks

pub length-requires-2 : goal.length-requires-2
length-requires-2 c = elements_short (goal.at.length-requires-2 c).After-new-masks

pub length-requires-3 : goal.length-requires-3
length-requires-3 c = masks_short (goal.at.length-requires-3 c).After-new-masks

-- the fields as they were made
module _ (c : After-length-3) where
  abbrev game : List ℕ
  game = field_unless c.new-game.result.absent c.new-game.result.tag (rect_bytes c.new-game.result.value.0)

  abbrev listed : List ℕ
  listed = field_unless c.new-elements.result.absent c.new-elements.result.tag (flat_map rect_bytes c.new-elements.result.value.0.now)

  abbrev marked : List ℕ
  marked = field_unless c.new-masks.result.absent c.new-masks.result.tag (flat_map short_bytes (map (λ (k : Control). mask_of k.label) c.new-masks.result.value.0.0.now))

  made : layout_bytes c.args.l ≡ game ++ listed ++ marked
  made = rw (c.new-game.ensures, c.new-elements.ensures, c.as_slice.ensures, c.elements-all.ensures.items, c.new-masks.ensures, c.control_list.ensures, masks_same) (layout_is c.args.l)

  lengths : length (layout_bytes c.args.l) ≡ length game + length listed + length marked
  lengths = simp length-append at (ap length made)

  sized : c.length.result + c.length-2.result + c.length-3.result ≡ length (layout_bytes c.args.l)
  sized = omega (arith, lengths, c.length.ensures.0, c.length-2.ensures.0, c.length-3.ensures.0)

pub returns-then-out-length : goal.returns-then-out-length
unfolding write_layout_of output_of
returns-then-out-length c =
    let done = too_small (layout_bytes c.args.l) c.args.out.now (sized (goal.at.returns-then-out-length c).After-length-3) (omega arith) in
    record { answer = done.0; output = done.1 }

pub put-at-requires : goal.put-at-requires
put-at-requires c = (game_short (goal.at.put-at-requires c).After-new-masks, omega (arith, c.length.ensures.0, c.if-out-length.false))

pub put-at-requires-2 : goal.put-at-requires-2
put-at-requires-2 c = (elements_short (goal.at.put-at-requires-2 c).After-new-masks, omega (arith, c.length.ensures.0, c.length-2.ensures.0, c.if-out-length.false, c.put-at.ensures.next))

pub put-requires : goal.put-requires
put-requires c = (
  masks_short (goal.at.put-requires c).After-new-masks,
  omega (arith, c.length.ensures.0, c.length-2.ensures.0, c.length-3.ensures.0, c.if-out-length.false, c.put-at.ensures.next, c.put-at-2.ensures.next),
)

pub returns : goal.returns
unfolding write_layout_of output_of
returns c =
    let at = (goal.at.returns c).After-length-3 in
    let run = next (marked at) (next (listed at) (first (game at) c.put-at.ensures.next c.put-at.ensures.output) c.put-at-2.ensures.next c.put-at-2.ensures.output) c.put.ensures.next c.put.ensures.output in
    let done = has_room (layout_bytes c.args.l) c.args.out.now (sized at) (omega arith) (rw (made at) run.is) in
    record { answer = done.0; output = done.1 }
