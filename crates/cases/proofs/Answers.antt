-- The definitions answer each case of document 01 as it does.
use mathlib.Core.Path.{◌≡◌, refl}
use mathlib.Core.List.{map}
use lib.Ieee.{of_bits, round, add, sub, mul, div, lt, le, eq, ne, neg}
use Rattle.float.specs.MinMax.{min_of, max_of, abs_of}
use Rattle.geometry.specs.Rect.{contains_of, overlaps_of}
use Rattle.hypot.specs.Hypot.{hypot_of}
use Rattle.search.specs.Search.{within_of, better_of, narrow_of, width_at, try_at, centered_of, narrow_side_of, side_width_at, try_side_at, try_column, side_of, clear_picture_aspect_of}
use Rattle.touch.specs.Touch.{axis_bit_of, sector_of, dpad_mask_of, others_mask_of, nearest, mask_near_of}
use Rattle.cases.specs.Cases.{answer, cases}

pub as_said : map (λ c. answer c.0) cases ≡ map (λ c. c.1) cases
unfolding answer cases of_bits round add sub mul div lt le eq ne neg min_of max_of abs_of contains_of overlaps_of hypot_of within_of better_of narrow_of width_at
    try_at centered_of narrow_side_of side_width_at try_side_at try_column side_of clear_picture_aspect_of axis_bit_of sector_of dpad_mask_of others_mask_of nearest
    mask_near_of
as_said = refl
