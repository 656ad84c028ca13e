-- Settings whose numbers are in range, as arrangements and the search want them.
use Rattle.std.specs.Prelude.{◌≡◌, true}
use Rattle.std.specs.Float.Ieee.{eq}
use Rattle.prelude.specs.Each.{Each}
use Rattle.float.specs.Float.{k1}
use Rattle.layout.specs.Layout.{cutout_list}
use Rattle.numerics.specs.Value.{Whole}
use Rattle.numerics.specs.Range.{In, at}
use Rattle.numerics.specs.Rects.{Element, Area}
use Rattle.settings.specs.declared.Settings.{Settings}

pub record InRange (s : Settings) : Type 0 where
  pub w : In s.w (at 0) (at 8192)
  pub h : In s.h (at 0) (at 8192)
  pub area : Area s.picture
  pub cutouts : Each Element (cutout_list s.cutouts)
  pub scale : Whole s.preset.scale
  pub offset_x : Whole s.preset.offset.x
  pub offset_y : Whole s.preset.offset.y
  -- one f32 alone passes the test for the size factor 1
  pub whole_size : eq s.preset.scale k1 ≡ true → s.preset.scale ≡ k1
