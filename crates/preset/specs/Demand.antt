-- Demand 3 for the layout of an order: document 01's paragraph "For the widest picture".
use Rattle.std.specs.Prelude.{◌≡◌, Bool, true, false, cond, ℕ}
use Rattle.std.specs.Float.Ieee.{eq}
use Rattle.float.specs.Float.{k1}
use Rattle.geometry.specs.declared.Rect.{Rect}
use Rattle.layout.specs.declared.Layout.{Layout}
use Rattle.search.specs.Widest.{WidestGame}
use Rattle.search.specs.Search.{aspect_of}
use Rattle.settings.specs.declared.PictureFit.TheVariants.{KeepClear}
use Rattle.settings.specs.declared.Preset.{Preset}
use Rattle.settings.specs.declared.Settings.{Settings}
use Rattle.settings.specs.Settings.{picture_fit_of}

-- the presets that it is about
pub record KeptClear (p : Preset) : Type 0 where
  -- "the fit is KeepClear if tag 4 gives it, by its byte or by the rule for an absent or unset one"
  pub fit : picture_fit_of p ≡ KeepClear
  -- "without overlap means bit 2 of tag 3 is zero"
  pub apart : p.overlap ≡ false
  -- "the size factor is game_scale"
  pub whole : eq p.scale k1 ≡ true

-- "the shape is w to h exactly as 4 to 3 or, for psp, as 480 to 272"
abbrev pub shape_width : Bool → ℕ
shape_width psp = cond psp 480 4

abbrev pub shape_height : Bool → ℕ
shape_height psp = cond psp 272 3

abbrev pub WidestPicture : Bool → Rect → Layout → Type 0
WidestPicture psp area l = WidestGame (shape_width psp) (shape_height psp) area (aspect_of psp) l

-- "the area is the order's tag 2 rectangle"
abbrev pub WidestFor : Settings → Layout → Type 0
WidestFor s l = KeptClear s.preset → WidestPicture s.preset.psp s.picture l
