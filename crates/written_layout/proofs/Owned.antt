-- The numbers of a layout that a program holds are values of binary32: owning it says so.
use mathlib.Core.Path.{◌≡◌}
use mathlib.Core.Bool.{true}
use mathlib.Core.List.{List, [], ◌∷◌}
use Prim.Native.Nat.{ℕ}
use denote.Array.{Array, each}
use denote.Laws.{Is}
use denote.Shadow.{shadow}
use denote.RattleType.{RattleType}
use mir.Val.{Val}
use Rattle.prelude.specs.Each.{Each}
use Rattle.geometry.specs.declared.Rect.{Rect}
use Rattle.geometry.specs.Rect.{rect_is_f32}
use Rattle.geometry.specs.contracts.Rect as Rect
use Rattle.layout.specs.declared.Layout.{Layout}
use Rattle.layout.specs.contracts.Control as Control
use Rattle.layout.specs.contracts.Layout as Layout
use Rattle.written_layout.specs.Written.{LayoutIsF32}
use Rattle.layout_ranges.proofs.Changes.{elements_in}

-- what owning an element says, of each element of an array
module _ (R : RattleType) (C : R.Denot → Type 0) (f : (x : R.Denot) (vs : List Val) → Is R x vs → C x) where
  each_owned : (xs : List R.Denot) (us : List Val) → shadow (each R.Denot R.own_val xs us) → Each C xs
  each_owned [] us p = tt
  each_owned (x ∷ xs) [] p = absurd p
  each_owned (x ∷ xs) (u ∷ us) p = (f x (u ∷ []) p.0, each_owned xs us p.1)

  array_owned : (n : ℕ) (xs : List R.Denot) (vs : List Val) → Is (Array R n) xs vs → Each C xs
  array_owned n xs vs p = each_owned xs p.0 p.1.1

rect_owned : (r : Rect) (vs : List Val) → Is Rect.the_row r vs → rect_is_f32 r ≡ true
unfolding rect_is_f32
rect_owned r vs p = let f = p.1.1 in rw (f.0.1, f.1.0.1, f.1.1.0.1, f.1.1.1.0.1)

-- `c.good` of a parameter, and `.ok` of the result of a call, say what is asked
pub layout_owned : (l : Layout) (vs : List Val) → Is Layout.the_row l vs → LayoutIsF32 l
layout_owned l vs p =
    let f = p.1.1 in
    let after = f.1.1.1.1 in
    record {
      game = rect_owned l.game _ f.0;
      elements = elements_in l (record {
        dpad = rect_owned l.dpad _ f.1.0;
        controls = array_owned Control.the_row _ (λ c us q. rect_owned c.bounds _ q.1.1.0) 12 l.controls _ f.1.1.0;
        pause = rect_owned l.pause _ after.0;
        playback = rect_owned l.playback _ after.1.0;
        speed = rect_owned l.speed _ after.1.1.0;
        mute = rect_owned l.mute _ after.1.1.1.0;
        sticks = array_owned Rect.the_row _ rect_owned 2 l.sticks _ after.1.1.1.1.0;
      });
    }
