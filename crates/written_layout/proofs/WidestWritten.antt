-- Demand 3 holds of the game and the elements that were written as it does of the layout's.
use mathlib.Core.Bool.{not}
use mathlib.Core.List.{List, ◌++◌, map}
use Prim.Native.Nat.{ℕ}
use lib.Dec.{T}
use lib.Ieee.{Float}
use Rattle.prelude.proofs.EachLaws.{each_map, each_unmap, each_imp}
use Rattle.geometry.specs.declared.Rect.{Rect}
use Rattle.layout.specs.declared.Layout.{Layout}
use Rattle.layout.specs.Layout.{elements_of}
use Rattle.numerics.specs.Rects.{WholeRect}
use Rattle.search.specs.Widest.{Exact, over, meets, Rival, Widest}
use Rattle.wire.specs.Wire.{plus_zero_rect}
use Rattle.writer.specs.Bytes.{layout_bytes}
use Rattle.written_layout.specs.Written.{written_game, written_elements, LayoutIsF32}
use Rattle.written_layout.proofs.PlusZero.{plus_zero_value, plus_zero_whole}
use Rattle.written_layout.proofs.ReadBack.{game_back, elements_back}

plus_zero_finite : (r : Rect) → WholeRect r → WholeRect (plus_zero_rect r)
plus_zero_finite r f = record { x = plus_zero_whole r.x f.x; y = plus_zero_whole r.y f.y; w = plus_zero_whole r.w f.w; h = plus_zero_whole r.h f.h }

module _ {p q : ℕ} {es : List Rect} {area : Rect} {found : Float} where
  rival_same : {d : ℕ} {r : Exact} → Rival p q (map plus_zero_rect es) area found d r → Rival p q es area found d r
  rival_same {d} {r} R = record {
    wide = R.wide;
    high = R.high;
    shape = R.shape;
    within = R.within;
    clear = each_imp _ _ (λ e t. simp plus_zero_value at t) es (each_unmap (λ e. T (not (meets r (over d e)))) plus_zero_rect es R.clear);
    position = R.position;
  }

  plus_zero_widest : {g : Rect} → Widest p q es area found g → Widest p q (map plus_zero_rect es) area found (plus_zero_rect g)
  plus_zero_widest {g} W = record {
    finite = plus_zero_finite g W.finite;
    finite_elements = each_map WholeRect plus_zero_rect es (each_imp _ _ plus_zero_finite es W.finite_elements);
    widest = λ d D r R. rw (plus_zero_value g.w) (W.widest d D r (rival_same R));
    apart = each_map _ plus_zero_rect es (each_imp _ _ (λ e t. simp plus_zero_value t) es W.apart);
  }

pub widest_written : (l : Layout) → LayoutIsF32 l → (rest : List ℕ) {p q : ℕ} {area : Rect} {found : Float} → Widest p q (elements_of l) area found l.game
    → Widest p q (written_elements (layout_bytes l ++ rest)) area found (written_game (layout_bytes l ++ rest))
widest_written l f rest W = rw (game_back l rest f, elements_back l rest f) (plus_zero_widest W)
