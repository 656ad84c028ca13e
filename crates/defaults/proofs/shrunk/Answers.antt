-- By the test of the sizes: none of the elements scaled, or all, where they lie.
use mathlib.Core.Path.{◌≡◌, refl, ap, ◌∙◌}
use mathlib.Core.Bool.{Bool, true, false, not, ◌&&◌, ◌||◌}
use mathlib.Core.List.{List, ◌++◌, map}
use native.Mathlib.Omega.{arith}
use lib.Ieee.{ne}
use lib.ListN.{length, take, drop}
use lib.Seq.{take_at, length-take-le}
use Rattle.prelude.proofs.Loops.{sized}
use Rattle.geometry.specs.declared.Rect.{Rect}
use Rattle.layout.specs.Layout.{elements_of}
use Rattle.layout.specs.declared.Layout.{Layout}
use Rattle.layout.specs.Elements.{set_elements_of}
use Rattle.defaults.specs.Defaults.{scaled_rect_of, shrunk_of}
use Rattle.defaults.proofs.shrunk.Goals as goal

either_not : (a b : Bool) → (not a || not b) ≡ not (a && b)
either_not true b = refl
either_not false b = refl

kept : (l : Layout) (rs : List Rect) {m : Layout} → m ≡ set_elements_of l rs → (m.count ≡ l.count) × (m.stickcount ≡ l.stickcount)
unfolding set_elements_of
kept l rs e = (ap (λ (n : Layout). n.count) e, ap (λ (n : Layout). n.stickcount) e)

pub returns-then-eq : goal.returns-then-eq
unfolding shrunk_of ne
returns-then-eq c = (rw (either_not, ← c.eq.ensures, c.if-eq.true), refl, refl)

pub returns : goal.returns
unfolding shrunk_of ne
returns c =
    let a = c.args in
    let f = scaled_rect_of a.requested a.full in
    let n = c.elements-count.result.count in
    let all = c.elements-count.result.at in
    let places : length all ≡ 19 = search sized in
    let size : length c.scale.new.elements ≡ n = omega (arith, length-take-le n all (omega arith)) in
    let rest = drop n all in
    let now : take n (c.scale.new.elements ++ rest) ≡ map f (elements_of a.layout)
    = take_at c.scale.new.elements rest n size ∙ c.scale.ensures ∙ ap (map f) c.elements-count.ensures.items in
    let e : c.set_elements.result ≡ set_elements_of a.layout (map f (elements_of a.layout)) = c.set_elements.ensures ∙ ap (set_elements_of a.layout) now in
    let k = kept a.layout _ e in
    (rw (either_not, ← c.eq.ensures, c.if-eq.false) e, k.0, k.1)
