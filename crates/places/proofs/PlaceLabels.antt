-- The labels, counts and arrays of a layout whose controls are put at places.
use mathlib.Core.Path.{refl}
use mathlib.Core.List.{List}
use Prim.Native.Nat.{ℕ}
use Rattle.layout.specs.declared.Label.{Label}
use Rattle.layout.specs.declared.Layout.{Layout}
use Rattle.layout.specs.Labels.{Formed}
use Rattle.layout.proofs.LabelLaws.{mapped_formed}
use Rattle.places.specs.declared.Places.{Places}
use Rattle.places.specs.Places.{placed_control, placed_of}

pub placed_formed : (labels : List Label) (sticks : ℕ) (l : Layout) (p : Places) → Formed labels sticks l → Formed labels sticks (placed_of l p)
unfolding placed_of
placed_formed labels sticks l p f = mapped_formed labels sticks l (placed_control p) (λ c. refl) f
