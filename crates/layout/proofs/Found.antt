-- What holds of a layout, where there is one.
use mathlib.Core.Path.{◌≡◌, refl, ap, sym, subst}
use mathlib.Core.Bool.{Bool, not, cond}
use lib.Dec.{T}
use Rattle.std.specs.Prelude.{Option, Some, None, is_some}
use Rattle.prelude.proofs.Booleans.{by_test}
use Rattle.layout.specs.declared.Layout.{Layout}

abbrev pub Given : (Layout → Type 0) → Option Layout → Type 0
Given C o = (l : Layout) → o ≡ Some l → C l

abbrev value_or : Option Layout → Layout → Layout
value_or None d = d
value_or (Some l) d = l

module _ (C : Layout → Type 0) where
  pub nothing : Given C None
  nothing l e = absurd (subst (λ o. T (is_some o)) (sym e) tt)

  pub given : {m : Layout} → C m → Given C (Some m)
  given {m} p l e = subst C (ap (λ o. value_or o m) e) p

  -- there is none where a test passes
  pub guard : (a : Bool) {o : Option Layout} → (T (not a) → Given C o) → Given C (cond a None o)
  guard a f = by_test (Given C) a (λ t. nothing) f

pub maybe_case : (P : Option Layout → Type 0) (o : Option Layout) → P None → Given (λ l. P (Some l)) o → P o
maybe_case P None p q = p
maybe_case P (Some l) p q = q l refl
