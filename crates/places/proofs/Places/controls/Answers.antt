-- The closure gives the control of each label.
use mathlib.Core.Path.{◌≡◌, refl}
use Rattle.std.proofs.Common.{rules}
use Rattle.std.proofs.lemmas.Fn.{answers_by}
use Rattle.places.specs.Places.{control_at_of}
use Rattle.places.proofs.Mapped.{mapped}
use Rattle.places.proofs.Places.controls.Goals as goal

pub returns : goal.returns
returns c = mapped _ (control_at_of c.args.self) _ _ c.map.ensures.items refl (answers_by _ _ (λ p. p.0.now ≡ c.args.self) (λ p a r q called e. search rules) _ refl)
