-- `mask_near`: no control is left, and the nearest face button is that of the kind of space that it is.
use mathlib.Core.Path.{◌≡◌, refl, ap, ◌∙◌}
use mathlib.Core.Bool.{Bool, true, false, cond}
use lib.Bits.{bit_or}
use lib.ListN.{drop_of_length-le}
use Rattle.layout.specs.Layout.{control_list}
use Rattle.touch.specs.declared.Face.{Face}
use Rattle.touch.specs.Touch.{is_free_of, nearest, mask_near_of}
use Rattle.touch.proofs.Blockers.{free_outside}
use Rattle.touch.proofs.mask_near.Goals as goal

-- the nearest of each kind, for the kind of space that it is
by_space : (free outside : Bool) (f : Bool → Face) {p q : Face} → (free ≡ true → outside ≡ true) → p ≡ f outside → q ≡ f false → cond free p.mask q.mask ≡ (f free).mask
by_space true outside f o e k = ap (λ (x : Face). x.mask) (e ∙ ap f (o refl))
by_space false outside f o e k = ap (λ (x : Face). x.mask) k

pub returns : goal.returns
unfolding mask_near_of
returns c =
    let s = c.args in
    let v = rw (drop_of_length-le c.control_list-c-items.result.now {i = c.loop-c.c-index} c.loop-c-test.false, c.control_list-c-items.ensures) at c.loop-c.invariant in
    let o = c.outside-outside in
    let face : Bool → Face = λ b. nearest s.x s.y b s.previous (control_list s.l) in
    let f = by_space (is_free_of s.l s.x s.y) o.result face (λ h. o.ensures ∙ free_outside s.l s.x s.y h) v.1 v.2 in
    rw (← c.dpad_mask.ensures, ← v.0) (ap (bit_or (bit_or c.dpad_mask.result c.loop-c.others)) (c.face_mask.ensures ∙ f))
