-- What accepted settings hold, part by part.
use mathlib.Core.Path.{◌≡◌, refl, ap, sym, ◌∙◌}
use mathlib.Core.Bool.{Bool, true, false}
use Prim.Native.Nat.{ℕ, suc, ◌/◌, ◌^◌, ◌≤◌}
use native.Mathlib.Omega.{arith}
use borrow.Author.Tests.{eqb-true, leb-true}
use denote.Floats.{passes}
use lib.Dec.{T, eqb, leb}
use lib.Ieee.{Float, le, of_bits}
use lib.Ieee.Scale.{finite}
use Rattle.prelude.specs.Answer.{Answer, accepted, refusal_of, must}
use Rattle.prelude.proofs.Booleans.{both}
use Rattle.float.specs.Float.{k0, k8192}
use Rattle.float.proofs.Ends.{finite_between}
use Rattle.settings.specs.declared.Settings.{Settings}
use Rattle.settings.specs.Settings.{in_limits_of, screen_in_limits_of, rect_in_limits_of, place_in_limits_of, cutouts_in_limits_of, tops_in_limits_of, tested_of, first_fault_of, accepted_of}

pub record Accepted (s : Settings) : Type 0 where
  pub screen : screen_in_limits_of s.w s.h ≡ true
  pub picture : rect_in_limits_of k0 s.picture ≡ true
  pub place : place_in_limits_of s.preset.scale s.preset.offset ≡ true
  pub few_cutouts : leb s.cutouts.count 16 ≡ true
  pub cutouts : cutouts_in_limits_of s.cutouts ≡ true
  pub few_saved : leb s.preset.count 32 ≡ true

-- ---- what tested settings give, by the number of their first fault

-- a test was met, if what it gives is no refusal
no_refusal : {A : Type 0} (test : Bool) (n : ℕ) (a : Answer A) → refusal_of (must test (suc n) a) ≡ 0 → (test ≡ true) × (refusal_of a ≡ 0)
unfolding must
no_refusal true n a e = (refl, e)
no_refusal false n a e = absurd (let z : ⊥ = omega arith in z)

module _ (mode fit : ℕ) (s : Settings) where
  record Met : Type 0 where
    parts : Accepted s
    even_mode : eqb (mode / 2 ^ 3) 0 ≡ true
    known_fit : leb fit 2 ≡ true

  met : refusal_of (tested_of mode fit s) ≡ 0 → Met
  unfolding tested_of
  met e =
      let screen = no_refusal _ 5 _ e in
      let picture = no_refusal _ 5 _ screen.1 in
      let marks = no_refusal _ 4 _ picture.1 in
      let fits = no_refusal _ 4 _ marks.1 in
      let place = no_refusal _ 5 _ fits.1 in
      let few = no_refusal _ 6 _ place.1 in
      let cutouts = no_refusal _ 5 _ few.1 in
      let saved = no_refusal _ 6 _ cutouts.1 in
      record {
        parts = record { screen = screen.0; picture = picture.0; place = place.0; few_cutouts = few.0; cutouts = cutouts.0; few_saved = saved.0 };
        even_mode = marks.0;
        known_fit = fits.0;
      }

  tested : Met → tested_of mode fit s ≡ accepted s
  unfolding tested_of must
  tested m = let p = m.parts in rw (p.screen, p.picture, m.even_mode, m.known_fit, p.place, p.few_cutouts, p.cutouts, p.few_saved)

pub parts_accepted : (s : Settings) → Accepted s → accepted_of s ≡ true
unfolding accepted_of first_fault_of
parts_accepted s p = rw (tested 0 0 s (record { parts = p; even_mode = refl; known_fit = refl }))

pub accepted_parts : (s : Settings) → accepted_of s ≡ true → Accepted s
unfolding accepted_of first_fault_of
accepted_parts s e = (met 0 0 s (eqb-true _ 0 e)).parts

module _ (mode fit : ℕ) (s : Settings) where
  pub no_fault : first_fault_of mode fit s ≡ 0 → (tested_of mode fit s ≡ accepted s) × (accepted_of s ≡ true)
  unfolding first_fault_of
  no_fault e = let m = met mode fit s e in (tested mode fit s m, parts_accepted s m.parts)

  -- where settings are tested, what follows has them as they were, and they are accepted
  pub tested_settings : {t : Settings} → tested_of mode fit s ≡ accepted t → (t ≡ s) × (accepted_of s ≡ true)
  tested_settings {t} e = let m = met mode fit s (ap refusal_of e) in (same (sym e ∙ tested mode fit s m), parts_accepted s m.parts)
    where
      same : accepted t ≡ accepted s → t ≡ s
      same h = cc

pub few_settings : (s : Settings) → accepted_of s ≡ true → (s.preset.count ≤ 32) × (s.cutouts.count ≤ 16)
few_settings s e = let a = accepted_parts s e in (leb-true _ _ a.few_saved, leb-true _ _ a.few_cutouts)

-- ---- what clamp's ends want: finite sides, and a reusable top of 0 at least
finite_side : (x : Float) → in_limits_of k0 x ≡ true → T (finite x)
unfolding in_limits_of of_bits
finite_side x e = let b = both (le k0 x) (le x k8192) e in finite_between k0 x k8192 tt tt (passes _ b.0) (passes _ b.1)

pub finite_sides : (w h : Float) → screen_in_limits_of w h ≡ true → T (finite w) × T (finite h)
unfolding screen_in_limits_of
finite_sides w h e = let b = both _ _ e in (finite_side w b.0, finite_side h b.1)

pub finite_screen : (s : Settings) → accepted_of s ≡ true → T (finite s.w) × T (finite s.h)
finite_screen s e = finite_sides s.w s.h (accepted_parts s e).screen

pub tops_least : (reusable covered : Float) → tops_in_limits_of reusable covered ≡ true → T (le k0 reusable)
unfolding tops_in_limits_of in_limits_of
tops_least reusable covered e = passes _ (both (le k0 reusable) (le reusable k8192) (both _ _ e).0).0
