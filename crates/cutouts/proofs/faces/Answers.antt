-- One control more, if it is a face; together they are as many as the layout's faces.
use native.Mathlib.Omega.{arith}
use mathlib.Core.Path.{◌≡◌, ap, ◌∙◌}
use mathlib.Core.List.{[], ◌∷◌}
use lib.ListN.{length, length-append, get_or, take}
use lib.Seq.{take_all}
use Prim.Native.Nat.{ℕ, ◌+◌, ◌<◌, ◌≤◌}
use Rattle.prelude.specs.Lists.{enumerate_from}
use Rattle.prelude.proofs.ListLaws.{length_enumerate}
use Rattle.prelude.proofs.Loops.{in_array}
use Rattle.layout.specs.declared.Control.{Control}
use Rattle.layout.specs.Actions.{action_elements_of}
use Rattle.layout.specs.Label.{is_face_of}
use Rattle.layout.specs.Layout.{any_control, control_list}
use Rattle.cutouts.proofs.Groups.{faces_of, face_one, face_none, faces_below, fewer_passed}
use Rattle.cutouts.proofs.faces.Goals.{then-is_face, else-is_face}
use Rattle.cutouts.proofs.faces.Goals as goal

pub push-requires : goal.push-requires
unfolding action_elements_of
push-requires c =
    let cs = control_list c.args.l in
    let i = c.loop-i.i in
    let h : i < length cs = rw c.control_list-c-items.ensures at c.loop-i-test.true in
    let e : c.is_face.result ≡ is_face_of (get_or cs i any_control).label = rw c.control_list-c-items.ensures at c.is_face.ensures in
    let more = face_one cs i h e c.if-is_face.true in
    let fewer = fewer_passed (λ (e : ℕ × Control). is_face_of e.1.label) (λ (e : ℕ × Control). e.0) (i + 1) (enumerate_from 1 cs) in
    (omega arith, omega (arith, ap length c.loop-i.invariant, ap length more, length-append (faces_of (take i (enumerate_from 1 cs))) ((i + 1) ∷ []), fewer))

pub loop-i-preserved : goal.loop-i-preserved
loop-i-preserved c =
    let cs = control_list c.args.l in
    let i = c.loop-i.i in
    let h : i < length cs = rw c.control_list-c-items.ensures at c.loop-i-test.true in
    let e : c.is_face.result ≡ is_face_of (get_or cs i any_control).label = rw c.control_list-c-items.ensures at c.is_face.ensures in
    elim c.if-is_face.branch [
      | then-is_face w ↦ rw (w.out-is, w.push.ensures.items, face_one cs i h e w.if-is_face.true, ← c.loop-i.invariant)
      | else-is_face w ↦ rw (w.out-is, face_none cs i h e w.if-is_face.false) c.loop-i.invariant
    ]

pub returns : goal.returns
unfolding action_elements_of
returns c =
    let cs = control_list c.args.l in
    let h : length cs ≤ c.loop-i.i = rw c.control_list-c-items.ensures at c.loop-i-test.false in
    let all : c.loop-i.out.items ≡ action_elements_of c.args.l = c.loop-i.invariant ∙ ap faces_of (take_all c.loop-i.i (enumerate_from 1 cs) (rw length_enumerate h)) in
    (all, rw all (faces_below c.args.l _ (omega arith) (search (in_array, arith))))
