-- `layout_lines`: the loop over the controls leaves their lines behind two, the loop over the sticks theirs behind the toolbar's.
use mathlib.Core.Path.{◌≡◌, ap, sym, ◌∙◌}
use mathlib.Core.List.{List, [], ◌∷◌, ◌++◌, map, map-append, append_assoc, zip_with}
use Prim.Native.Nat.{ℕ, ◌<◌}
use native.Mathlib.Numerals.{add-one}
use native.Mathlib.Omega.{arith}
use denote.Ref.{Bor}
use lib.ListN.{length, get_or, take, length-append, length-take, get_or-map}
use lib.Seq.{take_all}
use Rattle.std.proofs.lemmas.Slice.Zip.{zip_turn, zip_end}
use Rattle.prelude.proofs.EachLaws.{each_at, each_take}
use Rattle.layout.specs.Layout.{any_rect, control_list, stick_list}
use Rattle.numerics.specs.Rects.{Element}
use Rattle.lines.specs.Line.{line_of}
use Rattle.sheet.specs.Sheet.{game_name, dpad_name, left_name, right_name, control_line, lines_of, toolbar_lines, stick_lines}
use Rattle.sheet.proofs.SheetLaws.{element_printable, next_stick}
use Rattle.sheet.proofs.layout_lines.Goals as goal

abbrev any_name : Bor (List ℕ)
any_name = record { ref_ptr = (0, 0); now = [] }

four : {A : Type 0} (xs : List A) (a b c d : A) → (((xs ++ (a ∷ [])) ++ (b ∷ [])) ++ (c ∷ [])) ++ (d ∷ []) ≡ xs ++ (a ∷ b ∷ c ∷ d ∷ [])
four xs a b c d = simp append_assoc

behind : {A : Type 0} (xs ys zs : List A) (a : A) → (xs ++ (ys ++ zs)) ++ (a ∷ []) ≡ xs ++ (ys ++ (zs ++ (a ∷ [])))
behind xs ys zs a = simp append_assoc

pub loop-name-init : goal.loop-name-init
unfolding toolbar_lines stick_lines zip_with
loop-name-init c =
    let l = c.args.l in
    let controls = c.loop-c.invariant in
    let whole : take c.loop-c.c-index (control_list c.args.l) ≡ control_list c.args.l = take_all c.loop-c.c-index (control_list c.args.l) (omega (arith, ap length controls.all)) in
    let before = rw controls.all at controls.lines in
    record {
      count = omega (arith, ap length controls.all);
      lines = rw (c.push-6.ensures.items, c.push-5.ensures.items, c.push-4.ensures.items, c.push-3.ensures.items)
          (simp map-append (rw (before, whole, c.sheet_line-3.ensures.line, c.sheet_line-4.ensures.line, c.sheet_line-5.ensures.line, c.sheet_line-6.ensures.line) (four (line_of game_name l.game ∷ line_of dpad_name l.dpad ∷ map control_line (control_list l)) _ _ _ _)));
    }

pub sheet_line-requires-in-loop-name : goal.sheet_line-requires-in-loop-name
sheet_line-requires-in-loop-name c =
    let l = c.loop-name in
    let second : c.zip-name-items.result.b.rest.now ≡ c.stick_list.result.now = c.zip-name-items.ensures.second.0 in
    let turn = zip_turn c.iter.result.rest.now (stick_list c.args.l) l.yielded c.into_iter-name-iterator.result l.name-iterator c.next.new.self c.next.result (cc) (rw c.into_iter-name-iterator.ensures.into_iter_gives (second ∙ c.stick_list.ensures)) l.yielded_by (c.in-Some.name, c.in-Some.r) c.in-Some.is c.next.ensures.steps in
    rw (turn.3 any_rect) (element_printable (each_at Element (length l.yielded) (stick_list c.args.l) any_rect turn.1 (each_take Element c.args.l.stickcount c.args.l.sticks c.requires.1.sticks)))

pub loop-name-preserved : goal.loop-name-preserved
loop-name-preserved c =
    let s = c.args.l in
    let l = c.loop-name in
    let second : c.zip-name-items.result.b.rest.now ≡ c.stick_list.result.now = c.zip-name-items.ensures.second.0 in
    let turn = zip_turn c.iter.result.rest.now (stick_list c.args.l) l.yielded c.into_iter-name-iterator.result l.name-iterator c.next.new.self c.next.result (cc) (rw c.into_iter-name-iterator.ensures.into_iter_gives (second ∙ c.stick_list.ensures)) l.yielded_by (c.in-Some.name, c.in-Some.r) c.in-Some.is c.next.ensures.steps in
    let few : length l.yielded < 2 = omega (arith, turn.0, ap length c.iter.ensures.rest) in
    let names : map (λ (b : Bor (List ℕ)). b.now) c.iter.result.rest.now ≡ left_name ∷ right_name ∷ [] = ap (map (λ (b : Bor (List ℕ)). b.now)) c.iter.ensures.rest in
    let name : c.in-Some.name.now.now ≡ get_or (left_name ∷ right_name ∷ []) (length l.yielded) [] =
    ap (λ (b : Bor (List ℕ)). b.now) (turn.2 any_name) ∙ sym (get_or-map (λ (b : Bor (List ℕ)). b.now) c.iter.result.rest.now (length l.yielded) any_name) ∙ ap (λ (ns : List (List ℕ)). get_or ns (length l.yielded) []) names in
    record {
      count = simp length-append (omega arith);
      lines = rw (c.push-in-loop-name.ensures.items, map-append, l.invariant.lines, c.sheet_line-in-loop-name.ensures.line, c.as_bytes-in-loop-name.ensures.value, length-append, add-one, next_stick _ _ turn.1 few name (turn.3 any_rect))
          (behind (line_of game_name s.game ∷ line_of dpad_name s.dpad ∷ map control_line (control_list s)) (toolbar_lines s) (stick_lines (take (length l.yielded) (stick_list s))) _);
    }

pub returns : goal.returns
unfolding lines_of
returns c =
    let l = c.loop-name in
    let second : c.zip-name-items.result.b.rest.now ≡ c.stick_list.result.now = c.zip-name-items.ensures.second.0 in
    let end = zip_end c.iter.result.rest.now (stick_list c.args.l) l.yielded c.into_iter-name-iterator.result l.name-iterator c.next.new.self c.next.result (cc) (rw c.into_iter-name-iterator.ensures.into_iter_gives (second ∙ c.stick_list.ensures)) l.yielded_by c.in-None.is c.next.ensures.steps in
    let all = take_all (length l.yielded) (stick_list c.args.l) (omega (arith, end, ap length c.iter.ensures.rest, length-take c.args.l.stickcount c.args.l.sticks)) in
    l.invariant.lines ∙ rw all
