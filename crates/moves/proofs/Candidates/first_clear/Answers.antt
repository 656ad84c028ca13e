-- The first move that passes, as `find` gives it.
use Rattle.std.proofs.Common.{◌≡◌, rules, tests, take, sym, ap}
use Rattle.std.specs.Prelude.{Option, unwrap_or}
use Rattle.std.specs.Option.{option_map}
use mathlib.Core.Path.{◌∙◌}
use denote.Ref.{Bor}
use lib.Ieee.{Float}
use Rattle.std.proofs.lemmas.Iterator.{YieldsList-from_slice, YieldsList-from_zip}
use Rattle.std.proofs.lemmas.Iterator.Search.{find_from_yields_List}
use Rattle.moves.specs.declared.Move.{Move}
use Rattle.moves.specs.declared.Move.TheVariants.{Stay, Go}
use Rattle.moves.specs.Moves.{all_clear_of, first_clear_of, moves_in}
use Rattle.moves.proofs.Inserts.{first_found}
use Rattle.moves.proofs.Candidates.first_clear.Goals as goal
use Rattle.moves.proofs.Candidates.first_clear.Goals.{After-find-found}

-- what becomes of the group by what was found in the two arrays
abbrev go_or_stay : Option (Bor Float × Bor Float) → Move
go_or_stay o = unwrap_or (option_map (λ (p : Float × Float). Go p.0 p.1) (option_map (λ (p : Bor Float × Bor Float). (p.0.now, p.1.now)) o)) Stay

found : (c : After-find-found) → go_or_stay c.find-found.result ≡ first_clear_of c.args.s.w c.args.s.h c.args.s.holes.now c.args.s.others.now c.args.original.now c.args.self.now
found c =
    let s = c.args.s in
    let m = c.self.inside in
    let clear = all_clear_of s.w s.h s.holes.now s.others.now c.args.original.now in
    let e = find_from_yields_List {s = c.zip.result} {all = moves_in m.dxs m.dys m.count} clear c.find-found.new.self _ c.find-found.result c.find-found.ensures.ran
    (YieldsList-from_zip {xs = take m.count m.dxs} {ys = take m.count m.dys} (YieldsList-from_slice _ (cc)) (YieldsList-from_slice _ (cc))) (λ x b q k. search (rules, tests)) in
    ap (λ o. unwrap_or (option_map (λ (p : Float × Float). Go p.0 p.1) o) Stay) e ∙ rw c.self.view_is (sym (first_found clear (λ (p : Float × Float). Go p.0 p.1) Stay c.args.self.now))

pub returns-in-Some : goal.returns-in-Some
returns-in-Some c = rw c.in-Some.is at (found (goal.at.returns-in-Some c).After-find-found)

pub returns-in-None : goal.returns-in-None
returns-in-None c = rw c.in-None.is at (found (goal.at.returns-in-None c).After-find-found)
