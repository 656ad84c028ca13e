-- The place of the first longer one, else the end.
use Rattle.std.proofs.Common.{rules, tests, length, map, take, ap}
use Rattle.std.specs.List.{position_or_len}
use mathlib.Core.Path.{◌∙◌}
use native.Mathlib.Omega.{arith}
use lib.Seq.{length-take-le}
use Rattle.std.proofs.lemmas.Iterator.{YieldsList-from_slice}
use Rattle.std.proofs.lemmas.Iterator.Search.{position_from_yields_List}
use Rattle.moves.specs.Moves.{length_of, shorter_of}
use Rattle.moves.proofs.Inserts.{place, moves_count}
use Rattle.moves.proofs.Candidates.slot.Goals as goal

pub returns : goal.returns
returns c =
    let s = c.self.inside in
    let found = position_from_yields_List {all = take s.count s.lens} (shorter_of c.args.len) _ _ c.position.result c.position.ensures.ran (YieldsList-from_slice _ (cc)) (λ x b q k. search (rules, tests)) in
    let k = place (shorter_of c.args.len) (take s.count s.lens) {n = s.count} (length-take-le s.count s.lens (omega arith)) found in
    let n = moves_count s.dxs s.dys s.count (omega arith) (omega arith) in (
      c.unwrap_or.ensures ∙ k.0 ∙ ap (position_or_len (shorter_of c.args.len)) (c.self.invariant.1 ∙ ap (map length_of) c.self.view_is),
      omega (arith, k.1, c.unwrap_or.ensures, ap length c.self.view_is, n),
    )
