-- The name of a label has at most six bytes.
use Prim.Native.Nat.{◌≤◌}
use lib.Dec.{lit≤}
use lib.ListN.{length}
use Rattle.layout.specs.declared.Label.{Label}
use Rattle.layout.specs.declared.Label.TheVariants.{Tri, O, X, Sq, L1, L2, R2, R1, Select, Start, L3, R3}
use Rattle.layout.specs.Label.{name_of}

pub length_name : (l : Label) → length (name_of l) ≤ 6
unfolding name_of
length_name Tri = lit≤ tt
length_name O = lit≤ tt
length_name X = lit≤ tt
length_name Sq = lit≤ tt
length_name L1 = lit≤ tt
length_name L2 = lit≤ tt
length_name R2 = lit≤ tt
length_name R1 = lit≤ tt
length_name Select = lit≤ tt
length_name Start = lit≤ tt
length_name L3 = lit≤ tt
length_name R3 = lit≤ tt
