-- The labels of the controls.
use Rattle.std.specs.Prelude.{Bool, true, false, List, [], ◌∷◌, ℕ, ◌^◌, eqb}
use Rattle.std.specs.Int.Bits.{bit_and}
use Rattle.layout.specs.declared.Label.{Label}
use Rattle.layout.specs.declared.Label.TheVariants.{Tri, O, X, Sq, L1, L2, R2, R1, Select, Start, L3, R3}

-- the number of a label's bit in a button mask
unfoldable pub id_of : Label → ℕ
id_of Tri = 9
id_of O = 8
id_of X = 0
id_of Sq = 1
id_of L1 = 10
id_of L2 = 12
id_of R2 = 13
id_of R1 = 11
id_of Select = 2
id_of Start = 3
id_of L3 = 14
id_of R3 = 15

-- `1 << id`
unfoldable pub mask_of : Label → ℕ
unfolding id_of
mask_of l = 2 ^ id_of l

unfoldable pub is_face_of : Label → Bool
is_face_of Tri = true
is_face_of O = true
is_face_of X = true
is_face_of Sq = true
is_face_of L1 = false
is_face_of L2 = false
is_face_of R2 = false
is_face_of R1 = false
is_face_of Select = false
is_face_of Start = false
is_face_of L3 = false
is_face_of R3 = false

-- A psp has the control: no high bit in its mask.
unfoldable pub on_psp_of : Label → Bool
unfolding mask_of
on_psp_of l = eqb (bit_and (mask_of l) 0xf000) 0

-- the film sheet's name of a label (document 01), in ASCII
unfoldable pub name_of : Label → List ℕ
name_of Tri = 84 ∷ 82 ∷ 73 ∷ []  -- TRI
name_of O = 79 ∷ []  -- O
name_of X = 88 ∷ []  -- X
name_of Sq = 83 ∷ 81 ∷ []  -- SQ
name_of L1 = 76 ∷ 49 ∷ []  -- L1
name_of L2 = 76 ∷ 50 ∷ []  -- L2
name_of R2 = 82 ∷ 50 ∷ []  -- R2
name_of R1 = 82 ∷ 49 ∷ []  -- R1
name_of Select = 83 ∷ 69 ∷ 76 ∷ 69 ∷ 67 ∷ 84 ∷ []  -- SELECT
name_of Start = 83 ∷ 84 ∷ 65 ∷ 82 ∷ 84 ∷ []  -- START
name_of L3 = 76 ∷ 51 ∷ []  -- L3
name_of R3 = 82 ∷ 51 ∷ []  -- R3
