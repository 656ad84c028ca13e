-- Rust's f32 operators as definitions write them, and the literals of the source by name, each with its bit pattern.
use Rattle.std.specs.Prelude.{ℕ, List, [], ◌∷◌, from_bits, Float}
use Rattle.std.specs.Float.Ieee as Ieee
use Rattle.std.specs.Float.{binary32}

infixl 6 ◌⊕◌
infixl 6 ◌⊖◌
infixl 7 ◌⊗◌
infixl 7 ◌⊘◌
abbrev pub ◌⊕◌ : Float → Float → Float
a ⊕ b = Ieee.add binary32 a b

abbrev pub ◌⊖◌ : Float → Float → Float
a ⊖ b = Ieee.sub binary32 a b

abbrev pub ◌⊗◌ : Float → Float → Float
a ⊗ b = Ieee.mul binary32 a b

abbrev pub ◌⊘◌ : Float → Float → Float
a ⊘ b = Ieee.div binary32 a b

abbrev pub k0 : Float
k0 = from_bits binary32 0x00000000

abbrev pub k0_01 : Float
k0_01 = from_bits binary32 0x3c23d70a

abbrev pub k0_055 : Float
k0_055 = from_bits binary32 0x3d6147ae

abbrev pub k0_09 : Float
k0_09 = from_bits binary32 0x3db851ec

abbrev pub k0_15 : Float
k0_15 = from_bits binary32 0x3e19999a

abbrev pub k0_25 : Float
k0_25 = from_bits binary32 0x3e800000

abbrev pub k0_4 : Float
k0_4 = from_bits binary32 0x3ecccccd

abbrev pub k0_5 : Float
k0_5 = from_bits binary32 0x3f000000

abbrev pub k0_75 : Float
k0_75 = from_bits binary32 0x3f400000

abbrev pub k1 : Float
k1 = from_bits binary32 0x3f800000

abbrev pub k1_35 : Float
k1_35 = from_bits binary32 0x3faccccd

abbrev pub k1_4 : Float
k1_4 = from_bits binary32 0x3fb33333

abbrev pub k2 : Float
k2 = from_bits binary32 0x40000000

abbrev pub k3 : Float
k3 = from_bits binary32 0x40400000

abbrev pub k3_99 : Float
k3_99 = from_bits binary32 0x407f5c29

abbrev pub k4 : Float
k4 = from_bits binary32 0x40800000

abbrev pub k6 : Float
k6 = from_bits binary32 0x40c00000

abbrev pub k8 : Float
k8 = from_bits binary32 0x41000000

abbrev pub k10 : Float
k10 = from_bits binary32 0x41200000

abbrev pub k12 : Float
k12 = from_bits binary32 0x41400000

abbrev pub k14 : Float
k14 = from_bits binary32 0x41600000

abbrev pub k16 : Float
k16 = from_bits binary32 0x41800000

abbrev pub k18 : Float
k18 = from_bits binary32 0x41900000

abbrev pub k20 : Float
k20 = from_bits binary32 0x41a00000

abbrev pub k24 : Float
k24 = from_bits binary32 0x41c00000

abbrev pub k28 : Float
k28 = from_bits binary32 0x41e00000

abbrev pub k32 : Float
k32 = from_bits binary32 0x42000000

abbrev pub k40 : Float
k40 = from_bits binary32 0x42200000

abbrev pub k44 : Float
k44 = from_bits binary32 0x42300000

abbrev pub k48 : Float
k48 = from_bits binary32 0x42400000

abbrev pub k50 : Float
k50 = from_bits binary32 0x42480000

abbrev pub k52 : Float
k52 = from_bits binary32 0x42500000

abbrev pub k56 : Float
k56 = from_bits binary32 0x42600000

abbrev pub k64 : Float
k64 = from_bits binary32 0x42800000

abbrev pub k68 : Float
k68 = from_bits binary32 0x42880000

abbrev pub k70 : Float
k70 = from_bits binary32 0x428c0000

abbrev pub k72 : Float
k72 = from_bits binary32 0x42900000

abbrev pub k76 : Float
k76 = from_bits binary32 0x42980000

abbrev pub k80 : Float
k80 = from_bits binary32 0x42a00000

abbrev pub k84 : Float
k84 = from_bits binary32 0x42a80000

abbrev pub k88 : Float
k88 = from_bits binary32 0x42b00000

abbrev pub k96 : Float
k96 = from_bits binary32 0x42c00000

abbrev pub k100 : Float
k100 = from_bits binary32 0x42c80000

abbrev pub k104 : Float
k104 = from_bits binary32 0x42d00000

abbrev pub k112 : Float
k112 = from_bits binary32 0x42e00000

abbrev pub k120 : Float
k120 = from_bits binary32 0x42f00000

abbrev pub k122 : Float
k122 = from_bits binary32 0x42f40000

abbrev pub k124 : Float
k124 = from_bits binary32 0x42f80000

abbrev pub k128 : Float
k128 = from_bits binary32 0x43000000

abbrev pub k136 : Float
k136 = from_bits binary32 0x43080000

abbrev pub k140 : Float
k140 = from_bits binary32 0x430c0000

abbrev pub k156 : Float
k156 = from_bits binary32 0x431c0000

abbrev pub k160 : Float
k160 = from_bits binary32 0x43200000

abbrev pub k164 : Float
k164 = from_bits binary32 0x43240000

abbrev pub k168 : Float
k168 = from_bits binary32 0x43280000

abbrev pub k176 : Float
k176 = from_bits binary32 0x43300000

abbrev pub k184 : Float
k184 = from_bits binary32 0x43380000

abbrev pub k192 : Float
k192 = from_bits binary32 0x43400000

abbrev pub k196 : Float
k196 = from_bits binary32 0x43440000

abbrev pub k200 : Float
k200 = from_bits binary32 0x43480000

abbrev pub k204 : Float
k204 = from_bits binary32 0x434c0000

abbrev pub k224 : Float
k224 = from_bits binary32 0x43600000

abbrev pub k240 : Float
k240 = from_bits binary32 0x43700000

abbrev pub k272 : Float
k272 = from_bits binary32 0x43880000

abbrev pub k288 : Float
k288 = from_bits binary32 0x43900000

abbrev pub k304 : Float
k304 = from_bits binary32 0x43980000

abbrev pub k320 : Float
k320 = from_bits binary32 0x43a00000

abbrev pub k336 : Float
k336 = from_bits binary32 0x43a80000

abbrev pub k360 : Float
k360 = from_bits binary32 0x43b40000

abbrev pub k480 : Float
k480 = from_bits binary32 0x43f00000

abbrev pub k600 : Float
k600 = from_bits binary32 0x44160000

abbrev pub k800 : Float
k800 = from_bits binary32 0x44480000

abbrev pub k8192 : Float
k8192 = from_bits binary32 0x46000000

-- Rust's `std::f32::consts::SQRT_2`
abbrev pub √2 : Float
√2 = from_bits binary32 0x3fb504f3

-- each literal with its decimal value, a numerator over a power of ten
unfoldable pub literals : List (Float × ℕ × ℕ)
literals =
    (k0, 0, 1)
    ∷ (k0_01, 1, 100)
    ∷ (k0_055, 55, 1000)
    ∷ (k0_09, 9, 100)
    ∷ (k0_15, 15, 100)
    ∷ (k0_25, 25, 100)
    ∷ (k0_4, 4, 10)
    ∷ (k0_5, 5, 10)
    ∷ (k0_75, 75, 100)
    ∷ (k1, 1, 1)
    ∷ (k1_35, 135, 100)
    ∷ (k1_4, 14, 10)
    ∷ (k2, 2, 1)
    ∷ (k3, 3, 1)
    ∷ (k3_99, 399, 100)
    ∷ (k4, 4, 1)
    ∷ (k6, 6, 1)
    ∷ (k8, 8, 1)
    ∷ (k10, 10, 1)
    ∷ (k12, 12, 1)
    ∷ (k14, 14, 1)
    ∷ (k16, 16, 1)
    ∷ (k18, 18, 1)
    ∷ (k20, 20, 1)
    ∷ (k24, 24, 1)
    ∷ (k28, 28, 1)
    ∷ (k32, 32, 1)
    ∷ (k40, 40, 1)
    ∷ (k44, 44, 1)
    ∷ (k48, 48, 1)
    ∷ (k50, 50, 1)
    ∷ (k52, 52, 1)
    ∷ (k56, 56, 1)
    ∷ (k64, 64, 1)
    ∷ (k68, 68, 1)
    ∷ (k70, 70, 1)
    ∷ (k72, 72, 1)
    ∷ (k76, 76, 1)
    ∷ (k80, 80, 1)
    ∷ (k84, 84, 1)
    ∷ (k88, 88, 1)
    ∷ (k96, 96, 1)
    ∷ (k100, 100, 1)
    ∷ (k104, 104, 1)
    ∷ (k112, 112, 1)
    ∷ (k120, 120, 1)
    ∷ (k122, 122, 1)
    ∷ (k124, 124, 1)
    ∷ (k128, 128, 1)
    ∷ (k136, 136, 1)
    ∷ (k140, 140, 1)
    ∷ (k156, 156, 1)
    ∷ (k160, 160, 1)
    ∷ (k164, 164, 1)
    ∷ (k168, 168, 1)
    ∷ (k176, 176, 1)
    ∷ (k184, 184, 1)
    ∷ (k192, 192, 1)
    ∷ (k196, 196, 1)
    ∷ (k200, 200, 1)
    ∷ (k204, 204, 1)
    ∷ (k224, 224, 1)
    ∷ (k240, 240, 1)
    ∷ (k272, 272, 1)
    ∷ (k288, 288, 1)
    ∷ (k304, 304, 1)
    ∷ (k320, 320, 1)
    ∷ (k336, 336, 1)
    ∷ (k360, 360, 1)
    ∷ (k480, 480, 1)
    ∷ (k600, 600, 1)
    ∷ (k800, 800, 1)
    ∷ (k8192, 8192, 1)
    ∷ (√2, 141421356237309504880, 100000000000000000000)
    ∷ []
