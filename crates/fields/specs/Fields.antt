-- A field, or none where what it says is left out.
use Rattle.std.specs.Prelude.{Bool, cond, List, [], ℕ}
use Rattle.wire.specs.Wire.{field_bytes}

abbrev pub field_unless : Bool → ℕ → List ℕ → List ℕ
field_unless absent tag value = cond absent [] (field_bytes tag value)
