-- The byte's three bits: `test_bit`.
use Rattle.prelude.specs.Bits.{has_bit}
use Rattle.prelude.proofs.BitLaws.{test_bit}
use Rattle.settings.specs.Settings.{has_bit as is_set}
use Rattle.settings.proofs.Preset.with_mode_byte.Goals as goal

pub returns : goal.returns
unfolding has_bit is_set
returns c = let b = c.args.b in rw (test_bit b 0, test_bit b 1, test_bit b 2)
