-- Accepted settings that a program holds fit their arrays: owning them says how long these are.
use mathlib.Core.Path.{◌≡◌}
use mathlib.Core.Bool.{true}
use mathlib.Core.List.{List}
use native.Mathlib.Omega.{arith}
use denote.Laws.{Is}
use lib.ListN.{length}
use mir.Val.{Val}
use Rattle.prelude.proofs.Loops.{sized}
use Rattle.settings.specs.declared.Settings.{Settings}
use Rattle.settings.specs.Settings.{accepted_of, Fitting}
use Rattle.settings.proofs.Accepted.{few_settings}
use Rattle.settings.specs.contracts.Settings as Settings

pub settings_fit : (s : Settings) {vs : List Val} → Is Settings.the_row s vs → accepted_of s ≡ true → Fitting s
settings_fit s owned a =
    let few = few_settings s a in
    let cutouts : length s.cutouts.at ≡ 16 = search sized in
    let elements : length s.preset.elements ≡ 32 = search sized in
    (omega arith, omega arith)
