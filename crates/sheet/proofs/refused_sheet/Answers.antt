-- `refused_sheet` puts the refusal's line at the start of zeros, where it fits.
use native.Mathlib.Omega.{arith}
use Rattle.sheet.specs.Sheet.{refused_text, refused_sheet_of}
use Rattle.sheet.proofs.SheetLaws.{refused_fits}
use Rattle.sheet.proofs.Pages.{page_is}
use Rattle.sheet.proofs.refused_sheet.Goals as goal

pub returns : goal.returns
unfolding refused_sheet_of refused_text
returns c = page_is (refused_text c.args.n) c.put_head-len.ensures (omega (arith, refused_fits c.args.n c.requires))
