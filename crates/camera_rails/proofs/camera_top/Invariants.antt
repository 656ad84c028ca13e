-- The top among the cutouts so far.
use Rattle.std.proofs.Common.{◌≡◌, take}
use Rattle.camera_rails.specs.CameraRails.{camera_top_of}
use Rattle.camera_rails.proofs.camera_top.Given as goal

abbrev pub invariant-loop-c : goal.invariant-loop-c
invariant-loop-c l = l.top ≡ camera_top_of l.w l.h l.rail (take l.c-index l.cutouts)
