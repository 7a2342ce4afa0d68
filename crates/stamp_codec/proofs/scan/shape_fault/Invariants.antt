use Rattle.std.proofs.Common.{take}
use Rattle.stamp_codec.specs.Flat.{OpensNowhere, IsFlat}
use Rattle.stamp_codec.proofs.Places.{LeadsTo}
use Rattle.stamp_codec.proofs.scan.shape_fault.Given as goal

abbrev pub invariant-loop-place : goal.invariant-loop-place
invariant-loop-place l = record {
  leads : LeadsTo (take l.place l.text) l.scan.awaited l.scan.inside;
  flat : OpensNowhere l.text → IsFlat l.scan;
}
