use Rattle.std.{proofs.Common.{◌≡◌, ◌+◌, drop, length}, specs.Prelude.replicate}
use Rattle.marple_base.specs.declared.field.TheConstants.{FIELDS}
use Rattle.trace_drive.specs.Kept.{written}
use Rattle.trace_drive.proofs.kept.row_into.Given as goal

-- with the words of the fields that are left, the words are those of the packet
abbrev pub invariant-loop-place : goal.invariant-loop-place
invariant-loop-place l = record {
  rest : written (drop l.place l.fields) (drop (l.start + l.place) l.words) l.packet.words
      ≡ written l.fields (drop l.start l.words) (replicate FIELDS 0);
  size : length l.packet.words ≡ FIELDS;
}
