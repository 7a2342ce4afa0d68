use Rattle.std.proofs.Common.{◌≡◌, map, vec_capacity, vec_len}
use Rattle.tenant_ledger.proofs.book.packing.pack_all_but.Given as goal

abbrev pub invariant-loop-place : goal.invariant-loop-place
invariant-loop-place g l = record {
  ids : map g.I.KeptId.id l.ids.items ≡ map g.I.KeptId.id l.fn.ids.items;
  len : vec_len l.ids ≡ vec_len l.fn.ids;
  capacity : vec_capacity l.ids ≡ vec_capacity l.fn.ids;
}
