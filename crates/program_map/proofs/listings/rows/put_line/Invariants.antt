use Rattle.std.proofs.Common.{◌≡◌, ◌++◌, [], map}
use Rattle.std.specs.List.{flat_map}
use Rattle.std.specs.Slice.Iter.{chunks_rest, chunks_size}
use Rattle.program_map.specs.Listings.Printed.{listed_line, listing_row, rows}
use Rattle.program_map.specs.Private.Runs.{byte_of}
use Rattle.program_map.proofs.listings.rows.put_line.Given as goal

-- The rows so far and those that are left are all rows.
abbrev pub invariant-loop-row : goal.invariant-loop-row
invariant-loop-row l = record {
  can_next : (goal.iterator-loop-row).can_next l.row-iterator;
  finite : (goal.iterator-loop-row).is_finite l.row-iterator;
  size : chunks_size l.row-iterator ≡ 4;
  all : l.out.items ++ flat_map (listing_row []) (rows (map byte_of (chunks_rest l.row-iterator))) ≡ l.fn.out.items ++ listed_line l.text (map byte_of l.fn.cells);
}
