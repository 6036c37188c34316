-- Behind what is written so far, the columns that are left make the whole.
use Rattle.std.proofs.Common.{◌≡◌, ◌+◌, ◌++◌, length, take}
use Rattle.std.specs.Iterator.Adapters.{zip_first, zip_second}
use Rattle.std.specs.List.{flat_map, sum, zip}
use Rattle.std.specs.Slice.Iter.{iter_rest}
use Rattle.columns.specs.PageLine.{in_column, number_columns}
use Rattle.columns.proofs.line.put_numbers.Given as goal

abbrev pub invariant-loop-n : goal.invariant-loop-n
invariant-loop-n l =
    let ns = iter_rest (zip_first l.n-iterator) in
    let ws = iter_rest (zip_second l.n-iterator) in
    record {
      paired : length ns ≡ length ws;
      room : l.at + sum ws ≡ 48;
      whole : take l.at l.columns ++ flat_map in_column (zip ns ws) ≡ number_columns l.fn.ns;
    }
