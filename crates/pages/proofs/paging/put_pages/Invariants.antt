-- The first pages are written, and of the next page the header and the first rows.
use Rattle.std.proofs.Common.{◌≡◌, ◌+◌, ◌*◌, ◌<◌, length, map, take, drop}
use Rattle.std.specs.Slice.Iter.{chunks_rest, chunks_size}
use Rattle.output.specs.Writing.{Wrote}
use Rattle.std.specs.Prelude.{flat_map}
use Rattle.columns.specs.PageLine.{row_line, ended}
use Rattle.pages.specs.Pages.{lines_to}
use Rattle.pages.proofs.paging.put_pages.Given as goal

abbrev pub invariant-loop-page : goal.invariant-loop-page
invariant-loop-page l =
    let n = length l.yielded in
    record {
      size : chunks_size l.page-iterator ≡ 59;
      left : chunks_rest l.page-iterator ≡ drop (59 * n) l.rows;
      needed : 59 * n < length l.rows + 59;
      pages : Wrote l.initial.out 0 (flat_map ended (lines_to l.rows n)) l.out l.o;
    }

abbrev pub invariant-loop-row : goal.invariant-loop-row
invariant-loop-row l = Wrote l.initial.out l.initial.o (flat_map ended (map row_line (take l.row-index l.page))) l.out l.o
