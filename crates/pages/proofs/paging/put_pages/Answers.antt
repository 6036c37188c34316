-- The pages of the rows, a page a turn.
use Rattle.std.proofs.Common.{◌≡◌, ◌+◌, ◌*◌, ◌<◌, [], ◌∷◌, ◌++◌, length, take, take_all, ap, ◌∙◌, length-take-le, length-drop, arith}
use Rattle.std.proofs.lemmas.List.{length_push}
use Rattle.output.proofs.WritingLaws.{nothing, then}
use Rattle.columns.proofs.PageLineLaws.{length_head, length_row}
use Rattle.pages.specs.Pages.{pages, page_count, lines_to}
use Rattle.pages.proofs.WrittenPages.{chunk, row_more, page_more, length_rows, page_room, pages_short, pages_put}
use Rattle.pages.proofs.paging.put_pages.Goals as goal

pub returns-then-out-need : goal.returns-then-out-need
returns-then-out-need c = rw c.into.ensures (pages_short c.args.rows.now (omega arith))

pub loop-page-init : goal.loop-page-init
unfolding lines_to
loop-page-init c = record { size = cc; left = cc; needed = omega arith; pages = nothing _ 0 }

pub loop-row-init : goal.loop-row-init
loop-row-init c = nothing _ _

pub loop-row-preserved : goal.loop-row-preserved
loop-row-preserved c =
    let rows = c.args.rows.now in
    let page = c.in-Some.page.now in
    let i = c.loop-row.row-index in
    let n = length c.loop-page.yielded in
    let p = c.loop-page.invariant in
    let s = c.in-Some.ensures.steps in
    let x = chunk rows n p.left s.1.0 (rw p.size at s.1.1) s.1.2 in
    let room = page_room x p.pages (omega arith) in
    let h = c.put_header-o.ensures.fits (omega (arith, length_head)) in
    let inside : i < length page = omega arith in
    let used = length-take-le i page (omega arith) in
    let w = c.put_row-o.ensures.fits (omega (arith, h.next, length_head, length_rows (take i page), length_row)) in
    rw (← row_more) at (then c.loop-row.invariant w)

pub loop-page-preserved : goal.loop-page-preserved
loop-page-preserved c =
    let rows = c.args.rows.now in
    let page = c.in-Some.page.now in
    let n = length c.loop-page.yielded in
    let p = c.loop-page.invariant in
    let s = c.in-Some.ensures.steps in
    let x = chunk rows n p.left s.1.0 (rw p.size at s.1.1) s.1.2 in
    let room = page_room x p.pages (omega arith) in
    let h = c.put_header-o.ensures.fits (omega (arith, length_head)) in
    let whole = rw (take_all c.loop-row.row-index page (omega arith)) at c.loop-row.invariant in
    let next : length (c.loop-page.yielded ++ c.in-Some.page ∷ []) ≡ n + 1 = length_push _ _ in
    record {
      size = s.0 ∙ p.size;
      left = rw next x.left;
      needed = rw next (omega (arith, x.more));
      pages = rw (next, page_more rows n, ← x.page) (then (then p.pages h) whole);
    }

pub returns : goal.returns
unfolding pages
returns c =
    let rows = c.args.rows.now in
    let n = length c.loop-page.yielded in
    let p = c.loop-page.invariant in
    let none = c.in-None.ensures.steps.1.0 in
    let all : n ≡ page_count (length rows) = omega (arith, none, p.needed, ap length p.left, length-drop (59 * n) rows) in
    pages_put rows (rw all at p.pages) (omega arith)
