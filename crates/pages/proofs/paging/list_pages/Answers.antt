use Rattle.std.proofs.Common.{◌∙◌, arith}
use Rattle.std.proofs.lemmas.Result.{err_from_is_err_and}
use Rattle.record.specs.File.{contents}
use Rattle.listing.proofs.ListLaws.{found_sites, found_fault, filed_fault}
use Rattle.pages.specs.Pages.{pages_of, most_pages}
use Rattle.pages.specs.PagesDemand3.{PagesSay}
use Rattle.pages.proofs.PagesLaws.{paged}
use Rattle.pages.proofs.paging.list_pages.Goals as goal

pub returns-in_err-rows : goal.returns-in_err-rows
returns-in_err-rows c =
    let list = c.args.list.bytes.now in
    let f = c.args.file.now in
    let p = err_from_is_err_and c.from_residual.result c.from_residual.ensures.1 in
    let h = filed_fault most_pages (pages_of list) PagesSay list f c.args.out.now (found_fault list (contents list f) c.in_err-rows.ensures.answer) in
    rw (p.1, p.2) (record { answer = h.0; buffer = h.1.0; numbers = h.1.1.0; enough = h.1.1.1.0; demand3 = h.1.1.1.1 })

pub returns : goal.returns
returns c =
    let list = c.args.list.bytes.now in
    let f = c.args.file.now in
    let x = found_sites list (contents list f) c.in_ok-rows.ensures.answer in
    let e = rw (c.deref.ensures.0 ∙ x.lines) at c.put_pages.ensures in
    let h = paged list f c.args.list.whole (λ i. omega (arith, c.type_inv.file i)) c.args.out.now x.ss x.holds e.0 e.1 in
    record { answer = h.0; buffer = h.1.0; numbers = h.1.1.0; enough = h.1.1.1.0; demand3 = h.1.1.1.1 }
