use Rattle.std.proofs.lemmas.Result.{err_from_is_err_and}
use Rattle.record.specs.File.{contents}
use Rattle.text.specs.TextLengths.{most_text}
use Rattle.listing.specs.Reports.{listing_of}
use Rattle.listing.specs.PrintedDemand3.{LinesSay}
use Rattle.listing.proofs.ListLaws.{found_sites, found_fault, by_sites, listed_sites, filed_fault}
use Rattle.listing.proofs.listing.list.Goals as goal

pub returns-in_err-rows : goal.returns-in_err-rows
returns-in_err-rows c =
    let list = c.args.species.bytes.now in
    let f = c.args.file.now in
    let p = err_from_is_err_and c.from_residual.result c.from_residual.ensures.1 in
    let h = filed_fault most_text (listing_of list) LinesSay list f c.args.out.now (found_fault list (contents list f) c.in_err-rows.ensures.answer) in
    rw (p.1, p.2) (record { answer = h.0; buffer = h.1.0; numbers = h.1.1.0; enough = h.1.1.1.0; demand3 = h.1.1.1.1 })

pub returns : goal.returns
returns c =
    let list = c.args.species.bytes.now in
    let f = c.args.file.now in
    let x = found_sites list (contents list f) c.in_ok-rows.ensures.answer in
    let p = c.put_listing.ensures in
    let h = listed_sites list f c.args.out.now x.ss x.holds (by_sites list f c.args.out.now x c.deref.ensures.0 p.answer p.buffer p.enough) in
    record { answer = h.0; buffer = h.1.0; numbers = h.1.1.0; enough = h.1.1.1.0; demand3 = h.1.1.1.1 }
