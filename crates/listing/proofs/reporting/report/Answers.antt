use Rattle.record.specs.File.{contents}
use Rattle.listing.proofs.ListLaws.{found_sites, found_fault, by_sites, reported_sites, reported_fault}
use Rattle.listing.proofs.reporting.report.Goals as goal

pub returns-in-Err : goal.returns-in-Err
returns-in-Err c =
    let list = c.args.list.bytes.now in
    let f = c.args.file.now in
    let p = c.put_refusal.ensures in
    let h = reported_fault list f c.args.out.now (found_fault list (contents list f) c.in-Err.ensures.answer) (p.answer, (p.buffer, (p.numbers, p.enough))) in
    record { answer = h.0; buffer = h.1.0; numbers = h.1.1.0; enough = h.1.1.1.0; demand3 = h.1.1.1.1 }

pub returns-in-Ok : goal.returns-in-Ok
returns-in-Ok c =
    let list = c.args.list.bytes.now in
    let f = c.args.file.now in
    let x = found_sites list (contents list f) c.in-Ok.ensures.answer in
    let p = c.put_listing.ensures in
    let h = reported_sites list f c.args.out.now x.ss x.holds (by_sites list f c.args.out.now x c.deref.ensures.0 p.answer p.buffer p.enough) in
    record { answer = h.0; buffer = h.1.0; numbers = h.1.1.0; enough = h.1.1.1.0; demand3 = h.1.1.1.1 }
