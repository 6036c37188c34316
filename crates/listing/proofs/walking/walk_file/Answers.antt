use Rattle.std.proofs.Common.{◌≡◌, sym, ap, ◌∙◌, Ok, Err, Some, arith}
use Rattle.std.proofs.lemmas.Result.{err_from_is_err_and}
use Rattle.record.specs.Result.{result_numbers}
use Rattle.record.specs.File.{made_of}
use Rattle.record.specs.Unread.{site_of}
use Rattle.record.proofs.UnreadLaws.{so_start, so_more, so_end, so_fault, made_numbers}
use Rattle.listing.specs.Rows.{row_of}
use Rattle.listing.proofs.walking.walk_file.Goals as goal

pub returns-in_err-records : goal.returns-in_err-records
unfolding result_numbers made_of
returns-in_err-records c =
    let p = err_from_is_err_and c.from_residual.result c.from_residual.ensures.1 in
    let e = c.in_err-records.ensures.answer in
    rw (p.1, p.2) (record { answer = rw e; numbers = rw e })

pub loop-passed-init : goal.loop-passed-init
loop-passed-init c = rw c.new-rows.ensures (record { same = c.in_ok-records.ensures.file.1; so = so_start (row_of c.args.list.bytes.now) c.in_ok-records.ensures.answer c.in_ok-records.ensures.start.0 })

pub returns-in_err-passed : goal.returns-in_err-passed
unfolding result_numbers made_of site_of
returns-in_err-passed c =
    let p = err_from_is_err_and c.from_residual-in_err-passed.result c.from_residual-in_err-passed.ensures.1 in
    let r = c.in_err-passed.field-0.0 in
    let gave : site_of c.next.result ≡ Err r = rw c.in_err-passed.was in
    let e = so_fault (row_of c.args.list.bytes.now) c.loop-passed.invariant.so (site_of c.next.result) _ c.next.ensures.steps.walk gave in
    rw (p.1, p.2) (record { answer = rw e; numbers = rw e })

pub push-requires : goal.push-requires
unfolding site_of
push-requires c =
    let gave : c.next.result ≡ Ok (Some c.in-Some.passed) = c.in_ok-passed.was ∙ ap Ok c.in-Some.is in
    omega (arith, c.loop-passed.invariant.so.room, rw gave at c.next.ensures.steps.fewer)

pub loop-passed-smaller : goal.loop-passed-smaller
unfolding site_of
loop-passed-smaller c =
    let gave : c.next.result ≡ Ok (Some c.in-Some.passed) = c.in_ok-passed.was ∙ ap Ok c.in-Some.is in
    omega (arith, rw gave at c.next.ensures.steps.fewer)

pub loop-passed-preserved : goal.loop-passed-preserved
unfolding site_of
loop-passed-preserved c =
    let s = c.next.ensures.steps in
    let same = c.next.ensures.file in
    let gave : c.next.result ≡ Ok (Some c.in-Some.passed) = c.in_ok-passed.was ∙ ap Ok c.in-Some.is in
    let own : c.in-Some.passed.list.bytes.now ≡ c.args.list.bytes.now = rw gave at c.next.ensures.list ∙ c.loop-passed.invariant.same in
    rw (c.push.ensures.items, c.row_of.ensures, own) (record {
      same = same.1 ∙ c.loop-passed.invariant.same;
      so = rw (same.0, same.1, same.2) (so_more (row_of c.args.list.bytes.now) c.loop-passed.invariant.so (site_of c.next.result) _ s.walk (rw gave) _ s.fewer);
    })

pub returns : goal.returns
unfolding result_numbers site_of
returns c =
    let e = so_end (row_of c.args.list.bytes.now) c.loop-passed.invariant.so (site_of c.next.result) _ c.next.ensures.steps.walk (rw (c.in_ok-passed.was ∙ ap Ok c.in_default.is)) in
    record { answer = e; numbers = sym (ap result_numbers e) ∙ made_numbers (row_of c.args.list.bytes.now) _ }
