-- The digits that std prints end where the width says.
use Rattle.std.proofs.Common.{◌≡◌, ◌+◌, length, ap, arith}
use Rattle.output.proofs.WritingLaws.{wrote_parts}
use Rattle.text.specs.Decimal.{decimal}
use Rattle.text.proofs.DecimalLaws.{printed}
use Rattle.text.proofs.decimal.put_decimal.Goals as goal

pub write_digits-requires : goal.write_digits-requires
write_digits-requires c =
    let e = ap length (printed c.args.n c.ranges.n.fits) in
    grind arith

pub returns-in-Some : goal.returns-in-Some
returns-in-Some c =
    let same = printed c.args.n c.ranges.n.fits in
    let e = ap length same in
    let w = c.write_digits.ensures in
    let ends : c.in-Some.end ≡ c.args.at + length (decimal c.args.n) = grind arith in
    let starts : c.write_digits.result ≡ c.args.at = omega arith in
    wrote_parts ends c.if-end-out.true (rw starts at w.before) (rw (starts, same) at w.written)
