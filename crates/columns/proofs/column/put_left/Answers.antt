use Rattle.std.proofs.Common.{◌≡◌, ◌-◌, min, length, arith}
use Rattle.std.proofs.lemmas.List.{drop-replicate, take_min}
use Rattle.columns.specs.PageLine.{left_in}
use Rattle.columns.proofs.column.put_left.Goals as goal

pub returns : goal.returns
unfolding left_in
returns c =
    let w = length c.args.column.now in
    let n = length c.args.text.now in
    let m : c.min-n.result ≡ min w n = omega arith in
    let rest : w - min w n ≡ w - n = omega arith in
    rw (c.copy_from_slice.ensures.after, c.fill.ensures.after (λ y h. h), m, take_min, drop-replicate, rest)
