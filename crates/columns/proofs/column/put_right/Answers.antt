use Rattle.std.proofs.Common.{◌≡◌, ℕ, ◌-◌, [], min, length, take, drop, replicate, arith}
use Rattle.std.proofs.lemmas.List.{length-drop, length-replicate, take-replicate, drop_all, append-nil, take_min}
use Rattle.columns.specs.PageLine.{right_in}
use Rattle.columns.proofs.column.put_right.Goals as goal

pub returns : goal.returns
unfolding right_in
returns c =
    let w = length c.args.column.now in
    let n = length c.args.text.now in
    let m : c.min-n.result ≡ min w n = omega arith in
    let rest : w - min w n ≡ w - n = omega arith in
    let front : take (w - n) (replicate {A = ℕ} w 32) ≡ replicate (w - n) 32 = take-replicate (w - n) w 32 (omega arith) in
    let none : drop (w - (w - n)) (drop (w - n) (replicate {A = ℕ} w 32)) ≡ [] = drop_all (w - (w - n)) (drop (w - n) (replicate {A = ℕ} w 32)) (simp (length-drop, length-replicate) (omega arith)) in
    rw (c.copy_from_slice.ensures.after, c.fill.ensures.after (λ y h. h), m, take_min, length-replicate, rest, front, none, append-nil)
