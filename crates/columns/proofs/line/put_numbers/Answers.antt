use Rattle.std.proofs.Common.{ℕ, ◌≡◌, ◌+◌, ◌-◌, List, [], ◌∷◌, ◌++◌, length, take, drop, take_all, length-take, length-drop, ap, sym, ◌∙◌, append_assoc, append-nil, arith, rules}
use Rattle.std.specs.Iterator.Adapters.{zip_first, zip_second}
use Rattle.std.specs.List.{flat_map, zip}
use Rattle.std.specs.Slice.Iter.{iter_rest}
use Rattle.std.proofs.lemmas.Iterator.{empty_from_Zip}
use Rattle.std.proofs.lemmas.List.Sums.{sum_by-cons}
use Rattle.std.proofs.lemmas.Slice.{take-put_mid}
use Rattle.columns.specs.PageLine.{number_widths, in_column, number_columns}
use Rattle.columns.proofs.line.put_numbers.Goals as goal

pub loop-n-init : goal.loop-n-init
unfolding number_columns
loop-n-init c =
    let i = c.into_iter-n-iterator.result in
    let ns : iter_rest (zip_first i) ≡ c.args.ns = cc in
    let ws : iter_rest (zip_second i) ≡ number_widths = cc in
    record { paired = search rules; room = rw ws (omega arith); whole = rw (ns, ws) }

pub loop-n-preserved : goal.loop-n-preserved
loop-n-preserved c =
    let n = c.in-Some.n.now in
    let w = c.in-Some.width.now in
    let i = c.next.new.self in
    let at = c.loop-n.at in
    let ns : iter_rest (zip_first c.loop-n.n-iterator) ≡ n ∷ iter_rest (zip_first i) = c.in-Some.ensures.steps.0 in
    let ws : iter_rest (zip_second c.loop-n.n-iterator) ≡ w ∷ iter_rest (zip_second i) = c.in-Some.ensures.steps.1 in
    let h = rw (ns, ws) at c.loop-n.invariant in
    let more = sum_by-cons (λ x. x) w (iter_rest (zip_second i)) in
    let wide : length (take (at + w - at) (drop at c.loop-n.columns)) ≡ w = simp (length-take, length-drop) (omega arith) in
    let front = take-put_mid at (at + w - at) c.loop-n.columns c.put_number.new.column (at + w) (omega arith) (omega arith) in
    record {
      paired = omega arith;
      room = omega arith;
      whole = ap (λ (t : List ℕ). t ++ flat_map in_column (zip (iter_rest (zip_first i)) (iter_rest (zip_second i)))) front ∙ rw (append_assoc, c.put_number.ensures, wide) h.whole;
    }

pub returns : goal.returns
returns c =
    let none = empty_from_Zip c.loop-n.n-iterator c.next.new.self _ c.in-None.is c.next.ensures.steps c.loop-n.invariant.paired in
    let ns : iter_rest (zip_first c.loop-n.n-iterator) ≡ [] = none.0 in
    let ws : iter_rest (zip_second c.loop-n.n-iterator) ≡ [] = none.1 in
    let h = rw (ns, ws, append-nil) at c.loop-n.invariant in
    sym (take_all c.loop-n.at c.loop-n.columns (omega arith)) ∙ h.whole
