-- Name, numbers, mark and end, each in its part of the line, are the line.
use Rattle.std.proofs.Common.{ℕ, ◌≡◌, ◌+◌, ◌≤◌, List, ◌++◌, length, take, drop, take_all, append_assoc, length-append, length-take, length-drop, ap, sym, ◌∙◌, arith}
use Rattle.std.proofs.lemmas.List.{take_at}
use Rattle.std.proofs.lemmas.Slice.{take-put_mid}
use borrow.Rule.Slice.PartMut.{put_mid}
use Rattle.text.specs.Line.{name_text}
use Rattle.columns.proofs.PageLineLaws.{row_bytes}
use Rattle.columns.proofs.line.put_line.Goals as goal

-- of a line of 65 bytes the first n are written
record Begun (n : ℕ) (done line : List ℕ) : Type 0 where
  long : length line ≡ 65
  front : take n line ≡ done

begun : (name line : List ℕ) → length name ≡ 8 → length line ≡ 65 → Begun 8 name (name ++ drop 8 line)
begun name line h l = record { long = simp (length-append, length-drop) (omega arith); front = take_at name (drop 8 line) 8 h }

next : {n : ℕ} {done line : List ℕ} → Begun n done line → (part : List ℕ) (k m : ℕ) → length part ≡ k → n + k ≡ m → m ≤ 65 → Begun m (done ++ part) (put_mid n k line part)
next {n} {done} {line} b part k m h e l = record {
  long = let q = b.long in simp (length-append, length-take, length-drop) (omega arith);
  front = take-put_mid n k line part m (omega arith) (let q = b.long in omega arith) ∙ ap (λ (t : List ℕ). t ++ part) b.front;
}

part : {n : ℕ} {done line : List ℕ} → Begun n done line → (k : ℕ) → n + k ≤ 65 → length (take k (drop n line)) ≡ k
part b k h = let q = b.long in simp (length-take, length-drop) (omega arith)

whole : {done line : List ℕ} → Begun 65 done line → line ≡ done
whole {done} {line} b = sym (take_all 65 line (let q = b.long in omega arith)) ∙ b.front

pub returns : goal.returns
unfolding name_text
returns c =
    let row = c.args.row in
    let w : length (take 8 c.args.line.now) ≡ 8 = simp length-take (omega arith) in
    let x = begun c.put_left.new.column c.args.line.now (omega arith) (omega arith) in
    let xs = part x 48 (omega arith) in
    let y = next x c.put_numbers.new.columns 48 56 (omega arith) (omega arith) (omega arith) in
    let ys = part y 7 (omega arith) in
    let z = next y c.put_right.new.column 7 63 (omega arith) (omega arith) (omega arith) in
    let end = c.copy_from_slice.ensures.after in
    let all = whole (next z c.copy_from_slice.new.self 2 65 (omega (arith, ap length end)) (omega arith) (omega arith)) in
    let name = rw (w, c.as_slice.ensures.bytes) at c.put_left.ensures in
    let ns = rw c.numbers.ensures at c.put_numbers.ensures in
    let mark = rw (ys, c.mark.ensures.0) at c.put_right.ensures in
    all ∙ rw (row_bytes row, name, ns, mark, end) (simp append_assoc)
