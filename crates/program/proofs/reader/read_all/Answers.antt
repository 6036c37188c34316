-- A read that leaves more to come has brought bytes; after the last one the file is there.
use Rattle.std.proofs.Common.{arith, sym, ◌∙◌, inr}
use Rattle.program.proofs.ReaderLaws.{more_is_later}
use Rattle.program.proofs.KnownLaws.{more_lost, whole_read}
use Rattle.program.proofs.reader.read_all.Goals as goal

pub loop-n-smaller : goal.loop-n-smaller
loop-n-smaller g c = let later = more_is_later _ _ _ _ (sym c.read_once-input.ensures.read.next ∙ c.in-More.is) in omega (arith, later)

pub loop-n-preserved : goal.loop-n-preserved
loop-n-preserved g c =
    let once = c.read_once-input.ensures in
    let later = more_is_later _ _ _ _ (sym once.read.next ∙ c.in-More.is) in
    record {
      room = inr (omega (arith, later));
      lost = more_lost _ _ _ once.read c.loop-n.invariant.lost once.given _ c.in-More.is;
    }

pub returns-in_default-clause-whole : goal.returns-in_default-clause-whole
returns-in_default-clause-whole g c =
    let once = c.read_once-input.ensures in
    whole_read _ _ _ once.read c.loop-n.invariant.lost once.given (omega arith) (omega arith) c.in_default.not-More
