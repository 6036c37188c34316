-- What is printed: a text that is shown whole, and the report of a file.
use Rattle.std.proofs.Common.{◌≡◌, ◌≤◌, ◌∙◌, List, [], ◌++◌, ℕ, Ok, Err, refl, ap, arith, length, take, drop}
use Rattle.site.specs.Refusal.{Checked}
use Rattle.output.specs.Output.{room_rule, held_after, output_count, held}
use Rattle.output.proofs.OutputLaws.{room_missing}
use Rattle.record.specs.File.{most_file}
use Rattle.listing.specs.Reports.{report_of}
use Rattle.listing.proofs.ReportLaws.{report_take}
use Rattle.program.specs.declared.ReadState.{ReadState}
use Rattle.program.specs.Printing.{shown_length, output_of, ReadFrom}

-- a text that is shown whole stands at the front
pub shown_whole : (text d e : List ℕ) (k : ℕ) → k ≡ shown_length text d → e ≡ held text d → take k e ≡ text → (k ≡ length text) × (e ≡ text ++ drop (length text) d)
unfolding output_count held_after
shown_whole text d e k n h t = go (room_rule (length text) (length d)) refl
  where
    go : (b : Checked) → room_rule (length text) (length d) ≡ b → (k ≡ length text) × (e ≡ text ++ drop (length text) d)
    go (Ok tt) b = (rw b at n, rw b at h)
    go (Err r) b =
        let z : k ≡ 0 = rw b at n in
        let nil : [] ≡ text = rw z at t in
        absurd (omega (arith, room_missing (length text) (length d) b, ap length nil))

-- a buffer that holds a file, or as many of its first bytes as it takes, has the file's report
pub output_is : (f b : List ℕ) (r : ReadState) → most_file ≤ length b → ReadFrom f b r → output_of r b ≡ report_of [] f
unfolding output_of
output_is f b r h x = rw x.ended (ap (report_of []) x.bytes ∙ report_take [] f (length b) h)
