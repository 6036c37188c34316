-- Rule 11 and what follows from it, by whether the output fits.
use Prim.Native.Nat.{ℕ, ◌≤◌, ◌<◌}
use mathlib.Core.Path.{◌≡◌, refl}
use mathlib.Core.Bool.{Bool, true, false}
use lib.Dec.{leb}
use borrow.Author.Tests.{le-leb, lt-leb, leb-true, leb-false}
use Rattle.std.specs.Prelude.{Ok, Err}
use Rattle.site.specs.Refusal.{and_then, Checked, unless}
use Rattle.site.specs.declared.Rule.{Rule}
use Rattle.site.specs.declared.Rule.TheVariants.{BufferShort}
use Rattle.site.specs.declared.Refusal.{Refusal}
use Rattle.site.specs.Choice.{pick}
use Rattle.site.proofs.Passing.{pass_then, both_passed}
use Rattle.output.specs.Output.{room_rule, output_rule, write_answer, written_numbers, output_numbers}

-- the answer says what the rule says
pub answer_numbers : (c : Checked) (n : ℕ) → written_numbers (write_answer c n) ≡ output_numbers c n
unfolding written_numbers unless output_numbers
answer_numbers (Ok tt) n = refl
answer_numbers (Err r) n = refl

-- its count is that of the output, and a refusal's offset is 0
pub count_is : (c : Checked) (n : ℕ) {k : ℕ} → write_answer c n ≡ Ok k → k ≡ n
unfolding unless
count_is (Ok tt) n e = cc
count_is (Err r) n e = cc

pub refused_at_0 : (c : Checked) (n : ℕ) {r : Refusal} → write_answer c n ≡ Err r → r.at ≡ 0
unfolding unless
refused_at_0 (Ok tt) n e = cc
refused_at_0 (Err r) n e = cc

module _ (needed room : ℕ) where
  pub room_enough : needed ≤ room → room_rule needed room ≡ Ok tt
  unfolding room_rule
  room_enough h = rw (le-leb needed room h)

  pub room_short : room < needed → room_rule needed room ≡ Err BufferShort
  unfolding room_rule
  room_short h = rw (lt-leb needed room h)

  pub room_missing : {r : Rule} → room_rule needed room ≡ Err r → room < needed
  unfolding room_rule
  room_missing {r} e = go (leb needed room) refl
    where
      go : (b : Bool) → leb needed room ≡ b → room < needed
      go true q =
          let p : (Ok tt) ≡ Err r = rw q at e in
          cc
      go false q = leb-false needed room q

  -- the three ways in which an output ends
  module _ (own : Checked) where
    pub output_broken : (r : Rule) → own ≡ Err r → output_rule own needed room ≡ Err r
    unfolding output_rule and_then
    output_broken r e = rw e

    pub output_room : own ≡ Ok tt → output_rule own needed room ≡ room_rule needed room
    unfolding output_rule and_then
    output_room e = rw e

    pub output_short : own ≡ Ok tt → room < needed → output_rule own needed room ≡ Err BufferShort
    unfolding output_rule and_then
    output_short e h = rw (e, room_short h)

    pub output_passed : output_rule own needed room ≡ Ok tt → (own ≡ Ok tt) × (needed ≤ room)
    unfolding output_rule room_rule
    output_passed e =
        let both = both_passed own (pick (leb needed room) (Ok tt) (Err BufferShort)) e in
        (both.0, leb-true needed room (pass_then (leb needed room) BufferShort (Ok tt) both.1).0)

    pub output_whole : own ≡ Ok tt → needed ≤ room → output_rule own needed room ≡ Ok tt
    unfolding output_rule and_then
    output_whole e h = rw (e, room_enough h)
