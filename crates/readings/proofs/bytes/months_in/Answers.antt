-- The search finds the equation for a few elements, and not for twelve.
use Rattle.std.proofs.Common.{◌≡◌, ◌*◌, refl, rules}
use Rattle.site.specs.Bytes.{tabulate}
use Rattle.readings.specs.MonthBytes.{month_at}
use Rattle.readings.proofs.MadeLaws.{made}
use Rattle.readings.proofs.bytes.months_in.Goals as goal

pub returns : goal.returns
unfolding tabulate
returns c =
    let b = c.args.b.now in
    made (λ p. p.0.now ≡ b) (λ k. month_at b (17 * k)) (λ p k y q h w. (search rules, search rules)) refl c.from_fn.ensures.items
