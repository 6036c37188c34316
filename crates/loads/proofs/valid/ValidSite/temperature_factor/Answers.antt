use Rattle.loads.proofs.TemperatureLaws.{tabled}
use Rattle.loads.proofs.valid.ValidSite.temperature_factor.Goals as goal

pub returns : goal.returns
returns c =
    rw (c.from-2.ensures, c.from.ensures, c.counted_temperature.ensures) (tabled c.args.self.site c.args.self.bounds)
