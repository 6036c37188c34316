use Rattle.std.proofs.Common.{rules}
use Rattle.site.specs.Refusal.{unless}
use Rattle.convert.proofs.FaultLaws.{convertible_by_field}
use Rattle.convert.proofs.moving.check_convertible.Goals as goal

pub returns-in_err-map_err : goal.returns-in_err-map_err
unfolding unless
returns-in_err-map_err c = rw (convertible_by_field c.args.target c.args.site c.requires.older c.args.at c.args.len c.requires.length) (search rules)

pub returns : goal.returns
unfolding unless
returns c = rw (convertible_by_field c.args.target c.args.site c.requires.older c.args.at c.args.len c.requires.length) (search rules)
