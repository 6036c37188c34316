-- The kinds that a file can be moved to.
use Rattle.std.specs.Prelude.{ℕ, eqb, Result, Ok, Err}
use Rattle.site.specs.Choice.{pick}
use Rattle.site.specs.declared.RecordKind.{RecordKind}
use Rattle.site.specs.declared.RecordKind.TheVariants.{Tag52, Tag53, Tag54}
use Rattle.site.specs.declared.Rule.{Rule}
use Rattle.site.specs.declared.Rule.TheVariants.{OuterTag}
use Rattle.convert.specs.declared.targets.Target.{Target}
use Rattle.convert.specs.declared.targets.Target.TheVariants.{Kind52, Kind53, Kind54}

abbrev pub kind_of : Target → RecordKind
kind_of Kind52 = Tag52
kind_of Kind53 = Tag53
kind_of Kind54 = Tag54

-- the target with an outer tag, hexadecimal 52, 53 or 54; rule 3 for another
abbrev pub target_by : ℕ → Result Target Rule
target_by t = pick (eqb t 82) (Ok Kind52) (pick (eqb t 83) (Ok Kind53) (pick (eqb t 84) (Ok Kind54) (Err OuterTag)))
