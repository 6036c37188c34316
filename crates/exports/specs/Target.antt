-- A file converted for C: the target is a byte, the outer tag of a kind.
use Rattle.std.specs.Prelude.{ℕ, ◌≡◌, List, Ok, Err, Result}
use Rattle.site.specs.declared.Rule.{Rule}
use Rattle.site.specs.declared.Site.{Site}
use Rattle.record.specs.File.{Contents}
use Rattle.convert.specs.declared.targets.Target.{Target}
use Rattle.convert.specs.Target.{target_by}
use Rattle.convert.specs.Converted.{movable, converted}
use Rattle.convert.specs.SameRecords.{SameRecords}
use Rattle.exports.specs.Lent.{lent}

-- what is given for a target; a tag of none is 3 at 0, ahead of all else
unfoldable pub for_target : {A : Type 0} → Result Target Rule → (Target → Contents A) → Contents A
for_target (Ok k) x = x k
for_target (Err r) x = Err (record { rule = r; at = 0 })

-- the sites of the file f moved to the kind of the outer tag t: rule 3 for t, then 15 of the list, then the checks of the file, then 17
unfoldable pub converted_to : (t : ℕ) (list f : List ℕ) → Contents Site
converted_to t list f = for_target (target_by t) (λ k. converted k (lent list (movable list f)))

-- t is the tag of a target, and the file g is the file f with every record moved to it
pub record MovedTo (t : ℕ) (list f g : List ℕ) : Type 0 where
  pub target : Target
  pub tag : target_by t ≡ Ok target
  pub same : SameRecords list target f g
