-- CLmaxS: the base supply and the net leaching at the greatest allowed level. Its sign is tested before it is a load: below zero it is refused by 21.
use Rattle.std.specs.Prelude.{ℕ, Ok, Err, ℤ, pos, negsuc, ◌+ℤ◌}
use Rattle.site.specs.declared.Rule.TheVariants.{LoadBelowZero}
use Rattle.site.specs.Refusal.{Checked}
use Rattle.loads.specs.Terms.{Terms}
use Rattle.loads.specs.Hydrogen.{critical_leaching}

-- `negsuc n` is −(n + 1)
abbrev pub sign_rule : ℤ → Checked
sign_rule (pos n) = Ok tt
sign_rule (negsuc n) = Err LoadBelowZero

-- a number from zero on as it is; one below, which is refused, has no such value, and 0 stands for it
abbrev pub not_negative : ℤ → ℕ
not_negative (pos n) = n
not_negative (negsuc n) = 0

-- B + W − Bu + M
unfoldable pub signed_max_s : Terms → ℤ
signed_max_s t = pos t.supply +ℤ critical_leaching t

-- rule 21
unfoldable pub load_rule : Terms → Checked
load_rule t = sign_rule (signed_max_s t)

-- CLmaxS
unfoldable pub cl_max_s : Terms → ℕ
cl_max_s t = not_negative (signed_max_s t)
