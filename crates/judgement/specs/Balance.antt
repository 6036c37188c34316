-- Demand 3: the balances behind a verdict, on the terms of document 01 at a site.
use Rattle.std.specs.Prelude.{ℕ, ◌+◌, ◌*◌, ◌-◌, ◌≤◌, ◌≡◌, ◌↔◌, ◌⊎◌, List, Result, Ok, Err, pos, ◌+ℤ◌, ◌*ℤ◌, ◌≤ℤ◌, ◌<ℤ◌}
use Rattle.site.specs.declared.Rule.{Rule}
use Rattle.site.specs.declared.Rule.TheVariants.{LoadBelowZero}
use Rattle.site.specs.declared.Site.{Site}
use Rattle.loads.specs.Terms.{Terms}
use Rattle.loads.specs.SiteTerms.{terms_of}
use Rattle.loads.specs.Hydrogen.{aluminium, net}
use Rattle.loads.specs.MaxS.{signed_max_s}
use Rattle.judgement.specs.Verdicts.{within, over}

-- a hydrogen level, from 1, that neither critical limit forbids
pub record Allowed (t : Terms) (h : ℕ) : Type 0 where
  pub least : 1 ≤ h
  pub ceiling : h ≤ t.H
  pub aluminium_limit : aluminium t h ≤ t.A

-- Whole amounts u taken up and i immobilised, and an allowed hydrogen level h, with which the acid balance closes at the deposition S, N. The net leaching at h, hydrogen and
-- aluminium less bicarbonate, stands on the supply side; it may be below zero, and the supply with it.
pub record AcidCloses (t : Terms) (S N : ℕ) : Type 0 where
  pub u : ℕ
  pub i : ℕ
  pub h : ℕ
  pub taken_up : u ≤ t.Nu
  pub immobilised : i ≤ t.Ni
  pub deposited : u + i ≤ N
  pub allowed : Allowed t h
  pub balance : pos (1000 * S + t.e * (N - u - i)) ≤ℤ (pos 1000 *ℤ (pos t.supply +ℤ net t h))

-- and with the same amounts the nitrogen balance closes as well
pub record Closes (t : Terms) (S N : ℕ) : Type 0 where
  pub acid : AcidCloses t S N
  pub nitrogen_balance : t.e * (N - acid.u - acid.i) ≤ 1000 * t.L

-- no pair at all closes the acid balance
abbrev pub NoPairCloses : Terms → Type 0
NoPairCloses t = (S N : ℕ) → AcidCloses t S N → ⊥

-- What is answered, with the list, for a site whose fields pass the check: 21 exactly where CLmaxS is below zero, which is exactly where no pair closes the acid
-- balance. Elsewhere the pair of no deposition does.
pub record RefusedBelowZero {A : Type 0} (list : List ℕ) (s : Site) (answer : Result A Rule) : Type 0 where
  pub negative : (answer ≡ Err LoadBelowZero) ↔ (signed_max_s (terms_of list s) <ℤ pos 0)
  pub none : (answer ≡ Err LoadBelowZero) ↔ NoPairCloses (terms_of list s)
  pub some : (x : A) → answer ≡ Ok x → AcidCloses (terms_of list s) 0 0

-- The sign x is one of two: the first exactly where the balances close at the deposition S, N, and the second exactly where they do not.
pub record Tells {A : Type 0} (first second x : A) (t : Terms) (S N : ℕ) : Type 0 where
  pub either : (x ≡ first) ⊎ (x ≡ second)
  pub closes : (x ≡ first) ↔ Closes t S N
  pub otherwise : (x ≡ second) ↔ (Closes t S N → ⊥)

-- a word, `within` or `over`, of a site with a list and of its own pair
abbrev pub Says : (list w : List ℕ) → Site → Type 0
Says list w s = Tells within over w (terms_of list s) s.sulphur s.nitrogen

-- a mark, 0 within or 1 over
abbrev pub MarkSays : (list : List ℕ) → ℕ → Site → Type 0
MarkSays list m s = Tells 0 1 m (terms_of list s) s.sulphur s.nitrogen
