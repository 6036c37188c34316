-- Where P is 0 nothing is lost, and rule 21 is never broken.
use Prim.Native.Nat.{ℕ}
use mathlib.Core.Bool.{false}
use mathlib.Core.Path.{◌≡◌, refl, ◌∙◌}
use mathlib.Core.List.{List}
use native.Mathlib.Omega.{arith}
use lib.IntN.{pos}
use Rattle.std.proofs.lemmas.Int.{ints}
use Rattle.std.specs.Prelude.{Ok, Err}
use Rattle.site.specs.declared.Rule.{Rule}
use Rattle.site.specs.declared.Site.{Site}
use Rattle.site.specs.Refusal.{Checked, and_then}
use Rattle.site.specs.Kinds.{has_dioxide, counted_dioxide}
use Rattle.site.specs.Check.{due_rule}
use Rattle.loads.specs.Terms.{Terms}
use Rattle.loads.specs.SiteTerms.{terms_of}
use Rattle.loads.specs.Hydrogen.{bicarbonate, greatest_level}
use Rattle.loads.specs.MaxS.{signed_max_s, load_rule}
use Rattle.loads.specs.Check.{site_rule}
use Rattle.loads.specs.CriticalLoads.{cl_max_n, loads_of}
use Rattle.loads.specs.declared.Loads.{Loads}
use Rattle.loads.specs.WithoutBicarbonate.{unlost_max_s, unlost_loads, unlost_answer, NothingLost}
use Rattle.loads.proofs.NetLaws.{no_bicarbonate}
use Rattle.loads.proofs.MaxSLaws.{load_passed}
use Rattle.loads.proofs.TermLaws.{signed_is}

module _ (t : Terms) (e : t.P ≡ 0) where
  none : (h : ℕ) → bicarbonate t h ≡ 0
  unfolding bicarbonate
  none h = no_bicarbonate t.Q t.P h e

  unsigned : signed_max_s t ≡ pos (unlost_max_s t)
  unfolding unlost_max_s
  unsigned = omega (arith, ints, signed_is t, none (greatest_level t))

  pub nothing_lost : NothingLost t
  nothing_lost = let p = load_passed t _ unsigned in record { none = none; passes = p.0; max_s = p.1 }

  same_loads : loads_of t ≡ unlost_loads t
  unfolding loads_of unlost_loads cl_max_n
  same_loads = rw nothing_lost.max_s

then_passed : (c : Checked) → and_then c (Ok tt) ≡ c
unfolding and_then
then_passed (Ok tt) = refl
then_passed (Err r) = refl

module _ (list : List ℕ) (s : Site) where
  -- P of the terms is the one that counts
  p_is : (terms_of list s).P ≡ counted_dioxide s
  unfolding terms_of
  p_is = refl

  module _ (e : counted_dioxide s ≡ 0) where
    pub unlost : NothingLost (terms_of list s)
    unlost = nothing_lost (terms_of list s) (p_is ∙ e)

    pub unlost_rule : load_rule (terms_of list s) ≡ Ok tt
    unlost_rule = unlost.passes

    -- so the check is that of the fields
    pub unlost_check : site_rule list s ≡ due_rule list s
    unfolding site_rule
    unlost_check = rw unlost.passes (then_passed (due_rule list s))

    -- and the loads are those without bicarbonate
    pub loads_unlost : loads_of (terms_of list s) ≡ unlost_loads (terms_of list s)
    loads_unlost = same_loads (terms_of list s) (p_is ∙ e)

    pub unlost_refused : (r : Rule) → site_rule list s ≡ Err r → unlost_answer list s ≡ Err r
    unfolding unlost_answer and_then
    unlost_refused r q = rw (rw unlost_check at q)

    pub unlost_given : (l : Loads) → site_rule list s ≡ Ok tt → l ≡ loads_of (terms_of list s) → unlost_answer list s ≡ Ok l
    unfolding unlost_answer and_then
    unlost_given l q is = rw (rw unlost_check at q, is, loads_unlost)

  -- a kind without field 11 has none
  pub none_counted : has_dioxide s.kind ≡ false → counted_dioxide s ≡ 0
  unfolding counted_dioxide
  none_counted e = rw e
