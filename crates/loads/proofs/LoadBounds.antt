-- Bounds of the loads of a site that passes the check.
use Prim.Native.Nat.{ℕ, suc, ◌*◌, ◌/◌, ◌≤◌, ◌<◌}
use mathlib.Core.List.{List, [], ◌∷◌}
use native.Mathlib.Omega.{arith}
use native.Mathlib.Nat.{le_trans, mul_assoc, mul-le-mul_left, mul-le-mul_right, add-mul, zero-mul}
use lib.ListN.{get_or, length, take}
use Rattle.std.specs.List.{sum_by}
use Rattle.std.proofs.lemmas.List.Sums.{sum_by-cons}
use Rattle.site.specs.Values.{shares_of}
use Rattle.numbers.specs.TwoBytes.{AllBytes}
use Rattle.site.specs.Bounds.{no_entry, EntryBounds, Bounds}
use Rattle.site.specs.Ranges.{percolation_range, share_sum, most_yield, leachate_range}
use Rattle.site.specs.declared.Site.{Site}
use Rattle.site.specs.declared.Entry.{Entry}
use Rattle.loads.specs.MostTerms.{most_max_s, most_min_n, most_max_n, most_nut_n, most_l, most_nu, most_demand, least_e}
use Rattle.loads.specs.Uptake.{nitrogen_in, base_in, weight_of, stand_sum, nitrogen_uptake, base_demand}
use Rattle.loads.specs.Terms.{Terms}
use Rattle.loads.specs.Nitrogen.{undenitrified}
use Rattle.loads.specs.SiteTerms.{terms_of}
use Rattle.loads.specs.MaxS.{cl_max_s}
use Rattle.loads.specs.CriticalLoads.{cl_min_n, cl_max_n, cl_nut_n}
use Rattle.loads.proofs.Numbers.{prod, quotient_le}
use Rattle.loads.proofs.Tables.{nitrogen_content_le, base_content_le}
use Rattle.loads.proofs.DenitrifiedLaws.{undenitrified_least, e_is}
use Rattle.loads.proofs.UptakeLaws.{entries_bounds}
use Rattle.loads.proofs.SiteTermLaws.{term_bounds, leaching_is, demand_is}
use Rattle.loads.proofs.TermLaws.{cl_max_s_le}

pub record LoadBounds (t : Terms) : Type 0 where
  pub cl_max_s_most : cl_max_s t ≤ most_max_s
  pub cl_min_n_most : cl_min_n t ≤ most_min_n
  pub cl_max_n_most : cl_max_n t ≤ most_max_n
  pub cl_nut_n_most : cl_nut_n t ≤ most_nut_n

-- whatever f takes of a species, m at most: share × yield × that, over entries
module _ (f : ℕ → ℕ) (m : ℕ) (each : (x : ℕ) → f x ≤ m) where
  weight_le : (e : Entry) → EntryBounds e → weight_of f e ≤ e.share * (most_yield * m)
  unfolding weight_of
  weight_le e b = rw (mul_assoc e.share e.yield_kg (f e.species)) (mul-le-mul_left e.share (prod most_yield m b.yielded (each e.species)))

  sum_le : (es : List Entry) → ((i : ℕ) → i < length es → EntryBounds (get_or es i no_entry)) → sum_by (weight_of f) es ≤ shares_of es * (most_yield * m)
  unfolding shares_of
  sum_le [] h = omega (arith, zero-mul (most_yield * m))
  sum_le (e ∷ es) h =
      omega (arith, sum_by-cons (weight_of f), add-mul e.share (shares_of es) (most_yield * m), weight_le e (h 0 (omega arith)), sum_le es (λ i l. h (suc i) (omega arith)))

  stand_le : (s : Site) → Bounds s → stand_sum f s.stand.entries s.stand.count ≤ share_sum * (most_yield * m)
  unfolding stand_sum
  stand_le s b =
      le_trans (sum_le (take s.stand.count s.stand.entries) (entries_bounds s.stand.entries s.stand.count b.stand).each)
      (mul-le-mul_right (most_yield * m) b.shares)

-- a thousandfold, by e
part_le : (list : List ℕ) (s : Site) (x most : ℕ) → x ≤ most → 1000 * x / (terms_of list s).e ≤ 1000 * most / least_e
part_le list s x most h = rw (e_is list s) (quotient_le (1000 * x) (undenitrified s) least_e (1000 * most / least_e) (undenitrified_least s) (omega arith))

module _ (list : List ℕ) (a : AllBytes list) (s : Site) (b : Bounds s) where
  L_le : (terms_of list s).L ≤ most_l
  L_le =
      let p = prod percolation_range.most leachate_range.most b.percolation b.leachate in
      omega (arith, leaching_is list s, p)

  -- what a stand takes up, with contents of two bytes
  pub uptake_le : nitrogen_uptake list s ≤ most_nu
  unfolding nitrogen_uptake
  uptake_le = omega (arith, stand_le (nitrogen_in list) 65535 (nitrogen_content_le list a) s b)

  pub demand_le : base_demand list s ≤ most_demand
  demand_le = omega (arith, demand_is list s, stand_le (base_in list) 196605 (base_content_le list a) s b)

  cl_min_n-le : cl_min_n (terms_of list s) ≤ most_min_n
  unfolding cl_min_n terms_of
  cl_min_n-le = omega (arith, uptake_le, b.immobilisation)

  pub load_bounds : LoadBounds (terms_of list s)
  unfolding cl_max_n cl_nut_n
  load_bounds =
      let acid = cl_max_s_le (terms_of list s) (term_bounds list s b) in
      record {
        cl_max_s_most = acid;
        cl_min_n_most = cl_min_n-le;
        cl_max_n_most = omega (arith, cl_min_n-le, part_le list s (cl_max_s (terms_of list s)) most_max_s acid);
        cl_nut_n_most = omega (arith, cl_min_n-le, part_le list s (terms_of list s).L most_l L_le);
      }
