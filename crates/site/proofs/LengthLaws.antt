-- Laws of rule 7: bounds of its table, and the lengths that it permits.
use mathlib.Core.Path.{◌≡◌, refl, ◌∙◌}
use mathlib.Core.Logic.{⊎_elim}
use mathlib.Core.Bool.{Bool, true, false, ◌&&◌}
use Prim.Native.Nat.{ℕ, ◌*◌, ◌%◌, ◌≤◌, ◌<◌}
use native.Mathlib.Omega.{arith}
use lib.Dec.{leb, eqb}
use lib.ListN.{get_or-eq_default}
use borrow.Author.Tests.{leb-true, le-leb, lt-leb, eqb-true, eq-eqb}
use Rattle.std.specs.List.{list_all}
use Rattle.site.specs.declared.Site.{Site}
use Rattle.site.specs.declared.RecordKind.{RecordKind}
use Rattle.site.specs.declared.RecordKind.TheVariants.{Tag52, Tag53, Tag54, Tag55}
use Rattle.site.specs.declared.length.Items.{Items}
use Rattle.site.specs.declared.Rule.TheVariants.{BadLength}
use Rattle.std.specs.Prelude.{Ok}
use Rattle.site.specs.Values.{one_value, no_items, field_items, items_of, length_permitted, item_count, count_rule}
use Rattle.site.proofs.Tests.{le_or_lt, and_l, and_r}
use Rattle.site.proofs.Passing.{pass_then}
use Rattle.site.proofs.PartLaws.{all_get_d}

-- bounds of every row, by a test over the table
row : (k : RecordKind) (test : Items → Bool) → test no_items ≡ true → list_all test (field_items k) ≡ true → (t : ℕ) → test (items_of k t) ≡ true
row k test none all t = all_get_d test (field_items k) t no_items none all

pub width_positive : (k : RecordKind) (t : ℕ) → 1 ≤ (items_of k t).width
width_positive k t = leb-true 1 (items_of k t).width (by_kind k)
  where
    by_kind : (k : RecordKind) → leb 1 (items_of k t).width ≡ true
    by_kind Tag52 = row Tag52 (λ i. leb 1 i.width) refl refl t
    by_kind Tag53 = row Tag53 (λ i. leb 1 i.width) refl refl t
    by_kind Tag54 = row Tag54 (λ i. leb 1 i.width) refl refl t
    by_kind Tag55 = row Tag55 (λ i. leb 1 i.width) refl refl t

pub longest : (k : RecordKind) (t : ℕ) → (items_of k t).width * (items_of k t).most ≤ 20
longest k t = leb-true ((items_of k t).width * (items_of k t).most) 20 (by_kind k)
  where
    by_kind : (k : RecordKind) → leb ((items_of k t).width * (items_of k t).most) 20 ≡ true
    by_kind Tag52 = row Tag52 (λ i. leb (i.width * i.most) 20) refl refl t
    by_kind Tag53 = row Tag53 (λ i. leb (i.width * i.most) 20) refl refl t
    by_kind Tag54 = row Tag54 (λ i. leb (i.width * i.most) 20) refl refl t
    by_kind Tag55 = row Tag55 (λ i. leb (i.width * i.most) 20) refl refl t

module _ (k : RecordKind) (t n : ℕ) where
  pub permitted_fewer : n < (items_of k t).width * (items_of k t).least → length_permitted k t n ≡ false
  unfolding length_permitted
  permitted_fewer h = rw (lt-leb _ n h)

  module _ (some : (items_of k t).width * (items_of k t).least ≤ n) where
    pub permitted_more : (items_of k t).width * (items_of k t).most < n → length_permitted k t n ≡ false
    unfolding length_permitted
    permitted_more m = rw (le-leb _ n some, lt-leb _ _ m)

    pub permitted_items : n ≤ (items_of k t).width * (items_of k t).most → length_permitted k t n ≡ eqb (n % (items_of k t).width) 0
    unfolding length_permitted
    permitted_items m = rw (le-leb _ n some, le-leb _ _ m)

    pub parts_permitted : n ≤ (items_of k t).width * (items_of k t).most → n % (items_of k t).width ≡ 0 → length_permitted k t n ≡ true
    parts_permitted fits whole = permitted_items fits ∙ eq-eqb _ _ whole

  -- what a permitted length says
  pub permitted_parts : length_permitted k t n ≡ true
      → ((items_of k t).width * (items_of k t).least ≤ n) × (n ≤ (items_of k t).width * (items_of k t).most) × (n % (items_of k t).width ≡ 0)
  unfolding length_permitted
  permitted_parts e =
      let w = (items_of k t).width in
      let l = (items_of k t).least in
      let m = (items_of k t).most in
      let some = leb (w * l) n in
      let fits = leb n (w * m) in
      let whole = eqb (n % w) 0 in
      let both = and_l (some && fits) whole e in
      (leb-true (w * l) n (and_l some fits both), leb-true n (w * m) (and_r some fits both), eqb-true (n % w) 0 (and_r (some && fits) whole e))

-- a field of one value has that value's length
pub one_value_length : (k : RecordKind) (t n w : ℕ) → items_of k t ≡ one_value w → length_permitted k t n ≡ true → n ≡ w
one_value_length k t n w one e = let p = rw one at (permitted_parts k t n e) in omega (arith, p.0, p.1)

-- what a permitted count of items says
pub count_parts : (t : ℕ) (s : Site) → count_rule t s ≡ Ok tt → ((items_of s.kind t).least ≤ item_count t s) × (item_count t s ≤ (items_of s.kind t).most)
unfolding count_rule
count_parts t s e =
    let n = item_count t s in
    let l = (items_of s.kind t).least in
    let m = (items_of s.kind t).most in
    let both = (pass_then (leb l n && leb n m) BadLength (Ok tt) e).0 in
    (leb-true l n (and_l (leb l n) (leb n m) both), leb-true n m (and_r (leb l n) (leb n m) both))

pub parts_counted : (t : ℕ) (s : Site) → (items_of s.kind t).least ≤ item_count t s → item_count t s ≤ (items_of s.kind t).most → count_rule t s ≡ Ok tt
unfolding count_rule
parts_counted t s some most = rw (le-leb _ _ some, le-leb _ _ most)

-- a tag that is none of 1 to 17 has no items
pub no_items_lem : (k : RecordKind) (t : ℕ) → (t < 18 → t ≡ 0) → items_of k t ≡ no_items
no_items_lem k t h = ⊎_elim (λ (past : 18 ≤ t). rw get_or-eq_default) (λ below. rw (h below)) (le_or_lt 18 t)

-- so it has no permitted length
no_tag_permitted : (k : RecordKind) (t n : ℕ) → (t < 18 → t ≡ 0) → length_permitted k t n ≡ true → ⊥
no_tag_permitted k t n h e =
    let p = permitted_parts k t n e in
    let q : (1 * 1 ≤ n) × (n ≤ 1 * 0) × (n % 1 ≡ 0) = rw (no_items_lem k t h) at p in
    omega (arith, q.0, q.1)

-- a length is permitted for the tags 1 to 17 alone
pub permitted_tag : (k : RecordKind) (t n : ℕ) → length_permitted k t n ≡ true → (1 ≤ t) × (t ≤ 17)
permitted_tag k t n e =
    ⊎_elim
    (λ (past : 18 ≤ t). absurd (no_tag_permitted k t n (λ h. absurd (omega arith)) e))
    (λ (below : t < 18).
    ⊎_elim
    (λ (some : 1 ≤ t). (some, omega arith))
    (λ (none : t < 1). absurd (no_tag_permitted k t n (λ h. omega arith) e))
    (le_or_lt 1 t))
    (le_or_lt 18 t)
