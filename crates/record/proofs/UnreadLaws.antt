-- The walk over a file a record at a time, and a loop over it: what stands before, in front of what is still to come.
use Prim.Native.Nat.{ℕ, suc, ◌+◌, ◌-◌, ◌≤◌, ◌<◌}
use mathlib.Core.Path.{◌≡◌, refl, sym, ap, ◌∙◌}
use mathlib.Core.List.{List, [], ◌∷◌, ◌++◌, append-nil, map}
use native.Mathlib.Omega.{arith}
use mathlib.Core.Bool.{false}
use borrow.Author.Tests.{le-leb, lt-leb, ne_eqb}
use lib.Dec.{eqb}
use lib.ListN.{length, length-append}
use lib.Seq.{append_snoc}
use Rattle.std.specs.Prelude.{Option, Some, None, Result, Ok, Err}
use Rattle.site.specs.Ranges.{most_records}
use Rattle.site.specs.declared.RecordKind.{RecordKind}
use Rattle.site.specs.declared.Site.{Site}
use Rattle.site.specs.declared.Refusal.{Refusal}
use Rattle.site.specs.declared.Rule.TheVariants.{TooMany}
use Rattle.site.proofs.MapLaws.{map_id}
use Rattle.loads.specs.SiteTerms.{terms_of}
use Rattle.loads.specs.MaxS.{load_rule}
use Rattle.record.specs.Outer.{dioxide_length, fields_at, site_to}
use Rattle.record.specs.Result.{result_numbers}
use Rattle.record.specs.File.{Contents, first, onto, made_of}
use Rattle.record.specs.Unread.{step_of, after_step, sites_from, came, given, Steps}
use Rattle.record.proofs.FileLaws.{file_end, file_full, file_step}
use Rattle.record.proofs.LoadRuleLaws.{ok_with, err_with, broken_with}

-- ---- the steps

module _ (newest : RecordKind) (list f : List ℕ) (n at : ℕ) where
  abbrev read : ℕ → Result (Site × ℕ) Refusal
  read = site_to newest list f

  pub step_end : length f ≤ at → Steps newest list f n at (Ok None) n at
  unfolding step_of after_step came
  step_end h = record {
    answer = rw (le-leb (length f) at h);
    after = rw (le-leb (length f) at h);
    walk = file_end read (length f) n at h;
    fewer = omega arith;
  }

  pub step_full : at < length f → n ≡ 0 → Steps newest list f n at (Err (record { rule = TooMany; at = at })) n at
  unfolding step_of after_step came
  step_full h z = record {
    answer = rw (lt-leb (length f) at h, z);
    after = rw (lt-leb (length f) at h, z);
    walk = rw z (file_full read (length f) at h);
    fewer = omega arith;
  }

  module _ (h : at < length f) (some : 1 ≤ n) where
    here : eqb n 0 ≡ false
    here = ne_eqb n 0 (λ z. omega arith)

    step : sites_from newest list f n at ≡ onto (read at) (sites_from newest list f (n - 1))
    step = let z : n ≡ suc (n - 1) = omega arith in ap (λ k. sites_from newest list f k at) z ∙ file_step read (length f) (n - 1) at h

    refused : {r : Refusal} → read at ≡ Err r → Steps newest list f n at (Err r) n at
    unfolding step_of after_step came onto
    refused e = record { answer = rw (lt-leb (length f) at h, here, e); after = rw (lt-leb (length f) at h, here, e); walk = step ∙ rw e; fewer = omega arith }

    -- by the fields
    pub step_refused : {r : Refusal} → fields_at newest list f at ≡ Err r → Steps newest list f n at (Err r) n at
    unfolding site_to
    step_refused e = refused (err_with list e)

    module _ {x : Site × ℕ} (e : fields_at newest list f at ≡ Ok x) where
      -- by rule 21
      pub step_lost : {r : Refusal} → load_rule (terms_of list x.0) ≡ Err r.rule → r.at ≡ x.1 - dioxide_length → Steps newest list f n at (Err r) n at
      unfolding site_to
      step_lost l o = refused (rw (broken_with list e l, ← o))

      pub step_found : load_rule (terms_of list x.0) ≡ Ok tt → Steps newest list f n at (Ok (Some x.0)) (n - 1) x.1
      unfolding step_of after_step came onto site_to
      step_found l =
          let r = ok_with list e l in
          record {
            answer = rw (lt-leb (length f) at h, here, r);
            after = rw (lt-leb (length f) at h, here, r);
            walk = step ∙ ap (λ q. onto q (sites_from newest list f (n - 1))) r;
            fewer = omega arith;
          }

-- ---- a loop that makes an element of each site: those so far, in front of those of the sites to come

module _ {A : Type 0} (make : Site → A) where
  pub before : List A → Contents Site → Contents A
  before xs (Ok ss) = Ok (xs ++ map make ss)
  before xs (Err r) = Err r

  before_none : (c : Contents Site) → made_of make c ≡ before [] c
  unfolding made_of before
  before_none (Ok ss) = refl
  before_none (Err r) = refl

  before_first : (xs : List A) (s : Site) (c : Contents Site) → before xs (first s c) ≡ before (xs ++ (make s ∷ [])) c
  unfolding first before
  before_first xs s (Ok ss) = ap Ok (sym (append_snoc xs (make s) (map make ss)))
  before_first xs s (Err r) = refl

  made_fault : (c : Contents Site) {r : Refusal} → made_of make c ≡ Err r → c ≡ Err r
  unfolding made_of
  made_fault (Ok ss) e = cc
  made_fault (Err k) e = cc

  -- the loop's invariant, of what the file holds, the elements so far, what is still to come and how many may
  pub record SoFar (whole : Contents Site) (xs : List A) (rest : Contents Site) (left : ℕ) : Type 0 where
    pub room : length xs + left ≡ most_records
    pub goes_on : made_of make whole ≡ before xs rest

  pub so_start : {whole rest : Contents Site} {left : ℕ} → whole ≡ rest → left ≡ most_records → SoFar whole [] rest left
  so_start {whole} {rest} e l = record { room = omega arith; goes_on = before_none whole ∙ ap (before []) e }

  module _ {whole old : Contents Site} {xs : List A} {left : ℕ} (so : SoFar whole xs old left) (q : Result (Option Site) Refusal) (new : Contents Site) (step : old ≡ came q new) where
    pub so_end : q ≡ Ok None → made_of make whole ≡ Ok xs
    unfolding before came
    so_end e = so.goes_on ∙ rw (step, e, append-nil)

    pub so_fault : {r : Refusal} → q ≡ Err r → whole ≡ Err r
    unfolding before came
    so_fault e = made_fault whole (so.goes_on ∙ rw (step, e))

    pub so_more : {s : Site} → q ≡ Ok (Some s) → (after : ℕ) → left ≡ after + given q → SoFar whole (xs ++ (make s ∷ [])) new after
    unfolding came
    so_more {s} e after takes = record {
      room = simp length-append (omega (arith, so.room, rw e at takes));
      goes_on = so.goes_on ∙ rw (step, e) (before_first xs s new);
    }

-- the numbers of what is made are those of the file
pub made_numbers : {A : Type 0} (make : Site → A) (c : Contents Site) → result_numbers (made_of make c) ≡ result_numbers c
unfolding made_of result_numbers
made_numbers make (Ok ss) = refl
made_numbers make (Err r) = refl

-- the sites themselves
pub made_same : (c : Contents Site) → made_of (λ s. s) c ≡ c
unfolding made_of
made_same (Ok ss) = ap Ok (map_id ss)
made_same (Err r) = refl
