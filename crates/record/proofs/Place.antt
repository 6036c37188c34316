-- What a site's record says that was accepted in a file.
use mathlib.Core.Path.{◌≡◌, refl, sym, ap, ◌∙◌}
use mathlib.Core.List.{List, [], ◌++◌}
use Prim.Native.Nat.{ℕ, ◌+◌, ◌-◌, ◌≤◌}
use lib.ListN.{length, get_or, take, drop}
use borrow.Author.Tests.{eqb-true, leb-true}
use Rattle.std.specs.Prelude.{Result, Ok, Err}
use Rattle.site.specs.declared.Site.{Site}
use Rattle.site.specs.declared.Refusal.{Refusal}
use Rattle.site.specs.Check.{due_rule}
use Rattle.loads.specs.SiteTerms.{terms_of}
use Rattle.loads.specs.MaxS.{load_rule}
use Rattle.loads.specs.Check.{site_rule}
use Rattle.loads.proofs.CheckLaws.{last_passed, passed_fields, passed_load}
use Rattle.loads.proofs.OneSiteLaws.{terms_same}
use Rattle.field.proofs.SameLaws.{clean_same}
use Rattle.record.specs.FirstFault.{LoadBroken}
use Rattle.record.proofs.LoadRuleLaws.{ok_with, with_ok, with_err}
use Rattle.site.specs.declared.RecordKind.{RecordKind}
use Rattle.site.specs.declared.RecordKind.TheVariants.{Tag52, Tag53, Tag54, Tag55}
use Rattle.site.specs.Kinds.{kind_tag, due}
use lib.Dec.{eqb, leb}
use mathlib.Core.Bool.{Bool, true, false, false≢true}
use Rattle.record.specs.declared.found.Found.{Found}
use Rattle.record.specs.Result.{result_numbers}
use Rattle.field.specs.Field.{site_kind}
use Rattle.record.specs.Fields.{encode_as}
use Rattle.record.specs.Records.{most_record, record_in}
use mathlib.Core.Logic.{◌⊎◌, ⊎_elim}
use native.Mathlib.Omega.{arith}
use Rattle.record.specs.Outer.{known_to, site_kinds, fields_at, with_load, site_to, site_at, found_of, record_at}
use Rattle.numbers.specs.TwoBytes.{AllBytes}
use Rattle.field.specs.Clean.{clean, Sized}
use Rattle.record.specs.Writer.{encode, WritesAgain}
use Rattle.record.proofs.EncodeLaws.{fields_same, encode_same, fields_small}
use Rattle.record.proofs.RecordLaws.{AcceptedAt, accepted_at, record_after, record_inside, record_near, record_take, record_written, record_read}
use Rattle.record.proofs.FirstFaultLaws.{record_fault_near}
use Rattle.record.proofs.SiteTrips.{walked_kind, walked_passes, walked_clean, encode_read, read_encode}

-- ---- by the definition, for a reader of any newest kind

module _ (newest : RecordKind) where
  pub site_take : (list : List ℕ) (m at : ℕ) (f : List ℕ) → at + most_record ≤ m → site_to newest list (take m f) at ≡ site_to newest list f at
  unfolding site_to fields_at
  site_take list m at f h = ap (with_load list) (record_take (known_to newest) (site_kinds list) m at f h)

  pub fields_ok : (list f : List ℕ) (at : ℕ) {x : Site × ℕ} → site_to newest list f at ≡ Ok x → (fields_at newest list f at ≡ Ok x) × (load_rule (terms_of list x.0) ≡ Ok tt)
  unfolding site_to
  fields_ok list f at e = with_ok list (fields_at newest list f at) e

  pub site_fault : (list f : List ℕ) (at : ℕ) {r : Refusal} → site_to newest list f at ≡ Err r → (fields_at newest list f at ≡ Err r) ⊎ LoadBroken newest list f at r
  unfolding site_to
  site_fault list f at e = with_err list newest f at e

  fields_near : (list f : List ℕ) (at : ℕ) {x : Site × ℕ} → fields_at newest list f at ≡ Ok x → x.1 ≤ at + most_record
  unfolding fields_at
  fields_near list f at e = record_near (known_to newest) (site_kinds list) f at e

  fields_fault_near : (list f : List ℕ) (at : ℕ) {r : Refusal} → fields_at newest list f at ≡ Err r → r.at ≤ at + most_record
  unfolding fields_at
  fields_fault_near list f at e = record_fault_near (known_to newest) (site_kinds list) (drop at f) at e

  pub site_fault_near : (list f : List ℕ) (at : ℕ) {r : Refusal} → site_to newest list f at ≡ Err r → r.at ≤ at + most_record
  site_fault_near list f at {r} e =
      ⊎_elim (λ (i : fields_at newest list f at ≡ Err r). fields_fault_near list f at i)
      (λ (l : LoadBroken newest list f at r). omega (arith, l.offset, fields_near list f at l.accepted))
      (site_fault list f at e)

-- an outer tag that is known is that of a kind, no newer than the newest
pub record KindOf (newest : RecordKind) (list : List ℕ) (t : ℕ) : Type 0 where
  pub kind : RecordKind
  pub here : site_kinds list t ≡ site_kind list kind
  pub tag : kind_tag kind ≡ t
  pub old : kind_tag kind ≤ kind_tag newest

kind_of : (newest : RecordKind) (list : List ℕ) (t : ℕ) → known_to newest t ≡ true → KindOf newest list t
unfolding known_to site_kinds
kind_of newest list t known = by_tag (eqb t 82) (eqb t 83) (eqb t 84) (eqb t 85) refl refl refl refl known
  where
    old : (k : RecordKind) → t ≡ kind_tag k → leb t (kind_tag newest) ≡ true → kind_tag k ≤ kind_tag newest
    old k is l = omega (arith, leb-true t (kind_tag newest) l)

    by_tag : (a b c d : Bool) → eqb t 82 ≡ a → eqb t 83 ≡ b → eqb t 84 ≡ c → eqb t 85 ≡ d → known_to newest t ≡ true → KindOf newest list t
    by_tag true b c d e f g h known = let is = eqb-true t 82 e in record { kind = Tag52; here = rw e; tag = sym is; old = old Tag52 is (rw e at known) }
    by_tag false true c d e f g h known = let is = eqb-true t 83 f in record { kind = Tag53; here = rw (e, f); tag = sym is; old = old Tag53 is (rw (e, f) at known) }
    by_tag false false true d e f g h known = let is = eqb-true t 84 g in record { kind = Tag54; here = rw (e, f, g); tag = sym is; old = old Tag54 is (rw (e, f, g) at known) }
    by_tag false false false true e f g h known =
        let is = eqb-true t 85 h in record { kind = Tag55; here = rw (e, f, g, h); tag = sym is; old = old Tag55 is (rw (e, f, g, h) at known) }
    by_tag false false false false e f g h known = absurd (false≢true (rw (e, f, g, h) at known))

-- a record whose fields are all accepted
module _ (newest : RecordKind) (list f : List ℕ) (at : ℕ) {x : Site × ℕ} (e : fields_at newest list f at ≡ Ok x) where
  accepted : record_in (known_to newest) (site_kinds list) (drop at f) at ≡ Ok x
  unfolding fields_at
  accepted = e

  here : AcceptedAt (known_to newest) (site_kinds list) (drop at f) at x
  here = accepted_at (known_to newest) (site_kinds list) f at accepted

  fields_after : at + 3 ≤ x.1
  fields_after = record_after (known_to newest) (site_kinds list) f at accepted

  pub fields_inside : x.1 ≤ length f
  fields_inside = record_inside (known_to newest) (site_kinds list) f at accepted

  fields_pass : due_rule list x.0 ≡ Ok tt
  unfolding site_kinds
  fields_pass = walked_passes list _ _ _ _ here.walked

  fields_clean : clean x.0 ≡ x.0
  unfolding site_kinds
  fields_clean = walked_clean list _ _ _ _ here.walked

  pub kind_is : KindOf newest list (get_or (drop at f) 0 0)
  kind_is = kind_of newest list (get_or (drop at f) 0 0) here.outer.tag

  pub fields_kind : x.0.kind ≡ kind_is.kind
  fields_kind = walked_kind list kind_is.kind x.0 _ _ (rw kind_is.here at here.walked)

  pub fields_old : kind_tag x.0.kind ≤ kind_tag newest
  fields_old = rw fields_kind kind_is.old

  -- its bytes are those of its site
  pub fields_bytes : AllBytes f → encode x.0 ≡ take (x.1 - at) (drop at f)
  fields_bytes b =
      let k = kind_is in
      ap (λ j. encode_as (site_kind [] j) x.0) fields_kind
      ∙ sym (encode_same list k.kind x.0)
      ∙ record_written (known_to newest) (site_kinds list) f at accepted b (site_kind list k.kind) k.here k.tag (λ bs a c w. encode_read list k.kind x.0 bs a w c)

-- and which rule 21 lets pass
module _ (newest : RecordKind) (list f : List ℕ) (at : ℕ) {x : Site × ℕ} (e : site_to newest list f at ≡ Ok x) where
  pub site_after : at + 3 ≤ x.1
  site_after = fields_after newest list f at (fields_ok newest list f at e).0

  pub site_inside : x.1 ≤ length f
  site_inside = fields_inside newest list f at (fields_ok newest list f at e).0

  pub site_near : x.1 ≤ at + most_record
  site_near = fields_near newest list f at (fields_ok newest list f at e).0

  pub site_passes : site_rule list x.0 ≡ Ok tt
  site_passes = let p = fields_ok newest list f at e in last_passed list x.0 (fields_pass newest list f at p.0) p.1

  pub site_clean : clean x.0 ≡ x.0
  site_clean = fields_clean newest list f at (fields_ok newest list f at e).0

  pub site_bytes : AllBytes f → encode x.0 ≡ take (x.1 - at) (drop at f)
  site_bytes b = fields_bytes newest list f at (fields_ok newest list f at e).0 b

  pub site_writes_again : AllBytes f → WritesAgain list x.0 (take (x.1 - at) (drop at f))
  site_writes_again b = record { passes = site_passes; bytes = site_bytes b }

-- a kind is that of its outer tag
kind_again : (list : List ℕ) (k : RecordKind) → (known_to Tag55 (kind_tag k) ≡ true) × (site_kinds list (kind_tag k) ≡ site_kind list k)
unfolding known_to site_kinds
kind_again list Tag52 = (refl, refl)
kind_again list Tag53 = (refl, refl)
kind_again list Tag54 = (refl, refl)
kind_again list Tag55 = (refl, refl)

-- a site whose fields pass is read again from its record, whatever follows it, as `clean` has it
fields_again : (list : List ℕ) (s : Site) → Sized s → due_rule list s ≡ Ok tt → (rest : List ℕ) (at : ℕ)
    → record_in (known_to Tag55) (site_kinds list) (encode s ++ rest) at ≡ Ok (clean s, at + length (encode s))
fields_again list s z e rest at =
    let k = kind_again list s.kind in
    let small = rw (← fields_same list s.kind (due s.kind) s) at (fields_small s z) in
    rw encode_same at (record_read (known_to Tag55) (site_kinds list) (site_kind list s.kind) s (clean s) rest at k.0 k.1 small (read_encode list s z e (at + 3)))

-- and it has the same terms, so rule 21 says of it what it said
clean_load : (list : List ℕ) (s : Site) → Sized s → site_rule list s ≡ Ok tt → load_rule (terms_of list (clean s)) ≡ Ok tt
clean_load list s z e = rw (← terms_same list s (clean s) (clean_same list s z (passed_fields list s e)).one) (passed_load list s e)

pub site_read : (list : List ℕ) (s : Site) → Sized s → site_rule list s ≡ Ok tt → (f rest : List ℕ) (at : ℕ) → drop at f ≡ encode s ++ rest
    → site_at list f at ≡ Ok (clean s, at + length (encode s))
unfolding site_to fields_at
site_read list s z e f rest at is = ok_with list (rw is (fields_again list s z (passed_fields list s e) rest at)) (clean_load list s z e)

-- ---- by what the call gives

ok_found : (q : Result (Site × ℕ) Refusal) {x : Found} → found_of q ≡ Ok x → q ≡ Ok (x.site, x.next)
unfolding found_of
ok_found (Ok y) {x} e = let is : record { site = y.0; next = y.1 } ≡ x = cc in rw (← is)
ok_found (Err r) e = cc

err_found : (q : Result (Site × ℕ) Refusal) {r : Refusal} → found_of q ≡ Err r → q ≡ Err r
unfolding found_of
err_found (Ok y) e = cc
err_found (Err k) e = cc

pub found_numbers : (q : Result (Site × ℕ) Refusal) → result_numbers (found_of q) ≡ result_numbers q
unfolding found_of result_numbers
found_numbers (Ok x) = refl
found_numbers (Err r) = refl

module _ (list f : List ℕ) (at : ℕ) where
  pub record_ok : {x : Found} → record_at list f at ≡ Ok x → site_at list f at ≡ Ok (x.site, x.next)
  record_ok e = ok_found (site_at list f at) e

  pub record_err : {r : Refusal} → record_at list f at ≡ Err r → site_at list f at ≡ Err r
  record_err e = err_found (site_at list f at) e
