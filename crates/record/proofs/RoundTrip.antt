-- Reading and writing undo each other.
use mathlib.Core.Path.{◌≡◌, refl, sym, ap, ◌∙◌}
use mathlib.Core.Bool.{Bool, true, false}
use mathlib.Core.List.{List, [], append-nil}
use Prim.Native.Nat.{ℕ, ◌+◌, ◌-◌, ◌≤◌}
use native.Mathlib.Omega.{arith}
use lib.Dec.{eqb}
use lib.ListN.{length, get_or, take}
use lib.Seq.{take_all}
use borrow.Author.Tests.{ne_eqb, eq-eqb}
use Rattle.std.specs.Prelude.{Result, Ok, Err, IfOk, IfErr}
use Rattle.site.specs.Choice.{pick}
use Rattle.site.specs.declared.RecordKind.TheVariants.{Tag55}
use Rattle.site.specs.declared.Site.{Site}
use Rattle.site.specs.declared.Refusal.{Refusal}
use Rattle.site.specs.declared.Rule.TheVariants.{NoBytes, TooMany, LoadBelowZero}
use Rattle.loads.specs.Check.{site_rule}
use Rattle.field.specs.Field.{site_kind}
use Rattle.numbers.specs.TwoBytes.{AllBytes}
use Rattle.field.specs.Clean.{clean, Sized}
use Rattle.record.specs.Result.{result_numbers}
use Rattle.record.specs.declared.found.Found.{Found}
use Rattle.record.specs.Records.{most_record, only_one, single}
use Rattle.record.specs.Outer.{fields_at, site_to, site_at, record_at, read_record}
use Rattle.site.specs.Kinds.{counted_dioxide}
use Rattle.record.proofs.LoadRuleLaws.{unlost_with}
use Rattle.record.specs.File.{alone, contents_by}
use Rattle.record.specs.Writer.{encode, WritesAgain}
use Rattle.record.proofs.EncodeLaws.{encode_length}
use Rattle.record.proofs.RecordLaws.{single_ok, ok_single}
use Rattle.record.proofs.Place.{record_ok, record_err, site_fault_near, site_near, site_passes, site_clean, site_bytes, site_read}
use Rattle.record.proofs.FirstFaultLaws.{file_fault_near}
use Rattle.record.proofs.FoundLaws.{lost_there}
use Rattle.record.proofs.SiteFile.{single_is}

-- ---- what is written is read

-- a site that passes is read again from its record, as `clean` has it: with zeros past its name and its entries, and the temperature that counts
pub read_written : (list : List ℕ) (s : Site) → Sized s → site_rule list s ≡ Ok tt → read_record list (encode s) ≡ Ok (clean s)
unfolding read_record
read_written list s z e =
    let bs = encode s in
    let some : 1 ≤ length bs = omega (arith, encode_length (site_kind [] s.kind) s) in
    let end : 0 + length bs ≡ length bs = omega arith in
    let q : site_at list bs 0 ≡ Ok (clean s, length bs) = rw end at (site_read list s z e bs [] 0 (sym (append-nil bs))) in
    ok_single (site_at list bs) (length bs) some q

-- ---- what is read is written

module _ (list : List ℕ) (s : Site) (f : List ℕ) (e : read_record list f ≡ Ok s) where
  found_first : site_at list f 0 ≡ Ok (s, length f)
  unfolding read_record
  found_first = single_ok (site_at list f) (length f) e

  -- a site that was read passes the check; past the name and the entries stand zeros, and in the temperature's place of kind 52 that of 8 °C
  pub read_passes : site_rule list s ≡ Ok tt
  read_passes = site_passes Tag55 list f 0 found_first

  pub read_clean : clean s ≡ s
  read_clean = site_clean Tag55 list f 0 found_first

  written_read : AllBytes f → encode s ≡ f
  written_read b =
      let n : length f - 0 ≡ length f = omega arith in
      let t : take (length f) f ≡ f = take_all (length f) f (omega arith) in
      rw n at (site_bytes Tag55 list f 0 found_first b) ∙ t

  -- an accepted record is written again byte for byte
  pub writes_again : AllBytes f → WritesAgain list s f
  writes_again b = record { passes = read_passes; bytes = written_read b }

-- without carbon dioxide a record is read as its fields are
pub unlost_read : (list f : List ℕ) (s : Site) → 1 ≤ length f → single (fields_at Tag55 list f) (length f) ≡ Ok s → counted_dioxide s ≡ 0 → read_record list f ≡ Ok s
unfolding read_record site_to
unlost_read list f s some e none = ok_single (site_at list f) (length f) some (unlost_with list (single_ok (fields_at Tag55 list f) (length f) e) none)

-- two different records never read to one site, with one list or with two
pub read_injective : (list more : List ℕ) (s : Site) (f g : List ℕ) → AllBytes f → AllBytes g → read_record list f ≡ Ok s → read_record more g ≡ Ok s → f ≡ g
read_injective list more s f g b c p q = sym (written_read list s f p b) ∙ written_read more s g q c

-- a file that is read is one record of at most 258 bytes, and no fault lies past that
pub read_short : (list f : List ℕ) {s : Site} → read_record list f ≡ Ok s → length f ≤ most_record
read_short list f {s} e = site_near Tag55 list f 0 (found_first list s f e)

pub read_fault_near : (list f : List ℕ) {r : Refusal} → read_record list f ≡ Err r → r.at ≤ most_record
unfolding alone
read_fault_near list f e =
    omega (arith, file_fault_near (site_at list f) most_record (λ at x r. site_near Tag55 list f at r) (λ at r e. site_fault_near Tag55 list f at e) (length f) 1 (single_is list f ∙ ap alone e))

-- ---- the reader's promises follow from its answer

read_again : (list f : List ℕ) (q : Result Site Refusal) → AllBytes f → read_record list f ≡ q → IfOk q (λ s. WritesAgain list s f)
read_again list f (Ok s) b e = writes_again list s f e b
read_again list f (Err r) b e = tt

alone_numbers : (q : Result Site Refusal) → result_numbers (alone q) ≡ result_numbers q
unfolding result_numbers alone
alone_numbers (Ok s) = refl
alone_numbers (Err r) = refl

-- where 21 is given there is the tag of field 11
read_lost : (list f : List ℕ) {r : Refusal} → AllBytes f → read_record list f ≡ Err r → r.rule ≡ LoadBelowZero → get_or f r.at 0 ≡ 17
unfolding read_record single only_one
read_lost list f {r} b e is = by_length (eqb (length f) 0) e
  where
    by_end : (t : Bool) (x : Site × ℕ) → pick t (Ok x.0) (Err (record { rule = TooMany; at = x.1 })) ≡ Err r → get_or f r.at 0 ≡ 17
    by_end true x q = cc
    by_end false x q = let same : record { rule = TooMany; at = x.1 } ≡ r = cc in let z : TooMany ≡ LoadBelowZero = ap (λ (k : Refusal). k.rule) same ∙ is in cc

    by_first : (c : Result (Site × ℕ) Refusal) → site_at list f 0 ≡ c → only_one (length f) c ≡ Err r → get_or f r.at 0 ≡ 17
    by_first (Ok x) s q = by_end (eqb x.1 (length f)) x q
    by_first (Err k) s q = let same : k ≡ r = cc in lost_there list f 0 b (rw same at s) is

    by_length : (t : Bool) → pick t (Err (record { rule = NoBytes; at = 0 })) (only_one (length f) (site_at list f 0)) ≡ Err r → get_or f r.at 0 ≡ 17
    by_length true q = let same : record { rule = NoBytes; at = 0 } ≡ r = cc in let z : NoBytes ≡ LoadBelowZero = ap (λ (k : Refusal). k.rule) same ∙ is in cc
    by_length false q = by_first (site_at list f 0) refl q

lost_read : (list f : List ℕ) (q : Result Site Refusal) → AllBytes f → read_record list f ≡ q → IfErr q (λ r. r.rule ≡ LoadBelowZero → get_or f r.at 0 ≡ 17)
lost_read list f (Ok s) b e = tt
lost_read list f (Err r) b e = read_lost list f b e

pub read_answers : (list f : List ℕ) (q : Result Site Refusal) → AllBytes f → read_record list f ≡ q → record {
  answer : q ≡ read_record list f;
  numbers : result_numbers q ≡ result_numbers (contents_by 1 (site_at list f) (length f));
  at_field_11 : IfErr q (λ r. r.rule ≡ LoadBelowZero → get_or f r.at 0 ≡ 17);
  written_again : IfOk q (λ s. WritesAgain list s f);
}
read_answers list f q b e = record { answer = sym e; at_field_11 = lost_read list f q b e; numbers = sym (alone_numbers q) ∙ ap (λ x. result_numbers (alone x)) (sym e) ∙ ap result_numbers (sym (single_is list f)); written_again = read_again list f q b e }

pub read_none : (list f : List ℕ) → eqb (length f) 0 ≡ true → read_record list f ≡ Err (record { rule = NoBytes; at = 0 })
unfolding read_record single
read_none list f e = rw e

module _ (list f : List ℕ) (some : eqb (length f) 0 ≡ false) where
  pub read_refused : (r : Refusal) → record_at list f 0 ≡ Err r → read_record list f ≡ Err r
  unfolding read_record single only_one
  read_refused r e = rw (some, record_err list f 0 e)

  module _ (x : Found) (e : record_at list f 0 ≡ Ok x) where
    pub read_whole : x.next ≡ length f → read_record list f ≡ Ok x.site
    unfolding read_record single only_one
    read_whole h = rw (some, record_ok list f 0 e, eq-eqb _ _ h)

    pub read_more : (x.next ≡ length f → ⊥) → read_record list f ≡ Err (record { rule = TooMany; at = x.next })
    unfolding read_record single only_one
    read_more h = rw (some, record_ok list f 0 e, ne_eqb _ _ h)
