-- Where all sites convert each is moved, and else 17 names the first field that does not.
use mathlib.Core.Path.{◌≡◌, refl, sym, ap, ◌∙◌}
use mathlib.Core.Bool.{false}
use mathlib.Core.List.{List, [], ◌∷◌, ◌++◌, map}
use Prim.Native.Nat.{ℕ, suc, ◌+◌, ◌*◌, ◌≤◌, ◌<◌}
use native.Mathlib.Omega.{arith}
use lib.ListN.{length, length-append, length-take, get_or, take, drop}
use lib.Seq.{drop-cons}
use Rattle.std.specs.Prelude.{Result, Ok, Err, flat_map}
use Rattle.std.proofs.lemmas.List.{take_more, take-append-drop}
use Rattle.site.specs.Refusal.{Checked, unless}
use Rattle.site.specs.Kinds.{has_dioxide}
use Rattle.site.specs.declared.RecordKind.{RecordKind}
use Rattle.site.specs.declared.RecordKind.TheVariants.{Tag52, Tag53, Tag54, Tag55}
use Rattle.site.specs.declared.Refusal.{Refusal}
use Rattle.site.specs.declared.Site.{Site}
use Rattle.field.specs.Field.{blank_site}
use Rattle.field.proofs.All.{All, none, ◌▸◌, all_append, all_at}
use Rattle.output.proofs.EachLaws.{length_more}
use Rattle.record.specs.File.{Contents, first}
use Rattle.record.specs.Writer.{encode, most_site_record}
use Rattle.convert.specs.declared.targets.Target.{Target}
use Rattle.convert.specs.Moved.{moved, species_convertible, temperature_convertible, Converts, field_start}
use Rattle.convert.specs.Converted.{if_convertible, all_moved, moved_record, file_of, Inconvertible, stand, temperature, FirstInconvertible}

-- ---- one record: it converts, or one of its two fields breaks rule 17

module _ (k : Target) (s : Site) (at : ℕ) where
  data Said : Type 0 where
    converts : Converts k s → Said
    breaks : (r : Refusal) → Inconvertible k at s r → Said

  said : Said
  said = by_rules (species_convertible k s) (temperature_convertible k s) refl refl
    where
      by_rules : (a b : Checked) → species_convertible k s ≡ a → temperature_convertible k s ≡ b → Said
      by_rules (Ok u) (Ok v) p q = converts (record { species = p; temperature = q })
      by_rules (Ok u) (Err x) p q = breaks (record { rule = x; at = at + field_start 16 s }) (temperature p q refl)
      by_rules (Err x) b p q = breaks (record { rule = x; at = at + field_start 7 s }) (stand p refl)

  module _ {A : Type 0} (x : Result A Refusal) where
    converts_on : Converts k s → if_convertible k s at x ≡ x
    unfolding if_convertible unless
    converts_on c = rw (c.species, c.temperature)

    breaks_here : {r : Refusal} → Inconvertible k at s r → if_convertible k s at x ≡ Err r
    unfolding if_convertible unless
    breaks_here (stand broken place) = rw (broken, ← place)
    breaks_here (temperature passed broken place) = rw (passed, broken, ← place)

-- ---- the records of a file

module _ (k : Target) where
  pub all_converts : (ss : List Site) → All (Converts k) ss → (at : ℕ) → all_moved k at ss ≡ Ok (map (moved k) ss)
  unfolding all_moved first
  all_converts [] none at = refl
  all_converts (s ∷ ss) (c ▸ cs) at =
      let rest = all_moved k (at + length (encode s)) ss in
      converts_on k s at (first (moved k s) rest) c ∙ rw (all_converts ss cs (at + length (encode s)))

  -- and only there
  pub all_moved_ok : (ss : List Site) (at : ℕ) {ts : List Site} → all_moved k at ss ≡ Ok ts → All (Converts k) ss
  unfolding all_moved first
  all_moved_ok [] at e = none
  all_moved_ok (s ∷ ss) at {ts} e = by_said (said k s at) (all_moved k (at + length (encode s)) ss) (λ us m. all_moved_ok ss (at + length (encode s)) m) e
    where
      by_said : Said k s at → (c : Contents Site) → ((us : List Site) → c ≡ Ok us → All (Converts k) ss) → if_convertible k s at (first (moved k s) c) ≡ Ok ts → All (Converts k) (s ∷ ss)
      by_said (converts y) (Ok us) more e = y ▸ more us refl
      by_said (converts y) (Err x) more e = let z = sym (converts_on k s at (first (moved k s) (Err x)) y) ∙ e in cc
      by_said (breaks x b) c more e = let z = sym (breaks_here k s at (first (moved k s) c) b) ∙ e in cc

  -- the first field that a record of the kind cannot hold, among records that stand from an offset on
  record FirstFrom (at : ℕ) (ss : List Site) (r : Refusal) : Type 0 where
    before : List Site
    site : Site
    after : List Site
    order : ss ≡ before ++ site ∷ after
    converts : All (Converts k) before
    here : Inconvertible k (at + length (file_of before)) site r

  first_from : (ss : List Site) (at : ℕ) {r : Refusal} → all_moved k at ss ≡ Err r → FirstFrom at ss r
  unfolding all_moved first
  first_from [] at e = cc
  first_from (s ∷ ss) at {r} e = by_said (said k s at) (all_moved k (at + length (encode s)) ss) (λ x m. first_from ss (at + length (encode s)) m) e
    where
      start : at + length (file_of []) ≡ at
      start = omega arith

      by_said : Said k s at → (c : Contents Site) → ((x : Refusal) → c ≡ Err x → FirstFrom (at + length (encode s)) ss x)
          → if_convertible k s at (first (moved k s) c) ≡ Err r → FirstFrom at (s ∷ ss) r
      by_said (breaks x b) c m e =
          let z = sym (breaks_here k s at (first (moved k s) c) b) ∙ e in
          let is : x ≡ r = cc in
          record { before = []; site = s; after = ss; order = refl; converts = none; here = rw (start, ← is) b }
      by_said (converts y) (Err x) m e =
          let z = sym (converts_on k s at (first (moved k s) (Err x)) y) ∙ e in
          let is : x ≡ r = cc in
          let rest = m r (ap Err is) in
          let far : at + length (encode s) + length (file_of rest.before) ≡ at + length (file_of (s ∷ rest.before)) = omega (arith, length-append (encode s) (file_of rest.before)) in
          record {
            before = s ∷ rest.before;
            site = rest.site;
            after = rest.after;
            order = ap (λ xs. s ∷ xs) {y = rest.before ++ rest.site ∷ rest.after} rest.order;
            converts = y ▸ rest.converts;
            here = rw far at rest.here;
          }
      by_said (converts y) (Ok us) m e = let z = sym (converts_on k s at (first (moved k s) (Ok us)) y) ∙ e in cc

  -- of a file the first from the left
  pub first_inconvertible : (ss : List Site) {r : Refusal} → all_moved k 0 ss ≡ Err r → FirstInconvertible k ss r
  first_inconvertible ss e =
      let x = first_from ss 0 e in
      let start : 0 + length (file_of x.before) ≡ length (file_of x.before) = omega arith in
      record {
        before = x.before;
        site = x.site;
        after = x.after;
        order = x.order;
        converts = λ i h. all_at x.converts i blank_site h;
        here = rw start at x.here;
      }

-- no record without field 11 is longer than the greatest of kind 54
pub old_short : (j : RecordKind) → has_dioxide j ≡ false → most_site_record j ≤ most_site_record Tag54
old_short Tag52 o = omega arith
old_short Tag53 o = omega arith
old_short Tag54 o = omega arith
old_short Tag55 o = cc

-- ---- the loop over the sites of a file

-- what it knows of the sites so far: they convert, their records end at the offset `at`, and moved they have `len` bytes; each record has at most 104
pub record MovedSoFar (k : Target) (ss : List Site) (at len : ℕ) : Type 0 where
  pub converts : All (Converts k) ss
  pub start : at ≡ length (file_of ss)
  pub bytes : len ≡ length (flat_map (moved_record k) ss)
  pub few : (at ≤ most_site_record Tag54 * length ss) × (len ≤ most_site_record Tag54 * length ss)

module _ (k : Target) where
  pub moved_start : MovedSoFar k [] 0 0
  moved_start = record { converts = none; start = refl; bytes = refl; few = (omega arith, omega arith) }

  convertible_ok : (s : Site) (at : ℕ) → if_convertible {A = Unit {0}} k s at (Ok tt) ≡ Ok tt → Converts k s
  convertible_ok s at e = by_said (said k s at)
    where
      by_said : Said k s at → Converts k s
      by_said (converts y) = y
      by_said (breaks x b) = let z = sym (breaks_here k s at {A = Unit {0}} (Ok tt) b) ∙ e in cc

  convertible_err : {A : Type 0} (x : Result A Refusal) (s : Site) (at : ℕ) {r : Refusal} → if_convertible {A = Unit {0}} k s at (Ok tt) ≡ Err r → if_convertible k s at x ≡ Err r
  convertible_err {A} x s at {r} e = by_said (said k s at)
    where
      by_said : Said k s at → if_convertible k s at x ≡ Err r
      by_said (converts y) = let z = sym (converts_on k s at {A = Unit {0}} (Ok tt) y) ∙ e in cc
      by_said (breaks q b) = let z = sym (breaks_here k s at {A = Unit {0}} (Ok tt) b) ∙ e in let is : q ≡ r = cc in rw (← is) (breaks_here k s at x b)

  past : (xs ys : List Site) → All (Converts k) xs → (at : ℕ) {r : Refusal} → all_moved k (at + length (file_of xs)) ys ≡ Err r → all_moved k at (xs ++ ys) ≡ Err r
  unfolding all_moved first
  past [] ys none at e = let same : at + length (file_of []) ≡ at = omega arith in rw same at e
  past (s ∷ xs) ys (c ▸ cs) at e =
      let next = at + length (encode s) in
      let same : at + length (file_of (s ∷ xs)) ≡ next + length (file_of xs) = omega (arith, length-append (encode s) (file_of xs)) in
      converts_on k s at (first (moved k s) (all_moved k next (xs ++ ys))) c ∙ rw (past xs ys cs next (rw same at e))

  module _ (ss : List Site) (i : ℕ) (d : Site) (h : i < length ss) {at len : ℕ} (so : MovedSoFar k (take i ss) at len) where
    pub moved_fault : {r : Refusal} → if_convertible {A = Unit {0}} k (get_or ss i d) at (Ok tt) ≡ Err r → all_moved k 0 ss ≡ Err r
    unfolding all_moved
    moved_fault {r} e =
        let s = get_or ss i d in
        let rest = drop (suc i) ss in
        let whole : take i ss ++ s ∷ rest ≡ ss = ap (λ xs. take i ss ++ xs) (sym (drop-cons ss i d h)) ∙ take-append-drop i ss in
        let here : all_moved k at (s ∷ rest) ≡ Err r = convertible_err (first (moved k s) (all_moved k (at + length (encode s)) rest)) s at e in
        let start : at ≡ 0 + length (file_of (take i ss)) = omega (arith, so.start) in
        rw whole at (past (take i ss) (s ∷ rest) so.converts 0 (rw start at here))

    pub moved_more : if_convertible {A = Unit {0}} k (get_or ss i d) at (Ok tt) ≡ Ok tt → (n m : ℕ) → n ≡ length (encode (get_or ss i d)) → m ≡ length (moved_record k (get_or ss i d))
        → n ≤ most_site_record Tag54 → m ≤ most_site_record Tag54 → MovedSoFar k (take (i + 1) ss) (at + n) (len + m)
    moved_more e n m p q few_n few_m =
        let long : length (take (i + 1) ss) ≡ length (take i ss) + 1 = simp length-take (omega arith) in
        record {
          converts = rw (take_more ss i d h) (all_append so.converts (convertible_ok (get_or ss i d) at e ▸ none));
          start = omega (arith, so.start, length_more encode ss i d h);
          bytes = omega (arith, so.bytes, length_more (moved_record k) ss i d h);
          few = (omega (arith, so.few, long), omega (arith, so.few, long));
        }

  pub moved_end : (ss : List Site) {at len : ℕ} → MovedSoFar k ss at len → (all_moved k 0 ss ≡ Ok (map (moved k) ss)) × (len ≡ length (flat_map (moved_record k) ss))
  moved_end ss so = (all_converts k ss so.converts 0, so.bytes)
