-- Items that the reader finds.
use Rattle.std.proofs.Common.{◌≡◌, ℕ, zero, suc, ◌+◌, ◌-◌, ◌<◌, ◌≤◌, Bool, true, false, if◌then◌else◌, List, [], ◌∷◌, ◌++◌, map, length, drop, get_or, inl, inr, ap, subst, ◌∙◌, sym, refl, arith, append_assoc, append-nil, Result, Ok, Err, Option, Some, None}
use Rattle.std.specs.Result.{is_ok, is_err}
use Rattle.std.proofs.lemmas.Bool.{false≢true}
use Rattle.std.specs.Fmt.{decimal}
use Rattle.std.specs.List.{AllByRecursion, join_with_byte}
use Rattle.std.specs.Prelude.{MatchOption, OnOk}
use Rattle.std.proofs.lemmas.Bool.{cases_lt}
use Rattle.std.proofs.lemmas.List.{drop_all}
use Rattle.pascal_values.specs.declared.value.Value.{Value, Value-F, out-Value}
use Rattle.pascal_values.specs.declared.value.Value.TheVariants as value
use Rattle.pascal_values.specs.declared.failing.ValueError.{ValueError}
use Rattle.pascal_values.specs.declared.failing.ValueError.TheVariants.{NoValue, Memory}
use Rattle.pascal_values.specs.Texts.{text, HasForm, NoDigit}
use Rattle.pascal_values.specs.Reading.{Reads, HasNone, IsReading}
use Rattle.pascal_values.specs.Steps.{Stands, IsNumber, IsOrdinal, IsItem, NoItem, listed, separator, NoSeparator, IsItems, IsCloser, IsPartReading, ArePartsRead, separated_of}
use Rattle.pascal_values.proofs.Decimals.{number_only, tails, longer, same_length}
use Rattle.pascal_values.proofs.KindLemmas.{first_digit, text_is, no_nil}
use Rattle.pascal_values.proofs.UniqueLemmas.{values_apart, stops_from_ends}
use Rattle.pascal_values.proofs.ListingLemmas.{listed_ends, IsRead, read_fails}
use Rattle.pascal_values.proofs.ReadingLemmas.{digit_here, Part, formed, formed_by, has_form, kind_is, kind_6, kind_7, text_by, IsClosed, reads_closed, unset_reads}
use Rattle.pascal_values.proofs.PlaceLemmas.{stands_here}

pub pushed : {A E X : Type 0} (r : Result A E) (failed : Bool) (new a b : List X) → new ≡ (if is_ok r then a else b) → failed ≡ is_err r → failed ≡ false → new ≡ a
pushed (Ok x) failed new a b e f g = e
pushed (Err x) failed new a b e f g = absurd (false≢true (sym g ∙ f))

-- what follows an item begins with a comma or the bracket
pub listed_first : {X : Type 0} (f : X → List ℕ) (close : ℕ) (ys : List X) (q : List ℕ) → (last : Bool) × (t : List ℕ) × (listed f close ys q ≡ separator close last ∷ t)
listed_first f close [] q = (true, q, refl)
listed_first f close (y ∷ ys) q = (false, f y ++ listed f close ys q, refl)

module _ (bytes : List ℕ) (at_ n end_ : ℕ) (number : IsNumber 255 bytes at_ n end_) where
  only_number : (y : ℕ) (t : List ℕ) → IsOrdinal y → NoDigit t → drop at_ bytes ≡ decimal y ++ t → (n ≡ y) × (drop end_ bytes ≡ t)
  only_number y t y_in = number_only 255 n (drop at_ bytes) (drop end_ bytes) (omega arith) number.fits number.full number.is y t (omega arith)

  pub ordinal_item : (last : Bool) → Stands bytes end_ (separator 93 last) → IsItem decimal IsOrdinal 93 bytes at_ n (end_ + 1) last
  ordinal_item last s = record {
    form = omega (arith, number.fits);
    goes = omega (arith, number.goes);
    within = omega (arith, s.within);
    is = number.is ∙ ap (λ t. decimal n ++ t) s.is;
    only = λ y t y_in none e. let o = only_number y t y_in none e in (o.0, sym s.is ∙ o.1);
  }

  pub ordinal_alone : NoSeparator 93 (drop end_ bytes) → NoItem decimal IsOrdinal 93 (drop at_ bytes)
  ordinal_alone none y ys q y_in e =
      let o = only_number y (listed decimal 93 ys q) y_in (listed_ends decimal IsOrdinal 93 (inl (omega arith)) ys q) e in
      let l = listed_first decimal 93 ys q in
      none l.0 l.1 (o.1 ∙ l.2)

pub no_ordinal : (s : List ℕ) → NoDigit s → NoItem decimal IsOrdinal 93 s
no_ordinal s none y ys q y_in e =
    let d = first_digit y (omega arith) in
    digit_here d.0 (d.1 ++ listed decimal 93 ys q) s d.2 (e ∙ ap (λ t. t ++ listed decimal 93 ys q) d.3) none

-- ---- parts of arrays and records

ends_first : (c : ℕ) (t u r : List ℕ) → NoDigit r → r ≡ c ∷ t → NoDigit (c ∷ u)
ends_first c t u r none e = subst NoDigit e none

-- the value that is read is the only one before text that no digit begins
pub part_only : (depth : ℕ) (s : List ℕ) (v : Value) (r : List ℕ) → Reads depth s v r → (y : Value) (t : List ℕ) → HasForm depth y → NoDigit t → s ≡ text y ++ t → (v ≡ y) × (r ≡ t)
part_only depth s v r reads y t k none e =
    let same : text v ++ r ≡ text y ++ t = sym reads.is ∙ e in
    let le = reads.longest y t k e in
    elim (cases_lt (length (text y)) (length (text v))) [
      | inr ge ↦
          let p = same_length (text v) r (text y) t same (omega arith) in
          let u = values_apart depth v y [] [] reads.form k (stops_from_ends (out-Value v) [] tt) (stops_from_ends (out-Value y) [] tt) (append-nil (text v) ∙ (p.0 ∙ sym (append-nil (text y)))) in
          (u.0, p.1)
      | inl less ↦
          let l = longer (text y) t (text v) r (sym same) less in
          let u = values_apart depth v y [] (l.0 ∷ l.1) reads.form k (stops_from_ends (out-Value v) [] tt) (stops_from_ends (out-Value y) (l.0 ∷ l.1) (ends_first l.0 (l.1 ++ r) l.1 t none l.3)) (append-nil (text v) ∙ l.2) in
          absurd (nil_cons l.0 l.1 u.1)
    ]
  where
    nil_cons : (c : ℕ) (cs : List ℕ) → [] ≡ c ∷ cs → ⊥
    nil_cons c cs e' = cc

module _ (depth close : ℕ) (out : IsCloser close) (bytes : List ℕ) (at_ : ℕ) (v : Value) (end_ : ℕ) (reading : (at_ ≤ end_) × (end_ ≤ length bytes) × Reads depth (drop at_ bytes) v (drop end_ bytes)) where
  part_item : (last : Bool) → Stands bytes end_ (separator close last) → IsItem text (HasForm depth) close bytes at_ v (end_ + 1) last
  part_item last s = record {
    form = reading.2.form;
    goes = omega (arith, reading.0);
    within = omega (arith, s.within);
    is = reading.2.is ∙ ap (λ t. text v ++ t) s.is;
    only = λ y t k none e. let o = part_only depth (drop at_ bytes) v (drop end_ bytes) reading.2 y t k none e in (o.0, sym s.is ∙ o.1);
  }

  part_alone : NoSeparator close (drop end_ bytes) → NoItem text (HasForm depth) close (drop at_ bytes)
  part_alone none y ys q k e =
      let o = part_only depth (drop at_ bytes) v (drop end_ bytes) reading.2 y (listed text close ys q) k (listed_ends text (HasForm depth) close out ys q) e in
      let l = listed_first text close ys q in
      none l.0 l.1 (o.1 ∙ l.2)

  -- a part with what stands behind it
  pub part_read : (o : Option Bool) (r : Result (Value × ℕ × Bool) ValueError) → MatchOption o (NoSeparator close (drop end_ bytes)) (λ last. Stands bytes end_ (separator close last)) → r ≡ separated_of v end_ o → IsPartReading depth close bytes at_ r
  part_read None r h is = subst (IsPartReading depth close bytes at_) (sym is) (part_alone h)
  part_read (Some last) r h is = subst (IsPartReading depth close bytes at_) (sym is) (part_item last h)

pub part_error : (depth close : ℕ) (bytes : List ℕ) (at_ : ℕ) (e : ValueError) → IsReading depth bytes at_ (Err e) → IsPartReading depth close bytes at_ (Err e)
part_error depth close bytes at_ NoValue h = λ y ys q k is. h y (listed text close ys q) k is
part_error depth close bytes at_ Memory h = tt

-- a loop over parts ends with an error
pub parts_error : (depth close : ℕ) (out : IsCloser close) (bytes : List ℕ) (start : ℕ) (xs : List Value) (place : ℕ) (e : ValueError) → IsRead text (HasForm depth) close bytes start xs place → IsPartReading depth close bytes place (Err e) → ArePartsRead depth close bytes start (Err e)
parts_error depth close out bytes start xs place NoValue read h = read_fails text (HasForm depth) close out bytes start xs place read h
parts_error depth close out bytes start xs place Memory read h = tt

-- ---- arrays and records

array_only : (depth : ℕ) (w : Value) (t more : List ℕ) → HasForm depth w → 40 ∷ t ≡ text w ++ more → (vs : List Value) × (0 < length vs) × AllByRecursion (Part depth) vs × (t ≡ join_with_byte 44 (map text vs) ++ 41 ∷ more)
array_only depth w t more k e =
    let six = kind_6 (out-Value w) (sym (kind_is depth w 40 t more k e)) in
    let f = formed_by depth w (Value-F.Array six.0) six.1 k in
    (six.0, f.0, f.1, tails 40 40 t (join_with_byte 44 (map text six.0) ++ 41 ∷ more) (e ∙ (ap (λ x. x ++ more) (text_by w (Value-F.Array six.0) six.1) ∙ ap (λ x. 40 ∷ x) (append_assoc (join_with_byte 44 (map text six.0)) (41 ∷ []) more))))

fields_only : (depth : ℕ) (w : Value) (t more : List ℕ) → HasForm depth w → 123 ∷ t ≡ text w ++ more → (vs : List Value) × (0 < length vs) × AllByRecursion (Part depth) vs × (t ≡ join_with_byte 44 (map text vs) ++ 125 ∷ more)
fields_only depth w t more k e =
    let seven = kind_7 (out-Value w) (sym (kind_is depth w 123 t more k e)) in
    let f = formed_by depth w (Value-F.Fields seven.0) seven.1 k in
    (seven.0, f.0, f.1, tails 123 123 t (join_with_byte 44 (map text seven.0) ++ 125 ∷ more) (e ∙ (ap (λ x. x ++ more) (text_by w (Value-F.Fields seven.0) seven.1) ∙ ap (λ x. 123 ∷ x) (append_assoc (join_with_byte 44 (map text seven.0)) (125 ∷ []) more))))

no_parts : (vs : List Value) → 0 < length vs → AllByRecursion (Part 0) vs → ⊥
no_parts [] lt p = omega arith
no_parts (v ∷ vs) lt p = p.0

module _ (bytes : List ℕ) (at_ : ℕ) where
  -- nothing nests deeper
  pub array_deep : (depth : ℕ) → Stands bytes at_ 40 → depth ≡ 0 → HasNone depth (drop at_ bytes)
  array_deep depth s z = subst (λ d. HasNone d (drop at_ bytes)) (sym z) (λ w more k e. let o = array_only 0 w (drop (at_ + 1) bytes) more k (sym s.is ∙ e) in no_parts o.0 o.1 o.2)

  pub fields_deep : (depth : ℕ) → Stands bytes at_ 123 → depth ≡ 0 → HasNone depth (drop at_ bytes)
  fields_deep depth s z = subst (λ d. HasNone d (drop at_ bytes)) (sym z) (λ w more k e. let o = fields_only 0 w (drop (at_ + 1) bytes) more k (sym s.is ∙ e) in no_parts o.0 o.1 o.2)

  pub array_read : (depth : ℕ) (vs : List Value) (end_ : ℕ) → Stands bytes at_ 40 → ¬ (depth ≡ 0) → IsItems text (HasForm (depth - 1)) 41 bytes (at_ + 1) vs end_ → IsReading depth bytes at_ (Ok (value.Array vs, end_))
  array_read zero vs end_ s nz i = absurd (nz refl)
  array_read (suc depth) vs end_ s nz i =
      let less : suc depth - 1 ≡ depth = omega arith in
      let form = subst (λ d. AllByRecursion (HasForm d) vs) less i.form in (
        omega (arith, i.goes),
        i.within,
        reads_closed (suc depth) (value.Array vs) 40 (drop at_ bytes) (drop (at_ + 1) bytes) (drop end_ bytes) (has_form (suc depth) (value.Array vs) (Value-F.Array vs) (value.outs-Array vs) (i.some, form)) (subst IsClosed (sym (value.outs-Array vs)) tt) s.is
            (s.is ∙ (ap (λ x. 40 ∷ x) (i.is ∙ sym (append_assoc (join_with_byte 44 (map text vs)) (41 ∷ []) (drop end_ bytes))) ∙ ap (λ x. x ++ drop end_ bytes) (sym (text_by (value.Array vs) (Value-F.Array vs) (value.outs-Array vs))))),
      )

  pub fields_read : (depth : ℕ) (vs : List Value) (end_ : ℕ) → Stands bytes at_ 123 → ¬ (depth ≡ 0) → IsItems text (HasForm (depth - 1)) 125 bytes (at_ + 1) vs end_ → IsReading depth bytes at_ (Ok (value.Fields vs, end_))
  fields_read zero vs end_ s nz i = absurd (nz refl)
  fields_read (suc depth) vs end_ s nz i =
      let less : suc depth - 1 ≡ depth = omega arith in
      let form = subst (λ d. AllByRecursion (HasForm d) vs) less i.form in (
        omega (arith, i.goes),
        i.within,
        reads_closed (suc depth) (value.Fields vs) 123 (drop at_ bytes) (drop (at_ + 1) bytes) (drop end_ bytes) (has_form (suc depth) (value.Fields vs) (Value-F.Fields vs) (value.outs-Fields vs) (i.some, form)) (subst IsClosed (sym (value.outs-Fields vs)) tt) s.is
            (s.is ∙ (ap (λ x. 123 ∷ x) (i.is ∙ sym (append_assoc (join_with_byte 44 (map text vs)) (125 ∷ []) (drop end_ bytes))) ∙ ap (λ x. x ++ drop end_ bytes) (sym (text_by (value.Fields vs) (Value-F.Fields vs) (value.outs-Fields vs))))),
      )

  pub array_error : (depth : ℕ) (e : ValueError) → Stands bytes at_ 40 → ¬ (depth ≡ 0) → ArePartsRead (depth - 1) 41 bytes (at_ + 1) (Err e) → IsReading depth bytes at_ (Err e)
  array_error zero e s nz h = absurd (nz refl)
  array_error (suc depth) Memory s nz h = tt
  array_error (suc depth) NoValue s nz h = λ w more k e.
      let less : suc depth - 1 ≡ depth = omega arith in
      let o = array_only (suc depth) w (drop (at_ + 1) bytes) more k (sym s.is ∙ e) in
      h o.0 more (subst (λ d. AllByRecursion (HasForm d) o.0) (sym less) o.2) o.1 o.3

  pub fields_error : (depth : ℕ) (e : ValueError) → Stands bytes at_ 123 → ¬ (depth ≡ 0) → ArePartsRead (depth - 1) 125 bytes (at_ + 1) (Err e) → IsReading depth bytes at_ (Err e)
  fields_error zero e s nz h = absurd (nz refl)
  fields_error (suc depth) Memory s nz h = tt
  fields_error (suc depth) NoValue s nz h = λ w more k e.
      let less : suc depth - 1 ≡ depth = omega arith in
      let o = fields_only (suc depth) w (drop (at_ + 1) bytes) more k (sym s.is ∙ e) in
      h o.0 more (subst (λ d. AllByRecursion (HasForm d) o.0) (sym less) o.2) o.1 o.3

-- behind the end nothing is read
pub read_end : (depth : ℕ) (bytes : List ℕ) (at_ : ℕ) → length bytes ≤ at_ → HasNone depth (drop at_ bytes)
read_end depth bytes at_ le w more k e = no_nil (Part depth) (out-Value w) more (formed depth w k) (sym (ap (λ x. x ++ more) (text_is w)) ∙ (sym e ∙ drop_all at_ bytes le))

pub pushed_part : {A E P : Type 0} (r : Result A E) (failed : Bool) → failed ≡ is_err r → failed ≡ false → OnOk r P → P
pushed_part (Ok x) failed e f p = p
pushed_part (Err x) failed e f p = absurd (false≢true (sym f ∙ e))

pub mark_read : (depth : ℕ) (bytes : List ℕ) (at_ : ℕ) → at_ < length bytes → get_or bytes at_ 0 ≡ 63 → IsReading depth bytes at_ (Ok (value.Unset, at_ + 1))
mark_read depth bytes at_ lt e = (omega arith, omega arith, unset_reads depth (drop at_ bytes) (drop (at_ + 1) bytes) (stands_here bytes at_ 63 lt e).is)

pub one_text : (depth : ℕ) (v w : Value) → HasForm depth v → HasForm depth w → text v ≡ text w → v ≡ w
one_text depth v w h k e = (values_apart depth v w [] [] h k (stops_from_ends (out-Value v) [] tt) (stops_from_ends (out-Value w) [] tt) (append-nil (text v) ∙ (e ∙ sym (append-nil (text w))))).0
