-- The values of an interaction, and what a system takes.
use Rattle.std.proofs.Common.{◌≡◌, ℕ, ◌+◌, ◌≤◌, Bool, true, false, List, [], ◌∷◌, ◌++◌, length, drop, ap, subst, ◌∙◌, sym, refl, arith, append_assoc, inl, Result, Ok, Err, flat_map}
use Rattle.std.specs.Fmt.{decimal}
use Rattle.std.specs.List.{AllByRecursion}
use Rattle.pascal_values.specs.declared.value.Value.{Value, out-Value}
use Rattle.pascal_values.specs.Reading.{Reads, HasNone}
use Rattle.pascal_values.specs.Steps as steps
use Rattle.pascal_values.specs.Texts.{text, IsReadable, NoDigit}
use Rattle.pascal_values.proofs.ItemLemmas.{part_only}
use Rattle.pascal_values.proofs.UniqueLemmas.{values_apart, stops_from_ends}
use Rattle.estelle_tree.specs.declared.transition.Pair.{Pair}
use Rattle.estelle_model.specs.Trace.{pair_text, path_text, takes_text, values_text}
use Rattle.trace_text.specs.declared.error.Missing.{Missing}
use Rattle.trace_text.specs.declared.error.Missing.TheVariants.{Absent, Memory}
use Rattle.trace_text.specs.Forms.{IsPair, InPathOrder, AreTakes}
use Rattle.trace_text.specs.Fields.{Any, EndsWord, EndsPath, NoByte, Stands, Lacks, IsReading, mark, marked, IsMark, NoMark, IsItem, AreItems, listed, closed, takes_line, values_line}
use Rattle.trace_text.proofs.FieldLemmas.{Unique, only, missing, marked_unique, closed_unique}
use Rattle.trace_text.proofs.ListLemmas.{lists_unique}
use Rattle.trace_text.proofs.PathLemmas.{pairs_unique, path_first}

-- ---- values

values_unique : Unique text IsReadable NoDigit
values_unique v w s t here there ends stop e = values_apart 200 v w s t here there (stops_from_ends (out-Value v) s ends) (stops_from_ends (out-Value w) t stop) e

mark_ends : (last : Bool) (t : List ℕ) → NoDigit (mark 44 41 last ∷ t)
mark_ends false t = inl (omega arith)
mark_ends true t = inl (omega arith)

comma_apart : ¬ (◌≡◌ {A = ℕ} 44 41)
comma_apart e = omega arith

pub marked_values_unique : Unique (marked text 44 41) (IsItem IsReadable) Any
marked_values_unique = marked_unique text IsReadable NoDigit 44 41 mark_ends comma_apart values_unique

module _ (bytes : List ℕ) (at_ : ℕ) where
  pub no_value : HasNone 200 (drop at_ bytes) → Lacks (marked text 44 41) (IsItem IsReadable) Any (drop at_ bytes)
  no_value none y t form stop e = none y.0 (mark 44 41 y.1 ∷ t) form (e ∙ append_assoc (text y.0) (mark 44 41 y.1 ∷ []) t)

  module _ (v : Value) (end_ : ℕ) (r : (at_ ≤ end_) × (end_ ≤ length bytes) × Reads 200 (drop at_ bytes) v (drop end_ bytes)) where
    pub value_alone : NoMark 44 41 (drop end_ bytes) → Lacks (marked text 44 41) (IsItem IsReadable) Any (drop at_ bytes)
    value_alone none y t form stop e = none y.1 t (part_only 200 (drop at_ bytes) v (drop end_ bytes) r.2 y.0 (mark 44 41 y.1 ∷ t) form (mark_ends y.1 t) (e ∙ append_assoc (text y.0) (mark 44 41 y.1 ∷ []) t)).1

    pub value_marked : (last : Bool) → IsMark 44 41 bytes end_ last → Stands (marked text 44 41) (IsItem IsReadable) Any bytes at_ (v, last) (end_ + 1)
    value_marked last m = record {
      form = r.2.form;
      goes = omega (arith, r.0);
      within = omega (arith, m.within);
      is = r.2.is ∙ (ap (λ t. text v ++ t) m.is ∙ sym (append_assoc (text v) (mark 44 41 last ∷ []) (drop (end_ + 1) bytes)));
      ends = tt;
    }

-- ---- the values of an interaction up to the end of the line

pub values_list_unique : Unique (listed text 44 41) (AreItems IsReadable) Any
values_list_unique = lists_unique text IsReadable 44 41 marked_values_unique

pub closed_values_unique : Unique (closed 10 (listed text 44 41)) (AreItems IsReadable) Any
closed_values_unique = closed_unique (listed text 44 41) (AreItems IsReadable) Any 10 (λ t. tt) values_list_unique

values_split : (v : Value) (vs : List Value) (t : List ℕ) → values_line (v ∷ vs) ++ t ≡ 40 ∷ (closed 10 (listed text 44 41) (v ∷ vs) ++ t)
unfolding values_text
values_split v vs t = refl

pub values_line_unique : Unique values_line (AllByRecursion IsReadable) Any
unfolding values_text
values_line_unique [] [] s t here there ends stop e = let h : 10 ∷ s ≡ 10 ∷ t = e in (refl, cc)
values_line_unique [] (w ∷ ws) s t here there ends stop e = absurd (ten e)
  where
    ten : 10 ∷ s ≡ 40 ∷ (closed 10 (listed text 44 41) (w ∷ ws) ++ t) → ⊥
    ten k = let h : ◌≡◌ {A = ℕ} 10 40 = cc in omega arith
values_line_unique (v ∷ vs) [] s t here there ends stop e = absurd (ten e)
  where
    ten : 40 ∷ (closed 10 (listed text 44 41) (v ∷ vs) ++ s) ≡ 10 ∷ t → ⊥
    ten k = let h : ◌≡◌ {A = ℕ} 40 10 = cc in omega arith
values_line_unique (v ∷ vs) (w ∷ ws) s t here there ends stop e =
    let h : 40 ∷ (closed 10 (listed text 44 41) (v ∷ vs) ++ s) ≡ 40 ∷ (closed 10 (listed text 44 41) (w ∷ ws) ++ t) = e in
    let k : closed 10 (listed text 44 41) (v ∷ vs) ++ s ≡ closed 10 (listed text 44 41) (w ∷ ws) ++ t = cc in
    closed_values_unique (v ∷ vs) (w ∷ ws) s t (omega arith, here) (omega arith, there) tt tt k

module _ (bytes : List ℕ) (at_ : ℕ) where
  pub no_values : steps.Stands bytes at_ 10 → (vs : List Value) → vs ≡ [] → Stands values_line (AllByRecursion IsReadable) Any bytes at_ vs (at_ + 1)
  unfolding values_text
  no_values byte vs e = subst (λ ws. Stands values_line (AllByRecursion IsReadable) Any bytes at_ ws (at_ + 1)) (sym e) (record {
    form = tt;
    goes = omega arith;
    within = omega (arith, byte.within);
    is = byte.is;
    ends = tt;
  })

  pub neither : NoByte 10 (drop at_ bytes) → NoByte 40 (drop at_ bytes) → Lacks values_line (AllByRecursion IsReadable) Any (drop at_ bytes)
  unfolding values_text
  neither line bracket [] t form stop e = line t e
  neither line bracket (v ∷ vs) t form stop e = bracket (closed 10 (listed text 44 41) (v ∷ vs) ++ t) e

  pub some_values : NoByte 10 (drop at_ bytes) → steps.Stands bytes at_ 40 → (r : Result (List Value × ℕ) Missing) → IsReading (closed 10 (listed text 44 41)) (AreItems IsReadable) Any bytes (at_ + 1) r → IsReading values_line (AllByRecursion IsReadable) Any bytes at_ r
  unfolding values_text
  some_values line bracket (Err Memory) read = tt
  some_values line bracket (Err Absent) read = lacks
    where
      lacks : (vs : List Value) (t : List ℕ) → AllByRecursion IsReadable vs → Any t → drop at_ bytes ≡ values_line vs ++ t → ⊥
      lacks [] t form stop e = line t e
      lacks (v ∷ vs) t form stop e =
          let h : 40 ∷ drop (at_ + 1) bytes ≡ 40 ∷ (closed 10 (listed text 44 41) (v ∷ vs) ++ t) = sym bracket.is ∙ e in
          let k : drop (at_ + 1) bytes ≡ closed 10 (listed text 44 41) (v ∷ vs) ++ t = cc in
          read (v ∷ vs) t (omega arith, form) tt k
  some_values line bracket (Ok r) read = by_values r.0 r.1 read
    where
      by_values : (vs : List Value) (end_ : ℕ) → Stands (closed 10 (listed text 44 41)) (AreItems IsReadable) Any bytes (at_ + 1) vs end_ → Stands values_line (AllByRecursion IsReadable) Any bytes at_ vs end_
      by_values [] end_ here = absurd (omega (arith, here.form.0))
      by_values (v ∷ vs) end_ here = record {
        form = here.form.1;
        goes = omega (arith, here.goes);
        within = here.within;
        is = bracket.is ∙ ap (λ t. 40 ∷ t) here.is;
        ends = tt;
      }

-- ---- what a system takes

pair_ends : EndsPath (58 ∷ [])
pair_ends = (refl, λ t e. let h : ◌≡◌ {A = ℕ} 58 47 = cc in omega arith)

pub pair_is_unique : Unique pair_text IsPair EndsWord
pair_is_unique = pairs_unique 58 pair_ends 1

pub pair_mark_ends : (last : Bool) (t : List ℕ) → EndsWord (mark 32 10 last ∷ t)
pair_mark_ends false t = refl
pair_mark_ends true t = refl

space_apart : ¬ (◌≡◌ {A = ℕ} 32 10)
space_apart e = omega arith

pub marked_pairs_unique : Unique (marked pair_text 32 10) (IsItem IsPair) Any
marked_pairs_unique = marked_unique pair_text IsPair EndsWord 32 10 pair_mark_ends space_apart pair_is_unique

pairs_list_unique : Unique (listed pair_text 32 10) (AreItems IsPair) Any
pairs_list_unique = lists_unique pair_text IsPair 32 10 marked_pairs_unique

takes_split : (p : Pair) (ps : List Pair) → takes_line (p ∷ ps) ≡ listed pair_text 32 10 (p ∷ ps)
unfolding takes_text
takes_split p ps = append_assoc (pair_text p) (flat_map (λ q. 32 ∷ pair_text q) ps) (10 ∷ [])

takes_first : (p : Pair) (ps : List Pair) (s t : List ℕ) → 45 ∷ s ≡ takes_line (p ∷ ps) ++ t → ⊥
unfolding takes_text
takes_first p ps s t e =
    let f = path_first p.path ((58 ∷ decimal p.trans) ++ (flat_map (λ q. 32 ∷ pair_text q) ps ++ (10 ∷ t))) in
    let h : 45 ∷ s ≡ 47 ∷ f.0 =
    e ∙ (append_assoc (pair_text p ++ flat_map (λ q. 32 ∷ pair_text q) ps) (10 ∷ []) t
    ∙ (append_assoc (pair_text p) (flat_map (λ q. 32 ∷ pair_text q) ps) (10 ∷ t)
    ∙ (append_assoc (path_text p.path) (58 ∷ decimal p.trans) (flat_map (λ q. 32 ∷ pair_text q) ps ++ (10 ∷ t)) ∙ f.1))) in
    let k : ◌≡◌ {A = ℕ} 45 47 = cc in
    omega arith

pub takes_unique : Unique takes_line AreTakes Any
unfolding takes_text
takes_unique [] [] s t here there ends stop e = let h : 45 ∷ 10 ∷ s ≡ 45 ∷ 10 ∷ t = e in (refl, cc)
takes_unique [] (q ∷ qs) s t here there ends stop e = absurd (takes_first q qs (10 ∷ s) t e)
takes_unique (p ∷ ps) [] s t here there ends stop e = absurd (takes_first p ps (10 ∷ t) s (sym e))
takes_unique (p ∷ ps) (q ∷ qs) s t here there ends stop e =
    pairs_list_unique (p ∷ ps) (q ∷ qs) s t (omega arith, here.0) (omega arith, there.0) tt tt (ap (λ u. u ++ s) (sym (takes_split p ps)) ∙ (e ∙ ap (λ u. u ++ t) (takes_split q qs)))

module _ (bytes : List ℕ) (at_ : ℕ) where
  pub no_takes : steps.StandsWord bytes at_ (45 ∷ 10 ∷ []) → (ps : List Pair) → ps ≡ [] → Stands takes_line AreTakes Any bytes at_ ps (at_ + 2)
  unfolding takes_text
  no_takes word ps e = subst (λ qs. Stands takes_line AreTakes Any bytes at_ qs (at_ + 2)) (sym e) (record {
    form = (tt, tt);
    goes = omega arith;
    within = word.within;
    is = word.is;
    ends = tt;
  })

  -- without the word there is a pair, or nothing
  listed_takes : steps.NoWord bytes at_ (45 ∷ 10 ∷ []) → (ps : List Pair) (t : List ℕ) → AreTakes ps → drop at_ bytes ≡ takes_line ps ++ t → AreItems IsPair ps × (drop at_ bytes ≡ listed pair_text 32 10 ps ++ t)
  unfolding takes_text
  listed_takes none [] t form e = absurd (none t e)
  listed_takes none (p ∷ ps) t form e = ((omega arith, form.0), e ∙ ap (λ u. u ++ t) (takes_split p ps))

  module _ (none : steps.NoWord bytes at_ (45 ∷ 10 ∷ [])) where
    pub takes_missing : (e : Missing) → IsReading (listed pair_text 32 10) (AreItems IsPair) Any bytes at_ (Err e) → IsReading takes_line AreTakes Any bytes at_ (Err e)
    takes_missing e = missing (listed pair_text 32 10) (AreItems IsPair) Any takes_line AreTakes Any bytes at_ at_ e
        (λ ps t form stop is. let l = listed_takes none ps t form is in (ps, t, l.0, tt, l.1))

    module _ (ps : List Pair) (end_ : ℕ) (here : Stands (listed pair_text 32 10) (AreItems IsPair) Any bytes at_ ps end_) where
      pub takes_fall : ¬ (InPathOrder ps) → Lacks takes_line AreTakes Any (drop at_ bytes)
      takes_fall not qs t form stop e =
          let l = listed_takes none qs t form e in
          not (subst InPathOrder (only (listed pair_text 32 10) (AreItems IsPair) Any pairs_list_unique bytes at_ ps end_ here qs t l.0 tt l.1).0 form.1)

      pub takes_stand : InPathOrder ps → Stands takes_line AreTakes Any bytes at_ ps end_
      takes_stand order = by_pairs ps here order
        where
          by_pairs : (qs : List Pair) → Stands (listed pair_text 32 10) (AreItems IsPair) Any bytes at_ qs end_ → InPathOrder qs → Stands takes_line AreTakes Any bytes at_ qs end_
          by_pairs [] there o = absurd (omega (arith, there.form.0))
          by_pairs (q ∷ qs) there o = record {
            form = (there.form.1, o);
            goes = there.goes;
            within = there.within;
            is = there.is ∙ ap (λ u. u ++ drop end_ bytes) (sym (takes_split q qs));
            ends = tt;
          }
