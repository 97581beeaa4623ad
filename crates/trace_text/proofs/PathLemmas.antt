-- Paths, and pairs of an instance and a transition.
use Rattle.std.proofs.Common.{◌≡◌, ◌⊎◌, ℕ, ◌+◌, ◌-◌, ◌<◌, ◌≤◌, ◌^◌, true, false, List, [], ◌∷◌, ◌++◌, length, drop, ap, subst, ◌∙◌, sym, refl, arith, append_assoc, append-nil, length-append, length-drop, inl, inr, Result, Ok, Err}
use Rattle.std.specs.Fmt.{decimal}
use Rattle.std.specs.List.{list_all}
use Rattle.std.proofs.lemmas.Bool.{false≢true}
use Rattle.std.proofs.lemmas.Fmt.{decimal_nonempty}
use Rattle.pascal_values.specs.Steps as steps
use Rattle.pascal_values.proofs.ListingLemmas.{all_push}
use Rattle.estelle_tree.specs.declared.transition.Pair.{Pair}
use Rattle.estelle_tree.specs.Lexed.{first_is, is_word_byte}
use Rattle.estelle_tree.specs.Paths.{Path}
use Rattle.estelle_model.specs.Trace.{path_text, numbers_text}
use Rattle.estelle_model.proofs.PrivateParts.{left_true}
use Rattle.trace_text.specs.declared.error.Missing.{Missing}
use Rattle.trace_text.specs.declared.error.Missing.TheVariants.{Absent, Memory}
use Rattle.trace_text.specs.Forms.{IsBetween, IsBirth, IsPath}
use Rattle.trace_text.specs.Fields.{EndsWord, EndsPath, NoByte, Stands, Lacks, IsReading, AreItems, pair_with, IsPairFrom}
use Rattle.trace_text.proofs.FieldLemmas.{Unique, only, missing}
use Rattle.trace_text.proofs.WordLemmas.{numbers_unique}
use Rattle.trace_text.proofs.NumberLemmas.{decimal_wordy}

birth_unique : Unique decimal IsBirth EndsWord
birth_unique = numbers_unique 1 (2 ^ 64 - 1) (omega arith)

-- a birth number begins with a letter, a digit or `_`
birth_wordy : (n : ℕ) (t : List ℕ) → IsBirth n → first_is is_word_byte (decimal n ++ t) ≡ true
birth_wordy n t b = by_digits (decimal n) (decimal_nonempty n (omega (arith, b.1))) (decimal_wordy n (omega (arith, b.1)))
  where
    by_digits : (ds : List ℕ) → 0 < length ds → list_all is_word_byte ds ≡ true → first_is is_word_byte (ds ++ t) ≡ true
    by_digits [] some all = absurd (omega arith)
    by_digits (c ∷ ds) some all = left_true (is_word_byte c) (list_all is_word_byte ds) all

pub numbers_end : (p : Path) (t : List ℕ) → EndsWord t → EndsWord (numbers_text p ++ t)
numbers_end [] t e = e
numbers_end (n ∷ p) t e = refl

number_first : (n : ℕ) (p : Path) (t : List ℕ) → numbers_text (n ∷ p) ++ t ≡ 47 ∷ (decimal n ++ (numbers_text p ++ t))
number_first n p t = ap (λ u. 47 ∷ u) (append_assoc (decimal n) (numbers_text p) t)

pub record GoesOn (p q : Path) (s t : List ℕ) : Type 0 where
  pub others : Path
  pub is : q ≡ p ++ others
  pub form : IsPath others
  pub stands : s ≡ numbers_text others ++ t

-- birth numbers that stand at the front of a path's are the first of them
pub numbers_left : (p q : Path) (s t : List ℕ) → IsPath p → IsPath q → EndsWord s → EndsPath t → numbers_text p ++ s ≡ numbers_text q ++ t → GoesOn p q s t
numbers_left [] q s t here there ends stop e = record { others = q; is = refl; form = there; stands = e }
numbers_left (n ∷ p) [] s t here there ends stop e = absurd (stop.1 (decimal n ++ (numbers_text p ++ s)) (sym e ∙ number_first n p s))
numbers_left (n ∷ p) (m ∷ q) s t here there ends stop e =
    let h : 47 ∷ (decimal n ++ (numbers_text p ++ s)) ≡ 47 ∷ (decimal m ++ (numbers_text q ++ t)) = sym (number_first n p s) ∙ (e ∙ number_first m q t) in
    let k : decimal n ++ (numbers_text p ++ s) ≡ decimal m ++ (numbers_text q ++ t) = cc in
    let o = birth_unique n m (numbers_text p ++ s) (numbers_text q ++ t) here.0 there.0 (numbers_end p s ends) (numbers_end q t stop.0) k in
    let g = numbers_left p q s t here.1 there.1 ends stop o.1 in
    let one : ◌≡◌ {A = Path} (m ∷ q) (n ∷ q) = ap (λ z. z ∷ q) (sym o.0) in
    let two : ◌≡◌ {A = Path} (n ∷ q) (n ∷ (p ++ g.others)) = ap (λ z. n ∷ z) g.is in
    record { others = g.others; is = one ∙ two; form = g.form; stands = g.stands }

pub births_unique : Unique numbers_text (AreItems IsBirth) EndsPath
births_unique p q s t here there ends stop e =
    let g = numbers_left p q s t here.1 there.1 ends.0 stop e in
    by_others g.others g.is g.stands
  where
    by_others : (r : Path) → q ≡ p ++ r → s ≡ numbers_text r ++ t → (p ≡ q) × (s ≡ t)
    by_others [] is stands = (sym (is ∙ append-nil p), stands)
    by_others (n ∷ r) is stands = absurd (ends.1 (decimal n ++ (numbers_text r ++ t)) (stands ∙ number_first n r t))

-- ---- reading birth numbers

-- what a loop over them keeps
pub record BirthsRead (bytes : List ℕ) (at_ : ℕ) (numbers : Path) (place : ℕ) : Type 0 where
  pub form : IsPath numbers
  pub goes : at_ ≤ place
  pub within : place ≤ length bytes
  pub is : drop at_ bytes ≡ numbers_text numbers ++ drop place bytes
  pub ends : EndsWord (drop place bytes)
  pub some : (0 < length numbers) ⊎ (place ≡ at_)

numbers_push : (p : Path) (n : ℕ) (t : List ℕ) → numbers_text p ++ 47 ∷ (decimal n ++ t) ≡ numbers_text (p ++ n ∷ []) ++ t
numbers_push [] n t = ap (λ u. 47 ∷ (u ++ t)) (sym (append-nil (decimal n)))
numbers_push (m ∷ p) n t = number_first m p (47 ∷ (decimal n ++ t)) ∙ (ap (λ u. 47 ∷ (decimal m ++ u)) (numbers_push p n t) ∙ sym (number_first m (p ++ n ∷ []) t))

module _ (bytes : List ℕ) (at_ : ℕ) (slash : steps.Stands bytes at_ 47) where
  pub births_none : (numbers : Path) → numbers ≡ [] → BirthsRead bytes at_ numbers at_
  births_none numbers e = subst (λ p. BirthsRead bytes at_ p at_) (sym e) (record {
    form = tt;
    goes = omega arith;
    within = omega (arith, slash.within);
    is = refl;
    ends = ap (first_is is_word_byte) slash.is;
    some = inr refl;
  })

  module _ (numbers : Path) (place : ℕ) (read : BirthsRead bytes at_ numbers place) where
    pub births_more : steps.Stands bytes place 47 → (n end_ : ℕ) (new : Path) → Stands decimal IsBirth EndsWord bytes (place + 1) n end_ → new ≡ numbers ++ n ∷ [] → BirthsRead bytes at_ new end_
    births_more here n end_ new next e = subst (λ p. BirthsRead bytes at_ p end_) (sym e) (record {
      form = all_push IsBirth numbers n read.form next.form;
      goes = omega (arith, read.goes, next.goes);
      within = next.within;
      is = read.is ∙ (ap (λ t. numbers_text numbers ++ t) (here.is ∙ ap (λ t. 47 ∷ t) next.is) ∙ numbers_push numbers n (drop end_ bytes));
      ends = next.ends;
      some = inl (omega (arith, length-append numbers (n ∷ [])));
    })

    pub births_fail : steps.Stands bytes place 47 → Lacks decimal IsBirth EndsWord (drop (place + 1) bytes) → Lacks numbers_text (AreItems IsBirth) EndsPath (drop at_ bytes)
    births_fail here none q t form ends e =
        let g = numbers_left numbers q (drop place bytes) t read.form form.1 read.ends ends (sym read.is ∙ e) in
        by_others g.others g.form g.stands
      where
        by_others : (r : Path) → IsPath r → drop place bytes ≡ numbers_text r ++ t → ⊥
        by_others [] f stands = ends.1 (drop (place + 1) bytes) (sym stands ∙ here.is)
        by_others (n ∷ r) f stands =
            let h : 47 ∷ drop (place + 1) bytes ≡ 47 ∷ (decimal n ++ (numbers_text r ++ t)) = sym here.is ∙ (stands ∙ number_first n r t) in
            none n (numbers_text r ++ t) f.0 (numbers_end r t ends.0) cc

    pub births_missing : steps.Stands bytes place 47 → (e : Missing) → IsReading decimal IsBirth EndsWord bytes (place + 1) (Err e) → IsReading numbers_text (AreItems IsBirth) EndsPath bytes at_ (Err e)
    births_missing here Absent none = births_fail here none
    births_missing here Memory none = tt

    pub births_stand : NoByte 47 (drop place bytes) → (p : Path) → p ≡ numbers → Stands numbers_text (AreItems IsBirth) EndsPath bytes at_ p place
    births_stand none p e = subst (λ q. Stands numbers_text (AreItems IsBirth) EndsPath bytes at_ q place) (sym e) (elim read.some [
      | inl some ↦ record {
        form = (some, read.form);
        goes = longer numbers some read.is;
        within = read.within;
        is = read.is;
        ends = (read.ends, none);
      }
      | inr same ↦ absurd (none (drop (at_ + 1) bytes) (ap (λ i. drop i bytes) same ∙ slash.is))
    ])
      where
        longer : (q : Path) → 0 < length q → drop at_ bytes ≡ numbers_text q ++ drop place bytes → at_ < place
        longer [] some is = absurd (omega arith)
        longer (n ∷ q) some is = omega (arith, read.goes, read.within, slash.within, ap length (is ∙ number_first n q (drop place bytes)), length-append (decimal n) (numbers_text q ++ drop place bytes), length-append (numbers_text q) (drop place bytes), length-drop at_ bytes, length-drop place bytes)

-- ---- paths

pub path_first : (p : Path) (t : List ℕ) → (u : List ℕ) × (path_text p ++ t ≡ 47 ∷ u)
unfolding path_text
path_first [] t = (t, refl)
path_first (n ∷ p) t = (decimal n ++ (numbers_text p ++ t), number_first n p t)

pub paths_unique : Unique path_text IsPath EndsPath
unfolding path_text
paths_unique [] [] s t here there ends stop e = let h : 47 ∷ s ≡ 47 ∷ t = e in (refl, cc)
paths_unique [] (m ∷ q) s t here there ends stop e =
    let h : 47 ∷ s ≡ 47 ∷ (decimal m ++ (numbers_text q ++ t)) = e ∙ number_first m q t in
    let k : s ≡ decimal m ++ (numbers_text q ++ t) = cc in
    absurd (false≢true (sym ends.0 ∙ (ap (first_is is_word_byte) k ∙ birth_wordy m (numbers_text q ++ t) there.0)))
paths_unique (n ∷ p) [] s t here there ends stop e =
    let h : 47 ∷ (decimal n ++ (numbers_text p ++ s)) ≡ 47 ∷ t = sym (number_first n p s) ∙ e in
    let k : decimal n ++ (numbers_text p ++ s) ≡ t = cc in
    absurd (false≢true (sym stop.0 ∙ (ap (first_is is_word_byte) (sym k) ∙ birth_wordy n (numbers_text p ++ s) here.0)))
paths_unique (n ∷ p) (m ∷ q) s t here there ends stop e = births_unique (n ∷ p) (m ∷ q) s t (omega arith, here) (omega arith, there) ends stop e

module _ (bytes : List ℕ) (at_ : ℕ) where
  pub no_path : NoByte 47 (drop at_ bytes) → Lacks path_text IsPath EndsPath (drop at_ bytes)
  no_path none p t form ends e = let f = path_first p t in none f.0 (e ∙ f.1)

  module _ (slash : steps.Stands bytes at_ 47) where
    -- a letter, a digit or `_` follows: birth numbers, or no path
    pub long_path : first_is is_word_byte (drop (at_ + 1) bytes) ≡ true → (r : Result (Path × ℕ) Missing) → IsReading numbers_text (AreItems IsBirth) EndsPath bytes at_ r → IsReading path_text IsPath EndsPath bytes at_ r
    unfolding path_text
    long_path word (Err Memory) read = tt
    long_path word (Err Absent) read = lacks
      where
        lacks : (p : Path) (t : List ℕ) → IsPath p → EndsPath t → drop at_ bytes ≡ path_text p ++ t → ⊥
        lacks [] t form ends e =
            let h : 47 ∷ drop (at_ + 1) bytes ≡ 47 ∷ t = sym slash.is ∙ e in
            let k : drop (at_ + 1) bytes ≡ t = cc in
            false≢true (sym ends.0 ∙ (ap (first_is is_word_byte) (sym k) ∙ word))
        lacks (n ∷ p) t form ends e = read (n ∷ p) t (omega arith, form) ends e
    long_path word (Ok r) read = by_path r.0 r.1 read
      where
        by_path : (p : Path) (end_ : ℕ) → Stands numbers_text (AreItems IsBirth) EndsPath bytes at_ p end_ → Stands path_text IsPath EndsPath bytes at_ p end_
        by_path [] end_ here = absurd (omega (arith, here.form.0))
        by_path (n ∷ p) end_ here = record { form = here.form.1; goes = here.goes; within = here.within; is = here.is; ends = here.ends }

    pub no_birth : steps.Stands bytes (at_ + 1) 47 → Lacks path_text IsPath EndsPath (drop at_ bytes)
    unfolding path_text
    no_birth next [] t form ends e =
        let h : 47 ∷ drop (at_ + 1) bytes ≡ 47 ∷ t = sym slash.is ∙ e in
        let k : drop (at_ + 1) bytes ≡ t = cc in
        ends.1 (drop (at_ + 1 + 1) bytes) (sym k ∙ next.is)
    no_birth next (n ∷ p) t form ends e =
        let h : 47 ∷ drop (at_ + 1) bytes ≡ 47 ∷ (decimal n ++ (numbers_text p ++ t)) = sym slash.is ∙ (e ∙ number_first n p t) in
        let k : drop (at_ + 1) bytes ≡ decimal n ++ (numbers_text p ++ t) = cc in
        false≢true (ap (first_is is_word_byte) (sym next.is) ∙ (ap (first_is is_word_byte) k ∙ birth_wordy n (numbers_text p ++ t) form.0))

    pub root_path : first_is is_word_byte (drop (at_ + 1) bytes) ≡ false → NoByte 47 (drop (at_ + 1) bytes) → Stands path_text IsPath EndsPath bytes at_ [] (at_ + 1)
    unfolding path_text
    root_path ends none = record {
      form = tt;
      goes = omega arith;
      within = omega (arith, slash.within);
      is = slash.is;
      ends = (ends, none);
    }

-- ---- pairs

same_pair : (p q : Pair) → p.path ≡ q.path → p.trans ≡ q.trans → p ≡ q
same_pair p q e k =
    let one : ◌≡◌ {A = Pair} p (record { path = q.path; trans = p.trans }) = ap (λ z. record { path = z; trans = p.trans }) e in
    let two : ◌≡◌ {A = Pair} (record { path = q.path; trans = p.trans }) q = ap (λ z. record { path = q.path; trans = z }) k in
    one ∙ two

module _ (between : ℕ) (stops : EndsPath (between ∷ [])) where
  -- what follows the path
  behind_path : (t : List ℕ) → EndsPath (between ∷ t)
  behind_path t = (stops.0, λ u e. let h : between ≡ 47 = cc in stops.1 [] (ap (λ c. c ∷ []) h))

  pair_split : (p : Pair) (t : List ℕ) → pair_with between p ++ t ≡ path_text p.path ++ between ∷ (decimal p.trans ++ t)
  pair_split p t = append_assoc (path_text p.path) (between ∷ decimal p.trans) t

  module _ (least : ℕ) where
    trans_unique : Unique decimal (IsBetween least 4096) EndsWord
    trans_unique = numbers_unique least 4096 (omega arith)

    pub pairs_unique : Unique (pair_with between) (IsPairFrom least) EndsWord
    pairs_unique p q s t here there ends stop e =
        let a = paths_unique p.path q.path (between ∷ (decimal p.trans ++ s)) (between ∷ (decimal q.trans ++ t)) here.0 there.0 (behind_path (decimal p.trans ++ s)) (behind_path (decimal q.trans ++ t)) (sym (pair_split p s) ∙ (e ∙ pair_split q t)) in
        let h : between ∷ (decimal p.trans ++ s) ≡ between ∷ (decimal q.trans ++ t) = a.1 in
        let k : decimal p.trans ++ s ≡ decimal q.trans ++ t = cc in
        let b = trans_unique p.trans q.trans s t here.1 there.1 ends stop k in
        (same_pair p q a.0 b.0, b.1)

    module _ (bytes : List ℕ) (at_ : ℕ) where
      pub pair_missing : (e : Missing) → IsReading path_text IsPath EndsPath bytes at_ (Err e) → IsReading (pair_with between) (IsPairFrom least) EndsWord bytes at_ (Err e)
      pair_missing e = missing path_text IsPath EndsPath (pair_with between) (IsPairFrom least) EndsWord bytes at_ at_ e
          (λ p t form ends is. (p.path, between ∷ (decimal p.trans ++ t), form.0, behind_path (decimal p.trans ++ t), is ∙ pair_split p t))

      module _ (path : Path) (mid : ℕ) (here : Stands path_text IsPath EndsPath bytes at_ path mid) where
        left : (p : Pair) (t : List ℕ) → IsPairFrom least p → drop at_ bytes ≡ pair_with between p ++ t → between ∷ (decimal p.trans ++ t) ≡ drop mid bytes
        left p t form e = (only path_text IsPath EndsPath paths_unique bytes at_ path mid here p.path (between ∷ (decimal p.trans ++ t)) form.0 (behind_path (decimal p.trans ++ t)) (e ∙ pair_split p t)).1

        pub pair_unparted : NoByte between (drop mid bytes) → Lacks (pair_with between) (IsPairFrom least) EndsWord (drop at_ bytes)
        pair_unparted none p t form ends e = none (decimal p.trans ++ t) (sym (left p t form e))

        module _ (byte : steps.Stands bytes mid between) where
          pub trans_missing : (e : Missing) → IsReading decimal (IsBetween least 4096) EndsWord bytes (mid + 1) (Err e) → IsReading (pair_with between) (IsPairFrom least) EndsWord bytes at_ (Err e)
          trans_missing e = missing decimal (IsBetween least 4096) EndsWord (pair_with between) (IsPairFrom least) EndsWord bytes (mid + 1) at_ e
              (λ p t form ends is.
              let h : between ∷ (decimal p.trans ++ t) ≡ between ∷ drop (mid + 1) bytes = left p t form is ∙ byte.is in
              let k : drop (mid + 1) bytes ≡ decimal p.trans ++ t = cc in
              (p.trans, t, form.1, ends, k))

          pub pair_stands : (n end_ : ℕ) → Stands decimal (IsBetween least 4096) EndsWord bytes (mid + 1) n end_ → Stands (pair_with between) (IsPairFrom least) EndsWord bytes at_ (record { path = path; trans = n }) end_
          pair_stands n end_ next = record {
            form = (here.form, next.form);
            goes = omega (arith, here.goes, next.goes);
            within = next.within;
            is = here.is ∙ (ap (λ t. path_text path ++ t) (byte.is ∙ ap (λ t. between ∷ t) next.is) ∙ sym (pair_split (record { path = path; trans = n }) (drop end_ bytes)));
            ends = next.ends;
          }
