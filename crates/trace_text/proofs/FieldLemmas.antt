-- Fields one after another, and that a text has at most one at its front.
use Rattle.std.proofs.Common.{◌≡◌, ℕ, ◌+◌, Bool, true, false, List, [], ◌∷◌, ◌++◌, drop, ap, ◌∙◌, sym, refl, arith, append_assoc, Err}
use Rattle.pascal_values.specs.Steps as steps
use Rattle.trace_text.specs.declared.error.Missing.{Missing}
use Rattle.trace_text.specs.declared.error.Missing.TheVariants.{Absent, Memory}
use Rattle.trace_text.specs.Fields.{Any, NoByte, Stands, Lacks, IsReading, closed, both, Both, mark, marked, IsItem, IsMark, NoMark}

-- no two fields of this form are the beginning of a text
abbrev pub Unique : {X : Type 0} → (X → List ℕ) → (X → Type 0) → (List ℕ → Type 0) → Type 0
Unique {X} f F S = (x y : X) (s t : List ℕ) → F x → F y → S s → S t → f x ++ s ≡ f y ++ t → (x ≡ y) × (s ≡ t)

pub tuple : {X Y : Type 0} (a b : X) (c d : Y) → a ≡ b → c ≡ d → ◌≡◌ {A = X × Y} (a, c) (b, d)
tuple {X} {Y} a b c d e k =
    let one : ◌≡◌ {A = X × Y} (a, c) (b, c) = ap (λ z. (z, c)) e in
    let two : ◌≡◌ {A = X × Y} (b, c) (b, d) = ap (λ z. (b, z)) k in
    one ∙ two

-- the field that stands at a place is the only one
pub only : {X : Type 0} (f : X → List ℕ) (F : X → Type 0) (S : List ℕ → Type 0) (one : Unique f F S) (bytes : List ℕ) (at_ : ℕ) (x : X) (mid : ℕ) → Stands f F S bytes at_ x mid
    → (y : X) (t : List ℕ) → F y → S t → drop at_ bytes ≡ f y ++ t → (y ≡ x) × (t ≡ drop mid bytes)
only f F S one bytes at_ x mid here y t form ends e = one y x t (drop mid bytes) form here.form ends here.ends (sym e ∙ here.is)

-- what is missing in a part is missing in the whole
pub missing : {X Y : Type 0} (f : X → List ℕ) (F : X → Type 0) (S : List ℕ → Type 0) (g : Y → List ℕ) (G : Y → Type 0) (T : List ℕ → Type 0) (bytes : List ℕ) (at_ : ℕ) (start : ℕ) (e : Missing)
    → ((y : Y) (t : List ℕ) → G y → T t → drop start bytes ≡ g y ++ t → (x : X) × (u : List ℕ) × F x × S u × (drop at_ bytes ≡ f x ++ u))
    → IsReading f F S bytes at_ (Err e) → IsReading g G T bytes start (Err e)
missing f F S g G T bytes at_ start Absent part lacks = λ y t form stop e. let p = part y t form stop e in lacks p.0 p.1 p.2 p.3 p.4
missing f F S g G T bytes at_ start Memory part lacks = tt

-- ---- one field behind another

module _ {X Y : Type 0} (f : X → List ℕ) (F : X → Type 0) (S : List ℕ → Type 0) (g : Y → List ℕ) (G : Y → Type 0) (T : List ℕ → Type 0)
    (stops : (y : Y) (t : List ℕ) → G y → T t → S (g y ++ t)) where
  pub both_unique : Unique f F S → Unique g G T → Unique (both f g) (Both F G) T
  both_unique one two p q s t here there ends stop e =
      let a = one p.0 q.0 (g p.1 ++ s) (g q.1 ++ t) here.0 there.0 (stops p.1 s here.1 ends) (stops q.1 t there.1 stop) (sym (append_assoc (f p.0) (g p.1) s) ∙ (e ∙ append_assoc (f q.0) (g q.1) t)) in
      let b = two p.1 q.1 s t here.1 there.1 ends stop a.1 in
      (tuple p.0 q.0 p.1 q.1 a.0 b.0, b.1)

  module _ (bytes : List ℕ) (at_ : ℕ) where
    -- without the first field there are not both
    pub first_missing : (e : Missing) → IsReading f F S bytes at_ (Err e) → IsReading (both f g) (Both F G) T bytes at_ (Err e)
    first_missing e = missing f F S (both f g) (Both F G) T bytes at_ at_ e (λ p t form stop is. (p.0, g p.1 ++ t, form.0, stops p.1 t form.1 stop, is ∙ append_assoc (f p.0) (g p.1) t))

    module _ (x : X) (mid : ℕ) (here : Stands f F S bytes at_ x mid) where
      pub second_missing : Unique f F S → (e : Missing) → IsReading g G T bytes mid (Err e) → IsReading (both f g) (Both F G) T bytes at_ (Err e)
      second_missing one e = missing g G T (both f g) (Both F G) T bytes mid at_ e
          (λ p t form stop is. (p.1, t, form.1, stop, sym (only f F S one bytes at_ x mid here p.0 (g p.1 ++ t) form.0 (stops p.1 t form.1 stop) (is ∙ append_assoc (f p.0) (g p.1) t)).1))

      pub both_stand : (y : Y) (end_ : ℕ) → Stands g G T bytes mid y end_ → Stands (both f g) (Both F G) T bytes at_ (x, y) end_
      both_stand y end_ next = record {
        form = (here.form, next.form);
        goes = omega (arith, here.goes, next.goes);
        within = next.within;
        is = here.is ∙ (ap (λ t. f x ++ t) next.is ∙ sym (append_assoc (f x) (g y) (drop end_ bytes)));
        ends = next.ends;
      }

-- ---- a field and a byte behind it

module _ {X : Type 0} (f : X → List ℕ) (F : X → Type 0) (S : List ℕ → Type 0) (close : ℕ) (stops : (t : List ℕ) → S (close ∷ t)) where
  pub closed_unique : Unique f F S → Unique (closed close f) F Any
  closed_unique one x y s t here there ends stop e =
      let a = one x y (close ∷ s) (close ∷ t) here there (stops s) (stops t) (sym (append_assoc (f x) (close ∷ []) s) ∙ (e ∙ append_assoc (f y) (close ∷ []) t)) in
      let h : close ∷ s ≡ close ∷ t = a.1 in
      (a.0, cc)

  module _ (bytes : List ℕ) (at_ : ℕ) where
    pub closed_missing : (e : Missing) → IsReading f F S bytes at_ (Err e) → IsReading (closed close f) F Any bytes at_ (Err e)
    closed_missing e = missing f F S (closed close f) F Any bytes at_ at_ e (λ x t form stop is. (x, close ∷ t, form, stops t, is ∙ append_assoc (f x) (close ∷ []) t))

    module _ (x : X) (mid : ℕ) (here : Stands f F S bytes at_ x mid) where
      pub not_closed : Unique f F S → NoByte close (drop mid bytes) → Lacks (closed close f) F Any (drop at_ bytes)
      not_closed one none y t form stop is = none t (sym (only f F S one bytes at_ x mid here y (close ∷ t) form (stops t) (is ∙ append_assoc (f y) (close ∷ []) t)).1)

      pub closed_stands : steps.Stands bytes mid close → Stands (closed close f) F Any bytes at_ x (mid + 1)
      closed_stands byte = record {
        form = here.form;
        goes = omega (arith, here.goes);
        within = omega (arith, byte.within);
        is = here.is ∙ (ap (λ t. f x ++ t) byte.is ∙ sym (append_assoc (f x) (close ∷ []) (drop (mid + 1) bytes)));
        ends = tt;
      }

-- ---- an item of a list

module _ {X : Type 0} (f : X → List ℕ) (F : X → Type 0) (S : List ℕ → Type 0) (between close : ℕ) (stops : (last : Bool) (t : List ℕ) → S (mark between close last ∷ t)) where
  pub marked_unique : ¬ (between ≡ close) → Unique f F S → Unique (marked f between close) (IsItem F) Any
  marked_unique apart one x y s t here there ends stop e =
      let a = one x.0 y.0 (mark between close x.1 ∷ s) (mark between close y.1 ∷ t) here there (stops x.1 s) (stops y.1 t) (sym (append_assoc (f x.0) (mark between close x.1 ∷ []) s) ∙ (e ∙ append_assoc (f y.0) (mark between close y.1 ∷ []) t)) in
      let b = same_mark x.1 y.1 a.1 in
      (tuple x.0 y.0 x.1 y.1 a.0 b.0, b.1)
    where
      same_mark : (p q : Bool) → mark between close p ∷ s ≡ mark between close q ∷ t → (p ≡ q) × (s ≡ t)
      same_mark true true e' = (refl, cc)
      same_mark false false e' = (refl, cc)
      same_mark true false e' = let h : close ≡ between = cc in absurd (apart (sym h))
      same_mark false true e' = let h : between ≡ close = cc in absurd (apart h)

  module _ (bytes : List ℕ) (at_ : ℕ) where
    pub item_missing : (e : Missing) → IsReading f F S bytes at_ (Err e) → IsReading (marked f between close) (IsItem F) Any bytes at_ (Err e)
    item_missing e = missing f F S (marked f between close) (IsItem F) Any bytes at_ at_ e (λ x t form stop is. (x.0, mark between close x.1 ∷ t, form, stops x.1 t, is ∙ append_assoc (f x.0) (mark between close x.1 ∷ []) t))

    module _ (x : X) (mid : ℕ) (here : Stands f F S bytes at_ x mid) where
      pub not_marked : Unique f F S → NoMark between close (drop mid bytes) → Lacks (marked f between close) (IsItem F) Any (drop at_ bytes)
      not_marked one none y t form stop is = none y.1 t (sym (only f F S one bytes at_ x mid here y.0 (mark between close y.1 ∷ t) form (stops y.1 t) (is ∙ append_assoc (f y.0) (mark between close y.1 ∷ []) t)).1)

      pub marked_stands : (last : Bool) → IsMark between close bytes mid last → Stands (marked f between close) (IsItem F) Any bytes at_ (x, last) (mid + 1)
      marked_stands last m = record {
        form = here.form;
        goes = omega (arith, here.goes);
        within = omega (arith, m.within);
        is = here.is ∙ (ap (λ t. f x ++ t) m.is ∙ sym (append_assoc (f x) (mark between close last ∷ []) (drop (mid + 1) bytes)));
        ends = tt;
      }

-- ---- a field seen as another

module _ {X Y : Type 0} (g : Y → List ℕ) (G : Y → Type 0) (f : X → List ℕ) (F : X → Type 0) (T : List ℕ → Type 0) where
  pub seen_stands : (x : X) (y : Y) → F x → ((t : List ℕ) → f x ++ t ≡ g y ++ t) → (bytes : List ℕ) (at_ end_ : ℕ) → Stands g G T bytes at_ y end_ → Stands f F T bytes at_ x end_
  seen_stands x y form same bytes at_ end_ here = record {
    form = form;
    goes = here.goes;
    within = here.within;
    is = here.is ∙ sym (same (drop end_ bytes));
    ends = here.ends;
  }
