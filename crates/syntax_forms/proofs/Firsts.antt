-- How far a parser goes, and with which tokens a form begins.
use Rattle.std.proofs.Common.{◌≡◌, ◌<◌, ◌≤◌, ℕ, zero, suc, List, [], ◌∷◌, Ok, Err, sym, refl, ap, ◌∙◌, subst, inl, inr, ◌⊎◌, arith}
use Rattle.estelle_tree.specs.declared.kind.Kind.{Kind}
use Rattle.estelle_tree.specs.Input.{Input, kind, left}
use Rattle.estelle_tree.specs.Spelling.{Spelling, Chain}
use Rattle.estelle_tree.specs.Beginning.{Beginning, Nothing, ◌or◌, Then, After, AfterOne, OneToken, Opens, Many}
use Rattle.token_reader.specs.declared.error.ReadError.TheVariants.{Refused, Memory}
use Rattle.token_reader.specs.Reader.{Parser, ReadResult, and_then, pure}
use Rattle.syntax_forms.specs.Places.{Reach}
use Rattle.syntax_forms.specs.Onward.{Below}
use Rattle.syntax_forms.specs.Placed.{stop, Begun}
use Rattle.syntax_forms.proofs.Steps.{reach_on, below_more, below_from}

-- ---- where a parser stops

pub below_stop : {A : Type 0} (i : Input) (n : ℕ) (o : ReadResult A) → Below i n o → stop o < n
below_stop i n (Ok p) b = b.fits.1
below_stop i n (Err (Refused l)) b = b.fits
below_stop i n (Err Memory) b = absurd b.fits

-- where it stops tells how few are left
pub stops_below : {A : Type 0} (i : Input) (m n : ℕ) (o : ReadResult A) → Below i m o → stop o < n → Below i n o
stops_below i m n (Ok p) b less = record { fits = (b.fits.0, less) }
stops_below i m n (Err (Refused l)) b less = record { fits = less }
stops_below i m n (Err Memory) b less = absurd b.fits

-- what comes after a step only goes on
pub on_more : {A C : Type 0} (i : Input) (n : ℕ) (o : ReadResult A) (f : A → Parser C) → Below i n o → ((x : A) (a : Input) → o ≡ Ok (x, a) → Below a (suc (left a)) (f x a)) → Below i n (and_then o f)
on_more i n (Ok p) f b more =
    let less = b.fits.1 in
    below_from i p.1 n (f p.0 p.1) b.fits.0 (below_more p.1 (suc (left p.1)) n (f p.0 p.1) (omega arith) (more p.0 p.1 refl))
on_more i n (Err (Refused l)) f b more = record { fits = b.fits }
on_more i n (Err Memory) f b more = absurd b.fits

pub stop_more : {A C : Type 0} (o : ReadResult A) (f : A → Parser C) → ((x : A) (a : Input) → o ≡ Ok (x, a) → Below a (suc (left a)) (f x a)) → stop (and_then o f) ≤ stop o
stop_more (Ok p) f more = let less = below_stop p.1 (suc (left p.1)) (f p.0 p.1) (more p.0 p.1 refl) in omega arith
stop_more (Err (Refused l)) f more = omega arith
stop_more (Err Memory) f more = omega arith

-- a refusal of two steps is one of the first or of the second
pub refused_by : {A C X : Type 0} (o : ReadResult A) (f : A → Parser C) (l : ℕ) → and_then o f ≡ Err (Refused l) → (o ≡ Err (Refused l) → X) → ((x : A) (a : Input) → o ≡ Ok (x, a) → f x a ≡ Err (Refused l) → X) → X
refused_by (Ok p) f l h first second = second p.0 p.1 refl h
refused_by (Err (Refused n)) f l h first second = first (let same : n ≡ l = cc in ap (λ n. Err (Refused n)) same)
refused_by (Err Memory) f l h first second = absurd (cc)

-- steps in a row
pub in_a_row : {A C D : Type 0} (o : ReadResult A) (f : A → Parser C) (g : C → Parser D) → and_then o (λ x a. and_then (f x a) g) ≡ and_then (and_then o f) g
in_a_row (Ok p) f g = refl
in_a_row (Err e) f g = refl

-- what comes next answers the same
pub alike : {A C : Type 0} (o : ReadResult A) (f g : A → Parser C) → ((x : A) (a : Input) → f x a ≡ g x a) → and_then o f ≡ and_then o g
alike (Ok p) f g same = same p.0 p.1
alike (Err e) f g same = refl

-- and the same of what is read
pub alike_where : {A C : Type 0} (o : ReadResult A) (f g : A → Parser C) → ((x : A) (a : Input) → o ≡ Ok (x, a) → f x a ≡ g x a) → and_then o f ≡ and_then o g
alike_where (Ok p) f g same = same p.0 p.1 refl
alike_where (Err e) f g same = refl

-- steps in a row are a first step and the rest
pub regrouped : {A B C : Type 0} (o : ReadResult A) (f : A → Parser B) (g : B → Parser C) (h : A → Parser C) → ((x : A) (a : Input) → and_then (f x a) g ≡ h x a) → and_then (and_then o f) g ≡ and_then o h
regrouped o f g h same = sym (in_a_row o f g) ∙ alike o (λ x a. and_then (f x a) g) h same

-- what is read and kept as it is
pub kept : {A : Type 0} (o : ReadResult A) → o ≡ and_then o (λ x. pure x)
kept (Ok p) = refl
kept (Err e) = refl

-- ---- what begins

-- a piece that begins the rest, behind what was taken
pub carry : (B rest : Beginning) (i a : Input) (l : ℕ) → Reach i a → ((m : Input) → rest a m → B i m) → Begun rest a l → Begun B i l
carry B rest i a l r into b = record { at = b.at; reach = reach_on i a b.at r b.reach; begins = into b.at b.begins; count = b.count }

-- nothing was taken
pub begun_here : (B : Beginning) (i : Input) (l : ℕ) → B i i → left i ≡ l → Begun B i l
begun_here B i l b e = record { at = i; reach = (zero, refl); begins = b; count = e }

-- the empty piece is no longer
pub stays_short : {A : Type 0} (i m : Input) (o : ReadResult A) → Below i (suc (left i)) o → i ≡ m → stop o ≤ left m
stays_short i m o b e = let less = below_stop i (suc (left i)) o b in let same : left i ≡ left m = ap left e in omega arith

-- a piece that is not empty begins so
abbrev pub First : Beginning → (Input → Type 0) → Type 0
First B starts = (i m : Input) → B i m → (i ≡ m) ⊎ starts i

module _ (starts : Input → Type 0) where
  pub first_nothing : First Nothing starts
  first_nothing i m e = inl e

  pub first_or : (B C : Beginning) → First B starts → First C starts → First (B or C) starts
  first_or B C b c i m (inl h) = b i m h
  first_or B C b c i m (inr h) = c i m h

  pub first_after : (kind' : Kind) (rest : Beginning) → ((i : Input) → kind i ≡ kind' → starts i) → First (After kind' rest) starts
  first_after kind' rest is i m (inl e) = inl e
  first_after kind' rest is i m (inr h) = inr (is i h.1.kind)

  pub first_one : (kind' : Kind) → ((i : Input) → kind i ≡ kind' → starts i) → First (OneToken kind') starts
  first_one kind' is i m (inl e) = inl e
  first_one kind' is i m (inr h) = inr (is i h.kind)

  pub first_of : {O : Type 0} (kinds : O → Kind) (rest : Beginning) → ((o : O) (i : Input) → kind i ≡ kinds o → starts i) → First (AfterOne kinds rest) starts
  first_of kinds rest is i m (inl e) = inl e
  first_of kinds rest is i m (inr h) = inr (is h.0 i h.2.kind)

  pub first_opens : (room : ℕ) (kind' : Kind) (rest : Beginning) → ((i : Input) → kind i ≡ kind' → starts i) → First (Opens room kind' rest) starts
  first_opens room kind' rest is i m (inl e) = inl e
  first_opens room kind' rest is i m (inr h) = inr (is i h.1.1.kind)

  -- where each node of the first part begins so, too
  pub first_then : {A : Type 0} (P : Spelling A) (B rest : Beginning) → First B starts → ((i a : Input) (x : A) → P x i a → starts i) → First (Then B P rest) starts
  first_then P B rest b is i m (inl h) = b i m h
  first_then P B rest b is i m (inr h) = inr (is i h.1 h.0 h.2)

  -- what begins so, begins so in other words
  pub first_so : (other : Input → Type 0) (B : Beginning) → ((i : Input) → other i → starts i) → First B other → First B starts
  first_so other B so first i m h = by (first i m h)
    where
      by : (i ≡ m) ⊎ other i → (i ≡ m) ⊎ starts i
      by (inl e) = inl e
      by (inr s) = inr (so i s)

  -- however many parts stand there
  pub first_many : {A : Type 0} (P : Spelling A) (B rest : Beginning) → First B starts → First rest starts → ((i a : Input) (x : A) → P x i a → starts i) → First (Many B P rest) starts
  first_many {A} P B rest b r is i m h = go h.0 h.2
    where
      ends_here : (a : Input) → i ≡ a → (a ≡ m) ⊎ starts a → (i ≡ m) ⊎ starts i
      ends_here a same (inl e) = inl (same ∙ e)
      ends_here a same (inr s) = inr (subst starts (sym same) s)

      go : (xs : List A) → Chain P xs i h.1 → (i ≡ m) ⊎ starts i
      go [] same = ends_here h.1 same (first_or B rest b r h.1 m h.3)
      go (x ∷ xs) chain = inr (is i chain.0 x chain.1)

-- where none of what begins it comes
pub empty_at : (B : Beginning) (starts : Input → Type 0) (i : Input) → First B starts → (starts i → ⊥) → (m : Input) → B i m → i ≡ m
empty_at B starts i first other m h = by (first i m h)
  where
    by : (i ≡ m) ⊎ starts i → i ≡ m
    by (inl e) = e
    by (inr s) = absurd (other s)
