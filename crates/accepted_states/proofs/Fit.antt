-- What is declared by what spells the tokens from one place to another: its places are among these tokens.
use Rattle.std.proofs.Common.{◌≡◌, ◌∙◌, ℕ, suc, ◌+◌, ◌≤◌, Bool, List, [], ◌∷◌, ◌++◌, map, length, refl, ap, sym, subst, arith}
use Rattle.std.specs.List.{flat_map}
use Rattle.estelle_tree.specs.declared.kind.Kind.{Kind}
use Rattle.estelle_tree.specs.declared.kind.Kind.TheVariants as k
use Rattle.estelle_tree.specs.declared.span.Span.{Span}
use Rattle.estelle_tree.specs.declared.tree.name.Name.{Name}
use Rattle.estelle_tree.specs.declared.tree.name.NameList.{NameList}
use Rattle.estelle_tree.specs.Input.{Input}
use Rattle.estelle_tree.specs.Spelling.{Spelling, Chain, Several, Behind, Ended, Separated, Lines, MayBeLines}
use Rattle.estelle_tree.specs.Types.{IsName, IsNames}
use Rattle.estelle_model.specs.declared.denoter.Denoter.{Denoter}
use Rattle.estelle_model.specs.declared.meaning.Meaning.{Meaning}
use Rattle.estelle_model.specs.Meant.{Meanings}
use Rattle.estelle_model.specs.Denoted.{Declarations, numbered, Section, rising, sections_declare}
use Rattle.accepted_states.proofs.Lists.{Each, each_append, count, one_if, count-append, flat-append}
use Rattle.accepted_states.proofs.Fine.{among, Less, less_same, less_takes, less_name}
use Rattle.accepted_states.proofs.Declared.{nothing, IsFixed, weight, weight-append}

-- ---- how many places are so

abbrev pub starts : (ℕ → Bool) → Span → Bool
starts t s = t s.start

abbrev pub names_weight : (ℕ → Bool) → List Name → ℕ
names_weight t xs = count (λ (x : Name). t x.span.start) xs

abbrev pub sections_weight : (ℕ → Bool) → List Section → ℕ
sections_weight t [] = 0
sections_weight t (s ∷ ss) = names_weight t s.0 + sections_weight t ss

pub sections_weight-append : (t : ℕ → Bool) (ss rs : List Section) → sections_weight t (ss ++ rs) ≡ sections_weight t ss + sections_weight t rs
sections_weight-append t [] rs = omega arith
sections_weight-append t (s ∷ ss) rs = let e = sections_weight-append t ss rs in omega (arith, e)

pub names_weight-append : (t : ℕ → Bool) (xs ys : List Name) → names_weight t (xs ++ ys) ≡ names_weight t xs + names_weight t ys
names_weight-append t xs ys = count-append (λ (x : Name). t x.span.start) xs ys

pub numbered_weight : (t : ℕ → Bool) (says : ℕ → Meanings → Meaning) (n : ℕ) (xs : List Name) → weight t (numbered says n xs) ≡ names_weight t xs
numbered_weight t says n [] = refl
numbered_weight t says n (x ∷ xs) = let e = numbered_weight t says (suc n) xs in omega (arith, e)

pub numbered_fixed : (says : ℕ → Meanings → Meaning) (n : ℕ) (xs : List Name) → Each IsFixed (numbered says n xs)
numbered_fixed says n [] = tt
numbered_fixed says n (x ∷ xs) = (λ known. refl, numbered_fixed says (suc n) xs)

rising_places : (mean : ℕ → Meaning) (n : ℕ) (xs : List Name) → map (λ e. e.0) (rising mean n xs) ≡ map (λ (x : Name). x.span.start) xs
rising_places mean n [] = refl
rising_places mean n (x ∷ xs) = ap (λ ps. x.span.start ∷ ps) (rising_places mean (suc n) xs)

count_places : (t : ℕ → Bool) (xs : List Name) → count t (map (λ (x : Name). x.span.start) xs) ≡ names_weight t xs
count_places t [] = refl
count_places t (x ∷ xs) = ap (λ n. one_if (t x.span.start) + n) (count_places t xs)

pub sections_weigh : (t : ℕ → Bool) (mean : Meanings → ℕ → Denoter → Meaning) (n : ℕ) (ss : List Section) → weight t (sections_declare mean n ss) ≡ sections_weight t ss
sections_weigh t mean n [] = refl
sections_weigh t mean n (s ∷ ss) =
    let a = ap (count t) (rising_places (λ k. mean nothing k (s.1.denotes nothing)) n s.0) ∙ count_places t s.0 in
    let b = sections_weigh t mean (n + length s.0) ss in
    omega (arith, a, b)

pub sections_fixed : (mean : Meanings → ℕ → Denoter → Meaning) (n : ℕ) (ss : List Section) → Each IsFixed (sections_declare mean n ss)
sections_fixed mean n [] = tt
sections_fixed mean n (s ∷ ss) =
    (λ known. rising_places (λ k. mean known k (s.1.denotes known)) n s.0 ∙ sym (rising_places (λ k. mean nothing k (s.1.denotes nothing)) n s.0), sections_fixed mean (n + length s.0) ss)

-- ---- parts of the text

-- a claim on the parts between two places, which holds of parts one after another
pub record Frame {A : Type 0} (Q : Input → Input → List A → Type 0) : Type 0 where
  pub nil : (i j : Input) → Less i j → Q i j []
  pub append : (i m j : Input) (xs ys : List A) → Q i m xs → Q m j ys → Q i j (xs ++ ys)
  pub less : (i m j : Input) (xs : List A) → Less i m → Q m j xs → Q i j xs
  pub end : (i m j : Input) (xs : List A) → Q i m xs → Less m j → Q i j xs

abbrev pub One : {A : Type 0} → (Input → Input → List A → Type 0) → Spelling A → Type 0
One {A} Q P = (x : A) (i j : Input) → P x i j → Q i j (x ∷ [])

module _ {A : Type 0} (Q : Input → Input → List A → Type 0) (F : Frame Q) (P : Spelling A) (one : One Q P) where
  pub behind : (w : Kind) → One Q (Behind w P)
  behind w x i j h = F.less i h.at j (x ∷ []) (less_takes h.mark) (one x h.at j h.item)

  pub ended : (w : Kind) → One Q (Ended w P)
  ended w x i j h = F.end i h.mid j (x ∷ []) (one x i h.mid h.item) (less_takes h.mark)

  pub chain : (xs : List A) (i j : Input) → Chain P xs i j → Q i j xs
  chain [] i j h = F.nil i j (less_same h)
  chain (x ∷ xs) i j h = F.append i h.0 j (x ∷ []) xs (one x i h.0 h.1) (chain xs h.0 j h.2)

  pub several : (xs : List A) (i j : Input) → Several P xs i j → Q i j xs
  several [] i j h = absurd h
  several (x ∷ xs) i j h = F.append i h.0 j (x ∷ []) xs (one x i h.0 h.1) (chain xs h.0 j h.2)

module _ {A : Type 0} (Q : Input → Input → List A → Type 0) (F : Frame Q) (P : Spelling A) (one : One Q P) where
  pub separated : (w : Kind) (xs : List A) (i j : Input) → Separated w P xs i j → Q i j xs
  separated w [] i j h = absurd h
  separated w (x ∷ xs) i j h = F.append i h.0 j (x ∷ []) xs (one x i h.0 h.1) (chain Q F (Behind w P) (behind Q F P one w) xs h.0 j h.2)

  pub lines : (xs : List A) (i j : Input) → Lines P xs i j → Q i j xs
  lines xs i j h = several Q F (Ended k.Semicolon P) (ended Q F P one k.Semicolon) xs i j h

  pub may_be_lines : (w : Kind) (xs : List A) (i j : Input) → MayBeLines w P xs i j → Q i j xs
  may_be_lines w [] i j h = F.nil i j (less_same h)
  may_be_lines w (x ∷ xs) i j h = F.less i h.at j (x ∷ xs) (less_takes h.mark) (lines (x ∷ xs) h.at j h.item)

-- a claim that a number for each part is covered by the tokens
abbrev pub Covered : {A : Type 0} → ((ℕ → Bool) → List A → ℕ) → Input → Input → List A → Type 0
Covered f i j xs = (t : ℕ → Bool) → f t xs + among (starts t) j ≤ among (starts t) i

pub record Sums {A : Type 0} (f : (ℕ → Bool) → List A → ℕ) : Type 0 where
  pub none : (t : ℕ → Bool) → f t [] ≡ 0
  pub more : (t : ℕ → Bool) (xs ys : List A) → f t (xs ++ ys) ≡ f t xs + f t ys

-- what is fixed and covered
pub record Fit {A : Type 0} (ds : List A → Declarations) (f : (ℕ → Bool) → List A → ℕ) (i j : Input) (xs : List A) : Type 0 where
  pub fixed : Each IsFixed (ds xs)
  pub few : Covered f i j xs

pub record Joins {A : Type 0} (ds : List A → Declarations) : Type 0 where
  pub none : ds [] ≡ []
  pub more : (xs ys : List A) → ds (xs ++ ys) ≡ ds xs ++ ds ys

pub fit_frame : {A : Type 0} (ds : List A → Declarations) (f : (ℕ → Bool) → List A → ℕ) → Joins ds → Sums f → Frame (Fit ds f)
fit_frame ds f J S = record {
  nil = λ i j l. record { fixed = subst (Each IsFixed) (sym J.none) tt; few = λ t. let a = S.none t in let b = l.most (starts t) in omega (arith, a, b) };
  append = λ i m j xs ys h g. record {
    fixed = subst (Each IsFixed) (sym (J.more xs ys)) (each_append IsFixed (ds xs) (ds ys) h.fixed g.fixed);
    few = λ t. let a = S.more t xs ys in let b = h.few t in let c = g.few t in omega (arith, a, b, c);
  };
  less = λ i m j xs l h. record { fixed = h.fixed; few = λ t. let a = l.most (starts t) in let b = h.few t in omega (arith, a, b) };
  end = λ i m j xs h l. record { fixed = h.fixed; few = λ t. let a = l.most (starts t) in let b = h.few t in omega (arith, a, b) };
}

-- parts whose declarations stand one after another
pub flat_joins : {A : Type 0} (f : A → Declarations) → Joins (flat_map f)
flat_joins f = record { none = refl; more = λ xs ys. flat-append f xs ys }

pub flat_sums : {A : Type 0} (f : A → Declarations) → Sums (λ t xs. weight t (flat_map f xs))
flat_sums f = record { none = λ t. refl; more = λ t xs ys. ap (weight t) (flat-append f xs ys) ∙ weight-append t (flat_map f xs) (flat_map f ys) }

abbrev pub Plainly : {A : Type 0} → (A → Declarations) → Input → Input → List A → Type 0
Plainly f = Fit (flat_map f) (λ t xs. weight t (flat_map f xs))

pub plainly : {A : Type 0} (f : A → Declarations) → Frame (Plainly f)
plainly f = fit_frame (flat_map f) (λ t xs. weight t (flat_map f xs)) (flat_joins f) (flat_sums f)

-- ---- names

pub names_frame : Frame (Covered names_weight)
names_frame = record {
  nil = λ i j l t. let b = l.most (starts t) in omega (arith, b);
  append = λ i m j xs ys h g t. let a = names_weight-append t xs ys in let b = h t in let c = g t in omega (arith, a, b, c);
  less = λ i m j xs l h t. let a = l.most (starts t) in let b = h t in omega (arith, a, b);
  end = λ i m j xs h l t. let a = l.most (starts t) in let b = h t in omega (arith, a, b);
}

pub name_covered : One (Covered names_weight) IsName
name_covered x i j h t = let a = less_name h (starts t) in omega (arith, a)

pub names_covered : (ns : NameList) (i j : Input) → IsNames ns i j → Covered names_weight i j ns.names
names_covered ns i j h = separated (Covered names_weight) names_frame IsName name_covered k.Comma ns.names i j h.names
