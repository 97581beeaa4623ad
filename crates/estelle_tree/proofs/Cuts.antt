-- A list of tokens that a form spells, cut at any place: what stands before the cut begins the form, or the
-- cut comes at its end or behind it.
use Rattle.std.proofs.Common.{◌≡◌, ◌<◌, ℕ, zero, suc, Bool, true, false, List, [], ◌∷◌, Option, Some, None, inl, inr, sym, refl, subst}
use Rattle.estelle_tree.specs.declared.kind.Kind.{Kind}
use Rattle.estelle_tree.specs.declared.kind.Kind.TheVariants as k
use Rattle.estelle_tree.specs.Input.{Input, skip}
use Rattle.estelle_tree.specs.Spelling.{Spelling, Takes, Flag, Mark, Optional, Chain, Several, Lines, Behind, Ended, Joined, Separated, Enclosed}
use Rattle.estelle_tree.specs.Beginning as begins
use Rattle.estelle_tree.specs.Beginning.{Beginning, Nothing, ◌or◌, Then, After, OneToken, AfterOne, Opens, MayBe, MayBeOne, May, Many, Separating, Lining}

-- the one place is not before the other
abbrev pub Reach : Input → Input → Type 0
Reach i c = (n : ℕ) × (skip n i ≡ c)

-- the cut comes in the form, or behind it
pub data Out (B : Beginning) (i j c : Input) : Type 0 where
  begun : B i c → Out B i j c
  past : Reach j c → Out B i j c

abbrev pub Cut : {A : Type 0} → Spelling A → Beginning → Type 0
Cut {A} P B = (i j c : Input) (x : A) → P x i j → Reach i c → Out B i j c

-- ---- alternatives

pub one : (B C : Beginning) (i j c : Input) → Out B i j c → Out (B or C) i j c
one B C i j c (begun b) = begun (inl b)
one B C i j c (past r) = past r

pub other : (B C : Beginning) (i j c : Input) → Out C i j c → Out (B or C) i j c
other B C i j c (begun b) = begun (inr b)
other B C i j c (past r) = past r

-- ---- one part, and what comes next

pub stop : {i c : Input} → Reach i c → Out Nothing i i c
stop r = past r

pub token : {word : Kind} (i j c : Input) → Takes word i j → Reach i c → Out (OneToken word) i j c
token i j c t (zero, e) = begun (inl e)
token i j c t (suc n, e) = past (n, subst (λ m. skip n m ≡ c) t.next e)

pub after : {word : Kind} (N : Beginning) (i m j c : Input) → Takes word i m → Reach i c → (Reach m c → Out N m j c) → Out (After word N) i j c
after {word} N i m j c t (zero, e) rest = begun (inl e)
after {word} N i m j c t (suc n, e) rest = go (rest (n, subst (λ m. skip n m ≡ c) t.next e))
  where
    go : Out N m j c → Out (After word N) i j c
    go (begun b) = begun (inr (m, t, b))
    go (past r) = past r

pub after_one : {O : Type 0} {of : O → Kind} (N : Beginning) (o : O) (i m j c : Input) → Takes (of o) i m → Reach i c → (Reach m c → Out N m j c) → Out (AfterOne of N) i j c
after_one {O} {of} N o i m j c t (zero, e) rest = begun (inl e)
after_one {O} {of} N o i m j c t (suc n, e) rest = go (rest (n, subst (λ m. skip n m ≡ c) t.next e))
  where
    go : Out N m j c → Out (AfterOne of N) i j c
    go (begun b) = begun (inr (o, m, t, b))
    go (past r) = past r

pub opens : {word : Kind} (N : Beginning) (room : ℕ) → 0 < room → (i m j c : Input) → Takes word i m → Reach i c → (Reach m c → Out N m j c) → Out (Opens room word N) i j c
opens {word} N room fits i m j c t (zero, e) rest = begun (inl e)
opens {word} N room fits i m j c t (suc n, e) rest = go (rest (n, subst (λ m. skip n m ≡ c) t.next e))
  where
    go : Out N m j c → Out (Opens room word N) i j c
    go (begun b) = begun (inr (fits, (m, t, b)))
    go (past r) = past r

pub part : {A : Type 0} {P : Spelling A} {B : Beginning} (N : Beginning) → Cut P B → (i m j c : Input) (x : A) → P x i m → Reach i c → (Reach m c → Out N m j c) → Out (Then B P N) i j c
part {A} {P} {B} N cut i m j c x p r rest = go (cut i m c x p r)
  where
    behind : Out N m j c → Out (Then B P N) i j c
    behind (begun n) = begun (inr (x, m, p, n))
    behind (past r) = past r

    go : Out B i m c → Out (Then B P N) i j c
    go (begun b) = begun (inl b)
    go (past r) = behind (rest r)

-- ---- parts that may be missing

pub flag : {word : Kind} (N : Beginning) (b : Bool) (i m j c : Input) → Flag word b i m → Reach i c → (Reach m c → Out N m j c) → Out (MayBe word N) i j c
flag {word} N false i m j c e r rest = one N _ i j c (subst (λ i. Out N i j c) (sym e) (rest (subst (λ i. Reach i c) e r)))
flag {word} N true i m j c t r rest = other N _ i j c (after N i m j c t r rest)

pub mark : {O : Type 0} {of : O → Kind} (N : Beginning) (o : Option O) (i m j c : Input) → Mark of o i m → Reach i c → (Reach m c → Out N m j c) → Out (MayBeOne of N) i j c
mark {O} {of} N None i m j c e r rest = one N _ i j c (subst (λ i. Out N i j c) (sym e) (rest (subst (λ i. Reach i c) e r)))
mark {O} {of} N (Some o) i m j c t r rest = other N _ i j c (after_one N o i m j c t r rest)

pub optional : {A : Type 0} {P : Spelling A} {B : Beginning} (N : Beginning) → Cut P B → (x : Option A) (i m j c : Input) → Optional P x i m → Reach i c → (Reach m c → Out N m j c) → Out (May B P N) i j c
optional {A} {P} {B} N cut None i m j c e r rest = one N _ i j c (subst (λ i. Out N i j c) (sym e) (rest (subst (λ i. Reach i c) e r)))
optional {A} {P} {B} N cut (Some x) i m j c p r rest = other N _ i j c (part N cut i m j c x p r rest)

-- ---- parts that are repeated

pub chain : {A : Type 0} {P : Spelling A} {B : Beginning} (N : Beginning) → Cut P B → (xs : List A) (i m j c : Input) → Chain P xs i m → Reach i c → (Reach m c → Out N m j c) → Out (Many B P N) i j c
chain {A} {P} {B} N cut [] i m j c e r rest = go (subst (λ i. Out N i j c) (sym e) (rest (subst (λ i. Reach i c) e r)))
  where
    go : Out N i j c → Out (Many B P N) i j c
    go (begun n) = begun ([], i, refl, inr n)
    go (past r) = past r
chain {A} {P} {B} N cut (x ∷ xs) i m j c p r rest = go (cut i p.0 c x p.1 r) (λ r. chain N cut xs p.0 m j c p.2 r rest)
  where
    more : Out (Many B P N) p.0 j c → Out (Many B P N) i j c
    more (begun (ys, a, ps, rest)) = begun (x ∷ ys, a, (p.0, p.1, ps), rest)
    more (past r) = past r

    go : Out B i p.0 c → (Reach p.0 c → Out (Many B P N) p.0 j c) → Out (Many B P N) i j c
    go (begun b) again = begun ([], i, refl, inl b)
    go (past r) again = more (again r)

pub several : {A : Type 0} {P : Spelling A} {B : Beginning} (N : Beginning) → Cut P B → (xs : List A) (i m j c : Input) → Several P xs i m → Reach i c → (Reach m c → Out N m j c) → Out (begins.Some B P N) i j c
several N cut [] i m j c p r rest = absurd p
several N cut (x ∷ xs) i m j c p r rest = part _ cut i p.0 j c x p.1 r (λ r. chain N cut xs p.0 m j c p.2 r rest)

pub behind : {A : Type 0} {P : Spelling A} {B : Beginning} (word : Kind) → Cut P B → Cut (Behind word P) (After word B)
behind word cut i j c x p r = after _ i p.at j c p.mark r (λ r. cut p.at j c x p.item r)

pub ended : {A : Type 0} {P : Spelling A} {B : Beginning} (word : Kind) → Cut P B → Cut (Ended word P) (Then B P (OneToken word))
ended word cut i j c x p r = part _ cut i p.mid j c x p.item r (λ r. token p.mid j c p.mark r)

pub separated : {A : Type 0} {P : Spelling A} {B : Beginning} (N : Beginning) (word : Kind) → Cut P B → (xs : List A) (i m j c : Input) → Separated word P xs i m → Reach i c → (Reach m c → Out N m j c) → Out (Separating word B P N) i j c
separated N word cut [] i m j c p r rest = absurd p
separated N word cut (x ∷ xs) i m j c p r rest = part _ cut i p.0 j c x p.1 r (λ r. chain N (behind word cut) xs p.0 m j c p.2 r rest)

pub lines : {A : Type 0} {P : Spelling A} {B : Beginning} (N : Beginning) → Cut P B → (xs : List A) (i m j c : Input) → Lines P xs i m → Reach i c → (Reach m c → Out N m j c) → Out (Lining B P N) i j c
lines N cut xs i m j c p r rest = several N (ended k.Semicolon cut) xs i m j c p r rest

pub joined : {A C : Type 0} {P : Spelling A} {Q : Spelling C} {B D : Beginning} (word : Kind) → Cut P B → Cut Q D → (x : A) (y : C) (i j c : Input) → Joined word P Q x y i j → Reach i c → Out (Then B P (After word D)) i j c
joined word cut second x y i j c p r = part _ cut i p.mid j c x p.first r (λ r. after _ p.mid p.at j c p.mark r (λ r. second p.at j c y p.second r))

-- ---- at the end of a form

pub last_flag : {word : Kind} (b : Bool) (i j c : Input) → Flag word b i j → Reach i c → Out (OneToken word) i j c
last_flag false i j c e r = past (subst (λ i. Reach i c) e r)
last_flag true i j c t r = token i j c t r

-- `[k x]`
pub last_behind : {A : Type 0} {P : Spelling A} {B : Beginning} (word : Kind) → Cut P B → (x : Option A) (i j c : Input) → Optional (Behind word P) x i j → Reach i c → Out (After word B) i j c
last_behind word cut None i j c e r = past (subst (λ i. Reach i c) e r)
last_behind word cut (Some x) i j c h r = behind word cut i j c x h r

-- `["(" x ")"]`
pub last_enclosed : {A : Type 0} {P : Spelling A} {B : Beginning} (opening closing : Kind) → Cut P B → (x : Option A) (i j c : Input) → Optional (Enclosed opening closing P) x i j → Reach i c → Out (After opening (Then B P (OneToken closing))) i j c
last_enclosed opening closing cut None i j c e r = past (subst (λ i. Reach i c) e r)
last_enclosed opening closing cut (Some x) i j c h r = after _ i h.at j c h.opens r (λ r. part _ cut h.at h.mid j c x h.inside r (λ r. token h.mid j c h.closes r))

-- `[k x]`, where several terminals can stand
pub last_marked : {O A : Type 0} (of : O → Kind) {P : Spelling A} {B : Beginning} → Cut P B → (x : Option (O × A)) (i j c : Input) → Optional (λ (x : O × A). Behind (of x.0) P x.1) x i j → Reach i c → Out (AfterOne of B) i j c
last_marked of cut None i j c e r = past (subst (λ i. Reach i c) e r)
last_marked of cut (Some x) i j c h r = after_one _ x.0 i h.at j c h.mark r (λ r. cut h.at j c x.1 h.item r)

-- `k x`, where several terminals can stand
pub marked : {O A : Type 0} (of : O → Kind) {P : Spelling A} {B : Beginning} → Cut P B → Cut (λ (x : O × A). Behind (of x.0) P x.1) (AfterOne of B)
marked of cut i j c x h r = after_one _ x.0 i h.at j c h.mark r (λ r. cut h.at j c x.1 h.item r)
