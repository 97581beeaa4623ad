-- Each prefix of what begins a form begins it, too: for each way of putting parts together.
use Rattle.std.proofs.Common.{ℕ, subst, inl, inr}
use Rattle.estelle_tree.specs.declared.kind.Kind.{Kind}
use Rattle.estelle_tree.specs.Input.{Input}
use Rattle.estelle_tree.specs.Spelling.{Spelling}
use Rattle.estelle_tree.specs.Beginning.{Beginning, Nothing, ◌or◌, Then, After, AfterOne, OneToken, Opens, Many, Some as BeginsSeveral}
use Rattle.estelle_tree.proofs.Cuts as cuts
use Rattle.estelle_tree.proofs.Cuts.{Reach, Out, begun, past, one, other, Cut}

-- a cut through a piece that begins the form: what stands before it begins the form, or it comes at the end
abbrev pub Shut : Beginning → Type 0
Shut B = (i j c : Input) → B i j → Reach i c → Out B i j c

-- what is spelled so also begins so
abbrev pub Whole : {A : Type 0} → Spelling A → Beginning → Type 0
Whole {A} P B = (i j : Input) (x : A) → P x i j → B i j

pub out : (B C : Beginning) (i j c : Input) → (B i c → C i c) → Out B i j c → Out C i j c
out B C i j c to (begun b) = begun (to b)
out B C i j c to (past r) = past r

-- the same pieces begin the one and the other
pub alike : {B C : Beginning} → ((i m : Input) → B i m → C i m) → ((i m : Input) → C i m → B i m) → Shut B → Shut C
alike {B} {C} to back shut i j c b r = out B C i j c (to i c) (shut i j c (back i j b) r)

cut : {A : Type 0} {P : Spelling A} {B : Beginning} → Whole P B → Shut B → Cut P B
cut whole shut i j c x h r = shut i j c (whole i j x h) r

pub nothing : Shut Nothing
nothing i j c e r = past (subst (λ i. Reach i c) e r)

pub token : (word : Kind) → Shut (OneToken word)
token word i j c (inl e) r = past (subst (λ i. Reach i c) e r)
token word i j c (inr t) r = cuts.token i j c t r

pub after : {N : Beginning} (word : Kind) → Shut N → Shut (After word N)
after {N} word rest i j c (inl e) r = past (subst (λ i. Reach i c) e r)
after {N} word rest i j c (inr (m, t, n)) r = cuts.after N i m j c t r (λ r. rest m j c n r)

pub after_one : {O : Type 0} {N : Beginning} (of : O → Kind) → Shut N → Shut (AfterOne of N)
after_one {O} {N} of rest i j c (inl e) r = past (subst (λ i. Reach i c) e r)
after_one {O} {N} of rest i j c (inr (o, m, t, n)) r = cuts.after_one N o i m j c t r (λ r. rest m j c n r)

pub opens : {N : Beginning} (room : ℕ) (word : Kind) → Shut N → Shut (Opens room word N)
opens {N} room word rest i j c (inl e) r = past (subst (λ i. Reach i c) e r)
opens {N} room word rest i j c (inr (fits, (m, t, n))) r = cuts.opens N room fits i m j c t r (λ r. rest m j c n r)

pub choice : {B C : Beginning} → Shut B → Shut C → Shut (B or C)
choice {B} {C} first second i j c (inl b) r = one B C i j c (first i j c b r)
choice {B} {C} first second i j c (inr d) r = other B C i j c (second i j c d r)

pub part : {A : Type 0} {P : Spelling A} {B N : Beginning} → Whole P B → Shut B → Shut N → Shut (Then B P N)
part {A} {P} {B} {N} whole shut rest i j c (inl b) r = out B (Then B P N) i j c (λ b. inl b) (shut i j c b r)
part {A} {P} {B} {N} whole shut rest i j c (inr (x, m, p, n)) r = cuts.part N (cut whole shut) i m j c x p r (λ r. rest m j c n r)

pub many : {A : Type 0} {P : Spelling A} {B N : Beginning} → Whole P B → Shut B → Shut N → Shut (Many B P N)
many {A} {P} {B} {N} whole shut rest i j c (xs, m, chain, last) r = out (Many B P (B or N)) (Many B P N) i j c again (cuts.chain (B or N) (cut whole shut) xs i m j c chain r (λ r. choice shut rest m j c last r))
  where
    again : Many B P (B or N) i c → Many B P N i c
    again (ys, a, ps, inl b) = (ys, a, ps, inl b)
    again (ys, a, ps, inr last) = (ys, a, ps, last)

pub several : {A : Type 0} {P : Spelling A} {B N : Beginning} → Whole P B → Shut B → Shut N → Shut (BeginsSeveral B P N)
several whole shut rest = part whole shut (many whole shut rest)
