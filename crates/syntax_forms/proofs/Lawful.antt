-- The laws of a form and of a parser of it.
use Rattle.std.proofs.Common.{◌≡◌, ◌<◌, true, false, Ok, sym, ◌∙◌, subst, inl, inr, ◌⊎◌}
use Rattle.estelle_tree.specs.Input.{Input, kind, left}
use Rattle.estelle_tree.specs.Spelling.{Spelling}
use Rattle.estelle_tree.specs.Beginning.{Beginning, Then}
use Rattle.token_reader.specs.Reader.{Parser}
use Rattle.token_reader.proofs.Sound.{Sound}
use Rattle.token_reader.proofs.Complete as reader
use Rattle.token_reader.proofs.Complete.{Complete, Shrinks}
use Rattle.syntax_forms.specs.Form.{Form}
use Rattle.syntax_forms.specs.Kinds.{Apart}
use Rattle.syntax_forms.specs.Reading.{Reading}
use Rattle.syntax_forms.specs.Onward.{IsOnward}
use Rattle.syntax_forms.specs.Placed.{Placed}
use Rattle.syntax_forms.specs.Places.{Reach}
use Rattle.syntax_forms.proofs.Local.{upto, reach_left}
use Rattle.syntax_forms.proofs.Firsts.{First}
use Rattle.syntax_forms.proofs.Steps.{Reached, Reaches}
use Rattle.syntax_forms.proofs.Prefixes as prefixes
use Rattle.syntax_forms.proofs.Prefixes.{Shut}

-- nothing that comes next goes on with it
abbrev pub Ends : {A : Type 0} → Form A → reader.After
Ends F j = F.on (kind j) ≡ false

-- it begins with one of its terminals
abbrev pub Starts : {A : Type 0} → Form A → Input → Type 0
Starts F i = F.first (kind i) ≡ true

-- what begins the other does not go on with the one
abbrev pub Follows : {A B : Type 0} → Form A → Form B → Type 0
Follows F G = Apart F.on G.first

-- laws of the form alone
pub record IsForm {A : Type 0} (F : Form A) : Type 1 where
  -- what is spelled so also begins it
  pub whole : (i j : Input) (x : A) → F.spells x i j → F.begins i j
  -- the empty piece begins it
  pub nothing : (i : Input) → F.begins i i
  -- its first terminal
  pub starts : (i m : Input) (x : A) → F.spells x i m → ((i ≡ m) × (F.empty ≡ true)) ⊎ Starts F i
  pub first : First F.begins (Starts F)
  -- it ends at the place where it begins or behind it
  pub reach : (i m : Input) (x : A) → F.spells x i m → Reach i m
  pub advances : F.empty ≡ false → (i m : Input) (x : A) → F.spells x i m → left m < left i
  -- each prefix of what begins it begins it
  pub shut : Shut F.begins
  -- what stands behind it is nothing to it
  pub local : (c i m : Input) (x : A) → F.spells x i m → Reach m c → F.spells x (upto c i) (upto c m)
  -- it and what comes next are begun by what begins it, and by what spells it with what begins that
  pub apart : (next : Beginning) (i m : Input) → F.onto next i m → Then F.begins F.spells next i m
  pub short : (next : Beginning) (i m : Input) → next m m → F.begins i m → F.onto next i m
  pub whole_onto : (next : Beginning) (i m j : Input) (x : A) → F.spells x i m → next m j → F.onto next i j

module _ {A : Type 0} {F : Form A} (law : IsForm F) (next : Beginning) where
  pub first_onto : (i m : Input) → F.onto next i m → (i ≡ m) ⊎ (Starts F i ⊎ ((F.empty ≡ true) × next i m))
  first_onto i m b = by (law.apart next i m b)
    where
      begun : (i ≡ m) ⊎ Starts F i → (i ≡ m) ⊎ (Starts F i ⊎ ((F.empty ≡ true) × next i m))
      begun (inl e) = inl e
      begun (inr s) = inr (inl s)

      spelled : (a : Input) → next a m → ((i ≡ a) × (F.empty ≡ true)) ⊎ Starts F i → (i ≡ m) ⊎ (Starts F i ⊎ ((F.empty ≡ true) × next i m))
      spelled a n (inl e) = inr (inr (e.1, subst (λ a. next a m) (sym e.0) n))
      spelled a n (inr s) = inr (inl s)

      by : Then F.begins F.spells next i m → (i ≡ m) ⊎ (Starts F i ⊎ ((F.empty ≡ true) × next i m))
      by (inl b) = begun (law.first i m b)
      by (inr h) = spelled h.1 h.3 (law.starts i h.1 h.0 h.2)

  pub from_then : ((j : Input) → next j j) → (i m : Input) → Then F.begins F.spells next i m → F.onto next i m
  from_then blank i m (inl b) = law.short next i m (blank m) b
  from_then blank i m (inr h) = law.whole_onto next i h.1 m h.0 h.2 h.3

  pub shut_onto : ((j : Input) → next j j) → Shut next → Shut (F.onto next)
  shut_onto blank rest = prefixes.alike (from_then blank) (law.apart next) (prefixes.part law.whole law.shut rest)

-- what is not spelled by nothing begins with one of the terminals
pub begins_so : {A : Type 0} (F : Form A) → IsForm F → F.empty ≡ false → (i m : Input) (x : A) → F.spells x i m → Starts F i
begins_so F law some i m x h = by (law.starts i m x h)
  where
    by : ((i ≡ m) × (F.empty ≡ true)) ⊎ Starts F i → Starts F i
    by (inl e) = absurd (let no : true ≡ false = sym e.1 ∙ some in cc)
    by (inr s) = s

pub shrinks : {A : Type 0} {F : Form A} → IsForm F → Shrinks F.spells
shrinks law i m x h = reach_left i m (law.reach i m x h)

-- it read a thing, and what comes next answered
abbrev pub Got : {A C : Type 0} → Spelling A → (A → Parser C) → Input → Input → C → Type 0
Got {A} P f i j y = (x : A) × (m : Input) × P x i m × (f x m ≡ Ok (y, j))

-- what comes next takes no token and refuses none
abbrev pub Keeps : {A C : Type 0} → (A → Parser C) → Type 0
Keeps {A} {C} f = (x : A) (a : Input) → (y : C) × (f x a ≡ Ok (y, a))

-- laws of a parser of the form
pub record IsLast {A : Type 0} (F : Form A) (s : Reading A) : Type 1 where
  pub form : IsForm F
  pub onward : (C : Type 0) (f : A → Parser C) → ((x : A) → IsOnward (f x)) → IsOnward (s C f)
  pub sound : (C : Type 0) (f : A → Parser C) (i j : Input) (y : C) → s C f i ≡ Ok (y, j) → Got F.spells f i j y
  pub complete : (C : Type 0) (f : A → Parser C) (i m : Input) (x : A) → F.spells x i m → Ends F m → s C f i ≡ f x m
  pub reached : (C : Type 0) (f : A → Parser C) → ((x : A) → IsOnward (f x)) → (i m n : Input) (x : A) (y : C) → F.spells x i m → (m ≡ n) ⊎ Ends F m → Reached m y n (f x m) → Reached i y n (s C f i)
  pub last : (C : Type 0) (f : A → Parser C) → Keeps f → (i : Input) → Placed F.begins i (s C f i)

-- and where something comes next, which the empty piece begins
pub record IsRead {A : Type 0} (F : Form A) (s : Reading A) : Type 1 where
  pub rest : IsLast F s
  pub open rest use *
  pub goes : (C : Type 0) (f : A → Parser C) (next : Beginning) → ((j : Input) → next j j) → First next (Ends F) → ((x : A) (a : Input) → Placed next a (f x a)) → (i : Input) → Placed (F.onto next) i (s C f i)

-- laws of a parser of the whole form
pub record IsLawful {A : Type 0} (F : Form A) (p : Parser A) : Type 1 where
  pub form : IsForm F
  pub placed : (i : Input) → Placed F.begins i (p i)
  pub sound : Sound p F.spells
  pub complete : Complete p F.spells (Ends F)
  pub reaches : Reaches p F.spells
