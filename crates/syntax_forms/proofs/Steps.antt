-- Parsers that never go back, step by step.
use Rattle.std.proofs.Common.{◌≡◌, ◌<◌, ◌≤◌, ℕ, zero, suc, Bool, true, false, List, [], ◌∷◌, Option, Some, None, Ok, Err, sym, refl, ap, ◌∙◌, subst, inl, inr, ◌⊎◌, arith}
use Rattle.std.specs.Prelude.{if◌then◌else◌}
use Rattle.estelle_tree.specs.declared.kind.Kind.{Kind}
use Rattle.estelle_tree.specs.declared.kind.Kind.TheVariants as k
use Rattle.estelle_tree.specs.declared.token.Token.{Token}
use Rattle.estelle_tree.specs.declared.token.Token.TheVariants as token
use Rattle.estelle_tree.specs.declared.token.Placed.{Placed}
use Rattle.estelle_tree.specs.declared.token.Symbol.{Symbol}
use Rattle.estelle_tree.specs.declared.token.Symbol.TheVariants as symbol
use Rattle.estelle_tree.specs.declared.tree.name.Name.{Name}
use Rattle.estelle_tree.specs.Kind.{kind_of, kind_of_symbol}
use Rattle.estelle_tree.specs.Input.{Input, first_kind, first_token, kind, next, left, skip, token_at}
use Rattle.estelle_tree.specs.Spelling.{Spelling}
use Rattle.token_reader.specs.declared.error.ReadError.TheVariants.{Refused, Memory}
use Rattle.token_reader.specs.Reader.{Parser, ReadResult, and_then, pure, refusal, refuse, sees, after, eat, expect, name, name_in, number, number_in, char, char_in}
use Rattle.token_reader.proofs.Complete.{next_left, next_left_more, expect_complete}
use Rattle.syntax_forms.specs.Places.{Reach}
use Rattle.syntax_forms.specs.Onward.{Below, IsOnward}

-- ---- places

reach_from : (n : ℕ) (i a j : Input) → skip n i ≡ a → Reach a j → Reach i j
reach_from zero i a j e r = subst (λ a. Reach a j) (sym e) r
reach_from (suc n) i a j e r = let more = reach_from n (next i) a j e r in (suc more.0, more.1)

pub reach_on : (i a j : Input) → Reach i a → Reach a j → Reach i j
reach_on i a j one more = reach_from one.0 i a j one.1 more

-- ---- what comes after a step

pub below_more : {A : Type 0} (i : Input) (m n : ℕ) (o : ReadResult A) → m ≤ n → Below i m o → Below i n o
below_more i m n (Ok p) le b = let less = b.fits.1 in record { fits = (b.fits.0, omega arith) }
below_more i m n (Err (Refused l)) le b = let less : l < m = b.fits in record { fits = omega arith }
below_more i m n (Err Memory) le b = absurd b.fits

pub below_from : {A : Type 0} (i a : Input) (n : ℕ) (o : ReadResult A) → Reach i a → Below a n o → Below i n o
below_from i a n (Ok p) r b = record { fits = (reach_on i a p.1 r b.fits.0, b.fits.1) }
below_from i a n (Err (Refused l)) r b = record { fits = b.fits }
below_from i a n (Err Memory) r b = absurd b.fits

pub step : {A B : Type 0} (i : Input) (n : ℕ) (o : ReadResult A) (f : A → Parser B) → Below i n o → ((x : A) → IsOnward (f x)) → Below i n (and_then o f)
step i n (Ok p) f b on =
    let less = b.fits.1 in
    below_from i p.1 n (f p.0 p.1) b.fits.0 (below_more p.1 (suc (left p.1)) n (f p.0 p.1) (omega arith) (on p.0 p.1))
step i n (Err (Refused l)) f b on = record { fits = b.fits }
step i n (Err Memory) f b on = absurd b.fits

pub stays : {A : Type 0} (x : A) (i : Input) → Below i (suc (left i)) (pure x i)
stays x i = record { fits = ((zero, refl), omega arith) }

pub refuses : {A : Type 0} (i : Input) → Below {A = A} i (suc (left i)) (refuse i)
unfolding refusal
refuses i = record { fits = omega arith }

-- ---- one token

pub takes : {A : Type 0} (x : A) (i : Input) → Below i (suc (left i)) (pure x (next i))
takes x i = let less = next_left i in record { fits = ((suc zero, refl), omega arith) }

-- where there is one, fewer are left
pub takes_one : {A : Type 0} (x : A) (kind' : Kind) (i : Input) → (k.Nothing ≡ kind' → ⊥) → kind i ≡ kind' → Below i (left i) (pure x (next i))
takes_one x kind' i is_token e = let less = next_left_more i (λ none. is_token (sym none ∙ e)) in record { fits = ((suc zero, refl), omega arith) }

pub expects : (kind' : Kind) → IsOnward (expect kind')
unfolding expect
expects kind' i = go (sees kind' i)
  where
    go : (b : Bool) → Below {A = Unit {0}} i (suc (left i)) (if b then pure tt (next i) else refuse i)
    go true = takes tt i
    go false = refuses i

-- the terminal that comes next
pub expects_one : (kind' : Kind) (i : Input) → (k.Nothing ≡ kind' → ⊥) → kind i ≡ kind' → Below i (left i) (expect kind' i)
expects_one kind' i is_token e = rw (expect_complete kind' i (next i) (record { kind = e; next = refl })) (takes_one tt kind' i is_token e)

pub eats : (kind' : Kind) → IsOnward (eat kind')
unfolding after
eats kind' i = go (sees kind' i)
  where
    go : (b : Bool) → Below i (suc (left i)) (pure b (if b then next i else i))
    go true = takes true i
    go false = stays false i

pub names_one : IsOnward name
unfolding name
names_one i = go (sees k.Name i) (token_at i)
  where
    go : (b : Bool) (t : Option Token) → Below {A = Name} i (suc (left i)) (if b then name_in t i else refuse i)
    go false t = refuses i
    go true (Some (token.Word w)) = takes _ i
    go true None = refuses i
    go true (Some (token.Number n)) = refuses i
    go true (Some (token.Char c)) = refuses i
    go true (Some (token.Symbol s)) = refuses i

-- only a word is a name
symbol_named : (s : Symbol) → kind_of_symbol s ≡ k.Name → ⊥
symbol_named symbol.Plus e = cc
symbol_named _ e = cc

token_named : (t : Token) → kind_of t ≡ k.Name → (w : List ℕ) × (t ≡ token.Word w)
token_named (token.Word w) e = (w, refl)
token_named (token.Number n) e = absurd (cc)
token_named (token.Char c) e = absurd (cc)
token_named (token.Symbol s) e = absurd (symbol_named s e)

pub named_token : (i : Input) → kind i ≡ k.Name → (w : List ℕ) × (token_at i ≡ Some (token.Word w))
unfolding kind token_at
named_token i e = go i.tokens e
  where
    go : (ps : List Placed) → first_kind ps ≡ k.Name → (w : List ℕ) × (first_token ps ≡ Some (token.Word w))
    go [] e = absurd (cc)
    go (p ∷ ps) e = let word = token_named p.token e in (word.0, ap Some word.1)

pub numbers_one : IsOnward number
unfolding number
numbers_one i = go (token_at i)
  where
    go : (t : Option Token) → Below i (suc (left i)) (number_in t i)
    go None = refuses i
    go (Some (token.Number n)) = takes _ i
    go (Some (token.Word w)) = refuses i
    go (Some (token.Char c)) = refuses i
    go (Some (token.Symbol s)) = refuses i

pub chars_one : IsOnward char
unfolding char
chars_one i = go (token_at i)
  where
    go : (t : Option Token) → Below i (suc (left i)) (char_in t i)
    go None = refuses i
    go (Some (token.Char c)) = takes _ i
    go (Some (token.Word w)) = refuses i
    go (Some (token.Number n)) = refuses i
    go (Some (token.Symbol s)) = refuses i

-- ---- what is read of a piece

-- from the place on it reads this thing and comes to this place, or it goes on behind that
abbrev pub Reached : {A : Type 0} → Input → A → Input → ReadResult A → Type 0
Reached i x m o = (o ≡ Ok (x, m)) ⊎ Below i (left m) o

abbrev pub Reaches : {A : Type 0} → Parser A → Spelling A → Type 0
Reaches {A} p P = (i m : Input) (x : A) → P x i m → Reached i x m (p i)

-- where it reads, the place is this one or behind it
pub reads_on : {A : Type 0} (p : Parser A) (i m : Input) (x : A) → IsOnward p → p i ≡ Ok (x, m) → Reach i m
reads_on p i m x on e = let b : Below i (suc (left i)) (Ok (x, m)) = subst (λ o. Below i (suc (left i)) o) e (on i) in b.fits.0

pub reached_from : {A : Type 0} (i a m : Input) (x : A) (o : ReadResult A) → Reach i a → Reached a x m o → Reached i x m o
reached_from i a m x o r (inl e) = inl e
reached_from i a m x o r (inr b) = inr (below_from i a (left m) o r b)

-- the first part is read, and what comes next is reached
pub exact : {A B : Type 0} (p : Parser A) (f : A → Parser B) (i a m : Input) (x : A) (y : B) → IsOnward p → p i ≡ Ok (x, a) → Reached a y m (f x a) → Reached i y m (and_then (p i) f)
exact p f i a m x y on e more = subst (λ o. Reached i y m (and_then o f)) (sym e) (reached_from i a m y (f x a) (reads_on p i a x on e) more)

-- the first part is read, and what comes next goes on behind this
pub exact_below : {A B : Type 0} (p : Parser A) (f : A → Parser B) (i a : Input) (n : ℕ) (x : A) → IsOnward p → p i ≡ Ok (x, a) → Below a n (f x a) → Below i n (and_then (p i) f)
exact_below p f i a n x on e more = subst (λ o. Below i n (and_then o f)) (sym e) (below_from i a n (f x a) (reads_on p i a x on e) more)

-- the first part is the last one that takes tokens
pub last : {A B : Type 0} (p : Parser A) (f : A → Parser B) (i m : Input) (x : A) (y : B) → IsOnward p → ((x : A) → IsOnward (f x)) → Reached i x m (p i) → Reached m y m (f x m) → Reached i y m (and_then (p i) f)
last p f i m x y on more (inl e) rest = exact p f i m m x y on e rest
last p f i m x y on more (inr b) rest = inr (step i (left m) (p i) f b more)

-- the first part is read, or it is the last one that takes tokens
pub either : {A B : Type 0} (p : Parser A) (f : A → Parser B) (i a m : Input) (x : A) (y : B) → IsOnward p → ((x : A) → IsOnward (f x)) → Reached i x a (p i) → (a ≡ m) ⊎ (p i ≡ Ok (x, a)) → Reached a y m (f x a) → Reached i y m (and_then (p i) f)
either p f i a m x y on more reached (inr e) rest = exact p f i a m x y on e rest
either p f i a m x y on more reached (inl e) rest =
    last p f i m x y on more (subst (λ a. Reached i x a (p i)) e reached) (subst (λ a. Reached a y m (f x a)) e rest)
