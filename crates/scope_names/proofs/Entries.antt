-- Tables of names and open scopes, as lists.
use Rattle.std.proofs.Common.{◌≡◌, ℕ, ◌+◌, ◌<◌, Bool, true, false, nat_eq, ◌||◌, if◌then◌else◌, List, [], ◌∷◌, length, take, drop, map, reverse, get_or, Some, ap, ◌∙◌, sym, refl, zero, suc, add-one}
use Rattle.std.specs.Prelude.{cond}
use Rattle.std.proofs.lemmas.List.{take_more, map-append, reverse-append}
use Rattle.std.specs.Map.{lookup}
use Rattle.std.specs.Str.{bytes_eq}
use Rattle.indexmap.specs.IndexMap.{insert_entry}
use Rattle.scope_rules.specs.declared.declaration.Declared.{Declared}
use Rattle.scope_rules.specs.Visible.{Word, Scope, Level, in_names, member_names, earlier, is_further}
use Rattle.scope_rules.specs.Scopes.{declared, put}
use Rattle.scope_names.specs.Common.{first_of, at_shares, shares, shares_level, shares_scope}

-- one more scope, which is the innermost of these
pub reverse_more : {A B : Type 0} (f : A → B) (xs : List A) (i : ℕ) (x : A) → i < length xs → reverse (map f (take (i + 1) xs)) ≡ f (get_or xs i x) ∷ reverse (map f (take i xs))
reverse_more f xs i x within =
    ap (λ ys. reverse (map f ys)) (take_more xs i x within) ∙ ap reverse (map-append f (take i xs) (get_or xs i x ∷ [])) ∙ reverse-append (map f (take i xs)) (f (get_or xs i x) ∷ [])

pub put_entry : {A : Type 0} (at : ℕ) (v : A) (es : List (ℕ × A)) → insert_entry nat_eq es at v ≡ put at v es
put_entry at v [] = refl
put_entry at v (e ∷ es) = ap (λ r. if nat_eq at e.0 then (e.0, v) ∷ es else e ∷ r) (put_entry at v es)

pub shares_empty : (names without : Scope) → shares names [] without ≡ false
shares_empty [] without = refl
shares_empty (e ∷ es) without = shares_empty es without

neither : (b c : Bool) → b ≡ false → c ≡ false → (b || c) ≡ false
neither b c e f = rw e f

unless : (f b : Bool) → b ≡ false → (if f then b else false) ≡ false
unless true b e = e
unless false b e = refl

pub scope_shares_empty : (kept : List (ℕ × Scope)) (without : Scope) (levels : List Level) → shares_scope kept [] without levels ≡ false
scope_shares_empty kept without [] = refl
scope_shares_empty kept without (l ∷ outer) = neither (shares_level kept [] without l) _ (neither (shares l.names [] without) _ (shares_empty l.names without) (shares_empty (member_names kept l.within) without)) (unless (is_further l.form) _ (scope_shares_empty kept without outer))

-- keys that are seen as their bytes
pub lookup_map : {K A : Type 0} (items : K → List ℕ) (w : Word) (es : List (K × A)) → lookup (λ k. bytes_eq w (items k)) es ≡ lookup (bytes_eq w) (map (λ e. (items e.0, e.1)) es)
lookup_map items w [] = refl
lookup_map items w (e ∷ es) = ap (λ r. cond (bytes_eq w (items e.0)) (Some e.1) r) (lookup_map items w es)

insert_map : {K A : Type 0} (items : K → List ℕ) (key : K) (v : A) (es : List (K × A)) → map (λ e. (items e.0, e.1)) (insert_entry (λ a b. bytes_eq (items a) (items b)) es key v) ≡ insert_entry bytes_eq (map (λ e. (items e.0, e.1)) es) (items key) v
insert_map items key v [] = refl
insert_map {K = K} {A = A} items key v (e ∷ es) = by (bytes_eq (items key) (items e.0)) (insert_map items key v es)
  where
    f : K × A → List ℕ × A
    f p = (items p.0, p.1)

    by : (b : Bool) → map (λ p. (items p.0, p.1)) (insert_entry (λ a b. bytes_eq (items a) (items b)) es key v) ≡ insert_entry bytes_eq (map (λ p. (items p.0, p.1)) es) (items key) v → map (λ p. (items p.0, p.1)) (if b then (e.0, v) ∷ es else e ∷ insert_entry (λ a b. bytes_eq (items a) (items b)) es key v) ≡ (if b then (items e.0, v) ∷ map (λ p. (items p.0, p.1)) es else (items e.0, e.1) ∷ insert_entry bytes_eq (map (λ p. (items p.0, p.1)) es) (items key) v)
    by true h = refl
    by false h = ap (λ r. (items e.0, e.1) ∷ r) h

inserted : (w : Word) (d : Declared) (es : Scope) → insert_entry bytes_eq es w (first_of (in_names w es) d) ≡ declared w d es
inserted w d [] = refl
inserted w d (e ∷ es) = by (bytes_eq w e.0) (inserted w d es)
  where
    by : (b : Bool) → insert_entry bytes_eq es w (first_of (in_names w es) d) ≡ declared w d es → (if b then (e.0, first_of (cond b (Some e.1) (in_names w es)) d) ∷ es else e ∷ insert_entry bytes_eq es w (first_of (cond b (Some e.1) (in_names w es)) d)) ≡ (if b then (e.0, earlier e.1 d) ∷ es else e ∷ declared w d es)
    by true h = refl
    by false h = ap (λ r. e ∷ r) h

-- what a table of names has after a declaration
pub declared_written : {K : Type 0} (items : K → List ℕ) (es new : List (K × Declared)) (key : K) (w : Word) (v d : Declared) (scope : Scope) → items key ≡ w → v ≡ first_of (in_names w scope) d → scope ≡ map (λ e. (items e.0, e.1)) es
    → new ≡ insert_entry (λ a b. bytes_eq (items a) (items b)) es key v → map (λ e. (items e.0, e.1)) new ≡ declared w d scope
declared_written items es new key w v d scope k f s n =
    ap (map (λ e. (items e.0, e.1))) n ∙ insert_map items key v es ∙ ap (λ t. insert_entry bytes_eq t (items key) v) (sym s) ∙ ap (λ x. insert_entry bytes_eq scope x v) k ∙ ap (insert_entry bytes_eq scope w) f ∙ inserted w d scope

-- one place of a scope after another
pub shares_hit : (names others without : Scope) (i : ℕ) → at_shares names i others without ≡ true → shares (drop i names) others without ≡ true
shares_hit [] others without i h = absurd cc
shares_hit (e ∷ es) others without zero h = rw h refl
shares_hit (e ∷ es) others without (suc i) h = shares_hit es others without i h

missed : (names others without : Scope) (i : ℕ) → at_shares names i others without ≡ false → shares (drop i names) others without ≡ shares (drop (suc i) names) others without
missed [] others without zero h = refl
missed [] others without (suc i) h = refl
missed (e ∷ es) others without zero h = rw h refl
missed (e ∷ es) others without (suc i) h = missed es others without i h

pub shares_missed : (names others without : Scope) (i : ℕ) → at_shares names i others without ≡ false → shares (drop i names) others without ≡ shares (drop (i + 1) names) others without
shares_missed names others without i h = rw add-one (missed names others without i h)

pub ruleset entries = (put_entry, shares_empty, scope_shares_empty)
