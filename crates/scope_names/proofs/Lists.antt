-- Lists of names, piece by piece.
use Rattle.std.proofs.Common.{◌≡◌, ℕ, Bool, true, false, List, [], ◌∷◌, ◌++◌, Option, Some, None, ap, ◌∙◌, sym, refl, subst, append_assoc, append-nil}
use Rattle.std.specs.Prelude.{◌||◌, cond, if◌then◌else◌}
use Rattle.std.specs.List.{flat_map}
use Rattle.std.specs.Option.{is_some}
use Rattle.std.specs.Str.{bytes_eq}
use Rattle.std.specs.Cmp.Lexicographic.{bytes_decides}
use Rattle.estelle_tree.specs.declared.tree.name.Name.{Name}
use Rattle.scope_rules.specs.declared.declaration.Denotes.TheVariants as d
use Rattle.scope_rules.specs.declared.declaration.Need.TheVariants as need
use Rattle.scope_rules.specs.declared.declaration.Members.TheVariants as members
use Rattle.scope_rules.specs.declared.declaration.Declared.{Declared}
use Rattle.scope_rules.specs.declared.event.Step.{Step}
use Rattle.scope_rules.specs.declared.refusal.Breach.{Breach}
use Rattle.scope_rules.specs.Kinds.{is_role}
use Rattle.scope_rules.specs.Least.{noted}
use Rattle.scope_rules.specs.Visible.{Word, Scope, Scopes, in_names, earlier}
use Rattle.scope_rules.specs.Scopes.{Sought, declared, declaration, sought_name, sought_role, sought_steps}
use Rattle.scope_rules.specs.NameRules.{is_listed, used}
use Rattle.scope_names.specs.Noted.{listed_scope, misused, misuses}

pub misuses-append : (first : Option Breach) (xs ys : List Sought) → misuses first (xs ++ ys) ≡ misuses (misuses first xs) ys
misuses-append first [] ys = refl
misuses-append first (x ∷ xs) ys = misuses-append (noted first (misused x)) xs ys

pub used-append : (xs ys : List Sought) → flat_map used (xs ++ ys) ≡ flat_map used xs ++ flat_map used ys
used-append [] ys = refl
used-append (x ∷ xs) ys = ap (λ us. used x ++ us) (used-append xs ys) ∙ sym (append_assoc (used x) (flat_map used xs) (flat_map used ys))

pub nowhere : (s : Scopes) (steps : List Step) → sought_steps s members.AtFault steps ≡ []
nowhere s [] = refl
nowhere s (x ∷ more) = refl

-- a role that is sought is one
pub no_role_misused : (first : Option Breach) (x : Name) (found : Option Declared) → misuses first (sought_role x found) ≡ first
no_role_misused first x None = refl
no_role_misused first x (Some d) = by (is_role d.denotes) refl
  where
    by : (b : Bool) → is_role d.denotes ≡ b → misuses first (if b then sought_name x need.Role (Some d) ∷ [] else []) ≡ first
    by true e = rw e refl
    by false e = refl

-- a name is found behind another declaration where it is that name, or was found
declared_found : (w v : Word) (d : Declared) (es : Scope) → is_some (in_names w (declared v d es)) ≡ (bytes_eq w v || is_some (in_names w es))
declared_found w v d [] = by (bytes_eq w v)
  where
    by : (b : Bool) → is_some (cond b (Some d) None) ≡ (b || false)
    by true = refl
    by false = refl
declared_found w v d (e ∷ es) = by (bytes_eq v e.0) refl (bytes_eq w e.0) refl (bytes_eq w v) refl (declared_found w v d es)
  where
    by : (p : Bool) → bytes_eq v e.0 ≡ p → (q : Bool) → bytes_eq w e.0 ≡ q → (r : Bool) → bytes_eq w v ≡ r → is_some (in_names w (declared v d es)) ≡ (r || is_some (in_names w es))
        → is_some (in_names w (if p then (e.0, earlier e.1 d) ∷ es else e ∷ declared v d es)) ≡ (r || is_some (cond q (Some e.1) (in_names w es)))
    by true h true k true m rest = rw k refl
    by true h true k false m rest = rw k refl
    by true h false k true m rest = absurd (let same : w ≡ v = (bytes_decides w v).0 m in let f : bytes_eq w e.0 ≡ true = subst (λ z. bytes_eq z e.0 ≡ true) (sym same) h in cc)
    by true h false k false m rest = rw k refl
    by false h true k true m rest = rw k refl
    by false h true k false m rest = rw k refl
    by false h false k r m rest = rw k rest

-- a name is found in the scope of a list where it is listed, or was found
pub listed_found_from : (w : Word) (names : Scope) (xs : List Name) → is_some (in_names w (listed_scope names xs)) ≡ (is_some (in_names w names) || is_listed w xs)
listed_found_from w names [] = or_false (is_some (in_names w names))
  where
    or_false : (b : Bool) → b ≡ (b || false)
    or_false true = refl
    or_false false = refl
listed_found_from w names (x ∷ xs) =
    listed_found_from w (declared x.word (declaration x d.Variable members.Nothing) names) xs ∙ ap (λ b. b || is_listed w xs) (declared_found w x.word (declaration x d.Variable members.Nothing) names) ∙ exchanged (bytes_eq w x.word) (is_some (in_names w names)) (is_listed w xs)
  where
    exchanged : (a b c : Bool) → ((a || b) || c) ≡ (b || (a || c))
    exchanged true true c = refl
    exchanged true false c = refl
    exchanged false b c = refl

pub listed_found : (w : Word) (xs : List Name) → is_some (in_names w (listed_scope [] xs)) ≡ is_listed w xs
listed_found w xs = listed_found_from w [] xs

pub ruleset lists = (append-nil, no_role_misused)
