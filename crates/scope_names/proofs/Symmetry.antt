-- Two scopes have a name in common that is not left out, from whichever side one looks.
use Rattle.std.proofs.Common.{◌≡◌, ◌⊎◌, inl, inr, Bool, true, false, ◌||◌, ◌&&◌, [], ◌∷◌, Some, sym, refl, subst}
use Rattle.std.specs.Prelude.{cond, IsSome}
use Rattle.std.specs.Option.{is_some}
use Rattle.std.specs.Str.{bytes_eq}
use Rattle.std.specs.Cmp.Lexicographic.{bytes_decides, nat_list_eq_equiv}
use Rattle.scope_rules.specs.declared.declaration.Declared.{Declared}
use Rattle.scope_rules.specs.Visible.{Word, Scope, in_names}
use Rattle.scope_names.specs.Common.{is_among, shares}

pub either : (a b : Bool) → (a || b) ≡ true → (a ≡ true) ⊎ (b ≡ true)
either true b e = inl refl
either false b e = inr e

pub or_left : (a b : Bool) → a ≡ true → (a || b) ≡ true
or_left a b e = rw e refl

pub or_right : (a b : Bool) → b ≡ true → (a || b) ≡ true
or_right true b e = refl
or_right false b e = e

same_word : (w : Word) → bytes_eq w w ≡ true
same_word w = nat_list_eq_equiv.refl w

-- a name in both, which is not left out
abbrev pub Common : Scope → Scope → Scope → Type 0
Common names others without = (w : Word) × ((is_among w others without ≡ true) × IsSome (in_names w names))

pub shares_common : (names others without : Scope) → shares names others without ≡ true → Common names others without
shares_common [] others without h = absurd cc
shares_common (e ∷ es) others without h = elim (either (is_among e.0 others without) (shares es others without) h) [
  | inl p ↦ (e.0, (p, rw (same_word e.0) refl))
  | inr q ↦ (let w = shares_common es others without q in (w.0, (w.1.0, more w.0 e es w.1.1)))
]
  where
    more : (w : Word) (e : Word × Declared) (es : Scope) → IsSome (in_names w es) → IsSome (in_names w (e ∷ es))
    more w e es h = by (bytes_eq w e.0)
      where
        by : (b : Bool) → IsSome (cond b (Some e.1) (in_names w es))
        by true = refl
        by false = h

pub common_shares : (w : Word) (names others without : Scope) → is_among w others without ≡ true → IsSome (in_names w names) → shares names others without ≡ true
common_shares w [] others without p q = absurd cc
common_shares w (e ∷ es) others without p q = by (bytes_eq w e.0) refl q (λ h. common_shares w es others without p h)
  where
    by : (b : Bool) → bytes_eq w e.0 ≡ b → IsSome (cond b (Some e.1) (in_names w es)) → (IsSome (in_names w es) → shares es others without ≡ true) → (is_among e.0 others without || shares es others without) ≡ true
    by true t h rest = or_left (is_among e.0 others without) (shares es others without) (subst (λ z. is_among z others without ≡ true) ((bytes_decides w e.0).0 t) p)
    by false t h rest = or_right (is_among e.0 others without) (shares es others without) (rest h)

and_left : (a b : Bool) → (a && b) ≡ true → a ≡ true
and_left true b e = refl
and_left false b e = e

exchanged : (a b c : Bool) → (a && c) ≡ true → b ≡ true → (b && c) ≡ true
exchanged true b c e f = rw f e
exchanged false b c e f = absurd cc

turned : (names others without : Scope) → shares names others without ≡ true → shares others names without ≡ true
turned names others without h =
    let w = shares_common names others without h in
    common_shares w.0 others names without (exchanged (is_some (in_names w.0 others)) (is_some (in_names w.0 names)) _ w.1.0 w.1.1) (and_left (is_some (in_names w.0 others)) _ w.1.0)

pub shares_symmetric : (names others without : Scope) → shares names others without ≡ shares others names without
shares_symmetric names others without = by (shares names others without) (shares others names without) (turned names others without) (turned others names without)
  where
    by : (a b : Bool) → (a ≡ true → b ≡ true) → (b ≡ true → a ≡ true) → a ≡ b
    by true b p q = sym (p refl)
    by false true p q = q refl
    by false false p q = refl
